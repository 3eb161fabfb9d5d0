-- The lines behind the items that were read.
use Rattle.std.proofs.Common.{◌≡◌, ◌∙◌, Bool, true, false, List, Option, None, Ok, ap, sym}
use Rattle.std.proofs.Math.Logic.{∥∥₁_elim, ∥∥₁_prop}
use Rattle.std.proofs.lemmas.Grind.{merely}
use Rattle.decl_text.specs.Known.{Declarations, nothing_declared}
use Rattle.decl_text.specs.Reading.{AreOfLines, Formed, formed, known_of_items, refusal_of_items}
use Rattle.decl_text.specs.declared.decl.Numbered.{Numbered}
use Rattle.decl_text.specs.declared.reason.Refusal.{Refusal}
use Rattle.decl_text.proofs.Fronts.{front_known, front_refused, nothing_front}
use Rattle.decl_text.specs.Accepting.{checks_for}
use Rattle.stack_check.specs.Drafting.{Drafts, IsDeclaredBy}
use Rattle.stack_check.proofs.LooseLemmas.{passes_loose}

-- where none of them is refused, they declare what the items do
lines_declare : (loose : Bool) (items : List Numbered) (fault : Option Refusal) (known : Declarations) → AreOfLines items fault → Drafts loose items (Ok known) → fault ≡ None → IsDeclaredBy loose known
lines_declare loose items fault known lines drafts none =
    let all = lines.0 in
    let right : (formed 1 all).fault ≡ None = ap (λ (f : Formed). f.fault) (sym lines.2) ∙ none in (
      all,
      lines.1,
      front_refused (checks_for loose) nothing_declared 1 all nothing_front lines.1
          ∙ ap (λ (f : Formed). refusal_of_items (checks_for loose) nothing_declared f.items f.fault) (sym lines.2)
          ∙ ap (refusal_of_items (checks_for loose) nothing_declared items) none
          ∙ drafts.0,
      front_known nothing_declared 1 all right ∙ ap (λ (f : Formed). known_of_items nothing_declared f.items) (sym lines.2) ∙ drafts.1,
    )

pub declared_by : (loose : Bool) (items : List Numbered) (fault : Option Refusal) (known : Declarations) → ∥ AreOfLines items fault ∥₁ → Drafts loose items (Ok known) → fault ≡ None → ∥ IsDeclaredBy loose known ∥₁
declared_by loose items fault known lines drafts none = ∥∥₁_elim lines ∥∥₁_prop (λ l. merely (lines_declare loose items fault known l drafts none))

-- what all checks pass, the loose ones pass too
loosely : (loose : Bool) (known : Declarations) → IsDeclaredBy loose known → IsDeclaredBy true known
loosely true known by = by
loosely false known by = (by.0, by.1, passes_loose by.0 by.2, by.3)

pub declared_loosely : (loose : Bool) (known : Declarations) → ∥ IsDeclaredBy loose known ∥₁ → ∥ IsDeclaredBy true known ∥₁
declared_loosely loose known by = ∥∥₁_elim by ∥∥₁_prop (λ b. merely (loosely loose known b))
