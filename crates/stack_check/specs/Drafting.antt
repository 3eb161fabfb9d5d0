-- What the items of a text make of a draft.
use Rattle.std.specs.Prelude.{◌≡◌, ℕ, Bool, List, Option, None, Some, Result, Ok, Err}
use Rattle.decl_text.specs.Known.{Declarations, nothing_declared}
use Rattle.decl_text.specs.Refusals.{known_after, refusal}
use Rattle.decl_text.specs.Reading.{NonePass, is_work_line, known_of_items, refusal_of_items}
use Rattle.decl_text.specs.declared.accepted.Accepted.{Accepted}
use Rattle.decl_text.specs.declared.decl.Numbered.{Numbered}
use Rattle.decl_text.specs.declared.reason.Refusal.{Refusal}
use Rattle.decl_text.specs.declared.reason.ReadFault.{ReadFault}
use Rattle.decl_text.specs.declared.reason.ReadFault.TheVariants.{Refused, Memory}
use Rattle.decl_text.specs.Accepting.{MeansStack, checks_for}

-- none is refused and this is known, or this is the first refusal, whatever the fault of the line behind them
abbrev pub Drafts : Bool → List Numbered → Result Declarations ReadFault → Type 0
Drafts loose items (Ok known) = (refusal_of_items (checks_for loose) nothing_declared items None ≡ None) × (known_of_items nothing_declared items ≡ known)
Drafts loose items (Err (Refused refusal)) = (fault : Option Refusal) → refusal_of_items (checks_for loose) nothing_declared items fault ≡ Some refusal
Drafts loose items (Err Memory) = Unit {0}

-- some lines before all writes, of which none is refused, declare this
abbrev pub IsDeclaredBy : Bool → Declarations → Type 0
IsDeclaredBy loose known =
    (all : List (List ℕ)) × NonePass is_work_line all × (refusal (checks_for loose) nothing_declared 1 all ≡ None) × (known_after nothing_declared all ≡ known)

-- what is known means this, or the line behind it has a fault
abbrev pub Closes : Declarations → Option Refusal → ℕ → ℕ → Result Accepted ReadFault → Type 0
Closes known fault rest line (Ok accepted) =
    (fault ≡ None) × MeansStack known accepted.stack accepted.scripts.items × (accepted.rest ≡ rest) × (accepted.line ≡ line)
Closes known fault rest line (Err (Refused refusal)) = fault ≡ Some refusal
Closes known fault rest line (Err Memory) = Unit {0}
