-- The refusal of lines, one after the other.
use Rattle.std.proofs.Common.{◌≡◌, Bool, true, false, List, [], ◌∷◌, Option, None, Some, Result, Ok, Err, refl, ap, ◌∙◌, sym, subst}
use Rattle.std.proofs.Math.Logic.{∥∥₁_elim}
use Rattle.std.specs.Option.{option_map, option_or}
use Rattle.decl_text.specs.Known.{Declarations, after, nothing_declared}
use Rattle.decl_text.specs.Refusals.{Check, first_found, refused}
use Rattle.decl_text.specs.Reading.{AreOfLines, refusal_of_items}
use Rattle.decl_text.specs.declared.decl.Numbered.{Numbered}
use Rattle.decl_text.specs.declared.item.Item.{Item}
use Rattle.decl_text.specs.declared.reason.Refusal.{Refusal}
use Rattle.decl_text.specs.declared.reason.ReadFault.{ReadFault}
use Rattle.decl_text.specs.declared.reason.ReadFault.TheVariants.{Refused, Memory}
use Rattle.decl_text.specs.declared.accepted.Accepted.{Accepted}
use Rattle.decl_text.specs.Accepting.{MeansStack, checks_for}
use Rattle.decl_text.specs.Read.{Read}
use Rattle.fail_script.specs.Script.{Answers}
use Rattle.stack_base.specs.declared.ids.PoolId.{PoolId}
use Rattle.stack_base.specs.declared.stack.Stack.{Stack}
use Rattle.stack_check.specs.Accept.{AcceptsBy, HasRescuersAsked}
use Rattle.stack_check.specs.Adding.{AddsLine}
use Rattle.stack_check.specs.Drafting.{Closes, Drafts, IsDeclaredBy}
use Rattle.stack_check.proofs.Lines.{declared_by}
use Rattle.stack_check.proofs.Rescuers.{HasRescuers-prop, stack_helped}
use Rattle.stack_check.proofs.LooseLemmas.{map_or_none}

module _ (checks : List (Check Item)) where
  -- a line that is not refused leaves the rest
  pub refusal_later :
      (known new : Declarations) (next : Numbered) (items : List Numbered) (fault : Option Refusal) → first_found checks known next.item ≡ None → new ≡ after known next.item
      → refusal_of_items checks new items fault ≡ refusal_of_items checks known (next ∷ items) fault
  unfolding refusal_of_items
  refusal_later known new next items fault right is =
      ap (λ k. refusal_of_items checks k items fault) is
      ∙ sym (ap (λ o. option_or (option_map (refused next.line) o) (refusal_of_items checks (after known next.item) items fault)) right)

  -- and one that is refused is the first
  pub refusal_now :
      (known : Declarations) (next : Numbered) (items : List Numbered) (fault : Option Refusal) (refusal : Refusal) → option_map (refused next.line) (first_found checks known next.item) ≡ Some refusal
      → refusal_of_items checks known (next ∷ items) fault ≡ Some refusal
  unfolding refusal_of_items
  refusal_now known next items fault refusal wrong =
      ap (λ o. option_or o (refusal_of_items checks (after known next.item) items fault)) wrong

  pub refusal_end : (known : Declarations) (fault : Option Refusal) → refusal_of_items checks known [] fault ≡ fault
  unfolding refusal_of_items
  refusal_end known fault = refl

  -- where no line is refused, the fault behind them is left
  pub fault_left : (known : Declarations) (items : List Numbered) (fault : Option Refusal) → refusal_of_items checks known items None ≡ None → refusal_of_items checks known items fault ≡ fault
  unfolding refusal_of_items
  fault_left known [] fault none = refl
  fault_left known (next ∷ items) fault none =
      let parts = map_or_none next.line (first_found checks known next.item) (refusal_of_items checks (after known next.item) items None) none in
      ap (λ o. option_or (option_map (refused next.line) o) (refusal_of_items checks (after known next.item) items fault)) parts.0
      ∙ fault_left (after known next.item) items fault parts.1

-- what a line that is not added makes of all
pub drafts_fault :
    (loose : Bool) (known new : Declarations) (next : Numbered) (items all : List Numbered) (wrong : ReadFault) → AddsLine loose known next new (Err wrong)
    → ((fault : Option Refusal) → refusal_of_items (checks_for loose) known (next ∷ items) fault ≡ refusal_of_items (checks_for loose) nothing_declared all fault)
    → Drafts loose all (Err wrong)
drafts_fault loose known new next items all (Refused refusal) wrong same = λ fault. sym (same fault) ∙ refusal_now (checks_for loose) known next items fault refusal wrong
drafts_fault loose known new next items all Memory wrong same = tt

-- where rescuers are asked for, each mirror of two members or more has one
helped : (loose : Bool) (known : Declarations) (stack : Stack) (scripts : List (PoolId × Answers)) → ∥ IsDeclaredBy loose known ∥₁ → MeansStack known stack scripts
    → HasRescuersAsked loose stack
helped true known stack scripts by means = tt
helped false known stack scripts by means = ∥∥₁_elim by (HasRescuers-prop stack) (λ b.
    stack_helped b.0 stack scripts b.2 (subst (λ (k : Declarations). MeansStack k stack scripts) (sym b.3) means))

-- what closes the draft of all lines is what becomes of the text
pub accepts_closed :
    (loose : Bool) (decl : Read) (known : Declarations) (result : Result Accepted ReadFault) → ∥ AreOfLines decl.items decl.fault ∥₁
    → Drafts loose decl.items (Ok known) → Closes known decl.fault decl.rest decl.line result → AcceptsBy loose decl result
accepts_closed loose decl known (Ok accepted) lines drafted closed = (
  fault_left (checks_for loose) nothing_declared decl.items decl.fault drafted.0 ∙ closed.0,
  subst (λ (k : Declarations). MeansStack k accepted.stack accepted.scripts.items) (sym drafted.1) closed.1,
  helped loose known accepted.stack accepted.scripts.items (declared_by loose decl.items decl.fault known lines drafted closed.0) closed.1,
  closed.2,
  closed.3,
)
accepts_closed loose decl known (Err (Refused refusal)) lines drafted closed = fault_left (checks_for loose) nothing_declared decl.items decl.fault drafted.0 ∙ closed
accepts_closed loose decl known (Err Memory) lines drafted closed = tt
