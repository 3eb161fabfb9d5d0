-- What holds of shared objects stays as a task is handed out or taken back.
use Rattle.std.proofs.Common.{◌≡◌, ◌≢◌, ◌==◌, ◌+◌, ◌<◌, ◌≤◌, ℕ, Bool, true, false, [], length, slice_index_or, slice_set, Option, None, Some, arith, refl, sym, ◌∙◌, ap, subst}
use Rattle.std.specs.Prelude.{IfSome}
use Rattle.std.proofs.lemmas.List.{get_or-set_same, get_or-set_other, length-set}
use Rattle.std.proofs.lemmas.Bool.{eqb-true, eqb-false}
use Rattle.task_core.specs.opened.OfOne.{scenario_in}
use Rattle.task_steps.specs.TaskViews.{TaskOf}
use Rattle.shared_objects.specs.Rans.{RanState, most_tasks}
use Rattle.shared_objects.specs.Shared.{HandsOut, HasRoomFor, IsOwnIfHere, IsUntaken, SameShared, SharedHolds, ran_key_at}
use Rattle.shared_objects.specs.Taking.{TakenHold}
use Rattle.shared_objects.specs.declared.shared.Shared.{Shared}

-- The slot of a task that was handed out was set, and nothing else but which is the next one.
module _ (old : Shared) (holds : SharedHolds old) (new : Shared) (same : record old { tasks = new.tasks; next = new.next } ≡ new)
    (place : ℕ) (slot : Option RanState) (set : new.tasks.items ≡ slice_set old.tasks.items place slot)
    (before : place < new.next) (more : old.next ≤ new.next) (within : new.next ≤ length old.tasks.items)
    (owns : (first : TaskOf) → IsOwnIfHere (ran_key_at old.locks place (slice_index_or old.told.value.tasks.items place first)) slot) where
  many : length new.tasks.items ≡ length old.tasks.items
  many = ap length set ∙ length-set old.tasks.items place slot

  here : (other : Option RanState) → slice_index_or new.tasks.items place other ≡ slot
  here other = ap (λ slots. slice_index_or slots place other) set ∙ get_or-set_same old.tasks.items place slot other (omega (arith, before, within))

  elsewhere : (at : ℕ) (other : Option RanState) → at ≢ place → slice_index_or new.tasks.items at other ≡ slice_index_or old.tasks.items at other
  elsewhere at other apart = ap (λ slots. slice_index_or slots at other) set ∙ get_or-set_other old.tasks.items place at slot other apart

  own_each : (at : ℕ) (first : TaskOf) (other : Option RanState) (b : Bool) → (at == place) ≡ b → at < length new.tasks.items
      → IsOwnIfHere (ran_key_at old.locks at (slice_index_or old.told.value.tasks.items at first)) (slice_index_or new.tasks.items at other)
  own_each at first other true e lt =
      subst (λ k. IsOwnIfHere (ran_key_at old.locks k (slice_index_or old.told.value.tasks.items k first)) (slice_index_or new.tasks.items k other)) (sym (eqb-true at place e))
      (subst (IsOwnIfHere (ran_key_at old.locks place (slice_index_or old.told.value.tasks.items place first))) (sym (here other)) (owns first))
  own_each at first other false e lt =
      subst (IsOwnIfHere (ran_key_at old.locks at (slice_index_or old.told.value.tasks.items at first))) (sym (elsewhere at other (eqb-false at place e)))
      (holds.own at first other (subst (λ n. at < n) many lt))

  untaken_each : (at : ℕ) (other : Option RanState) → new.next ≤ at → at < length new.tasks.items → IsUntaken (slice_index_or new.tasks.items at other)
  untaken_each at other le lt =
      subst IsUntaken (sym (elsewhere at other (λ e. absurd (omega (arith, e, le, before)))))
      (holds.untaken at other (omega (arith, le, more)) (subst (λ n. at < n) many lt))

  pub slot_holds : SharedHolds new
  slot_holds = subst SharedHolds same (record {
    opened = holds.opened;
    locks = holds.locks;
    round = holds.round;
    firsts = holds.firsts;
    taken = subst (λ n. TakenHold n old.locks [] old.firsts) (sym many) holds.taken;
    all = many ∙ holds.all;
    few = subst (λ n. n ≤ most_tasks) (sym many) holds.few;
    own = λ at first other lt. own_each at first other (at == place) refl lt;
    next = subst (λ n. new.next ≤ n) (sym many) within;
    untaken = untaken_each;
    room = subst (λ n. HasRoomFor old.locks n (scenario_in old.told.value) old.room) (sym many) holds.room;
  })

-- what stood in the next slot is the next task
pub hands_out : (old : Shared) → SharedHolds old → (new : Shared) (found : Option RanState) → old.next < length old.tasks.items
    → slice_index_or old.tasks.items old.next found ≡ found → new.next ≡ old.next + 1 → new.tasks.items ≡ slice_set old.tasks.items old.next None → SameShared old new
    → IfSome found (λ ran. HandsOut old ran new)
hands_out old holds new None lt is next set same = tt
hands_out old holds new (Some ran) lt is next set same = record {
  some = lt;
  key = λ first. subst (IsOwnIfHere (ran_key_at old.locks old.next (slice_index_or old.told.value.tasks.items old.next first))) is (holds.own old.next first (Some ran) lt);
  is_new = subst IsUntaken is (holds.untaken old.next (Some ran) (omega arith) lt);
  next = next;
  tasks = set;
  same = same;
}
