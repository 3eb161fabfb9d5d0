-- What the keeper has still to do, from a place on.
use Rattle.std.proofs.Common.{◌≡◌, ◌≢◌, inl, inr, ◌+◌, ℕ, List, [], ◌∷◌, Option, Some, None, map, drop, slice_get, refl, sym, ap, ◌∙◌, subst, eq-eqb, ne_eqb}
use Rattle.std.proofs.lemmas.List.{drop_more, drop_all}
use Rattle.std.proofs.lemmas.Option.{slice_get_cases, slice_get_within, get_or_from_slice_get}
use Rattle.task_steps.specs.declared.keeper.Duty.{Duty}
use Rattle.run_machine.specs.declared.event.Breach.{Breach}
use Rattle.task_steps.specs.declared.step.Step.{Step}
use Rattle.task_steps.specs.declared.step.Step.TheVariants.{Waiting}
use Rattle.run_machine.specs.Scene.{Setup}
use Rattle.run_machine.specs.Requests.{LookLeft, LeftOver}
use Rattle.run_machine.specs.Tasks.{Duty as DutyState, Keeping, Keeps, Keeper, later_of}
use Rattle.task_steps.specs.Service.{Service, Owing}
use Rattle.task_steps.specs.Turns.{Asks, Turns, Saw, Waited}
use Rattle.task_steps.specs.KeeperViews.{duty_of, keeping_of}

-- the duty at a place comes before those behind it
pub duty_there : (duties : List Duty) (next : ℕ) (duty : Duty) → slice_get duties next ≡ Some duty
    → map duty_of (drop next duties) ≡ duty_of duty ∷ map duty_of (drop (next + 1) duties)
duty_there duties next duty at =
    ap (map duty_of) (drop_more duties next duty (slice_get_within duties next duty at))
    ∙ ap (λ d. duty_of d ∷ map duty_of (drop (next + 1) duties)) (get_or_from_slice_get duties next duty duty at)

-- and behind the last there is none
pub duties_over : (duties : List Duty) (next : ℕ) → slice_get duties next ≡ None → map duty_of (drop next duties) ≡ []
duties_over duties next none =
    elim (slice_get_cases duties next).1 [
      | inl there ↦ absurd (some_is_not_none (sym there.2 ∙ none))
      | inr past ↦ ap (map duty_of) (drop_all next duties past.0)
    ]
  where
    some_is_not_none : {duty : Duty} → Some duty ≢ None
    some_is_not_none e = cc

-- so a keeper that has not broken off has this duty next
pub has_next : (items read : List Duty) (next : ℕ) (broken : Option Breach) (now : Keeping) (duty : Duty)
    → keeping_of broken (map duty_of (drop next items)) ≡ now → broken ≡ None → read ≡ items
    → map duty_of (drop next read) ≡ duty_of duty ∷ map duty_of (drop (next + 1) read)
    → now ≡ Keeps (duty_of duty ∷ map duty_of (drop (next + 1) items))
has_next items read next broken now duty view whole same next_is =
    sym view ∙ ap (λ b. keeping_of b (map duty_of (drop next items))) whole
    ∙ ap Keeps (subst (λ xs. map duty_of (drop next xs) ≡ duty_of duty ∷ map duty_of (drop (next + 1) xs)) same next_is)

module _ {S : Type 0} (serves : Service S) (owes : Owing) (setup : Setup) (now : Keeping)
    (duty : Duty) (rest : List DutyState) (is : now ≡ Keeps (duty_of duty ∷ rest)) (old between : S) (left : ℕ)
    (looked : serves old LookLeft (LeftOver left) between) where
  -- and may do it where none is unfinished but the writes of the rounds behind
  pub attends : (broken : Option Breach) (new : S) (step : Step) → left ≡ later_of (duty_of duty)
      → Asks serves owes setup (Keeper (Keeps (duty_of duty ∷ rest))) between (Keeper (keeping_of broken rest)) new step
      → Turns serves owes setup (Keeper now) old (Keeper (keeping_of broken rest)) new step
  attends broken new step same asks =
      subst (λ keeping. Turns serves owes setup (Keeper keeping) old (Keeper (keeping_of broken rest)) new step) (sym is)
      (Saw LookLeft (LeftOver left) between refl looked (eq-eqb left (later_of (duty_of duty)) same) asks)

  pub keeper_waits : left ≢ later_of (duty_of duty) → Turns serves owes setup (Keeper now) old (Keeper now) between Waiting
  keeper_waits other =
      subst (λ keeping. Turns serves owes setup (Keeper keeping) old (Keeper keeping) between Waiting) (sym is)
      (Waited LookLeft (LeftOver left) refl looked (ne_eqb left (later_of (duty_of duty)) other) refl refl)
