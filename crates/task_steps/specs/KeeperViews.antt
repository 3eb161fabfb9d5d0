-- The keeper, as its definitions have it.
use Rattle.std.specs.Prelude.{◌≡◌, ◌+◌, ℕ, List, [], ◌∷◌, Option, None, Some, MatchOption, map, drop}
use Rattle.run_machine.specs.declared.event.Breach.{Breach}
use Rattle.task_steps.specs.declared.keeper.Duty as real
use Rattle.task_steps.specs.declared.keeper.Duty.TheVariants as duty
use Rattle.run_machine.specs.Tasks.{Duty, Resizes, Starts, Keeping, Keeps, Stops}

abbrev pub duty_of : real.Duty → Duty
duty_of (duty.Resizes pool min later) = Resizes pool min later
duty_of (duty.Starts round later) = Starts round later

-- the duties from a place on
abbrev pub duties_from : ℕ → List real.Duty → List Duty
duties_from next duties = map duty_of (drop next duties)

-- the duty at a place, if there is one: it comes before those behind it
abbrev pub IsDutyAt : List real.Duty → ℕ → Option real.Duty → Type 0
IsDutyAt duties next found =
    MatchOption found (duties_from next duties ≡ []) (λ (duty : real.Duty). duties_from next duties ≡ duty_of duty ∷ duties_from (next + 1) duties)

-- a keeper with these duties, which may have broken off
abbrev pub keeping_of : Option Breach → List Duty → Keeping
keeping_of None duties = Keeps duties
keeping_of (Some breach) duties = Stops breach
