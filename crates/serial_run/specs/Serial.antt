-- A run by one thread, from what was opened to what it leaves.
use Rattle.std.specs.Prelude.{◌≡◌, ℕ, List, [], ◌∷◌, All, length}
use Rattle.rand_pcg.specs.Lcg.{Lcg}
use Rattle.task_core.specs.declared.ended.Ended.{Ended}
use Rattle.run_machine.specs.declared.event.Event.{Event}
use Rattle.task_core.specs.declared.opening.Opened.{Opened}
use Rattle.task_core.specs.Leaving.{IsLeft}
use Rattle.run_machine.specs.Named.{IsEventOf, FitsEvent}
use Rattle.task_core.specs.opened.OfOne.{scenario_in}
use Rattle.run_machine.specs.Opened.{device_at, scene, start}
use Rattle.task_core.specs.Plains.{stage_of}
use Rattle.run_machine.specs.Runs.{State, HasEnded}
use Rattle.serial_run.specs.Schedule.{FollowsSchedule}

-- these events were handed on, one after the other, to what they are handed to
abbrev pub HandsOn : {V : Type 0} → (V → Event → V → Type 0) → V → List Event → V → Type 0
HandsOn happens before [] now = now ≡ before
HandsOn {V = V} happens before (event ∷ events) now = (between : V) × happens before event between × HandsOn happens between events now

-- The events of a run from what was opened, in the order of a stream of words, were handed on, and each of them names what the stack has, by
-- numbers that fit its fields. The run has ended, each disk has its own number still, and this is what it leaves.
pub record IsSerialRun {V : Type 0} (happens : V → Event → V → Type 0) (opened : Opened) (stream : Lcg) (before : V) (after : Lcg) (now : V) (ended : Ended)
    : Type 0 where
  pub events : List Event
  pub state : State
  pub follows : FollowsSchedule (scene (scenario_in opened) (stage_of opened.objects).ledger) (start (scenario_in opened)) stream events state after
  pub handed : HandsOn happens before events now
  pub named : All (IsEventOf (scenario_in opened).stack) events
  pub fits : All FitsEvent events
  pub ends : HasEnded state
  pub disks : (number : ℕ) → (state.objects.disk number).dev ≡ device_at number
  pub left : IsLeft (scenario_in opened).stack state.objects (length events) ended
