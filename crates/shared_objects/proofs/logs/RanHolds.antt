-- What holds of a task with its seats, as it is opened and behind each of its steps.
use Rattle.std.proofs.Common.{◌≡◌, ◌+◌, ℕ, Bool, true, false, Option, None, Some, arith, inl, inr, refl, sym, ap, ◌∙◌, subst}
use Rattle.std.specs.Option.{is_some}
use Rattle.tick_clock.specs.Tickets.{PassState}
use Rattle.run_machine.specs.Requests.{Request, Reply, Rest, Complete}
use Rattle.task_steps.specs.declared.step.Step.{Step}
use Rattle.task_steps.specs.Homes.{IsTaskOf}
use Rattle.task_steps.specs.Routed.{Routing, routing_setup}
use Rattle.task_steps.specs.Stage.{Owes}
use Rattle.task_steps.specs.TaskViews.{TaskOf}
use Rattle.task_steps.specs.Turns.{Turns}
use Rattle.task_steps.proofs.Turned.{turns_home}
use Rattle.object_things.specs.Stamps.{PassBy}
use Rattle.shared_objects.specs.Calls.{struck}
use Rattle.shared_objects.specs.Desks.{DeskState, DeskServes, HasCalled, PassGoesOn}
use Rattle.shared_objects.specs.Holding.{DeskHolds, desk_of, stage_at}
use Rattle.shared_objects.specs.Logs.{seen_by}
use Rattle.shared_objects.specs.Noting.{IsBlank, NotesStep}
use Rattle.shared_objects.specs.Rans.{IsNewDesk, IsOtherPass, ProgressState, RanHolds, RanKey, RanState, StepsKeepTasks, events_after, ran_key, ran_of, stopped_after, unstepped, TurnsWith, ran_from}
use Rattle.shared_objects.specs.declared.locks.Locks.{Locks}
use Rattle.shared_objects.specs.declared.noted.Noted.{Noted}
use Rattle.shared_objects.specs.declared.seats.TaskSeats.{TaskSeats}
use Rattle.shared_objects.proofs.logs.StepKeeps.{new_desks_are_ran, steps_keep_ran}
use Rattle.shared_objects.proofs.steps.TurnsSeen.{turns_keep}

pub new_holds : (task : TaskOf) (seats : TaskSeats) (locks : Locks) (first : TaskOf) (home : Locks) (noted : Option Noted) → first ≡ task → home ≡ locks
    → DeskHolds locks seats → task.routing ≡ (stage_at locks).routing → IsTaskOf (stage_at locks) task.state → IsOtherPass seats.pass → IsNewDesk (desk_of seats) → IsBlank noted
    → is_some noted ≡ locks.trace
    → RanHolds (unstepped task seats first home noted)
new_holds task seats locks first home noted first_is home_is desk routing of pass unused blank listed =
    let here : RanHolds (unstepped task seats task locks noted) = record {
      desk = desk;
      routing = routing;
      task = of;
      pass = pass;
      listed = listed;
      ran = new_desks_are_ran task (desk_of seats) noted unused blank;
    } in
    subst (λ h. RanHolds (unstepped task seats first h noted)) (sym home_is) (subst (λ f. RanHolds (unstepped task seats f locks noted)) (sym first_is) here)

-- a step takes no list away, and brings none
stays_listed : (step : Step) (seen : ℕ) (old new : Option Noted) → NotesStep step seen old new → is_some new ≡ is_some old
stays_listed step seen None new goes = ap is_some goes
stays_listed step seen (Some old) None goes = ap is_some goes
stays_listed step seen (Some old) (Some new) goes = refl

-- What a call of a desk keeps: whose the seats are, and that the pass is one that was split off.
record KeepsSeats (old new : DeskState) : Type 0 where
  number : new.number ≡ old.number
  pass : IsOtherPass old.pass → IsOtherPass new.pass

keeps_none : (old : DeskState) → KeepsSeats old old
keeps_none old = record { number = refl; pass = λ is. is }

keeps_both : (old middle new : DeskState) → KeepsSeats old middle → KeepsSeats middle new → KeepsSeats old new
keeps_both old middle new one two = record { number = two.number ∙ one.number; pass = λ is. two.pass (one.pass is) }

stays_other : (pass : PassState) (note : ℕ) (spent drew : Bool) (ticket : Option ℕ) (after : PassState) → PassBy pass note spent drew ticket after
    → IsOtherPass (Some pass) → IsOtherPass (Some after)
stays_other pass note spent drew (Some n) after by is = subst (λ p. IsOtherPass (Some p)) (sym by.2) is
stays_other pass note true drew None after by is = subst (λ p. IsOtherPass (Some p)) (sym by.0) is
stays_other pass note false drew None after by is = subst (λ p. IsOtherPass (Some p)) (sym by) is

goes_other : (pass : Option PassState) (note : ℕ) (spent drew : Bool) (ticket : Option ℕ) (after : Option PassState) → PassGoesOn pass note spent drew ticket after
    → IsOtherPass pass → IsOtherPass after
goes_other None note spent drew ticket after by is = absurd is
goes_other (Some pass) note spent drew ticket None by is = absurd by
goes_other (Some pass) note spent drew ticket (Some after) by is = stays_other pass note spent drew ticket after by is

call_keeps : (old : DeskState) (asked : Request) (reply : Reply) (new : DeskState) → HasCalled old asked reply new → KeepsSeats old new
call_keeps old asked reply new called = record {
  number = called.number;
  pass = goes_other old.pass called.told.note _ called.told.drew called.told.drawn new.pass called.pass;
}

serves_keep : (old : DeskState) (asked : Request) (reply : Reply) (new : DeskState) → DeskServes old asked reply new → KeepsSeats old new
serves_keep old Rest reply new it = absurd it
serves_keep old (Complete disk) reply new it =
    let first = call_keeps old (Complete disk) _ it.between it.looks in elim it.goes [
      | inl none ↦ subst (KeepsSeats old) (sym none.2) first
      | inr goes ↦ keeps_both old it.between new first (call_keeps it.between (Complete disk) reply new goes.1)
    ]
serves_keep old asked reply new it = call_keeps old (struck asked) reply new it

-- A task with its seats after a step, at a desk of the locks that they are of.
abbrev stepped_to : RanState → TaskOf → TaskSeats → Step → Option Noted → RanState
stepped_to ran task seats step noted =
    ran_from task seats ran.first ran.home (events_after step ran.events) (stopped_after step ran.stopped) noted

module _ (ran : RanState) (holds : RanHolds ran) (task : TaskOf) (seats : TaskSeats) (step : Step)
    (turns : TurnsWith ran.home ran.task ran.seats task seats step) where
  keeps : KeepsSeats (desk_of ran.seats) (desk_of seats)
  keeps = turns_keep DeskServes KeepsSeats keeps_none keeps_both serves_keep (Owes (stage_at ran.home)) (routing_setup ran.task.routing) ran.task.state task.state
      (desk_of ran.seats) (desk_of seats) step turns

  pub number_stays : seats.number ≡ ran.seats.number
  number_stays = (let e = keeps.number in omega (arith, e))

  pub routed : ran.task.routing ≡ (stage_at ran.home).routing
  routed = holds.ran.routing ∙ holds.routing

  pub step_holds : DeskHolds ran.home seats → task.routing ≡ ran.task.routing → (noted : Option Noted) → NotesStep step (seen_by seats.pass) ran.noted noted
      → RanHolds (stepped_to ran task seats step noted)
  step_holds desk same noted goes =
      let stage = stage_at ran.home in record {
        desk = desk;
        routing = holds.routing;
        task = turns_home DeskServes stage holds.desk.locked.opened.stack_is ran.task.state (desk_of ran.seats) task.state (desk_of seats) step holds.task
            (subst (λ (r : Routing). Turns DeskServes (Owes stage) (routing_setup r) ran.task.state (desk_of ran.seats) task.state (desk_of seats) step) routed turns);
        pass = keeps.pass holds.pass;
        listed = stays_listed step (seen_by seats.pass) ran.noted noted goes ∙ holds.listed;
        ran = steps_keep_ran stage ran.first ran.task task (desk_of ran.seats) (desk_of seats) step ran.events ran.stopped ran.noted noted holds.ran turns same goes;
      }

-- The same of what is told of the step by who called at these locks, and left those.
module _ (ran : RanState) (holds : RanHolds ran) (task : TaskOf) (step : Step) (locks left : Locks) (seats : TaskSeats) (at_home : locks ≡ ran.home) (stays : left ≡ locks)
    (turns : TurnsWith locks ran.task ran.seats task seats step) where
  turns_home_with : TurnsWith ran.home ran.task ran.seats task seats step
  turns_home_with =
      subst (λ l. TurnsWith l ran.task ran.seats task seats step) at_home turns

  pub calls_keep_number : seats.number ≡ ran.seats.number
  calls_keep_number = number_stays ran holds task seats step turns_home_with

  pub calls_keep : DeskHolds left seats → task.routing ≡ ran.task.routing → (events : ℕ) (stopped : Bool) (noted : Option Noted)
      → events ≡ events_after step ran.events → stopped ≡ stopped_after step ran.stopped → NotesStep step (seen_by seats.pass) ran.noted noted
      → RanHolds (ran_from task seats ran.first ran.home events stopped noted)
  calls_keep desk same events stopped noted events_is stopped_is goes =
      let kept = subst (λ l. DeskHolds l seats) (stays ∙ at_home) desk in
      subst (λ e. RanHolds (ran_from task seats ran.first ran.home e stopped noted)) (sym events_is)
      (subst (λ s. RanHolds (ran_from task seats ran.first ran.home (events_after step ran.events) s noted)) (sym stopped_is)
      (step_holds ran holds task seats step turns_home_with kept same noted goes))

-- the same of a task that stood at a desk, and is put together again
pub steps_keep_tasks : StepsKeepTasks
steps_keep_tasks ran task seats step progress holds turns desk same goes =
    let was = sym goes.0 in (
      subst (λ (p : ProgressState). RanHolds (ran_of task seats p)) was (step_holds ran holds task seats step turns desk same progress.noted goes.1),
      subst (λ (p : ProgressState). ran_key (ran_of task seats p) ≡ ran_key ran) was
          (ap (λ n. record { first = ran.first; home = ran.home; number = n }) (number_stays ran holds task seats step turns)),
    )
