-- Events that follow a stream of words are a run, and one more turn follows them.
use Rattle.std.proofs.Common.{◌++◌, List, [], ◌∷◌, refl, subst}
use Rattle.rand_pcg.specs.Lcg.{Lcg}
use Rattle.run_machine.specs.declared.event.Event.{Event}
use Rattle.run_machine.specs.Runs.{State}
use Rattle.run_machine.specs.Scene.{Scene}
use Rattle.serial_run.specs.Schedule.{IsTurn, FollowsSchedule}
use Rattle.serial_run.specs.Serial.{HandsOn}
use Rattle.serial_run.specs.Laws.{TurnsAreARun}

pub turns_are_a_run : TurnsAreARun
turns_are_a_run scene old stream [] new after follows = follows.0
turns_are_a_run scene old stream (event ∷ events) new after (next, between, turn, follows) =
    (next, (_, turn.steps), turns_are_a_run scene next between events new after follows)

-- one more turn
pub one_more : (scene : Scene) (old : State) (stream : Lcg) (events : List Event) (middle : State) (between : Lcg) (event : Event) (new : State) (after : Lcg)
    → FollowsSchedule scene old stream events middle between → IsTurn scene middle between event new after → FollowsSchedule scene old stream (events ++ event ∷ []) new after
one_more scene old stream [] middle between event new after (same, still) turn =
    let first : IsTurn scene old stream event new after = subst (λ s. IsTurn scene s stream event new after) same (subst (λ g. IsTurn scene middle g event new after) still turn) in
    (new, after, first, (refl, refl))
one_more scene old stream (one ∷ events) middle between event new after (next, g, turned, follows) turn =
    (next, g, turned, one_more scene next g events middle between event new after follows turn)

-- and one more event that was handed on
pub handed_too : {V : Type 0} (happens : V → Event → V → Type 0) (before : V) (events : List Event) (middle : V) (event : Event) (now : V)
    → HandsOn happens before events middle → happens middle event now → HandsOn happens before (events ++ event ∷ []) now
handed_too happens before [] middle event now same next = (now, subst (λ v. happens v event now) same next, refl)
handed_too happens before (one ∷ events) middle event now (between, first, rest) next = (between, first, handed_too happens between events middle event now rest next)
