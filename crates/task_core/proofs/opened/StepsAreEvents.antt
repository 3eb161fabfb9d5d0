-- Steps over the objects of one thread are events of the machine, or nothing.
use Rattle.std.proofs.Common.{◌≡◌, ◌<◌, ◌==◌, if◌then◌else◌, ℕ, Bool, true, false, true≢false, Option, None, Some, inl, inr, refl, sym, ap, ◌∙◌, subst, arith}
use Rattle.std.specs.Prelude.{IsTrue, sum}
use Rattle.std.proofs.lemmas.Option.{none-some}
use Rattle.elem_ledger.specs.Ledger.{LedgerId}
use Rattle.fail_script.specs.Script.{only_tail}
use Rattle.mempool_core.specs.Move.{opened}
use Rattle.bio_books.specs.Drops as end
use Rattle.bio_books.specs.Links.{NoRoom, Stray}
use Rattle.run_machine.specs.declared.event.Breach.{Breach}
use Rattle.run_machine.specs.declared.event.Event.{Event}
use Rattle.run_machine.specs.declared.event.TaskId.{TaskId}
use Rattle.run_machine.specs.declared.event.What.{What}
use Rattle.task_core.specs.declared.plain.Plain.{Plain}
use Rattle.task_steps.specs.declared.step.Step.{Step}
use Rattle.task_steps.specs.declared.step.Step.TheVariants.{Stepped, Waiting, Ended}
use Rattle.run_machine.specs.Maps.{upd}
use Rattle.run_machine.specs.Scene.{Setup}
use Rattle.run_machine.specs.Requests as requests
use Rattle.run_machine.specs.Requests.{Request, Reply}
use Rattle.run_machine.specs.Tasks.{TaskState, request, look_of, lets, answered, breach_of}
use Rattle.run_machine.specs.Objects.{Objects, Serves}
use Rattle.run_machine.specs.Events.{id_of, what_of}
use Rattle.run_machine.specs.Runs.{IsLet, Steps}
use Rattle.task_core.specs.Plains.{objects_of, stage_of, PlainServes, StaysLast}
use Rattle.task_core.specs.PlainSteps.{state_of_objects, scene_of_objects, HasRound, IsStill, IsPassedOver, StepsAreEvents}
use Rattle.task_steps.specs.Routed.{routing_setup}
use Rattle.task_steps.specs.Stage.{Stage, Owes}
use Rattle.task_steps.specs.Turns.{silent_step, step_by, resting_step, idle_step, Asks, Turns, Rested, Waited, Asked, Saw}
use Rattle.run_machine.proofs.Idle.{IsFair, fair_task, task_stays}
use Rattle.run_machine.proofs.Looks.{task_looks}
use Rattle.task_core.proofs.EventlessSteps.{quiet, passed}
use Rattle.task_core.proofs.opened.OwedLedgers.{of_ledgers}

-- what a task looks at
abbrev IsLook : Request → Type 0
IsLook requests.LookRound = Unit {0}
IsLook requests.LookLeft = Unit {0}
IsLook request = ⊥

is_look : (task : TaskState) (look : Request) → look_of task ≡ Some look → IsLook look
is_look task look e = elim (task_looks task look e) [
  | inl round ↦ subst IsLook (sym round) tt
  | inr left ↦ subst IsLook (sym left) tt
]

-- what it sees there, and that looks change nothing
abbrev shown : Objects → Request → Reply
shown objects requests.LookRound = requests.Present objects.tally.round
shown objects requests.LookLeft = requests.LeftOver (sum objects.tally.left)
shown objects request = requests.Nothing

module _ (ledger : ℕ → LedgerId) (old new : Objects) where
  looked_round : (seen : Reply) → Serves ledger old requests.LookRound seen new → (new ≡ old) × (seen ≡ shown old requests.LookRound)
  looked_round (requests.Present round) serves = (serves.1, ap requests.Present serves.0)
  looked_round _ serves = absurd serves

  looked_left : (seen : Reply) → Serves ledger old requests.LookLeft seen new → (new ≡ old) × (seen ≡ shown old requests.LookLeft)
  looked_left (requests.LeftOver count) serves = (serves.1, ap requests.LeftOver serves.0)
  looked_left _ serves = absurd serves

  looked : (look : Request) (seen : Reply) → IsLook look → Serves ledger old look seen new → (new ≡ old) × (seen ≡ shown old look)
  looked requests.LookRound seen is serves = looked_round seen serves
  looked requests.LookLeft seen is serves = looked_left seen serves
  looked _ seen is serves = absurd is

-- what these objects tell, the machine has, where a round that is asked for is there
round_is_there : (old new : Objects) (request : Request) (reply : Reply) → HasRound old request → StaysLast old request reply new → ⊥
round_is_there old new (requests.NextRound round) requests.Did there last = absurd (omega (arith, there, last.0))
round_is_there old new (requests.NextRound round) _ there last = absurd last
round_is_there old new _ reply there last = absurd last

pub told_serves : (old new : Plain) (request : Request) (reply : Reply) → HasRound (objects_of old) request → PlainServes old request reply new
    → Serves (stage_of old).ledger (objects_of old) request reply (objects_of new)
told_serves old new request reply there (inl serves) = serves
told_serves old new request reply there (inr last) = absurd (round_is_there (objects_of old) (objects_of new) request reply there last)

-- and where the reply is not told of, there is no round
untold_is : (old new : Objects) (request : Request) (reply : Reply) → what_of request reply ≡ None → StaysLast old request reply new → ⊥
untold_is old new (requests.NextRound round) requests.Did untold last = none-some _ (sym untold)
untold_is old new (requests.NextRound round) _ untold last = absurd last
untold_is old new _ reply untold last = absurd last

untold_serves : (old new : Plain) (request : Request) (reply : Reply) → what_of request reply ≡ None → PlainServes old request reply new
    → Serves (stage_of old).ledger (objects_of old) request reply (objects_of new)
untold_serves old new request reply untold (inl serves) = serves
untold_serves old new request reply untold (inr last) = absurd (untold_is (objects_of old) (objects_of new) request reply untold last)

left_stays : (middle new : Plain) (left : ℕ) → PlainServes middle requests.LookLeft (requests.LeftOver left) new → objects_of new ≡ objects_of middle
left_stays middle new left told =
    (looked (stage_of middle).ledger (objects_of middle) (objects_of new) requests.LookLeft (requests.LeftOver left) tt
    (told_serves middle new requests.LookLeft (requests.LeftOver left) tt told)).0

looks_any : (objects : Objects) (look : Request) → IsLook look → HasRound objects look
looks_any objects requests.LookRound is = tt
looks_any objects requests.LookLeft is = tt
looks_any objects _ is = absurd is

-- which steps are events
abbrev is_event : Step → Bool
is_event (Stepped event) = true
is_event step = false

silent_is_none : (setup : Setup) (request : Request) (reply : Reply) → is_event (silent_step setup request reply) ≡ false
-- no ticket
silent_is_none setup request requests.NoTicket = refl
-- misses
silent_is_none setup (requests.TakeBio set waits) (requests.Missed used) = refl
silent_is_none setup requests.TakeVec (requests.Missed used) = refl
silent_is_none setup (requests.TakeSlip dev) (requests.Missed used) = refl
-- refusals of a book
silent_is_none setup (requests.Link writer opening) (requests.LinkedTo (NoRoom back)) = refl
silent_is_none setup (requests.Link writer opening) (requests.LinkedTo (Stray back)) = refl
silent_is_none setup (requests.Drop writer node status part) (requests.DroppedTo (end.Stray back)) = refl
-- a pool that has elements out
silent_is_none setup (requests.Resize pool min) (requests.OutIs out) = refl
-- and every other reply
silent_is_none setup request reply = refl

rest_is_none : (breach : Option Breach) → is_event (resting_step breach) ≡ false
rest_is_none None = refl
rest_is_none (Some breach) = refl

idle_is_none : (none : Bool) → is_event (if none then Ended else Waiting) ≡ false
idle_is_none true = refl
idle_is_none false = refl

no_event : {X : Type 0} (event : Event) (step : Step) → Stepped event ≡ step → is_event step ≡ false → X
no_event event step e none = absurd (true≢false (ap is_event e ∙ none))

-- a step that is told is told of the reply
record TellsReply (task : TaskId) (told : Option What) (event : Event) : Type 0 where
  by : event.task ≡ task
  what : told ≡ Some event.what

told_by : (task : TaskId) (told : Option What) (silent : Step) (event : Event) → is_event silent ≡ false → Stepped event ≡ step_by task told silent
    → TellsReply task told event
told_by task (Some what) silent event none e =
    let same : event ≡ record { task = task; what = what } = stepped_same event (record { task = task; what = what }) e in
    record { by = ap (λ (e : Event). e.task) same; what = ap (λ (e : Event). Some e.what) (sym same) }
  where
    stepped_same : (one other : Event) → Stepped one ≡ Stepped other → one ≡ other
    stepped_same one other e = cc
told_by task None silent event none e = no_event event silent e none

-- and one that is not told is of a reply that is not
still_untold : (task : TaskId) (told : Option What) (silent step : Step) → IsStill step → step ≡ step_by task told silent → (told ≡ None) × IsStill silent
still_untold task (Some what) silent step still e = absurd (subst IsStill e still)
still_untold task None silent step still e = (refl, subst IsStill e still)

rest_untold : (reply : Reply) (what : What) → what_of requests.Rest reply ≡ Some what → ⊥
rest_untold reply what e = none-some what e

nothing_untold : (asked : Request) → what_of asked requests.Nothing ≡ None
nothing_untold (requests.TakeBio set waits) = refl
nothing_untold _ = refl

nothing_is_still : (setup : Setup) (asked : Request) → IsStill (silent_step setup asked requests.Nothing)
nothing_is_still setup (requests.TakeBio set waits) = tt
nothing_is_still setup _ = tt

-- objects of which nothing is out
abbrev calm : Objects → Objects
calm objects = record objects { pool = λ number. opened 0 (only_tail true) }

module _ (old new : Plain) (tasks : ℕ → TaskState) (count place : ℕ) (next : TaskState) where
  abbrev stage : Stage
  stage = stage_of old

  abbrev task : TaskState
  task = tasks place

  abbrev asked : Request
  asked = request (routing_setup stage.routing) task

  -- what was replied is what the machine has of the objects as they were
  pub served : (between middle : Plain) → objects_of between ≡ objects_of old → (reply : Reply)
      → Serves (stage_of between).ledger (objects_of between) asked reply (objects_of middle) → Owes stage asked reply
      → Serves stage.ledger (objects_of old) asked reply (objects_of middle)
  served between middle same reply serves owed =
      subst (λ o. Serves stage.ledger o asked reply (objects_of middle)) same
      (of_ledgers stage (stage_of between).ledger (objects_of between) (objects_of middle) asked reply owed serves)

  -- a task that may ask, and is told of
  asks_stepped : place < count → (event : Event) (between : Plain) → objects_of between ≡ objects_of old → HasRound (objects_of old) asked
      → IsLet stage.ledger (objects_of old) task (look_of task) → Asks PlainServes (Owes stage) (routing_setup stage.routing) task between next new (Stepped event)
      → Steps (scene_of_objects old count) (state_of_objects old tasks) place event (state_of_objects new (upd tasks place next))
  asks_stepped here event between same there lets asks =
      elim asks.follows [
        | inl told ↦
            let is_told = told_by (id_of task) (what_of asked asks.reply) (silent_step (routing_setup stage.routing) asked asks.reply) event
            (silent_is_none (routing_setup stage.routing) asked asks.reply) told.2 in
            record {
              here = here;
              by = is_told.by;
              is_let = lets;
              reply = asks.reply;
              told = is_told.what;
              serves = subst (λ (o : Plain). Serves stage.ledger (objects_of old) asked asks.reply (objects_of o)) (sym told.1)
                  (served between asks.middle same asks.reply
                  (told_serves between asks.middle asked asks.reply (subst (λ o. HasRound o asked) (sym same) there) asks.replied) asks.owed);
              goes_on = ap (upd tasks place) asks.goes_on;
            }
        | inr nothing ↦ no_event event (idle_step nothing.1.0) nothing.1.2 (idle_is_none (nothing.1.0 == 0))
      ]

  abbrev IsUnchanged : Type 0
  IsUnchanged = (objects_of new ≡ objects_of old) × (next ≡ task) × IsPassedOver (scene_of_objects old count) (state_of_objects old tasks) place

  -- a task that may ask, and nothing has happened
  asks_still : (step : Step) → IsStill step → (between : Plain) → objects_of between ≡ objects_of old
      → Asks PlainServes (Owes stage) (routing_setup stage.routing) task between next new step → IsUnchanged
  asks_still step still between same asks =
      elim asks.follows [
        | inl told ↦
            let is = still_untold (id_of task) (what_of asked asks.reply) (silent_step (routing_setup stage.routing) asked asks.reply) step still told.2 in
            by_quiet asks.middle asks.reply (answers is.0) is.0 is.1 asks.goes_on (ap objects_of told.1)
        | inr nothing ↦
            let untold : what_of asked asks.reply ≡ None = subst (λ r. what_of asked r ≡ None) (sym nothing.0) (nothing_untold asked) in
            by_quiet asks.middle asks.reply (answers untold) untold
            (subst (λ r. IsStill (silent_step (routing_setup stage.routing) asked r)) (sym nothing.0) (nothing_is_still (routing_setup stage.routing) asked))
            asks.goes_on (left_stays asks.middle new nothing.1.0 nothing.1.1)
      ]
    where
      fair : IsFair (calm (objects_of old)) asked
      fair = fair_task (routing_setup stage.routing) (calm (objects_of old)) task (λ pool min later duties e. refl)

      -- a reply that is not told of
      by_quiet : (middle : Plain) (reply : Reply) → Serves stage.ledger (objects_of old) asked reply (objects_of middle) → what_of asked reply ≡ None
          → IsStill (silent_step (routing_setup stage.routing) asked reply) → next ≡ answered (routing_setup stage.routing) task reply → objects_of new ≡ objects_of middle
          → IsUnchanged
      by_quiet middle reply serves untold silent goes_on stays =
          let found = quiet stage.ledger (routing_setup stage.routing) (calm (objects_of old)) (objects_of old) (objects_of middle) asked reply fair serves untold silent in (
            stays ∙ found.1,
            goes_on ∙ task_stays (routing_setup stage.routing) task reply found.0,
            λ event other steps.
                passed stage.ledger (objects_of old) (objects_of middle) other.objects asked reply steps.reply event.what found.0 untold serves steps.serves steps.told,
          )

      answers : what_of asked asks.reply ≡ None → Serves stage.ledger (objects_of old) asked asks.reply (objects_of asks.middle)
      answers untold = served between asks.middle same asks.reply (untold_serves between asks.middle asked asks.reply untold asks.replied) asks.owed

  -- what a task saw
  module _ (look : Request) (e : look_of task ≡ Some look) (seen : Reply) (between : Plain) (saw : PlainServes old look seen between) where
    sees : Serves stage.ledger (objects_of old) look seen (objects_of between)
    sees = told_serves old between look seen (looks_any (objects_of old) look (is_look task look e)) saw

    pub has_seen : (objects_of between ≡ objects_of old) × (seen ≡ shown (objects_of old) look)
    has_seen = looked stage.ledger (objects_of old) (objects_of between) look seen (is_look task look e) sees

    pub lets_ask : lets task seen ≡ true → IsLet stage.ledger (objects_of old) task (look_of task)
    lets_ask is =
        subst (IsLet stage.ledger (objects_of old) task) (sym e)
        (seen, subst (Serves stage.ledger (objects_of old) look seen) has_seen.0 sees, is)

    let_once : lets task seen ≡ false → IsLet stage.ledger (objects_of old) task (look_of task) → ⊥
    let_once not is = not_both (subst (IsLet stage.ledger (objects_of old) task) e is)
      where
        not_true : (b : Bool) → b ≡ false → IsTrue b → ⊥
        not_true b none is = true≢false (sym is ∙ none)

        not_both : IsLet stage.ledger (objects_of old) task (Some look) → ⊥
        not_both (other, serves, asks) =
            let again = looked stage.ledger (objects_of old) (objects_of old) look other (is_look task look e) serves in
            not_true (lets task other) (ap (lets task) (again.1 ∙ sym has_seen.1) ∙ not) asks

  -- a step that is told
  stepped_by : (event : Event) → place < count → HasRound (objects_of old) asked
      → Turns PlainServes (Owes stage) (routing_setup stage.routing) task old next new (Stepped event)
      → Steps (scene_of_objects old count) (state_of_objects old tasks) place event (state_of_objects new (upd tasks place next))
  stepped_by event here there (Rested rests same stays tells) = no_event event (resting_step (breach_of task)) tells (rest_is_none (breach_of task))
  stepped_by event here there (Waited look seen looks saw early same tells) = no_event event Waiting tells refl
  stepped_by event here there (Asked none asks) = asks_stepped here event old refl there (subst (IsLet stage.ledger (objects_of old) task) (sym none) tt) asks
  stepped_by event here there (Saw look seen between looks saw due asks) =
      asks_stepped here event between (has_seen look looks seen between saw).0 there (lets_ask look looks seen between saw due) asks

  -- and one that is not
  still_by : (step : Step) → IsStill step → Turns PlainServes (Owes stage) (routing_setup stage.routing) task old next new step → IsUnchanged
  still_by step still (Rested rests same stays tells) = (
    ap objects_of stays,
    same,
    λ event other steps. absurd (rest_untold steps.reply event.what (subst (λ r. what_of r steps.reply ≡ Some event.what) rests steps.told)),
  )
  still_by step still (Waited look seen looks saw early same tells) = (
    (has_seen look looks seen new saw).0,
    same,
    λ event other steps. absurd (let_once look looks seen new saw early steps.is_let),
  )
  still_by step still (Asked none asks) = asks_still step still old refl asks
  still_by step still (Saw look seen between looks saw due asks) = asks_still step still between (has_seen look looks seen between saw).0 asks

pub steps_are_events : StepsAreEvents
steps_are_events = record {
  stepped = λ old new tasks count place next event here there is. stepped_by old new tasks count place next event here there is;
  still = λ old new tasks count place next step still is. still_by old new tasks count place next step still is;
}
