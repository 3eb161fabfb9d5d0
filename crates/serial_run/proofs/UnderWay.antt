-- A run by one thread under way: the events so far follow the words and were handed on, and it goes on until no write is unfinished.
use Rattle.std.proofs.Common.{◌≡◌, ◌+◌, ◌≤◌, ◌++◌, ℕ, List, [], ◌∷◌, All, length, refl, sym, ap, ◌∙◌, subst, arith}
use Rattle.std.proofs.lemmas.List.{length-append}
use Rattle.std.proofs.lemmas.List.Elements.{All-nil, All-push}
use Rattle.elem_ledger.specs.Ledger.{LedgerId}
use Rattle.rand_pcg.specs.Lcg.{Lcg}
use Rattle.task_core.specs.declared.ended.Ended.{Ended}
use Rattle.run_machine.specs.declared.event.Event.{Event}
use Rattle.task_core.specs.declared.opening.Opened.{Opened}
use Rattle.task_core.specs.declared.plain.Plain.{Plain}
use Rattle.task_core.specs.Leaving.{IsLeft}
use Rattle.run_machine.specs.Named.{IsEventOf, FitsEvent}
use Rattle.task_core.specs.opened.OfOne.{run_state, AreOfOne, IsOpened, scenario_in}
use Rattle.run_machine.specs.Opened.{Scenario, scene, start}
use Rattle.task_core.specs.Plains.{objects_of, stage_of}
use Rattle.task_core.specs.PlainSteps.{scene_of_objects}
use Rattle.task_steps.specs.Routed.{routing_setup}
use Rattle.run_machine.specs.Runs.{IsRun, HasFree, unfinished}
use Rattle.run_machine.specs.Scene.{Scene}
use Rattle.task_steps.specs.Stage.{Stage}
use Rattle.run_machine.specs.Opened.{most_writers}
use Rattle.task_steps.specs.TaskViews.{TaskOf}
use Rattle.block_core.specs.Bounded.{most_steps}
use Rattle.block_core.specs.Runnable.{IsRunnable}
use Rattle.block_core.specs.Scenarios.{IsNaming}
use Rattle.block_core.proofs.bound.Bounded.{runs_are_bounded}
use Rattle.block_core.proofs.stuck.RunsEnd.{runs_end_with_their_writes, started_rounds_are_there}
use Rattle.block_core.proofs.stuck.NeverStuck.{no_allowed_state_is_stuck}
use Rattle.block_core.proofs.unrefused.Unbroken.{no_task_breaks}
use Rattle.block_core.proofs.claim.Runnable.{accepted_texts_are_runnable}
use Rattle.serial_run.specs.Schedule.{FollowsSchedule, IsTurn}
use Rattle.serial_run.specs.Serial.{HandsOn, IsSerialRun}
use Rattle.serial_run.specs.Turning.{GoesWell, TurnHandsOnOver}
use Rattle.serial_run.proofs.Follows.{turns_are_a_run, one_more, handed_too}
use Rattle.serial_run.proofs.Opening.{begins_at, scene_is, has_task, count_is}

-- so far this many events
pub record IsUnderWay {V : Type 0} (happens : V → Event → V → Type 0) (o : Opened) (stream : Lcg) (before : V) (objects : Plain) (tasks : List TaskOf)
    (between : Lcg) (now : V) (steps : ℕ) : Type 0 where
  pub events : List Event
  pub follows : FollowsSchedule (scene (scenario_in o) (stage_of o.objects).ledger) (start (scenario_in o)) stream events (run_state objects tasks) between
  pub handed : HandsOn happens before events now
  pub named : All (IsEventOf (scenario_in o).stack) events
  pub fits : All FitsEvent events
  pub counted : steps ≡ length events
  pub one : AreOfOne objects tasks
  pub stage : stage_of objects ≡ stage_of o.objects
  pub as_many : length tasks ≡ length o.tasks.items

module _ {V : Type 0} (happens : V → Event → V → Type 0) (o : Opened) (opened : IsOpened o) (stream : Lcg) (before : V) where
  abbrev s : Scenario
  s = scenario_in o

  abbrev ledger : ℕ → LedgerId
  ledger = (stage_of o.objects).ledger

  abbrev UnderWay : Plain → List TaskOf → Lcg → V → ℕ → Type 0
  UnderWay = IsUnderWay happens o stream before

  -- it begins
  pub starts : UnderWay o.objects o.tasks.items stream before 0
  starts = record {
    events = [];
    follows = (begins_at o opened, refl);
    handed = refl;
    named = All-nil (IsEventOf s.stack);
    fits = All-nil FitsEvent;
    counted = refl;
    one = opened.one;
    stage = refl;
    as_many = refl;
  }

  -- what was opened can be run
  pub runnable : IsRunnable s
  runnable = (accepted_texts_are_runnable o.accepted.value o.work.value opened.read).0

  module _ (objects : Plain) (tasks : List TaskOf) (between : Lcg) (now : V) (steps : ℕ)
      (way : UnderWay objects tasks between now steps) where
    naming : IsNaming ledger
    naming = opened.one.holds.numbered

    run : IsRun (scene s ledger) (start s) way.events (run_state objects tasks)
    run = turns_are_a_run (scene s ledger) (start s) stream way.events (run_state objects tasks) between way.follows

    scene_now : scene_of_objects objects (length tasks) ≡ scene s ledger
    scene_now =
        let by_stage : Stage → ℕ → Scene = λ stage count. record {
          setup = routing_setup stage.routing;
          tasks = count;
          books = most_writers;
          writes = stage.writes;
          ledger = stage.ledger;
        } in
        ap (λ stage. by_stage stage (length tasks)) way.stage ∙ ap (by_stage (stage_of o.objects)) way.as_many ∙ scene_is o opened

    stack_now : (stage_of objects).routing.stack ≡ s.stack
    stack_now = ap (λ (stage : Stage). stage.routing.stack) way.stage ∙ opened.stack

    -- no object refuses, and while a write is unfinished there is a free event
    pub well : GoesWell (scene_of_objects objects (length tasks)) (run_state objects tasks)
    well =
        subst (λ scene. GoesWell scene (run_state objects tasks)) (sym scene_now)
        (record {
          unrefused = no_task_breaks s ledger way.events (run_state objects tasks) runnable.scenario runnable.allowed naming run;
          ahead = started_rounds_are_there s ledger way.events (run_state objects tasks) runnable.scenario runnable.reserves runnable.ordered naming run;
        })

    pub free : 1 ≤ unfinished (run_state objects tasks) → HasFree (scene_of_objects objects (length tasks)) (run_state objects tasks)
    free some =
        subst (λ scene. HasFree scene (run_state objects tasks)) (sym scene_now)
        (no_allowed_state_is_stuck s ledger way.events (run_state objects tasks) runnable.scenario runnable.allowed opened.rescuers runnable.reserves runnable.ordered naming run some)

    -- there are no more events than the bound
    pub few : steps ≤ most_steps s
    few = subst (λ n. n ≤ most_steps s) (sym way.counted) (runs_are_bounded s ledger way.events (run_state objects tasks) runnable.scenario naming run)

    -- one turn more
    pub turns : (new : Plain) (more : List TaskOf) (after : Lcg) (next : V)
        → TurnHandsOnOver happens objects tasks between now new more after next → AreOfOne new more
        → stage_of new ≡ stage_of objects → length more ≡ length tasks → UnderWay new more after next (steps + 1)
    turns new more after next (event, turn, happened, named, fits) one stage count = record {
      events = way.events ++ event ∷ [];
      follows =
          one_more (scene s ledger) (start s) stream way.events (run_state objects tasks) between event (run_state new more) after way.follows
          (subst (λ scene. IsTurn scene (run_state objects tasks) between event (run_state new more) after) scene_now turn);
      handed = handed_too happens before way.events now event next way.handed happened;
      named = All-push (IsEventOf s.stack) way.events event way.named (subst (λ stack. IsEventOf stack event) stack_now named);
      fits = All-push FitsEvent way.events event way.fits fits;
      counted = let counted = way.counted in omega (arith, counted, length-append way.events (event ∷ []));
      one = one;
      stage = stage ∙ way.stage;
      as_many = count ∙ way.as_many;
    }

    -- a stack with a device has a task
    pub some_task : 1 ≤ length (stage_of objects).routing.stack.devices.items → 1 ≤ length tasks
    some_task some =
        let there = has_task s ledger runnable.scenario runnable.reserves runnable.ordered (subst (λ stack. 1 ≤ length stack.devices.items) stack_now some) in
        subst (λ n. 1 ≤ n) (sym (way.as_many ∙ count_is o opened)) there

    -- and at last it has ended
    pub ends : unfinished (run_state objects tasks) ≡ 0 → (ended : Ended) → IsLeft (stage_of objects).routing.stack (objects_of objects) steps ended
        → IsSerialRun happens o stream before between now ended
    ends none ended left =
        record {
          events = way.events;
          state = run_state objects tasks;
          follows = way.follows;
          handed = way.handed;
          named = way.named;
          fits = way.fits;
          ends = runs_end_with_their_writes s ledger way.events (run_state objects tasks) runnable.scenario naming run none;
          disks = λ number. (way.one.holds.objects.disk number).dev_is;
          left =
              subst (λ n. IsLeft s.stack (objects_of objects) n ended) way.counted
              (subst (λ stack. IsLeft stack (objects_of objects) steps ended) stack_now left);
        }
