-- No task breaks off whose object refuses nothing.
use Rattle.std.proofs.Common.{◌≡◌, ◌≢◌, ◌<◌, ◌==◌, if◌then◌else◌, ℕ, Bool, true, false, true≢false, None, inl, inr, refl, sym, ap, subst, ◌∙◌, Option, Some}
use Rattle.std.specs.Option.{is_some}
use Rattle.std.proofs.lemmas.Bool.{eq-eqb}
use Rattle.elem_ledger.specs.Ledger.{LedgerId}
use Rattle.stack_base.specs.declared.ids.PoolId.{PoolId}
use Rattle.stack_base.specs.PoolId.{pool_number}
use Rattle.bio_books.specs.Drops as end
use Rattle.bio_books.specs.Links.{Made, NoRoom, Stray}
use Rattle.run_machine.specs.declared.event.Breach.{Breach}
use Rattle.run_machine.specs.declared.event.TaskId.{TaskId}
use Rattle.task_core.specs.declared.plain.Plain.{Plain}
use Rattle.task_steps.specs.declared.step.Step.{Step}
use Rattle.task_steps.specs.declared.step.Step.TheVariants.{Ended, Waiting, Broken}
use Rattle.run_machine.specs.Events.{id_of, resize_of}
use Rattle.run_machine.specs.Objects.{Objects, Serves}
use Rattle.task_core.specs.Plains.{objects_of, stage_of, PlainServes}
use Rattle.task_core.specs.PlainSteps.{HasRound, TakesStep, scene_of_objects, state_of_objects}
use Rattle.run_machine.specs.Requests.{Request, Reply}
use Rattle.run_machine.specs.Requests as requests
use Rattle.run_machine.specs.Runs.{IsLet}
use Rattle.run_machine.specs.Scene.{Setup}
use Rattle.task_steps.specs.Routed.{routing_setup}
use Rattle.task_steps.specs.Stage.{Stage, Owes}
use Rattle.run_machine.specs.Tasks.{TaskState, request, look_of, lets, breach_of, is_broken}
use Rattle.task_steps.specs.Turns.{step_by, step_of, resting_step, idle_step, Asks, Rested, Waited, Asked, Saw}
use Rattle.run_machine.proofs.Idle.{IsFair, fair_task}
use Rattle.task_core.proofs.opened.StepsAreEvents.{has_seen, lets_ask, served, told_serves}
use Rattle.block_core.specs.Breaks.{GoesUnrefused, is_refusal}

no_end : {breach : Breach} → Broken breach ≢ Ended
no_end e = cc

never_idle : (left : ℕ) (breach : Breach) → Broken breach ≢ idle_step left
never_idle left breach = by_test (left == 0)
  where
    by_test : (b : Bool) → Broken breach ≢ (if b then Ended else Waiting)
    by_test true e = cc
    by_test false e = cc

-- a reserve is changed where nothing is out
resizes_well : (task : TaskId) (pool : PoolId) (min out : ℕ) (silent : Step) (breach : Breach) → out ≡ 0 → Broken breach ≢ step_by task (resize_of (out == 0) pool min) silent
resizes_well task pool min out silent breach none e = by_test (out == 0) (eq-eqb out 0 none) e
  where
    by_test : (b : Bool) → b ≡ true → Broken breach ≢ step_by task (resize_of b pool min) silent
    by_test true is e = cc
    by_test false is e = absurd (true≢false (sym is))

module _ (setup : Setup) (task : TaskId) (old new : Objects) (ledger : ℕ → LedgerId) (breach : Breach) where
  found_breaks : (asked : Request) (reply : Reply) → IsFair old asked → Serves ledger old asked reply new → is_refusal reply ≡ false
      → Broken breach ≢ step_of setup task asked reply
  -- takes: none breaks a task off, whatever it had
  found_breaks (requests.TakeBio set true) (requests.HadBio got bio) fair serves well e = cc
  found_breaks (requests.TakeBio set false) (requests.HadBio got bio) fair serves well e = cc
  found_breaks (requests.TakeBio set true) (requests.Missed true) fair serves well e = cc
  found_breaks (requests.TakeBio set true) (requests.Missed false) fair serves well e = cc
  found_breaks (requests.TakeBio set false) (requests.Missed used) fair serves well e = cc
  found_breaks requests.TakeVec (requests.HadVec got vector) fair serves well e = cc
  found_breaks requests.TakeVec (requests.Missed true) fair serves well e = cc
  found_breaks requests.TakeVec (requests.Missed false) fair serves well e = cc
  found_breaks (requests.TakeSlip dev) (requests.HadSlip got slip) fair serves well e = cc
  found_breaks (requests.TakeSlip dev) (requests.Missed true) fair serves well e = cc
  found_breaks (requests.TakeSlip dev) (requests.Missed false) fair serves well e = cc
  -- gives
  found_breaks (requests.GiveBio bio) requests.Did fair serves well e = cc
  found_breaks (requests.GiveVec vector) requests.Did fair serves well e = cc
  found_breaks (requests.GiveSlip slip) requests.Did fair serves well e = cc
  -- lists of rescuers, with a bio or without one
  found_breaks (requests.Punt dev moved) requests.Did fair serves well e = cc
  found_breaks (requests.Pop dev) (requests.Popped bio) fair serves well e = cc
  found_breaks (requests.Pop dev) requests.Nothing fair serves well e = cc
  -- disks, with a bio that waits or without one
  found_breaks (requests.Push bio) requests.Did fair serves well e = cc
  found_breaks (requests.Complete disk) (requests.Completed index bio status) fair serves well e = cc
  found_breaks (requests.Complete disk) requests.Nothing fair serves well e = cc
  -- books: none is refused
  found_breaks (requests.Link writer opening) (requests.LinkedTo (Made node)) fair serves well e = cc
  found_breaks (requests.Link writer opening) (requests.LinkedTo (NoRoom back)) fair serves well e = true≢false well
  found_breaks (requests.Link writer opening) (requests.LinkedTo (Stray back)) fair serves well e = true≢false well
  found_breaks (requests.Drop writer node status part) (requests.DroppedTo end.Left) fair serves well e = cc
  found_breaks (requests.Drop writer node status part) (requests.DroppedTo (end.Up closed)) fair serves well e = cc
  found_breaks (requests.Drop writer node status part) (requests.DroppedTo (end.Top closed)) fair serves well e = cc
  found_breaks (requests.Drop writer node status part) (requests.DroppedTo (end.Stray back)) fair serves well e = true≢false well
  -- ends of writes
  found_breaks (requests.Done write status) requests.Did fair serves well e = cc
  -- resizes: nothing is out
  found_breaks (requests.Resize pool min) (requests.OutIs out) fair serves well e = resizes_well task pool min out _ breach (serves.0 ∙ fair) e
  -- starts of rounds
  found_breaks (requests.NextRound round) requests.Did fair serves well e = cc
  -- looks are not asked for, and nothing else is answered
  found_breaks requests.LookRound reply fair serves well e = absurd fair
  found_breaks requests.LookLeft reply fair serves well e = absurd fair
  found_breaks asked reply fair serves well e = absurd serves

-- a task that did not break off rests as one that has ended
whole : (task : TaskState) → is_broken task ≡ false → breach_of task ≡ None
whole task fine = by_breach (breach_of task) fine
  where
    by_breach : (breach : Option Breach) → is_some breach ≡ false → breach ≡ None
    by_breach None fine = refl
    by_breach (Some breach) fine = absurd (true≢false fine)

-- a step that is told as a breach
module _ (old new : Plain) (tasks : ℕ → TaskState) (count place : ℕ) (next : TaskState) (here : place < count)
    (well : GoesUnrefused (scene_of_objects old count) (state_of_objects old tasks)) (there : HasRound (objects_of old) (request (routing_setup (stage_of old).routing) (tasks place)))
    (breach : Breach) where
  abbrev stage : Stage
  stage = stage_of old

  abbrev task : TaskState
  task = tasks place

  abbrev asked : Request
  asked = request (routing_setup stage.routing) task

  fair : IsLet stage.ledger (objects_of old) task (look_of task) → IsFair (objects_of old) asked
  fair lets = fair_task (routing_setup stage.routing) (objects_of old) task (λ pool min later duties e. well.resizes place pool min later duties e lets (pool_number pool))

  asks_unbroken : (between : Plain) → objects_of between ≡ objects_of old → IsLet stage.ledger (objects_of old) task (look_of task)
      → Asks PlainServes (Owes stage) (routing_setup stage.routing) task between next new (Broken breach) → ⊥
  asks_unbroken between same lets asks =
      elim asks.follows [
        | inl told ↦
            let serves = served old new tasks count place next between asks.middle same asks.reply
            (told_serves between asks.middle asked asks.reply (subst (λ o. HasRound o asked) (sym same) there) asks.replied) asks.owed in
            found_breaks (routing_setup stage.routing) (id_of task) (objects_of old) (objects_of asks.middle) stage.ledger breach asked asks.reply (fair lets) serves
            (well.answers place here asks.reply (objects_of asks.middle) serves) told.2
        | inr nothing ↦ never_idle nothing.1.0 breach nothing.1.2
      ]

  no_breach : Waiting ≢ Broken breach
  no_breach e = cc

  pub unbroken : TakesStep old tasks place next new (Broken breach) → ⊥
  unbroken (Rested rests same stays tells) = no_end (tells ∙ ap resting_step (whole task (well.tasks place)))
  unbroken (Waited look seen looks saw early same tells) = no_breach (sym tells)
  unbroken (Asked none asks) = asks_unbroken old refl (subst (IsLet stage.ledger (objects_of old) task) (sym none) tt) asks
  unbroken (Saw look seen between looks saw due asks) =
      asks_unbroken between (has_seen old new tasks count place next look looks seen between saw).0 (lets_ask old new tasks count place next look looks seen between saw due) asks
