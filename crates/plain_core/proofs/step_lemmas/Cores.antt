-- A plain core keeps what it stands on, and applies events as the machine's steps.
use Rattle.std.proofs.Common.{◌≡◌, ◌≢◌, ◌<◌, inl, inr, ℕ, zero, suc, List, [], ◌∷◌, length, map, refl, sym, ap, ◌∙◌, subst, arith, Option, None, Some, Result, Ok, Err}
use Rattle.std.specs.Prelude.{slice_get, slice_set, slice_index_or}
use Rattle.std.proofs.Math.ListN.{length-set}
use Rattle.std.proofs.lemmas.List.{get_or-set_other}
use Rattle.stack_base.specs.declared.stack.Stack.{Stack}
use Rattle.stack_base.specs.Stack.{IsStack}
use Rattle.run_machine.specs.declared.event.Event.{Event}
use Rattle.run_machine.specs.declared.event.What.{What}
use Rattle.run_machine.specs.Maps.{upd}
use Rattle.run_machine.specs.Requests.{Request, Reply, HadBio, HadVec, HadSlip, Missed, Did, Popped, Completed, LinkedTo, DroppedTo, OutIs, Present, LeftOver, Nothing, NoTicket, Pop, Done, NextRound, LookRound, LookLeft}
use Rattle.run_machine.specs.Tasks as task
use Rattle.run_machine.specs.Objects.{Objects, Serves}
use Rattle.run_machine.specs.Events.{id_of, what_of}
use Rattle.run_machine.specs.Runs.{State, IsLet, Steps}
use Rattle.run_machine.specs.Opened.{most_writers, no_task}
use Rattle.elem_ledger.specs.Ledger.{LedgerId}
use Rattle.run_machine.proofs.Frames.{one_object_changes}
use Rattle.run_machine.proofs.OneState.{id_stays, steps_one}
use Rattle.task_steps.specs.Routed.{Routing, routing_setup, places_at}
use Rattle.task_steps.specs.Within.{AreWithin, TaskIsWithin, ReplyFits, TasksStayWithin}
use Rattle.plain_core.specs.objects.Ledgers.{ledger_of}
use Rattle.plain_core.specs.declared.steps.task.Task.{Task}
use Rattle.plain_core.specs.declared.fault.CoreFault.{CoreFault}
use Rattle.plain_core.specs.declared.fault.CoreFault.TheVariants as fault
use Rattle.plain_core.specs.objects.Plain.{CoreObjects, HasPlacesForStack, core_rescue_at, objects_of_core}
use Rattle.plain_core.specs.steps.Views.{task_of_plain}
use Rattle.plain_core.specs.steps.Moves.{TaskMoves}
use Rattle.plain_core.specs.Cores.{CoreState, state_of_core, scene_of_core, task_at, slot_of, IsCore, IsPlaceOfTask, HasNoTask, Applies, StepsFrom, StepsAt}
use Rattle.plain_core.proofs.object_lemmas.Places.{at_set, head_within}
use Rattle.plain_core.proofs.object_lemmas.OneChanged.{upd_is}

-- what a rescuer takes is within
reply_fits : (stack : Stack) (old : CoreObjects) (request : Request) (reply : Reply) (new : Objects) → ((dev : ℕ) → AreWithin stack (core_rescue_at old dev))
    → Serves ledger_of (objects_of_core old) request reply new → ReplyFits stack reply
-- a bio is popped off a list
reply_fits stack old (Pop dev) (Popped bio) new within serves = head_within stack (core_rescue_at old dev.0) (new.rescue dev.0) bio (within dev.0) serves.0
reply_fits stack old request (Popped bio) new within serves = absurd serves
-- of other replies nothing is asked
reply_fits stack old request (HadBio got bio) new within serves = tt
reply_fits stack old request (HadVec got vector) new within serves = tt
reply_fits stack old request (HadSlip got slip) new within serves = tt
reply_fits stack old request (Missed used) new within serves = tt
reply_fits stack old request Did new within serves = tt
reply_fits stack old request (Completed index bio status) new within serves = tt
reply_fits stack old request (LinkedTo answer) new within serves = tt
reply_fits stack old request (DroppedTo ended) new within serves = tt
reply_fits stack old request (OutIs out) new within serves = tt
reply_fits stack old request (Present round) new within serves = tt
reply_fits stack old request (LeftOver count) new within serves = tt
reply_fits stack old request Nothing new within serves = tt
reply_fits stack old request NoTicket new within serves = tt

-- lists of tasks
at_mapped : {X Y : Type 0} (f : X → Y) (xs : List X) (i : ℕ) (x : X) (d : Y) → slice_get xs i ≡ Some x → slice_index_or (map f xs) i d ≡ f x
at_mapped f [] i x d is = absurd cc
at_mapped f (y ∷ xs) zero x d is = ap f cc
at_mapped f (y ∷ xs) (suc i) x d is = at_mapped f xs i x d is

map_set : {X Y : Type 0} (f : X → Y) (xs : List X) (i : ℕ) (x : X) → map f (slice_set xs i x) ≡ slice_set (map f xs) i (f x)
map_set f [] i x = refl
map_set f (y ∷ xs) zero x = refl
map_set f (y ∷ xs) (suc i) x = ap (λ s. f y ∷ s) (map_set f xs i x)

set_same : {X : Type 0} (xs : List X) (i : ℕ) (x d : X) → x ≡ slice_index_or xs i d → slice_set xs i x ≡ xs
set_same [] i x d is = refl
set_same (y ∷ xs) zero x d is = ap (λ z. z ∷ xs) is
set_same (y ∷ xs) (suc i) x d is = ap (λ s. y ∷ s) (set_same xs i x d is)

-- a step at a place, of tasks as the machine's
pub record Stepped (r : Routing) (old : CoreObjects) (tasks : List task.TaskState) (place : ℕ) (what : What) (result : Result (Unit {0}) CoreFault) (new : CoreObjects) (rest : List task.TaskState) : Type 0 where
  pub moves : TaskMoves r old (task_at tasks place) what result new (task_at rest place)
  pub others : rest ≡ slice_set tasks place (task_at rest place)

pub stepped : (r : Routing) (old new : CoreObjects) (tasks rest : List Task) (place : ℕ) (what : What) (result : Result (Unit {0}) CoreFault)
    → StepsAt r old tasks place what result new rest → Stepped r old (map task_of_plain tasks) place what result new (map task_of_plain rest)
stepped r old new tasks rest place what result s = by (slice_get tasks place) (slice_get rest place) refl refl s
  where
    by : (before after : Option Task) → slice_get tasks place ≡ before → slice_get rest place ≡ after → StepsFrom r old tasks place before what result new after rest
        → Stepped r old (map task_of_plain tasks) place what result new (map task_of_plain rest)
    by (Some before) (Some after) was is s =
        let a = at_mapped task_of_plain tasks place before no_task was in
        let b = at_mapped task_of_plain rest place after no_task is in
        record {
          moves = subst (λ t. TaskMoves r old t what result new (task_at (map task_of_plain rest) place)) (sym a) (subst (λ t. TaskMoves r old (task_of_plain before) what result new t) (sym b) s.0);
          others = ap (map task_of_plain) s.1 ∙ map_set task_of_plain tasks place after ∙ ap (slice_set (map task_of_plain tasks) place) (sym b);
        }
    by None after was is s = absurd s
    by (Some before) None was is s = absurd s

-- whatever is answered, the task is what it was, and within its stack
after_id : (r : Routing) (old new : CoreObjects) (before after : task.TaskState) (what : What) (result : Result (Unit {0}) CoreFault) → TaskMoves r old before what result new after → id_of after ≡ id_of before
after_id r old new before after what (Ok d) m = ap id_of m.3 ∙ id_stays (routing_setup r) before m.0
after_id r old new before after what (Err fault.NotEnabled) m = ap id_of m.1
after_id r old new before after what (Err fault.Memory) m = ap id_of m.1

after_fits : (r : Routing) (old new : CoreObjects) (before after : task.TaskState) (what : What) (result : Result (Unit {0}) CoreFault) → TasksStayWithin → IsStack r.stack
    → ((dev : ℕ) → AreWithin r.stack (core_rescue_at old dev)) → TaskIsWithin r.stack before → TaskMoves r old before what result new after → TaskIsWithin r.stack after
after_fits r old new before after what (Ok d) law stack within fits m =
    subst (TaskIsWithin r.stack) (sym m.3)
    (law.goes_on r.stack (places_at r.places) before m.0 stack fits (reply_fits r.stack old (task.request (routing_setup r) before) m.0 (objects_of_core new) within m.2.serves))
after_fits r old new before after what (Err fault.NotEnabled) law stack within fits m = subst (TaskIsWithin r.stack) (sym m.1) fits
after_fits r old new before after what (Err fault.Memory) law stack within fits m = subst (TaskIsWithin r.stack) (sym m.1) fits

after_stack : (r : Routing) (old new : CoreObjects) (before after : task.TaskState) (what : What) (result : Result (Unit {0}) CoreFault) → TaskMoves r old before what result new after → new.stack ≡ old.stack
after_stack r old new before after what (Ok d) m = m.2.stack
after_stack r old new before after what (Err fault.NotEnabled) m = ap (λ (o : CoreObjects). o.stack) m.0
after_stack r old new before after what (Err fault.Memory) m = ap (λ (o : CoreObjects). o.stack) m.0

pub core_kept : (r : Routing) (old new : CoreObjects) (tasks rest : List task.TaskState) (places : List ℕ) (place : ℕ) (what : What) (result : Result (Unit {0}) CoreFault)
    → TasksStayWithin → IsStack r.stack → HasPlacesForStack old.stack old.pools old.rescues old.disks → IsCore r old tasks places → place < length tasks
    → Stepped r old tasks place what result new rest → IsCore r new rest places
core_kept r old new tasks rest places place what result law stack kept core here s =
    let one = task_at rest place in
    let within = subst (λ (k : Stack). (dev : ℕ) → AreWithin k (core_rescue_at old dev)) core.stack kept.within in
    let fits : TaskIsWithin r.stack one = after_fits r old new (task_at tasks place) one what result law stack within (core.fits place no_task here) s.moves in
    let same : id_of one ≡ id_of (task_at tasks place) = after_id r old new (task_at tasks place) one what result s.moves in
    let long : length rest ≡ length tasks = ap length s.others ∙ length-set tasks place one in
    record {
      stack = after_stack r old new (task_at tasks place) one what result s.moves ∙ core.stack;
      fits = λ k d lt. subst (λ l. TaskIsWithin r.stack (slice_index_or l k d)) (sym s.others) (elim (at_set tasks place k one d) [
        | inl at ↦ subst (TaskIsWithin r.stack) (sym at.1) fits
        | inr other ↦ subst (TaskIsWithin r.stack) (sym other) (core.fits k d (omega (arith, lt, long)))
      ]);
      found = λ k lt. subst (λ l. slice_get places (slot_of (id_of (task_at l k))) ≡ Some k) (sym s.others) (elim (at_set tasks place k one no_task) [
        | inl at ↦ ap (λ t. slice_get places (slot_of (id_of t))) at.1 ∙ ap (λ i. slice_get places (slot_of i)) same ∙ core.found place here ∙ ap Some (sym at.0)
        | inr other ↦ ap (λ t. slice_get places (slot_of (id_of t))) other ∙ core.found k (omega (arith, lt, long))
      ]);
    }

-- there is a status for each write
statuses_stay : (ledger : ℕ → LedgerId) (old new : Objects) (asked : Request) (reply : Reply) → Serves ledger old asked reply new
    → length new.tally.statuses ≡ length old.tally.statuses
statuses_stay ledger old new (Done write status) Did serves = ap (λ o. length o.tally.statuses) serves ∙ length-set old.tally.statuses write status
statuses_stay ledger old new (Done write status) reply serves = absurd serves
statuses_stay ledger old new (NextRound round) Did serves = ap (λ o. length o.tally.statuses) serves.1
statuses_stay ledger old new (NextRound round) reply serves = absurd serves
statuses_stay ledger old new LookRound (Present round) serves = ap (λ o. length o.tally.statuses) serves.1
statuses_stay ledger old new LookRound reply serves = absurd serves
statuses_stay ledger old new LookLeft (LeftOver count) serves = ap (λ o. length o.tally.statuses) serves.1
statuses_stay ledger old new LookLeft reply serves = absurd serves
statuses_stay ledger old new asked reply serves = ap (λ o. length o.tally.statuses) (one_object_changes ledger old new asked reply serves)

-- the event is a step of this task, or of none
pub applies_at : (old : CoreState) (new : CoreObjects) (rest : List task.TaskState) (event : Event) (place : ℕ) (result : Result (Unit {0}) CoreFault)
    → IsPlaceOfTask old.tasks event.task place → Stepped old.routing old.objects old.tasks place event.what result new rest
    → Applies old event result (record { routing = old.routing; objects = new; tasks = rest })
applies_at old new rest event place (Ok d) is s =
    let m = s.moves in
    let others : (k : ℕ) → k ≢ place → task_at rest k ≡ task_at old.tasks k =
    λ k ne. ap (λ l. task_at l k) s.others ∙ get_or-set_other old.tasks place k (task_at rest place) no_task ne in
    let later : State = record { objects = objects_of_core new; task = task_at rest } in
    let step : Steps (scene_of_core old) (state_of_core old) place event later = record {
      here = is.within;
      by = is.named;
      is_let = m.1;
      reply = m.0;
      told = m.2.told;
      serves = m.2.serves;
      goes_on = upd_is (task_at old.tasks) (task_at rest) place others ∙ ap (upd (task_at old.tasks) place) m.3;
    } in
    let long : length rest ≡ length old.tasks = ap length s.others ∙ length-set old.tasks place (task_at rest place) in
    let asked = task.request (routing_setup old.routing) (task_at old.tasks place) in
    let statuses = statuses_stay ledger_of (objects_of_core old.objects) (objects_of_core new) asked m.0 m.2.serves in record {
      happens = (place, step);
      only = λ other happens.
          let at : happens.0 ≡ place = is.only happens.0 happens.1.here happens.1.by in
          steps_one (scene_of_core old) (state_of_core old) other later place event
          (subst (λ p. Steps (scene_of_core old) (state_of_core old) p event other) at happens.1) step;
      scene = λ k. record { setup = routing_setup old.routing; tasks = long k; books = most_writers; writes = statuses k; ledger = ledger_of };
      routing = refl;
    }
applies_at old new rest event place (Err fault.NotEnabled) is s = (
  λ k. record { routing = old.routing; objects = s.moves.0 k; tasks = (s.others ∙ set_same old.tasks place (task_at rest place) no_task s.moves.1) k },
  λ next happens.
      let at : happens.0 ≡ place = is.only happens.0 happens.1.here happens.1.by in
      let let_it = subst (λ p. IsLet ledger_of (objects_of_core old.objects) (task_at old.tasks p) (task.look_of (task_at old.tasks p))) at happens.1.is_let in
      s.moves.2 let_it happens.1.reply next.objects
      (subst (λ p. what_of (task.request (routing_setup old.routing) (task_at old.tasks p)) happens.1.reply ≡ Some event.what) at happens.1.told)
      (subst (λ p. Serves ledger_of (objects_of_core old.objects) (task.request (routing_setup old.routing) (task_at old.tasks p)) happens.1.reply next.objects) at happens.1.serves),
)
applies_at old new rest event place (Err fault.Memory) is s = (
  λ k. record { routing = old.routing; objects = s.moves.0 k; tasks = (s.others ∙ set_same old.tasks place (task_at rest place) no_task s.moves.1) k },
  (
    record {
      objects = s.moves.4.new;
      task = upd (task_at old.tasks) place (task.answered (routing_setup old.routing) (task_at old.tasks place) s.moves.4.reply);
    },
    (
      place,
      record {
        here = is.within;
        by = is.named;
        is_let = s.moves.3;
        reply = s.moves.4.reply;
        told = s.moves.4.told;
        serves = s.moves.4.serves;
        goes_on = refl;
      },
    ),
  ),
  (place, is, s.moves.2),
)

pub applies_none : (old : CoreState) (event : Event) → HasNoTask old.tasks event.task → Applies old event (Err fault.NotEnabled) old
applies_none old event none = (refl, λ next happens. none happens.0 happens.1.here happens.1.by)
