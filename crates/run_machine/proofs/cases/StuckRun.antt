-- The same mirror without a rescuer: the first leg waits in the writer's own list while the writer waits for the bio of the second, and the
-- only bio in reserve is the first leg's. No event can come, though the write is unfinished.
use Rattle.std.proofs.Common.{◌≡◌, ◌<◌, ℕ, zero, suc, List, [], ◌∷◌, length, slice_index_or, Some, refl, arith, false}
use Rattle.std.specs.Global.{Global}
use Rattle.elem_ledger.specs.Ledger.{LedgerId}
use Rattle.stack_base.specs.declared.ids.SetId.TheVariants.{Of}
use Rattle.stack_base.specs.Tree.{tree_below, over_shape}
use Rattle.run_machine.specs.declared.event.What.{What}
use Rattle.run_machine.specs.Maps.{upd}
use Rattle.run_machine.specs.Scene.{Scene}
use Rattle.run_machine.specs.Requests.{Reply, Present}
use Rattle.run_machine.specs.Submissions.{rests}
use Rattle.run_machine.specs.Tasks.{TaskState, Writer, Completer, NoBio, Empty, request}
use Rattle.run_machine.specs.Objects.{Objects, Serves}
use Rattle.run_machine.specs.Events.{what_of}
use Rattle.run_machine.specs.Opened.{no_task}
use Rattle.run_machine.specs.Opened as texts
use Rattle.run_machine.specs.Runs.{State, IsRun, HasFree, unfinished}
use Rattle.run_machine.proofs.Turns.{follow, AreTurns, turns_run}
use Rattle.run_machine.proofs.Blocked.{IsBare, bare_waits, idle_waits}
use Rattle.run_machine.proofs.cases.MirrorRun as mirrored

abbrev tasks : List TaskState
tasks = Writer 0 (mirrored.todo ∷ []) NoBio rests ∷ Completer mirrored.a Empty ∷ Completer mirrored.b Empty ∷ []

abbrev pub start : State
start = record mirrored.start { task = λ place. slice_index_or tasks place no_task }

module _ (some : LedgerId) where
  abbrev pub scene : Scene
  scene = record { setup = mirrored.setup false; tasks = 3; books = 8; writes = 1; ledger = mirrored.ledger some }

  abbrev pub stuck : State
  stuck = follow (mirrored.setup false) start (mirrored.begun some)

  are_turns : AreTurns scene start (mirrored.begun some) (mirrored.begun_events some)
  unfolding upd
  are_turns = (
    (refl, refl, (Present 0, (refl, refl), refl), refl, (((omega arith, omega arith), refl), refl)),
    (
      (refl, refl, tt, refl, ((refl, refl), refl)),
      (
        (refl, refl, tt, refl, (((omega arith, omega arith), refl), refl)),
        (
          (refl, refl, tt, refl, ((refl, refl), refl)),
          (
            (refl, refl, tt, refl, (((omega arith, omega arith), refl), refl)),
            (
              (refl, refl, tt, refl, ((refl, refl), refl)),
              tt,
            ),
          ),
        ),
      ),
    ),
  )

  runs_there : IsRun scene start (mirrored.begun_events some) stuck
  runs_there = turns_run scene start (mirrored.begun some) (mirrored.begun_events some) are_turns

  one_is_unfinished : unfinished stuck ≡ 1
  one_is_unfinished = refl

  bare : IsBare (stuck.objects.pool 4)
  unfolding upd
  bare = record { spares = refl; refused = refl; used = refl }

  none_at : (place : ℕ) → place < 3 → (reply : Reply) (new : Objects) (what : What)
      → Serves scene.ledger stuck.objects (request scene.setup (stuck.task place)) reply new
      → what_of (request scene.setup (stuck.task place)) reply ≡ Some what → ⊥
  unfolding upd
  none_at zero here reply new what serves told = bare_waits scene.ledger stuck.objects (Of mirrored.m) bare reply new what serves told
  none_at (suc zero) here reply new what serves told = idle_waits scene.ledger stuck.objects mirrored.a refl reply new what serves told
  none_at (suc (suc zero)) here reply new what serves told = idle_waits scene.ledger stuck.objects mirrored.b refl reply new what serves told
  none_at (suc (suc (suc place))) here reply new what serves told = absurd (omega (arith, here))

  no_event : HasFree scene stuck → ⊥
  no_event (event, (new, (place, steps)), free) = none_at place steps.here steps.reply new.objects event.what steps.serves steps.told

-- With `rescuer=no` the text is refused, since a mirror of two needs a rescuer. This is the state in which its runs would begin.
module _ (memory : Global) where
  tasks_are : tasks ≡ texts.opened_tasks (mirrored.scenario memory false)
  unfolding tree_below over_shape
  tasks_are = refl

  start_is : start ≡ texts.start (mirrored.scenario memory false)
  start_is = λ k. record { objects = mirrored.objects_are memory false k; task = λ place. slice_index_or (tasks_are k) place no_task }

  scene_is : (some : LedgerId) → scene some ≡ texts.scene (mirrored.scenario memory false) (mirrored.ledger some)
  scene_is some = λ k. record {
    setup = mirrored.setup_is memory false k;
    tasks = length (tasks_are k);
    books = 8;
    writes = 1;
    ledger = mirrored.ledger some;
  }
