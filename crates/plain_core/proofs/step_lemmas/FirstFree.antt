-- A task of a core is free exactly where it has a step that needs no ordinary memory.
use Rattle.std.proofs.Common.{◌≡◌, ◌+◌, ◌<◌, inl, inr, ℕ, zero, suc, List, [], ◌∷◌, length, map, refl, sym, ap, ◌∙◌, subst, arith, Some}
use Rattle.std.specs.Prelude.{slice_get}
use Rattle.std.proofs.lemmas.List.{length-map}
use Rattle.stack_base.proofs.NumberLemmas.{below_or_last}
use Rattle.run_machine.specs.declared.event.TaskId.{TaskId}
use Rattle.run_machine.specs.Events.{id_of}
use Rattle.run_machine.specs.Maps.{upd}
use Rattle.task_steps.specs.Routed.{Routing, routing_setup}
use Rattle.run_machine.specs.Runs.{HasFree}
use Rattle.run_machine.specs.Tasks.{answered}
use Rattle.plain_core.specs.declared.steps.task.Task.{Task}
use Rattle.plain_core.specs.objects.Plain.{CoreObjects}
use Rattle.plain_core.specs.steps.Views.{task_of_plain}
use Rattle.plain_core.specs.Cores.{CoreState, scene_of_core, state_of_core, task_at}
use Rattle.plain_core.specs.steps.Free.{IsFirstFree, IsFreeAt, TaskIsFree}

pub free_at : (c : CoreState) (place : ℕ) → place < length c.tasks → TaskIsFree c.routing c.objects (task_at c.tasks place) → IsFreeAt c place
free_at c place here f = record {
  event = record { task = id_of (task_at c.tasks place); what = f.1.what };
  new = record { objects = f.1.new; task = upd (task_at c.tasks) place (answered (routing_setup c.routing) (task_at c.tasks place) f.1.reply) };
  steps = record { here = here; by = refl; is_let = f.0; reply = f.1.reply; told = f.1.told; serves = f.1.serves; goes_on = refl };
  free = f.1.free;
}

pub not_free_at : (c : CoreState) (place : ℕ) → (TaskIsFree c.routing c.objects (task_at c.tasks place) → ⊥) → IsFreeAt c place → ⊥
not_free_at c place never f =
    let s = f.steps in
    never (s.is_let, record { what = f.event.what; reply = s.reply; new = f.new.objects; told = s.told; serves = s.serves; free = f.free })

pub none_is_free : (c : CoreState) → ((place : ℕ) → place < length c.tasks → IsFreeAt c place → ⊥) → HasFree (scene_of_core c) (state_of_core c) → ⊥
none_is_free c none h =
    none h.1.1.0 h.1.1.1.here (record { event = h.0; new = h.1.0; steps = h.1.1.1; free = h.2 })

-- what stands at a place of the core's own tasks
mapped_at : (tasks : List Task) (place : ℕ) (x : Task) → slice_get tasks place ≡ Some x → task_at (map task_of_plain tasks) place ≡ task_of_plain x
mapped_at [] place x is = absurd cc
mapped_at (y ∷ ys) zero x is = ap task_of_plain cc
mapped_at (y ∷ ys) (suc place) x is = mapped_at ys place x is

abbrev core_with : Routing → CoreObjects → List Task → CoreState
core_with routing objects tasks = record { routing = routing; objects = objects; tasks = map task_of_plain tasks }

pub found_free : (routing : Routing) (objects : CoreObjects) (tasks : List Task) (place : ℕ) (x : Task) (name : TaskId) → slice_get tasks place ≡ Some x → place < length tasks
    → name ≡ id_of (task_of_plain x) → TaskIsFree routing objects (task_of_plain x) → ((k : ℕ) → k < place → IsFreeAt (core_with routing objects tasks) k → ⊥)
    → IsFirstFree (core_with routing objects tasks) name
found_free routing objects tasks place x name is here named free before =
    let at = mapped_at tasks place x is in
    record {
      place = place;
      named = named ∙ ap id_of (sym at);
      is_free = free_at (core_with routing objects tasks) place (omega (arith, here, length-map tasks task_of_plain)) (subst (TaskIsFree routing objects) (sym at) free);
      first = before;
    }

pub found_not : (routing : Routing) (objects : CoreObjects) (tasks : List Task) (place : ℕ) (x : Task) → slice_get tasks place ≡ Some x
    → (TaskIsFree routing objects (task_of_plain x) → ⊥) → IsFreeAt (core_with routing objects tasks) place → ⊥
found_not routing objects tasks place x is never =
    not_free_at (core_with routing objects tasks) place (λ f. never (subst (TaskIsFree routing objects) (mapped_at tasks place x is) f))

-- one more task can't
pub next_is_not : (c : CoreState) (place : ℕ) → ((k : ℕ) → k < place → IsFreeAt c k → ⊥) → (IsFreeAt c place → ⊥) → (k : ℕ) → k < place + 1 → IsFreeAt c k → ⊥
next_is_not c place before here k lt = elim (below_or_last k place lt) [
  | inl less ↦ before k less
  | inr last ↦ λ f. here (subst (IsFreeAt c) last f)
]
