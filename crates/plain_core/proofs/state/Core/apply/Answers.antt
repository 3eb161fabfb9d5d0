-- The task of the event's name, if there is one, makes its step, or the event is none.
use Rattle.std.proofs.Common.{List, map, subst, Err}
use Rattle.plain_core.specs.declared.steps.task.Task.{Task}
use Rattle.plain_core.specs.declared.fault.CoreFault.TheVariants as fault
use Rattle.plain_core.specs.steps.Views.{task_of_plain}
use Rattle.stack_base.specs.Stack.{IsStack}
use Rattle.task_steps.specs.Routed.{Routing}
use Rattle.plain_core.specs.Cores.{CoreState, IsPlaceOfTask, HasNoTask, StepsAt, Applies}
use Rattle.plain_core.proofs.step_lemmas.Cores.{stepped, core_kept, applies_at, applies_none}
use Rattle.plain_core.proofs.state.Core.apply.Goals as goal

pub returns-in_default : goal.returns-in_default
returns-in_default c =
    let i = c.self.inside in
    let none = subst (λ (xs : List Task). HasNoTask (map task_of_plain xs) c.args.event.now.task) c.deref-2.ensures.value c.in_default.ensures in
    subst (λ (o : CoreState). Applies o c.args.event.now (Err fault.NotEnabled) o) c.self.view_is
    (applies_none (record { routing = i.routes.value; objects = i.objects; tasks = map task_of_plain i.tasks.items }) c.args.event.now none)

pub invariant_of-self : goal.invariant_of-self
invariant_of-self c =
    let i = c.self.inside in
    let is = subst (λ (xs : List Task). IsPlaceOfTask (map task_of_plain xs) c.args.event.now.task c.in-Some.place) c.deref-2.ensures.value c.in-Some.ensures in
    let step = subst (λ (r : Routing). StepsAt r i.objects i.tasks.items c.in-Some.place c.args.event.now.what c.step_at.result c.step_at.new.objects c.step_at.new.tasks.items)
    c.deref-4.ensures c.step_at.ensures in
    core_kept i.routes.value i.objects c.step_at.new.objects (map task_of_plain i.tasks.items) (map task_of_plain c.step_at.new.tasks.items) i.places.items c.in-Some.place c.args.event.now.what c.step_at.result
    c.tasks_stay_within.ensures (subst (λ (r : Routing). IsStack r.stack) c.deref.ensures c.known.ensures) c.known-2.ensures c.self.invariant is.within
    (stepped i.routes.value i.objects c.step_at.new.objects i.tasks.items c.step_at.new.tasks.items c.in-Some.place c.args.event.now.what c.step_at.result step)

pub returns : goal.returns
returns c =
    let i = c.self.inside in
    let is = subst (λ (xs : List Task). IsPlaceOfTask (map task_of_plain xs) c.args.event.now.task c.in-Some.place) c.deref-2.ensures.value c.in-Some.ensures in
    let step = subst (λ (r : Routing). StepsAt r i.objects i.tasks.items c.in-Some.place c.args.event.now.what c.step_at.result c.step_at.new.objects c.step_at.new.tasks.items)
    c.deref-4.ensures c.step_at.ensures in
    subst (λ (o : CoreState). Applies o c.args.event.now c.step_at.result (record { routing = i.routes.value; objects = c.step_at.new.objects; tasks = map task_of_plain c.step_at.new.tasks.items })) c.self.view_is
    (applies_at (record { routing = i.routes.value; objects = i.objects; tasks = map task_of_plain i.tasks.items }) c.step_at.new.objects (map task_of_plain c.step_at.new.tasks.items) c.args.event.now c.in-Some.place
    c.step_at.result is
    (stepped i.routes.value i.objects c.step_at.new.objects i.tasks.items c.step_at.new.tasks.items c.in-Some.place c.args.event.now.what c.step_at.result step))
