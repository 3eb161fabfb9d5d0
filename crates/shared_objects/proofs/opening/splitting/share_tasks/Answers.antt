use Rattle.std.proofs.Common.{rules, arith, ◌≡◌, ◌++◌, ◌∷◌, [], Some, refl, sym, ap, subst, ◌∙◌}
use Rattle.shared_objects.specs.Opening.{AreTasksAt}
use Rattle.shared_objects.proofs.sharing.TaskRows.{Standing, no_tasks, task_for, few_before, stands_too, all_stand, all_split}
use Rattle.shared_objects.proofs.opening.splitting.share_tasks.Goals as goal

pub sharing-init : goal.sharing-init
sharing-init c = (
  ([], sym c.into_iter-task-iterator.ensures.into_iter_gives.0, (refl, subst (AreTasksAt c.args.locks.now []) (sym c.in_ok-slots.ensures.items) (no_tasks c.args.locks.now))),
  c.requires.firsts,
)

pub share_task-requires-clause-task : goal.share_task-requires-clause-task
share_task-requires-clause-task c =
    task_for c.args.locks.now c.args.tasks.items c.sharing.task-iterator.rest.items c.sharing.slots.items c.sharing.number c.sharing.invariant.0 c.next.new.self.rest.items c.in-Some.task c.in-Some.ensures.steps.0 c.requires.tasks

pub share_task-requires-clause-few : goal.share_task-requires-clause-few
share_task-requires-clause-few c =
    let few = few_before c.args.locks.now c.args.tasks.items c.sharing.task-iterator.rest.items c.sharing.slots.items c.sharing.number c.sharing.invariant.0 c.next.new.self.rest.items c.in-Some.task c.in-Some.ensures.steps.0 c.requires.few in
    omega (arith, few)

pub sharing-preserved : goal.sharing-preserved
sharing-preserved c =
    let now : c.push.new.self.items ≡ c.sharing.slots.items ++ Some c.in_ok-ran.ran ∷ [] = search rules in (
      stands_too c.args.locks.now c.args.tasks.items c.sharing.task-iterator.rest.items c.sharing.slots.items c.sharing.number c.sharing.invariant.0 c.next.new.self.rest.items c.in-Some.task c.in-Some.ensures.steps.0
          c.in_ok-ran.ran c.push.new.self.items now c.in_ok-ran.ensures.ran,
      c.in_ok-ran.ensures.firsts,
    )

pub returns-clause-tasks : goal.returns-clause-tasks
returns-clause-tasks c =
    (all_stand c.args.locks.now c.args.tasks.items c.sharing.task-iterator.rest.items c.sharing.slots.items c.sharing.number c.sharing.invariant.0
    (let none = c.in-None.ensures.steps.0 in let long = c.sharing.task-iterator.rest.ok.0 in omega (arith, none, long))).1

pub returns-clause-firsts : goal.returns-clause-firsts
returns-clause-firsts c =
    all_split c.args.locks.now c.args.tasks.items c.sharing.task-iterator.rest.items c.sharing.slots.items c.sharing.number c.sharing.invariant.0 c.sharing.firsts
    (let none = c.in-None.ensures.steps.0 in let long = c.sharing.task-iterator.rest.ok.0 in omega (arith, none, long)) c.sharing.invariant.1
