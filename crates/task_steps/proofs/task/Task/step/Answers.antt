use Rattle.std.proofs.Common.{rules}
use Rattle.task_steps.proofs.ByAnswer.{answers_tell_turns}
use Rattle.task_steps.proofs.Turned.{does_same}
use Rattle.task_steps.proofs.task.Task.step.Goals as goal
use Rattle.task_steps.proofs.task.Task.step.Goals.{in-Writer, in-Rescuer, in-Completer, in-Keeper}

-- a step of what the task is of is its own
pub returns-clause-does : goal.returns-clause-does
returns-clause-does g c =
    let words = g.O.Objects in
    let old = c.args.objects.now in
    elim c.match-self.branch [
      | in-Writer w ↦ does_same words old (search rules) (search rules) (search rules) (search rules) (search rules) w.step.ensures.does
      | in-Rescuer w ↦ does_same words old (search rules) (search rules) (search rules) (search rules) (search rules) w.step-in-Rescuer.ensures.does
      | in-Completer w ↦ does_same words old (search rules) (search rules) (search rules) (search rules) (search rules) w.step-in-Completer.ensures.does
      | in-Keeper w ↦ does_same words old (search rules) (search rules) (search rules) (search rules) (search rules) w.step-in-Keeper.ensures.does
    ]

-- what it answers tells what its turn was
pub returns-clause-tells : goal.returns-clause-tells
returns-clause-tells g c = answers_tell_turns g.O.Objects _ _ _ _ _ _ (returns-clause-does g c)
