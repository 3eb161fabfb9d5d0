use Rattle.std.proofs.Common.{◌≡◌}
use Rattle.stack_base.specs.Tree.{tree}
use Rattle.run_machine.specs.Submissions.{landed}
use Rattle.task_steps.specs.Within.{IsWithinDevice}
use Rattle.task_steps.proofs.routes.Routes.land.Given as goal

-- where it is now comes to where it began to go
abbrev pub invariant-down : goal.invariant-down
invariant-down l = record {
  within : IsWithinDevice l.self.stack l.bio;
  lands : landed (tree l.self.stack l.fn.start.dev.0) l.fn.start ≡ landed (tree l.self.stack l.bio.dev.0) l.bio;
}

abbrev pub decreases-down : goal.decreases-down
decreases-down l = l.bio.dev.0
