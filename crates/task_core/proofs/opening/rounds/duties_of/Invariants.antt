use Rattle.std.proofs.Common.{◌≡◌, map}
use Rattle.run_machine.specs.Opened.{duties_in, from_round}
use Rattle.run_machine.specs.Scenario.{change_of}
use Rattle.task_steps.specs.KeeperViews.{duty_of}
use Rattle.task_core.proofs.opening.rounds.duties_of.Given as goal

abbrev pub invariant-passing : goal.invariant-passing
invariant-passing l = record {
  duties : map duty_of l.duties.items ≡ duties_in l.rounds (map change_of l.resizes) l.passed;
  later : l.later ≡ from_round l.rounds l.passed;
}
