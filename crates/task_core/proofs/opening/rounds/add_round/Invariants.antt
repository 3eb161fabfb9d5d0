use Rattle.std.proofs.Common.{◌≡◌, ◌++◌, map, take}
use Rattle.task_steps.specs.KeeperViews.{duty_of}
use Rattle.run_machine.specs.Scenario.{change_of}
use Rattle.run_machine.specs.Opened.{changes_at}
use Rattle.task_core.proofs.opening.rounds.add_round.Given as goal

abbrev pub invariant-changing : goal.invariant-changing
invariant-changing l = map duty_of l.duties.items ≡ map duty_of l.initial.duties.items ++ changes_at l.round l.later (map change_of (take l.i l.resizes))
