-- What an accepted text means to the machine.
use Rattle.std.specs.Prelude.{List, map}
use Rattle.fail_script.specs.Script.{Answers}
use Rattle.stack_base.specs.declared.ids.PoolId.{PoolId}
use Rattle.stack_base.specs.declared.stack.Stack.{Stack}
use Rattle.decl_text.specs.declared.accepted.Accepted.{Accepted}
use Rattle.work_text.specs.declared.Work.{Work}
pub use Rattle.work_text.specs.Work.{change_of}
use Rattle.run_machine.specs.Opened.{Scenario}

-- a stack and its scripts, and the writes with their rounds and the changes of reserves of work over it
abbrev pub scenario_by : Stack → List (PoolId × Answers) → Work → Scenario
scenario_by stack scripts work = record {
  stack = stack;
  scripts = scripts;
  writes = work.writes.items;
  rounds = work.rounds.items;
  changes = map change_of work.resizes.items;
}

-- those of a text: the stack and the scripts of its declarations, and the work of the lines behind them
abbrev pub scenario_of : Accepted → Work → Scenario
scenario_of accepted work = scenario_by accepted.stack accepted.scripts.items work
