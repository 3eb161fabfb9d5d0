-- Where the calls of a task lead it.
use Rattle.std.specs.Prelude.{◌≡◌, ◌⊎◌, ◌++◌, true, false, List, [], ◌∷◌, All}
use Rattle.run_machine.specs.Scene.{Setup}
use Rattle.run_machine.specs.Tasks.{TaskState, request, look_of, answered, is_broken}
use Rattle.object_things.specs.Histories.{Call}
use Rattle.shared_objects.specs.Calls.{struck}
use Rattle.shared_objects.specs.Desks.{DeskState}
use Rattle.shared_objects.specs.Logs.{is_event, is_stop, is_glance, events_in, Looked, IsLogged}

-- these calls, one after the other, lead a task on: each asks for what the task asks for next
abbrev pub CallsLead : Setup → TaskState → List Call → TaskState → Type 0
CallsLead setup task [] last = last ≡ task
CallsLead setup task (call ∷ calls) last = (call.asked ≡ struck (request setup task)) × CallsLead setup (answered setup task call.told.reply) calls last

-- the task behind calls of its own
abbrev pub task_behind_calls : Setup → TaskState → List Call → TaskState
task_behind_calls setup task [] = task
task_behind_calls setup task (call ∷ calls) = task_behind_calls setup (answered setup task call.told.reply) calls

-- The task broke off with a call that was refused, or found no ticket: behind it there are only glances, and no other call did so.
pub record BrokeOff (setup : Setup) (log : List Call) (through now : TaskState) : Type 0 where
  pub before : List Call
  pub call : Call
  pub later : List Call
  pub log_is : log ≡ before ++ call ∷ later
  pub stops : is_stop call.asked call.told.reply ≡ true
  pub goes : All (λ (c : Call). is_stop c.asked c.told.reply ≡ false) before
  pub glances : All (λ (c : Call). is_glance c.asked c.told.reply ≡ true) later
  -- it asked what the task asked for next, which looked before, where it has to
  pub asks : call.asked ≡ struck (request setup through)
  pub looked : Looked before through call (look_of through)
  pub goes_on : now ≡ answered setup through call.told.reply
  pub broken : is_broken now ≡ true

-- What all calls of a task show of it: its events lead it from the first state to one, it looked before each of them, where it has to, and it is
-- there now, or broke off from there.
pub record IsLed (setup : Setup) (first : TaskState) (log : List Call) (now : TaskState) : Type 0 where
  pub through : TaskState
  pub leads : CallsLead setup first (events_in log) through
  pub looks : (mine rest : List Call) (call : Call) → events_in log ≡ mine ++ call ∷ rest
      → Looked log (task_behind_calls setup first mine) call (look_of (task_behind_calls setup first mine))
  pub stops : ((now ≡ through) × All (λ (c : Call). is_stop c.asked c.told.reply ≡ false) log) ⊎ BrokeOff setup log through now

abbrev pub LogsLead : Type 0
LogsLead = (setup : Setup) (first now : TaskState) (log : List Call) (desk : DeskState) → IsLogged setup first log now desk → IsLed setup first log now
