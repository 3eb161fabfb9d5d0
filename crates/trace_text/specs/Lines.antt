-- The line of an event.
use Rattle.std.specs.Prelude.{◌++◌, ℕ, List, [], ◌∷◌, codes, decimal}
use Rattle.std.specs.List.{join_with_byte}
use Rattle.stack_base.specs.declared.ids.Status.{Status}
use Rattle.stack_base.specs.declared.stack.Stack.{Stack}
use Rattle.stack_base.specs.Names.{name_of_device, pool_name}
use Rattle.run_machine.specs.declared.event.TaskId.{TaskId}
use Rattle.run_machine.specs.declared.event.TaskId.TheVariants as task
use Rattle.run_machine.specs.declared.event.Got.{Got}
use Rattle.run_machine.specs.declared.event.Got.TheVariants as got
use Rattle.run_machine.specs.declared.event.How.{How}
use Rattle.run_machine.specs.declared.event.How.TheVariants as how
use Rattle.run_machine.specs.declared.event.End.{End}
use Rattle.run_machine.specs.declared.event.End.TheVariants as end
use Rattle.run_machine.specs.declared.event.What.{What}
use Rattle.run_machine.specs.declared.event.What.TheVariants as what
use Rattle.run_machine.specs.declared.event.Event.{Event}
pub use Rattle.run_machine.specs.Named.{HasTask, HasWhat, IsEventOf, FitsTask, FitsWhat, FitsEvent}
use Rattle.run_machine.specs.StatusWords.{status_word}

abbrev pub got_word : Got → List ℕ
got_word got.Ordinary = codes "ordinary"
got_word got.Spare = codes "spare"
got_word got.Missed = codes "missed"

abbrev pub how_word : How → List ℕ
how_word how.Write = codes "write"
how_word how.Chain = codes "chain"
how_word how.Master = codes "master"
how_word how.Leg = codes "leg"

abbrev pub end_word : End → List ℕ
end_word end.Left = codes "left"
end_word end.Up = codes "up"
end_word end.Top = codes "top"

abbrev pub task_word : Stack → TaskId → List ℕ
task_word stack (task.Writer number) = codes "w" ++ decimal number
task_word stack (task.Rescuer dev) = codes "r:" ++ name_of_device stack dev.0
task_word stack (task.Completer disk) = codes "c:" ++ name_of_device stack disk.0
task_word stack task.Keeper = codes "k"

-- that a node was opened, that it was told of an end, that a write is done and that a round starts, in words
abbrev pub link_words : ℕ → How → ℕ → List (List ℕ)
link_words writer how node = codes "link" ∷ decimal writer ∷ how_word how ∷ decimal node ∷ []

abbrev pub drop_words : ℕ → ℕ → Status → End → List (List ℕ)
drop_words writer node status end = codes "drop" ∷ decimal writer ∷ decimal node ∷ status_word status ∷ end_word end ∷ []

abbrev pub done_words : ℕ → Status → List (List ℕ)
done_words write status = codes "done" ∷ decimal write ∷ status_word status ∷ []

abbrev pub round_words : ℕ → List (List ℕ)
round_words round = codes "round" ∷ decimal round ∷ []

-- what a task did, in words
abbrev pub what_words : Stack → What → List (List ℕ)
what_words stack (what.Take pool got) = codes "take" ∷ pool_name stack pool ∷ got_word got ∷ []
what_words stack (what.Try pool got) = codes "try" ∷ pool_name stack pool ∷ got_word got ∷ []
what_words stack (what.Give pool) = codes "give" ∷ pool_name stack pool ∷ []
what_words stack (what.Punt dev moved) = codes "punt" ∷ name_of_device stack dev.0 ∷ decimal moved ∷ []
what_words stack (what.Pop dev) = codes "pop" ∷ name_of_device stack dev.0 ∷ []
what_words stack (what.Push disk at len leg) =
    codes "push" ∷ name_of_device stack disk.0 ∷ decimal at ∷ decimal len ∷ codes "leg" ∷ decimal leg ∷ []
what_words stack (what.Complete disk index status) = codes "complete" ∷ name_of_device stack disk.0 ∷ decimal index ∷ status_word status ∷ []
what_words stack (what.Link writer how node) = link_words writer how node
what_words stack (what.Drop writer node status end) = drop_words writer node status end
what_words stack (what.Done write status) = done_words write status
what_words stack (what.Resize pool min) = codes "resize" ∷ pool_name stack pool ∷ decimal min ∷ []
what_words stack (what.Round round) = round_words round

abbrev pub words_of : Stack → Event → List (List ℕ)
words_of stack event = codes "event" ∷ task_word stack event.task ∷ what_words stack event.what

-- the words, with one blank between any two
abbrev pub line_of_event : Stack → Event → List ℕ
line_of_event stack event = join_with_byte 32 (words_of stack event)
