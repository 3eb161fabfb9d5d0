-- What becomes of a choice in a step, seen as the objects show themselves.
use Rattle.std.proofs.Common.{◌≡◌, ℕ, Option, inl, inr}
use Rattle.stack_base.specs.declared.ids.DevId.{DevId}
use Rattle.run_machine.specs.declared.event.Event.{Event}
use Rattle.run_machine.specs.declared.event.What.{What}
use Rattle.run_machine.specs.declared.event.What.TheVariants as what
use Rattle.run_machine.specs.Tasks.{TaskState, Writer, Rescuer, Completer, Keeper}
use Rattle.task_steps.specs.declared.step.Step.{Step}
use Rattle.task_steps.specs.declared.step.Step.TheVariants.{Stepped, Blocked, Waiting, Ended, Broken}
use Rattle.task_steps.specs.Turns.{Chosen}
use Rattle.task_steps.specs.TaskViews.{ChosenBy}

module _ {S T C : Type 0} (seen : S → T) (chooses : C → ℕ → ℕ → C → Type 0) (picks : T → DevId → ℕ → ℕ → Option ℕ → Type 0) (now : S) (old new : C) where
  chosen_by : (own : DevId) (event : Event) (w : What)
      → Chosen chooses (λ objects. picks (seen objects)) now own old (Stepped (record event { what = w })) new
      → Chosen chooses picks (seen now) own old (Stepped (record event { what = w })) new
  -- completions, which choose
  chosen_by own event (what.Complete disk index status) chosen = chosen
  -- pools
  chosen_by own event (what.Take pool got) chosen = chosen
  chosen_by own event (what.Try pool got) chosen = chosen
  chosen_by own event (what.Give pool) chosen = chosen
  -- lists of rescuers
  chosen_by own event (what.Punt dev moved) chosen = chosen
  chosen_by own event (what.Pop dev) chosen = chosen
  -- pushes to disks
  chosen_by own event (what.Push disk at len leg) chosen = chosen
  -- books
  chosen_by own event (what.Link writer how node) chosen = chosen
  chosen_by own event (what.Drop writer node status end) chosen = chosen
  -- the tally and reserves
  chosen_by own event (what.Done write status) chosen = chosen
  chosen_by own event (what.Resize pool min) chosen = chosen
  chosen_by own event (what.Round round) chosen = chosen

  chosen : (own : DevId) (step : Step) → Chosen chooses (λ objects. picks (seen objects)) now own old step new → Chosen chooses picks (seen now) own old step new
  chosen own (Stepped event) is = chosen_by own event event.what is
  chosen own (Blocked pool) is = is
  chosen own Waiting (inl same) = inl same
  chosen own Waiting (inr (between, asked)) = inr (seen between, asked)
  chosen own Ended (inl same) = inl same
  chosen own Ended (inr (between, asked)) = inr (seen between, asked)
  chosen own (Broken breach) (inl same) = inl same
  chosen own (Broken breach) (inr (between, asked)) = inr (seen between, asked)

  pub choices_seen : (task : TaskState) (step : Step) → ChosenBy task chooses (λ objects. picks (seen objects)) now old step new
      → ChosenBy task chooses picks (seen now) old step new
  choices_seen (Writer number todo taken submission) step is = is
  choices_seen (Rescuer dev submission) step is = is
  choices_seen (Completer disk carried) step is = chosen disk step is
  choices_seen (Keeper keeping) step is = is
