-- How the events of a run are paid for: each by a charge of its own.
use Rattle.std.specs.Prelude.{◌+◌, ◌-◌, ◌*◌, ◌≤◌, ℕ, Bool, true, false, List, [], ◌∷◌, sum_by}
use Rattle.std.specs.List.{range_with_len}
use Rattle.elem_ledger.specs.Ledger.{LedgerId}
use Rattle.fail_script.specs.Script.{Answers, entries_of}
use Rattle.stack_base.specs.declared.ids.PoolId.{PoolId}
use Rattle.stack_base.specs.declared.stack.Stack.{Stack}
use Rattle.stack_base.specs.Tree.{tree}
use Rattle.layout_model.specs.declared.write.Write.{Write}
use Rattle.run_machine.specs.declared.event.Event.{Event}
use Rattle.run_machine.specs.declared.event.Got.TheVariants as got
use Rattle.run_machine.specs.declared.event.How.{How}
use Rattle.run_machine.specs.declared.event.How.TheVariants as how
use Rattle.run_machine.specs.declared.event.What.{What}
use Rattle.run_machine.specs.declared.event.What.TheVariants as what
use Rattle.run_machine.specs.Opened.{Change, Scenario, round_count, scene, start}
use Rattle.run_machine.specs.Runs.{State, IsRun}
use Rattle.run_machine.specs.Scene.{Scene}
use Rattle.run_machine.specs.Tasks.{Carried, Empty, Brings, TaskState, Completer}
use Rattle.block_core.specs.Charges.{run_charge, vector_charge, charged, spent_charges, open_charges}
use Rattle.block_core.specs.Payers.{Payer, WriteBio, Record, PieceBio, ScriptEntry, LaterRound, ReserveChange, payer_of, payer_at, Paid, cost}
use Rattle.block_core.specs.Payers as paid
use Rattle.block_core.specs.Touches.{touch_of, masters_after, were_masters, none_was}
use Rattle.block_core.specs.Scenarios.{IsScenario, IsNaming}

-- the kind of an end that a task tells next: of a bio that it brings, or of a node that has closed, by whether that was a master
abbrev pub end_carried : Bool → Carried → Paid
end_carried was_master (Brings bio status) = paid.EndsItself (payer_at bio.share.no)
end_carried true carried = paid.EndsForParent Record
end_carried false carried = paid.EndsForParent PieceBio

-- only completers tell ends
abbrev pub end_told : Bool → TaskState → Paid
end_told was_master (Completer disk carried) = end_carried was_master carried
end_told was_master task = end_carried was_master Empty

-- what a node is opened for: a write, the first piece of a bio or a leg, or a mirror's record
abbrev pub linked_for : How → Payer
linked_for how.Write = WriteBio
linked_for how.Chain = PieceBio
linked_for how.Master = Record
linked_for how.Leg = PieceBio

-- the kind of event that is paid for, by that of the end which its task tells
abbrev pub paid_as : Paid → What → Paid
paid_as end (what.Take pool got.Missed) = paid.MissesWaiting
paid_as end (what.Take pool got) = paid.IsTaken (payer_of pool)
paid_as end (what.Try pool got.Missed) = paid.MissesAtOnce
paid_as end (what.Try pool got) = paid.IsTaken (payer_of pool)
paid_as end (what.Give pool) = paid.IsGiven (payer_of pool)
paid_as end (what.Punt dev moved) = paid.IsPunted
paid_as end (what.Pop dev) = paid.IsPopped
paid_as end (what.Push disk at len leg) = paid.IsPushed
paid_as end (what.Complete disk index status) = paid.IsCompleted
paid_as end (what.Link writer opening node) = paid.IsLinked (linked_for opening)
paid_as end (what.Drop writer node status ended) = end
paid_as end (what.Done write status) = paid.IsDone
paid_as end (what.Resize pool min) = paid.Resizes
paid_as end (what.Round round) = paid.Starts

-- what the events of a run cost together, where what is left of a node that a task carries was a master as this says, by the places of tasks
abbrev pub costs : (Paid → ℕ) → (scene : Scene) → (ℕ → Bool) → (old : State) (events : List Event) (new : State) → IsRun scene old events new → ℕ
costs price scene was_master old [] new run = 0
costs price scene was_master old (event ∷ events) new (next, (place, steps), run) =
    price (paid_as (end_told (was_master place) (old.task place)) event.what)
    + costs price scene (masters_after old place (touch_of event.what) was_master) next events new run

-- what all that pays is charged: the writes, with the bios, the records and the fragments that they come to, the entries of scripts, the rounds behind
-- the first, and the changes of reserves
abbrev pub write_cost : (Paid → ℕ) → Stack → Write → ℕ
write_cost price stack write = cost price WriteBio + vector_charge price write + run_charge price (tree stack write.dev.0) write.start write.count

abbrev pub all_costs : (Paid → ℕ) → Scenario → ℕ
all_costs price s =
    sum_by (write_cost price s.stack) s.writes
    + cost price ScriptEntry * sum_by (λ (script : PoolId × Answers). entries_of script.1) s.scripts
    + sum_by (λ round. cost price LaterRound) (range_with_len 1 (round_count s - 1)) + sum_by (λ (change : Change). cost price ReserveChange) s.changes

-- However the kinds of event are priced, the events of a run cost no more than all that pays for them, each once for each of its events. So of each kind
-- no more events come than there are charges for it, and no two events need the same.
abbrev pub CostsAreCharged : Type 0
CostsAreCharged = (s : Scenario) (ledger : ℕ → LedgerId) (events : List Event) (state : State) → IsScenario s → IsNaming ledger
    → (run : IsRun (scene s ledger) (start s) events state) → (price : Paid → ℕ)
    → costs price (scene s ledger) none_was (start s) events state run ≤ all_costs price s

-- No more is ever spent than is charged, so what is charged without what is spent is all that is left.
abbrev pub NoMoreIsSpent : Type 0
NoMoreIsSpent = (s : Scenario) (ledger : ℕ → LedgerId) (events : List Event) (state : State) → IsScenario s → IsNaming ledger
    → (run : IsRun (scene s ledger) (start s) events state) → (price : Paid → ℕ)
    → spent_charges price (scene s ledger) state ≤ charged price (were_masters (scene s ledger) (start s) events state run none_was) (scene s ledger) state

-- And so it is from each reached state, with the charges that it has still open: the events behind it use up as much of them as they cost.
abbrev pub EventsUseUpCharges : Type 0
EventsUseUpCharges = (s : Scenario) (ledger : ℕ → LedgerId) (before later : List Event) (old new : State) → IsScenario s → IsNaming ledger
    → (first : IsRun (scene s ledger) (start s) before old) → (run : IsRun (scene s ledger) old later new) → (price : Paid → ℕ)
    → let then = were_masters (scene s ledger) (start s) before old first none_was in
    let now = were_masters (scene s ledger) old later new run then in
    costs price (scene s ledger) then old later new run + open_charges price now (scene s ledger) new ≤ open_charges price then (scene s ledger) old
