-- How many things pay for events, by the layout, and so how many events of each kind a run has at most.
use Rattle.std.specs.Prelude.{◌≡◌, ◌+◌, ◌-◌, ◌*◌, ◌≤◌, ◌==◌, ◌&&◌, not, if◌then◌else◌, ℕ, Bool, true, false, List, [], ◌∷◌, length, sum_by}
use Rattle.std.specs.List.{range_with_len}
use Rattle.elem_ledger.specs.Ledger.{LedgerId}
use Rattle.fail_script.specs.Script.{Answers, entries_of}
use Rattle.stack_base.specs.declared.ids.PoolId.{PoolId}
use Rattle.stack_base.specs.Mapping.{slot, head}
use Rattle.stack_base.specs.Tree.{Tree, Leaf, Split, Mirrored, tree}
use Rattle.layout_model.specs.declared.write.Write.{Write}
use Rattle.layout_model.specs.Bound.{all_elements, all_fragments}
use Rattle.layout_model.specs.Need.{vectors}
use Rattle.run_machine.specs.declared.event.Event.{Event}
use Rattle.run_machine.specs.Opened.{Scenario, round_count, scene, start}
use Rattle.run_machine.specs.Runs.{State, IsRun}
use Rattle.block_core.specs.Payers.{Payer, WriteBio, WriteVector, Record, PieceBio, Fragment, ScriptEntry, LaterRound, ReserveChange, Paid, cost}
use Rattle.block_core.specs.Payers as paid
use Rattle.block_core.specs.Paying.{costs, all_costs}
use Rattle.block_core.specs.Touches.{none_was}
use Rattle.block_core.specs.Scenarios.{IsScenario, IsNaming}

-- the records of mirrors that begin at sector s of a run that starts at r, here and below
unfoldable pub records_begun : Tree → ℕ → ℕ → ℕ
records_begun (Leaf number sectors) r s = 0
records_begun (Split number kind sizes members) r s =
    records_begun (members (slot kind sizes s).member) (slot kind sizes (head kind sizes r s)).at (slot kind sizes s).at
records_begun (Mirrored number sizes members) r s =
    (if r == s then 1 else 0) + sum_by (λ k. records_begun (members k) r s) (range_with_len 0 (length sizes))

-- and the bios of first pieces and of legs
unfoldable pub pieces_begun : Tree → ℕ → ℕ → ℕ
pieces_begun (Leaf number sectors) r s = 0
pieces_begun (Split number kind sizes members) r s =
    (if (head kind sizes r s == s) && not (r == s) then 1 else 0)
    + pieces_begun (members (slot kind sizes s).member) (slot kind sizes (head kind sizes r s)).at (slot kind sizes s).at
pieces_begun (Mirrored number sizes members) r s =
    (if r == s then length sizes else 0) + sum_by (λ k. pieces_begun (members k) r s) (range_with_len 0 (length sizes))

-- those of a run of len sectors from r on
unfoldable pub record_count : Tree → ℕ → ℕ → ℕ
record_count t r len = sum_by (λ s. records_begun t r s) (range_with_len r len)

unfoldable pub piece_count : Tree → ℕ → ℕ → ℕ
piece_count t r len = sum_by (λ s. pieces_begun t r s) (range_with_len r len)

-- how many of each kind pay in a scenario
abbrev pub payers : Scenario → Payer → ℕ
payers s WriteBio = length s.writes
payers s WriteVector = sum_by (λ (write : Write). vectors write.count) s.writes
payers s Record = sum_by (λ (write : Write). record_count (tree s.stack write.dev.0) write.start write.count) s.writes
payers s PieceBio = sum_by (λ (write : Write). piece_count (tree s.stack write.dev.0) write.start write.count) s.writes
payers s Fragment = all_fragments s.stack s.writes
payers s ScriptEntry = sum_by (λ (script : PoolId × Answers). entries_of script.1) s.scripts
payers s LaterRound = round_count s - 1
payers s ReserveChange = length s.changes

abbrev pub every_payer : List Payer
every_payer = WriteBio ∷ WriteVector ∷ Record ∷ PieceBio ∷ Fragment ∷ ScriptEntry ∷ LaterRound ∷ ReserveChange ∷ []

-- The elements that all writes need are four of these kinds. And all that pays is charged what each of them costs.
abbrev pub PayersAreCounted : Type 0
PayersAreCounted = (s : Scenario)
    → (payers s WriteBio + payers s WriteVector + payers s Record + payers s PieceBio ≡ all_elements s.stack s.writes)
    × ((price : Paid → ℕ) → all_costs price s ≡ sum_by (λ payer. cost price payer * payers s payer) every_payer)

abbrev pub is_payer : Payer → Payer → Bool
is_payer WriteBio WriteBio = true
is_payer WriteVector WriteVector = true
is_payer Record Record = true
is_payer PieceBio PieceBio = true
is_payer Fragment Fragment = true
is_payer ScriptEntry ScriptEntry = true
is_payer LaterRound LaterRound = true
is_payer ReserveChange ReserveChange = true
is_payer payer other = false

-- whether two kinds of event are the same
abbrev pub is_kind : Paid → Paid → Bool
is_kind (paid.IsTaken payer) (paid.IsTaken other) = is_payer payer other
is_kind (paid.IsLinked payer) (paid.IsLinked other) = is_payer payer other
is_kind (paid.EndsItself payer) (paid.EndsItself other) = is_payer payer other
is_kind (paid.EndsForParent payer) (paid.EndsForParent other) = is_payer payer other
is_kind (paid.IsGiven payer) (paid.IsGiven other) = is_payer payer other
is_kind paid.MissesAtOnce paid.MissesAtOnce = true
is_kind paid.IsPunted paid.IsPunted = true
is_kind paid.IsPopped paid.IsPopped = true
is_kind paid.IsPushed paid.IsPushed = true
is_kind paid.IsCompleted paid.IsCompleted = true
is_kind paid.IsDone paid.IsDone = true
is_kind paid.MissesWaiting paid.MissesWaiting = true
is_kind paid.Starts paid.Starts = true
is_kind paid.Resizes paid.Resizes = true
is_kind kind other = false

-- Of each kind no more events come than there are of what pays for it, so no more punts and pops than bios of pieces and legs.
abbrev pub most_times : Scenario → Paid → ℕ
most_times s (paid.IsTaken payer) = payers s payer
most_times s (paid.IsLinked payer) = payers s payer
most_times s (paid.EndsItself payer) = payers s payer
most_times s (paid.EndsForParent payer) = payers s payer
most_times s (paid.IsGiven payer) = payers s payer
most_times s paid.MissesAtOnce = payers s PieceBio
most_times s paid.IsPunted = payers s PieceBio
most_times s paid.IsPopped = payers s PieceBio
most_times s paid.IsPushed = payers s Fragment
most_times s paid.IsCompleted = payers s Fragment
most_times s paid.IsDone = payers s WriteBio
most_times s paid.MissesWaiting = payers s ScriptEntry
most_times s paid.Starts = payers s LaterRound
most_times s paid.Resizes = payers s ReserveChange

-- how often a kind comes is what a run costs where each event of it costs one, and no other costs anything
abbrev pub EachKindIsWithinItsPayers : Type 0
EachKindIsWithinItsPayers = (s : Scenario) (ledger : ℕ → LedgerId) (events : List Event) (state : State) → IsScenario s → IsNaming ledger
    → (run : IsRun (scene s ledger) (start s) events state) → (kind : Paid)
    → costs (λ other. if is_kind kind other then 1 else 0) (scene s ledger) none_was (start s) events state run ≤ most_times s kind
