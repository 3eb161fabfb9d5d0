-- What everything in a state is charged: no fewer events than can still come of it. Each event lowers the rank of the state, which is the
-- sum of these charges without what is spent of them.
use Rattle.std.specs.Prelude.{◌+◌, ◌-◌, ◌*◌, ◌≤◌, ◌==◌, ◌&&◌, not, if◌then◌else◌, nat_lt, ℕ, Bool, true, false, List, [], ◌∷◌, length, sum_by, Option, None, Some}
use Rattle.std.specs.List.{range_with_len}
use Rattle.elem_ledger.specs.Ledger.{LedgerId}
use Rattle.fail_script.specs.Script.{entries_of}
use Rattle.stack_base.specs.declared.ids.Range.{Range}
use Rattle.stack_base.specs.Mapping.{slot, head}
use Rattle.stack_base.specs.Tree.{Tree, Leaf, Split, Mirrored}
use Rattle.layout_model.specs.declared.write.Write.{Write}
use Rattle.mempool_core.specs.Move.{PoolState}
use Rattle.bio_records.specs.declared.bio.Bio.{Bio}
use Rattle.bio_records.specs.declared.bio.Pad.{Pad}
use Rattle.bio_records.specs.Items.{Item}
use Rattle.bio_books.specs.Books.{VectorItem, SlipItem, Holding, parent_of}
use Rattle.run_machine.specs.declared.event.Event.{Event}
use Rattle.run_machine.specs.Scene.{Setup, Scene, tree_at}
use Rattle.run_machine.specs.Submissions.{Want, Takes, WantsPunt, Links, ToPush, ToCut, ToRecord, ToMaster, Doing, Rests, Drives, Copies, Breaks}
use Rattle.run_machine.specs.Tasks.{Todo, Gathered, NoBio, HasBio, HasBoth, Duty, Resizes, Starts, Keeps, Stops, TaskState, Writer, Rescuer, Completer, Keeper, needs_vector}
use Rattle.run_machine.specs.Opened.{Scenario, scene, start}
use Rattle.run_machine.specs.Runs.{State, IsRun}
use Rattle.block_core.specs.Payers.{Payer, WriteBio, WriteVector, Record, PieceBio, Fragment, ScriptEntry, LaterRound, ReserveChange, payer_at, Paid, MissesAtOnce, IsPunted, IsTaken, IsLinked, IsPopped, IsCompleted, EndsItself, EndsForParent, IsGiven, IsDone, cost, unit_price}
use Rattle.block_core.specs.Touches.{is_master, none_was}
use Rattle.block_core.specs.Weights.{Weight, Spot, Lined, Rescued, Pending, Brought, sum_at, total_weight, weigh_option, legs_left, no_weight}
use Rattle.block_core.specs.Scenarios.{IsScenario, IsNaming}

-- what begins at sector s of a run that starts at r, here and below: at a disk a fragment is pushed and completed, where the run starts;
-- where a device cuts, all that a bio pays for, for each head but the run's first: an attempt that does not wait and misses, a punt, a take, a
-- link, a pop, the end of its own fragment, its parent's, and that it is given back; and where one copies, where the run starts, a take, a
-- link, an end and a give of the record, and a bio for each member
unfoldable pub begun_charge : (Paid → ℕ) → Tree → ℕ → ℕ → ℕ
begun_charge price (Leaf number sectors) r s = if r == s then cost price Fragment else 0
begun_charge price (Split number kind sizes members) r s =
    (if (head kind sizes r s == s) && not (r == s) then cost price PieceBio else 0)
    + begun_charge price (members (slot kind sizes s).member) (slot kind sizes (head kind sizes r s)).at (slot kind sizes s).at
begun_charge price (Mirrored number sizes members) r s =
    (if r == s then cost price Record + sum_by (λ leg. cost price PieceBio) (range_with_len 0 (length sizes)) else 0)
    + sum_by (λ k. begun_charge price (members k) r s) (range_with_len 0 (length sizes))

-- what the run of len sectors from r on is charged
unfoldable pub run_charge : (Paid → ℕ) → Tree → ℕ → ℕ → ℕ
run_charge price t r len = sum_by (λ s. begun_charge price t r s) (range_with_len r len)

abbrev pub bio_run_charge : (Paid → ℕ) → Setup → Bio → ℕ
bio_run_charge price setup bio = run_charge price (tree_at setup bio.dev) bio.range.start bio.range.len

-- a bio of the set of a device below the limit may come to the rescuer of the set, whose own limit is that device: so it comes there once
abbrev pub may_pop : (Paid → ℕ) → ℕ → ℕ → ℕ
may_pop price limit number = if nat_lt number (2 * limit) then price IsPopped else 0

-- a bio is given back, once its end was told
abbrev pub end_charge : (Paid → ℕ) → Payer → ℕ
end_charge price payer = price (EndsItself payer) + price (IsGiven payer)

abbrev pub bio_charge : (Paid → ℕ) → Setup → Spot → Item Pad → ℕ
bio_charge price setup (Lined limit) item = end_charge price (payer_at item.share.no) + may_pop price limit item.share.no + bio_run_charge price setup item.bio
bio_charge price setup Rescued item = end_charge price (payer_at item.share.no) + price IsPopped + bio_run_charge price setup item.bio
bio_charge price setup Pending item = end_charge price (payer_at item.share.no) + price IsCompleted
bio_charge price setup Brought item = end_charge price (payer_at item.share.no)

-- the legs that are still to be made
abbrev pub leg_charge : (Paid → ℕ) → Tree → Range → ℕ → ℕ
leg_charge price (Leaf number sectors) range leg = 0
leg_charge price (Split number kind sizes members) range leg = 0
leg_charge price (Mirrored number sizes members) range leg = cost price PieceBio + run_charge price (members leg) range.start range.len

abbrev pub legs_charge : (Paid → ℕ) → Setup → Bio → ℕ → ℕ
legs_charge price setup bio leg = sum_by (leg_charge price (tree_at setup bio.dev) bio.range) (range_with_len leg (legs_left setup bio leg))

abbrev pub one_if_some : {X : Type 0} → Option X → ℕ
one_if_some None = 0
one_if_some (Some x) = 1

-- a write that is still to begin, whether it has its bio, and whether it has its vector too
abbrev pub write_run : (Paid → ℕ) → Setup → Todo → ℕ
write_run price setup todo = run_charge price (tree_at setup todo.write.dev) todo.write.start todo.write.count

abbrev pub vector_charge : (Paid → ℕ) → Write → ℕ
vector_charge price write = if needs_vector write then cost price WriteVector else 0

abbrev pub write_charge : (Paid → ℕ) → Setup → Todo → ℕ
write_charge price setup todo = cost price WriteBio + vector_charge price todo.write + write_run price setup todo

abbrev pub todo_charge : (Paid → ℕ) → Setup → List Todo → Gathered → ℕ
todo_charge price setup [] taken = 0
todo_charge price setup (todo ∷ later) NoBio = write_charge price setup todo + sum_by (write_charge price setup) later
todo_charge price setup (todo ∷ later) (HasBio bio) =
    price (IsLinked WriteBio) + end_charge price WriteBio + price IsDone + vector_charge price todo.write + write_run price setup todo + sum_by (write_charge price setup) later
todo_charge price setup (todo ∷ later) (HasBoth bio vector) =
    price (IsLinked WriteBio) + end_charge price WriteBio + price IsDone + price (IsGiven WriteVector) + write_run price setup todo + sum_by (write_charge price setup) later

-- what is held is given back
abbrev pub give_charge : (Paid → ℕ) → Option (Item Pad) → ℕ
give_charge price None = 0
give_charge price (Some bio) = price (IsGiven (payer_at bio.share.no))

abbrev pub held_charge : (Paid → ℕ) → Holding → ℕ
held_charge price held =
    give_charge price held.bio + weigh_option (λ (vector : VectorItem). price (IsGiven (payer_at vector.share.no))) held.vector
    + weigh_option (λ (slip : SlipItem). price (IsGiven (payer_at slip.share.no))) held.slip

-- and the end of a node is told to its parent, by whether it is a master, or is that of its write
abbrev pub close_charge : (Paid → ℕ) → Bool → Option ℕ → ℕ
close_charge price of_master None = price IsDone
close_charge price true (Some parent) = price (EndsForParent Record)
close_charge price false (Some parent) = price (EndsForParent PieceBio)

-- where what is left of a node that a task carries was a master as this says, by the places of tasks
abbrev pub charge : (Paid → ℕ) → (ℕ → Bool) → Setup → Weight
charge price was_master setup = record no_weight {
  todo = λ writer todos taken. todo_charge price setup todos taken;
  bio = bio_charge price setup;
  copy = λ bio master leg. legs_charge price setup bio leg;
  node = λ writer place node. close_charge price (is_master node.role) (parent_of node.role) + held_charge price node.held;
  closed = λ task writer closed. close_charge price (was_master task) closed.parent + held_charge price closed.held;
}

-- what a task has spent on the element that it asks for: an attempt that does not wait and missed, a punt and a take
abbrev pub want_spent : (Paid → ℕ) → Want → ℕ
want_spent price (Takes false) = 0
want_spent price (Takes true) = price MissesAtOnce + price IsPunted
want_spent price WantsPunt = price MissesAtOnce
want_spent price (Links hand) = price MissesAtOnce + price IsPunted + price (IsTaken PieceBio)

abbrev pub doing_spent : (Paid → ℕ) → Doing → ℕ
doing_spent price Rests = 0
doing_spent price (Drives bio ToPush) = 0
doing_spent price (Drives bio (ToCut want)) = want_spent price want
doing_spent price (Drives bio ToRecord) = 0
doing_spent price (Drives bio (ToMaster slip)) = price (IsTaken Record)
doing_spent price (Copies bio master leg want) = want_spent price want
doing_spent price (Breaks breach kept) = 0

abbrev pub task_spent : (Paid → ℕ) → TaskState → ℕ
task_spent price (Writer number todo taken submission) = doing_spent price submission.doing
task_spent price (Rescuer dev submission) = doing_spent price submission.doing
task_spent price (Completer disk carried) = 0
task_spent price (Keeper keeping) = 0

-- what the keeper has still to do, and what that costs
abbrev pub task_duties : TaskState → ℕ
task_duties (Writer number todo taken submission) = 0
task_duties (Rescuer dev submission) = 0
task_duties (Completer disk carried) = 0
task_duties (Keeper (Keeps duties)) = length duties
task_duties (Keeper (Stops breach)) = 0

abbrev pub duties_left : Scene → State → ℕ
duties_left scene s = sum_at (λ place task. task_duties task) scene.tasks s.task

abbrev pub duty_charge : (Paid → ℕ) → Duty → ℕ
duty_charge price (Resizes pool min later) = cost price ReserveChange
duty_charge price (Starts round later) = cost price LaterRound

abbrev pub task_charge : (Paid → ℕ) → TaskState → ℕ
task_charge price (Writer number todo taken submission) = 0
task_charge price (Rescuer dev submission) = 0
task_charge price (Completer disk carried) = 0
task_charge price (Keeper (Keeps duties)) = sum_by (duty_charge price) duties
task_charge price (Keeper (Stops breach)) = 0

-- the entries of a pool's script that no take has used up
abbrev pub entries_left : PoolState → ℕ
entries_left pool = entries_of pool.script - pool.facts.pos

-- the numbers of pools lie below this: two for each of 32 devices, and the two that writes begin with
abbrev pub pool_number_bound : ℕ
pool_number_bound = 66

abbrev pub charged : (Paid → ℕ) → (ℕ → Bool) → Scene → State → ℕ
charged price was_master scene s =
    total_weight scene (charge price was_master scene.setup) s + cost price ScriptEntry * sum_at (λ number pool. entries_left pool) pool_number_bound s.objects.pool
    + sum_at (λ place task. task_charge price task) scene.tasks s.task

abbrev pub spent_charges : (Paid → ℕ) → Scene → State → ℕ
spent_charges price scene s = sum_at (λ place task. task_spent price task) scene.tasks s.task

-- the charges of a state that are still open: all of them, without what is spent. In a state that a run reaches no more is spent than is charged
-- (`NoMoreIsSpent` in `Paying`), so the difference cuts nothing off there
abbrev pub open_charges : (Paid → ℕ) → (ℕ → Bool) → Scene → State → ℕ
open_charges price was_master scene s = charged price was_master scene s - spent_charges price scene s

-- and where each event costs one, an end of a master as another one
abbrev pub state_rank : Scene → State → ℕ
state_rank scene s = open_charges unit_price none_was scene s

-- Of each reached state: a run of n events from it lowers the rank by n at least.
abbrev pub EventsLowerRank : Type 0
EventsLowerRank = (s : Scenario) (ledger : ℕ → LedgerId) (before later : List Event) (old new : State) → IsScenario s → IsNaming ledger
    → IsRun (scene s ledger) (start s) before old → IsRun (scene s ledger) old later new
    → length later + state_rank (scene s ledger) new ≤ state_rank (scene s ledger) old
