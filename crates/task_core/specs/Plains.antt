-- The objects of one thread: what they are as the objects of a run, and what holds of them between calls.
use Rattle.std.specs.Prelude.{◌≡◌, ◌⊎◌, ◌+◌, ◌%◌, ◌<◌, ◌≤◌, ◌==◌, ◌||◌, if◌then◌else◌, ℕ, Bool, true, Option, None, Some, [], length, map, filter}
use Rattle.std.specs.List.{range_with_len}
use Rattle.elem_ledger.specs.Ledger.{LedgerId}
use Rattle.fail_script.specs.Script.{only_tail}
use Rattle.stack_base.specs.declared.ids.DevId.{DevId}
use Rattle.stack_base.specs.declared.ids.PoolId.TheVariants.{Records}
use Rattle.stack_base.specs.declared.ids.SetId.{SetId}
use Rattle.stack_base.specs.declared.stack.Stack.{Stack}
use Rattle.stack_base.specs.PoolId.{pool_number}
use Rattle.stack_base.specs.Stack.{IsStack}
use Rattle.stack_base.specs.Tree.{tree, size}
use Rattle.layout_model.specs.May.{bads_of}
use Rattle.mempool_core.specs.Move.{opened}
use Rattle.mempool_core.specs.Pool.{LedgerPool}
use Rattle.bioset_pools.specs.Sets.{bios_of}
use Rattle.bio_records.specs.Rescue.{Rescue}
use Rattle.bio_books.specs.Books.{BookState}
use Rattle.model_disks.specs.Disks.{DiskState, waiting_count}
use Rattle.model_disks.specs.Moves as disk
use Rattle.task_core.specs.declared.plain.Plain.{Plain}
use Rattle.task_core.specs.declared.plain.tally.Tally.{Tally}
use Rattle.task_core.specs.Tables.{look_up, AreAt}
use Rattle.run_machine.specs.Requests.{Request, Reply, NextRound, Did}
use Rattle.run_machine.specs.Objects.{TallyState, Objects, Serves}
use Rattle.run_machine.specs.Events.{pool_of}
use Rattle.run_machine.specs.Opened.{device_at, reserve_of, opened_disk}
use Rattle.task_core.specs.ObjectsOf.{AreObjectsOf, AreNumbered}
use Rattle.task_steps.specs.Stage.{Stage, has_book, has_rescuer, has_disk, is_bios, is_slips}

-- of what number each kind of entry is
abbrev pub set_number : SetId × LedgerPool → ℕ
set_number entry = pool_number (bios_of entry.0)

abbrev pub records_number : DevId × LedgerPool → ℕ
records_number entry = pool_number (Records entry.0)

abbrev pub list_number : DevId × Rescue → ℕ
list_number entry = entry.0.0

abbrev pub disk_number : DiskState → ℕ
disk_number disk = disk.dev.0

abbrev pub book_number : ℕ × BookState → ℕ
book_number entry = entry.0

-- what the objects have of a number that none of them has: as opened, and with nothing in it
abbrev pub no_pool : Stack → LedgerId → ℕ → LedgerPool
no_pool stack some number = record {
  ledger = record some { no = number };
  state = opened (reserve_of stack (pool_of number)) (only_tail true);
  most = reserve_of stack (pool_of number);
}

abbrev pub no_book : ℕ → BookState
no_book writer = record { writer = writer; nodes = [] }

-- the numbers of pools of bios: that of the writers' set is 65, and those of devices are even
abbrev pub is_bios_number : ℕ → Bool
is_bios_number number = number == 65 || number % 2 == 0

-- what a number stands for among pools: the vectors' is 64, and those of records are odd
abbrev pub by_kind : {X : Type 0} → X → (ℕ → X) → (ℕ → X) → ℕ → X
by_kind vecs bios records number = if number == 64 then vecs else if is_bios_number number then bios number else records number

abbrev pub bios_at : Plain → ℕ → LedgerPool
bios_at plain = look_up set_number (λ entry. entry.1) (no_pool plain.stage.value.stack plain.vecs.ledger) plain.bios.items

abbrev pub records_at : Plain → ℕ → LedgerPool
records_at plain = look_up records_number (λ entry. entry.1) (no_pool plain.stage.value.stack plain.vecs.ledger) plain.records.items

-- the pool of a number
abbrev pub pool_at : Plain → ℕ → LedgerPool
pool_at plain = by_kind plain.vecs (bios_at plain) (records_at plain)

abbrev pub tally_of : Tally → TallyState
tally_of tally = record { round = tally.round; left = tally.left.items; statuses = tally.statuses.items }

abbrev pub objects_of : Plain → Objects
objects_of plain = record {
  pool = λ number. (pool_at plain number).state;
  rescue = look_up list_number (λ entry. entry.1.bios) (λ dev. []) plain.lists.items;
  disk = look_up disk_number (λ disk. disk) (opened_disk plain.stage.value.stack) plain.disks.items;
  book = look_up book_number (λ entry. entry.1) no_book plain.books.items;
  tally = tally_of plain.tally;
}

-- the stage of these objects: the routing, how many writes there are, and of each pool the ledger and the most that its reserve may be
abbrev pub stage_of : Plain → Stage
stage_of plain = record {
  routing = plain.stage.value;
  writes = length plain.tally.statuses.items;
  ledger = λ number. (pool_at plain number).ledger;
  most = λ number. (pool_at plain number).most;
}

-- Each object that a stack has stands where the tables say, and the disks stand in the order of the devices.
pub record AreEntered (plain : Plain) : Type 0 where
  pub bios : AreAt set_number (is_bios (stage_of plain)) plain.index.bios plain.bios.items
  pub records : AreAt records_number (is_slips (stage_of plain)) plain.index.records plain.records.items
  pub lists : AreAt list_number (λ dev. has_rescuer (stage_of plain) (device_at dev)) plain.index.lists plain.lists.items
  pub disks : AreAt disk_number (λ dev. has_disk (stage_of plain) (device_at dev)) plain.index.disks plain.disks.items
  pub books : AreAt book_number (has_book (stage_of plain)) plain.index.books plain.books.items
  pub order : map disk_number plain.disks.items ≡ filter (λ dev. has_disk (stage_of plain) (device_at dev)) (range_with_len 0 (length plain.stage.value.stack.devices.items))

-- What holds of these objects between calls.
pub record Holds (plain : Plain) : Type 0 where
  pub stack_is : IsStack plain.stage.value.stack
  pub numbered : AreNumbered (stage_of plain)
  pub entered : AreEntered plain
  pub objects : AreObjectsOf (stage_of plain) (objects_of plain)

-- the round behind the present one becomes the present one, where there is one
abbrev pub Advances : TallyState → TallyState → Type 0
Advances old new =
    ((old.round + 1 < length old.left) × (new ≡ record old { round = old.round + 1 })) ⊎ ((length old.left ≤ old.round + 1) × (new ≡ old))

-- where no later round exists, the last one stays: an object answers each call, even one for which the machine has no event
abbrev pub StaysLast : Objects → Request → Reply → Objects → Type 0
StaysLast old (NextRound round) Did new = (length old.tally.left ≤ old.tally.round + 1) × (new ≡ old)
StaysLast old request reply new = ⊥

-- what they tell of a call
abbrev pub PlainServes : Plain → Request → Reply → Plain → Type 0
PlainServes old request reply new =
    Serves (stage_of old).ledger (objects_of old) request reply (objects_of new) ⊎ StaysLast (objects_of old) request reply (objects_of new)

-- how many bios wait in a disk, as a look tells it
abbrev pub PlainFinds : Plain → Plain → DevId → ℕ → Type 0
PlainFinds old new dev pending = pending ≡ waiting_count ((objects_of old).disk dev.0)

-- the bio at the chosen place is completed, which nobody took meanwhile
abbrev pub PlainPicks : Plain → Plain → DevId → ℕ → ℕ → Option ℕ → Type 0
PlainPicks old new dev pending chosen (Some index) = (pending ≡ waiting_count ((objects_of old).disk dev.0)) × (index ≡ chosen)
PlainPicks old new dev pending chosen None = ⊥
