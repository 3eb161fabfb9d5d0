-- The objects as lists: pools by their numbers, the bios that wait for rescuers and the disks by devices, books by their writers.
use Rattle.std.specs.Prelude.{◌≡◌, ◌+◌, ◌*◌, ◌<◌, ◌≤◌, ◌==◌, ℕ, Bool, true, List, [], length, slice_index_or, slice_set, Option, None, Some, Result, Ok, Err}
use Rattle.fail_script.specs.Script.{only_tail}
use Rattle.stack_base.specs.declared.stack.Stack.{Stack}
use Rattle.stack_base.specs.Tree.{size, tree}
use Rattle.layout_model.specs.May.{bads_of}
use Rattle.mempool_core.specs.Move.{PoolState, opened}
use Rattle.bio_records.specs.declared.bio.Pad.{Pad}
use Rattle.bio_records.specs.Items.{Item}
use Rattle.bio_books.specs.Books.{BookState}
use Rattle.model_disks.specs.Disks.{DiskState}
use Rattle.model_disks.specs.Moves as disk
use Rattle.run_machine.specs.Scene.{keeps_data}
use Rattle.task_steps.specs.Within.{AreWithin}
use Rattle.run_machine.specs.Objects.{TallyState, Objects}
use Rattle.run_machine.specs.Opened.{opened_disk}
use Rattle.plain_core.specs.declared.fault.CoreFault.{CoreFault}
use Rattle.plain_core.specs.declared.fault.CoreFault.TheVariants as fault

pub record CoreObjects : Type 0 where
  -- whose objects they are
  pub stack : Stack
  pub pools : List PoolState
  pub rescues : List (List (Item Pad))
  -- of the devices that are disks
  pub disks : List (Option DiskState)
  pub books : List BookState
  pub tally : TallyState

-- the objects of a stack that are made of these
abbrev pub core_objects : Stack → List PoolState → List (List (Item Pad)) → List (Option DiskState) → List BookState → TallyState → CoreObjects
core_objects stack pools rescues disks books tally =
    record { stack = stack; pools = pools; rescues = rescues; disks = disks; books = books; tally = tally }

-- a stack has up to 32 devices
abbrev pub most_devices : ℕ
most_devices = 32

-- how many pools it has then: two for each device, and the two of the writers above it
abbrev pub most_pools : ℕ
most_pools = 2 * most_devices + 2

-- what stands for a pool that is not there: empty, with nothing out
abbrev pub no_core_pool : PoolState
no_core_pool = opened 0 (only_tail true)

abbrev pub core_pool_at : CoreObjects → ℕ → PoolState
core_pool_at o number = slice_index_or o.pools number no_core_pool

-- every element of a pool is at home
abbrev pub is_home : PoolState → Bool
is_home pool = pool.facts.out == 0

abbrev pub with_pool : CoreObjects → ℕ → PoolState → CoreObjects
with_pool o number pool = record o { pools = slice_set o.pools number pool }

abbrev pub core_rescue_at : CoreObjects → ℕ → List (Item Pad)
core_rescue_at o dev = slice_index_or o.rescues dev []

abbrev pub with_rescue : CoreObjects → ℕ → List (Item Pad) → CoreObjects
with_rescue o dev bios = record o { rescues = slice_set o.rescues dev bios }

abbrev pub kept_disk : CoreObjects → ℕ → Option DiskState
kept_disk o dev = slice_index_or o.disks dev None

abbrev pub with_disk : CoreObjects → ℕ → Option DiskState → CoreObjects
with_disk o dev disk = record o { disks = slice_set o.disks dev disk }

abbrev pub core_book_at : CoreObjects → ℕ → BookState
core_book_at o writer = slice_index_or o.books writer (record { writer = writer; nodes = [] })

abbrev pub with_book : CoreObjects → ℕ → BookState → CoreObjects
with_book o writer book = record o { books = slice_set o.books writer book }

-- what is not kept of a device that is no disk
abbrev pub disk_or : Option DiskState → DiskState → DiskState
disk_or None other = other
disk_or (Some disk) other = disk

abbrev pub core_disk_at : CoreObjects → ℕ → DiskState
core_disk_at o dev = disk_or (kept_disk o dev) (opened_disk o.stack dev)

-- the objects of the machine that these are
abbrev pub objects_of_core : CoreObjects → Objects
objects_of_core o = record { pool = core_pool_at o; rescue = core_rescue_at o; disk = core_disk_at o; book = core_book_at o; tally = o.tally }

-- a disk of so many sectors
abbrev pub HasSize : ℕ → Option DiskState → Type 0
HasSize sectors None = ⊥
HasSize sectors (Some disk) = length disk.image ≡ sectors

-- There is a place for each pool and each device of the stack. Each disk has the size that the stack gives it, and the bios that wait for
-- rescuers are within their devices.
pub record HasPlacesForStack (stack : Stack) (pools : List PoolState) (rescues : List (List (Item Pad))) (disks : List (Option DiskState)) : Type 0 where
  pub pool : most_pools ≤ length pools
  pub rescue : length stack.devices.items ≤ length rescues
  pub disk : (dev : ℕ) → dev < length stack.devices.items → keeps_data (tree stack dev) ≡ true
      → HasSize (size (tree stack dev)) (slice_index_or disks dev None)
  pub within : (dev : ℕ) → AreWithin stack (slice_index_or rescues dev [])

-- A call answers so, and makes this of the objects. Where it can't, they are as they were. It takes no memory, so it never lacks any.
abbrev pub AnswersIfEnabled : {X : Type 0} → CoreObjects → (X → CoreObjects → Type 0) → Type 0 → Result X CoreFault → CoreObjects → Type 0
AnswersIfEnabled old Does Cannot (Ok x) new = Does x new
AnswersIfEnabled old Does Cannot (Err fault.NotEnabled) new = (new ≡ old) × Cannot
AnswersIfEnabled old Does Cannot (Err fault.Memory) new = ⊥
