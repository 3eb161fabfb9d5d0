-- The objects of a stack as they are opened, kind by kind, the first of each up to a bound.
use Rattle.std.specs.Prelude.{◌≡◌, ◌==◌, ◌&&◌, ◌||◌, ◌/◌, ◌%◌, if◌then◌else◌, ℕ, zero, suc, Bool, true, List, [], ◌∷◌, length, max, replicate, None}
use Rattle.fail_script.specs.Script.{Answers}
use Rattle.stack_base.specs.declared.ids.DevId.{DevId}
use Rattle.stack_base.specs.declared.ids.PoolId.{PoolId}
use Rattle.stack_base.specs.declared.ids.PoolId.TheVariants.{Records}
use Rattle.stack_base.specs.declared.ids.SetId.{SetId}
use Rattle.stack_base.specs.declared.ids.SetId.TheVariants.{Fs, Of}
use Rattle.stack_base.specs.declared.stack.Stack.{Stack}
use Rattle.stack_base.specs.PoolId.{pool_number}
use Rattle.mempool_core.specs.Move.{opened}
use Rattle.mempool_core.specs.Pool.{LedgerPool}
use Rattle.bioset_pools.specs.Sets.{bios_of}
use Rattle.bio_records.specs.Rescue.{Rescue}
use Rattle.bio_books.specs.Books.{BookState}
use Rattle.model_disks.specs.Disks.{DiskState}
use Rattle.task_core.specs.declared.plain.Plain.{Plain}
use Rattle.run_machine.specs.Events.{pool_of}
use Rattle.task_core.specs.opened.Filled.{AreMade, IsNext}
use Rattle.run_machine.specs.Objects.{TallyState}
use Rattle.run_machine.specs.Opened.{device_at, reserve_of, script_at, opened_disk, opened_objects}
use Rattle.task_core.specs.Plains.{set_number, records_number, list_number, disk_number, book_number, objects_of, stage_of, Holds}
use Rattle.task_steps.specs.Routed.{Routing, places_at, routing_setup}
use Rattle.task_steps.specs.Stage.{has_book_in, has_disk_in, has_mirror_in, has_rescuer_in}
use Rattle.run_machine.specs.Scene.{has_set}

-- how many devices a stack has
abbrev pub device_count : Stack → ℕ
device_count stack = length stack.devices.items

-- indices are numbers
abbrev pub itself : ℕ → ℕ
itself number = number

-- disks, as the stack has them
abbrev pub IsNewDisk : Routing → ℕ → DiskState → Type 0
IsNewDisk routing dev disk = disk ≡ opened_disk routing.stack dev

abbrev pub AreDisks : Routing → ℕ → List DiskState → List ℕ → Type 0
AreDisks routing bound disks table = AreMade disk_number itself (has_disk_in routing) (IsNewDisk routing) bound disks table

abbrev pub NextDisk : Routing → ℕ → List DiskState → List ℕ → List DiskState → List ℕ → Type 0
NextDisk routing dev disks table more after = IsNext disk_number itself (has_disk_in routing) (IsNewDisk routing) dev disks table more after

-- the lists of rescuers, which are empty
abbrev pub IsNewList : ℕ → DevId × Rescue → Type 0
IsNewList dev entry = entry ≡ (device_at dev, record { dev = device_at dev; bios = [] })

abbrev pub AreLists : Routing → ℕ → List (DevId × Rescue) → List ℕ → Type 0
AreLists routing bound lists table = AreMade list_number itself (has_rescuer_in routing) IsNewList bound lists table

abbrev pub NextList : Routing → ℕ → List (DevId × Rescue) → List ℕ → List (DevId × Rescue) → List ℕ → Type 0
NextList routing dev lists table more after = IsNext list_number itself (has_rescuer_in routing) IsNewList dev lists table more after

-- the books of writers with a place, in which no node is open
abbrev pub IsNewBook : Routing → ℕ → ℕ × BookState → Type 0
IsNewBook routing writer entry = entry ≡ (writer, record { writer = writer; nodes = replicate (places_at routing.places writer) None })

abbrev pub AreBooks : Routing → ℕ → List (ℕ × BookState) → List ℕ → Type 0
AreBooks routing bound books table = AreMade book_number itself (has_book_in routing) (IsNewBook routing) bound books table

abbrev pub NextBook : Routing → ℕ → List (ℕ × BookState) → List ℕ → List (ℕ × BookState) → List ℕ → Type 0
NextBook routing writer books table more after = IsNext book_number itself (has_book_in routing) (IsNewBook routing) writer books table more after

-- pools: full, with nothing out, of their number, and as wide as the largest reserve that they get
abbrev pub widest : List (PoolId × ℕ) → ℕ → ℕ → ℕ
widest [] number most = most
widest (reserve ∷ reserves) number most = widest reserves number (if pool_number reserve.0 == number then max most reserve.1 else most)

pub record IsOpenPool (scripts : List (PoolId × Answers)) (reserves : List (PoolId × ℕ)) (id : PoolId) (min : ℕ) (pool : LedgerPool) : Type 0 where
  pub numbered : pool.ledger.no ≡ pool_number id
  pub state : pool.state ≡ opened min (script_at scripts (pool_number id))
  pub most : pool.most ≡ widest reserves (pool_number id) min

abbrev pub IsNewPool : Stack → List (PoolId × Answers) → List (PoolId × ℕ) → PoolId → LedgerPool → Type 0
IsNewPool stack scripts reserves id pool = IsOpenPool scripts reserves id (reserve_of stack id) pool

-- the pools of bios: that of the writers' set first, and then those of devices
abbrev pub set_at : ℕ → SetId
set_at zero = Fs
set_at (suc dev) = Of (device_at dev)

abbrev pub set_index : ℕ → ℕ
set_index index = pool_number (bios_of (set_at index))

-- whether there is a set at this index
abbrev pub has_set_at : Routing → ℕ → Bool
has_set_at routing zero = true
has_set_at routing (suc dev) = has_set (routing_setup routing) dev

abbrev pub IsNewSet : Routing → List (PoolId × Answers) → List (PoolId × ℕ) → ℕ → SetId × LedgerPool → Type 0
IsNewSet routing scripts reserves index entry = IsNewPool routing.stack scripts reserves (bios_of (set_at index)) entry.1

abbrev pub AreSets : Routing → List (PoolId × Answers) → List (PoolId × ℕ) → ℕ → List (SetId × LedgerPool) → List ℕ → Type 0
AreSets routing scripts reserves bound bios table = AreMade set_number set_index (has_set_at routing) (IsNewSet routing scripts reserves) bound bios table

abbrev pub NextSet : Routing → List (PoolId × Answers) → List (PoolId × ℕ) → ℕ → List (SetId × LedgerPool) → List ℕ → List (SetId × LedgerPool) → List ℕ
    → Type 0
NextSet routing scripts reserves index bios table more after =
    IsNext set_number set_index (has_set_at routing) (IsNewSet routing scripts reserves) index bios table more after

-- the pools of the records of mirrors
abbrev pub slip_index : ℕ → ℕ
slip_index dev = pool_number (Records (device_at dev))

abbrev pub IsNewRecords : Routing → List (PoolId × Answers) → List (PoolId × ℕ) → ℕ → DevId × LedgerPool → Type 0
IsNewRecords routing scripts reserves dev entry = IsNewPool routing.stack scripts reserves (Records (device_at dev)) entry.1

abbrev pub AreRecords : Routing → List (PoolId × Answers) → List (PoolId × ℕ) → ℕ → List (DevId × LedgerPool) → List ℕ → Type 0
AreRecords routing scripts reserves bound records table =
    AreMade records_number slip_index (has_mirror_in routing) (IsNewRecords routing scripts reserves) bound records table

abbrev pub NextRecords : Routing → List (PoolId × Answers) → List (PoolId × ℕ) → ℕ → List (DevId × LedgerPool) → List ℕ → List (DevId × LedgerPool)
    → List ℕ → Type 0
NextRecords routing scripts reserves dev records table more after =
    IsNext records_number slip_index (has_mirror_in routing) (IsNewRecords routing scripts reserves) dev records table more after

-- whether a number is that of a pool of the stack
abbrev pub has_pool : Routing → ℕ → Bool
has_pool routing number =
    number == 64 || (number == 65 || number % 2 == 0 && has_set (routing_setup routing) (number / 2)) || number % 2 == 1 && has_mirror_in routing (number / 2)

-- Each kind has an entry for each of its objects that there is, in their order and made as it should be, and no other entry.
pub record AreRows (routing : Routing) (scripts : List (PoolId × Answers)) (reserves : List (PoolId × ℕ)) (plain : Plain) : Type 0 where
  pub bios : AreSets routing scripts reserves (suc (length routing.stack.devices.items)) plain.bios.items plain.index.bios
  pub records : AreRecords routing scripts reserves (length routing.stack.devices.items) plain.records.items plain.index.records
  pub lists : AreLists routing (length routing.stack.devices.items) plain.lists.items plain.index.lists
  pub disks : AreDisks routing (length routing.stack.devices.items) plain.disks.items plain.index.disks
  pub books : AreBooks routing 8 plain.books.items plain.index.books

-- These are the objects, which hold together, and each pool is as wide as the largest reserve that it gets.
pub record AreOpened (routing : Routing) (scripts : List (PoolId × Answers)) (reserves : List (PoolId × ℕ)) (tally : TallyState) (plain : Plain)
    : Type 0 where
  pub objects : objects_of plain ≡ opened_objects routing.stack scripts (places_at routing.places) tally
  pub holds : Holds plain
  pub routing_is : (stage_of plain).routing ≡ routing
  pub rows : AreRows routing scripts reserves plain
  pub most : (number : ℕ) → has_pool routing number ≡ true
      → (stage_of plain).most number ≡ widest reserves number (reserve_of routing.stack (pool_of number))
