-- Locks round objects as they were opened.
use Rattle.std.specs.Prelude.{◌≡◌, List, map}
use Rattle.seat_lock.specs.Seats.{LockId}
use Rattle.model_disks.specs.Disks.{DiskState}
use Rattle.stack_base.specs.declared.ids.DevId.{DevId}
use Rattle.task_core.specs.declared.plain.Plain.{Plain}
use Rattle.task_core.specs.Plains.{tally_of}
use Rattle.shared_objects.specs.declared.locks.Locks.{Locks}
use Rattle.shared_objects.specs.Guards.{guarded}
use Rattle.shared_objects.specs.Rows.{Abreast}

-- locks of a kind are round these objects, one by one
abbrev pub AreAround : {K O T : Type 0} → (O → T) → List (K × O) → List (K × LockId T) → Type 0
AreAround guard objects locks = Abreast (λ entry lock. (lock.0 ≡ entry.0) × (lock.1.key.value ≡ guard entry.1)) objects locks

-- disks, each with its device
abbrev pub disks_by_device : List DiskState → List (DevId × DiskState)
disks_by_device disks = map (λ disk. (disk.dev, disk)) disks

-- the locks are round these objects, of which nothing was asked
pub record AreOfOpened (opened : Plain) (locks : Locks) : Type 0 where
  pub same : locks.common.value.opened ≡ opened
  pub index : locks.index ≡ opened.index
  pub bios : AreAround (guarded locks.common.value) opened.bios.items locks.bios.items
  pub vecs : locks.vecs.key.value ≡ guarded locks.common.value opened.vecs
  pub records : AreAround (guarded locks.common.value) opened.records.items locks.records.items
  pub lists : AreAround (guarded locks.common.value) opened.lists.items locks.lists.items
  pub disks : AreAround (guarded locks.common.value) (disks_by_device opened.disks.items) locks.disks.items
  pub books : AreAround (guarded locks.common.value) opened.books.items locks.books.items
  pub tally : locks.tally.key.value ≡ guarded locks.common.value (tally_of opened.tally)
