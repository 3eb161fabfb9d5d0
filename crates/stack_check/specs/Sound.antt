-- What holds of the devices whose lines were accepted.
use Rattle.std.specs.Prelude.{◌≡◌, ◌<◌, ◌≤◌, ℕ, Bool, false, IsTrue, List, length, map, slice_get, slice_index_or, All, Option, Some}
use Rattle.stack_base.specs.Mapping.{size_of}
use Rattle.stack_base.specs.Tree.{size}
use Rattle.stack_base.specs.declared.stack.Kind.TheVariants as kind
use Rattle.decl_text.specs.Text.{is_name}
use Rattle.decl_text.specs.Known.{Declared, BadOf, Reserves, trees, all_members}
use Rattle.decl_text.specs.Checks.{has_count, all_sectors, disks, is_among, is_disk_device, repeats}
use Rattle.decl_text.specs.Accepting.{reserves_or_two}
use Rattle.decl_text.specs.declared.item.What.{What}
use Rattle.decl_text.specs.declared.item.What.TheVariants as what

-- the numbers of its pieces are not 0
abbrev pub HasNumbers : What → Type 0
HasNumbers (what.Disk sectors) = Unit {0}
HasNumbers what.Linear = Unit {0}
HasNumbers (what.Stripe chunk) = 1 ≤ chunk
HasNumbers (what.Zoned chunk) = 1 ≤ chunk
HasNumbers (what.Limit longest chunk) = 1 ≤ longest
HasNumbers (what.Mirror records) = Unit {0}

-- how many elements its pool of records keeps, where it has one
abbrev pub records_of_what : What → ℕ
records_of_what (what.Mirror records) = records
records_of_what _ = 0

-- what the checks of its own line leave of a declared device
pub record IsFit (device : Declared) : Type 0 where
  pub named : IsTrue (is_name device.name)
  pub numbers : HasNumbers device.what
  pub count : IsTrue (has_count device.what (length device.members))
  pub reserve : device.reserve ≤ 1024
  pub records : records_of_what device.what ≤ 1024

-- the devices together
pub record AreSound (devices : List Declared) : Type 0 where
  pub few : length devices ≤ 32
  pub fit : All IsFit devices
  -- members were declared before their device
  pub below : (number i m : ℕ) (device : Declared) → slice_get devices number ≡ Some device → slice_get device.members i ≡ Some m → m < number
  -- a device is a member at most once
  pub once : repeats (all_members devices) ≡ false
  pub disks : all_sectors devices ≤ 262144
  -- each has a sector
  pub some : All (λ tree. 1 ≤ size tree) (trees devices)

-- what is kept beside the devices: their sizes, whether each is a member, and the sums over the disks
pub record IsTallied (devices : List Declared) (kept_sizes : List ℕ) (flags : List Bool) (kept_disks kept_sectors : ℕ) : Type 0 where
  pub sizes : kept_sizes ≡ map size (trees devices)
  pub room : length flags ≡ 32
  pub taken : (k : ℕ) → k < 32 → slice_index_or flags k false ≡ is_among (all_members devices) k
  pub disks : kept_disks ≡ disks devices
  pub sectors : kept_sectors ≡ all_sectors devices

-- the size of what does this, over members of these sizes
abbrev pub what_size : What → List ℕ → ℕ
what_size (what.Disk sectors) sizes = sectors
what_size what.Linear sizes = size_of kind.Linear sizes
what_size (what.Stripe chunk) sizes = size_of (kind.Stripe chunk) sizes
what_size (what.Zoned chunk) sizes = size_of (kind.Zoned chunk) sizes
what_size (what.Limit longest chunk) sizes = size_of (kind.Limit longest chunk) sizes
what_size (what.Mirror records) sizes = size_of (kind.Mirror 0) sizes

-- the devices are sound, and what is kept beside them is right
abbrev pub AreTalliedDevices : List ℕ → List Bool → ℕ → ℕ → List Declared → Type 0
AreTalliedDevices sizes taken disk_count sectors devices = AreSound devices × IsTallied devices sizes taken disk_count sectors

-- the writers' pools are not too large
abbrev pub HasFewElements : Option Reserves → Type 0
HasFewElements fs = ((reserves_or_two fs).bios ≤ 1024) × ((reserves_or_two fs).vecs ≤ 1024)

-- bad ranges are those of disks
abbrev pub AreOfDisks : List Declared → List BadOf → Type 0
AreOfDisks devices bad = All (λ b. IsTrue (is_disk_device (slice_get devices b.disk))) bad
