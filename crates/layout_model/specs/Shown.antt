-- What a device shows of the disks below it: a mirror shows its first member.
use Rattle.std.specs.Prelude.{◌≡◌, ◌+◌, ◌<◌, ◌≤◌, ℕ, Bool, true, false, length}
use Rattle.stack_base.specs.Mapping.{slot}
use Rattle.stack_base.specs.Tree.{Tree, Leaf, Split, Mirrored, size, tree}
use Rattle.stack_base.specs.declared.ids.DevId.{DevId}
use Rattle.stack_base.specs.declared.stack.Kind.{Kind}
use Rattle.stack_base.specs.declared.stack.Kind.TheVariants.{Disk, Linear, Stripe, Zoned, Limit, Mirror}
use Rattle.stack_base.specs.declared.stack.Stack.{Stack}
use Rattle.layout_model.specs.Way.{Place}
use Rattle.layout_model.specs.declared.piece.FirstRun.{FirstRun}

-- the sector of a disk that sector s of a device shows
unfoldable pub shown_sector : Tree → ℕ → Place
shown_sector (Leaf number sectors) s = record { disk = number; at = s }
shown_sector (Split number kind sizes members) s = shown_sector (members (slot kind sizes s).member) (slot kind sizes s).at
shown_sector (Mirrored number sizes members) s = shown_sector (members 0) s

-- whether a device keeps data itself, as a disk does
abbrev pub keeps_data : Tree → Bool
keeps_data (Leaf number sectors) = true
keeps_data (Split number kind sizes members) = false
keeps_data (Mirrored number sizes members) = false

-- devices that show their first member, sector by sector
abbrev pub ShowsFirst : Kind → Type 0
ShowsFirst (Disk sectors bad) = ⊥
ShowsFirst Linear = ⊥
ShowsFirst (Stripe chunk) = ⊥
ShowsFirst (Zoned chunk) = ⊥
ShowsFirst (Limit longest chunk) = Unit {0}
ShowsFirst (Mirror records) = Unit {0}

-- the member that such a device shows
pub record IsShownMember (stack : Stack) (dev : ℕ) (member : DevId) : Type 0 where
  -- it is a device that was declared before, and is as large at least
  pub below : member.0 < dev
  pub known : member.0 < length stack.devices.items
  pub inside : size (tree stack dev) ≤ size (tree stack member.0)
  -- each sector of the device shows what that sector of the member shows
  pub shows : (s : ℕ) → shown_sector (tree stack dev) s ≡ shown_sector (tree stack member.0) s

-- the first sectors of a run, as many as show sectors of one disk that follow one another
pub record IsStretch (stack : Stack) (dev start len : ℕ) (to : FirstRun) : Type 0 where
  pub some : 1 ≤ to.len
  pub within : to.len ≤ len
  -- they are sectors of a disk
  pub known : to.dev.0 < length stack.devices.items
  pub disk : keeps_data (tree stack to.dev.0) ≡ true
  pub inside : to.at + to.len ≤ size (tree stack to.dev.0)
  pub shows : (i : ℕ) → i < to.len → shown_sector (tree stack dev) (start + i) ≡ record { disk = to.dev.0; at = to.at + i }
