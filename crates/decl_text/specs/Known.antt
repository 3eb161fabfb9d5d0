-- What the lines so far have declared.
use Rattle.std.specs.Prelude.{◌+◌, ◌==◌, if◌then◌else◌, Bool, true, false, List, [], ◌∷◌, ◌++◌, ℕ, fold, filter, zip, length, map, codes, flat_map, position, slice_index_or, slice_get, unwrap_or, Option, None, Some}
use Rattle.std.specs.Option.{option_and_then, option_or, option_map, option_to_list}
use Rattle.std.specs.Str.{bytes_eq}
use Rattle.fail_script.specs.Script.{Answers}
use Rattle.stack_base.specs.declared.ids.Bad.{Bad as BadRange}
use Rattle.stack_base.specs.declared.ids.PoolId.{PoolId}
use Rattle.stack_base.specs.declared.ids.PoolId.TheVariants.{FsBios, FsVecs, Bios, Records}
use Rattle.stack_base.specs.declared.stack.Kind.TheVariants as kind
use Rattle.stack_base.specs.Tree.{Tree, Leaf, over}
use Rattle.decl_text.specs.declared.item.What.{What}
use Rattle.decl_text.specs.declared.item.What.TheVariants as what
use Rattle.decl_text.specs.declared.item.Item.{Item}
use Rattle.decl_text.specs.declared.item.Item.TheVariants as item

-- a device; its members are numbers of devices, which are their places in the declaration
pub record Declared : Type 0 where
  pub name : List ℕ
  pub what : What
  pub members : List ℕ
  pub reserve : ℕ
  pub rescuer : Bool

pub record Reserves : Type 0 where
  pub bios : ℕ
  pub vecs : ℕ

-- a range of a disk at which writes fail
pub record BadOf : Type 0 where
  pub disk : ℕ
  pub bad : BadRange

pub record Scripted : Type 0 where
  pub pool : PoolId
  pub script : Answers

pub record Written : Type 0 where
  pub task : ℕ
  pub dev : ℕ
  pub start : ℕ
  pub count : ℕ
  pub tag : ℕ

-- a change of a reserve: what a pool keeps from the round of this number on
pub record Change : Type 0 where
  pub round : ℕ
  pub pool : PoolId
  pub min : ℕ

-- what was declared, each in the order of its lines
pub record Declarations : Type 0 where
  pub devices : List Declared
  pub fs : Option Reserves
  pub bad : List BadOf
  pub scripts : List Scripted
  -- whether every pool without a script has no ordinary memory
  pub no_memory : Bool
  pub writes : List Written
  -- the round of each write
  pub rounds : List ℕ
  -- how many `sync` lines there were, each of which ends a round
  pub syncs : ℕ
  pub resizes : List Change

abbrev pub nothing_declared : Declarations
nothing_declared = record { devices = []; fs = None; bad = []; scripts = []; no_memory = false; writes = []; rounds = []; syncs = 0; resizes = [] }

-- the device with this name
abbrev pub device_of : List Declared → List ℕ → Option ℕ
device_of devices name = position (λ device. bytes_eq device.name name) devices

-- its number, where there is one
abbrev pub number_in : List Declared → List ℕ → ℕ
number_in devices name = unwrap_or (device_of devices name) 0

-- the device whose name, followed by this, is that
abbrev pub device_before : List ℕ → List Declared → List ℕ → Option ℕ
device_before suffix devices word = position (λ device. bytes_eq (device.name ++ suffix) word) devices

abbrev pub bios_pool_of : ℕ → What → Option PoolId
bios_pool_of number (what.Disk sectors) = None
bios_pool_of number _ = Some (Bios (record { 0 = number }))

abbrev pub records_pool_of : ℕ → What → Option PoolId
records_pool_of number (what.Mirror records) = Some (Records (record { 0 = number }))
records_pool_of number _ = None

abbrev pub pool_if : (ℕ → What → Option PoolId) → List Declared → ℕ → Option PoolId
pool_if pool devices number = option_and_then (λ device. pool number device.what) (slice_get devices number)

-- the pool with the name NAME.bios of a device over members, and that with the name NAME.records of a mirror
abbrev pub bios_named : List Declared → List ℕ → Option PoolId
bios_named devices word = option_and_then (pool_if bios_pool_of devices) (device_before (codes ".bios") devices word)

abbrev pub records_named : List Declared → List ℕ → Option PoolId
records_named devices word = option_and_then (pool_if records_pool_of devices) (device_before (codes ".records") devices word)

-- the pool with this name: `fs.bios`, `fs.vecs`, or that of a device
unfoldable pub declared_pool : List Declared → List ℕ → Option PoolId
declared_pool devices word =
    if bytes_eq word (codes "fs.bios") then Some FsBios
    else (if bytes_eq word (codes "fs.vecs") then Some FsVecs
    else option_or (bios_named devices word) (records_named devices word))

-- a device with all that is below it, over the trees of all devices before it
abbrev pub device_tree : ℕ → What → List Tree → Tree
device_tree number (what.Disk sectors) members = Leaf number sectors
device_tree number what.Linear members = over number kind.Linear members
device_tree number (what.Stripe chunk) members = over number (kind.Stripe chunk) members
device_tree number (what.Zoned chunk) members = over number (kind.Zoned chunk) members
device_tree number (what.Limit longest chunk) members = over number (kind.Limit longest chunk) members
device_tree number (what.Mirror records) members = over number (kind.Mirror 0) members

abbrev pub tree_over : List Tree → Declared → Tree
tree_over trees device = device_tree (length trees) device.what (map (λ m. slice_index_or trees m (Leaf m 0)) device.members)

-- the trees of the devices, in their order
abbrev pub trees : List Declared → List Tree
trees devices = fold (λ below device. below ++ tree_over below device ∷ []) [] devices

abbrev pub tree_of : List Declared → ℕ → Tree
tree_of devices number = slice_index_or (trees devices) number (Leaf number 0)

-- the members of all devices
abbrev pub all_members : List Declared → List ℕ
all_members devices = flat_map (λ device. device.members) devices

abbrev pub sectors_of : What → ℕ
sectors_of (what.Disk sectors) = sectors
sectors_of _ = 0

abbrev pub declares_disk : What → Bool
declares_disk (what.Disk sectors) = true
declares_disk _ = false

abbrev pub declares_mirror : What → Bool
declares_mirror (what.Mirror records) = true
declares_mirror _ = false

-- a device that a line declares
abbrev pub declared : List Declared → List ℕ → What → List (List ℕ) → ℕ → Bool → Declared
declared devices name does members reserve rescuer =
    record { name = name; what = does; members = map (number_in devices) members; reserve = reserve; rescuer = rescuer }

-- what is known behind a line that says this
abbrev pub after : Declarations → Item → Declarations
after known (item.Device name does members reserve rescuer) =
    record known { devices = known.devices ++ declared known.devices name does members reserve rescuer ∷ [] }
after known (item.Bad disk range kind) =
    record known { bad = known.bad ++ record { disk = number_in known.devices disk; bad = record { range = range; kind = kind } } ∷ [] }
after known (item.Fs bios vecs) = record known { fs = Some (record { bios = bios; vecs = vecs }) }
after known (item.Script pool script) =
    record known { scripts = known.scripts ++ option_to_list (option_map (λ p. record { pool = p; script = script }) (declared_pool known.devices pool)) }
after known item.NoMemory = record known { no_memory = true }
after known (item.Write task dev range tag) =
    record known {
      writes = known.writes ++ record { task = task; dev = number_in known.devices dev; start = range.start; count = range.len; tag = tag } ∷ [];
      rounds = known.rounds ++ known.syncs ∷ [];
    }
after known item.Sync = record known { syncs = known.syncs + 1 }
after known (item.Resize pool min) =
    record known { resizes = known.resizes ++ option_to_list (option_map (λ p. record { round = known.syncs; pool = p; min = min }) (declared_pool known.devices pool)) }

-- the writes of the present round
abbrev pub present : Declarations → List Written
present known = map (λ at. at.0) (filter (λ at. at.1 == known.syncs) (zip known.writes known.rounds))

-- behind a line that says this, or says nothing
abbrev pub after_line : Declarations → Option Item → Declarations
after_line known None = known
after_line known (Some said) = after known said
