-- The checks of a line against the lines before it, one for each reason.
use Rattle.std.specs.Prelude.{◌+◌, ◌==◌, ◌&&◌, ◌||◌, nat_lt, nat_le, not, Bool, true, false, List, [], ◌∷◌, ℕ, length, map, slice_get, sum_by, count_by, is_some, is_none, Option, None, Some}
use Rattle.std.specs.List.{list_any}
use Rattle.stack_base.specs.Tree.{size}
use Rattle.stack_base.specs.PoolId.{pool_number}
use Rattle.stack_base.specs.declared.ids.PoolId.{PoolId}
use Rattle.decl_text.specs.Text.{words, is_text}
use Rattle.decl_text.specs.Items.{malformed, misnumbered, said}
use Rattle.decl_text.specs.Known.{Declarations, Declared, Written, Scripted, Change, present, device_of, number_in, declared_pool, tree_over, tree_of, trees, all_members, sectors_of, declares_disk, declares_mirror, declared}
use Rattle.decl_text.specs.Stands.{stand_of, misplaced}
use Rattle.decl_text.specs.declared.item.What.{What}
use Rattle.decl_text.specs.declared.item.What.TheVariants as what
use Rattle.decl_text.specs.declared.item.Item.{Item}
use Rattle.decl_text.specs.declared.item.Item.TheVariants as item

-- a line has a byte that no text has
abbrev pub not_text : Declarations → List ℕ → Bool
not_text known line = not (is_text line)

abbrev pub is_empty_list : {A : Type 0} → List A → Bool
is_empty_list [] = true
is_empty_list (x ∷ xs) = false

-- its words are not those of any line, or it may not stand there: a declaration behind a write or a `sync` line, a `resize` line with no
-- `sync` line before it, or with a write between
abbrev pub bad_word : Declarations → List ℕ → Bool
bad_word known line = malformed (words line) || misplaced (stand_of known) (words line)

-- its numbers are not those of any line
abbrev pub bad_number : Declarations → List ℕ → Bool
bad_number known line = misnumbered (words line)

-- a script of this pool
abbrev pub is_of_pool : PoolId → Scripted → Bool
is_of_pool pool scripted = pool_number scripted.pool == pool_number pool

abbrev pub has_script : List Scripted → Option PoolId → Bool
has_script scripts None = false
has_script scripts (Some pool) = list_any (is_of_pool pool) scripts

-- a change of the reserve of this pool, from this round on
abbrev pub is_resize_of : ℕ → PoolId → Change → Bool
is_resize_of round pool change = (change.round == round) && (pool_number change.pool == pool_number pool)

-- such a change is among these, where there is the pool
abbrev pub has_resize : List Change → ℕ → Option PoolId → Bool
has_resize resizes round None = false
has_resize resizes round (Some pool) = list_any (is_resize_of round pool) resizes

-- a device of that name, a set of the writers, a script of that pool or `memory none` was there before, or a `resize` line of that pool
-- behind the same `sync` line
abbrev pub name_taken : Declarations → Item → Bool
name_taken known (item.Device name does members reserve rescuer) = is_some (device_of known.devices name)
name_taken known (item.Fs bios vecs) = is_some known.fs
name_taken known (item.Script pool script) = has_script known.scripts (declared_pool known.devices pool)
name_taken known item.NoMemory = known.no_memory
name_taken known (item.Resize pool min) = has_resize known.resizes known.syncs (declared_pool known.devices pool)
name_taken known _ = false

-- the devices that it names
abbrev pub mentions : Item → List (List ℕ)
mentions (item.Device name does members reserve rescuer) = members
mentions (item.Bad disk range kind) = disk ∷ []
mentions (item.Write task dev range tag) = dev ∷ []
mentions _ = []

-- it names a device that was not declared before
abbrev pub no_such_device : Declarations → Item → Bool
no_such_device known said = list_any (λ name. is_none (device_of known.devices name)) (mentions said)

-- a number is one of these, or is there again
abbrev pub is_among : List ℕ → ℕ → Bool
is_among numbers n = list_any (λ m. m == n) numbers

abbrev pub repeats : List ℕ → Bool
repeats [] = false
repeats (n ∷ more) = is_among more n || repeats more

abbrev pub members_of : Declarations → Item → List ℕ
members_of known (item.Device name does members reserve rescuer) = map (number_in known.devices) members
members_of known _ = []

-- a member is a member of an earlier device, or stands twice
abbrev pub member_taken : Declarations → Item → Bool
member_taken known said = list_any (is_among (all_members known.devices)) (members_of known said) || repeats (members_of known said)

-- as many members as it wants
abbrev pub has_count : What → ℕ → Bool
has_count (what.Disk sectors) count = count == 0
has_count what.Linear count = nat_le 1 count && nat_le count 8
has_count (what.Stripe chunk) count = nat_le 1 count && nat_le count 8
has_count (what.Zoned chunk) count = nat_le 1 count && nat_le count 8
has_count (what.Limit longest chunk) count = count == 1
has_count (what.Mirror records) count = nat_le 1 count && nat_le count 8

abbrev pub is_disk_device : Option Declared → Bool
is_disk_device None = false
is_disk_device (Some device) = declares_disk device.what

-- too few or too many members, or a bad range of a device that is no disk
abbrev pub bad_shape : Declarations → Item → Bool
bad_shape known (item.Device name does members reserve rescuer) = not (has_count does (length members))
bad_shape known (item.Bad disk range kind) = not (is_disk_device (slice_get known.devices (number_in known.devices disk)))
bad_shape known _ = false

-- the reserves of pools that it tells
abbrev pub reserves : Item → List ℕ
reserves (item.Device name (what.Disk sectors) members reserve rescuer) = []
reserves (item.Device name what.Linear members reserve rescuer) = reserve ∷ []
reserves (item.Device name (what.Stripe chunk) members reserve rescuer) = reserve ∷ []
reserves (item.Device name (what.Zoned chunk) members reserve rescuer) = reserve ∷ []
reserves (item.Device name (what.Limit longest chunk) members reserve rescuer) = reserve ∷ []
reserves (item.Device name (what.Mirror records) members reserve rescuer) = records ∷ reserve ∷ []
reserves (item.Fs bios vecs) = bios ∷ vecs ∷ []
reserves (item.Resize pool min) = min ∷ []
reserves _ = []

abbrev pub all_sectors : List Declared → ℕ
all_sectors devices = sum_by (λ device. sectors_of device.what) devices

abbrev pub disks : List Declared → ℕ
disks devices = count_by (λ device. declares_disk device.what) devices

abbrev pub is_one_too_many : Declarations → Item → Bool
is_one_too_many known (item.Device name (what.Disk sectors) members reserve rescuer) =
    nat_le 32 (length known.devices) || nat_le 16 (disks known.devices) || nat_lt 262144 (all_sectors known.devices + sectors)
is_one_too_many known (item.Device name does members reserve rescuer) = nat_le 32 (length known.devices)
is_one_too_many known (item.Bad disk range kind) = nat_le 1024 (length known.bad)
is_one_too_many known (item.Script pool script) = nat_lt 65536 (sum_by (λ s. length s.script.entries) known.scripts + length script.entries)
is_one_too_many known item.Sync = nat_le 1024 known.syncs
is_one_too_many known (item.Resize pool min) = nat_le 4096 (length known.resizes)
is_one_too_many known _ = false

-- a device, a disk, sectors, a bad range, entries of scripts, a `sync` or a `resize` line, or a reserve above what there may be
abbrev pub too_large : Declarations → Item → Bool
too_large known said = is_one_too_many known said || list_any (nat_lt 1024) (reserves said)

-- a device without a sector
abbrev pub empty_device : Declarations → Item → Bool
empty_device known (item.Device name does members reserve rescuer) =
    size (tree_over (trees known.devices) (declared known.devices name does members reserve rescuer)) == 0
empty_device known _ = false

-- a pool without an element
abbrev pub reserve_zero : Declarations → Item → Bool
reserve_zero known said = list_any (λ reserve. reserve == 0) (reserves said)

-- a mirror of two members or more without a rescuer
abbrev pub needs_rescuer : Declarations → Item → Bool
needs_rescuer known (item.Device name does members reserve rescuer) = declares_mirror does && nat_le 2 (length members) && not rescuer
needs_rescuer known _ = false

-- a write to a member of another device
abbrev pub not_a_top : Declarations → Item → Bool
not_a_top known (item.Write task dev range tag) = is_among (all_members known.devices) (number_in known.devices dev)
not_a_top known _ = false

abbrev pub ends_past : Declarations → List ℕ → ℕ → ℕ → Bool
ends_past known name start count = nat_lt (size (tree_of known.devices (number_in known.devices name))) (start + count)

-- a range that ends behind its device
abbrev pub past_end : Declarations → Item → Bool
past_end known (item.Bad disk range kind) = ends_past known disk range.start range.len
past_end known (item.Write task dev range tag) = ends_past known dev range.start range.len
past_end known _ = false

-- a write has a sector of this run of the device
abbrev pub shares : ℕ → ℕ → ℕ → Written → Bool
shares dev start count write = (write.dev == dev) && nat_lt start (write.start + write.count) && nat_lt write.start (start + count)

-- a write to a sector that an earlier write of its round has
abbrev pub overlap : Declarations → Item → Bool
overlap known (item.Write task dev range tag) = list_any (shares (number_in known.devices dev) range.start range.len) (present known)
overlap known _ = false

-- a write of more than 256 segments of eight sectors
abbrev pub too_many_segments : Declarations → Item → Bool
too_many_segments known (item.Write task dev range tag) = nat_lt 2048 range.len
too_many_segments known _ = false

-- a script or a `resize` line of a pool that is not there
abbrev pub no_such_pool : Declarations → Item → Bool
no_such_pool known (item.Script pool script) = is_none (declared_pool known.devices pool)
no_such_pool known (item.Resize pool min) = is_none (declared_pool known.devices pool)
no_such_pool known _ = false
