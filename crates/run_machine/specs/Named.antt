-- What a stack has, and events that name nothing else, by numbers that their fields have.
use Rattle.std.specs.Prelude.{◌≡◌, ◌<◌, ◌^◌, not, ℕ, Bool, true, false, slice_get}
use Rattle.std.specs.Option.{option_map_or}
use Rattle.stack_base.specs.declared.ids.DevId.{DevId}
use Rattle.stack_base.specs.declared.ids.PoolId.{PoolId}
use Rattle.stack_base.specs.declared.ids.PoolId.TheVariants.{FsBios, FsVecs, Bios, Records}
use Rattle.stack_base.specs.declared.stack.Kind.{Kind}
use Rattle.stack_base.specs.declared.stack.Kind.TheVariants.{Disk, Linear, Stripe, Zoned, Limit, Mirror}
use Rattle.stack_base.specs.declared.stack.Device.{Device}
use Rattle.stack_base.specs.declared.stack.Stack.{Stack}
use Rattle.run_machine.specs.declared.event.Event.{Event}
use Rattle.run_machine.specs.declared.event.TaskId.{TaskId}
use Rattle.run_machine.specs.declared.event.TaskId.TheVariants as task
use Rattle.run_machine.specs.declared.event.What.{What}
use Rattle.run_machine.specs.declared.event.What.TheVariants as what

abbrev pub is_disk_kind : Kind → Bool
is_disk_kind (Disk sectors bad) = true
is_disk_kind Linear = false
is_disk_kind (Stripe chunk) = false
is_disk_kind (Zoned chunk) = false
is_disk_kind (Limit longest chunk) = false
is_disk_kind (Mirror records) = false

abbrev pub is_mirror_kind : Kind → Bool
is_mirror_kind (Mirror records) = true
is_mirror_kind Linear = false
is_mirror_kind (Stripe chunk) = false
is_mirror_kind (Zoned chunk) = false
is_mirror_kind (Limit longest chunk) = false
is_mirror_kind (Disk sectors bad) = false

-- a device over members has a set of bios
abbrev pub is_stacked_kind : Kind → Bool
is_stacked_kind kind = not (is_disk_kind kind)

abbrev pub is_any : Kind → Bool
is_any kind = true

-- whether there is a device of this number, of such a kind
abbrev pub has_device : (Kind → Bool) → Stack → ℕ → Bool
has_device suits stack number = option_map_or (λ (device : Device). suits device.kind) (slice_get stack.devices.items number) false

-- the stack has this device, and it is of such a kind
abbrev pub HasDevice : (Kind → Bool) → Stack → DevId → Type 0
HasDevice suits stack dev = has_device suits stack dev.0 ≡ true

-- the stack has this pool: those of the writers' set, one of bios for each set of a device, and one of records for each mirror
abbrev pub HasPool : Stack → PoolId → Type 0
HasPool stack FsBios = Unit {0}
HasPool stack FsVecs = Unit {0}
HasPool stack (Bios dev) = HasDevice is_stacked_kind stack dev
HasPool stack (Records dev) = HasDevice is_mirror_kind stack dev

-- a task of a stack: a rescuer of a device, a completer of a disk
abbrev pub HasTask : Stack → TaskId → Type 0
HasTask stack (task.Writer number) = Unit {0}
HasTask stack (task.Rescuer dev) = HasDevice is_any stack dev
HasTask stack (task.Completer disk) = HasDevice is_disk_kind stack disk
HasTask stack task.Keeper = Unit {0}

-- what is done at devices, disks and pools of a stack
abbrev pub HasWhat : Stack → What → Type 0
HasWhat stack (what.Take pool got) = HasPool stack pool
HasWhat stack (what.Try pool got) = HasPool stack pool
HasWhat stack (what.Give pool) = HasPool stack pool
HasWhat stack (what.Punt dev moved) = HasDevice is_any stack dev
HasWhat stack (what.Pop dev) = HasDevice is_any stack dev
HasWhat stack (what.Push disk at len leg) = HasDevice is_disk_kind stack disk
HasWhat stack (what.Complete disk index status) = HasDevice is_disk_kind stack disk
HasWhat stack (what.Link writer how node) = Unit {0}
HasWhat stack (what.Drop writer node status end) = Unit {0}
HasWhat stack (what.Done write status) = Unit {0}
HasWhat stack (what.Resize pool min) = HasPool stack pool
HasWhat stack (what.Round round) = Unit {0}

-- an event that names what the stack has
pub record IsEventOf (stack : Stack) (event : Event) : Type 0 where
  pub task : HasTask stack event.task
  pub what : HasWhat stack event.what

-- numbers that the fields of an event have room for: 32 bits, and 64 for what counts sectors and bios
abbrev pub FitsTask : TaskId → Type 0
FitsTask (task.Writer number) = number < 2 ^ 32
FitsTask (task.Rescuer dev) = Unit {0}
FitsTask (task.Completer disk) = Unit {0}
FitsTask task.Keeper = Unit {0}

abbrev pub FitsWhat : What → Type 0
FitsWhat (what.Take pool got) = Unit {0}
FitsWhat (what.Try pool got) = Unit {0}
FitsWhat (what.Give pool) = Unit {0}
FitsWhat (what.Punt dev moved) = moved < 2 ^ 64
FitsWhat (what.Pop dev) = Unit {0}
FitsWhat (what.Push disk at len leg) = (at < 2 ^ 64) × (len < 2 ^ 64) × (leg < 2 ^ 32)
FitsWhat (what.Complete disk index status) = index < 2 ^ 64
FitsWhat (what.Link writer how node) = (writer < 2 ^ 32) × (node < 2 ^ 32)
FitsWhat (what.Drop writer node status end) = (writer < 2 ^ 32) × (node < 2 ^ 32)
FitsWhat (what.Done write status) = write < 2 ^ 32
FitsWhat (what.Resize pool min) = min < 2 ^ 32
FitsWhat (what.Round round) = round < 2 ^ 32

-- an event whose numbers are such as its fields have
pub record FitsEvent (event : Event) : Type 0 where
  pub task : FitsTask event.task
  pub what : FitsWhat event.what
