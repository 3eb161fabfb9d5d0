-- What a call says of the caller that made it.
use Rattle.std.specs.Prelude.{◌≡◌}
use Rattle.run_machine.specs.Requests.{Request, Reply}
use Rattle.object_things.specs.declared.disk.DiskAsk.{DiskAsk}
use Rattle.object_things.specs.declared.disk.DiskSaid.{DiskSaid}
use Rattle.object_things.specs.Disks.{KeepsChoice, disk_asked, disk_replied}
use Rattle.shared_objects.specs.declared.caller.Caller.{Caller}
use Rattle.shared_objects.specs.declared.desk.Desk.{Desk}
use Rattle.shared_objects.specs.Desks.{DeskServes, HasCalled}
use Rattle.shared_objects.specs.Holding.{DeskHolds, desk_of}

-- A caller made one call of an object, for the task whose seats it was lent: the call stands last among those of the task, and what holds of a
-- desk holds still. The locks are as they were, and the seats are the place that was lent.
pub record CallerHasCalled {R : Type 0} (old : Caller R) (asked : Request) (reply : Reply) (new : Caller R) : Type 0 where
  pub calls : HasCalled (desk_of old.seats.now) asked reply (desk_of new.seats.now)
  pub kept : DeskHolds old.locks.now new.seats.now
  pub same : new.locks.now ≡ old.locks.now
  pub lent : new.seats.ghost_name ≡ old.seats.ghost_name

-- What is served to a caller: at the desk of its task, by the locks as they were, and the seats are the place that was lent.
abbrev pub CallerServes : {R : Type 0} → Caller R → Request → Reply → Caller R → Type 0
CallerServes old request reply new =
    DeskServes (desk_of old.seats.now) request reply (desk_of new.seats.now)
    × (new.locks.now ≡ old.locks.now) × (new.seats.ghost_name ≡ old.seats.ghost_name)

-- what is served to a desk that has its seats
abbrev pub OwnDeskServes : {R : Type 0} → Desk R → Request → Reply → Desk R → Type 0
OwnDeskServes old request reply new =
    DeskServes (desk_of old.seats) request reply (desk_of new.seats) × (new.locks.now ≡ old.locks.now)

-- It called a disk so, and the entry of a completion keeps the index that was asked for.
pub record CallerHasAskedDisk {R : Type 0} (old : Caller R) (ask : DiskAsk) (said : DiskSaid) (new : Caller R) : Type 0 where
  pub called : CallerHasCalled old (disk_asked ask) (disk_replied said) new
  pub choice : KeepsChoice ask (disk_replied said) called.calls.told.chosen
