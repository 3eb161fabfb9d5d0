use Rattle.std.proofs.Common.{◌≡◌, All}
use Rattle.task_core.specs.ObjectsOf.{IsDiskOf}
use Rattle.object_things.specs.Stamps.{stage_in}
use Rattle.shared_objects.specs.Opening.{guarded_row}
use Rattle.shared_objects.specs.Sharing.{disks_by_device}
use Rattle.shared_objects.proofs.opening.guards.guard_disks.Given as goal

abbrev pub invariant-guarding : goal.invariant-guarding
invariant-guarding l =
    (l.things.items ≡ guarded_row l.common.value (disks_by_device l.yielded)) × All (λ entry. IsDiskOf (stage_in l.common.value) entry.dev.0 entry) l.disk-iterator.rest.items
