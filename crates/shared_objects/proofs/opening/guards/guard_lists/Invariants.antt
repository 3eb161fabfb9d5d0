use Rattle.std.proofs.Common.{◌≡◌, All}
use Rattle.task_steps.specs.Stage.{AreServed}
use Rattle.object_things.specs.Stamps.{stage_in}
use Rattle.shared_objects.specs.Opening.{guarded_row}
use Rattle.shared_objects.proofs.opening.guards.guard_lists.Given as goal

abbrev pub invariant-guarding : goal.invariant-guarding
invariant-guarding l =
    (l.things.items ≡ guarded_row l.common.value l.yielded) × All (λ entry. AreServed (stage_in l.common.value) entry.1.bios) l.entry-iterator.rest.items
