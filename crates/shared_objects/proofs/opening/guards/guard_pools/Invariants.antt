use Rattle.std.proofs.Common.{◌≡◌, All}
use Rattle.object_things.specs.Pools.{IsPoolOf}
use Rattle.object_things.specs.Stamps.{stage_in}
use Rattle.shared_objects.specs.Opening.{guarded_row}
use Rattle.shared_objects.proofs.opening.guards.guard_pools.Given as goal

abbrev pub invariant-guarding : goal.invariant-guarding
invariant-guarding g l =
    (l.things.items ≡ guarded_row l.common.value l.yielded) × All (λ entry. IsPoolOf (stage_in l.common.value) entry.1) l.entry-iterator.rest.items
