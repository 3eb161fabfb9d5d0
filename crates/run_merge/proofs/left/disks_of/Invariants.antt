use Rattle.std.proofs.Common.{◌≡◌, ◌+◌, ◌≤◌, ◌++◌, length, map, vec_capacity}
use Rattle.run_merge.proofs.left.disks_of.Given as goal

-- the disks so far, and behind them the rest, for which there is room
abbrev pub invariant-adding : goal.invariant-adding
invariant-adding l =
    (l.disks.items ++ map (λ disk. disk.thing.object) l.disk-iterator.rest.items ≡ map (λ disk. disk.thing.object) l.fn.shut.items)
    × (length l.disks.items + length l.disk-iterator.rest.items ≤ vec_capacity l.disks)
