use Rattle.std.proofs.Common.{◌+◌, ◌≤◌, length, vec_capacity}
use Rattle.run_merge.specs.Falling.{facts_left}
use Rattle.run_merge.proofs.leaving.Falls.{Reaches}
use Rattle.run_merge.proofs.rows.add_falling.Given as goal

-- what is behind others, and there is room for the rest
abbrev pub invariant-adding : goal.invariant-adding
invariant-adding l =
    Reaches facts_left facts_left 32 l.fn.bios.items l.fn.records.items l.fn.pools.items
    l.number l.bios.items l.records.items l.pools.items
    × (length l.pools.items + (length l.bios.items + length l.records.items) ≤ vec_capacity l.pools)
