use Rattle.std.proofs.Common.{◌≡◌, ◌+◌, ◌<◌, ℕ, length}
use Rattle.run_merge.specs.Heads.{head_at, node_head, rows}
use Rattle.run_merge.proofs.heads.add_heads.Given as goal

-- so many heads are added
abbrev pub invariant-adding : goal.invariant-adding
invariant-adding g l =
    (length l.nodes.items ≡ length l.initial.nodes.items + l.list)
    × ((list : ℕ) → list < l.list → node_head l.nodes.items (length l.initial.nodes.items + list) ≡ head_at (rows l.lists) list 0)
