use Rattle.std.proofs.Common.{◌≡◌, ◌+◌, ◌<◌, ◌≤◌, ℕ}
use Rattle.run_merge.specs.Heads.{AreInner, head_at, node_head, rows}
use Rattle.run_merge.proofs.heads.open_heads.Given as goal

-- the matches from this node on are played, and the leaves stay
abbrev pub invariant-playing : goal.invariant-playing
invariant-playing g l =
    AreInner l.count l.nodes.items (λ number. l.number ≤ number)
    × ((list : ℕ) → list < l.count → node_head l.nodes.items (l.count + list) ≡ head_at (rows l.fn.lists) list 0)
