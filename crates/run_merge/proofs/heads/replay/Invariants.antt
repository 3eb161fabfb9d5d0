use Rattle.std.proofs.Common.{◌≡◌, ◌+◌, ◌<◌, ◌≤◌, ℕ}
use Rattle.run_merge.specs.Heads.{IsTournamentBut, node_head}
use Rattle.run_merge.proofs.heads.replay.Given as goal

-- the matches below are played, and the leaves stay
abbrev pub invariant-replaying : goal.invariant-replaying
invariant-replaying l =
    (1 ≤ l.number) × (l.number < l.count + l.count) × IsTournamentBut l.count l.nodes.items l.number
    × ((number : ℕ) → l.count ≤ number → node_head l.nodes.items number ≡ node_head l.initial.nodes.items number)

abbrev pub decreases-replaying : goal.decreases-replaying
decreases-replaying l = l.number
