use Rattle.std.proofs.Common.{◌≡◌, ◌≤◌, All, vec_len, vec_capacity}
use Rattle.mempool_core.proofs.bodies.fresh_bodies.Given as goal

abbrev pub invariant-filling : goal.invariant-filling
invariant-filling g l =
    (vec_len l.bodies ≡ l.counter) × (l.count ≤ vec_capacity l.bodies) × All (λ body. g.P.Fresh.is_clear body.value) l.bodies.items
