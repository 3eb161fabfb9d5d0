use Rattle.std.proofs.Common.{◌≡◌, ◌≤◌, ap, ◌∙◌, arith}
use Rattle.stack_base.specs.PoolId.{pool_number}
use Rattle.mempool_core.specs.Move.{opened}
use Rattle.mempool_core.specs.Pool.{LedgerPool}
use Rattle.run_machine.specs.Opened.{script_at}
use Rattle.task_core.specs.opened.Openings.{widest}
use Rattle.task_core.proofs.opened.NewPools.{widest_least}
use Rattle.task_core.proofs.opening.pools.open_pool.Goals as goal

pub returns : goal.returns
returns g c =
    let wide = c.in_ok-widen.ensures.ok in
    let made = c.in_ok-pool.ensures in
    let reserves = c.args.reserves.now in
    let number = pool_number c.args.id in
    let most : c.widest.result ≡ widest reserves number c.args.min = c.widest.ensures ∙ ap (λ n. widest reserves n c.args.min) c.no-3.ensures in
    let least : c.args.min ≤ widest reserves number c.args.min = widest_least reserves number c.args.min in
    let first = made.2 in
    record {
      numbered = ap (λ (p : LedgerPool). p.ledger.no) wide ∙ made.0 ∙ c.no-2.ensures;
      state = ap (λ (p : LedgerPool). p.state) wide ∙ made.1 ∙ ap (opened c.args.min) (c.in_ok-script.ensures ∙ ap (script_at c.args.scripts.now) c.no.ensures);
      most = ap (λ (p : LedgerPool). p.most) wide ∙ omega (arith, most, least, first);
    }
