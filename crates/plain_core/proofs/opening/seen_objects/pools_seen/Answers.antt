use Rattle.std.proofs.Common.{◌≡◌, ◌∙◌, ap, arith}
use Rattle.task_core.specs.opened.OfOne.{scenario_in}
use Rattle.plain_core.specs.opening.Opening.{new_pool, new_pools}
use Rattle.plain_core.proofs.opening_lemmas.MadeByNumber.{mapped_more}
use Rattle.plain_core.proofs.opening.seen_objects.pools_seen.Goals as goal

pub seeing-preserved : goal.seeing-preserved
seeing-preserved c =
    let s = scenario_in c.args.opened.now in
    mapped_more (new_pool s.stack s.scripts) c.seeing.pools.items c.push.new.self.items c.seeing.number c.in_ok-pool_seen.field-0 c.in_ok-push.ensures.items
    c.seeing.invariant c.in_ok-pool_seen.ensures

pub returns : goal.returns
returns c =
    let s = scenario_in c.args.opened.now in
    let all : c.seeing.number ≡ 66 = omega (arith, c.seeing-test.false, c.seeing.auto.number-end) in
    c.seeing.invariant ∙ ap (new_pools s.stack s.scripts) all
