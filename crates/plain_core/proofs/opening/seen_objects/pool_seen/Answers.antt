use Rattle.std.proofs.Common.{◌≡◌, true, false, ap, sym, ◌∙◌}
use Rattle.mempool_core.specs.Move.{opened}
use Rattle.run_machine.specs.Events.{pool_of}
use Rattle.task_core.specs.Plains.{stage_of}
use Rattle.task_steps.specs.Stage.{is_pool}
use Rattle.plain_core.proofs.opening_lemmas.Seen.{adds_up, no_pool_there, pool_is}
use Rattle.plain_core.proofs.opening.seen_objects.pool_seen.Goals as goal

pub returns-then-not-has_pool : goal.returns-then-not-has_pool
returns-then-not-has_pool c =
    let o = c.args.opened.now in
    let none : is_pool (stage_of o.objects) (pool_of c.args.number) ≡ false =
    ap (is_pool (stage_of o.objects)) (sym c.pool_of-pool.ensures) ∙ sym c.has_pool.ensures ∙ c.if-not-has_pool.true in
    c.new-then-not-has_pool-2.ensures
    ∙ ap (opened 0) (c.new-then-not-has_pool.ensures ∙ (λ k. record { entries = c.new.ensures.items k; tail = true }))
    ∙ sym (no_pool_there o c.requires.opened c.args.number none)

pub of-requires : goal.of-requires
of-requires c = adds_up c.args.opened.now c.requires.opened c.args.number c.pool_of-pool.result c.pool_of-pool.ensures c.facts.result c.facts.ensures

pub returns : goal.returns
returns c =
    c.of.ensures
    ∙ pool_is c.args.opened.now c.requires.opened c.args.number c.pool_of-pool.result c.pool_of-pool.ensures c.in_ok-script.script c.facts.result
    (c.in_ok-script.ensures ∙ c.script.ensures) c.facts.ensures
