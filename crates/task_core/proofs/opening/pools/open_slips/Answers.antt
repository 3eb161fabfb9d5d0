use Rattle.std.proofs.Common.{◌≡◌, ◌<◌, inl, true, slice_set, length, refl, sym, ap, subst, ◌∙◌}
use Rattle.stack_base.specs.declared.ids.PoolId.TheVariants.{Records}
use Rattle.stack_base.specs.declared.stack.Stack.{Stack}
use Rattle.run_machine.specs.Opened.{reserve_of}
use Rattle.task_core.specs.opened.Openings.{IsOpenPool}
use Rattle.task_steps.specs.Routed.{routing_setup}
use Rattle.run_machine.specs.Scene.{is_mirror}
use Rattle.task_core.proofs.opened.NewPools.{slips_used}
use Rattle.task_core.proofs.opening.pools.open_slips.Goals as goal

pub returns-in_ok-enter : goal.returns-in_ok-enter
returns-in_ok-enter c =
    let routing = c.args.routes.now in
    let dev = c.args.dev in
    let mirror : is_mirror ((routing_setup routing).tree dev.0) ≡ true = sym c.is_mirror.ensures ∙ c.if-is_mirror.true in
    let reserve = c.records_of.ensures ∙ ap (λ (s : Stack). reserve_of s (Records dev)) (sym c.requires.same) in
    inl (
      slips_used routing dev.0 (subst (λ (s : Stack). dev.0 < length s.devices.items) (sym c.requires.same) c.requires.device) mirror,
      (dev, c.in_ok-pool.pool),
      subst (λ min. IsOpenPool c.args.scripts.now c.args.reserves.now (Records dev) min c.in_ok-pool.pool) reserve c.in_ok-pool.ensures,
      refl,
      c.in_ok-enter.ensures.0,
      c.in_ok-enter.ensures.1 ∙ ap (λ n. slice_set c.args.table.now n (length c.args.records.now.items)) c.no.ensures,
    )
