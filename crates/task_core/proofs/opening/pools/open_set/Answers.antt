use Rattle.std.proofs.Common.{◌≡◌, ◌<◌, inl, false, slice_set, length, refl, sym, ap, subst, ◌∙◌}
use Rattle.stack_base.specs.declared.ids.PoolId.TheVariants.{Bios}
use Rattle.stack_base.specs.declared.ids.SetId.TheVariants.{Of}
use Rattle.stack_base.specs.declared.stack.Stack.{Stack}
use Rattle.run_machine.specs.Opened.{reserve_of}
use Rattle.task_core.specs.opened.Openings.{IsOpenPool}
use Rattle.task_steps.specs.Routed.{routing_setup}
use Rattle.run_machine.specs.Scene.{keeps_data}
use Rattle.task_core.proofs.opened.NewPools.{set_used, reserve_is}
use Rattle.task_core.proofs.opening.pools.open_set.Goals as goal

pub returns-in_ok-enter : goal.returns-in_ok-enter
returns-in_ok-enter c =
    let routing = c.args.routes.now in
    let dev = c.args.dev in
    let keeps : keeps_data ((routing_setup routing).tree dev.0) ≡ false = sym c.keeps_data.ensures ∙ c.if-not-keeps_data.true in
    let reserve = reserve_is c.args.stack.now dev c.device.result.now c.device.ensures.found ∙ ap (λ (s : Stack). reserve_of s (Bios dev)) (sym c.requires.same) in
    inl (
      set_used routing dev.0 (subst (λ (s : Stack). dev.0 < length s.devices.items) (sym c.requires.same) c.requires.device) keeps,
      (Of dev, c.in_ok-pool.pool),
      subst (λ min. IsOpenPool c.args.scripts.now c.args.reserves.now (Bios dev) min c.in_ok-pool.pool) reserve c.in_ok-pool.ensures,
      refl,
      c.in_ok-enter.ensures.0,
      c.in_ok-enter.ensures.1 ∙ ap (λ n. slice_set c.args.table.now n (length c.args.bios.now.items)) c.no.ensures,
    )
