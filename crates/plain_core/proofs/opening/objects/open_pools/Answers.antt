use Rattle.std.proofs.Common.{◌<◌, ◌^◌, ap, ◌∙◌, arith}
use Rattle.std.proofs.lemmas.List.Elements.{All-weaker}
use Rattle.fail_script.specs.Script.{Answers}
use Rattle.stack_base.specs.declared.ids.PoolId.{PoolId}
use Rattle.stack_base.specs.PoolId.{IsOfStack, pool_number}
use Rattle.mempool_core.specs.Move.{opened}
use Rattle.run_machine.specs.Opened.{reserve_of}
use Rattle.plain_core.specs.opening.Opening.{new_pool}
use Rattle.plain_core.proofs.opening_lemmas.MadeByNumber.{mapped_more}
use Rattle.stack_base.proofs.PoolNumbers.{pool_number_le}
use Rattle.plain_core.proofs.opening.objects.open_pools.Goals as goal

pub script_of-requires : goal.script_of-requires
script_of-requires c =
    All-weaker (λ (script : PoolId × Answers). IsOfStack script.0) (λ (script : PoolId × Answers). pool_number script.0 < 2 ^ 32)
    (λ script is. let small = pool_number_le script.0 is in omega (arith, small)) c.args.scripts.now c.requires.scripts

pub opening-preserved : goal.opening-preserved
opening-preserved c =
    mapped_more (new_pool c.args.stack.now c.args.scripts.now) c.opening.pools.items c.push.new.self.items c.opening.number c.new.result c.in_ok-push.ensures.items
    c.opening.invariant
    (c.new.ensures ∙ (λ k. opened ((c.reserve_of.ensures ∙ ap (reserve_of c.args.stack.now) c.pool_of.ensures) k) (c.in_ok-script.ensures k)))
