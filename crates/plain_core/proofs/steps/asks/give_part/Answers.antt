use Rattle.std.proofs.Common.{ℕ, subst}
use Rattle.mempool_core.specs.Move.{gives}
use Rattle.run_machine.specs.declared.event.What.TheVariants as told
use Rattle.run_machine.specs.Events.{pool_of}
use Rattle.plain_core.specs.objects.Told.{MovesAs}
use Rattle.plain_core.proofs.object_lemmas.Served as served
use Rattle.plain_core.proofs.steps.asks.give_part.Goals as goal

pub returns : goal.returns
returns c =
    served.give_bio c.args.objects.now c.give.new.self c.args.part.now c.args.what.now c.give.result
    (subst (λ (n : ℕ). MovesAs c.args.objects.now n gives (told.Give (pool_of n)) c.args.what.now c.give.result c.give.new.self) c.pool.ensures.number c.give.ensures)
