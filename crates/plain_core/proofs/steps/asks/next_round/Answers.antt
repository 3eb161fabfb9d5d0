use Rattle.plain_core.proofs.object_lemmas.Served as served
use Rattle.plain_core.proofs.steps.asks.next_round.Goals as goal

pub returns : goal.returns
returns c = served.next_round c.args.objects.now c.next_round.new.self c.args.round c.args.what.now c.next_round.result c.next_round.ensures
