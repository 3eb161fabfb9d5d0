use Rattle.plain_core.proofs.object_lemmas.Served as served
use Rattle.plain_core.proofs.steps.asks.pop.Goals as goal

pub returns : goal.returns
returns c = served.pop c.args.objects.now c.pop.new.self c.args.dev c.args.what.now c.pop.result c.pop.ensures
