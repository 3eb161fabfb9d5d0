use Rattle.plain_core.proofs.object_lemmas.Served as served
use Rattle.plain_core.proofs.steps.asks.resize.Goals as goal

pub returns : goal.returns
returns c = served.resize c.args.objects.now c.resize.new.self c.args.pool c.args.min c.args.what.now c.resize.result c.resize.ensures
