use Rattle.plain_core.proofs.object_lemmas.Served as served
use Rattle.plain_core.proofs.steps.asks.complete.Goals as goal

pub returns : goal.returns
returns c = served.complete c.args.objects.now c.complete.new.self c.args.disk c.args.what.now c.complete.result c.complete.ensures
