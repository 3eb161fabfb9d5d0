use Rattle.plain_core.proofs.object_lemmas.Served as served
use Rattle.plain_core.proofs.steps.asks.done.Goals as goal

pub returns : goal.returns
returns c = served.done c.args.objects.now c.done.new.self c.args.write c.args.status c.args.what.now c.done.result c.done.ensures
