use Rattle.plain_core.proofs.object_lemmas.Served as served
use Rattle.plain_core.proofs.steps.asks.tell.Goals as goal

pub returns : goal.returns
returns c = served.tell c.args.objects.now c.tell.new.self c.args.writer c.args.place c.args.status c.args.part c.args.what.now c.tell.result c.tell.ensures
