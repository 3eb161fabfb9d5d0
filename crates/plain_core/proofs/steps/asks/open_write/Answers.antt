use Rattle.run_machine.specs.Requests.{Write}
use Rattle.plain_core.proofs.object_lemmas.Served as served
use Rattle.plain_core.proofs.steps.asks.open_write.Goals as goal

pub returns : goal.returns
returns c = served.link c.args.objects.now c.open_write.new.self c.args.writer (Write c.args.write c.args.vector) c.args.what.now c.open_write.result c.open_write.ensures
