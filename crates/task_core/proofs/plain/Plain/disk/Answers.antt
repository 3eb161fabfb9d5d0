use Rattle.std.proofs.Common.{sym}
use Rattle.task_core.proofs.own.PlainLemmas.{disk_there}
use Rattle.task_core.proofs.plain.Plain.disk.Goals as goal

pub returns : goal.returns
returns c = sym (disk_there c.args.self.now c.requires.holds c.args.dev.0 c.place.result c.requires.disk c.place.ensures c.index.result.now c.index.ensures)
