use Rattle.task_steps.specs.Routed.{routing_setup}
use Rattle.task_steps.proofs.Devices.{cut_is}
use Rattle.task_steps.proofs.routes.Routes.cut.Goals as goal

pub returns : goal.returns
returns c =
    cut_is (routing_setup c.args.self.now) c.args.self.now.stack c.known.ensures c.args.bio.now c.requires.within c.unwrap.result (rw c.unwrap.ensures at c.first.ensures)
    c.requires.cut
