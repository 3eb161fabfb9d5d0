use Rattle.std.proofs.Common.{rules}
use Rattle.bio_records.specs.Items.{item_of}
use Rattle.task_steps.specs.Routed.{routing_setup}
use Rattle.task_steps.proofs.PartsWithin.{both_within}
use Rattle.task_steps.proofs.submission.cut.chain.Goals as goal

-- both parts are within their devices
pub go_on-requires-clause-lists : goal.go_on-requires-clause-lists
go_on-requires-clause-lists g c =
    both_within c.args.routes.now.stack (routing_setup c.args.routes.now) (item_of c.args.bio) (item_of c.args.hand) c.in-Ok.node c.cut-cut.result _ (search rules)
    c.cut-cut.ensures c.args.lists.now c.submit.new.self c.submit-in-Ok.new.self _ _ c.requires.lists c.cut_off-child.ensures.child c.cut_off-child.ensures.rest
    c.submit.ensures c.submit-in-Ok.ensures
