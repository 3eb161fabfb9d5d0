use Rattle.bio_records.specs.Items.{item_of}
use Rattle.task_steps.proofs.PartsWithin.{one_within}
use Rattle.task_steps.proofs.submission.mirror.leg.Goals as goal

-- the leg is within its member
pub copy_on-requires-clause-lists : goal.copy_on-requires-clause-lists
copy_on-requires-clause-lists g c =
    one_within c.args.routes.now.stack (item_of c.copy_of.result) c.args.lists.now c.submit.new.self c.copy_of.ensures.within c.requires.lists c.submit.ensures
