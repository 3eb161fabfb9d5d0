use Rattle.bio_records.specs.Items.{item_of}
use Rattle.task_steps.specs.Within.{IsItemWithin}
use Rattle.task_steps.proofs.Waiting.{next_has}
use Rattle.task_steps.proofs.submission.dispatch.go_on.Goals as goal

-- what holds of all that wait holds of the next
pub serve-requires-clause-within : goal.serve-requires-clause-within
serve-requires-clause-within c =
    next_has (IsItemWithin c.args.routes.now.stack) c.args.lists.now c.requires.lists c.args.served (item_of c.in-Some.bio) _ c.in-Some.ensures.order.0
