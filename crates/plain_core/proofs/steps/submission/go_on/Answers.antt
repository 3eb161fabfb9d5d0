use Rattle.plain_core.specs.objects.Lists.{lists_of}
use Rattle.plain_core.proofs.object_lemmas.Places.{next_within}
use Rattle.plain_core.proofs.steps.submission.go_on.Goals as goal

pub drive-requires : goal.drive-requires
drive-requires c = next_within c.args.routes.now.stack c.args.dev (lists_of c.args.submission.now.lists) c.in-Some.part _ c.requires.within c.in-Some.ensures.list1
