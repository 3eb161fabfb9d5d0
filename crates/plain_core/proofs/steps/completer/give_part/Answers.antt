use Rattle.plain_core.proofs.step_lemmas.Tasks.{gave_part}
use Rattle.plain_core.proofs.steps.completer.give_part.Goals as goal

pub returns-in-Ok : goal.returns-in-Ok
returns-in-Ok c = gave_part c.args.objects.now c.give_part.new.objects c.in-Some.held c.args.bio.now c.args.slip.now c.args.what.now c.in-Some.is c.in-Ok.ensures
