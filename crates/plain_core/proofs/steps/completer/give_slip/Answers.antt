use Rattle.plain_core.proofs.step_lemmas.Tasks.{gave_slip}
use Rattle.plain_core.proofs.steps.completer.give_slip.Goals as goal

pub returns-in-Ok : goal.returns-in-Ok
returns-in-Ok c = gave_slip c.args.objects.now c.give_slip.new.objects c.in-Some.held c.args.slip.now c.args.what.now c.in-Some.is c.in-Ok.ensures
