use Rattle.std.proofs.Common.{None, Some, refl, ap, rules}
use Rattle.bio_books.specs.Views.{drop_outcome_of}
use Rattle.run_machine.specs.Requests.{DroppedTo}
use Rattle.run_machine.specs.Tasks.{Completer}
use Rattle.task_steps.specs.Routed.{routing_setup}
use Rattle.task_steps.specs.Stage.{Owes}
use Rattle.task_steps.specs.CarriedViews.{given_back}
use Rattle.task_steps.proofs.Asking.{completer_once}
use Rattle.task_steps.proofs.completer.Carried.drop_parent.Goals as goal

pub returns-in-Ok : goal.returns-in-Ok
returns-in-Ok g c = record {
  does = record {
    came = completer_once g.O.Objects.serves (Owes (g.O.Objects.stage c.args.objects.now)) (routing_setup (g.O.Objects.stage c.args.objects.now).routing) c.args.disk
        (given_back c.args.writer (Some c.args.parent) c.args.write c.args.status) c.told.new.self c.args.objects.now c.drop_one.new.self c.told.result
        (DroppedTo (drop_outcome_of c.in-Ok.dropped)) c.in-Ok.ensures.serves c.in-Ok.ensures.owed refl refl (ap (Completer c.args.disk) c.told.ensures.carried)
        (c.told.ensures.step None (routing_setup (g.O.Objects.stage c.args.objects.now).routing));
    held = search rules;
    same = search rules;
  };
}
