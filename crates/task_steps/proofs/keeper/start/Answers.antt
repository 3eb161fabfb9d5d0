use Rattle.std.proofs.Common.{rules, refl}
use Rattle.run_machine.specs.Requests.{Did, NoTicket}
use Rattle.run_machine.specs.Tasks.{Starts}
use Rattle.task_steps.specs.Stage.{Owes}
use Rattle.task_steps.proofs.Asking.{duty_once}
use Rattle.task_steps.proofs.keeper.start.Goals as goal

-- src/keeper.rt
pub returns-in-Ok : goal.returns-in-Ok
returns-in-Ok g c = record {
  does = λ later duties. record {
    came = λ setup. duty_once g.O.Objects.serves (Owes (g.O.Objects.stage c.args.objects.now)) setup (Starts c.args.round later) duties _ c.args.objects.now
        c.next_round.new.self _ Did (c.in-Ok.ensures.serves c.args.round) tt refl refl (search rules);
    held = search rules;
    same = search rules;
  };
}

pub returns-in-Err : goal.returns-in-Err
returns-in-Err g c = record {
  does = λ later duties. record {
    came = λ setup. duty_once g.O.Objects.serves (Owes (g.O.Objects.stage c.args.objects.now)) setup (Starts c.args.round later) duties _ c.args.objects.now
        c.next_round.new.self _ NoTicket (c.in-Err.ensures.serves c.args.round) tt refl (search rules) (search rules);
    held = search rules;
    same = search rules;
  };
}
