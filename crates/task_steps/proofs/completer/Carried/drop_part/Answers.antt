use Rattle.std.proofs.Common.{◌≡◌, Some, refl, ap, subst, rules}
use Rattle.bio_records.specs.declared.bio.Pad.{Pad}
use Rattle.bio_records.specs.declared.body.BioBody.{BioBody, out-BioBody}
use Rattle.bio_records.specs.Items.{item_of}
use Rattle.bio_books.specs.Views.{drop_outcome_of}
use Rattle.run_machine.specs.declared.event.TaskId.TheVariants.{Completer as Completer'}
use Rattle.run_machine.specs.Requests.{Request, Drop, DroppedTo}
use Rattle.run_machine.specs.Tasks.{Carried, Brings, Completer, after_drop}
use Rattle.task_steps.specs.Routed.{routing_setup}
use Rattle.task_steps.specs.Stage.{Owes}
use Rattle.task_steps.specs.Turns.{step_of}
use Rattle.task_steps.proofs.Asking.{completer_once}
use Rattle.task_steps.proofs.completer.Carried.drop_part.Goals as goal

pub returns-in-Ok : goal.returns-in-Ok
returns-in-Ok g c =
    let stage = g.O.Objects.stage c.args.objects.now in
    let asked : BioBody Pad → Request = λ body.
    Drop (out-BioBody Pad body).bio.writer (out-BioBody Pad body).bio.node c.args.status (Some (item_of c.args.bio)) in
    let told : BioBody Pad → Carried = λ body.
    after_drop (out-BioBody Pad body).bio.writer (out-BioBody Pad body).bio.node (drop_outcome_of c.in-Ok.dropped) in
    record {
      does = record {
        came = completer_once g.O.Objects.serves (Owes stage) (routing_setup stage.routing) c.args.disk (Brings (item_of c.args.bio) c.args.status)
            c.told.new.self c.args.objects.now c.drop_one.new.self c.told.result (DroppedTo (drop_outcome_of c.in-Ok.dropped))
            (subst (λ body. g.O.Objects.serves c.args.objects.now (asked body) (DroppedTo (drop_outcome_of c.in-Ok.dropped)) c.drop_one.new.self)
            c.deref.ensures c.in-Ok.ensures.serves)
            (subst (λ body. Owes stage (asked body) (DroppedTo (drop_outcome_of c.in-Ok.dropped))) c.deref.ensures c.in-Ok.ensures.owed) refl refl
            (ap (Completer c.args.disk) (subst (λ body. c.told.new.self ≡ told body) c.deref.ensures c.told.ensures.carried))
            (subst (λ body. c.told.result ≡ step_of (routing_setup stage.routing) (Completer' c.args.disk) (asked body) (DroppedTo (drop_outcome_of c.in-Ok.dropped)))
            c.deref.ensures (c.told.ensures.step (Some (item_of c.args.bio)) (routing_setup stage.routing)));
        held = search rules;
        same = search rules;
      };
    }
