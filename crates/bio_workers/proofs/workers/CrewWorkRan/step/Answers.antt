use Rattle.std.proofs.Common.{sym, subst}
use Rattle.shared_objects.specs.Rans.{TurnsWith}
use Rattle.bio_workers.proofs.workers.CrewWorkRan.step.Goals as goal

pub returns-clause-goes : goal.returns-clause-goes
returns-clause-goes g c =
    let old = c.args.task.now in
    let new = c.step-step.new.self in
    record {
      step = c.step-step.result;
      turns = subst (λ home. TurnsWith home old.task old.seats new.task new.seats c.step-step.result) (sym c.requires) c.step-step.ensures.turns;
      events = c.step-step.ensures.events;
      comes = c.work_outcome.ensures;
    }
