use Rattle.std.proofs.Common.{inl, inr, ap}
use Rattle.task_core.specs.Plains.{objects_of}
use Rattle.task_core.proofs.plain.PlainObjects.next_round.Goals as goal

pub returns-clause-serves : goal.returns-clause-serves
returns-clause-serves c =
    λ round. elim c.next_round.ensures [
      | inl later ↦ inl (later.0, ap (λ tally. record (objects_of c.args.self.now) { tally = tally }) later.1)
      | inr last ↦ inr (last.0, ap (λ tally. record (objects_of c.args.self.now) { tally = tally }) last.1)
    ]
