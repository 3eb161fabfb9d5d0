use Rattle.std.proofs.Common.{ap, ◌∙◌, slice_index_or}
use Rattle.task_core.proofs.own.PlainFacts.{records_facts}
use Rattle.task_core.proofs.plain.Plain.records_facts.Goals as goal

-- src/plain/pools.rt
pub returns : goal.returns
returns c =
    c.facts.ensures.facts
    ∙ records_facts c.args.self.now c.requires.holds c.args.dev c.requires.pool c.place-at.result
    (c.place-at.ensures ∙ ap (λ n. slice_index_or c.args.self.now.index.records n 0) c.no.ensures) c.index.result.now c.index.ensures
