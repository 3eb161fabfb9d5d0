use Rattle.std.proofs.Common.{ap, ◌∙◌}
use Rattle.bio_records.specs.declared.bio.Bio.{Bio}
use Rattle.bio_records.specs.declared.bio.Pad.{Pad}
use Rattle.bio_records.specs.Items.{Item}
use Rattle.task_steps.specs.Within.{IsWithinDevice}
use Rattle.plain_core.specs.objects.Lists.{lists_of}
use Rattle.plain_core.proofs.object_lemmas.Places.{both_within, same_place}
use Rattle.plain_core.proofs.steps.submission.cut.cut.Goals as goal

pub submit-requires-2 : goal.submit-requires-2
submit-requires-2 c = c.submit.ensures.room 1 c.requires.room

pub returns-clause-room : goal.returns-clause-room
returns-clause-room c = c.submit-2.ensures.room 0 (c.submit.ensures.room 1 c.requires.room)

pub returns-clause-within : goal.returns-clause-within
returns-clause-within c =
    let stack = c.args.routes.now.stack in
    let front : IsWithinDevice stack c.with.result.bio =
    same_place stack _ c.with.result.bio c.cut-first.ensures.within (ap (λ (i : Item Pad). i.bio.dev) c.with.ensures) (ap (λ (i : Item Pad). i.bio.range) c.with.ensures) in
    let rest : IsWithinDevice stack c.with-2.result.bio =
    same_place stack _ c.with-2.result.bio c.cut-first.ensures.rest
    (ap (λ (i : Item Pad). i.bio.dev) c.with-2.ensures ∙ ap (λ (b : Bio). b.dev) c.advance.ensures)
    (ap (λ (i : Item Pad). i.bio.range) c.with-2.ensures ∙ ap (λ (b : Bio). b.range) c.advance.ensures) in
    both_within stack (lists_of c.args.lists.now) (lists_of c.submit.new.self) (lists_of c.submit-2.new.self) c.with.result c.with-2.result
    c.requires.lists c.submit.ensures.submitted c.submit-2.ensures.submitted front rest
