use Rattle.plain_core.proofs.steps.need.drive_need.Goals as goal

pub returns-in-ToCut : goal.returns-in-ToCut
returns-in-ToCut c = λ s lists. rw (c.in-ToCut.is) (c.cut_need.ensures s lists)
