use Rattle.std.proofs.Common.{sym, ◌∙◌}
use Rattle.work_text.proofs.NameLemmas.{shown_place}
use Rattle.work_text.proofs.names.device_of.Goals as goal

pub returns-in_err-place : goal.returns-in_err-place
returns-in_err-place c =
    rw c.from_residual.ensures
    (sym (c.in_err-place.was)
    ∙ c.place_of.ensures
    ∙ shown_place c.args.stack.now c.args.name.now)

pub returns : goal.returns
returns c =
    sym (c.in_ok-place.was)
    ∙ c.place_of.ensures
    ∙ shown_place c.args.stack.now c.args.name.now
