use Rattle.std.proofs.Common.{length, get_or, ap, arith}
use Rattle.std.proofs.lemmas.Option.{slice_get-get_or}
use Rattle.layout_model.proofs.MirrorMembers.{choice_there, chosen_is}
use Rattle.layout_model.proofs.way.chosen.Goals as goal

-- there is a choice
pub bounds-choices-0 : goal.bounds-choices-0
bounds-choices-0 c =
    (choice_there c.args.stack.now c.requires.stack c.args.dev.0 c.args.device.now c.requires.found c.requires.copies
    c.args.sector c.args.choices.now c.requires.fits).0

pub slice_bounds-result-count : goal.slice_bounds-result-count
slice_bounds-result-count c =
    (choice_there c.args.stack.now c.requires.stack c.args.dev.0 c.args.device.now c.requires.found c.requires.copies
    c.args.sector c.args.choices.now c.requires.fits).0

pub slice_bounds-result-start : goal.slice_bounds-result-start
slice_bounds-result-start c =
    (choice_there c.args.stack.now c.requires.stack c.args.dev.0 c.args.device.now c.requires.found c.requires.copies
    c.args.sector c.args.choices.now c.requires.fits).0

-- it is the place of a member
pub bounds-deref-choices : goal.bounds-deref-choices
bounds-deref-choices c =
    omega (
      arith,
      ap length c.deref.ensures.0,
      (choice_there c.args.stack.now c.requires.stack c.args.dev.0 c.args.device.now c.requires.found c.requires.copies
          c.args.sector c.args.choices.now c.requires.fits).1,
    )

pub returns : goal.returns
returns c =
    rw c.deref.ensures.0 (
    chosen_is c.args.stack.now c.requires.stack c.args.dev.0 c.args.device.now c.requires.found c.requires.copies
    c.args.sector c.args.choices.now _ c.requires.fits
    (slice_get-get_or c.args.device.now.members.items (get_or c.args.choices.now 0 0) (record { 0 = 0 })
    (choice_there c.args.stack.now c.requires.stack c.args.dev.0 c.args.device.now c.requires.found c.requires.copies
    c.args.sector c.args.choices.now c.requires.fits).1)
    )
