use Rattle.std.proofs.Common.{rules, ◌-◌, [], ◌∷◌, ◌++◌, length, get_or, take, drop, ap, sym, ◌∙◌, arith}
use Rattle.std.proofs.lemmas.List.{append_assoc}
use Rattle.std.proofs.lemmas.Result.{on_ok_weaker}
use Rattle.std.proofs.lemmas.Option.{slice_get-get_or}
use Rattle.stack_base.specs.Tree.{shape_of, tree}
use Rattle.layout_model.specs.Way.{heads}
use Rattle.layout_model.proofs.MirrorMembers.{leg_known, choice_there}
use Rattle.layout_model.proofs.MirrorLemmas.{disk_place}
use Rattle.biostack_tests.proofs.SlowLegs.{leg_asks, leg_goes, disk_heads}
use Rattle.biostack_tests.proofs.slow.+walk.Goals as goal

-- there is a choice
pub bounds-choices-0 : goal.bounds-choices-0
bounds-choices-0 t c =
    (choice_there c.args.stack.now c.requires.stack c.args.dev.0 c.device-device.result.now c.device-device.ensures.found (ap shape_of c.in-Mirror.is)
    c.args.sector c.args.choices.now c.requires.fits).0

pub slice_bounds-walk-count : goal.slice_bounds-walk-count
slice_bounds-walk-count t c =
    (choice_there c.args.stack.now c.requires.stack c.args.dev.0 c.device-device.result.now c.device-device.ensures.found (ap shape_of c.in-Mirror.is)
    c.args.sector c.args.choices.now c.requires.fits).0

pub slice_bounds-walk-start : goal.slice_bounds-walk-start
slice_bounds-walk-start t c =
    (choice_there c.args.stack.now c.requires.stack c.args.dev.0 c.device-device.result.now c.device-device.ensures.found (ap shape_of c.in-Mirror.is)
    c.args.sector c.args.choices.now c.requires.fits).0

-- it is the place of a member
pub bounds-deref-choices : goal.bounds-deref-choices
bounds-deref-choices t c =
    omega (
      arith,
      ap length c.deref.ensures.0,
      (choice_there c.args.stack.now c.requires.stack c.args.dev.0 c.device-device.result.now c.device-device.ensures.found (ap shape_of c.in-Mirror.is)
          c.args.sector c.args.choices.now c.requires.fits).1,
    )

-- the way goes on there
pub walk-requires : goal.walk-requires
walk-requires t c =
    let there = choice_there c.args.stack.now c.requires.stack c.args.dev.0 c.device-device.result.now c.device-device.ensures.found (ap shape_of c.in-Mirror.is)
    c.args.sector c.args.choices.now c.requires.fits in
    let at_choice = slice_get-get_or c.device-device.result.now.members.items (get_or c.args.choices.now 0 0) (record { 0 = 0 }) there.1 in
    let known = rw (sym c.deref.ensures.0) at (
    leg_known c.args.stack.now c.requires.stack c.args.dev.0 c.device-device.result.now c.device-device.ensures.found (ap shape_of c.in-Mirror.is)
    (get_or c.args.choices.now 0 0) _ at_choice) in
    let asks = rw (sym c.deref.ensures.0) at (
    leg_asks c.args.stack.now c.requires.stack c.args.dev.0 c.device-device.result.now c.device-device.ensures.found (ap shape_of c.in-Mirror.is)
    c.args.sector c.args.choices.now _ there.0 at_choice) in
    (omega (arith, known.0), (c.requires.stack, (known.1, (c.requires.in_run, (omega (arith, known.2, c.requires.within), asks.0 c.requires.fits)))))

-- it ends at a disk
pub returns-in_ok-push-in-Disk-clause-heads : goal.returns-in_ok-push-in-Disk-clause-heads
returns-in_ok-push-in-Disk-clause-heads t c =
    c.in_ok-push-in-Disk.ensures.items
    ∙ ap (λ more. c.args.into.now.items ++ more)
    (sym (disk_heads c.args.stack.now c.requires.stack c.args.dev.0 c.device-device.result.now c.device-device.ensures.found c.in-Disk.sectors
    (ap shape_of c.in-Disk.is) c.args.start c.args.sector c.args.choices.now))

pub returns-in_ok-push-in-Disk-clause-place : goal.returns-in_ok-push-in-Disk-clause-place
returns-in_ok-push-in-Disk-clause-place t c =
    disk_place c.args.stack.now c.requires.stack c.args.dev.0 c.device-device.result.now c.device-device.ensures.found c.in-Disk.sectors
    (ap shape_of c.in-Disk.is) c.args.sector c.args.choices.now

-- a mirror's own head comes first
pub returns-in_ok-push-in-Mirror-clause-heads : goal.returns-in_ok-push-in-Mirror-clause-heads
returns-in_ok-push-in-Mirror-clause-heads t c =
    let there = choice_there c.args.stack.now c.requires.stack c.args.dev.0 c.device-device.result.now c.device-device.ensures.found (ap shape_of c.in-Mirror.is)
    c.args.sector c.args.choices.now c.requires.fits in
    let at_choice = slice_get-get_or c.device-device.result.now.members.items (get_or c.args.choices.now 0 0) (record { 0 = 0 }) there.1 in
    let member = (get_or c.deref.result.now (get_or c.args.choices.now 0 0) (record { 0 = 0 })).0 in
    let others = take (length c.args.choices.now - 1) (drop 1 c.args.choices.now) in
    let goes = rw (sym c.deref.ensures.0) at (
    leg_goes c.args.stack.now c.requires.stack c.args.dev.0 c.device-device.result.now c.device-device.ensures.found (ap shape_of c.in-Mirror.is)
    c.args.start c.args.sector c.args.choices.now _ there.0 at_choice) in
    on_ok_weaker c.walk.result (λ so. so
    ∙ ap (λ before. before ++ heads (tree c.args.stack.now member) c.args.start c.args.sector others) c.in_ok-push-in-Mirror.ensures.items
    ∙ append_assoc c.args.into.now.items (c.args.start ∷ []) (heads (tree c.args.stack.now member) c.args.start c.args.sector others)
    ∙ ap (λ more. c.args.into.now.items ++ more) (sym goes.0)) c.walk.ensures.heads

pub returns-in_ok-push-in-Mirror-clause-place : goal.returns-in_ok-push-in-Mirror-clause-place
returns-in_ok-push-in-Mirror-clause-place t c =
    let there = choice_there c.args.stack.now c.requires.stack c.args.dev.0 c.device-device.result.now c.device-device.ensures.found (ap shape_of c.in-Mirror.is)
    c.args.sector c.args.choices.now c.requires.fits in
    let at_choice = slice_get-get_or c.device-device.result.now.members.items (get_or c.args.choices.now 0 0) (record { 0 = 0 }) there.1 in
    let goes = rw (sym c.deref.ensures.0) at (
    leg_goes c.args.stack.now c.requires.stack c.args.dev.0 c.device-device.result.now c.device-device.ensures.found (ap shape_of c.in-Mirror.is)
    c.args.start c.args.sector c.args.choices.now _ there.0 at_choice) in
    rw goes.1 (search rules)
