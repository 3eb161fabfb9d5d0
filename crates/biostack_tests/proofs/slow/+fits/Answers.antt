use Rattle.std.proofs.Common.{◌<◌, length, get_or, refl, ap, sym, ◌∙◌, arith}
use Rattle.std.proofs.lemmas.Bool.{both_ways, eqb-true, eqb-false, eq-eqb}
use Rattle.std.proofs.lemmas.Option.{slice_get-get_or}
use Rattle.stack_base.specs.Tree.{shape_of}
use Rattle.stack_base.proofs.NumberLemmas.{nonzero}
use Rattle.layout_model.proofs.MirrorMembers.{leg_known, choice_there}
use Rattle.biostack_tests.proofs.SlowLegs.{leg_asks, disk_asks}
use Rattle.biostack_tests.proofs.slow.+fits.Goals as goal
use Rattle.biostack_tests.proofs.slow.+fits.Goals.{then-is_empty-via-then-is_empty, then-is_empty-via-else-is_empty+then-len-choices}

-- no choice, or one that names no member
pub returns-then-is_empty : goal.returns-then-is_empty
returns-then-is_empty t c = (
  λ no. absurd (both_ways _ refl no),
  λ fits.
      let there = choice_there c.args.stack.now c.requires.stack c.args.dev.0 c.device-device.result.now c.device-device.ensures.found (ap shape_of c.in-Mirror.is)
      c.args.sector c.args.choices.now fits in
      elim c.then-is_empty.branch [
        | then-is_empty-via-then-is_empty w ↦
            absurd (omega (arith, there.0, eqb-true (length c.args.choices.now) 0 (sym c.is_empty-in-Mirror.ensures ∙ w.if-is_empty.true)))
        | then-is_empty-via-else-is_empty+then-len-choices w ↦ absurd (omega (arith, there.1, w.if-len-choices.true, w.len.ensures.value))
      ],
)

-- a member was declared before, and is as large as the mirror
pub fits-requires : goal.fits-requires
fits-requires t c =
    let inside : get_or c.args.choices.now 0 0 < length c.device-device.result.now.members.items = omega (arith, c.if-len-choices.false, c.len.ensures.value) in
    let known = rw (sym c.deref.ensures.0) at (
    leg_known c.args.stack.now c.requires.stack c.args.dev.0 c.device-device.result.now c.device-device.ensures.found (ap shape_of c.in-Mirror.is)
    (get_or c.args.choices.now 0 0) _ (slice_get-get_or c.device-device.result.now.members.items (get_or c.args.choices.now 0 0) (record { 0 = 0 }) inside)) in
    (omega (arith, known.0), (c.requires.stack, (known.1, omega (arith, known.2, c.requires.within))))

-- there is no mirror any more
pub returns-in-Disk : goal.returns-in-Disk
returns-in-Disk t c =
    let asks = disk_asks c.args.stack.now c.requires.stack c.args.dev.0 c.device-device.result.now c.device-device.ensures.found c.in-Disk.sectors
    (ap shape_of c.in-Disk.is) c.args.sector c.args.choices.now in (
      λ yes. asks.1 (eqb-true (length c.args.choices.now) 0 (sym c.is_empty.ensures ∙ yes)),
      λ fits. c.is_empty.ensures ∙ eq-eqb (length c.args.choices.now) 0 (asks.0 fits),
    )

-- the other choices lead on from the member
pub returns-else-len-choices : goal.returns-else-len-choices
returns-else-len-choices t c =
    let inside : get_or c.args.choices.now 0 0 < length c.device-device.result.now.members.items = omega (arith, c.if-len-choices.false, c.len.ensures.value) in
    let some = nonzero (length c.args.choices.now) (eqb-false (length c.args.choices.now) 0 (sym c.is_empty-in-Mirror.ensures ∙ c.if-is_empty.false)) in
    let asks = rw (sym c.deref.ensures.0) at (
    leg_asks c.args.stack.now c.requires.stack c.args.dev.0 c.device-device.result.now c.device-device.ensures.found (ap shape_of c.in-Mirror.is)
    c.args.sector c.args.choices.now _ some
    (slice_get-get_or c.device-device.result.now.members.items (get_or c.args.choices.now 0 0) (record { 0 = 0 }) inside)) in
    (λ yes. asks.1 (c.fits.ensures.0 yes), λ fits. c.fits.ensures.1 (asks.0 fits))
