use Rattle.std.proofs.Common.{◌≡◌, ◌+◌, ◌-◌, ◌<◌, ◌≤◌, length, take, get_or, sum_by, Some, sym, ap, refl, rules, arith}
use Rattle.std.specs.Prelude.{slice_get}
use Rattle.std.proofs.lemmas.List.{take_all}
use Rattle.std.proofs.lemmas.List.Sums.{sum_by_more_le}
use Rattle.std.proofs.lemmas.Option.{slice_get-get_or, slice_get_within}
use Rattle.stack_base.specs.declared.ids.DevId.{DevId}
use Rattle.stack_base.specs.Tree.{size, tree}
use Rattle.layout_model.specs.Need.{fragments_in_run, needed}
use Rattle.layout_model.proofs.CountSteps.{needed_step, fragments_step, fragments_none}
use Rattle.layout_model.proofs.SmallCounts.{needed_small, fragments_small}
use Rattle.layout_model.proofs.MirrorLemmas.{legs_needed, legs_count, leg_size, disk_needed, disk_count}
use Rattle.layout_model.proofs.counts.+counts.Goals as goal

-- a disk needs nothing, and gets one fragment
pub count-returns-in-Disk-clause-needed : goal.count-returns-in-Disk-clause-needed
count-returns-in-Disk-clause-needed t c =
    let device = c.device-device.result.now in
    sym (disk_needed c.args.stack.now c.requires.stack c.args.dev.0 device c.device-device.ensures.found c.in-Disk.sectors (rw c.in-Disk.is refl) c.args.start c.args.len)

pub count-returns-in-Disk-clause-fragments : goal.count-returns-in-Disk-clause-fragments
count-returns-in-Disk-clause-fragments t c =
    let device = c.device-device.result.now in
    sym (disk_count c.args.stack.now c.requires.stack c.args.dev.0 device c.device-device.ensures.found c.in-Disk.sectors (rw c.in-Disk.is refl) c.args.start c.args.len c.requires.some)

-- a member was declared before the mirror, and is no smaller
pub count_legs-count-below-requires : goal.count_legs-count-below-requires
count_legs-count-below-requires t c =
    let device = c.device-device.result.now in
    let found = c.device-device.ensures.found in
    let items = device.members.items in
    let place = c.loop-member.member-index in
    let inside : place < length items = omega (arith, ap length c.deref-member-items.ensures.0) in
    let m : DevId = get_or items place (record { 0 = 0 }) in
    let at_place : slice_get items place ≡ Some m = slice_get-get_or items place (record { 0 = 0 }) inside in
    let below : m.0 < c.args.dev.0 = c.device-device.ensures.is_device.below place m at_place in
    let wide : size (tree c.args.stack.now c.args.dev.0) ≤ size (tree c.args.stack.now m.0) =
    leg_size c.args.stack.now c.requires.stack c.args.dev.0 device found (c.requires.copies device found) place m at_place in
    rw c.deref-member-items.ensures.0 (search rules, (c.requires.stack, (omega arith, (c.requires.some, omega arith))))

-- what was counted is a part of what the mirror needs
pub count_legs-overflow_add-needed-in-loop-member :
    goal.count_legs-overflow_add-needed-in-loop-member
count_legs-overflow_add-needed-in-loop-member t c =
    let device = c.device-device.result.now in
    let found = c.device-device.ensures.found in
    let items = device.members.items in
    let place = c.loop-member.member-index in
    let inside : place < length items = omega (arith, ap length c.deref-member-items.ensures.0) in
    let need_of = λ (m : DevId). needed (tree c.args.stack.now m.0) c.args.start c.args.len in
    omega (
      arith,
      rw c.deref-member-items.ensures.0 at c.loop-member.invariant.needed,
      rw c.deref-member-items.ensures.0 at c.count-below.ensures.needed,
      sum_by_more_le need_of items place (record { 0 = 0 }) inside,
      legs_needed c.args.stack.now c.requires.stack c.args.dev.0 device found (c.requires.copies device found) c.args.start c.args.len c.requires.some,
      needed_small c.args.stack.now c.requires.stack c.args.dev.0 c.args.start c.args.len c.requires.known c.requires.within,
    )

pub count_legs-overflow_add-fragments : goal.count_legs-overflow_add-fragments
count_legs-overflow_add-fragments t c =
    let device = c.device-device.result.now in
    let found = c.device-device.ensures.found in
    let items = device.members.items in
    let place = c.loop-member.member-index in
    let inside : place < length items = omega (arith, ap length c.deref-member-items.ensures.0) in
    let need_of = λ (m : DevId). fragments_in_run (tree c.args.stack.now m.0) c.args.start c.args.len in
    omega (
      arith,
      rw c.deref-member-items.ensures.0 at c.loop-member.invariant.fragments,
      rw c.deref-member-items.ensures.0 at c.count-below.ensures.fragments,
      sum_by_more_le need_of items place (record { 0 = 0 }) inside,
      legs_count c.args.stack.now c.requires.stack c.args.dev.0 device found (c.requires.copies device found) c.args.start c.args.len,
      fragments_small c.args.stack.now c.requires.stack c.args.dev.0 c.args.start c.args.len c.requires.known c.requires.within c.requires.some,
    )

pub count_legs-returns-clause-needed : goal.count_legs-returns-clause-needed
count_legs-returns-clause-needed t c =
    let device = c.device-device.result.now in
    let found = c.device-device.ensures.found in
    let items = device.members.items in
    let need_of = λ (m : DevId). needed (tree c.args.stack.now m.0) c.args.start c.args.len in
    let all : take c.loop-member.member-index items ≡ items = take_all c.loop-member.member-index items (omega (arith, ap length c.deref-member-items.ensures.0)) in
    omega (
      arith,
      rw c.deref-member-items.ensures.0 at c.loop-member.invariant.needed,
      ap (sum_by need_of) all,
      legs_needed c.args.stack.now c.requires.stack c.args.dev.0 device found (c.requires.copies device found) c.args.start c.args.len c.requires.some,
    )

pub count_legs-returns-clause-fragments : goal.count_legs-returns-clause-fragments
count_legs-returns-clause-fragments t c =
    let device = c.device-device.result.now in
    let found = c.device-device.ensures.found in
    let items = device.members.items in
    let need_of = λ (m : DevId). fragments_in_run (tree c.args.stack.now m.0) c.args.start c.args.len in
    let all : take c.loop-member.member-index items ≡ items = take_all c.loop-member.member-index items (omega (arith, ap length c.deref-member-items.ensures.0)) in
    omega (
      arith,
      rw c.deref-member-items.ensures.0 at c.loop-member.invariant.fragments,
      ap (sum_by need_of) all,
      legs_count c.args.stack.now c.requires.stack c.args.dev.0 device found (c.requires.copies device found) c.args.start c.args.len,
    )

-- a run that is one piece has the fragments of this piece
pub count_pieces-returns-then-first-len-clause-fragments :
    goal.count_pieces-returns-then-first-len-clause-fragments
count_pieces-returns-then-first-len-clause-fragments t c =
    let len = c.args.len in
    omega (
      arith,
      c.count.ensures.fragments,
      rw c.if-first-len.true at c.first_piece-first.ensures.counts,
      fragments_none (tree c.args.stack.now c.args.dev.0) (c.args.start + len) (len - len) (omega arith),
    )

-- what was counted is a part of what the run needs
pub count_split-overflow_add-needed : goal.count_split-overflow_add-needed
count_split-overflow_add-needed t c =
    let known = slice_get_within c.args.stack.now.devices.items c.args.dev.0 c.args.device.now c.requires.found in
    omega (
      arith,
      c.loop-done.invariant.needed,
      c.count-below.ensures.needed,
      needed_step c.args.stack.now c.args.dev.0 c.args.start c.args.len c.loop-done.done c.loop-done.piece c.loop-done.invariant.piece,
      needed_small c.args.stack.now c.requires.stack c.args.dev.0 c.args.start c.args.len known c.requires.within,
    )

pub count_split-overflow_add-fragments : goal.count_split-overflow_add-fragments
count_split-overflow_add-fragments t c =
    let known = slice_get_within c.args.stack.now.devices.items c.args.dev.0 c.args.device.now c.requires.found in
    omega (
      arith,
      c.loop-done.invariant.fragments,
      c.count-below.ensures.fragments,
      fragments_step c.args.stack.now c.args.dev.0 c.args.start c.args.len c.loop-done.done c.loop-done.piece c.loop-done.invariant.piece,
      fragments_small c.args.stack.now c.requires.stack c.args.dev.0 c.args.start c.args.len known c.requires.within (omega (arith, c.requires.split)),
    )

-- no sector is left
pub count_split-returns-then-done-len-clause-fragments :
    goal.count_split-returns-then-done-len-clause-fragments
count_split-returns-then-done-len-clause-fragments t c =
    let done = c.loop-done.done + c.loop-done.piece.len in
    omega (
      arith,
      c.if-done-len.true,
      c.loop-done.invariant.fragments,
      c.count-below.ensures.fragments,
      fragments_step c.args.stack.now c.args.dev.0 c.args.start c.args.len c.loop-done.done c.loop-done.piece c.loop-done.invariant.piece,
      fragments_none (tree c.args.stack.now c.args.dev.0) (c.args.start + done) (c.args.len - done) (omega arith),
    )

-- the piece is not the last: the rest needs a bio for it too
pub count_split-overflow_add-needed-in-loop-done :
    goal.count_split-overflow_add-needed-in-loop-done
count_split-overflow_add-needed-in-loop-done t c =
    let known = slice_get_within c.args.stack.now.devices.items c.args.dev.0 c.args.device.now c.requires.found in
    let short : c.loop-done.piece.len < c.args.len - c.loop-done.done = omega (arith, c.if-done-len.false, c.loop-done.invariant.left, c.loop-done.invariant.piece.within) in
    omega (
      arith,
      c.loop-done.invariant.needed,
      c.count-below.ensures.needed,
      c.loop-done.invariant.piece.more short,
      needed_small c.args.stack.now c.requires.stack c.args.dev.0 c.args.start c.args.len known c.requires.within,
    )

-- the rest is within the run
pub count_split-overflow_add-start : goal.count_split-overflow_add-start
count_split-overflow_add-start t c =
    omega (
      arith,
      c.loop-done.invariant.left,
      c.loop-done.invariant.piece.within,
      (c.requires.stack.each c.args.dev.0 c.args.device.now c.requires.found).small,
    )
