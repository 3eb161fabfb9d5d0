-- The device has a member, and shows the first.
use Rattle.std.proofs.Common.{◌≤◌, length, ap, arith}
use Rattle.std.proofs.lemmas.Option.{slice_get-get_or}
use Rattle.layout_model.proofs.ShownLemmas.{has_first, shown_is}
use Rattle.layout_model.proofs.shown.shown_member.Goals as goal

pub bounds-deref-0 : goal.bounds-deref-0
bounds-deref-0 c =
    let device = c.args.device.now in
    let shape = (c.requires.stack.each c.args.dev.0 device c.requires.found).shape in
    omega (arith, ap length c.deref.ensures.0, has_first device.kind (length device.members.items) shape c.requires.shows)

pub returns : goal.returns
returns c =
    let device = c.args.device.now in
    let shape = (c.requires.stack.each c.args.dev.0 device c.requires.found).shape in
    let some : 1 ≤ length device.members.items = has_first device.kind (length device.members.items) shape c.requires.shows in
    rw c.deref.ensures.0 (shown_is c.args.stack.now c.requires.stack c.args.dev.0 device c.requires.found c.requires.shows _
    (slice_get-get_or device.members.items 0 (record { 0 = 0 }) (omega (arith, some))))
