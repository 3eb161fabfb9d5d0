use Rattle.std.proofs.Common.{List, ℕ, length, sum, sym, ap, ◌∙◌, subst, arith}
use Rattle.std.proofs.lemmas.Option.{slice_get-get_or}
use Rattle.stack_base.specs.Cutting.{piece_end}
use Rattle.stack_base.specs.Mapping.{size_of, slot, head}
use Rattle.stack_base.specs.Stack.{HasShape}
use Rattle.stack_base.proofs.MemberSizes.{shape_few, members_small}
use Rattle.stack_base.proofs.Heads.{head_bounds}
use Rattle.stack_base.proofs.KindCuts.{kind_cuts}
use Rattle.stack_base.proofs.Unfolded.{size-tree}
use Rattle.layout_model.proofs.FromMembers.{can_cut}
use Rattle.biostack_tests.proofs.SlowSteps.{sized_shape, member_there, step_is}
use Rattle.biostack_tests.proofs.slow.step_down.Goals as goal

-- there are so many sizes as members
pub head-first-requires-clause-shape : goal.head-first-requires-clause-shape
head-first-requires-clause-shape c =
    subst (λ (sizes : List ℕ). HasShape c.args.device.now.kind (length sizes))
    (sym (c.deref.ensures.0 ∙ c.member_sizes-sizes.ensures c.args.device.now c.requires.found))
    (sized_shape c.args.stack.now c.requires.stack c.args.dev.0 c.args.device.now c.requires.found c.requires.cuts c.args.sector c.requires.within)

-- they are small together, and the piece's first sector is on the device too
pub slot-from-requires : goal.slot-from-requires
slot-from-requires c =
    let kind = c.args.device.now.kind in
    let known = c.member_sizes-sizes.ensures c.args.device.now c.requires.found in
    let sizes = c.deref-2.ensures.0 ∙ known in
    let first = c.deref.ensures.0 ∙ known in
    let good = c.requires.stack.each c.args.dev.0 c.args.device.now c.requires.found in
    let can = can_cut kind (length c.args.device.now.members.items) good.shape c.requires.cuts in
    let low = head_bounds (head kind c.deref.result.now) (piece_end kind c.deref.result.now) (slot kind c.deref.result.now) (kind_cuts kind c.deref.result.now can) c.args.start c.args.sector c.requires.in_run in
    record {
      shape = subst (λ (sizes : List ℕ). HasShape kind (length sizes)) (sym sizes)
          (sized_shape c.args.stack.now c.requires.stack c.args.dev.0 c.args.device.now c.requires.found c.requires.cuts c.args.sector c.requires.within);
      small = omega (arith, ap sum sizes, members_small c.args.stack.now c.requires.stack c.args.dev.0 c.args.device.now c.requires.found);
      within = omega (arith, ap (size_of kind) sizes, size-tree c.args.stack.now c.requires.stack c.args.dev.0 c.args.device.now c.requires.found, c.head-first.ensures, low.1, c.requires.within);
    }

pub slot-to-requires : goal.slot-to-requires
slot-to-requires c =
    let kind = c.args.device.now.kind in
    let sizes = c.deref-3.ensures.0 ∙ c.member_sizes-sizes.ensures c.args.device.now c.requires.found in
    record {
      shape = subst (λ (sizes : List ℕ). HasShape kind (length sizes)) (sym sizes)
          (sized_shape c.args.stack.now c.requires.stack c.args.dev.0 c.args.device.now c.requires.found c.requires.cuts c.args.sector c.requires.within);
      small = omega (arith, ap sum sizes, members_small c.args.stack.now c.requires.stack c.args.dev.0 c.args.device.now c.requires.found);
      within = omega (arith, ap (size_of kind) sizes, size-tree c.args.stack.now c.requires.stack c.args.dev.0 c.args.device.now c.requires.found, c.requires.within);
    }

-- the sector is in a member
pub offset_bounds-deref-to : goal.offset_bounds-deref-to
offset_bounds-deref-to c =
    let sizes = c.deref-3.ensures.0 ∙ c.member_sizes-sizes.ensures c.args.device.now c.requires.found in
    let there = member_there c.args.stack.now c.requires.stack c.args.dev.0 c.args.device.now c.requires.found c.requires.cuts c.args.sector c.requires.within
    c.slot-to.result.member c.slot-to.result.at (ap (λ sizes. slot c.args.device.now.kind sizes c.args.sector) (sym sizes) ∙ c.slot-to.ensures) in
    omega (
      arith,
      there,
      shape_few c.args.device.now.kind (length c.args.device.now.members.items) (c.requires.stack.each c.args.dev.0 c.args.device.now c.requires.found).shape,
    )

pub bounds-deref-to : goal.bounds-deref-to
bounds-deref-to c =
    let sizes = c.deref-3.ensures.0 ∙ c.member_sizes-sizes.ensures c.args.device.now c.requires.found in
    let there = member_there c.args.stack.now c.requires.stack c.args.dev.0 c.args.device.now c.requires.found c.requires.cuts c.args.sector c.requires.within
    c.slot-to.result.member c.slot-to.result.at (ap (λ sizes. slot c.args.device.now.kind sizes c.args.sector) (sym sizes) ∙ c.slot-to.ensures) in
    omega (arith, ap length c.deref-4.ensures.0, there)

-- and this is the step
pub returns : goal.returns
returns c =
    let known = c.member_sizes-sizes.ensures c.args.device.now c.requires.found in
    let kind = c.args.device.now.kind in
    let lies = ap (λ sizes. slot kind sizes c.args.sector) (sym (c.deref-3.ensures.0 ∙ known)) ∙ c.slot-to.ensures in
    let begins = c.head-first.ensures ∙ ap (λ sizes. head kind sizes c.args.start c.args.sector) (c.deref.ensures.0 ∙ known) in
    let from = ap (λ sizes. slot kind sizes c.head-first.result) (sym (c.deref-2.ensures.0 ∙ known)) ∙ c.slot-from.ensures in
    let there = member_there c.args.stack.now c.requires.stack c.args.dev.0 c.args.device.now c.requires.found c.requires.cuts c.args.sector c.requires.within
    c.slot-to.result.member c.slot-to.result.at lies in
    rw c.deref-4.ensures.0 (
    step_is c.args.stack.now c.requires.stack c.args.dev.0 c.args.device.now c.requires.found c.requires.cuts c.args.sector c.requires.within
    c.args.start c.slot-to.result.member c.slot-to.result.at c.head-first.result c.slot-from.result.member c.slot-from.result.at _
    c.requires.in_run lies begins from
    (slice_get-get_or c.args.device.now.members.items c.slot-to.result.member (record { 0 = 0 }) there)
    )
