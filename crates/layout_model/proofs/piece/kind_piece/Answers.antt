use Rattle.std.proofs.Common.{List, length, map, sum, sym, ap, ◌∙◌, arith}
use Rattle.std.proofs.lemmas.List.{length-map}
use Rattle.std.proofs.lemmas.Option.{slice_get_within}
use Rattle.stack_base.specs.declared.ids.DevId.{DevId}
use Rattle.stack_base.specs.declared.stack.Kind.TheVariants.{Zoned}
use Rattle.stack_base.proofs.MemberSizes.{member_below, members_small}
use Rattle.stack_base.specs.Mapping.{size_of}
use Rattle.stack_base.specs.Tree.{size, tree}
use Rattle.stack_base.proofs.Unfolded.{size-tree}
use Rattle.layout_model.proofs.piece.kind_piece.Goals as goal

-- the numbers of the kind, and how many members it has
pub stripe_piece-requires-clause-chunk : goal.stripe_piece-requires-clause-chunk
stripe_piece-requires-clause-chunk c =
    (rw c.in-Stripe.is at (c.requires.stack.each c.args.dev.0 c.args.device.now c.requires.found).shape).0

pub stripe_piece-requires-clause-member : goal.stripe_piece-requires-clause-member
stripe_piece-requires-clause-member c =
    omega (arith, (rw c.in-Stripe.is at (c.requires.stack.each c.args.dev.0 c.args.device.now c.requires.found).shape).1)

pub limit_piece-requires-clause-max : goal.limit_piece-requires-clause-max
limit_piece-requires-clause-max c =
    (rw c.in-Limit.is at (c.requires.stack.each c.args.dev.0 c.args.device.now c.requires.found).shape).0

-- its members are devices of the stack
pub linear_piece-requires-clause-known : goal.linear_piece-requires-clause-known
linear_piece-requires-clause-known c =
    let stack = c.args.stack.now in
    let within = slice_get_within stack.devices.items c.args.dev.0 c.args.device.now c.requires.found in
    rw c.deref.ensures.0 (λ i d lt. omega (arith, within, member_below stack c.requires.stack c.args.dev.0 c.args.device.now c.requires.found i d lt))

-- the run is within all members together
pub linear_piece-requires-clause-within : goal.linear_piece-requires-clause-within
unfolding size_of
linear_piece-requires-clause-within c =
    let all = ap (λ (members : List DevId). sum (map (λ (m : DevId). size (tree c.args.stack.now m.0)) members)) c.deref.ensures.0 in
    let whole = size-tree c.args.stack.now c.requires.stack c.args.dev.0 c.args.device.now c.requires.found in
    let linear = rw c.in-Linear.is at whole in
    omega (arith, all, linear)

-- the piece is that of the kind over the members' sizes
pub returns-in-Stripe : goal.returns-in-Stripe
returns-in-Stripe c =
    let size_at = λ (m : DevId). size (tree c.args.stack.now m.0) in
    rw c.in-Stripe.is (c.stripe_piece.ensures (map size_at c.args.device.now.members.items)
    (length-map c.args.device.now.members.items size_at ∙ sym c.len.ensures.value))

pub returns-in-Limit : goal.returns-in-Limit
returns-in-Limit c = rw c.in-Limit.is (c.limit_piece.ensures _)

pub returns-in-Linear : goal.returns-in-Linear
returns-in-Linear c =
    rw (c.in-Linear.is, ← c.deref.ensures.0) c.linear_piece.ensures

-- a zoned device has its numbers and members, which are small
pub zoned_piece-requires-clause-shape : goal.zoned_piece-requires-clause-shape
zoned_piece-requires-clause-shape c =
    let found = c.requires.found in
    let size_at = λ (m : DevId). size (tree c.args.stack.now m.0) in
    let sizes = c.member_sizes.ensures c.args.device.now found in
    let count = ap length sizes ∙ length-map c.args.device.now.members.items size_at in
    let shape = rw c.in-Zoned.is at (c.requires.stack.each c.args.dev.0 c.args.device.now found).shape in
    (shape.0, omega (arith, count, shape.1), omega (arith, count, shape.2))

pub zoned_piece-requires-clause-small : goal.zoned_piece-requires-clause-small
zoned_piece-requires-clause-small c =
    let sizes = c.member_sizes.ensures c.args.device.now c.requires.found in
    omega (arith, ap sum sizes, members_small c.args.stack.now c.requires.stack c.args.dev.0 c.args.device.now c.requires.found)

pub zoned_piece-requires-clause-within : goal.zoned_piece-requires-clause-within
zoned_piece-requires-clause-within c =
    let sizes = c.member_sizes.ensures c.args.device.now c.requires.found in
    let whole = rw c.in-Zoned.is at (size-tree c.args.stack.now c.requires.stack c.args.dev.0 c.args.device.now c.requires.found) in
    omega (arith, c.requires.within, whole, ap (size_of (Zoned c.in-Zoned.chunk)) sizes)

pub returns-in-Zoned : goal.returns-in-Zoned
returns-in-Zoned c =
    rw (c.in-Zoned.is, ← c.member_sizes.ensures c.args.device.now c.requires.found) c.zoned_piece.ensures
