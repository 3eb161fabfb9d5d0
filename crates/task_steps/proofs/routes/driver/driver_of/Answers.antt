use Rattle.std.proofs.Common.{Some, ◌≡◌, ◌≤◌, ◌∷◌, [], List, ℕ, get_or, length, sum, ap, ◌∙◌, subst, sym, rules, arith}
use Rattle.std.proofs.lemmas.List.{get_or-replicate, length-map, length-replicate}
use Rattle.stack_base.specs.declared.ids.DevId.{DevId}
use Rattle.std.specs.Prelude.{slice_get}
use Rattle.stack_base.specs.Stack.{AreMemberSizes, HasShape, IsStack}
use Rattle.stack_base.specs.declared.stack.Stack.{Stack}
use Rattle.stack_base.specs.declared.stack.Kind.TheVariants.{Linear, Stripe}
use Rattle.stack_base.specs.Tree.{size, shape_of, tree, sizes_at}
use Rattle.stack_base.specs.declared.stack.Device.{Device}
use Rattle.stack_base.specs.Mapping.{size_of, smallest}
use Rattle.stack_base.proofs.MemberSizes.{members_small}
use Rattle.mirror_map.specs.Legs.{MirrorState}
use Rattle.task_steps.specs.Routed.{copies_bios}
use Rattle.task_steps.proofs.RoutesMade.{stripe_small, limit_sizes, mirror_size}
use Rattle.task_steps.proofs.routes.driver.driver_of.Goals as goal

-- the stripe is as large as its device
pub new-requires-in-Stripe-clause-small : goal.new-requires-in-Stripe-clause-small
new-requires-in-Stripe-clause-small c =
    let device = c.device-device.result.now in
    let found = c.device-device.ensures.found in
    let sizes = c.member_sizes-sizes.ensures device found in
    stripe_small c.args.stack.now c.requires.stack c.args.dev.0 device found c.in-Stripe.chunk c.len.result c.least.result c.in-Stripe.is
    (c.len.ensures.value ∙ ap length sizes) (c.least.ensures ∙ ap smallest (c.deref.ensures.0 ∙ sizes))

-- and the driver has the numbers of the device
pub returns-in-Stripe : goal.returns-in-Stripe
returns-in-Stripe c device found =
    let same : c.device-device.result.now ≡ device = cc in
    let kind = sym (ap (λ (d : Device). d.kind) same) ∙ c.in-Stripe.is in
    let sizes = c.member_sizes-sizes.ensures device found in
    let stripe = c.new-in-Stripe.result in
    let all = c.new-in-Stripe.ensures.sizes in
    let members : stripe.members ≡ c.len.result =
    sym (length-replicate stripe.members stripe.smallest) ∙ ap length all ∙ length-replicate c.len.result c.least.result in
    let count : 1 ≤ c.len.result =
    omega (
      arith,
      (subst (λ k. HasShape k (length device.members.items)) kind (c.requires.stack.each c.args.dev.0 device found).shape).1,
      c.len.ensures.value,
      ap length sizes,
      length-map device.members.items (λ (m : DevId). size (tree c.args.stack.now m.0)),
    ) in
    let least : stripe.smallest ≡ c.least.result =
    sym (get_or-replicate stripe.members 0 stripe.smallest 0 (omega (arith, members, count)))
    ∙ ap (λ (ss : List ℕ). get_or ss 0 0) all
    ∙ get_or-replicate c.len.result 0 c.least.result 0 count in (
      kind ∙ sym c.new-in-Stripe.ensures.kind,
      members ∙ c.len.ensures.value ∙ ap length sizes,
      least ∙ c.least.ensures ∙ ap smallest (c.deref.ensures.0 ∙ sizes),
    )

-- the members of a zoned device have few sectors together
pub new-requires-in-Zoned-clause-small : goal.new-requires-in-Zoned-clause-small
new-requires-in-Zoned-clause-small c =
    let device = c.device-device.result.now in
    let found = c.device-device.ensures.found in
    omega (arith, ap sum (c.member_sizes-in-Zoned.ensures device found), members_small c.args.stack.now c.requires.stack c.args.dev.0 device found)

-- and so is the limit
pub returns-in-Limit : goal.returns-in-Limit
returns-in-Limit c device found =
    let same : c.device-device.result.now ≡ device = cc in
    let kind = sym (ap (λ (d : Device). d.kind) same) ∙ c.in-Limit.is in (
      kind ∙ sym c.new-in-Limit.ensures.kind,
      c.new-in-Limit.ensures.sizes ∙ ap (λ n. n ∷ []) c.size.ensures
          ∙ limit_sizes c.args.stack.now c.requires.stack c.args.dev.0 device found c.in-Limit.max c.in-Limit.chunk kind,
    )

-- a mirror is as large as its device
pub returns-in-Mirror : goal.returns-in-Mirror
returns-in-Mirror c device found =
    let same : c.device-device.result.now ≡ device = cc in
    let kind = sym (ap (λ (d : Device). d.kind) same) ∙ c.in-Mirror.is in (
      ap (λ k. copies_bios (shape_of k)) kind,
      ap (λ (m : MirrorState). m.members) c.new-in-Mirror.ensures ∙ c.members_of.ensures ∙ ap (λ (d : Device). d.members.items) same,
      ap (λ (m : MirrorState). m.size) c.new-in-Mirror.ensures ∙ c.size-in-Mirror.ensures
          ∙ mirror_size c.args.stack.now c.requires.stack c.args.dev.0 device found c.in-Mirror.records kind,
    )

-- the members' sizes are as many as the device asks
sizes_shape : (stack : Stack) → IsStack stack → (number : ℕ) (device : Device) → slice_get stack.devices.items number ≡ Some device → (sizes : List ℕ)
    → AreMemberSizes stack number sizes → HasShape device.kind (length sizes)
sizes_shape stack good number device found sizes are =
    subst (HasShape device.kind) (sym (ap length (are device found) ∙ length-map device.members.items (λ (m : DevId). size (tree stack m.0)))) (good.each number device found).shape

pub new-requires-clause-shape : goal.new-requires-clause-shape
new-requires-clause-shape c =
    let sizes = c.member_sizes.result.items in
    subst (λ k. HasShape k (length sizes)) c.in-Linear.is
    (sizes_shape c.args.stack.now c.requires.stack c.args.dev.0 c.device-device.result.now c.device-device.ensures.found sizes c.member_sizes.ensures)

pub new-requires-in-Stripe-clause-shape : goal.new-requires-in-Stripe-clause-shape
new-requires-in-Stripe-clause-shape c =
    let sizes = c.member_sizes-sizes.result.items in
    let count : length sizes ≡ c.len.result = sym c.len.ensures.value in
    subst (λ n. HasShape (Stripe c.in-Stripe.chunk) n) count (subst (λ k. HasShape k (length sizes)) c.in-Stripe.is
    (sizes_shape c.args.stack.now c.requires.stack c.args.dev.0 c.device-device.result.now c.device-device.ensures.found sizes c.member_sizes-sizes.ensures))

pub new-requires-in-Zoned-clause-shape : goal.new-requires-in-Zoned-clause-shape
new-requires-in-Zoned-clause-shape c =
    let sizes = c.member_sizes-in-Zoned.result.items in
    subst (λ k. HasShape k (length sizes)) c.in-Zoned.is
    (sizes_shape c.args.stack.now c.requires.stack c.args.dev.0 c.device-device.result.now c.device-device.ensures.found sizes c.member_sizes-in-Zoned.ensures)

-- a linear device is as large as its members together
pub new-requires-clause-small : goal.new-requires-clause-small
new-requires-clause-small c =
    let device = c.device-device.result.now in
    let sizes = c.member_sizes.ensures device c.device-device.ensures.found in
    let all = sizes_at c.args.stack.now device in
    let small = subst (λ n. n ≤ 262144) c.device-device.ensures.sized c.device-device.ensures.is_device.small in
    subst (λ (ss : List ℕ). size_of Linear ss ≤ 262144) (sym sizes) (subst (λ k. size_of k all ≤ 262144) c.in-Linear.is small)

pub returns-in-Linear : goal.returns-in-Linear
returns-in-Linear c device found = search (rules, c.member_sizes.ensures device found)

pub returns-in-Zoned : goal.returns-in-Zoned
returns-in-Zoned c device found = search (rules, c.member_sizes-in-Zoned.ensures device found)
