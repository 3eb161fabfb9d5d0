-- The drivers of a stack as they are made.
use Rattle.std.proofs.Common.{◌≡◌, ◌⊎◌, inl, inr, ℕ, zero, suc, ◌≤◌, List, [], ◌∷◌, ◌++◌, length, replicate, Some, refl, sym, ap, ◌∙◌, subst, arith}
use Rattle.std.specs.Prelude.{slice_get}
use Rattle.std.proofs.lemmas.List.{length-map}
use Rattle.stack_base.specs.declared.ids.DevId.{DevId}
use Rattle.stack_base.specs.declared.stack.Device.{Device}
use Rattle.stack_base.specs.declared.stack.Kind.TheVariants.{Stripe, Limit, Mirror}
use Rattle.stack_base.specs.declared.stack.Stack.{Stack}
use Rattle.stack_base.specs.Mapping.{size_of, smallest}
use Rattle.stack_base.specs.Stack.{HasShape, IsStack}
use Rattle.stack_base.specs.Tree.{size, tree, sizes_at}
use Rattle.stack_base.proofs.EvenMembers.{stripes_go_by_smallest}
use Rattle.stack_base.proofs.Unfolded.{size-tree}
use Rattle.task_steps.specs.declared.routes.Route.{Route}
use Rattle.task_steps.specs.Routed.{IsRoute, AreRoutes}

-- the smallest of one size is this size
lone_smallest : (sizes : List ℕ) → length sizes ≡ 1 → smallest sizes ∷ [] ≡ sizes
unfolding smallest
lone_smallest [] one = absurd (omega arith)
lone_smallest (size ∷ []) one = refl
lone_smallest (size ∷ other ∷ sizes) one = absurd (omega arith)

limit_size_of : (longest chunk : ℕ) (sizes : List ℕ) → size_of (Limit longest chunk) sizes ≡ smallest sizes
unfolding size_of
limit_size_of longest chunk sizes = refl

mirror_size_of : (records : ℕ) (sizes : List ℕ) → size_of (Mirror records) sizes ≡ smallest sizes
unfolding size_of
mirror_size_of records sizes = refl

module _ (stack : Stack) (good : IsStack stack) (number : ℕ) (device : Device) (found : slice_get stack.devices.items number ≡ Some device) where
  -- a stripe over as many members of the smallest size is no larger than the device
  pub stripe_small : (chunk members least : ℕ) → device.kind ≡ Stripe chunk → members ≡ length (sizes_at stack device)
      → least ≡ smallest (sizes_at stack device) → size_of (Stripe chunk) (replicate members least) ≤ 262144
  stripe_small chunk members least kind many is =
      let sizes = sizes_at stack device in
      let equal : size_of (Stripe chunk) (replicate members least) ≡ size_of (Stripe chunk) sizes =
      ap (λ n. size_of (Stripe chunk) (replicate n least)) many ∙ ap (λ x. size_of (Stripe chunk) (replicate (length sizes) x)) is ∙ sym (stripes_go_by_smallest.sizes chunk sizes) in
      let wide : size (tree stack number) ≡ size_of (Stripe chunk) sizes = size-tree stack good number device found ∙ ap (λ k. size_of k sizes) kind in
      let small = (good.each number device found).small in
      omega (arith, equal, wide, small)

  -- a limit has the size of its one member
  pub limit_sizes : (longest chunk : ℕ) → device.kind ≡ Limit longest chunk → size (tree stack number) ∷ [] ≡ sizes_at stack device
  limit_sizes longest chunk kind =
      let sizes = sizes_at stack device in
      let shape : HasShape (Limit longest chunk) (length device.members.items) =
      subst (λ k. HasShape k (length device.members.items)) kind (good.each number device found).shape in
      let wide : size (tree stack number) ≡ smallest sizes =
      size-tree stack good number device found ∙ ap (λ k. size_of k sizes) kind ∙ limit_size_of longest chunk sizes in
      ap (λ n. n ∷ []) wide ∙ lone_smallest sizes (length-map device.members.items (λ (m : DevId). size (tree stack m.0)) ∙ shape.1)

  -- a mirror has the size of its smallest member
  pub mirror_size : (records : ℕ) → device.kind ≡ Mirror records → size (tree stack number) ≡ smallest (sizes_at stack device)
  mirror_size records kind =
      let sizes = sizes_at stack device in
      size-tree stack good number device found ∙ ap (λ k. size_of k sizes) kind ∙ mirror_size_of records sizes

-- the last of some elements, or one before it
at_or_last : {X : Type 0} (xs : List X) (x : X) (i : ℕ) (y : X) → slice_get (xs ++ x ∷ []) i ≡ Some y
    → (slice_get xs i ≡ Some y) ⊎ ((i ≡ length xs) × (x ≡ y))
at_or_last [] x zero y e = inr (refl, cc)
at_or_last [] x (suc i) y e = absurd cc
at_or_last (z ∷ xs) x zero y e = inl e
at_or_last (z ∷ xs) x (suc i) y e =
    elim (at_or_last xs x i y e) [
      | inl before ↦ inl before
      | inr last ↦ inr (ap suc last.0, last.1)
    ]

-- one more device has its route
pub more_routes : (stack : Stack) (routes : List Route) (route : Route) → AreRoutes stack routes
    → ((device : Device) → slice_get stack.devices.items (length routes) ≡ Some device → IsRoute stack device route)
    → AreRoutes stack (routes ++ route ∷ [])
more_routes stack routes route are is number device other found at =
    elim (at_or_last routes route number other at) [
      | inl before ↦ are number device other found before
      | inr last ↦ subst (IsRoute stack device) last.1 (is device (subst (λ n. slice_get stack.devices.items n ≡ Some device) last.0 found))
    ]
