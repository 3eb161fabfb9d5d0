-- The trees that the definitions of texts give to the devices of a stack are those of the stack.
use Rattle.std.proofs.Common.{◌≡◌, ℕ, zero, suc, ◌+◌, ◌<◌, List, [], ◌∷◌, ◌++◌, length, map, drop, fold, Some, refl, sym, ap, ◌∙◌, add-zero, add-one, arith}
use Rattle.std.specs.Prelude.{slice_get, slice_index_or}
use Rattle.std.specs.List.{range_with_len}
use Rattle.std.proofs.lemmas.Simd.{map-map}
use Rattle.std.proofs.lemmas.List.FromFn.{length-map-range_with_len, get_or-map-range_with_len, map-range_with_len_more}
use Rattle.stack_base.specs.declared.ids.DevId.{DevId}
use Rattle.stack_base.specs.declared.stack.Kind.{Kind}
use Rattle.stack_base.specs.declared.stack.Kind.TheVariants.{Disk, Linear, Stripe, Zoned, Limit, Mirror}
use Rattle.stack_base.specs.declared.stack.Device.{Device}
use Rattle.stack_base.specs.declared.stack.Stack.{Stack}
use Rattle.stack_base.specs.Tree.{Tree, Leaf, over_shape, over, tree}
use Rattle.stack_base.proofs.Unfolded.{GoesDown, tree_going_down}
use Rattle.stack_base.proofs.ListLemmas.{map_same}
use Rattle.decl_text.specs.Known.{device_tree, tree_over, trees, tree_of}
use Rattle.decl_text.specs.Accepting.{what_of_kind, declared_form, shown_devices}

-- the first of what is left, and the rest of it
at_front : {A : Type 0} (n : ℕ) (xs : List A) (d : A) (ds : List A) → drop n xs ≡ d ∷ ds → (slice_get xs n ≡ Some d) × (drop (suc n) xs ≡ ds)
at_front zero [] d ds e = cc
at_front zero (x ∷ xs) d ds e = (cc, cc)
at_front (suc n) [] d ds e = cc
at_front (suc n) (x ∷ xs) d ds e = at_front n xs d ds e

-- a device is the same over its members, as it is declared
pub grown_over : (number : ℕ) (kind : Kind) (members : List Tree) → device_tree number (what_of_kind kind) members ≡ over number kind members
unfolding over_shape
grown_over number (Disk sectors bad) members = refl
grown_over number Linear members = refl
grown_over number (Stripe chunk) members = refl
grown_over number (Zoned chunk) members = refl
grown_over number (Limit longest chunk) members = refl
grown_over number (Mirror records) members = refl

module _ (stack : Stack) (down : GoesDown stack) where
  -- the trees of the first devices
  first : ℕ → List Tree
  first n = map (tree stack) (range_with_len 0 n)

  first_more : (n : ℕ) → first (n + 1) ≡ first n ++ tree stack n ∷ []
  unfolding first
  first_more n = map-range_with_len_more (tree stack) 0 n n (omega arith)

  first_at : (n number : ℕ) → number < n → slice_index_or (first n) number (Leaf number 0) ≡ tree stack number
  unfolding first
  first_at n number lt = get_or-map-range_with_len (tree stack) 0 n number number (Leaf number 0) lt (omega arith)

  trees_of_none : first 0 ≡ []
  unfolding first
  trees_of_none = refl

  -- the next tree
  tree_next : (n : ℕ) (d : Device) → slice_get stack.devices.items n ≡ Some d → tree_over (first n) (declared_form d) ≡ tree stack n
  unfolding first
  tree_next n d found =
      let number : length (first n) ≡ n = length-map-range_with_len (tree stack) 0 n in
      let at = λ (m : ℕ). slice_index_or (first n) m (Leaf m 0) in
      let below : map (λ (m : DevId). at m.0) d.members.items ≡ map (λ (m : DevId). tree stack m.0) d.members.items =
      map_same (λ (m : DevId). at m.0) (λ (m : DevId). tree stack m.0) d.members.items
      (λ i m is. get_or-map-range_with_len (tree stack) 0 n m.0 m.0 (Leaf m.0 0) (down.below n d i m found is) (omega arith)) in
      ap (λ k. device_tree k (what_of_kind d.kind) (map at (map (λ (m : DevId). m.0) d.members.items))) number
      ∙ ap (device_tree n (what_of_kind d.kind)) (map-map at (λ (m : DevId). m.0) d.members.items ∙ below)
      ∙ grown_over n d.kind (map (λ (m : DevId). tree stack m.0) d.members.items)
      ∙ sym (tree_going_down stack down n d found)

  -- the trees of the first devices, and of those behind them
  trees_from : (n : ℕ) (devices : List Device) → drop n stack.devices.items ≡ devices
      → fold (λ below device. below ++ tree_over below device ∷ []) (first n) (map declared_form devices) ≡ first (n + length devices)
  trees_from n [] left = ap first (sym (add-zero n))
  trees_from n (d ∷ ds) left =
      let here = at_front n stack.devices.items d ds left in
      let rest : drop (n + 1) stack.devices.items ≡ ds = ap (λ k. drop k stack.devices.items) (add-one n) ∙ here.1 in
      let grows : first n ++ tree_over (first n) (declared_form d) ∷ [] ≡ first (n + 1) =
      ap (λ t. first n ++ t ∷ []) (tree_next n d here.0) ∙ sym (first_more n) in
      let long : n + 1 + length ds ≡ n + suc (length ds) = omega arith in
      ap (λ ts. fold (λ below device. below ++ tree_over below device ∷ []) ts (map declared_form ds)) grows ∙ trees_from (n + 1) ds rest ∙ ap first long

pub shown_trees : (stack : Stack)
    → ((number : ℕ) (device : Device) (i : ℕ) (m : DevId) → slice_get stack.devices.items number ≡ Some device → slice_get device.members.items i ≡ Some m → m.0 < number)
    → (number : ℕ) → number < length stack.devices.items → tree_of (shown_devices stack) number ≡ tree stack number
shown_trees stack below number lt =
    let down : GoesDown stack = record { below = below } in
    let all : trees (shown_devices stack) ≡ first stack down (length stack.devices.items) =
    ap (λ ts. fold (λ below device. below ++ tree_over below device ∷ []) ts (map declared_form stack.devices.items)) (sym (trees_of_none stack down))
    ∙ trees_from stack down 0 stack.devices.items refl
    ∙ ap (first stack down) (omega arith) in
    ap (λ ts. slice_index_or ts number (Leaf number 0)) all ∙ first_at stack down (length stack.devices.items) number lt
