-- What a run needs at a mirror, how many fragments it has and where a sector of it goes, by the mirror's members; and the same at a disk.
use Rattle.std.proofs.Common.{◌≡◌, true, ℕ, suc, ◌+◌, ◌<◌, ◌≤◌, List, [], ◌∷◌, map, length, sum_by, Some, refl, ap, ◌∙◌, subst, arith}
use Rattle.std.specs.Prelude.{slice_get}
use Rattle.std.specs.List.{range_with_len}
use Rattle.std.proofs.lemmas.List.{length-map, get_or-map}
use Rattle.std.proofs.lemmas.List.Sums.{sum_by-cons}
use Rattle.std.proofs.lemmas.Option.{slice_get_within, get_or_from_slice_get}
use Rattle.stack_base.specs.declared.ids.DevId.{DevId}
use Rattle.stack_base.specs.declared.stack.Device.{Device}
use Rattle.stack_base.specs.declared.stack.Stack.{Stack}
use Rattle.stack_base.specs.Tree.{Tree, size, Keeps, Copies, shape_of, member_at, tree}
use Rattle.stack_base.specs.Stack.{IsStack}
use Rattle.stack_base.proofs.Smallest.{smallest_le}
use Rattle.layout_model.specs.Way.{FitsWay, place}
use Rattle.layout_model.specs.Need.{needed, fragments_in_run}
use Rattle.layout_model.specs.Shown.{keeps_data, shown_sector}
use Rattle.layout_model.proofs.RangeSums.{sum_next}
use Rattle.layout_model.proofs.NeedsByPieces.{needed_disk, needed_legs, fragments_of_disk, fragments_of_legs}
use Rattle.layout_model.proofs.ByShape.{copies_is, keeps_is, member_is}

-- a sum by the places of a list is the sum by its elements
sum_by_place : {X : Type 0} (g : ℕ → ℕ) (h : X → ℕ) (xs : List X) (a : ℕ)
    → ((i : ℕ) (x : X) → slice_get xs i ≡ Some x → g (a + i) ≡ h x) → sum_by g (range_with_len a (length xs)) ≡ sum_by h xs
sum_by_place g h [] a each = refl
sum_by_place g h (x ∷ xs) a each =
    let first : g a ≡ h x = ap g (omega arith) ∙ each 0 x refl in
    let rest : sum_by g (range_with_len (a + 1) (length xs)) ≡ sum_by h xs =
    sum_by_place g h xs (a + 1) (λ i y is. ap g (omega arith) ∙ each (suc i) y is) in
    omega (arith, sum_next g a (length xs), sum_by-cons h x xs)

module _ (stack : Stack) (good : IsStack stack) (number : ℕ) (device : Device) (found : slice_get stack.devices.items number ≡ Some device)
    (copies : shape_of device.kind ≡ Copies) where
  -- a sum over the places of the members is a sum over the members
  sum_of_legs : (f : Tree → ℕ)
      → sum_by (λ k. f (member_at number (map (λ (m : DevId). tree stack m.0) device.members.items) k))
      (range_with_len 0 (length (map (λ (m : DevId). size (tree stack m.0)) device.members.items)))
      ≡ sum_by (λ (m : DevId). f (tree stack m.0)) device.members.items
  sum_of_legs f =
      let items = device.members.items in
      let leg = member_at number (map (λ (m : DevId). tree stack m.0) items) in
      ap (λ n. sum_by (λ k. f (leg k)) (range_with_len 0 n)) (length-map items (λ (m : DevId). size (tree stack m.0)))
      ∙ sum_by_place (λ k. f (leg k)) (λ (m : DevId). f (tree stack m.0)) items 0
      (λ i m at_i. ap (λ k. f (leg k)) (omega arith) ∙ ap f (member_is stack good number device found i m at_i))

  -- a run at a mirror needs a record, a bio for each member, and what each member needs
  pub legs_needed : (start len : ℕ) → 1 ≤ len
      → needed (tree stack number) start len
      ≡ 1 + length device.members.items + sum_by (λ (m : DevId). needed (tree stack m.0) start len) device.members.items
  legs_needed start len some =
      let sizes = map (λ (m : DevId). size (tree stack m.0)) device.members.items in
      let leg = member_at number (map (λ (m : DevId). tree stack m.0) device.members.items) in
      omega (
        arith,
        ap (λ t. needed t start len) (copies_is stack good number device found copies),
        needed_legs number sizes leg start len some,
        length-map device.members.items (λ (m : DevId). size (tree stack m.0)),
        sum_of_legs (λ t. needed t start len),
      )

  -- and has the fragments of each member
  pub legs_count : (start len : ℕ) → fragments_in_run (tree stack number) start len ≡ sum_by (λ (m : DevId). fragments_in_run (tree stack m.0) start len) device.members.items
  legs_count start len =
      let sizes = map (λ (m : DevId). size (tree stack m.0)) device.members.items in
      ap (λ t. fragments_in_run t start len) (copies_is stack good number device found copies)
      ∙ fragments_of_legs number sizes (member_at number (map (λ (m : DevId). tree stack m.0) device.members.items)) start len
      ∙ sum_of_legs (λ t. fragments_in_run t start len)

  -- no member is smaller than the mirror
  pub leg_size : (k : ℕ) (m : DevId) → slice_get device.members.items k ≡ Some m → size (tree stack number) ≤ size (tree stack m.0)
  leg_size k m at_k =
      let items = device.members.items in
      let size_at = λ (m : DevId). size (tree stack m.0) in
      let within : k < length items = slice_get_within items k m at_k in
      omega (
        arith,
        ap size (copies_is stack good number device found copies),
        smallest_le (map size_at items) k (omega (arith, length-map items size_at)),
        get_or-map size_at items k m 0 within ∙ ap size_at (get_or_from_slice_get items k m m at_k),
      )

  -- the way of a sector asks for a choice at a mirror
  pub leg_asked : (s : ℕ) → FitsWay (tree stack number) s [] → ⊥
  unfolding FitsWay
  leg_asked s fits = subst (λ t. FitsWay t s []) (copies_is stack good number device found copies) fits

  -- the choice is the place of a member
  pub leg_chosen : (s choice : ℕ) (choices : List ℕ) → FitsWay (tree stack number) s (choice ∷ choices) → choice < length device.members.items
  unfolding FitsWay
  leg_chosen s choice choices fits =
      let both = subst (λ t. FitsWay t s (choice ∷ choices)) (copies_is stack good number device found copies) fits in
      omega (arith, both.0, length-map device.members.items (λ (m : DevId). size (tree stack m.0)))

  -- the other choices lead the sector on from that member
  pub leg_fits : (s choice : ℕ) (choices : List ℕ) (m : DevId) → slice_get device.members.items choice ≡ Some m
      → FitsWay (tree stack number) s (choice ∷ choices) → FitsWay (tree stack m.0) s choices
  unfolding FitsWay
  leg_fits s choice choices m at_choice fits =
      subst (λ t. FitsWay t s choices) (member_is stack good number device found choice m at_choice)
      (subst (λ t. FitsWay t s (choice ∷ choices)) (copies_is stack good number device found copies) fits).1

  -- to the same place
  pub leg_place : (s choice : ℕ) (choices : List ℕ) (m : DevId) → slice_get device.members.items choice ≡ Some m
      → place (tree stack number) s (choice ∷ choices) ≡ place (tree stack m.0) s choices
  unfolding place
  leg_place s choice choices m at_choice =
      ap (λ t. place t s (choice ∷ choices)) (copies_is stack good number device found copies)
      ∙ ap (λ t. place t s choices) (member_is stack good number device found choice m at_choice)

  -- a mirror shows its first member
  pub leg_shown : (s : ℕ) (m : DevId) → slice_get device.members.items 0 ≡ Some m → shown_sector (tree stack number) s ≡ shown_sector (tree stack m.0) s
  unfolding shown_sector
  leg_shown s m at_first =
      ap (λ t. shown_sector t s) (copies_is stack good number device found copies) ∙ ap (λ t. shown_sector t s) (member_is stack good number device found 0 m at_first)

module _ (stack : Stack) (good : IsStack stack) (number : ℕ) (device : Device) (found : slice_get stack.devices.items number ≡ Some device)
    (sectors : ℕ) (keeps : shape_of device.kind ≡ Keeps sectors) where
  -- a run at a disk needs nothing
  pub disk_needed : (start len : ℕ) → needed (tree stack number) start len ≡ 0
  disk_needed start len = ap (λ t. needed t start len) (keeps_is stack good number device found sectors keeps) ∙ needed_disk number sectors start len

  -- and is one fragment
  pub disk_count : (start len : ℕ) → 1 ≤ len → fragments_in_run (tree stack number) start len ≡ 1
  disk_count start len some =
      ap (λ t. fragments_in_run t start len) (keeps_is stack good number device found sectors keeps) ∙ fragments_of_disk number sectors start len some

  -- a sector stays where it is
  pub disk_place : (s : ℕ) (choices : List ℕ) → place (tree stack number) s choices ≡ record { disk = number; at = s }
  unfolding place
  disk_place s choices = ap (λ t. place t s choices) (keeps_is stack good number device found sectors keeps)

  -- and shows itself
  pub disk_shown : (s : ℕ) → shown_sector (tree stack number) s ≡ record { disk = number; at = s }
  unfolding shown_sector
  disk_shown s = ap (λ t. shown_sector t s) (keeps_is stack good number device found sectors keeps)

  -- it is a disk
  pub disk_is : keeps_data (tree stack number) ≡ true
  disk_is = ap keeps_data (keeps_is stack good number device found sectors keeps)
