-- At most one sector of the writes of one round has a way to a sector of a disk.
use Rattle.std.proofs.Common.{◌≡◌, ◌≢◌, ℕ, zero, suc, ◌+◌, ◌<◌, ◌≤◌, List, [], ◌∷◌, map, length, get_or, Option, None, Some, refl, sym, ◌∙◌, ap, subst, inl, inr, arith}
use Rattle.std.specs.Prelude.{slice_get, All}
use Rattle.std.proofs.lemmas.Bool.{cases_eq}
use Rattle.std.proofs.lemmas.List.{length-map, get_or-map}
use Rattle.std.proofs.lemmas.List.Elements.{All-get_or}
use Rattle.std.proofs.lemmas.Option.{get_or_from_slice_get, slice_get_within, same_Some}
use Rattle.stack_base.specs.declared.ids.DevId.{DevId}
use Rattle.stack_base.specs.declared.stack.Kind.{Kind}
use Rattle.stack_base.specs.declared.stack.Stack.{Stack}
use Rattle.stack_base.specs.Mapping.{slot, size_of, smallest}
use Rattle.stack_base.specs.Tree.{Tree, Leaf, Split, Mirrored, size, Shape, Keeps, Cuts, Copies, shape_of, over_shape, member_at, tree}
use Rattle.stack_base.specs.Stack.{HasShape, IsStack}
use Rattle.stack_base.proofs.Smallest.{smallest_le}
use Rattle.stack_base.proofs.Inside.{IsInside, kind_inside}
use Rattle.stack_base.proofs.Unfolded.{tree_is}
use Rattle.stack_base.proofs.NumberLemmas.{in_order}
use Rattle.layout_model.specs.declared.write.Write.{Write}
use Rattle.layout_model.specs.Way.{FitsWay, Place, place}
use Rattle.layout_model.specs.Fragments.{IsFragmentOf, IsIn}
use Rattle.layout_model.specs.Laid.{Reaches}
use Rattle.layout_model.specs.Writes.{IsWrite}
use Rattle.layout_model.specs.OneWay.{IsTop, OneWayARound}
use Rattle.layout_model.proofs.Apart.{HasDisk, place_has}
use Rattle.layout_model.proofs.FromMembers.{at_each_place, can_cut}
use Rattle.layout_model.proofs.OneSlot.{kind_one}
use Rattle.layout_model.proofs.OneFragment.{one_fragment}
use Rattle.layout_model.proofs.Stacks.{element, member_tree, disk_under}
use Rattle.layout_model.proofs.DevicesUnder.{Under, itself, up, member_below, members_apart, under_one_way}

abbrev start_of : Option Write → ℕ
start_of None = 0
start_of (Some write) = write.start

-- no disk is below two of these members
abbrev pub AreDisjoint : ℕ → (ℕ → Tree) → Type 0
AreDisjoint count members = (j k disk : ℕ) → j ≢ k → j < count → k < count → HasDisk (members j) disk → HasDisk (members k) disk → ⊥

-- no two sectors of a device that cuts go to one sector of a member, which has it, and no disk is below two members
unfoldable pub GoesOneWay : Tree → Type 0
GoesOneWay (Leaf number sectors) = Unit {0}
GoesOneWay (Split number kind sizes members) =
    ((s u : ℕ) → s < size_of kind sizes → u < size_of kind sizes → slot kind sizes s ≡ slot kind sizes u → s ≡ u)
    × ((s : ℕ) → s < size_of kind sizes → ((slot kind sizes s).member < length sizes) × ((slot kind sizes s).at < size (members (slot kind sizes s).member)))
    × AreDisjoint (length sizes) members × ((k : ℕ) → GoesOneWay (members k))
GoesOneWay (Mirrored number sizes members) =
    ((k : ℕ) → k < length sizes → smallest sizes ≤ size (members k)) × AreDisjoint (length sizes) members × ((k : ℕ) → GoesOneWay (members k))

-- then a place tells the sector that goes there, and the choices
pub one_way : (t : Tree) → GoesOneWay t → (s u : ℕ) (c d : List ℕ) → s < size t → u < size t → FitsWay t s c → FitsWay t u d → place t s c ≡ place t u d → (s ≡ u) × (c ≡ d)
unfolding GoesOneWay FitsWay place
one_way (Leaf number sectors) good s u c d lt lu fits fitu same = (ap (λ (p : Place). p.at) same, fits ∙ sym fitu)
one_way (Split number kind sizes members) good s u c d lt lu fits fitu same = elim (cases_eq (slot kind sizes s).member (slot kind sizes u).member) [
  | inl one ↦
      let here = good.1 s lt in
      let there = good.1 u lu in
      let n : ℕ = (slot kind sizes s).member in
      let fit : FitsWay (members n) (slot kind sizes u).at d = subst (λ m. FitsWay (members m) (slot kind sizes u).at d) (sym one) fitu in
      let within : (slot kind sizes u).at < size (members n) = subst (λ m. (slot kind sizes u).at < size (members m)) (sym one) there.1 in
      let ends : place (members n) (slot kind sizes s).at c ≡ place (members n) (slot kind sizes u).at d =
      same ∙ ap (λ m. place (members m) (slot kind sizes u).at d) (sym one) in
      let rest = one_way (members n) (good.3 n) (slot kind sizes s).at (slot kind sizes u).at c d here.1 within fits fit ends in
      (good.0 s u lt lu (λ k. record { member = one k; at = rest.0 k }), rest.1)
  | inr other ↦
      let disk : ℕ = (place (members (slot kind sizes s).member) (slot kind sizes s).at c).disk in
      absurd (good.2 (slot kind sizes s).member (slot kind sizes u).member disk other (good.1 s lt).0 (good.1 u lu).0
      (place_has (members (slot kind sizes s).member) (slot kind sizes s).at c fits)
      (subst (HasDisk (members (slot kind sizes u).member)) (sym (ap (λ (p : Place). p.disk) same)) (place_has (members (slot kind sizes u).member) (slot kind sizes u).at d fitu)))
]
one_way (Mirrored number sizes members) good s u [] d lt lu fits fitu same = absurd fits
one_way (Mirrored number sizes members) good s u (j ∷ c) [] lt lu fits fitu same = absurd fitu
one_way (Mirrored number sizes members) good s u (j ∷ c) (k ∷ d) lt lu fits fitu same = elim (cases_eq j k) [
  | inl one ↦
      let fit : FitsWay (members j) u d = subst (λ m. FitsWay (members m) u d) (sym one) fitu.1 in
      let ends : place (members j) s c ≡ place (members j) u d = same ∙ ap (λ m. place (members m) u d) (sym one) in
      let long = good.0 j fits.0 in
      let rest = one_way (members j) (good.2 j) s u c d (omega (arith, lt, long)) (omega (arith, lu, long)) fits.1 fit ends in
      (rest.0, λ i. one i ∷ rest.1 i)
  | inr other ↦
      absurd (good.1 j k (place (members j) s c).disk other fits.0 fitu.0 (place_has (members j) s c fits.1)
      (subst (HasDisk (members k)) (sym (ap (λ (p : Place). p.disk) same)) (place_has (members k) u d fitu.1)))
]

-- a device over members that go one way
module _ (number : ℕ) (kind : Kind) (list : List Tree) where
  member_size : (k : ℕ) → k < length (map size list) → size (member_at number list k) ≡ get_or (map size list) k 0
  member_size k lt = sym (get_or-map size list k (Leaf number 0) 0 (omega (arith, lt, length-map list size)))

  one_over : (shape : Shape)
      → (shape ≡ Cuts → (s u : ℕ) → s < size_of kind (map size list) → u < size_of kind (map size list) → slot kind (map size list) s ≡ slot kind (map size list) u → s ≡ u)
      → (shape ≡ Cuts → (s : ℕ) → s < size_of kind (map size list) → IsInside (map size list) (slot kind (map size list) s))
      → AreDisjoint (length list) (member_at number list) → ((k : ℕ) → k < length list → GoesOneWay (member_at number list k)) → GoesOneWay (over_shape shape number kind list)
  unfolding over_shape GoesOneWay
  one_over (Keeps sectors) one inside none each = tt
  one_over Cuts one inside none each = (
    one refl,
    λ s lt.
        let there = inside refl s lt in
        let long = member_size (slot kind (map size list) s).member there.0 in
        (there.0, omega (arith, there.1, long)),
    λ j k disk other lt lk left right. none j k disk other (omega (arith, lt, length-map list size)) (omega (arith, lk, length-map list size)) left right,
    at_each_place GoesOneWay number list tt each,
  )
  one_over Copies one inside none each = (
    λ k lt. let long = member_size k lt in omega (arith, long, smallest_le (map size list) k lt),
    λ j k disk other lt lk left right. none j k disk other (omega (arith, lt, length-map list size)) (omega (arith, lk, length-map list size)) left right,
    at_each_place GoesOneWay number list tt each,
  )

module _ (stack : Stack) (good : IsStack stack) where
  below_goes : (bound number : ℕ) → number < bound → number < length stack.devices.items → GoesOneWay (tree stack number)
  below_goes zero number lt within = absurd (omega (arith, lt))
  below_goes (suc bound) number lt within =
      let at_number = element stack.devices.items number within in
      let device = at_number.0 in
      let found = at_number.1 in
      let trees = map (λ (m : DevId). tree stack m.0) device.members.items in
      let sizes = map size trees in
      let shape = (good.each number device found).shape in
      let many : length sizes ≡ length device.members.items = length-map trees size ∙ length-map device.members.items (λ (m : DevId). tree stack m.0) in
      subst GoesOneWay (sym (tree_is stack good number device found)) (one_over number device.kind trees (shape_of device.kind)
      (λ e s u lt lu same. kind_one device.kind sizes s u (can_cut device.kind (length device.members.items) shape e) lt lu same)
      (λ e s lt. kind_inside device.kind sizes s (can_cut device.kind (length device.members.items) shape e) (subst (HasShape device.kind) (sym many) shape) lt)
      (λ j k disk other before inside left right.
      let m = member_tree stack number device found j before in
      let n = member_tree stack number device found k inside in
      let below = member_below stack good number j m.0 m.1 in
      let also = member_below stack good number k n.0 n.1 in
      members_apart stack good number j k m.0 n.0 disk other m.1 n.1
      (disk_under stack good m.0 disk (omega (arith, below, within)) (subst (λ t. HasDisk t disk) m.2 left))
      (disk_under stack good n.0 disk (omega (arith, also, within)) (subst (λ t. HasDisk t disk) n.2 right)))
      (λ k inside.
      let m = member_tree stack number device found k inside in
      let below = member_below stack good number k m.0 m.1 in
      subst GoesOneWay (sym m.2) (below_goes bound m.0 (omega (arith, below, lt)) (omega (arith, below, within)))))

  pub goes_one_way : (number : ℕ) → number < length stack.devices.items → GoesOneWay (tree stack number)
  goes_one_way number within = below_goes (number + 1) number (omega arith) within

  -- a device that is no member is under itself alone
  top_alone : (d e : ℕ) → IsTop stack d → Under stack d e → d ≡ e
  top_alone d e top itself = refl
  top_alone d e top (up p k member u) = absurd (top p k member)

  -- so no disk is below two of them
  pub tops_apart : (d e disk : ℕ) → d < length stack.devices.items → e < length stack.devices.items → IsTop stack d → IsTop stack e → HasDisk (tree stack d) disk → HasDisk (tree stack e) disk → d ≡ e
  tops_apart d e disk known also top other here there = elim (under_one_way stack good (disk_under stack good d disk known here) (disk_under stack good e disk also there)) [
    | inl w ↦ top_alone d e top w
    | inr w ↦ sym (top_alone e d other w)
  ]

  -- a way ends at a disk of its device
  way_has : (number disk at : ℕ) (write : Write) → (way : Reaches stack write number disk at) → HasDisk (tree stack write.dev.0) disk
  way_has number disk at write way =
      subst (HasDisk (tree stack write.dev.0)) (ap (λ (p : Place). p.disk) way.ends) (place_has (tree stack write.dev.0) (write.start + way.offset) way.choices way.fits)

  -- two writes to one device whose ways end in one sector have it in common
  same_sector : (i j disk at : ℕ) (a b : Write) → IsWrite stack a → IsWrite stack b → a.dev.0 ≡ b.dev.0 → (here : Reaches stack a i disk at) (there : Reaches stack b j disk at)
      → (a.start + here.offset ≡ b.start + there.offset) × (here.choices ≡ there.choices)
  same_sector i j disk at a b served also dev here there =
      let t = tree stack a.dev.0 in
      let fits : FitsWay t (b.start + there.offset) there.choices = subst (λ d. FitsWay (tree stack d) (b.start + there.offset) there.choices) (sym dev) there.fits in
      let ends : place t (b.start + there.offset) there.choices ≡ record { disk = disk; at = at } =
      ap (λ d. place (tree stack d) (b.start + there.offset) there.choices) dev ∙ there.ends in
      let long : size t ≡ size (tree stack b.dev.0) = ap (λ d. size (tree stack d)) dev in
      one_way t (goes_one_way a.dev.0 served.known) (a.start + here.offset) (b.start + there.offset) here.choices there.choices
      (let lt = here.within in let within = served.within in omega (arith, lt, within)) (let lt = there.within in let within = also.within in omega (arith, lt, within, long))
      here.fits fits (here.ends ∙ sym ends)

pub one_way_a_round : OneWayARound
one_way_a_round stack writes rounds i j disk at a b good served apart found other round here there =
    let known = of_write (IsWrite stack) served i a found in
    let also = of_write (IsWrite stack) served j b other in
    let dev : a.dev.0 ≡ b.dev.0 =
    tops_apart stack good a.dev.0 b.dev.0 disk known.known also.known (of_write (λ (write : Write). IsTop stack write.dev.0) apart.tops i a found)
    (of_write (λ (write : Write). IsTop stack write.dev.0) apart.tops j b other) (way_has stack good i disk at a here) (way_has stack good j disk at b there) in
    let same = same_sector stack good i j disk at a b known also dev here there in
    let lt = here.within in
    let lu = there.within in
    elim (in_order i j) [
      | inl before ↦ absurd (elim (apart.apart i j a b before found other round dev) [ inl w ↦ omega (arith, w, same.0, lt) | inr w ↦ omega (arith, w, same.0, lu) ])
      | inr (inr behind) ↦ absurd (elim (apart.apart j i b a behind other found (sym round) (sym dev)) [ inl w ↦ omega (arith, w, same.0, lu) | inr w ↦ omega (arith, w, same.0, lt) ])
      | inr (inl one) ↦
          let write : Some a ≡ Some b = sym found ∙ ap (slice_get writes) one ∙ other in
          let start : a.start ≡ b.start = ap start_of write in
          let offset : here.offset ≡ there.offset = omega (arith, same.0, start) in
          record { number = one; offset = offset; choices = same.1; fragment = fragment one (same_Some a b write) offset same.1 }
    ]
  where
    -- of one write, from one sector and by the same choices, they are in one fragment
    fragment : i ≡ j → a ≡ b → here.offset ≡ there.offset → here.choices ≡ there.choices → here.fragment ≡ there.fragment
    fragment one write offset choices =
        let inside = here.inside in
        let other_inside = there.inside in
        let is : IsFragmentOf (tree stack a.dev.0) i 0 a.start a.count here.fragment = inside.fragment in
        let P : ℕ → Write → Type 0 = λ n w. IsIn (tree stack w.dev.0) n 0 w.start w.count there.choices there.offset there.fragment in
        let moved : P i a = subst (λ n. P n a) (sym one) (subst (P j) (sym write) other_inside) in
        let from = inside.from in
        let before = inside.before in
        let from2 = moved.from in
        let before2 = moved.before in
        one_fragment (tree stack a.dev.0) i 0 a.start a.count here.fragment there.fragment is moved.fragment (inside.chosen ∙ choices ∙ sym moved.chosen) here.offset from before
        (omega (arith, from2, offset)) (omega (arith, before2, offset))

    of_write : (P : Write → Type 0) → All P writes → (k : ℕ) (write : Write) → slice_get writes k ≡ Some write → P write
    of_write P all k write at = subst P (get_or_from_slice_get writes k write write at) (All-get_or P writes k write (slice_get_within writes k write at) all)
