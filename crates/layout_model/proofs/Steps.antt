-- The laws of cutting that code goes by: at a device that cuts, the fragments of a run are those of its first piece and those of the
-- rest; at one that copies, those of each member; at a disk, one.
use Rattle.std.proofs.Common.{◌≡◌, ℕ, suc, ◌+◌, ◌-◌, ◌<◌, List, [], ◌∷◌, ◌++◌, map, length, Some, refl, sym, ap, subst, ◌∙◌, arith}
use Rattle.std.specs.Prelude.{slice_get}
use Rattle.std.specs.List.{flat_map, range_with_len}
use Rattle.std.proofs.lemmas.List.{length-map, get_or-map}
use Rattle.std.proofs.lemmas.Simd.{map-map}
use Rattle.std.proofs.lemmas.Option.{slice_get_within, get_or_from_slice_get}
use Rattle.stack_base.specs.declared.ids.DevId.{DevId}
use Rattle.stack_base.specs.declared.mapping.Piece.{Piece}
use Rattle.stack_base.specs.declared.stack.Kind.{Kind}
use Rattle.stack_base.specs.declared.stack.Device.{Device}
use Rattle.stack_base.specs.declared.stack.Stack.{Stack}
use Rattle.stack_base.specs.Mapping.{Slot}
use Rattle.stack_base.specs.Piece.{IsPiece}
use Rattle.stack_base.specs.Tree.{Tree, Leaf, Split, size, Shape, Keeps, Cuts, Copies, shape_of, over_shape, member_at, tree}
use Rattle.stack_base.specs.Stack.{IsStack}
use Rattle.stack_base.proofs.Pieces.{piece_len}
use Rattle.stack_base.proofs.Unfolded.{tree_is}
use Rattle.layout_model.specs.Plan.{frags, cuts}
use Rattle.layout_model.proofs.Sound.{Sound, cut_of_split}
use Rattle.layout_model.proofs.Cutting.{frags_none, frags_first}
use Rattle.layout_model.proofs.Stacks.{tree_sound}

-- the law of splitting, by the piece that a device gives
pub frags_piece : (number : ℕ) (kind : Kind) (sizes : List ℕ) (members : ℕ → Tree) → Sound (Split number kind sizes members)
    → (write offset r len : ℕ) (piece : Piece) → IsPiece kind sizes r len piece
    → frags (Split number kind sizes members) write offset r len
    ≡ frags (members piece.member) write offset piece.at piece.len
    ++ frags (Split number kind sizes members) write (offset + piece.len) (r + piece.len) (len - piece.len)
frags_piece number kind sizes members sound write offset r len piece is =
    frags_first number kind sizes members sound write offset r len piece.len (omega (arith, is.some, is.within))
    (piece_len kind sizes r len piece (cut_of_split number kind sizes members sound) is)
    ∙ ap (λ (to : Slot). frags (members to.member) write offset to.at piece.len
    ++ frags (Split number kind sizes members) write (offset + piece.len) (r + piece.len) (len - piece.len)) is.place

-- lists joined by the places of a list are joined by its elements
flat_by_place : {X Y : Type 0} (g : ℕ → List Y) (h : X → List Y) (xs : List X) (a : ℕ)
    → ((i : ℕ) (x : X) → slice_get xs i ≡ Some x → g (a + i) ≡ h x) → flat_map g (range_with_len a (length xs)) ≡ flat_map h xs
flat_by_place g h [] a each = refl
flat_by_place g h (x ∷ xs) a each =
    let first : g a ≡ h x = ap g (omega arith) ∙ each 0 x refl in
    let rest : flat_map g (range_with_len (a + 1) (length xs)) ≡ flat_map h xs =
    flat_by_place g h xs (a + 1) (λ i y is. ap g (omega arith) ∙ each (suc i) y is) in
    cc

module _ (stack : Stack) (good : IsStack stack) (number : ℕ) (device : Device) (found : slice_get stack.devices.items number ≡ Some device) where
  -- the tree of a device, by how it treats a run
  tree_by_shape : (shape : Shape) → shape_of device.kind ≡ shape
      → tree stack number ≡ over_shape shape number device.kind (map (λ (m : DevId). tree stack m.0) device.members.items)
  tree_by_shape shape is =
      tree_is stack good number device found ∙ ap (λ s. over_shape s number device.kind (map (λ (m : DevId). tree stack m.0) device.members.items)) is

  -- the tree at the place of a member is that of the member
  place_of_member : (k : ℕ) (m : DevId) → slice_get device.members.items k ≡ Some m
      → member_at number (map (λ (m : DevId). tree stack m.0) device.members.items) k ≡ tree stack m.0
  place_of_member k m at_k =
      get_or-map (λ (m : DevId). tree stack m.0) device.members.items k m (Leaf number 0) (slice_get_within device.members.items k m at_k)
      ∙ ap (λ (m : DevId). tree stack m.0) (get_or_from_slice_get device.members.items k m m at_k)

  -- a run of no sectors has no fragments at a device that cuts
  pub cut_none : shape_of device.kind ≡ Cuts → (write offset r : ℕ) → frags (tree stack number) write offset r 0 ≡ []
  unfolding over_shape
  cut_none cuts write offset r =
      ap (λ t. frags t write offset r 0) (tree_by_shape Cuts cuts) ∙ frags_none number device.kind (map size _) (member_at number _) write offset r

  -- the fragments of a run at a device that cuts: those of its first piece at the member, and those of the rest
  pub cut_piece : number < length stack.devices.items → shape_of device.kind ≡ Cuts → (write offset r len : ℕ) (piece : Piece) (m : DevId)
      → slice_get device.members.items piece.member ≡ Some m
      → IsPiece device.kind (map (λ (m : DevId). size (tree stack m.0)) device.members.items) r len piece
      → frags (tree stack number) write offset r len
      ≡ frags (tree stack m.0) write offset piece.at piece.len
      ++ frags (tree stack number) write (offset + piece.len) (r + piece.len) (len - piece.len)
  unfolding over_shape
  cut_piece within cuts write offset r len piece m at_member is =
      let trees = map (λ (m : DevId). tree stack m.0) device.members.items in
      let as_split = tree_by_shape Cuts cuts in
      let sized : IsPiece device.kind (map size trees) r len piece =
      subst (λ sizes. IsPiece device.kind sizes r len piece) (sym (map-map size (λ (m : DevId). tree stack m.0) device.members.items)) is in
      let law = frags_piece number device.kind (map size trees) (member_at number trees) (subst Sound as_split (tree_sound stack good number within)) write offset r len piece sized in
      cc (
        ap (λ t. frags t write offset r len) as_split,
        ap (λ t. frags t write (offset + piece.len) (r + piece.len) (len - piece.len)) as_split,
        ap (λ t. frags t write offset piece.at piece.len) (place_of_member piece.member m at_member),
        law,
      )

  -- the fragments of a run at a device that copies: those of each member, one after the other
  pub copy_legs : shape_of device.kind ≡ Copies → (write offset r len : ℕ)
      → frags (tree stack number) write offset r len ≡ flat_map (λ (m : DevId). frags (tree stack m.0) write offset r len) device.members.items
  unfolding over_shape frags
  copy_legs copies write offset r len =
      let trees = map (λ (m : DevId). tree stack m.0) device.members.items in
      let count : length (map size trees) ≡ length device.members.items = simp length-map in
      ap (λ t. frags t write offset r len) (tree_by_shape Copies copies)
      ∙ ap (λ n. flat_map (λ k. frags (member_at number trees k) write offset r len) (range_with_len 0 n)) count
      ∙ flat_by_place (λ k. frags (member_at number trees k) write offset r len) (λ (m : DevId). frags (tree stack m.0) write offset r len) device.members.items 0
      (λ i m at_i. ap (λ k. frags (member_at number trees k) write offset r len) (omega arith)
      ∙ ap (λ t. frags t write offset r len) (place_of_member i m at_i))

  -- a run at a disk is one fragment
  pub keep_whole : (sectors : ℕ) → shape_of device.kind ≡ Keeps sectors → (write offset r len : ℕ)
      → frags (tree stack number) write offset r len ≡ record { write = write; offset = offset; len = len; disk = record { 0 = number }; at = r } ∷ []
  unfolding over_shape frags
  keep_whole sectors keeps write offset r len = ap (λ t. frags t write offset r len) (tree_by_shape (Keeps sectors) keeps)
