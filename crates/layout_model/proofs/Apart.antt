-- No two fragments of a run begin at one sector of the write and lie on one disk.
use Rattle.std.proofs.Common.{◌≡◌, ℕ, zero, suc, ◌+◌, ◌-◌, ◌<◌, ◌≤◌, min, List, [], ◌∷◌, length, refl, sym, ap, subst, arith}
use Rattle.std.specs.Prelude.{Contains}
use Rattle.std.specs.List.{AllPairs}
use Rattle.stack_base.specs.declared.stack.Kind.{Kind}
use Rattle.stack_base.specs.Mapping.{slot}
use Rattle.stack_base.specs.Cutting.{piece_end}
use Rattle.stack_base.specs.Tree.{Tree, Leaf, Split, Mirrored}
use Rattle.layout_model.specs.declared.fragment.Fragment.{Fragment}
use Rattle.layout_model.specs.Way.{FitsWay, Place, place}
use Rattle.layout_model.specs.Fragments.{AreOther}
use Rattle.layout_model.specs.Plan.{frags}
use Rattle.layout_model.proofs.Sound.{Sound, cut_of_split, sound_piece, sound_leg}
use Rattle.layout_model.proofs.Cutting.{frags_none, frags_first}
use Rattle.layout_model.proofs.Lists.{all_pairs_append, all_pairs_flat}
use Rattle.layout_model.proofs.PiecesGiveFragments.{frags_are}

-- a disk of this number stands somewhere below; what stands behind the members of a device counts too
unfoldable pub HasDisk : Tree → ℕ → Type 0
HasDisk (Leaf number sectors) disk = number ≡ disk
HasDisk (Split number kind sizes members) disk = (k : ℕ) × HasDisk (members k) disk
HasDisk (Mirrored number sizes members) disk = (k : ℕ) × HasDisk (members k) disk

-- wherever a run is copied, no disk is below two of the members
unfoldable pub Apart : Tree → Type 0
Apart (Leaf number sectors) = Unit {0}
Apart (Split number kind sizes members) = (k : ℕ) → Apart (members k)
Apart (Mirrored number sizes members) =
    ((j k disk : ℕ) → j < k → k < length sizes → HasDisk (members j) disk → HasDisk (members k) disk → ⊥) × ((k : ℕ) → Apart (members k))

-- a way ends at a disk of the tree
pub place_has : (t : Tree) (s : ℕ) (choices : List ℕ) → FitsWay t s choices → HasDisk t (place t s choices).disk
unfolding FitsWay place HasDisk
place_has (Leaf number sectors) s choices fits = refl
place_has (Split number kind sizes members) s choices fits = ((slot kind sizes s).member, place_has (members (slot kind sizes s).member) (slot kind sizes s).at choices fits)
place_has (Mirrored number sizes members) s [] fits = absurd fits
place_has (Mirrored number sizes members) s (choice ∷ choices) fits = (choice, place_has (members choice) s choices fits.1)

module _ (t : Tree) (sound : Sound t) (write offset r len : ℕ) (some : 0 < len) (f : Fragment) (c : Contains (frags t write offset r len) f) where
  -- the disk of a fragment is one of the tree
  pub frags_have : HasDisk t f.disk.0
  frags_have =
      let h = (frags_are t sound write offset r len some f).0 c in
      subst (HasDisk t) (ap (λ (p : Place). p.disk) h.lies) (place_has t (r + h.from) h.choices h.fits)

  -- a fragment lies within the run
  pub frags_within : (offset ≤ f.offset) × (f.offset + f.len ≤ offset + len) × (0 < f.len)
  frags_within =
      let h = (frags_are t sound write offset r len some f).0 c in
      (omega (arith, h.begins), omega (arith, h.begins, h.within), h.some)

-- every run that has a sector has fragments of which no two begin at one sector of the write and lie on one disk
AllOther : Tree → Type 0
AllOther t = (write offset r len : ℕ) → 0 < len → AllPairs AreOther (frags t write offset r len)

-- where a run is cut: the first piece ends before the rest begins
module _ (number : ℕ) (kind : Kind) (sizes : List ℕ) (members : ℕ → Tree) (sound : Sound (Split number kind sizes members)) (below : (k : ℕ) → AllOther (members k)) where
  -- a fragment of a run that is cut begins no earlier than the run
  split_from : (write offset r len : ℕ) (f : Fragment) → Contains (frags (Split number kind sizes members) write offset r len) f → offset ≤ f.offset
  split_from write offset r zero f c = absurd (omega (arith, subst (λ fs. Contains fs f) (frags_none number kind sizes members write offset r) c))
  split_from write offset r (suc more) f c = (frags_within (Split number kind sizes members) sound write offset r (suc more) (omega arith) f c).0

  split_other : (bound write offset r len : ℕ) → len ≤ bound → AllPairs AreOther (frags (Split number kind sizes members) write offset r len)
  unfolding AllOther
  split_other bound write offset r zero enough = subst (AllPairs AreOther) (sym (frags_none number kind sizes members write offset r)) (λ i j d lt within. absurd (omega arith))
  split_other zero write offset r (suc more) enough = absurd (omega arith)
  split_other (suc bound) write offset r (suc more) enough =
      let len : ℕ = suc more in
      let n : ℕ = min (piece_end kind sizes r - r) len in
      let ahead = (cut_of_split number kind sizes members sound).ahead in
      let member = members (slot kind sizes r).member in
      let start = (slot kind sizes r).at in
      let whole = sound_piece number kind sizes members sound (slot kind sizes r).member in
      let positive : 0 < n = omega (arith, ahead r) in
      subst (AllPairs AreOther) (sym (frags_first number kind sizes members sound write offset r len n (omega arith) refl))
      (all_pairs_append AreOther (frags member write offset start n) (frags (Split number kind sizes members) write (offset + n) (r + n) (len - n))
      (below (slot kind sizes r).member write offset start n positive)
      (split_other bound write (offset + n) (r + n) (len - n) (omega arith))
      (λ x y now later begins disk.
      let before = frags_within member whole write offset start n positive x now in
      let behind = split_from write (offset + n) (r + n) (len - n) y later in
      absurd (omega (arith, before, behind, begins))))

-- by the tree
all_other : (t : Tree) → Sound t → Apart t → AllOther t
unfolding AllOther Apart frags
all_other (Leaf number sectors) sound apart write offset r len some = λ i j d lt within. absurd (omega arith)
all_other (Split number kind sizes members) sound apart write offset r len some =
    split_other number kind sizes members sound (λ k. all_other (members k) (sound_piece number kind sizes members sound k) (apart k)) len write offset r len (omega arith)
all_other (Mirrored number sizes members) sound apart write offset r len some =
    let below = sound_leg number sizes members sound in
    all_pairs_flat AreOther (λ k. frags (members k) write offset r len) 0 (length sizes)
    (λ k. all_other (members k) (below k) (apart.1 k) write offset r len some)
    (λ j k x y lt before here there begins disk.
    apart.0 j k y.disk.0 lt (omega arith)
    (subst (HasDisk (members j)) disk (frags_have (members j) (below j) write offset r len some x here))
    (frags_have (members k) (below k) write offset r len some y there))

-- no two fragments of a run begin at one sector of the write and lie on one disk
pub frags_distinct : (t : Tree) → Sound t → Apart t → (write offset r len : ℕ) → 0 < len → AllPairs AreOther (frags t write offset r len)
unfolding AllOther
frags_distinct t sound apart = all_other t sound apart
