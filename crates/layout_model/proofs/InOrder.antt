-- The fragments of a run, sorted by `fragment_order`, stand in the one order that they have.
use Rattle.std.proofs.Common.{◌≡◌, ◌↔◌, ℕ, ◌^◌, ◌<◌, List, length, get_or, map, eqb, arith}
use Rattle.std.specs.Prelude.{Contains}
use Rattle.std.specs.List.{AllPairs, IsDistinct}
use Rattle.std.specs.List.Sorted.{IsPermutation, IsNonDecreasing, IsNonDecreasingBy, IsStrictlyIncreasing}
use Rattle.std.proofs.lemmas.Bool.{ne_eqb}
use Rattle.std.proofs.lemmas.List.{length-map, get_or-map}
use Rattle.std.proofs.lemmas.List.Elements.{Contains-get_or}
use Rattle.std.proofs.lemmas.List.Sorted.{IsPermutation-map, IsPermutation-sym, Contains-permutation}
use Rattle.std.proofs.lemmas.Map.Keys.{IsDistinct-from_apart, IsDistinct-IsPermutation, IsStrictlyIncreasing-from_distinct}
use Rattle.std.proofs.lemmas.Nat.{same_from_place}
use Rattle.stack_base.specs.Tree.{Tree}
use Rattle.stack_base.proofs.NumberLemmas.{eqb_flips}
use Rattle.layout_model.specs.declared.fragment.Fragment.{Fragment}
use Rattle.layout_model.specs.Fragments.{IsFragmentOf, AreOther, fragment_order, AreFragments}
use Rattle.layout_model.specs.Plan.{frags}
use Rattle.layout_model.proofs.Sound.{Sound}
use Rattle.layout_model.proofs.PiecesGiveFragments.{frags_are}
use Rattle.layout_model.proofs.Apart.{HasDisk, Apart, frags_have, frags_distinct}

-- fragments that differ in offset or disk differ in their order, where disks have numbers of 32 bits
orders_apart : (a b : Fragment) → a.disk.0 < 2 ^ 32 → b.disk.0 < 2 ^ 32 → AreOther a b → fragment_order a ≡ fragment_order b → ⊥
orders_apart a b small also other same =
    let parts = same_from_place a.offset a.disk.0 b.offset b.disk.0 (2 ^ 32) small also same in
    other parts.0 parts.1

-- orders of a list whose fragments are different are different
orders_distinct : (fragments : List Fragment) → ((f : Fragment) → Contains fragments f → f.disk.0 < 2 ^ 32) → AllPairs AreOther fragments → IsDistinct eqb (map fragment_order fragments)
orders_distinct fragments small other = IsDistinct-from_apart eqb (map fragment_order fragments) (λ i j d lt within.
    let within : j < length fragments = omega (arith, length-map fragments fragment_order) in
    let e : Fragment = record { write = 0; offset = 0; len = 0; disk = record { 0 = 0 }; at = 0 } in
    rw (get_or-map fragment_order fragments i e d (omega arith), get_or-map fragment_order fragments j e d within)
    (ne_eqb _ _ (orders_apart (get_or fragments i e) (get_or fragments j e) (small _ (Contains-get_or fragments i e (omega arith))) (small _ (Contains-get_or fragments j e within)) (other i j e lt within))))

-- orders of a list that is sorted by them do not fall
orders_sorted : (fragments : List Fragment) → IsNonDecreasingBy fragment_order fragments → IsNonDecreasing (map fragment_order fragments)
orders_sorted fragments sorted i j d le within =
    let within : j < length fragments = omega (arith, length-map fragments fragment_order) in
    let e : Fragment = record { write = 0; offset = 0; len = 0; disk = record { 0 = 0 }; at = 0 } in
    rw (get_or-map fragment_order fragments i e d (omega arith), get_or-map fragment_order fragments j e d within) (sorted i j e le within)

module _ (t : Tree) (sound : Sound t) (apart : Apart t) (small : (disk : ℕ) → HasDisk t disk → disk < 2 ^ 32)
    (write offset r len : ℕ) (some : 0 < len) (list : List Fragment) (same : IsPermutation (frags t write offset r len) list) where
  -- the fragments in any order, once sorted by their order, rise
  pub in_order : IsNonDecreasingBy fragment_order list → IsStrictlyIncreasing (map fragment_order list)
  in_order sorted =
      IsStrictlyIncreasing-from_distinct (map fragment_order list) (orders_sorted list sorted)
      (IsDistinct-IsPermutation eqb eqb_flips (map fragment_order (frags t write offset r len)) (map fragment_order list)
      (IsPermutation-map fragment_order (frags t write offset r len) list same)
      (orders_distinct (frags t write offset r len)
      (λ f c. small f.disk.0 (frags_have t sound write offset r len some f c))
      (frags_distinct t sound apart write offset r len some)))

  -- they are exactly the fragments still
  pub each_fragment : (f : Fragment) → Contains list f ↔ IsFragmentOf t write offset r len f
  each_fragment f = (
    λ c. (frags_are t sound write offset r len some f).0 (Contains-permutation list (frags t write offset r len) f (IsPermutation-sym _ _ same) c),
    λ h. Contains-permutation (frags t write offset r len) list f same ((frags_are t sound write offset r len some f).1 h),
  )

-- what cutting gives, sorted by their order, is the list of the fragments
pub are_fragments : (t : Tree) → Sound t → Apart t → ((disk : ℕ) → HasDisk t disk → disk < 2 ^ 32) → (write r len : ℕ) → 0 < len
    → (list : List Fragment) → IsPermutation (frags t write 0 r len) list → IsNonDecreasingBy fragment_order list → AreFragments t write r len list
are_fragments t sound apart small write r len some list same sorted = record {
  each = each_fragment t sound apart small write 0 r len some list same;
  order = in_order t sound apart small write 0 r len some list same sorted;
}
