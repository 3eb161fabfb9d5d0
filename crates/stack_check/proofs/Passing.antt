-- What the checks of a device's line say together, where none finds anything.
use Rattle.std.proofs.Common.{◌≡◌, ◌⊎◌, ℕ, zero, suc, ◌+◌, ◌==◌, ◌||◌, ◌<◌, ◌≤◌, Bool, true, false, List, [], ◌∷◌, ◌++◌, length, map, None, Some, is_none, refl, ap, ◌∙◌, sym, subst, inl, inr, arith}
use Rattle.std.specs.Prelude.{slice_get, All, IsTrue, nat_le, nat_lt}
use Rattle.std.specs.List.{list_any}
use Rattle.std.proofs.lemmas.Bool.{or_parts, or_from, leb-false, ltb-false, eqb-false, not-false}
use Rattle.std.proofs.lemmas.List.{length_push, length-map}
use Rattle.std.proofs.lemmas.List.Elements.{All-push}
use Rattle.std.proofs.lemmas.List.Folds.{list_any-append}
use Rattle.std.proofs.lemmas.List.Sums.{sum_by_push}
use Rattle.std.proofs.lemmas.Option.{slice_get_within, get_or_from_slice_get, same_Some}
use Rattle.stack_base.proofs.NumberLemmas.{eqb_flips, nonzero}
use Rattle.stack_base.specs.Tree.{size}
use Rattle.decl_text.specs.Text.{is_name}
use Rattle.decl_text.specs.Known.{Declared, all_members, declared, device_of, number_in, sectors_of, tree_over, trees}
use Rattle.decl_text.specs.Checks.{all_sectors, disks, has_count, is_among, repeats}
use Rattle.decl_text.specs.Read.{IsFormed}
use Rattle.decl_text.specs.declared.item.What.{What}
use Rattle.decl_text.specs.declared.item.What.TheVariants as what
use Rattle.stack_check.specs.Rows.{device_reason, has_no_room, is_large, size_with, takes_taken}
use Rattle.stack_check.specs.Sound.{AreSound, IsFit, HasNumbers, records_of_what}
use lib.Dec.{eqb}
use Rattle.stack_check.proofs.DeviceLemmas.{names_known}
use Rattle.stack_check.proofs.DeviceTallies.{all_members_push}
use Rattle.decl_text.proofs.Unrefused.{cond_none}
use Rattle.stack_check.proofs.TreeLemmas.{trees_push}

-- what the checks found not
pub record Passes (devices : List Declared) (does : What) (members : List (List ℕ)) (reserve : ℕ) : Type 0 where
  pub known : list_any (λ member. is_none (device_of devices member)) members ≡ false
  pub free : takes_taken devices members ≡ false
  pub count : has_count does (length members) ≡ true
  pub room : has_no_room devices does ≡ false
  pub small : is_large does reserve ≡ false
  pub some : (size_with devices does (map (number_in devices) members) == 0) ≡ false

pub device_passes :
    (devices : List Declared) (name : List ℕ) (does : What) (members : List (List ℕ)) (reserve : ℕ) (rescuer : Bool)
    → device_reason devices name does members reserve rescuer ≡ None → Passes devices does members reserve
device_passes devices name does members reserve rescuer none =
    let a = cond_none _ _ _ none in
    let b = cond_none _ _ _ a.1 in
    let d = cond_none _ _ _ b.1 in
    let e = cond_none _ _ _ d.1 in
    let f = cond_none _ _ _ e.1 in
    let g = cond_none _ _ _ f.1 in
    let large = or_parts (has_no_room devices does) (is_large does reserve) f.0 in
    record {
      known = b.0;
      free = d.0;
      count = not-false (has_count does (length members)) e.0;
      room = large.0;
      small = large.1;
      some = g.0;
    }

-- one more device is not one too many
room_left : (devices : List Declared) (does : What) → all_sectors devices ≤ 262144 → has_no_room devices does ≡ false → (length devices < 32) × (all_sectors devices + sectors_of does ≤ 262144)
room_left devices (what.Disk sectors) few room =
    let parts = or_parts (nat_le 32 (length devices) || nat_le 16 (disks devices)) (nat_lt 262144 (all_sectors devices + sectors)) room in
    let first = or_parts (nat_le 32 (length devices)) (nat_le 16 (disks devices)) parts.0 in
    (leb-false 32 (length devices) first.0, ltb-false 262144 (all_sectors devices + sectors) parts.1)
room_left devices what.Linear few room = (leb-false 32 (length devices) room, omega arith)
room_left devices (what.Stripe chunk) few room = (leb-false 32 (length devices) room, omega arith)
room_left devices (what.Zoned chunk) few room = (leb-false 32 (length devices) room, omega arith)
room_left devices (what.Limit longest chunk) few room = (leb-false 32 (length devices) room, omega arith)
room_left devices (what.Mirror records) few room = (leb-false 32 (length devices) room, omega arith)

-- its pools are small
pools_small : (does : What) (members : List (List ℕ)) (reserve : ℕ) (rescuer : Bool) → IsFormed does members reserve rescuer → is_large does reserve ≡ false → (reserve ≤ 1024) × (records_of_what does ≤ 1024)
pools_small (what.Disk sectors) members reserve rescuer formed small = (omega (arith, formed.1), omega arith)
pools_small what.Linear members reserve rescuer formed small = (ltb-false 1024 reserve (or_parts (nat_lt 1024 reserve) false small).0, omega arith)
pools_small (what.Stripe chunk) members reserve rescuer formed small = (ltb-false 1024 reserve (or_parts (nat_lt 1024 reserve) false small).0, omega arith)
pools_small (what.Zoned chunk) members reserve rescuer formed small = (ltb-false 1024 reserve (or_parts (nat_lt 1024 reserve) false small).0, omega arith)
pools_small (what.Limit longest chunk) members reserve rescuer formed small = (ltb-false 1024 reserve (or_parts (nat_lt 1024 reserve) false small).0, omega arith)
pools_small (what.Mirror records) members reserve rescuer formed small =
    let parts = or_parts (nat_lt 1024 records) (nat_lt 1024 reserve || false) small in
    (ltb-false 1024 reserve (or_parts (nat_lt 1024 reserve) false parts.1).0, ltb-false 1024 records parts.0)

-- its numbers are
has_numbers : (does : What) (members : List (List ℕ)) (reserve : ℕ) (rescuer : Bool) → IsFormed does members reserve rescuer → HasNumbers does
has_numbers (what.Disk sectors) members reserve rescuer formed = tt
has_numbers what.Linear members reserve rescuer formed = tt
has_numbers (what.Stripe chunk) members reserve rescuer formed = formed
has_numbers (what.Zoned chunk) members reserve rescuer formed = formed
has_numbers (what.Limit longest chunk) members reserve rescuer formed = formed
has_numbers (what.Mirror records) members reserve rescuer formed = tt

-- a list that has none of some numbers has not the first, nor one of the rest
none_first : (x : ℕ) (xs ys : List ℕ) → list_any (is_among (x ∷ xs)) ys ≡ false → is_among ys x ≡ false
none_first x xs [] free = refl
none_first x xs (y ∷ ys) free =
    let parts = or_parts (eqb x y || is_among xs y) (list_any (is_among (x ∷ xs)) ys) free in
    or_from (eqb y x) (is_among ys x) (eqb_flips y x ∙ (or_parts (eqb x y) (is_among xs y) parts.0).0) (none_first x xs ys parts.1)

none_rest : (x : ℕ) (xs ys : List ℕ) → list_any (is_among (x ∷ xs)) ys ≡ false → list_any (is_among xs) ys ≡ false
none_rest x xs [] free = refl
none_rest x xs (y ∷ ys) free =
    let parts = or_parts (eqb x y || is_among xs y) (list_any (is_among (x ∷ xs)) ys) free in
    or_from (is_among xs y) (list_any (is_among xs) ys) (or_parts (eqb x y) (is_among xs y) parts.0).1 (none_rest x xs ys parts.1)

-- numbers of which none repeats, behind such numbers and none of them
repeats_append : (xs ys : List ℕ) → repeats xs ≡ false → list_any (is_among xs) ys ≡ false → repeats ys ≡ false → repeats (xs ++ ys) ≡ false
repeats_append [] ys once free other = other
repeats_append (x ∷ xs) ys once free other =
    let parts = or_parts (is_among xs x) (repeats xs) once in
    or_from (is_among (xs ++ ys) x) (repeats (xs ++ ys))
    (list_any-append (λ m. eqb m x) xs ys ∙ or_from (is_among xs x) (is_among ys x) parts.0 (none_first x xs ys free))
    (repeats_append xs ys parts.1 (none_rest x xs ys free) other)

-- the element of a list and one more at a place
pub push_cases :
    {X : Type 0} (xs : List X) (y x : X) (i : ℕ) → slice_get (xs ++ y ∷ []) i ≡ Some x
    → ((i < length xs) × (slice_get xs i ≡ Some x)) ⊎ ((i ≡ length xs) × (y ≡ x))
push_cases [] y x zero found = inr (refl, same_Some y x found)
push_cases [] y x (suc i) found = absurd (grind arith)
push_cases (z ∷ xs) y x zero found = inl (omega arith, found)
push_cases (z ∷ xs) y x (suc i) found = elim (push_cases xs y x i found) [
  | inl before ↦ inl (omega (arith, before.0), before.1)
  | inr last ↦ inr (omega (arith, last.0), last.1)
]

module _ (devices : List Declared) (name : List ℕ) (does : What) (members : List (List ℕ)) (reserve : ℕ) (rescuer : Bool) where
  -- the device that the line declares
  abbrev next : Declared
  next = declared devices name does members reserve rescuer

  pub next_fit : IsTrue (is_name name) → IsFormed does members reserve rescuer → Passes devices does members reserve → IsFit next
  next_fit named formed passes =
      let small = pools_small does members reserve rescuer formed passes.small in
      record {
        named = named;
        numbers = has_numbers does members reserve rescuer formed;
        count = ap (has_count does) (length-map members (number_in devices)) ∙ passes.count;
        reserve = small.0;
        records = small.1;
      }

  next_below :
      AreSound devices → Passes devices does members reserve → (number i m : ℕ) (device : Declared) → slice_get (devices ++ next ∷ []) number ≡ Some device
      → slice_get device.members i ≡ Some m → m < number
  next_below sound passes number i m device found is = elim (push_cases devices next device number found) [
    | inl before ↦ sound.below number i m device before.1 is
    | inr last ↦
        let here : slice_get (map (number_in devices) members) i ≡ Some m = ap (λ (d : Declared). slice_get d.members i) last.1 ∙ is in
        let lt = names_known devices members passes.known i 0 (slice_get_within (map (number_in devices) members) i m here) in
        omega (arith, lt, get_or_from_slice_get (map (number_in devices) members) i m 0 here, last.0)
  ]

  -- with it the devices stay sound
  pub sound_push : AreSound devices → IsTrue (is_name name) → IsFormed does members reserve rescuer → Passes devices does members reserve → AreSound (devices ++ next ∷ [])
  sound_push sound named formed passes =
      let room = room_left devices does sound.disks passes.room in
      let free = or_parts (list_any (is_among (all_members devices)) (map (number_in devices) members)) (repeats (map (number_in devices) members)) passes.free in
      let size_is : 1 ≤ size (tree_over (trees devices) next) = nonzero (size (tree_over (trees devices) next)) (eqb-false (size (tree_over (trees devices) next)) 0 passes.some) in
      record {
        few = omega (arith, room.0, length_push devices next);
        fit = All-push IsFit devices next sound.fit (next_fit named formed passes);
        below = next_below sound passes;
        once = ap repeats (all_members_push devices next) ∙ repeats_append (all_members devices) (map (number_in devices) members) sound.once free.0 free.1;
        disks = omega (arith, room.1, sum_by_push (λ (d : Declared). sectors_of d.what) devices next);
        some = subst (All (λ tree. 1 ≤ size tree)) (sym (trees_push devices next)) (All-push (λ tree. 1 ≤ size tree) (trees devices) (tree_over (trees devices) next) sound.some size_is);
      }
