-- Where no number stands twice among the members of all devices, a device is a member at one place alone.
use Rattle.std.proofs.Common.{◌≡◌, ℕ, zero, suc, ◌+◌, ◌<◌, ◌≤◌, false, List, [], ◌∷◌, length, get_or, take, Some, ap, ◌∙◌, sym, subst, inl, inr, arith, get_or-take, length-take}
use Rattle.std.specs.Prelude.{slice_get}
use Rattle.std.specs.List.{flat_map}
use Rattle.std.proofs.lemmas.Bool.{cases_lt, or_parts, eqb-false}
use lib.Dec.{eqb}
use Rattle.std.proofs.lemmas.List.{take-take}
use Rattle.std.proofs.lemmas.List.Concat.{get_or-flat_map}
use Rattle.std.proofs.lemmas.List.Folds.{length-flat_map-take}
use Rattle.std.proofs.lemmas.Option.{get_or_from_slice_get, slice_get_within}
use Rattle.decl_text.specs.Known.{Declared, all_members}
use Rattle.decl_text.specs.Checks.{is_among, repeats}

not_among : (n : ℕ) (xs : List ℕ) (k d : ℕ) → is_among xs n ≡ false → k < length xs → get_or xs k d ≡ n → ⊥
not_among n [] k d free lt same = omega arith
not_among n (x ∷ xs) zero d free lt same = eqb-false x n (or_parts (eqb x n) (is_among xs n) free).0 same
not_among n (x ∷ xs) (suc k) d free lt same = not_among n xs k d (or_parts (eqb x n) (is_among xs n) free).1 (omega arith) same

-- numbers of which none repeats are different
pub repeats_apart : (xs : List ℕ) (i j d : ℕ) → repeats xs ≡ false → i < j → j < length xs → get_or xs i d ≡ get_or xs j d → ⊥
repeats_apart [] i j d once lt within same = omega arith
repeats_apart (x ∷ xs) i zero d once lt within same = omega arith
repeats_apart (x ∷ xs) zero (suc j) d once lt within same =
    not_among x xs j d (or_parts (is_among xs x) (repeats xs) once).0 (omega arith) (sym same)
repeats_apart (x ∷ xs) (suc i) (suc j) d once lt within same =
    repeats_apart xs i j d (or_parts (is_among xs x) (repeats xs) once).1 (omega arith) (omega arith) same

-- device m is the member at place i of device d
abbrev pub IsMemberOf : List Declared → ℕ → ℕ → ℕ → Type 0
IsMemberOf devices d i m = (device : Declared) × (slice_get devices d ≡ Some device) × (slice_get device.members i ≡ Some m)

-- the members of one device
abbrev members_of : Declared → List ℕ
members_of device = device.members

-- where the member at place i of device d stands among the members of all devices
abbrev place : List Declared → ℕ → ℕ → ℕ
place devices d i = length (flat_map members_of (take d devices)) + i

-- the place of a member is among them
place_within : (devices : List Declared) (d i m : ℕ) → IsMemberOf devices d i m → place devices d i < length (all_members devices)
place_within devices d i m one =
    let some : i < length one.0.members = slice_get_within one.0.members i m one.2 in
    let many = ap (λ (device : Declared). length device.members) (get_or_from_slice_get devices d one.0 one.0 one.1) in
    omega (arith, many, length-flat_map-take members_of devices d one.0 (slice_get_within devices d one.0 one.1))

-- and the member stands there
at_place : (devices : List Declared) (d i m : ℕ) → IsMemberOf devices d i m → get_or (all_members devices) (place devices d i) m ≡ m
at_place devices d i m one =
    let at : get_or devices d one.0 ≡ one.0 = get_or_from_slice_get devices d one.0 one.0 one.1 in
    let some : i < length (members_of (get_or devices d one.0)) = subst (λ (device : Declared). i < length device.members) (sym at) (slice_get_within one.0.members i m one.2) in
    get_or-flat_map members_of devices d i one.0 m (slice_get_within devices d one.0 one.1) some
    ∙ ap (λ (device : Declared). get_or device.members i m) at ∙ get_or_from_slice_get one.0.members i m m one.2

-- the members of one device stand before those of a later one
place_before : (devices : List Declared) (d e i j m : ℕ) → d < e → e < length devices → IsMemberOf devices d i m → place devices d i < place devices e j
place_before devices d e i j m lt within one =
    let some : i < length one.0.members = slice_get_within one.0.members i m one.2 in
    let many = ap (λ (device : Declared). length device.members) (get_or-take e devices d one.0 lt ∙ get_or_from_slice_get devices d one.0 one.0 one.1) in
    let before = ap (λ (xs : List Declared). length (flat_map members_of xs)) (take-take d e devices (omega arith)) in
    omega (arith, many, before, length-flat_map-take members_of (take e devices) d one.0 (omega (arith, length-take e devices)))

-- so no number stands at two places
not_before : (devices : List Declared) (d e i j m : ℕ) → repeats (all_members devices) ≡ false → IsMemberOf devices d i m → IsMemberOf devices e j m → place devices e j ≤ place devices d i
not_before devices d e i j m once one other =
    elim (cases_lt (place devices d i) (place devices e j)) [
      | inl lt ↦
          absurd (repeats_apart (all_members devices) (place devices d i) (place devices e j) m once lt (place_within devices e j m other)
          (at_place devices d i m one ∙ sym (at_place devices e j m other)))
      | inr le ↦ le
    ]

-- and a device is no member of two devices
not_below : (devices : List Declared) (d e i j m : ℕ) → repeats (all_members devices) ≡ false → IsMemberOf devices d i m → IsMemberOf devices e j m → e ≤ d
not_below devices d e i j m once one other =
    elim (cases_lt d e) [
      | inl lt ↦
          absurd (omega (arith, not_before devices d e i j m once one other, place_before devices d e i j m lt (slice_get_within devices e other.0 other.1) one))
      | inr le ↦ le
    ]

-- a device is a member at one place of one device
pub member_once : (devices : List Declared) → repeats (all_members devices) ≡ false → (d e i j m : ℕ) → IsMemberOf devices d i m → IsMemberOf devices e j m → (d ≡ e) × (i ≡ j)
member_once devices once d e i j m one other =
    let same : d ≡ e = omega (arith, not_below devices d e i j m once one other, not_below devices e d j i m once other one) in
    let start = ap (λ n. length (flat_map members_of (take n devices))) same in
    (same, omega (arith, start, not_before devices d e i j m once one other, not_before devices e d j i m once other one))
