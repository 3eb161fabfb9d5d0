-- Looking devices up among those that a stack shows.
use Rattle.std.proofs.Common.{◌≡◌, ℕ, suc, ◌+◌, ◌<◌, ◌≤◌, ◌||◌, ◌==◌, Bool, true, false, not, cond, List, [], ◌∷◌, ◌++◌, length, get_or, take, drop, map, Some, None, inl, inr, refl, ap, sym, ◌∙◌, arith, le-ltb, lt-ltb, ne_eqb, le_refl, lt_irrefl, length-take-le, get_or-take, take-append-drop}
use Rattle.std.specs.Prelude.{slice_get}
use Rattle.std.proofs.lemmas.Bool.{cases_eq, false_from_ne_true}
use Rattle.std.proofs.lemmas.Option.{same_Some, slice_get-get_or, slice_get_within}
use Rattle.std.proofs.lemmas.List.{length-map}
use Rattle.std.specs.Str.{bytes_eq}
use Rattle.std.specs.List.{list_any, position, position_or_len, flat_map}
use Rattle.std.proofs.lemmas.List.Folds.{list_any-append, list_any_none}
use Rattle.std.proofs.lemmas.List.Sums.{position_or_len_is}
use Rattle.std.proofs.lemmas.Slice.Eq.{bytes_eq-Decides}
use Rattle.stack_base.proofs.ListLemmas.{list_any_same}
use Rattle.stack_base.specs.Stack.{IsStack}
use Rattle.decl_text.specs.Fit.{IsFitStack}
use Rattle.stack_base.specs.declared.ids.DevId.{DevId}
use Rattle.stack_base.specs.declared.stack.Device.{Device}
use Rattle.stack_base.specs.declared.stack.Stack.{Stack}
use Rattle.decl_text.specs.Accepting.{declared_form, shown_devices}
use Rattle.decl_text.specs.Checks.{is_among}
use Rattle.decl_text.specs.Known.{Declared, all_members, device_of}

position_or_len-map : {X Y : Type 0} (p : Y → Bool) (f : X → Y) (xs : List X) → position_or_len p (map f xs) ≡ position_or_len (λ x. p (f x)) xs
position_or_len-map p f [] = refl
position_or_len-map p f (x ∷ xs) = ap (λ n. cond (not (p (f x))) (1 + n) 0) (position_or_len-map p f xs)

pub position-map : {X Y : Type 0} (p : Y → Bool) (f : X → Y) (xs : List X) → position p (map f xs) ≡ position (λ x. p (f x)) xs
position-map p f xs = rw (position_or_len-map p f xs, length-map xs f)

-- a device of a stack, as it shows
pub shown_place : (stack : Stack) (name : List ℕ)
    → position (λ (device : Device). bytes_eq device.name.bytes name) stack.devices.items ≡ device_of (shown_devices stack) name
shown_place stack name = sym (position-map (λ (device : Declared). bytes_eq device.name name) declared_form stack.devices.items)

pub list_any-map : {X Y : Type 0} (p : Y → Bool) (f : X → Y) (xs : List X) → list_any p (map f xs) ≡ list_any (λ x. p (f x)) xs
list_any-map p f [] = refl
list_any-map p f (x ∷ xs) = ap (λ b. p (f x) || b) (list_any-map p f xs)

-- some element of the lists
list_any-flat_map : {X Y : Type 0} (p : Y → Bool) (f : X → List Y) (xs : List X) → list_any p (flat_map f xs) ≡ list_any (λ x. list_any p (f x)) xs
list_any-flat_map p f [] = refl
list_any-flat_map p f (x ∷ xs) = list_any-append p (f x) (flat_map f xs) ∙ ap (λ b. list_any p (f x) || b) (list_any-flat_map p f xs)

flat_map-shown : (devices : List Device) → flat_map (λ device. device.members) (map declared_form devices) ≡ flat_map (λ (device : Device). map (λ (m : DevId). m.0) device.members.items) devices
flat_map-shown [] = refl
flat_map-shown (device ∷ devices) = ap (λ more. map (λ (m : DevId). m.0) device.members.items ++ more) (flat_map-shown devices)

pub among_members : (stack : Stack) (number : ℕ)
    → list_any (λ (device : Device). list_any (λ (m : DevId). m.0 == number) device.members.items) stack.devices.items ≡ is_among (all_members (shown_devices stack)) number
among_members stack number =
    list_any_same
    (λ (device : Device). list_any (λ (m : DevId). m.0 == number) device.members.items)
    (λ (device : Device). list_any (λ m. m == number) (map (λ (m : DevId). m.0) device.members.items))
    stack.devices.items
    (λ device. sym (list_any-map (λ m. m == number) (λ (m : DevId). m.0) device.members.items))
    ∙ sym (list_any-flat_map (λ m. m == number) (λ (device : Device). map (λ (m : DevId). m.0) device.members.items) stack.devices.items)
    ∙ ap (list_any (λ m. m == number)) (sym (flat_map-shown stack.devices.items))

-- the place of the only one that passes
only_place : {X : Type 0} (p : X → Bool) (xs : List X) (i : ℕ) (x : X) → slice_get xs i ≡ Some x → p x ≡ true
    → ((k : ℕ) (y : X) → slice_get xs k ≡ Some y → p y ≡ true → k ≡ i) → position p xs ≡ Some i
only_place p xs i x found passes only =
    let lt = slice_get_within xs i x found in
    let here : get_or xs i x ≡ x = same_Some (get_or xs i x) x (sym (slice_get-get_or xs i x lt) ∙ found) in
    let first : position_or_len p xs ≡ i =
    position_or_len_is p xs i x (omega (arith, lt))
    (λ k before.
    false_from_ne_true (p (get_or xs k x)) (λ also. lt_irrefl i (omega (arith, before, only k (get_or xs k x) (slice_get-get_or xs k x (omega (arith, before, lt))) also))))
    (λ _. ap p here ∙ passes) in
    rw (first, lt-ltb i (length xs) lt) refl

-- and of none
no_place : {X : Type 0} (p : X → Bool) (xs : List X) → ((k : ℕ) (y : X) → slice_get xs k ≡ Some y → p y ≡ false) → position_or_len p xs ≡ length xs
no_place p [] none = refl
no_place p (x ∷ xs) none =
    let rest = no_place p xs (λ k y found. none (suc k) y found) in
    rw (none 0 x refl) (omega (arith, rest))

-- the one device with a name
pub named_place : (stack : Stack) (name : List ℕ) (i : ℕ) (device : Device) → IsFitStack stack → slice_get stack.devices.items i ≡ Some device → bytes_eq device.name.bytes name ≡ true
    → position (λ (device : Device). bytes_eq device.name.bytes name) stack.devices.items ≡ Some i
named_place stack name i device fit found named =
    only_place (λ (device : Device). bytes_eq device.name.bytes name) stack.devices.items i device found named
    (λ k other also same.
    fit.names k i other device also found
    ((bytes_eq-Decides other.name.bytes name).0 same ∙ sym ((bytes_eq-Decides device.name.bytes name).0 named)))

pub unnamed_place : (stack : Stack) (name : List ℕ) → ((k : ℕ) (device : Device) → slice_get stack.devices.items k ≡ Some device → bytes_eq device.name.bytes name ≡ false)
    → position (λ (device : Device). bytes_eq device.name.bytes name) stack.devices.items ≡ None
unnamed_place stack name none =
    rw (no_place (λ (device : Device). bytes_eq device.name.bytes name) stack.devices.items none, le-ltb (length stack.devices.items) (length stack.devices.items) (le_refl (length stack.devices.items))) refl

-- the devices from a place on have other names
abbrev pub AreOthers : List ℕ → ℕ → List Device → Type 0
AreOthers name place devices = (k : ℕ) (device : Device) → place ≤ k → slice_get devices k ≡ Some device → bytes_eq device.name.bytes name ≡ false

-- one device more has another name
pub unnamed_more : (devices : List Device) (name : List ℕ) (place : ℕ) (device : Device) → slice_get devices place ≡ Some device → bytes_eq device.name.bytes name ≡ false
    → AreOthers name (place + 1) devices → AreOthers name place devices
unnamed_more devices name place device found other behind = λ k next from also.
    elim (cases_eq k place) [
      | inl here ↦ ap (λ (d : Device). bytes_eq d.name.bytes name) (same_Some next device (sym also ∙ ap (slice_get devices) here ∙ found)) ∙ other
      | inr away ↦ behind k next (omega (arith, from, away)) also
    ]

-- the members of a device were declared before it
abbrev has_member : ℕ → Device → Bool
has_member number device = list_any (λ (m : DevId). m.0 == number) device.members.items

not_above : (stack : Stack) → IsStack stack → (number k : ℕ) (device : Device) → slice_get stack.devices.items k ≡ Some device → k ≤ number → has_member number device ≡ false
not_above stack good number k device found le =
    list_any_none (λ (m : DevId). m.0 == number) device.members.items
    (λ i m lt. ne_eqb (get_or device.members.items i m).0 number
    (λ same. lt_irrefl number (omega (arith, le, same, (good.each k device found).below i (get_or device.members.items i m) (slice_get-get_or device.members.items i m lt)))))

-- so those up to a device do not have it
pub members_behind : (stack : Stack) → IsStack stack → (number : ℕ) → number < length stack.devices.items
    → list_any (has_member number) (drop (number + 1) stack.devices.items) ≡ list_any (has_member number) stack.devices.items
members_behind stack good number known =
    let devices = stack.devices.items in
    let front : list_any (has_member number) (take (number + 1) devices) ≡ false =
    list_any_none (has_member number) (take (number + 1) devices)
    (λ k d lt.
    let small : k < number + 1 = omega (arith, lt, length-take-le (number + 1) devices (omega (arith, known))) in
    ap (has_member number) (get_or-take (number + 1) devices k d small)
    ∙ not_above stack good number k (get_or devices k d) (slice_get-get_or devices k d (omega (arith, small, known))) (omega (arith, small))) in
    sym (ap (list_any (has_member number)) (sym (take-append-drop (number + 1) devices))
    ∙ list_any-append (has_member number) (take (number + 1) devices) (drop (number + 1) devices)
    ∙ ap (λ b. b || list_any (has_member number) (drop (number + 1) devices)) front)
