-- Devices by their names and numbers.
use Rattle.std.proofs.Common.{◌≡◌, ℕ, ◌<◌, ◌≤◌, List, [], ◌∷◌, length, map, Option, None, Some, unwrap_or, is_none, false, refl, arith}
use Rattle.std.specs.Prelude.{All}
use Rattle.std.specs.List.{list_any}
use Rattle.std.proofs.lemmas.Bool.{or_parts}
use Rattle.std.proofs.lemmas.List.Elements.{All-nil, All-cons}
use Rattle.std.specs.Str.{bytes_eq}
use Rattle.std.proofs.lemmas.List.Quantifiers.{position-Some}
use Rattle.decl_text.specs.declared.item.What.TheVariants as what
use Rattle.decl_text.specs.Known.{Declared, device_of, number_in}

-- a device to read past the end of a list
abbrev pub none : Declared
none = record { name = []; what = what.Linear; members = []; reserve = 0; rescuer = false }

number_at : (devices : List Declared) (name : List ℕ) (o : Option ℕ) (n : ℕ) → device_of devices name ≡ o → length devices ≤ n → 0 < n → unwrap_or o 0 < n
number_at devices name None n is few some = some
number_at devices name (Some i) n is few some =
    omega (arith, (position-Some (λ (device : Declared). bytes_eq device.name name) devices i none is).0)

-- the number of a name is below 32
pub number_in_small : (devices : List Declared) (name : List ℕ) (n : ℕ) → length devices ≤ n → 0 < n → number_in devices name < n
number_in_small devices name n few some = number_at devices name (device_of devices name) n refl few some

number_of_some : (devices : List Declared) (name : List ℕ) (o : Option ℕ) → device_of devices name ≡ o → is_none o ≡ false → unwrap_or o 0 < length devices
number_of_some devices name None is some = absurd (grind arith)
number_of_some devices name (Some i) is some = (position-Some (λ (device : Declared). bytes_eq device.name name) devices i none is).0

-- names that all are those of devices have their numbers
pub names_known :
    (devices : List Declared) (names : List (List ℕ)) → list_any (λ name. is_none (device_of devices name)) names ≡ false
    → All (λ n. n < length devices) (map (number_in devices) names)
names_known devices [] none_lacks = All-nil (λ n. n < length devices)
names_known devices (name ∷ names) none_lacks =
    let parts = or_parts (is_none (device_of devices name)) (list_any (λ n. is_none (device_of devices n)) names) none_lacks in
    All-cons (λ n. n < length devices) (number_in devices name) (map (number_in devices) names)
    (number_of_some devices name (device_of devices name) refl parts.0) (names_known devices names parts.1)
