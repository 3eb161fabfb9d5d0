-- Devices, pools and tasks by their names.
use Rattle.std.proofs.Common.{◌≡◌, ◌<◌, ℕ, Bool, true, false, List, [], ◌∷◌, length, get_or, Option, Some, None, refl, ap, sym, ◌∙◌, subst, arith}
use Rattle.std.specs.Prelude.{slice_get}
use Rattle.std.specs.List.{position, position_or_len}
use Rattle.std.specs.Option.{option_and_then, option_map, option_map_or}
use Rattle.std.specs.Str.{bytes_eq}
use Rattle.std.proofs.lemmas.Option.{cond_some, slice_get_within, slice_get-get_or, get_or_from_slice_get}
use Rattle.std.proofs.lemmas.List.Quantifiers.{position-Some}
use Rattle.std.proofs.lemmas.List.Sums.{position_or_len_is}
use Rattle.std.proofs.lemmas.Bool.{false_from_ne_true}
use Rattle.std.proofs.lemmas.Bool.Decides.{nat_tests}
use Rattle.std.proofs.lemmas.Slice.Eq.{bytes_eq-Decides}
use Rattle.stack_base.specs.declared.ids.DevId.{DevId}
use Rattle.stack_base.specs.declared.stack.Kind.{Kind}
use Rattle.stack_base.specs.declared.stack.Device.{Device}
use Rattle.stack_base.specs.declared.stack.Stack.{Stack}
use Rattle.stack_base.specs.Names.{name_of_device}
use Rattle.trace_text.specs.Names.{DevicesAreNamed, HasDevice, has_device, is_any, is_disk_kind}
use Rattle.trace_text.specs.Reading.{device_of_word, if_suits, disk_of}
use Rattle.trace_text.proofs.Readers.{IsWord}

-- the device of a number that is there
there_at : (o : Option Device) (suits : Kind → Bool) → option_map_or (λ (device : Device). suits device.kind) o false ≡ true
    → (device : Device) × (o ≡ Some device) × (suits device.kind ≡ true)
there_at None suits has = absurd (cc)
there_at (Some device) suits has = (device, refl, has)

pub there : (suits : Kind → Bool) (stack : Stack) (dev : DevId) → HasDevice suits stack dev
    → (device : Device) × (slice_get stack.devices.items dev.0 ≡ Some device) × (suits device.kind ≡ true)
there suits stack dev has = there_at (slice_get stack.devices.items dev.0) suits has

-- where a device stands, its name is
pub name_at : (stack : Stack) (dev : DevId) (device : Device) → slice_get stack.devices.items dev.0 ≡ Some device → name_of_device stack dev.0 ≡ device.name.bytes
name_at stack dev device is = ap (λ o. option_map_or (λ (device : Device). device.name.bytes) o []) is

device_again : (stack : Stack) (dev : DevId) → DevicesAreNamed stack → HasDevice is_any stack dev → device_of_word stack (name_of_device stack dev.0) ≡ Some dev
unfolding device_of_word
device_again stack dev named has =
    let at = there is_any stack dev has in
    let name = name_at stack dev at.0 at.1 in
    let within : dev.0 < length stack.devices.items = slice_get_within stack.devices.items dev.0 at.0 at.1 in
    let found : position_or_len (λ (device : Device). bytes_eq device.name.bytes (name_of_device stack dev.0)) stack.devices.items ≡ dev.0 =
    position_or_len_is (λ (device : Device). bytes_eq device.name.bytes (name_of_device stack dev.0)) stack.devices.items dev.0 at.0 (omega arith)
    (λ k before. false_from_ne_true _ (λ is.
    let same = (bytes_eq-Decides (get_or stack.devices.items k at.0).name.bytes (name_of_device stack dev.0)).0 is in
    let one = named.apart k dev.0 (get_or stack.devices.items k at.0) at.0 (slice_get-get_or stack.devices.items k at.0 (omega arith)) at.1 (same ∙ name) in
    omega arith))
    (λ _. (bytes_eq-Decides _ (name_of_device stack dev.0)).1 (ap (λ (device : Device). device.name.bytes) (get_or_from_slice_get stack.devices.items dev.0 at.0 at.0 at.1) ∙ sym name)) in
    rw found (grind (arith, nat_tests))

pub suits_some : (suits : Kind → Bool) (stack : Stack) (o : Option DevId) (dev : DevId) → option_and_then (if_suits suits stack) o ≡ Some dev
    → (o ≡ Some dev) × HasDevice suits stack dev
suits_some suits stack None dev e = absurd (cc)
suits_some suits stack (Some one) dev e =
    let parts = cond_some (has_device suits stack one.0) one dev e in
    (ap Some parts.1, subst (HasDevice suits stack) parts.1 parts.0)

pub mapped_some : {A B : Type 0} (make : A → B) (o : Option A) (b : B) → option_map make o ≡ Some b → (a : A) × (o ≡ Some a) × (make a ≡ b)
mapped_some make None b e = absurd (cc)
mapped_some make (Some a) b e = (a, refl, cc)

placed : (place : ℕ) (dev : DevId) → ◌≡◌ {A = DevId} (record { 0 = place }) dev → place ≡ dev.0
placed place dev is = ap (λ (one : DevId). one.0) is

-- where a device is there, it has its place
there_is : (stack : Stack) (dev : DevId) (device : Device) → slice_get stack.devices.items dev.0 ≡ Some device → HasDevice is_any stack dev
there_is stack dev device at = ap (λ o. option_map_or (λ (device : Device). is_any device.kind) o false) at

device_at_place : (stack : Stack) (name : List ℕ) (place : ℕ) (dev : DevId) → Device
    → position (λ (device : Device). bytes_eq device.name.bytes name) stack.devices.items ≡ Some place → place ≡ dev.0
    → HasDevice is_any stack dev × (name ≡ name_of_device stack dev.0)
device_at_place stack name place dev device found is =
    let some = position-Some (λ (device : Device). bytes_eq device.name.bytes name) stack.devices.items place device found in
    let at = subst (λ i. slice_get stack.devices.items i ≡ Some (get_or stack.devices.items place device)) is (slice_get-get_or stack.devices.items place device some.0) in
    let same = (bytes_eq-Decides (get_or stack.devices.items place device).name.bytes name).0 some.1 in
    (there_is stack dev (get_or stack.devices.items place device) at, sym same ∙ sym (name_at stack dev (get_or stack.devices.items place device) at))

device_in : (stack : Stack) (devices : List Device) (name : List ℕ) (place : ℕ) (dev : DevId) → stack.devices.items ≡ devices
    → position (λ (device : Device). bytes_eq device.name.bytes name) stack.devices.items ≡ Some place → place ≡ dev.0
    → HasDevice is_any stack dev × (name ≡ name_of_device stack dev.0)
device_in stack [] name place dev are found is = absurd (let none = rw are at found in (cc))
device_in stack (device ∷ devices) name place dev are found is = device_at_place stack name place dev device found is

pub device_takes : (stack : Stack) (name : List ℕ) (dev : DevId) → device_of_word stack name ≡ Some dev → HasDevice is_any stack dev × (name ≡ name_of_device stack dev.0)
unfolding device_of_word
device_takes stack name dev e =
    let m = mapped_some (λ (place : ℕ). record { 0 = place }) (position (λ (device : Device). bytes_eq device.name.bytes name) stack.devices.items) dev e in
    device_in stack stack.devices.items name m.0 dev refl m.1 (placed m.0 dev m.2)

pub device_is : (stack : Stack) → DevicesAreNamed stack → IsWord (λ (dev : DevId). name_of_device stack dev.0) (HasDevice is_any stack) (device_of_word stack)
device_is stack named = record {
  again = λ dev has. device_again stack dev named has;
  takes = λ name dev e. device_takes stack name dev e;
}

-- a device of some kind is a device
pub any_of : (suits : Kind → Bool) (stack : Stack) (dev : DevId) → HasDevice suits stack dev → HasDevice is_any stack dev
any_of suits stack dev has = let at = there suits stack dev has in there_is stack dev at.0 at.1

pub suited_again : (suits : Kind → Bool) (stack : Stack) (dev : DevId) → DevicesAreNamed stack → HasDevice suits stack dev
    → option_and_then (if_suits suits stack) (device_of_word stack (name_of_device stack dev.0)) ≡ Some dev
suited_again suits stack dev named has = rw (device_again stack dev named (any_of suits stack dev has), has) refl

pub disk_is : (stack : Stack) → DevicesAreNamed stack → IsWord (λ (dev : DevId). name_of_device stack dev.0) (HasDevice is_disk_kind stack) (disk_of stack)
unfolding disk_of
disk_is stack named = record {
  again = λ dev has. suited_again is_disk_kind stack dev named has;
  takes = λ name dev e.
      let some = suits_some is_disk_kind stack (device_of_word stack name) dev e in
      (some.1, (device_takes stack name dev some.0).1);
}
