-- Lines before all writes that are not refused declare names, reserves and bad ranges as they have to be.
use Rattle.std.proofs.Common.{◌≡◌, ℕ, zero, suc, ◌+◌, ◌<◌, ◌≤◌, ◌==◌, ◌||◌, Bool, true, false, List, [], ◌∷◌, ◌++◌, length, get_or, fold, Option, None, Some, refl, sym, ap, ◌∙◌, subst, inl, inr, arith}
use Rattle.std.specs.Prelude.{All, Contains, filter, slice_get, is_some, nat_lt}
use Rattle.std.specs.List.{list_any}
use Rattle.std.specs.Option.{option_map}
use Rattle.std.specs.Str.{bytes_eq}
use Rattle.std.proofs.lemmas.Bool.{ltb-false, eqb-true, eqb-false, not-false, or_parts, both_ways}
use Rattle.std.proofs.lemmas.Slice.Eq.{bytes_eq-Decides}
use Rattle.std.proofs.lemmas.Option.{slice_get-map, same_Some}
use Rattle.std.proofs.lemmas.List.{get_or_append_left, get_or_push, length_push}
use Rattle.std.proofs.lemmas.List.Elements.{All-contains, All-contains_itself, All-filter, All-map, All-weaker, Contains-push_cases, filter_passes}
use Rattle.stack_base.specs.declared.ids.Bad.{Bad}
use Rattle.stack_base.specs.declared.stack.Device.{Device}
use Rattle.stack_base.specs.declared.stack.Stack.{Stack}
use Rattle.stack_base.specs.Tree.{Tree, Leaf, size}
use native.Mathlib.Nat.{ℕ_set}
use native.Mathlib.Bridge.{le_prop}
use Rattle.std.proofs.Math.Bool.{Bool-set}
use Rattle.std.proofs.Math.Logic.{∥∥₁_elim}
use Rattle.decl_text.specs.Text.{words}
use Rattle.decl_text.specs.Items.{said}
use Rattle.decl_text.specs.Read.{IsFormed}
use Rattle.decl_text.specs.Known.{Declarations, Declared, BadOf, nothing_declared, after_line, declared, device_of, device_tree, declares_disk, number_in, sectors_of, tree_of, tree_over}
use Rattle.decl_text.specs.Checks.{bad_shape, is_disk_device, is_one_too_many, name_taken, past_end, reserve_zero, reserves}
use Rattle.decl_text.specs.Accepting.{IsDeclaredSo, MeansStack, loose_checks, reserves_or_two, declared_form, what_of_kind}
use Rattle.decl_text.specs.Fit.{HasReserves, IsFitBad, IsFitDevice, IsFitStack, IsReserve}
use Rattle.decl_text.specs.Refusals.{check, first_found, known_after, line_reason, refusal, said_reason}
use Rattle.decl_text.specs.declared.accepted.Accepted.{Accepted}
use Rattle.decl_text.specs.declared.item.Item.{Item}
use Rattle.decl_text.specs.declared.item.Item.TheVariants as item
use Rattle.decl_text.specs.declared.item.What.{What}
use Rattle.decl_text.specs.declared.item.What.TheVariants as what
use Rattle.decl_text.specs.declared.reason.Reason.TheVariants as reason
use Rattle.decl_text.proofs.Declaring.{Declares}
use Rattle.decl_text.proofs.FewEntries.{not_large}
use Rattle.decl_text.proofs.SplitLemmas.{none_found}
use Rattle.decl_text.specs.Reading.{NonePass, is_work_line}
use Rattle.fail_script.specs.Script.{Answers}
use Rattle.stack_base.specs.declared.ids.PoolId.{PoolId}
use Rattle.stack_base.specs.Fault.{bads_of_kind}
use Rattle.stack_base.proofs.ListLemmas.{any_not}
use Rattle.decl_text.proofs.Fronts.{IsFront, front_declares, line_front, nothing_front}
use Rattle.decl_text.proofs.Unrefused.{finds_nothing, kept_in_front, line_passes}

-- the sectors of a disk that was declared, and none of another device
abbrev pub declared_sectors : Option Declared → ℕ
declared_sectors None = 0
declared_sectors (Some device) = sectors_of device.what

abbrev pub sectors_at : List Declared → ℕ → ℕ
sectors_at devices number = declared_sectors (slice_get devices number)

-- no two have one name
abbrev AreNamedApart : List Declared → Type 0
AreNamedApart devices =
    (i j : ℕ) (one other : Declared) → slice_get devices i ≡ Some one → slice_get devices j ≡ Some other → one.name ≡ other.name → i ≡ j

record IsFit (known : Declarations) : Type 0 where
  front : IsFront known
  fs_bios : IsReserve (reserves_or_two known.fs).bios
  fs_vecs : IsReserve (reserves_or_two known.fs).vecs
  devices : (number : ℕ) (device : Declared) → slice_get known.devices number ≡ Some device → IsFitDevice device
  names : AreNamedApart known.devices
  bad : (of : BadOf) → Contains known.bad of → IsFitBad (sectors_at known.devices of.disk) of.bad

-- the trees behind one more device
abbrev pub one_more : List Tree → Declared → List Tree
one_more below device = below ++ tree_over below device ∷ []

-- a disk has as many sectors as its line says
disk_size : (number : ℕ) (does : What) (members : List Tree) → declares_disk does ≡ true → size (device_tree number does members) ≡ sectors_of does
disk_size number (what.Disk sectors) members is = refl
disk_size number _ members is = cc

-- the first trees stay
pub first_stay : (below : List Tree) (devices : List Declared) (place : ℕ) (other : Tree) → place < length below
    → get_or (fold one_more below devices) place other ≡ get_or below place other
first_stay below [] place other lt = refl
first_stay below (device ∷ devices) place other lt =
    first_stay (one_more below device) devices place other (omega (arith, length_push below (tree_over below device)))
    ∙ get_or_append_left below (tree_over below device ∷ []) other place lt

size_at : (below : List Tree) (devices : List Declared) (place number : ℕ) (other : Tree) → is_disk_device (slice_get devices place) ≡ true
    → number ≡ length below + place → size (get_or (fold one_more below devices) number other) ≡ sectors_at devices place
size_at below [] place number other is at = cc
size_at below (device ∷ devices) zero number other is at =
    ap size (
    first_stay (one_more below device) devices number other (omega (arith, length_push below (tree_over below device)))
    ∙ get_or_push below (tree_over below device) other number (omega arith)
    )
    ∙ disk_size (length below) device.what _ is
size_at below (device ∷ devices) (suc place) number other is at =
    size_at (one_more below device) devices place number other is (omega (arith, length_push below (tree_over below device)))

disk_sectors : (devices : List Declared) (number : ℕ) → is_disk_device (slice_get devices number) ≡ true → size (tree_of devices number) ≡ sectors_at devices number
disk_sectors devices number is = size_at [] devices number number (Leaf number 0) is (omega arith)

-- and keeps them behind one more device
sectors_stay : (devices : List Declared) (device : Declared) (number : ℕ) → sectors_at devices number ≤ sectors_at (devices ++ device ∷ []) number
sectors_stay [] device number = omega arith
sectors_stay (first ∷ devices) device zero = omega arith
sectors_stay (first ∷ devices) device (suc number) = sectors_stay devices device number

bad_stays : (devices : List Declared) (device : Declared) (of : BadOf) → IsFitBad (sectors_at devices of.disk) of.bad → IsFitBad (sectors_at (devices ++ device ∷ []) of.disk) of.bad
bad_stays devices device of is = record {
  some = is.some;
  within = omega (arith, is.within, sectors_stay devices device of.disk);
  kind = is.kind;
}

-- what holds of all elements holds of one more
one_more_holds : {X : Type 0} (Holds : X → Type 0) (xs : List X) (x : X) → ((y : X) → Contains xs y → Holds y) → Holds x → (y : X) → Contains (xs ++ x ∷ []) y → Holds y
one_more_holds Holds xs x all here y there = elim (Contains-push_cases xs x y there) [
  | inl before ↦ all y before
  | inr is ↦ subst Holds is here
]

-- the element of a list and one more at a place
pub data Pushed {X : Type 0} (xs : List X) (y x : X) (i : ℕ) : Type 0 where
  before : slice_get xs i ≡ Some x → i < length xs → Pushed xs y x i
  last : i ≡ length xs → y ≡ x → Pushed xs y x i

later : {X : Type 0} (z : X) (xs : List X) (y x : X) (i : ℕ) → Pushed xs y x i → Pushed (z ∷ xs) y x (suc i)
later z xs y x i (before found lt) = before found (omega (arith, lt))
later z xs y x i (last at is) = last (omega (arith, at)) is

pub pushed : {X : Type 0} (xs : List X) (y x : X) (i : ℕ) → slice_get (xs ++ y ∷ []) i ≡ Some x → Pushed xs y x i
pushed [] y x zero found = last refl (same_Some y x found)
pushed [] y x (suc i) found = absurd (grind arith)
pushed (z ∷ xs) y x zero found = before found (omega arith)
pushed (z ∷ xs) y x (suc i) found = later z xs y x i (pushed xs y x i found)

fit_more : (devices : List Declared) (device : Declared) (number : ℕ) (next : Declared) → ((n : ℕ) (d : Declared) → slice_get devices n ≡ Some d → IsFitDevice d) → IsFitDevice device
    → Pushed devices device next number → IsFitDevice next
fit_more devices device number next all one (before found lt) = all number next found
fit_more devices device number next all one (last at is) = subst IsFitDevice is one

-- a name that no device has
none_is : {X : Type 0} (o : Option X) → is_some o ≡ false → o ≡ None
none_is None never = refl
none_is (Some x) never = cc

named_by_none : (devices : List Declared) (name : List ℕ) (i : ℕ) (device : Declared) → is_some (device_of devices name) ≡ false → slice_get devices i ≡ Some device → device.name ≡ name → ⊥
named_by_none devices name i device free found same =
    let none = none_found (λ (d : Declared). bytes_eq d.name name) devices (none_is (device_of devices name) free) in
    let other : bytes_eq device.name name ≡ false = any_not (λ (d : Declared). bytes_eq d.name name) devices i device none found in
    both_ways (bytes_eq device.name name) other ((bytes_eq-Decides device.name name).1 same)

apart_by : (devices : List Declared) (device : Declared) (i j : ℕ) (one other : Declared) → AreNamedApart devices → is_some (device_of devices device.name) ≡ false
    → Pushed devices device one i → Pushed devices device other j → one.name ≡ other.name → i ≡ j
apart_by devices device i j one other apart free (before found lt) (before also within) same = apart i j one other found also same
apart_by devices device i j one other apart free (before found lt) (last at is) same =
    absurd (named_by_none devices device.name i one free found (same ∙ ap (λ (d : Declared). d.name) (sym is)))
apart_by devices device i j one other apart free (last at is) (before also within) same =
    absurd (named_by_none devices device.name j other free also (sym same ∙ ap (λ (d : Declared). d.name) (sym is)))
apart_by devices device i j one other apart free (last at is) (last also here) same = at ∙ sym also

apart_more : (devices : List Declared) (device : Declared) → AreNamedApart devices → is_some (device_of devices device.name) ≡ false → AreNamedApart (devices ++ device ∷ [])
apart_more devices device apart free = λ i j one other found also same.
    apart_by devices device i j one other apart free (pushed devices device one i found) (pushed devices device other j also) same

-- the checks by their places
is_new : (known : Declarations) (said : Item) → first_found loose_checks known said ≡ None → name_taken known said ≡ false
is_new known said none = finds_nothing loose_checks known said 0 (check reason.NameTaken name_taken) none refl

not_odd : (known : Declarations) (said : Item) → first_found loose_checks known said ≡ None → bad_shape known said ≡ false
not_odd known said none = finds_nothing loose_checks known said 3 (check reason.BadShape bad_shape) none refl

no_zero : (known : Declarations) (said : Item) → first_found loose_checks known said ≡ None → reserve_zero known said ≡ false
no_zero known said none = finds_nothing loose_checks known said 6 (check reason.ReserveZero reserve_zero) none refl

not_past : (known : Declarations) (said : Item) → first_found loose_checks known said ≡ None → past_end known said ≡ false
not_past known said none = finds_nothing loose_checks known said 8 (check reason.PastEnd past_end) none refl

reserve_by : (reserve : ℕ) → nat_lt 1024 reserve ≡ false → (reserve == 0) ≡ false → IsReserve reserve
reserve_by reserve small some = let never = eqb-false reserve 0 some in (omega arith, ltb-false 1024 reserve small)

-- the reserves of a device, where they are not too large and none is 0
one_reserve : (reserve : ℕ) → (nat_lt 1024 reserve || false) ≡ false → (reserve == 0 || false) ≡ false → IsReserve reserve
one_reserve reserve small some = reserve_by reserve (or_parts _ _ small).0 (or_parts _ _ some).0

two_reserves : (first second : ℕ) → (nat_lt 1024 first || (nat_lt 1024 second || false)) ≡ false → (first == 0 || (second == 0 || false)) ≡ false → IsReserve first × IsReserve second
two_reserves first second small some =
    let few = or_parts _ _ small in
    let more = or_parts _ _ some in
    (reserve_by first few.0 more.0, one_reserve second few.1 more.1)

has_reserves : (name : List ℕ) (does : What) (members : List (List ℕ)) (reserve : ℕ) (rescuer : Bool) → IsFormed does members reserve rescuer
    → list_any (nat_lt 1024) (reserves (item.Device name does members reserve rescuer)) ≡ false → list_any (λ r. r == 0) (reserves (item.Device name does members reserve rescuer)) ≡ false
    → HasReserves does reserve rescuer
has_reserves name (what.Disk sectors) members reserve rescuer formed small some = (formed.1, formed.2)
has_reserves name what.Linear members reserve rescuer formed small some = one_reserve reserve small some
has_reserves name (what.Stripe chunk) members reserve rescuer formed small some = one_reserve reserve small some
has_reserves name (what.Zoned chunk) members reserve rescuer formed small some = one_reserve reserve small some
has_reserves name (what.Limit longest chunk) members reserve rescuer formed small some = one_reserve reserve small some
has_reserves name (what.Mirror records) members reserve rescuer formed small some = two_reserves records reserve small some

-- a line that passes all checks keeps this
after_fit : (known : Declarations) (o : Option Item) → Declares o → said_reason loose_checks known o ≡ None → IsFit known → IsFit (after_line known o)
after_fit known None is none fit = fit
after_fit known (Some (item.Device name does members reserve rescuer)) is none fit =
    let said = item.Device name does members reserve rescuer in
    let device = declared known.devices name does members reserve rescuer in
    record {
      front = line_front known (Some said) is fit.front;
      fs_bios = fit.fs_bios;
      fs_vecs = fit.fs_vecs;
      devices = λ number next found.
          fit_more known.devices device number next fit.devices
          (record { named = is.0; reserves = has_reserves name does members reserve rescuer is.1 (or_parts (is_one_too_many known said) _ (not_large known said none)).1 (no_zero known said none) })
          (pushed known.devices device next number found);
      names = apart_more known.devices device fit.names (is_new known said none);
      bad = λ of there. bad_stays known.devices device of (fit.bad of there);
    }
after_fit known (Some (item.Bad disk range kind)) is none fit =
    let said = item.Bad disk range kind in
    let place = number_in known.devices disk in
    let found : is_disk_device (slice_get known.devices place) ≡ true = not-false _ (not_odd known said none) in
    let ends : range.start + range.len ≤ size (tree_of known.devices place) = ltb-false _ _ (not_past known said none) in
    record {
      front = line_front known (Some said) is fit.front;
      fs_bios = fit.fs_bios;
      fs_vecs = fit.fs_vecs;
      devices = fit.devices;
      names = fit.names;
      bad = one_more_holds (λ (of : BadOf). IsFitBad (sectors_at known.devices of.disk) of.bad) known.bad _ fit.bad (record {
        some = is.0;
        within = omega (arith, ends, disk_sectors known.devices place found);
        kind = is.1;
      });
    }
after_fit known (Some (item.Fs bios vecs)) is none fit =
    let said = item.Fs bios vecs in
    let both = two_reserves bios vecs (or_parts (is_one_too_many known said) _ (not_large known said none)).1 (no_zero known said none) in
    record {
      front = line_front known (Some said) is fit.front;
      fs_bios = both.0;
      fs_vecs = both.1;
      devices = fit.devices;
      names = fit.names;
      bad = fit.bad;
    }
after_fit known (Some (item.Script pool script)) is none fit = record {
  front = line_front known (Some (item.Script pool script)) is fit.front;
  fs_bios = fit.fs_bios;
  fs_vecs = fit.fs_vecs;
  devices = fit.devices;
  names = fit.names;
  bad = fit.bad;
}
after_fit known (Some item.NoMemory) is none fit = record {
  front = line_front known (Some item.NoMemory) is fit.front;
  fs_bios = fit.fs_bios;
  fs_vecs = fit.fs_vecs;
  devices = fit.devices;
  names = fit.names;
  bad = fit.bad;
}
after_fit known (Some (item.Write task dev range tag)) is none fit = absurd is
after_fit known (Some item.Sync) is none fit = absurd is
after_fit known (Some (item.Resize pool min)) is none fit = absurd is

line_fit : (known : Declarations) (line : List ℕ) → is_work_line line ≡ false → line_reason loose_checks known line ≡ None → IsFit known → IsFit (after_line known (said (words line)))
line_fit known line other none fit =
    let parts = line_passes loose_checks known line none in
    after_fit known (said (words line)) (front_declares known line fit.front other parts.0) parts.1 fit

none_in : {X : Type 0} (x : X) → Contains [] x → ⊥
none_in x there = omega (arith, there.1)

nothing_fit : IsFit nothing_declared
nothing_fit = record {
  front = nothing_front;
  fs_bios = (omega arith, omega arith);
  fs_vecs = (omega arith, omega arith);
  devices = λ number device found. absurd (grind arith);
  names = λ i j one other found also same. absurd (grind arith);
  bad = λ of there. absurd (none_in of there);
}

lines_fit : (all : List (List ℕ)) → NonePass is_work_line all → refusal loose_checks nothing_declared 1 all ≡ None → IsFit (known_after nothing_declared all)
lines_fit all front none = kept_in_front loose_checks IsFit line_fit nothing_declared 1 all front none nothing_fit

-- so it is with the stack that they mean
module _ (known : Declarations) (fit : IsFit known) (stack : Stack) (scripts : List (PoolId × Answers)) (means : MeansStack known stack scripts) where
  shown_at : (number : ℕ) (device : Device) → slice_get stack.devices.items number ≡ Some device → slice_get known.devices number ≡ Some (declared_form device)
  shown_at number device found =
      ap (λ (ds : List Declared). slice_get ds number) (sym means.devices) ∙ slice_get-map declared_form stack.devices.items number ∙ ap (option_map declared_form) found

  bads_fit : (number : ℕ) (device : Device) (bad : Bad) → slice_get stack.devices.items number ≡ Some device
      → Contains (bads_of_kind device.kind) bad → IsFitBad (sectors_of (what_of_kind device.kind)) bad
  bads_fit number device bad found there =
      let test : BadOf → Bool = λ of. of.disk == number in
      let sectors = sectors_of (what_of_kind device.kind) in
      let size_is : sectors_at known.devices number ≡ sectors = ap declared_sectors (shown_at number device found) in
      let all : All (λ (of : BadOf). IsFitBad (sectors_at known.devices of.disk) of.bad) known.bad =
      All-weaker (Contains known.bad) (λ (of : BadOf). IsFitBad (sectors_at known.devices of.disk) of.bad) fit.bad known.bad (All-contains_itself known.bad) in
      let kept = All-filter test (λ (of : BadOf). IsFitBad (sectors_at known.devices of.disk) of.bad) known.bad all in
      let here : All (λ (of : BadOf). IsFitBad sectors of.bad) (filter test known.bad) = λ k d lt.
      let of = get_or (filter test known.bad) k d in
      let one : IsFitBad (sectors_at known.devices of.disk) of.bad = kept k d lt in
      let place : of.disk ≡ number = eqb-true of.disk number (filter_passes test known.bad k d lt) in
      record {
        some = one.some;
        within = omega (arith, one.within, ap (sectors_at known.devices) place, size_is);
        kind = one.kind;
      } in
      All-contains (IsFitBad sectors) (bads_of_kind device.kind) bad
      (subst (All (IsFitBad sectors)) (sym (means.bad number device found)) (All-map (IsFitBad sectors) (λ (of : BadOf). of.bad) (filter test known.bad) here)) there

  stack_fit : IsFitStack stack
  stack_fit = record {
    fs_bios = (omega (arith, fit.fs_bios.0, means.fs_bios), omega (arith, fit.fs_bios.1, means.fs_bios));
    fs_vecs = (omega (arith, fit.fs_vecs.0, means.fs_vecs), omega (arith, fit.fs_vecs.1, means.fs_vecs));
    devices = λ number device found. fit.devices number (declared_form device) (shown_at number device found);
    names = λ i j one other found also same. fit.names i j (declared_form one) (declared_form other) (shown_at i one found) (shown_at j other also) same;
    bad = bads_fit;
  }

HasReserves-prop : (does : What) (reserve : ℕ) (rescuer : Bool) → IsProp (HasReserves does reserve rescuer)
HasReserves-prop (what.Disk sectors) reserve rescuer = hlevel (ℕ_set, Bool-set)
HasReserves-prop what.Linear reserve rescuer = hlevel le_prop
HasReserves-prop (what.Stripe chunk) reserve rescuer = hlevel le_prop
HasReserves-prop (what.Zoned chunk) reserve rescuer = hlevel le_prop
HasReserves-prop (what.Limit longest chunk) reserve rescuer = hlevel le_prop
HasReserves-prop (what.Mirror records) reserve rescuer = hlevel le_prop

IsFitStack-prop : (stack : Stack) → IsProp (IsFitStack stack)
IsFitStack-prop stack = hlevel (HasReserves-prop, ℕ_set, Bool-set, le_prop)

-- and so it is with every accepted stack
pub declared_fit : (stack : Stack) (scripts : List (PoolId × Answers)) → ∥ IsDeclaredSo stack scripts ∥₁ → IsFitStack stack
declared_fit stack scripts so =
    ∥∥₁_elim so (IsFitStack-prop stack) (λ by. stack_fit (known_after nothing_declared by.0) (lines_fit by.0 by.1 by.2) stack scripts by.3)

pub accepted_fit : (accepted : Accepted) → IsFitStack accepted.stack
accepted_fit accepted = declared_fit accepted.stack accepted.scripts.items accepted.declared
