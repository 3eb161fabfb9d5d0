-- The scripts of a text's declarations are of pools of its stack, and no other pool has one.
use Rattle.std.proofs.Common.{◌≡◌, inl, inr, ◌+◌, ◌-◌, ◌^◌, ◌<◌, ℕ, Bool, true, false, List, [], ◌∷◌, length, reverse, get_or, find, Option, None, Some, refl, sym, ap, subst, ◌∙◌, arith}
use Rattle.std.specs.Prelude.{All, flat_map, slice_get, zip}
use Rattle.std.specs.List.{range_with_len}
use Rattle.std.specs.Option.{option_and_then, option_map_or}
use Rattle.std.proofs.lemmas.Grind.{not_there}
use Rattle.std.proofs.lemmas.List.{get_or-reverse, length-reverse}
use Rattle.std.proofs.lemmas.List.Elements.{All-append, All-cons, All-head, All-map, All-nil, All-tail, All-weaker}
use Rattle.std.proofs.lemmas.List.FromFn.{get_or-range_with_len, length-range_with_len}
use Rattle.std.proofs.lemmas.Option.{none-some, slice_get-get_or}
use Rattle.std.proofs.lemmas.Slice.Zip.{get_or-zip, length-zip}
use Rattle.std.proofs.lemmas.Bool.{cases_lt, eqb-true, both_ways}
use Rattle.fail_script.specs.Script.{Answers, only_tail}
use Rattle.stack_base.specs.declared.ids.PoolId.{PoolId}
use Rattle.stack_base.specs.declared.ids.PoolId.TheVariants.{FsBios, FsVecs, Bios, Records}
use Rattle.stack_base.specs.declared.stack.Stack.{Stack}
use Rattle.stack_base.specs.PoolId.{IsOfStack, pool_number}
use Rattle.stack_base.specs.Stack.{IsStack}
use Rattle.decl_text.specs.Accepting.{IsDeclaredSo, device_pools, pools, script_of, scripts_of, shown_devices}
use Rattle.decl_text.specs.Known.{Declared, bios_pool_of, nothing_declared, pool_if, records_pool_of}
use Rattle.decl_text.specs.Refusals.{known_after}
use Rattle.decl_text.specs.declared.item.What.{What}
use Rattle.decl_text.specs.declared.item.What.TheVariants as what
use Rattle.work_text.specs.Fit.{IsPoolIn}
use Rattle.run_machine.specs.Opened.{device_at, is_numbered, script_at}
use Rattle.task_core.specs.opened.Openings.{has_pool}
use Rattle.task_steps.specs.Routed.{Routing}
use Rattle.task_core.proofs.opened.PoolsBehind.{pool_there, number_small, of_stack}

-- the scripts of declarations are of their pools
pub all_flat : {X Y : Type 0} (P : Y → Type 0) (f : X → List Y) (xs : List X) → All (λ x. All P (f x)) xs → All P (flat_map f xs)
all_flat P f [] all = All-nil P
all_flat P f (x ∷ xs) all = All-append P (f x) (flat_map f xs) (All-head (λ x. All P (f x)) x xs all) (all_flat P f xs (All-tail (λ x. All P (f x)) x xs all))

all_reversed : {X : Type 0} (P : X → Type 0) (xs : List X) → All P xs → All P (reverse xs)
all_reversed P xs all = λ k d lt.
    let long = length-reverse xs in
    let within : k < length xs = omega (arith, lt, long) in
    subst P (sym (get_or-reverse xs k d within)) (all (length xs - 1 - k) d (omega (arith, within)))

device_in : (devices : List Declared) (number : ℕ) (device : Declared) → slice_get devices number ≡ Some device → (does : What) → device.what ≡ does
    → All (IsPoolIn devices) (device_pools number does)
device_in devices number device found does e = by_kind does e
  where
    set : {does : What} → device.what ≡ does → pool_if bios_pool_of devices number ≡ bios_pool_of number does
    set e = ap (option_and_then (λ (d : Declared). bios_pool_of number d.what)) found ∙ ap (bios_pool_of number) e

    slips : {does : What} → device.what ≡ does → pool_if records_pool_of devices number ≡ records_pool_of number does
    slips e = ap (option_and_then (λ (d : Declared). records_pool_of number d.what)) found ∙ ap (records_pool_of number) e

    by_kind : (does : What) → device.what ≡ does → All (IsPoolIn devices) (device_pools number does)
    by_kind (what.Disk sectors) e = All-nil (IsPoolIn devices)
    by_kind (what.Mirror records) e =
        All-cons (IsPoolIn devices) (Records (device_at number)) (Bios (device_at number) ∷ []) (slips e)
        (All-cons (IsPoolIn devices) (Bios (device_at number)) [] (set e) (All-nil (IsPoolIn devices)))
    by_kind what.Linear e = All-cons (IsPoolIn devices) (Bios (device_at number)) [] (set e) (All-nil (IsPoolIn devices))
    by_kind (what.Stripe chunk) e = All-cons (IsPoolIn devices) (Bios (device_at number)) [] (set e) (All-nil (IsPoolIn devices))
    by_kind (what.Zoned chunk) e = All-cons (IsPoolIn devices) (Bios (device_at number)) [] (set e) (All-nil (IsPoolIn devices))
    by_kind (what.Limit longest chunk) e = All-cons (IsPoolIn devices) (Bios (device_at number)) [] (set e) (All-nil (IsPoolIn devices))

abbrev numbered : List Declared → List (ℕ × Declared)
numbered devices = zip (range_with_len 0 (length devices)) devices

abbrev HasPools : List Declared → ℕ × Declared → Type 0
HasPools devices x = All (IsPoolIn devices) (device_pools x.0 x.1.what)

each_in : (devices : List Declared) → All (HasPools devices) (numbered devices)
each_in devices = λ k d lt.
    let range = range_with_len 0 (length devices) in
    let many = length-range_with_len 0 (length devices) in
    let zipped = length-zip range devices in
    let within : k < length devices = omega (arith, lt, many, zipped) in
    let inside : k < length range = omega (arith, within, many) in
    let device = get_or devices k d.1 in
    let stands : get_or range k d.0 ≡ 0 + k = get_or-range_with_len 0 (length devices) k d.0 within in
    let none : 0 + k ≡ k = omega arith in
    let is : get_or (numbered devices) k d ≡ (k, device) = get_or-zip range devices k d inside within ∙ ap (λ n. (n, device)) (stands ∙ none) in
    subst (HasPools devices) (sym is) (device_in devices k device (slice_get-get_or devices k d.1 within) device.what refl)

pools_in : (devices : List Declared) → All (IsPoolIn devices) (pools devices)
pools_in devices =
    let of_devices : List PoolId = flat_map (λ (x : ℕ × Declared). device_pools x.0 x.1.what) (reverse (numbered devices)) in
    All-cons (IsPoolIn devices) FsBios (FsVecs ∷ of_devices) tt (All-cons (IsPoolIn devices) FsVecs of_devices tt
    (all_flat (IsPoolIn devices) (λ (x : ℕ × Declared). device_pools x.0 x.1.what) (reverse (numbered devices))
    (all_reversed (HasPools devices) (numbered devices) (each_in devices))))

abbrev Scripts : Type 0
Scripts = List (PoolId × Answers)

scripts_in : (stack : Stack) (scripts : Scripts) → IsDeclaredSo stack scripts → All (λ (script : PoolId × Answers). IsPoolIn (shown_devices stack) script.0) scripts
scripts_in stack scripts declared =
    let known = known_after nothing_declared declared.0 in
    let means = declared.3 in
    subst (All (λ (script : PoolId × Answers). IsPoolIn (shown_devices stack) script.0)) (sym means.scripts)
    (subst (λ devices. All (λ (script : PoolId × Answers). IsPoolIn devices script.0) (scripts_of known)) (sym means.devices)
    (All-map (λ (script : PoolId × Answers). IsPoolIn known.devices script.0) (λ pool. (pool, script_of known pool)) (pools known.devices) (pools_in known.devices)))

pub scripts_small : (stack : Stack) (scripts : Scripts) → IsStack stack → ∥ IsDeclaredSo stack scripts ∥₁
    → All (λ (script : PoolId × Answers). pool_number script.0 < 2 ^ 32) scripts
scripts_small stack scripts good so = λ k d lt. elim (cases_lt (pool_number (get_or scripts k d).0) (2 ^ 32)) [
  | inl small ↦ small
  | inr large ↦ absurd (not_there so (λ declared.
      let small = number_small stack good (get_or scripts k d).0 (scripts_in stack scripts declared k d lt) in omega (arith, small, large)))
]

pub scripts_of_stack : (stack : Stack) (scripts : Scripts) → IsStack stack → ∥ IsDeclaredSo stack scripts ∥₁
    → All (λ (script : PoolId × Answers). IsOfStack script.0) scripts
scripts_of_stack stack scripts good so = λ k d lt. by_pool (get_or scripts k d).0 (λ declared. of_stack stack good (get_or scripts k d).0 (scripts_in stack scripts declared k d lt))
  where
    by_pool : (pool : PoolId) → (IsDeclaredSo stack scripts → IsOfStack pool) → IsOfStack pool
    by_pool FsBios is = tt
    by_pool FsVecs is = tt
    by_pool (Bios dev) is = elim (cases_lt dev.0 32) [
      | inl small ↦ small
      | inr large ↦ absurd (not_there so (λ declared. let small = is declared in omega (arith, small, large)))
    ]
    by_pool (Records dev) is = elim (cases_lt dev.0 32) [
      | inl small ↦ small
      | inr large ↦ absurd (not_there so (λ declared. let small = is declared in omega (arith, small, large)))
    ]

none_passes : {X : Type 0} (p : X → Bool) (xs : List X) → All (λ x. p x ≡ false) xs → find p xs ≡ None
none_passes p [] all = refl
none_passes p (x ∷ xs) all = let first = All-head (λ x. p x ≡ false) x xs all in rw (first) (none_passes p xs (All-tail (λ x. p x ≡ false) x xs all))

pub scripts_alone : (routing : Routing) (scripts : Scripts) → IsStack routing.stack → ∥ IsDeclaredSo routing.stack scripts ∥₁
    → (number : ℕ) → has_pool routing number ≡ false → script_at scripts number ≡ only_tail true
scripts_alone routing scripts good so number none = by_found (find (is_numbered number) scripts) refl
  where
    other : (script : PoolId × Answers) → IsPoolIn (shown_devices routing.stack) script.0 → (b : Bool) → is_numbered number script ≡ b → b ≡ false
    other script is false q = refl
    other script is true q =
        absurd (both_ways (has_pool routing number) none (ap (has_pool routing) (sym (eqb-true (pool_number script.0) number q)) ∙ pool_there routing good script.0 is))

    by_found : (o : Option (PoolId × Answers)) → find (is_numbered number) scripts ≡ o → script_at scripts number ≡ only_tail true
    by_found None q = ap (λ o. option_map_or (λ (script : PoolId × Answers). script.1) o (only_tail true)) q
    by_found (Some script) q =
        absurd (not_there so (λ declared.
        none-some script (sym (none_passes (is_numbered number) scripts
        (All-weaker (λ (s : PoolId × Answers). IsPoolIn (shown_devices routing.stack) s.0) (λ s. is_numbered number s ≡ false)
        (λ s is. other s is (is_numbered number s) refl) scripts (scripts_in routing.stack scripts declared))) ∙ q)))
