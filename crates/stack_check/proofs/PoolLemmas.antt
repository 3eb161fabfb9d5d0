-- The pools of all devices, by falling number.
use Rattle.std.proofs.Common.{◌≡◌, ℕ, zero, suc, ◌+◌, ◌*◌, ◌<◌, ◌≤◌, List, [], ◌∷◌, ◌++◌, length, get_or, take, reverse, ap, ◌∙◌, sym, subst, add-one, arith}
use Rattle.std.specs.List.{flat_map, range_with_len, zip}
use Rattle.std.proofs.lemmas.List.{reverse-append, take_all, take_more, length-take-le, get_or_default}
use Rattle.stack_base.specs.PoolId.{pool_number}
use Rattle.stack_base.specs.declared.ids.PoolId.{PoolId}
use Rattle.decl_text.specs.declared.item.What.{What}
use Rattle.decl_text.specs.declared.item.What.TheVariants as what
use Rattle.decl_text.specs.Known.{Declared}
use Rattle.decl_text.specs.Accepting.{device_pools, pools}
use Rattle.stack_check.proofs.DeviceLemmas.{none}

-- the pools of these devices, the first of which has this number, by falling number
abbrev pub falling : List Declared → List PoolId
falling devices = flat_map (λ (at : ℕ × Declared). device_pools at.0 at.1.what) (reverse (zip (range_with_len 0 (length devices)) devices))

zip_push :
    (start : ℕ) (devices : List Declared) (device : Declared)
    → zip (range_with_len start (length (devices ++ device ∷ []))) (devices ++ device ∷ []) ≡ zip (range_with_len start (length devices)) devices ++ (start + length devices, device) ∷ []
zip_push start [] device = ap (λ n. (n, device) ∷ []) (omega arith)
zip_push start (first ∷ devices) device =
    ap (λ xs. (start, first) ∷ xs) (zip_push (start + 1) devices device
    ∙ ap (λ n. zip (range_with_len (start + 1) (length devices)) devices ++ (n, device) ∷ []) (omega arith))

-- the pools of one more device come first
pub falling_push : (devices : List Declared) (device : Declared) → falling (devices ++ device ∷ []) ≡ device_pools (length devices) device.what ++ falling devices
falling_push devices device =
    let pools_at = λ (at : ℕ × Declared). device_pools at.0 at.1.what in
    let before = zip (range_with_len 0 (length devices)) devices in
    ap (λ xs. flat_map pools_at (reverse xs)) (zip_push 0 devices device)
    ∙ ap (flat_map pools_at) (reverse-append before ((0 + length devices, device) ∷ []))
    ∙ ap (λ n. device_pools n device.what ++ falling devices) (omega arith)

pub falling_more :
    (devices : List Declared) (n : ℕ) (device : Declared) → n < length devices → device ≡ get_or devices n device
    → falling (take (n + 1) devices) ≡ device_pools n device.what ++ falling (take n devices)
falling_more devices n device lt at =
    ap falling (take_more devices n device lt ∙ ap (λ d. take n devices ++ d ∷ []) (sym at)) ∙ falling_push (take n devices) device
    ∙ ap (λ m. device_pools m device.what ++ falling (take n devices)) (length-take-le n devices (omega arith))

-- the numbers of the pools fall, from below this one on
abbrev pub IsFalling : ℕ → List PoolId → Type 0
IsFalling bound [] = Unit {0}
IsFalling bound (pool ∷ more) = (pool_number pool < bound) × IsFalling (pool_number pool) more

fall_higher : (bound higher : ℕ) (xs : List PoolId) → bound ≤ higher → IsFalling bound xs → IsFalling higher xs
fall_higher bound higher [] le falls = tt
fall_higher bound higher (pool ∷ more) le falls = (omega (arith, falls.0), falls.1)

device_falls : (n : ℕ) (does : What) (rest : List PoolId) → IsFalling (2 * n) rest → IsFalling (2 * (n + 1)) (device_pools n does ++ rest)
device_falls n (what.Disk sectors) rest falls = fall_higher (2 * n) (2 * (n + 1)) rest (omega arith) falls
device_falls n what.Linear rest falls = (omega arith, falls)
device_falls n (what.Stripe chunk) rest falls = (omega arith, falls)
device_falls n (what.Zoned chunk) rest falls = (omega arith, falls)
device_falls n (what.Limit longest chunk) rest falls = (omega arith, falls)
device_falls n (what.Mirror records) rest falls = (omega arith, (omega arith, falls))

all_fall : (devices : List Declared) (n : ℕ) → n ≤ length devices → IsFalling (2 * n) (falling (take n devices))
all_fall devices zero le = tt
all_fall devices (suc n) le =
    let device = get_or devices n none in
    let lt : n < length devices = omega arith in
    let next : falling (take (n + 1) devices) ≡ device_pools n device.what ++ falling (take n devices) =
    falling_more devices n device lt (get_or_default devices n none device lt) in
    let high : IsFalling (2 * (n + 1)) (falling (take (n + 1) devices)) =
    subst (IsFalling (2 * (n + 1))) (sym next) (device_falls n device.what (falling (take n devices)) (all_fall devices n (omega arith))) in
    subst (λ m. IsFalling (2 * m) (falling (take m devices))) (add-one n) high

-- so do those of the pools of at most 32 devices and of the writers
pub pools_fall : (devices : List Declared) → length devices ≤ 32 → IsFalling 66 (pools devices)
pools_fall devices few =
    let n = length devices in
    let all : IsFalling (2 * n) (falling devices) = subst (λ ds. IsFalling (2 * n) (falling ds)) (take_all n devices (omega arith)) (all_fall devices n (omega arith)) in
    (omega arith, (omega arith, fall_higher (2 * n) 64 (falling devices) (omega arith) all))
