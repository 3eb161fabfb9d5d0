-- The pools of a stack by falling number, told device by device.
use Rattle.std.proofs.Common.{◌+◌, ◌-◌, ◌≡◌, ◌<◌, ◌≤◌, ◌==◌, ℕ, suc, true, false, List, [], ◌∷◌, ◌++◌, length, map, take, drop, get_or, refl, sym, ap, ◌∙◌, subst, arith}
use Rattle.std.proofs.lemmas.List.{append_assoc, append-nil, take-append-drop, take-map, drop-map, map-append, length-map, length-append, get_or-map, drop_all}
use Rattle.std.proofs.Math.Seq.{take-append_seam, drop-append_seam, drop-cons}
use Rattle.std.proofs.lemmas.List.Concat.{flat_map-append}
use Rattle.std.proofs.lemmas.List.Folds.{list_any-append}
use Rattle.std.proofs.lemmas.List.Elements.{All-append, All-cons, All-nil}
use Rattle.std.proofs.lemmas.Bool.{ne_eqb, eq-eqb, or_parts, or_from}
use Rattle.std.specs.Prelude.{codes, decimal, All}
use Rattle.std.specs.List.{flat_map, list_any}
use Rattle.stack_base.specs.declared.ids.DevId.{DevId}
use Rattle.stack_base.specs.declared.ids.PoolId.{PoolId}
use Rattle.stack_base.specs.declared.ids.PoolId.TheVariants.{FsBios, FsVecs, Bios, Records}
use Rattle.stack_base.specs.declared.stack.Kind.{Kind}
use Rattle.stack_base.specs.declared.stack.Kind.TheVariants.{Disk, Linear, Stripe, Zoned, Limit, Mirror}
use Rattle.stack_base.specs.declared.stack.Device.{Device}
use Rattle.stack_base.specs.declared.stack.Stack.{Stack}
use Rattle.stack_base.specs.Names.{pool_name}
use Rattle.outside_io.specs.declared.sink.Sink.{Ghosts as SinkGhosts}
use Rattle.outside_io.specs.Saying.{PenState, Says, joined_text}
use Rattle.outside_io.proofs.SaysLemmas.{says_then, says_silence}
use Rattle.mempool_core.specs.declared.Facts.{Facts}
use Rattle.report_text.specs.Pools.{HasDeviceOfPool, device_at, disk_at, pools_at, disks_from, rising_from, falling_from, falling_pools, same_pool}
use Rattle.report_text.specs.Report.{facts_of, pool_line, pool_lines}
use Rattle.report_text.specs.Views.{facts_line, own_of_each}

-- a name in two parts
pub named : (owner element : List ℕ) (facts : Facts)
    → joined_text (codes "pool " ∷ owner ∷ element ∷ codes " reserve " ∷ decimal facts.min ∷ codes " ordinary " ∷ decimal facts.ordinary ∷ codes " spare " ∷ decimal facts.spare ∷ codes "\n" ∷ [])
    ≡ pool_line (owner ++ element) facts
named owner element facts =
    ap (λ xs. codes "pool " ++ xs)
    (sym (append_assoc owner element (joined_text (codes " reserve " ∷ decimal facts.min ∷ codes " ordinary " ∷ decimal facts.ordinary ∷ codes " spare " ∷ decimal facts.spare ∷ codes "\n" ∷ []))))

-- pools with their facts, and their names
abbrev pub Entries : Type 0
Entries = List (PoolId × Facts)

abbrev pub ids : Entries → List PoolId
ids entries = map (λ (p : PoolId × Facts). p.0) entries

-- none of these pools is this one
abbrev pub Lacks : List PoolId → PoolId → Type 0
Lacks pools pool = list_any (λ q. same_pool q pool) pools ≡ false

lacks_both : (xs ys : List PoolId) (pool : PoolId) → Lacks xs pool → Lacks ys pool → Lacks (xs ++ ys) pool
lacks_both xs ys pool first second =
    list_any-append (λ q. same_pool q pool) xs ys ∙ or_from (list_any (λ q. same_pool q pool) xs) (list_any (λ q. same_pool q pool) ys) first second

-- what is behind pools that are others
skip : (before behind : Entries) (pool : PoolId) → Lacks (ids before) pool → facts_of (before ++ behind) pool ≡ facts_of behind pool
unfolding facts_of
skip [] behind pool lacks = refl
skip (p ∷ more) behind pool lacks =
    let others = list_any (λ q. same_pool q pool) (ids more) in
    let first = or_parts (same_pool p.0 pool) others lacks in
    rw first.0 (skip more behind pool first.1)

here : (p : PoolId × Facts) (behind : Entries) (pool : PoolId) → same_pool p.0 pool ≡ true → facts_of (p ∷ behind) pool ≡ p.1
unfolding facts_of
here p behind pool same = rw same refl

same_itself : (pool : PoolId) → same_pool pool pool ≡ true
same_itself FsBios = refl
same_itself FsVecs = refl
same_itself (Bios dev) = eq-eqb dev.0 dev.0 refl
same_itself (Records dev) = eq-eqb dev.0 dev.0 refl

-- no pool in a list stands before it, nor twice in it
abbrev pub Fresh : List PoolId → List PoolId → Type 0
Fresh before [] = Unit {0}
Fresh before (pool ∷ more) = Lacks before pool × Fresh (before ++ pool ∷ []) more

-- a line of each of some pools, whose facts the whole list has, is a line of each entry
told_in : (stack : Stack) (before own behind : Entries) → Fresh (ids before) (ids own)
    → flat_map (λ pool. pool_line (pool_name stack pool) (facts_of (before ++ (own ++ behind)) pool)) (ids own) ≡ flat_map (facts_line stack) own
told_in stack before [] behind fresh = refl
told_in stack before (p ∷ more) behind fresh =
    let all = before ++ (p ∷ (more ++ behind)) in
    let first : facts_of all p.0 ≡ p.1 = skip before (p ∷ (more ++ behind)) p.0 fresh.0 ∙ here p (more ++ behind) p.0 (same_itself p.0) in
    let joined : (before ++ p ∷ []) ++ (more ++ behind) ≡ all = append_assoc before (p ∷ []) (more ++ behind) in
    let now : ids (before ++ p ∷ []) ≡ ids before ++ p.0 ∷ [] = map-append (λ (q : PoolId × Facts). q.0) before (p ∷ []) in
    let others = told_in stack (before ++ p ∷ []) more behind (subst (λ pools. Fresh pools (ids more)) (sym now) fresh.1) in
    let line = λ (pools : Entries) (pool : PoolId). pool_line (pool_name stack pool) (facts_of pools pool) in
    ap (λ facts. pool_line (pool_name stack p.0) facts ++ flat_map (line all) (ids more)) first
    ∙ ap (λ rest. facts_line stack p ++ rest) (subst (λ pools. flat_map (line pools) (ids more) ≡ flat_map (facts_line stack) more) joined others)

-- no pool of the device with this number is there
abbrev pub IsWithout : List PoolId → ℕ → Type 0
IsWithout pools number = Lacks pools (Bios (device_at number)) × Lacks pools (Records (device_at number))

without_both : (xs ys : List PoolId) (number : ℕ) → IsWithout xs number → IsWithout ys number → IsWithout (xs ++ ys) number
without_both xs ys number first second =
    (lacks_both xs ys (Bios (device_at number)) first.0 second.0, lacks_both xs ys (Records (device_at number)) first.1 second.1)

-- the pools of a device are no pools of another
other_device : (number other : ℕ) (kind : Kind) → other < number → IsWithout (pools_at number kind) other
other_device number other kind lt = of_kind kind (ne_eqb number other (λ same. omega (arith, same, lt))) where
  of_kind : (kind : Kind) → (number == other) ≡ false → IsWithout (pools_at number kind) other
  of_kind (Disk sectors bad) apart = (refl, refl)
  of_kind Linear apart = (rw apart refl, refl)
  of_kind (Stripe chunk) apart = (rw apart refl, refl)
  of_kind (Zoned chunk) apart = (rw apart refl, refl)
  of_kind (Limit longest chunk) apart = (rw apart refl, refl)
  of_kind (Mirror records) apart = (rw apart refl, rw apart refl)

-- the pools of devices behind one are no pools of that one
devices_behind : (number : ℕ) (devices : List Device) (other : ℕ) → other < number → IsWithout (falling_from number devices) other
unfolding falling_from
devices_behind number [] other lt = (refl, refl)
devices_behind number (device ∷ more) other lt =
    without_both (falling_from (number + 1) more) (pools_at number device.kind) other (devices_behind (number + 1) more other (omega (arith, lt))) (other_device number other device.kind lt)

-- the pools of a device, behind others
fresh_at : (before : List PoolId) (number : ℕ) (kind : Kind) → IsWithout before number → Fresh before (pools_at number kind)
fresh_at before number (Disk sectors bad) without = _
fresh_at before number Linear without = (without.0, _)
fresh_at before number (Stripe chunk) without = (without.0, _)
fresh_at before number (Zoned chunk) without = (without.0, _)
fresh_at before number (Limit longest chunk) without = (without.0, _)
fresh_at before number (Mirror records) without = (without.1, (lacks_both before (Records (device_at number) ∷ []) (Bios (device_at number)) without.0 refl, _))

-- a device has as many pools under any number
count_same : (number : ℕ) (kind : Kind) → length (pools_at number kind) ≡ length (pools_at 0 kind)
count_same number (Disk sectors bad) = refl
count_same number Linear = refl
count_same number (Stripe chunk) = refl
count_same number (Zoned chunk) = refl
count_same number (Limit longest chunk) = refl
count_same number (Mirror records) = refl

-- the device with a number, and then those behind it
pub first_behind : (devices shown : List Device) (number : ℕ) (device : Device) → shown ≡ devices → number < length shown → device ≡ get_or shown number device
    → drop number devices ≡ device ∷ drop (number + 1) devices
first_behind devices shown number device same inside found =
    let next : suc number ≡ number + 1 = omega arith in
    drop-cons devices number device (omega (arith, inside, ap length same))
    ∙ ap (λ n. get_or devices number device ∷ drop n devices) next
    ∙ ap (λ (d : Device). d ∷ drop (number + 1) devices) (sym (found ∙ ap (λ ds. get_or ds number device) same))

-- where the pools of the first device stand last: the place from which they stand
module _ (number : ℕ) (device : Device) (more : List Device) (rest : Entries) (are : ids rest ≡ falling_from number (device ∷ more)) where
  abbrev pub place : ℕ
  place = length rest - length (pools_at 0 device.kind)

  pub behind_place : length rest ≡ length (falling_from (number + 1) more) + length (pools_at 0 device.kind)
  unfolding falling_from
  behind_place =
      sym (length-map rest (λ (p : PoolId × Facts). p.0)) ∙ ap length are
      ∙ length-append (falling_from (number + 1) more) (pools_at number device.kind)
      ∙ ap (λ n. length (falling_from (number + 1) more) + n) (count_same number device.kind)

  at_place : place ≡ length (falling_from (number + 1) more)
  at_place = omega (arith, behind_place)

  pub front_ids : ids (take place rest) ≡ falling_from (number + 1) more
  unfolding falling_from
  front_ids =
      sym (take-map (λ (p : PoolId × Facts). p.0) place rest) ∙ ap (take place) are
      ∙ ap (λ n. take n (falling_from (number + 1) more ++ pools_at number device.kind)) at_place
      ∙ take-append_seam (falling_from (number + 1) more) (pools_at number device.kind)

  pub own_ids : ids (drop place rest) ≡ pools_at number device.kind
  unfolding falling_from
  own_ids =
      sym (drop-map (λ (p : PoolId × Facts). p.0) place rest) ∙ ap (drop place) are
      ∙ ap (λ n. drop n (falling_from (number + 1) more ++ pools_at number device.kind)) at_place
      ∙ drop-append_seam (falling_from (number + 1) more) (pools_at number device.kind)

-- a line of each pool of these devices is a line of each entry, device by device
told_of_devices : (stack : Stack) (number : ℕ) (devices : List Device) (before rest behind : Entries)
    → ids rest ≡ falling_from number devices → ((device : ℕ) → IsWithout (ids before) device)
    → flat_map (λ pool. pool_line (pool_name stack pool) (facts_of (before ++ (rest ++ behind)) pool)) (rising_from number devices)
    ≡ flat_map (facts_line stack) (own_of_each devices rest)
unfolding rising_from own_of_each
told_of_devices stack number [] before rest behind are without = refl
told_of_devices stack number (device ∷ more) before rest behind are without =
    let n = place number device more rest are in
    let front = take n rest in
    let own = drop n rest in
    let line = λ (pools : Entries) (pool : PoolId). pool_line (pool_name stack pool) (facts_of pools pool) in
    let all = before ++ (rest ++ behind) in
    let own_at = own_ids number device more rest are in
    let in_front : before ++ (front ++ (own ++ behind)) ≡ all =
    ap (λ xs. before ++ xs) (sym (append_assoc front own behind) ∙ ap (λ xs. xs ++ behind) (take-append-drop n rest)) in
    let split : (before ++ front) ++ (own ++ behind) ≡ all = append_assoc before front (own ++ behind) ∙ in_front in
    let others = told_of_devices stack (number + 1) more before front (own ++ behind) (front_ids number device more rest are) without in
    let lacking : IsWithout (ids (before ++ front)) number =
    subst (λ pools. IsWithout pools number) (sym (map-append (λ (p : PoolId × Facts). p.0) before front))
    (without_both (ids before) (ids front) number (without number)
    (subst (λ pools. IsWithout pools number) (sym (front_ids number device more rest are)) (devices_behind (number + 1) more number (omega arith)))) in
    let fresh : Fresh (ids (before ++ front)) (ids own) = subst (Fresh (ids (before ++ front))) (sym own_at) (fresh_at (ids (before ++ front)) number device.kind lacking) in
    let of_own = subst (λ pools. flat_map (line all) pools ≡ flat_map (facts_line stack) own) own_at
    (subst (λ pools. flat_map (line pools) (ids own) ≡ flat_map (facts_line stack) own) split (told_in stack (before ++ front) own behind fresh)) in
    flat_map-append (line all) (pools_at number device.kind) (rising_from (number + 1) more)
    ∙ ap (λ xs. xs ++ flat_map (line all) (rising_from (number + 1) more)) of_own
    ∙ ap (λ xs. flat_map (facts_line stack) own ++ xs) (subst (λ pools. flat_map (line pools) (rising_from (number + 1) more) ≡ flat_map (facts_line stack) (own_of_each more front)) in_front others)
    ∙ sym (flat_map-append (facts_line stack) own (own_of_each more front))

one_at_all : {X : Type 0} (P : X → Type 0) (x : X) → P x → All P (x ∷ [])
one_at_all P x holds = All-cons P x [] holds (All-nil P)

-- the pools of a device of the stack
pub device_has : (stack : Stack) (number : ℕ) (kind : Kind) → number < length stack.devices.items → All (HasDeviceOfPool stack) (pools_at number kind)
device_has stack number (Disk sectors bad) lt = All-nil (HasDeviceOfPool stack)
device_has stack number Linear lt = one_at_all (HasDeviceOfPool stack) (Bios (device_at number)) lt
device_has stack number (Stripe chunk) lt = one_at_all (HasDeviceOfPool stack) (Bios (device_at number)) lt
device_has stack number (Zoned chunk) lt = one_at_all (HasDeviceOfPool stack) (Bios (device_at number)) lt
device_has stack number (Limit longest chunk) lt = one_at_all (HasDeviceOfPool stack) (Bios (device_at number)) lt
device_has stack number (Mirror records) lt =
    All-cons (HasDeviceOfPool stack) (Records (device_at number)) (Bios (device_at number) ∷ []) lt (one_at_all (HasDeviceOfPool stack) (Bios (device_at number)) lt)

abbrev IsBelow : ℕ → DevId → Type 0
IsBelow total dev = dev.0 < total

a_disk_below : (total number : ℕ) (kind : Kind) → number < total → All (IsBelow total) (disk_at number kind)
a_disk_below total number (Disk sectors bad) lt = one_at_all (IsBelow total) (device_at number) lt
a_disk_below total number Linear lt = All-nil (IsBelow total)
a_disk_below total number (Stripe chunk) lt = All-nil (IsBelow total)
a_disk_below total number (Zoned chunk) lt = All-nil (IsBelow total)
a_disk_below total number (Limit longest chunk) lt = All-nil (IsBelow total)
a_disk_below total number (Mirror records) lt = All-nil (IsBelow total)

-- the disks among devices are devices
pub disks_below : (total number : ℕ) (devices : List Device) → number + length devices ≤ total → All (IsBelow total) (disks_from number devices)
unfolding disks_from
disks_below total number [] le = All-nil (IsBelow total)
disks_below total number (device ∷ more) le =
    All-append (IsBelow total) (disk_at number device.kind) (disks_from (number + 1) more)
    (a_disk_below total number device.kind (omega (arith, le))) (disks_below total (number + 1) more (omega (arith, le)))

-- what holds of what all elements are read as, holds of one of them
pub each_of : {X Y : Type 0} (P : Y → Type 0) (f : X → Y) (xs : List X) (i : ℕ) (d : X) → All P (map f xs) → i < length xs → P (f (get_or xs i d))
each_of P f xs i d all lt = subst P (get_or-map f xs i d (f d) lt) (all i (f d) (omega (arith, lt, length-map xs f)))

-- the lines of a device's pools, and then those of the devices behind it
pub pools_on : {K : Type 0} {sink : SinkGhosts K} {a b c : K} {was mid is : PenState} (stack : Stack) (devices shown : List Device) (number : ℕ) (device : Device) (rest own front : Entries)
    → shown ≡ devices → number < length shown → device ≡ get_or shown number device
    → ids rest ≡ falling_from number (drop number devices)
    → own ≡ drop (length rest - length (pools_at 0 device.kind)) rest → front ≡ take (length rest - length (pools_at 0 device.kind)) rest
    → Says sink a was b mid (flat_map (facts_line stack) own)
    → Says sink b mid c is (flat_map (facts_line stack) (own_of_each (drop (number + 1) devices) front))
    → Says sink a was c is (flat_map (facts_line stack) (own_of_each (drop number devices) rest))
unfolding own_of_each
pools_on {sink = sink} {a} {b} {c} {was} {mid} {is} stack devices shown number device rest own front same inside found are own_is front_is here others =
    let cut = first_behind devices shown number device same inside found in
    let n = length rest - length (pools_at 0 device.kind) in
    let more = drop (number + 1) devices in
    let first = subst (λ xs. Says sink a was b mid (flat_map (facts_line stack) xs)) own_is here in
    let second = subst (λ xs. Says sink b mid c is (flat_map (facts_line stack) (own_of_each more xs))) front_is others in
    subst (λ ds. Says sink a was c is (flat_map (facts_line stack) (own_of_each ds rest))) (sym cut)
    (subst (Says sink a was c is) (sym (flat_map-append (facts_line stack) (drop n rest) (own_of_each more (take n rest)))) (says_then first second))

-- behind the last device there is no pool
pub pools_end : {K : Type 0} (sink : SinkGhosts K) (a : K) (was : PenState) (stack : Stack) (devices : List Device) (number : ℕ) (rest : Entries)
    → length devices ≤ number → Says sink a was a was (flat_map (facts_line stack) (own_of_each (drop number devices) rest))
unfolding own_of_each
pools_end sink a was stack devices number rest past =
    subst (λ ds. Says sink a was a was (flat_map (facts_line stack) (own_of_each ds rest))) (sym (drop_all number devices past)) (says_silence sink a was)

-- where the writers' pools stand first and then those of the devices by falling number, the lines of all
module _ (stack : Stack) (pools : Entries) (are : ids pools ≡ falling_pools stack) where
  pub writers_ids : ids (take 2 pools) ≡ FsBios ∷ FsVecs ∷ []
  writers_ids = sym (take-map (λ (p : PoolId × Facts). p.0) 2 pools) ∙ ap (take 2) are

  pub devices_ids : ids (drop 2 pools) ≡ falling_from 0 stack.devices.items
  devices_ids = sym (drop-map (λ (p : PoolId × Facts). p.0) 2 pools) ∙ ap (drop 2) are

  pub lines_are : flat_map (facts_line stack) (take 2 pools) ++ flat_map (facts_line stack) (own_of_each stack.devices.items (drop 2 pools)) ≡ pool_lines stack pools
  lines_are =
      let writers = take 2 pools in
      let rest = drop 2 pools in
      let line = λ (all : Entries) (pool : PoolId). pool_line (pool_name stack pool) (facts_of all pool) in
      let joined : writers ++ rest ≡ pools = take-append-drop 2 pools in
      let closed : writers ++ (rest ++ []) ≡ pools = ap (λ xs. writers ++ xs) (append-nil rest) ∙ joined in
      let without : (device : ℕ) → IsWithout (ids writers) device = λ device. subst (λ ps. IsWithout ps device) (sym writers_ids) (refl, refl) in
      let fresh : Fresh [] (ids writers) = subst (Fresh []) (sym writers_ids) (refl, (refl, _)) in
      let first = subst (λ ps. flat_map (line ps) (ids writers) ≡ flat_map (facts_line stack) writers) joined (told_in stack [] writers rest fresh) in
      let first_at = subst (λ ps. flat_map (line pools) ps ≡ flat_map (facts_line stack) writers) writers_ids first in
      let others = subst (λ ps. flat_map (line ps) (rising_from 0 stack.devices.items) ≡ flat_map (facts_line stack) (own_of_each stack.devices.items rest)) closed
      (told_of_devices stack 0 stack.devices.items writers rest [] devices_ids without) in
      sym (flat_map-append (line pools) (FsBios ∷ FsVecs ∷ []) (rising_from 0 stack.devices.items)
      ∙ ap (λ xs. xs ++ flat_map (line pools) (rising_from 0 stack.devices.items)) first_at
      ∙ ap (λ xs. flat_map (facts_line stack) writers ++ xs) others)
