-- The rows of pools that were closed, device by device.
use Rattle.std.proofs.Common.{◌≡◌, ◌≢◌, ◌+◌, ◌*◌, ◌%◌, ◌<◌, ◌≤◌, ◌==◌, ◌||◌, cond, ℕ, zero, suc, Bool, true, false, List, [], ◌∷◌, length, map, filter, refl, sym, ap, ◌∙◌, subst, arith}
use Rattle.std.specs.Prelude.{All}
use Rattle.std.specs.List.{range_with_len}
use Rattle.std.proofs.lemmas.Bool.{true≢false, eq-eqb, ne_eqb}
use Rattle.std.proofs.lemmas.List.Elements.{All-nil, All-cons}
use Rattle.std.proofs.lemmas.Simd.{map-map}
use Rattle.stack_base.specs.declared.ids.DevId.{DevId}
use Rattle.stack_base.specs.declared.ids.SetId.{SetId}
use Rattle.stack_base.specs.declared.ids.SetId.TheVariants.{Fs, Of}
use Rattle.stack_base.proofs.ListLemmas.{first_or, behind_first}
use Rattle.run_machine.specs.Opened.{device_at}
use Rattle.run_machine.specs.Scene.{has_set, is_disk}
use Rattle.task_core.specs.Plains.{is_bios_number, by_kind}
use Rattle.task_core.specs.Tables.{look_up}
use Rattle.task_core.specs.opened.Openings.{itself, set_index, has_set_at, slip_index}
use Rattle.task_steps.specs.Stage.{has_mirror_in}
use Rattle.task_steps.specs.Routed.{Routing, routing_setup}
use Rattle.shared_objects.specs.Holding.{set_key, slip_key}
use Rattle.shared_objects.proofs.sharing.OpenedRows.{by_itself}
use Rattle.run_merge.proofs.Fronts.{has_some}
use Rattle.run_merge.proofs.leaving.FoundByKey.{AreDistinct, looked, numbers_apart, pairs}

-- numbers of pools
twice_apart : (m n : ℕ) → m < n → 2 * m ≢ 2 * n
twice_apart m n lt same = omega (arith, lt, same)

odd_apart : (m n : ℕ) → m < n → 2 * m + 1 ≢ 2 * n + 1
odd_apart m n lt same = omega (arith, lt, same)

set_named : (set : SetId) (n : ℕ) → set_key set ≡ 2 * n → set ≡ Of (device_at n)
set_named Fs n is = absurd (omega (arith, is))
set_named (Of dev) n is = ap (λ k. Of (device_at k)) same
  where
    same : dev.0 ≡ n
    same = omega (arith, is)

first_named : (set : SetId) → set_key set ≡ 65 → set ≡ Fs
first_named Fs is = refl
first_named (Of dev) is = absurd (omega (arith, is))

slip_named : (dev : DevId) (n : ℕ) → slip_key dev ≡ 2 * n + 1 → dev ≡ device_at n
slip_named dev n is = ap device_at same
  where
    same : dev.0 ≡ n
    same = omega (arith, is)

-- what the number of a pool stands for
module _ {Y : Type 0} (vecs : Y) (bios records : ℕ → Y) where
  pub of_bios : (n : ℕ) → n < 32 → by_kind vecs bios records (2 * n) ≡ bios (2 * n)
  of_bios n lt =
      ap (λ b. cond b vecs (cond (is_bios_number (2 * n)) (bios (2 * n)) (records (2 * n)))) (ne_eqb (2 * n) 64 (λ same. omega (arith, lt, same)))
      ∙ ap (λ b. cond ((2 * n == 65) || b) (bios (2 * n)) (records (2 * n))) (eq-eqb (2 * n % 2) 0 (omega arith))
      ∙ by_test (2 * n == 65)
    where
      by_test : (b : Bool) → cond (b || true) (bios (2 * n)) (records (2 * n)) ≡ bios (2 * n)
      by_test true = refl
      by_test false = refl

  pub of_records : (n : ℕ) → n < 32 → by_kind vecs bios records (2 * n + 1) ≡ records (2 * n + 1)
  of_records n lt =
      ap (λ b. cond b vecs (cond (is_bios_number (2 * n + 1)) (bios (2 * n + 1)) (records (2 * n + 1)))) (ne_eqb (2 * n + 1) 64 (λ same. omega (arith, same)))
      ∙ ap (λ b. cond ((2 * n + 1 == 65) || b) (bios (2 * n + 1)) (records (2 * n + 1))) (ne_eqb ((2 * n + 1) % 2) 0 (λ same. omega (arith, same)))
      ∙ ap (λ b. cond (b || false) (bios (2 * n + 1)) (records (2 * n + 1))) (ne_eqb (2 * n + 1) 65 (λ same. omega (arith, lt, same)))

-- numbers of a range are small
pub all_small : (n count most : ℕ) → n + count ≤ most → All (λ k. k < most) (range_with_len n count)
all_small n zero most le = All-nil (λ k. k < most)
all_small n (suc count) most le = All-cons (λ k. k < most) n (range_with_len (n + 1) count) (omega (arith, le)) (all_small (n + 1) count most (omega (arith, le)))

module _ (r : Routing) where
  abbrev count : ℕ
  count = length r.stack.devices.items

  -- the sets behind that of the writers have the numbers of devices
  shifted : (k n : ℕ) → map set_index (filter (has_set_at r) (range_with_len (k + 1) n)) ≡ map (λ d. 2 * d) (filter (has_set (routing_setup r)) (range_with_len k n))
  shifted k zero = refl
  shifted k (suc n) = by_test (has_set_at r (k + 1)) (has_set (routing_setup r) k) (ap (has_set_at r) next) (shifted (k + 1) n)
    where
      next : k + 1 ≡ suc k
      next = omega arith

      xs : List ℕ
      xs = filter (has_set_at r) (range_with_len (k + 1 + 1) n)

      ys : List ℕ
      ys = filter (has_set (routing_setup r)) (range_with_len (k + 1) n)

      with_test : (b c : Bool) → b ≡ c → {l : List ℕ} → map set_index (cond c ((k + 1) ∷ xs) xs) ≡ l → map set_index (cond b ((k + 1) ∷ xs) xs) ≡ l
      with_test b c is {l} same = ap (λ b. map set_index (cond b ((k + 1) ∷ xs) xs)) is ∙ same

      by_test : (b c : Bool) → b ≡ c → map set_index xs ≡ map (λ d. 2 * d) ys
          → map set_index (cond b ((k + 1) ∷ xs) xs) ≡ map (λ d. 2 * d) (cond c (k ∷ ys) ys)
      by_test b true is rest = with_test b true is (let here = ap set_index next in λ i. here i ∷ rest i)
      by_test b false is rest = with_test b false is rest

  -- the row of the sets' pools of bios
  module _ {X Y : Type 0} (value : X → Y) (none : ℕ → Y) (row : List (SetId × X))
      (keys : map (λ (e : SetId × X). set_key e.0) row ≡ map set_index (filter (has_set_at r) (range_with_len 0 (suc count)))) where
    abbrev set_of : ℕ → Y
    set_of = look_up (λ (e : SetId × X). set_key e.0) (λ (e : SetId × X). value e.1) none row

    abbrev devices : List ℕ
    devices = filter (has_set (routing_setup r)) (range_with_len 0 count)

    keys_are : map (λ (e : SetId × X). set_key e.0) row ≡ 65 ∷ map (λ d. 2 * d) devices
    keys_are = keys ∙ ap (λ l. 65 ∷ l) (shifted 0 count)

    apart : AreDistinct (map (λ (e : SetId × X). set_key e.0) row)
    apart = subst AreDistinct (sym keys_are) (odd (has_set (routing_setup r)) 0 count, numbers_apart (λ d. 2 * d) twice_apart (has_set (routing_setup r)) 0 count)
      where
        odd : (is : ℕ → Bool) (n c : ℕ) → All (λ m. 65 ≢ m) (map (λ d. 2 * d) (filter is (range_with_len n c)))
        odd is n zero = All-nil (λ m. 65 ≢ m)
        odd is n (suc c) = by_test (is n) (odd is (n + 1) c)
          where
            rest : List ℕ
            rest = filter is (range_with_len (n + 1) c)

            by_test : (b : Bool) → All (λ m. 65 ≢ m) (map (λ d. 2 * d) rest) → All (λ m. 65 ≢ m) (map (λ d. 2 * d) (cond b (n ∷ rest) rest))
            by_test true all = All-cons (λ m. 65 ≢ m) (2 * n) (map (λ d. 2 * d) rest) (λ same. omega (arith, same)) all
            by_test false all = all

    values_are : map (λ (e : SetId × X). value e.1) row ≡ map set_of (65 ∷ map (λ d. 2 * d) devices)
    values_are = looked (λ (e : SetId × X). set_key e.0) (λ (e : SetId × X). value e.1) none row apart ∙ ap (map set_of) keys_are

    pub some_set : 0 < length row
    some_set = by_row row keys_are
      where
        by_row : (row : List (SetId × X)) → map (λ (e : SetId × X). set_key e.0) row ≡ 65 ∷ map (λ d. 2 * d) devices → 0 < length row
        by_row [] is = absurd (true≢false (sym (ap has_some is)))
        by_row (e ∷ es) is = omega arith

    -- the writers' set first, and then those of devices
    pub all_sets : {F : Type 0} (final : Y → F) → map {B = SetId × F} (λ (e : SetId × X). (e.0, final (value e.1))) row
        ≡ (Fs, final (set_of 65)) ∷ map {B = SetId × F} (λ n. (Of (device_at n), final (set_of (2 * n)))) devices
    all_sets {F} final = by_row row keys_are values_are
      where
        by_row : (es : List (SetId × X)) → map (λ (e : SetId × X). set_key e.0) es ≡ 65 ∷ map (λ d. 2 * d) devices
            → map (λ (e : SetId × X). value e.1) es ≡ map set_of (65 ∷ map (λ d. 2 * d) devices)
            → map {B = SetId × F} (λ (e : SetId × X). (e.0, final (value e.1))) es
            ≡ (Fs, final (set_of 65)) ∷ map {B = SetId × F} (λ n. (Of (device_at n), final (set_of (2 * n)))) devices
        by_row [] keyed valued = absurd (true≢false (sym (ap has_some keyed)))
        by_row (e ∷ es) keyed valued =
            let named = first_named e.0 (ap (first_or 65) keyed) in
            let is = ap final (ap (first_or (value e.1)) valued) in
            let rest = pairs (λ (e : SetId × X). set_key e.0) (λ (e : SetId × X). e.0) (λ (e : SetId × X). final (value e.1)) (λ d. 2 * d) (λ n. Of (device_at n)) (λ n. final (set_of (2 * n)))
            (λ e n is. set_named e.0 n is) es devices (ap behind_first keyed)
            (sym (map-map final (λ (e : SetId × X). value e.1) es) ∙ ap (λ l. map final (behind_first l)) valued
            ∙ map-map final set_of (map (λ d. 2 * d) devices) ∙ map-map (λ n. final (set_of n)) (λ d. 2 * d) devices) in
            λ i. (named i, is i) ∷ rest i

  -- the row of the pools of records
  module _ {X Y : Type 0} (value : X → Y) (none : ℕ → Y) (row : List (DevId × X))
      (keys : map (λ (e : DevId × X). slip_key e.0) row ≡ map slip_index (filter (has_mirror_in r) (range_with_len 0 count))) where
    abbrev records_of : ℕ → Y
    records_of = look_up (λ (e : DevId × X). slip_key e.0) (λ (e : DevId × X). value e.1) none row

    abbrev mirrors : List ℕ
    mirrors = filter (has_mirror_in r) (range_with_len 0 count)

    records_apart : AreDistinct (map (λ (e : DevId × X). slip_key e.0) row)
    records_apart = subst AreDistinct (sym keys) (numbers_apart (λ d. 2 * d + 1) odd_apart (has_mirror_in r) 0 count)

    pub all_records : {F : Type 0} (final : Y → F) → map {B = DevId × F} (λ (e : DevId × X). (e.0, final (value e.1))) row
        ≡ map {B = DevId × F} (λ n. (device_at n, final (records_of (2 * n + 1)))) mirrors
    all_records {F} final =
        pairs (λ (e : DevId × X). slip_key e.0) (λ (e : DevId × X). e.0) (λ (e : DevId × X). final (value e.1)) (λ d. 2 * d + 1) device_at (λ n. final (records_of (2 * n + 1)))
        (λ e n is. slip_named e.0 n is) row mirrors keys
        (sym (map-map final (λ (e : DevId × X). value e.1) row)
        ∙ ap (map final) (looked (λ (e : DevId × X). slip_key e.0) (λ (e : DevId × X). value e.1) none row records_apart ∙ ap (map records_of) keys)
        ∙ map-map final records_of (map slip_index mirrors) ∙ map-map (λ n. final (records_of n)) slip_index mirrors)

  -- the row of disks
  module _ {E Y : Type 0} (key : E → ℕ) (value : E → Y) (none : ℕ → Y) (row : List E)
      (keys : map key row ≡ map itself (filter (is_disk (routing_setup r)) (range_with_len 0 count))) where
    pub all_disks : map value row ≡ map (look_up key value none row) (filter (is_disk (routing_setup r)) (range_with_len 0 count))
    all_disks =
        looked key value none row (subst AreDistinct (sym keys) (numbers_apart itself by_itself (is_disk (routing_setup r)) 0 count))
        ∙ ap (map (look_up key value none row)) keys
        ∙ map-map (look_up key value none row) itself (filter (is_disk (routing_setup r)) (range_with_len 0 count))
