-- Rows of pools are walked from the last device to the first.
use Rattle.std.proofs.Common.{◌≡◌, ◌≢◌, ◌⊎◌, ◌+◌, ◌-◌, ◌<◌, ◌++◌, cond, ℕ, zero, suc, Bool, true, false, List, [], ◌∷◌, length, drop, take, get_or, inl, inr, refl, sym, ap, ◌∙◌, subst, arith}
use Rattle.std.specs.Prelude.{All, slice_get, Option, Some}
use Rattle.std.specs.Option.{option_map_or}
use Rattle.std.proofs.Math.Seq.{get_or-append_seam}
use Rattle.std.proofs.lemmas.Option.{slice_get-get_or}
use Rattle.std.proofs.lemmas.List.{append_assoc, append-nil, length-append, map-append, same_from_push}
use Rattle.std.proofs.lemmas.List.Elements.{All-nil, All-cons, All-append, All-weaker, All-contains, Contains-push}
use Rattle.stack_base.specs.declared.ids.DevId.{DevId}
use Rattle.stack_base.specs.declared.ids.PoolId.{PoolId}
use Rattle.stack_base.specs.declared.ids.PoolId.TheVariants.{Bios, Records}
use Rattle.stack_base.specs.declared.ids.SetId.{SetId}
use Rattle.stack_base.specs.declared.ids.SetId.TheVariants.{Fs, Of}
use Rattle.stack_base.proofs.ListLemmas.{first_or, behind_first}
use Rattle.mempool_core.specs.declared.Facts.{Facts}
use Rattle.run_machine.specs.Opened.{device_at}
use Rattle.run_merge.specs.Falling.{DevicePools, row_of, at_number, below, sets_below, records_below, with_facts, falling_below, MovesLast, MovesIf}

-- a list is empty or has a last element
pub parted : {A : Type 0} (xs : List A) → (xs ≡ []) ⊎ ((rest : List A) × (last : A) × (xs ≡ rest ++ last ∷ []))
parted [] = inl refl
parted {A} (x ∷ xs) = by_rest (parted xs)
  where
    by_rest : (xs ≡ []) ⊎ ((rest : List A) × (last : A) × (xs ≡ rest ++ last ∷ [])) → (x ∷ xs ≡ []) ⊎ ((rest : List A) × (last : A) × (x ∷ xs ≡ rest ++ last ∷ []))
    by_rest (inl none) = inr ([], x, ap (λ l. x ∷ l) none)
    by_rest (inr (rest, last, is)) = inr (x ∷ rest, last, ap (λ l. x ∷ l) is)

not_empty : {A X : Type 0} (xs : List A) (x : A) → [] ≡ xs ++ x ∷ [] → X
not_empty xs x is = absurd (let long = ap length is in let more = length-append xs (x ∷ []) in omega (arith, long, more))

module _ {K X : Type 0} (facts : X → Facts) (has : ℕ → Bool) (key : ℕ → K) (own : ℕ → Facts) (name : ℕ → PoolId)
    (apart : (m n : ℕ) → key m ≡ key n → m ≡ n) where
  abbrev entry : ℕ → K × Facts
  entry n = (key n, own n)

  abbrev IsBelow : ℕ → K × Facts → Type 0
  IsBelow n e = (m : ℕ) × (m < n) × (e.0 ≡ key m)

  one_below : (n : ℕ) (b : Bool) → All (IsBelow (suc n)) (cond b (entry n ∷ []) [])
  one_below n true = All-cons (IsBelow (suc n)) (entry n) [] (n, omega arith, refl) (All-nil (IsBelow (suc n)))
  one_below n false = All-nil (IsBelow (suc n))

  all_below : (n : ℕ) → All (IsBelow n) (below has entry n)
  unfolding below
  all_below zero = All-nil (IsBelow 0)
  all_below (suc n) =
      All-append (IsBelow (suc n)) (below has entry n) (at_number has entry n)
      (All-weaker (IsBelow n) (IsBelow (suc n)) (λ e of. (of.0, let lt = of.1 in omega (arith, lt), of.2)) (below has entry n) (all_below n)) (one_below n (has n))

  row_split : (old rest : List (K × X)) (last : K × X) → old ≡ rest ++ last ∷ [] → row_of facts old ≡ row_of facts rest ++ (last.0, facts last.1) ∷ []
  row_split old rest last is = ap (row_of facts) is ∙ map-append (λ (e : K × X). (e.0, facts e.1)) rest (last ∷ [])

  module _ (n : ℕ) (old new : List (K × X)) (before after : List (PoolId × Facts)) where
    Reached : Bool → Type 0
    Reached b = (row_of facts new ≡ below has entry n) × (after ≡ before ++ cond b ((name n, own n) ∷ []) [])

    taken : row_of facts old ≡ below has entry n ++ entry n ∷ [] → MovesLast facts (name n) old before new after
        → (row_of facts new ≡ below has entry n) × (after ≡ before ++ (name n, own n) ∷ [])
    taken is move =
        let same = same_from_push (row_of facts new) (below has entry n) (move.last.0, facts move.last.1) (entry n) (sym (row_split old new move.last move.was) ∙ is) in
        (same.0, move.added ∙ ap (λ (e : K × Facts). before ++ (name n, e.1) ∷ []) same.1)

    there : row_of facts old ≡ below has entry n ++ entry n ∷ [] → ((rest : List (K × X)) (last : K × X) → old ≡ rest ++ last ∷ [] → last.0 ≢ key n) → ⊥
    there is none = by_parts (parted old)
      where
        by_parts : (old ≡ []) ⊎ ((rest : List (K × X)) × (last : K × X) × (old ≡ rest ++ last ∷ [])) → ⊥
        by_parts (inl empty) = not_empty (below has entry n) (entry n) (sym (ap (row_of facts) empty) ∙ is)
        by_parts (inr (rest, last, was)) =
            none rest last was
            (ap (λ (e : K × Facts). e.0) (same_from_push (row_of facts rest) (below has entry n) (last.0, facts last.1) (entry n) (sym (row_split old rest last was) ∙ is)).1)

    not_there : row_of facts old ≡ below has entry n → (move : MovesLast facts (name n) old before new after) → move.last.0 ≡ key n → ⊥
    not_there is move keyed =
        let split = sym is ∙ row_split old new move.last move.was in
        let all = subst (All (IsBelow n)) split (all_below n) in
        let of = All-contains (IsBelow n) (row_of facts new ++ (move.last.0, facts move.last.1) ∷ []) (move.last.0, facts move.last.1) all (Contains-push (row_of facts new) (move.last.0, facts move.last.1)) in
        let lt = of.1 in
        let same = apart of.0 n (sym of.2 ∙ keyed) in
        omega (arith, lt, same)

    pub one_step : row_of facts old ≡ below has entry (suc n) → MovesIf facts (key n) (name n) old before new after
        → (row_of facts new ≡ below has entry n) × (after ≡ before ++ at_number has (λ k. (name k, own k)) n)
    unfolding below
    one_step is moves = by_test (has n) is moves
      where
        by_test : (b : Bool) → row_of facts old ≡ below has entry n ++ cond b (entry n ∷ []) [] → MovesIf facts (key n) (name n) old before new after
            → (row_of facts new ≡ below has entry n) × (after ≡ before ++ cond b ((name n, own n) ∷ []) [])
        by_test true is (inl (move, keyed)) = taken is move
        by_test true is (inr (none, same, stays)) = absurd (there is none)
        by_test false is (inl (move, keyed)) = absurd (not_there (is ∙ append-nil (below has entry n)) move keyed)
        by_test false is (inr (none, same, stays)) = (ap (row_of facts) same ∙ is ∙ append-nil (below has entry n), stays ∙ sym (append-nil before))

sets_apart : (m n : ℕ) → Of (device_at m) ≡ Of (device_at n) → m ≡ n
sets_apart m n is = ap number is
  where
    number : SetId → ℕ
    number Fs = 0
    number (Of dev) = dev.0

devices_apart : (m n : ℕ) → device_at m ≡ device_at n → m ≡ n
devices_apart m n is = ap (λ (dev : DevId). dev.0) is

-- all pools of the devices from a number on are behind others, and those below it are still in their rows
module _ {X Y : Type 0} (bio_facts : X → Facts) (record_facts : Y → Facts) (most : ℕ) (bios : List (SetId × X)) (records : List (DevId × Y))
    (start : List (PoolId × Facts)) where
  pub record AreReached (pools : DevicePools) (number : ℕ) (bios_left : List (SetId × X)) (records_left : List (DevId × Y)) (now : List (PoolId × Facts)) : Type 0 where
    pub sets : row_of bio_facts bios_left ≡ sets_below pools number
    pub slips : row_of record_facts records_left ≡ records_below pools number
    pub added : now ++ falling_below pools number ≡ start ++ falling_below pools most

  abbrev pub Reaches : ℕ → List (SetId × X) → List (DevId × Y) → List (PoolId × Facts) → Type 0
  Reaches number bios_left records_left now =
      (pools : DevicePools) → row_of bio_facts bios ≡ sets_below pools most → row_of record_facts records ≡ records_below pools most
      → AreReached pools number bios_left records_left now

  pub none_reached : Reaches most bios records start
  none_reached pools sets slips = record { sets = sets; slips = slips; added = refl }

  pub one_reached : (n m : ℕ) → m ≡ n + 1 → (bios_left bios_new : List (SetId × X)) (records_left records_new : List (DevId × Y)) (now between new : List (PoolId × Facts))
      → Reaches m bios_left records_left now → MovesIf record_facts (device_at n) (Records (device_at n)) records_left now records_new between
      → MovesIf bio_facts (Of (device_at n)) (Bios (device_at n)) bios_left between bios_new new → Reaches n bios_new records_new new
  unfolding falling_below
  one_reached n m next bios_left bios_new records_left records_new now between new reaches record_moves bio_moves pools sets slips =
      let was = subst (λ k. AreReached pools k bios_left records_left now) is_next (reaches pools sets slips) in
      let records_are = one_step record_facts pools.is_mirror device_at (λ k. pools.facts (Records (device_at k))) (λ k. Records (device_at k)) devices_apart n records_left records_new now between was.slips record_moves in
      let bios_are = one_step bio_facts pools.has_set (λ k. Of (device_at k)) (λ k. pools.facts (Bios (device_at k))) (λ k. Bios (device_at k)) sets_apart n bios_left bios_new between new was.sets bio_moves in
      record {
        sets = bios_are.0;
        slips = records_are.0;
        added = ap (λ l. l ++ falling_below pools n) (bios_are.1 ∙ ap (λ l. l ++ at_number pools.has_set (λ k. with_facts pools (Bios (device_at k))) n) records_are.1)
            ∙ append_assoc (now ++ at_number pools.is_mirror (λ k. with_facts pools (Records (device_at k))) n) (at_number pools.has_set (λ k. with_facts pools (Bios (device_at k))) n) (falling_below pools n)
            ∙ append_assoc now (at_number pools.is_mirror (λ k. with_facts pools (Records (device_at k))) n)
            (at_number pools.has_set (λ k. with_facts pools (Bios (device_at k))) n ++ falling_below pools n)
            ∙ was.added;
      }
    where
      is_next : m ≡ suc n
      is_next = omega (arith, next)

  -- where none is left, all are there
  pub all_reached : (n : ℕ) → n ≡ 0 → (bios_left : List (SetId × X)) (records_left : List (DevId × Y)) (now : List (PoolId × Facts)) → Reaches n bios_left records_left now
      → (pools : DevicePools) → row_of bio_facts bios ≡ sets_below pools most → row_of record_facts records ≡ records_below pools most
      → now ≡ start ++ falling_below pools most
  unfolding falling_below
  all_reached n none bios_left records_left now reaches pools sets slips =
      sym (append-nil now) ∙ sym (ap (λ k. now ++ falling_below pools k) none) ∙ (reaches pools sets slips).added

-- what is read as the last of a row is its last
module _ {A : Type 0} where
  pub last_is : (old rest : List A) (m l : A) → old ≡ rest ++ m ∷ [] → Some l ≡ slice_get old (length old - 1) → l ≡ m
  last_is old rest m l was read =
      ap (λ (o : Option A). option_map_or (λ x. x) o l)
      (read ∙ ap (λ xs. slice_get xs (length xs - 1)) was ∙ ap (slice_get (rest ++ m ∷ [])) at
      ∙ slice_get-get_or (rest ++ m ∷ []) (length rest) m inside ∙ ap (λ x. Some x) (get_or-append_seam rest m [] m))
    where
      at : length (rest ++ m ∷ []) - 1 ≡ length rest
      at = let long = length-append rest (m ∷ []) in omega (arith, long)

      inside : length rest < length (rest ++ m ∷ [])
      inside = let long = length-append rest (m ∷ []) in omega (arith, long)

-- what leaves a row comes to stand behind others
pub as_many : {K X : Type 0} (facts : X → Facts) (key : K) (pool : PoolId) (old new : List (K × X)) (before after : List (PoolId × Facts))
    → MovesIf facts key pool old before new after → length after + length new ≡ length before + length old
as_many facts key pool old new before after (inl (move, keyed)) =
    let was = ap length move.was in
    let one = length-append new (move.last ∷ []) in
    let added = ap length move.added in
    let more = length-append before ((pool, facts move.last.1) ∷ []) in
    omega (arith, was, one, added, more)
as_many facts key pool old new before after (inr (none, same, stays)) =
    let was = ap length same in
    let is = ap length stays in
    omega (arith, was, is)

-- the first of a row, and the rest
module _ {K X : Type 0} (facts : X → Facts) where
  pub first_and_rest : (row new : List (K × X)) (x : K × Facts) (xs : List (K × Facts)) (e : K × X) → row_of facts row ≡ x ∷ xs → 0 < length row → e ≡ get_or row 0 e
      → new ≡ take 0 row ++ drop 1 row → (facts e.1 ≡ x.1) × (row_of facts new ≡ xs)
  first_and_rest [] new x xs e are some is left = absurd (omega (arith, some))
  first_and_rest (y ∷ ys) new x xs e are some is left = (
    ap (λ (z : K × X). facts z.1) is ∙ ap (λ (l : List (K × Facts)). (first_or x l).1) are,
    ap (row_of facts) left ∙ ap behind_first are,
  )
