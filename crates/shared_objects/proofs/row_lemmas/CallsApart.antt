-- Calls by those who made them, and names each once.
use Rattle.std.proofs.Common.{◌≡◌, ◌<◌, ◌≤◌, ◌+◌, ◌-◌, ◌==◌, ◌||◌, not, ℕ, zero, suc, Bool, true, false, cond, List, [], ◌∷◌, ◌++◌, All, arith, refl, sym, ◌∙◌, ap, subst, length, eqb, nat_lt, true≢false}
use Rattle.std.specs.Prelude.{filter}
use Rattle.std.specs.List.{list_any}
use Rattle.std.proofs.lemmas.Bool.{lt-ltb}
use Rattle.seat_lock.specs.declared.view.Entry.{Entry}
use Rattle.seat_lock.specs.History.{count, indicator, calls_by}
use Rattle.seat_lock.proofs.Histories.{count_one}
use Rattle.shared_objects.specs.Names.{Apart, once}

module _ {X : Type 0} (Q : X → Type 0) where
  pub all_more : (x : X) (xs : List X) → Q x → All Q xs → All Q (x ∷ xs)
  all_more x xs here rest zero d lt = here
  all_more x xs here rest (suc k) d lt = rest k d (omega (arith, lt))

  head_of : (x : X) (xs : List X) → All Q (x ∷ xs) → Q x
  head_of x xs all = all 0 x (omega arith)

  tail_of : (x : X) (xs : List X) → All Q (x ∷ xs) → All Q xs
  tail_of x xs all k d lt = all (suc k) d (omega (arith, lt))

  -- of what is picked, the first and the others
  pub picked_first : (p : X → Bool) (x : X) (xs : List X) → p x ≡ true → All Q (filter p (x ∷ xs)) → Q x
  picked_first p x xs is all = head_of x (filter p xs) (subst (All Q) (ap (λ b. cond b (x ∷ filter p xs) (filter p xs)) is) all)

  pub picked_rest : (p : X → Bool) (x : X) (xs : List X) → All Q (filter p (x ∷ xs)) → All Q (filter p xs)
  picked_rest p x xs all = by_case (p x) refl
    where
      by_case : (b : Bool) → p x ≡ b → All Q (filter p xs)
      by_case true is = tail_of x (filter p xs) (subst (All Q) (ap (λ b. cond b (x ∷ filter p xs) (filter p xs)) is) all)
      by_case false is = subst (All Q) (ap (λ b. cond b (x ∷ filter p xs) (filter p xs)) is) all

module _ {A R : Type 0} (Q : Entry A R → Type 0) (n : ℕ) where
  -- what the calls of each task have, all calls have that tasks made
  pub all_by_tasks : (history : List (Entry A R)) → All (λ call. (0 < call.by) × (call.by ≤ n)) history
      → ((k : ℕ) → k < n → All Q (calls_by ((k + 1) ∷ []) history)) → All Q history
  all_by_tasks [] by each = λ k d lt. absurd (omega (arith, lt))
  all_by_tasks (call ∷ calls) by each =
      all_more Q call calls here
      (all_by_tasks calls (tail_of (λ c. (0 < c.by) × (c.by ≤ n)) call calls by)
      (λ k lt. picked_rest Q (λ (c : Entry A R). nat_lt 0 (count c.by ((k + 1) ∷ []))) call calls (each k lt)))
    where
      here : Q call
      here =
          let one = head_of (λ c. (0 < c.by) × (c.by ≤ n)) call calls by in
          let some = one.0 in let few = one.1 in
          let back : call.by - 1 + 1 ≡ call.by = omega (arith, some) in
          let mine : 0 < count call.by ((call.by - 1 + 1) ∷ []) = subst (λ k. 0 < count call.by (k ∷ [])) (sym back) (subst (λ m. 0 < m) (sym (count_one call.by call.by ∙ ap indicator (same call.by))) (omega arith)) in
          picked_first Q (λ (c : Entry A R). nat_lt 0 (count c.by ((call.by - 1 + 1) ∷ []))) call calls (lt-ltb 0 (count call.by ((call.by - 1 + 1) ∷ [])) mine)
          (each (call.by - 1) (omega (arith, some, few)))
        where
          same : (m : ℕ) → eqb m m ≡ true
          same m = search arith

-- names, each once
module _ {X : Type 0} (same : X → X → Bool) (self : (x : X) → same x x ≡ true) (is : (x y : X) → same x y ≡ true → x ≡ y) where
  -- what is not in a list is in no part of it
  not_picked : (p q : X → Bool) (xs : List X) → list_any p xs ≡ false → list_any p (filter q xs) ≡ false
  not_picked p q [] none = none
  not_picked p q (x ∷ xs) none = by_case (p x) (q x) refl refl (λ rest. not_picked p q xs rest)
    where
      by_case : (a b : Bool) → p x ≡ a → q x ≡ b → (list_any p xs ≡ false → list_any p (filter q xs) ≡ false) → list_any p (filter q (x ∷ xs)) ≡ false
      by_case true b e f later = absurd (true≢false (sym (ap (λ c. c || list_any p xs) e) ∙ none))
      by_case false true e f later = rw (f, e) (later (sym (ap (λ c. c || list_any p xs) e) ∙ none))
      by_case false false e f later = rw (f) (later (sym (ap (λ c. c || list_any p xs) e) ∙ none))

  struck_out : (p : X → Bool) (xs : List X) → list_any p (filter (λ y. not (p y)) xs) ≡ false
  struck_out p [] = refl
  struck_out p (x ∷ xs) = by_case (p x) refl (struck_out p xs)
    where
      by_case : (b : Bool) → p x ≡ b → list_any p (filter (λ y. not (p y)) xs) ≡ false → list_any p (filter (λ y. not (p y)) (x ∷ xs)) ≡ false
      by_case true e later = rw (e) later
      by_case false e later = rw (e, e) later

  apart_picked : (q : X → Bool) (xs : List X) → Apart same xs → Apart same (filter q xs)
  apart_picked q [] apart = tt
  apart_picked q (x ∷ xs) apart = by_case (q x) refl (apart_picked q xs apart.1)
    where
      by_case : (b : Bool) → q x ≡ b → Apart same (filter q xs) → Apart same (filter q (x ∷ xs))
      by_case true e later = rw (e) (not_picked (same x) q xs apart.0, later)
      by_case false e later = rw (e) later

  pub once_apart : (xs : List X) → Apart same (once same xs)
  once_apart [] = tt
  once_apart (x ∷ xs) = (struck_out (same x) (once same xs), apart_picked (λ y. not (same x y)) (once same xs) (once_apart xs))

  -- a name that is not there once is not there at all
  kept : (n x : X) (xs : List X) → same n x ≡ false → list_any (same n) (filter (λ y. not (same x y)) xs) ≡ false → list_any (same n) xs ≡ false
  kept n x [] other none = refl
  kept n x (y ∷ ys) other none = by_case (same n y) (same x y) refl refl none (λ rest. kept n x ys other rest)
    where
      by_case : (a b : Bool) → same n y ≡ a → same x y ≡ b → list_any (same n) (filter (λ z. not (same x z)) (y ∷ ys)) ≡ false
          → (list_any (same n) (filter (λ z. not (same x z)) ys) ≡ false → list_any (same n) ys ≡ false) → list_any (same n) (y ∷ ys) ≡ false
      by_case true true e f here later =
          let whole : n ≡ x = is n y e ∙ sym (is x y f) in
          absurd (true≢false (sym (subst (λ m. same n m ≡ true) whole (self n)) ∙ other))
      by_case true false e f here later = absurd (true≢false (cc (rw (f, e) at here)))
      by_case false true e f here later = rw (e) (later (rw (f) at here))
      by_case false false e f here later = rw (e) (later (rw (f, e) at here))

  pub not_once : (n : X) (xs : List X) → list_any (same n) (once same xs) ≡ false → list_any (same n) xs ≡ false
  not_once n [] none = none
  not_once n (x ∷ xs) none = by_case (same n x) refl none (λ rest. not_once n xs rest)
    where
      by_case : (b : Bool) → same n x ≡ b → list_any (same n) (once same (x ∷ xs)) ≡ false → (list_any (same n) (once same xs) ≡ false → list_any (same n) xs ≡ false)
          → list_any (same n) (x ∷ xs) ≡ false
      by_case true e here later = absurd (true≢false (rw (e) at here))
      by_case false e here later = rw (e) (later (kept n x (once same xs) e (rw (e) at here)))
