-- Beginnings of one history, the calls of some seats in them, and the runs of a machine.
use Rattle.std.proofs.Common.{◌≡◌, ℕ, zero, suc, ◌+◌, ◌≤◌, ◌<◌, Bool, true, false, cond, List, [], ◌∷◌, ◌++◌, All, arith, refl, sym, ◌∙◌, ap, subst, length, eqb, ne_eqb, nat_lt}
use Rattle.std.specs.Prelude.{if◌then◌else◌}
use Rattle.std.proofs.lemmas.List.{append-nil, append_assoc, length-append}
use Rattle.std.proofs.lemmas.List.Elements.{filter-append}
use Rattle.std.proofs.lemmas.List.Sums.{sum_by-append, sum_by-cons}
use Rattle.std.proofs.lemmas.Bool.{lt-ltb, le-ltb, ltb-true, ltb-false}
use Rattle.seat_lock.specs.declared.view.Entry.{Entry}
use Rattle.seat_lock.specs.History.{indicator, count, IsPrefix, calls_by, longer, ContinuesOn, PartsContinue, Leads, EachInPlace}

-- numbers
pub count_one : (x y : ℕ) → count x (y ∷ []) ≡ indicator (eqb y x)
count_one x y = omega (arith, sum_by-cons (λ (z : ℕ). indicator (eqb z x)) y [])

pub count_append : (x : ℕ) (ns ms : List ℕ) → count x (ns ++ ms) ≡ count x ns + count x ms
count_append x ns ms = sum_by-append (λ (z : ℕ). indicator (eqb z x)) ns ms

pub all_one : {B : Type 0} (P : B → Type 0) (x : B) → P x → All P (x ∷ [])
all_one P x p zero d h = p
all_one P x p (suc k) d h = absurd (omega arith)

module _ {A R : Type 0} where
  abbrev is_by : List ℕ → Entry A R → Bool
  is_by ns e = nat_lt 0 (count e.by ns)

  pub calls_by-append : (ns : List ℕ) (xs ys : List (Entry A R)) → calls_by ns (xs ++ ys) ≡ calls_by ns xs ++ calls_by ns ys
  calls_by-append ns xs ys = filter-append (is_by ns) xs ys

  pub call_is_own : (ns : List ℕ) (e : Entry A R) → count e.by ns ≡ 1 → calls_by ns (e ∷ []) ≡ e ∷ []
  call_is_own ns e h = ap (λ b. cond b (e ∷ []) []) (lt-ltb 0 (count e.by ns) (omega arith))

  pub call_is_other : (ns : List ℕ) (e : Entry A R) → count e.by ns ≡ 0 → calls_by ns (e ∷ []) ≡ []
  call_is_other ns e h = ap (λ b. cond b (e ∷ []) []) (le-ltb 0 (count e.by ns) (omega arith))

  pub prefix_snoc : (xs log : List (Entry A R)) (e : Entry A R) → IsPrefix xs log → IsPrefix xs (log ++ e ∷ [])
  prefix_snoc xs log e p = (p.0 ++ e ∷ [], ap (λ l. l ++ e ∷ []) p.1 ∙ append_assoc xs p.0 (e ∷ []))

  pub prefix_same : (xs : List (Entry A R)) → IsPrefix xs xs
  prefix_same xs = ([], sym (append-nil xs))

  pub none_of : (n : ℕ) (xs : List (Entry A R)) → All (λ (e : Entry A R). e.by < n) xs → calls_by (n ∷ []) xs ≡ []
  none_of n [] a = refl
  none_of n (x ∷ xs) a =
      let below : x.by < n = a 0 x (omega arith) in
      let zero_of : count x.by (n ∷ []) ≡ 0 = count_one x.by n ∙ ap indicator (ne_eqb n x.by (λ h. omega arith)) in
      ap (λ b. cond b (x ∷ calls_by (n ∷ []) xs) (calls_by (n ∷ []) xs)) (le-ltb 0 (count x.by (n ∷ [])) (omega arith)) ∙ none_of n xs (λ k d h. a (suc k) d (omega arith))

  pub nil_left : (xs ys : List (Entry A R)) → xs ++ ys ≡ [] → xs ≡ []
  nil_left [] ys h = refl
  nil_left (x ∷ xs) ys h = cc

  nil_right : (xs ys : List (Entry A R)) → xs ++ ys ≡ [] → ys ≡ []
  nil_right [] ys h = h
  nil_right (x ∷ xs) ys h = cc

  abbrev tail_of : List (Entry A R) → List (Entry A R)
  tail_of [] = []
  tail_of (x ∷ xs) = xs

  abbrev first_or : Entry A R → List (Entry A R) → Entry A R
  first_or d [] = d
  first_or d (x ∷ xs) = x

  pub shorter_prefix : (xs ys log : List (Entry A R)) → IsPrefix xs log → IsPrefix ys log → length xs ≤ length ys → IsPrefix xs ys
  shorter_prefix [] ys log p q h = (ys, refl)
  shorter_prefix (x ∷ xs) [] log p q h = absurd (omega arith)
  shorter_prefix (x ∷ xs) (y ∷ ys) [] p q h = cc
  shorter_prefix (x ∷ xs) (y ∷ ys) (l ∷ log) p q h =
      let r = shorter_prefix xs ys log (p.0, ap tail_of p.1) (q.0, ap tail_of q.1) (omega arith) in
      let same : y ≡ x = sym (ap (first_or l) q.1) ∙ ap (first_or l) p.1 in
      (r.0, ap (λ z. z ∷ ys) same ∙ ap (λ zs. x ∷ zs) r.1)

  abbrev picked : Bool → List (Entry A R) → List (Entry A R) → List (Entry A R)
  picked b xs ys = if b then ys else xs

  by_length : (xs ys log : List (Entry A R)) → IsPrefix xs log → IsPrefix ys log → (b : Bool) → nat_lt (length xs) (length ys) ≡ b → IsPrefix xs (picked b xs ys) × IsPrefix ys (picked b xs ys) × IsPrefix (picked b xs ys) log
  by_length xs ys log p q true e = (shorter_prefix xs ys log p q (let h = ltb-true (length xs) (length ys) e in omega arith), prefix_same ys, q)
  by_length xs ys log p q false e = (prefix_same xs, shorter_prefix ys xs log q p (ltb-false (length xs) (length ys) e), p)

  pub longer_is : (xs ys log : List (Entry A R)) → IsPrefix xs log → IsPrefix ys log → IsPrefix xs (longer xs ys) × IsPrefix ys (longer xs ys) × IsPrefix (longer xs ys) log
  longer_is xs ys log p q = by_length xs ys log p q (nat_lt (length xs) (length ys)) refl

  empty_of : (xs : List (Entry A R)) → length xs ≡ 0 → xs ≡ []
  empty_of [] h = refl
  empty_of (x ∷ xs) h = absurd (omega arith)

  -- where a later history has no further call of these numbers, what came behind the earlier one has none
  pub nothing_since : (ns : List ℕ) (xs ys : List (Entry A R)) (p : IsPrefix xs ys) → calls_by ns ys ≡ calls_by ns xs → calls_by ns p.0 ≡ []
  nothing_since ns xs ys p e =
      let a : calls_by ns ys ≡ calls_by ns xs ++ calls_by ns p.0 = ap (calls_by ns) p.1 ∙ calls_by-append ns xs p.0 in
      let la = ap length a in
      let le = ap length e in
      let lens = length-append (calls_by ns xs) (calls_by ns p.0) in
      empty_of (calls_by ns p.0) (omega arith)

  -- and the other way round
  pub none_more : (ns : List ℕ) (xs ys : List (Entry A R)) (p : IsPrefix xs ys) → calls_by ns p.0 ≡ [] → calls_by ns ys ≡ calls_by ns xs
  none_more ns xs ys p none = ap (calls_by ns) p.1 ∙ calls_by-append ns xs p.0 ∙ ap (λ l. calls_by ns xs ++ l) none ∙ append-nil (calls_by ns xs)

  abbrev pub prefix_on : (xs ys zs : List (Entry A R)) → IsPrefix xs ys → IsPrefix ys zs → IsPrefix xs zs
  prefix_on xs ys zs p q = (p.0 ++ q.0, q.1 ∙ ap (λ l. l ++ q.0) p.1 ∙ append_assoc xs p.0 q.0)

  -- a history between two that have the same calls of these numbers has them too, and nothing of them follows
  pub squeeze : (ns : List ℕ) (xs zs log : List (Entry A R)) → IsPrefix xs zs → (q : IsPrefix zs log) → calls_by ns log ≡ calls_by ns xs → (calls_by ns zs ≡ calls_by ns xs) × (calls_by ns q.0 ≡ [])
  squeeze ns xs zs log p q e =
      let none : calls_by ns p.0 ++ calls_by ns q.0 ≡ [] = sym (calls_by-append ns p.0 q.0) ∙ nothing_since ns xs log (prefix_on xs zs log p q) e in
      (none_more ns xs zs p (nil_left (calls_by ns p.0) (calls_by ns q.0) none), nil_right (calls_by ns p.0) (calls_by ns q.0) none)

  pick_none : (b : Bool) (x : Entry A R) (es : List (Entry A R)) → cond b (x ∷ es) es ≡ [] → (b ≡ false) × (es ≡ [])
  pick_none true x es h = cc
  pick_none false x es h = (refl, h)

  -- seats that made no call make none together, and the other way round
  pub nothing : (ns ms : List ℕ) (xs : List (Entry A R)) → calls_by ns xs ≡ [] → calls_by ms xs ≡ [] → calls_by (ns ++ ms) xs ≡ []
  nothing ns ms [] h k = refl
  nothing ns ms (x ∷ xs) h k =
      let a = pick_none (is_by ns x) x (calls_by ns xs) h in
      let b = pick_none (is_by ms x) x (calls_by ms xs) k in
      let none : count x.by (ns ++ ms) ≡ 0 = omega (arith, count_append x.by ns ms, ltb-false 0 (count x.by ns) a.0, ltb-false 0 (count x.by ms) b.0) in
      ap (λ c. cond c (x ∷ calls_by (ns ++ ms) xs) (calls_by (ns ++ ms) xs)) (le-ltb 0 (count x.by (ns ++ ms)) (omega arith)) ∙ nothing ns ms xs a.1 b.1

  pub nothing_apart : (ns ms : List ℕ) (xs : List (Entry A R)) → calls_by (ns ++ ms) xs ≡ [] → (calls_by ns xs ≡ []) × (calls_by ms xs ≡ [])
  nothing_apart ns ms [] h = (refl, refl)
  nothing_apart ns ms (x ∷ xs) h =
      let a = pick_none (is_by (ns ++ ms) x) x (calls_by (ns ++ ms) xs) h in
      let rest = nothing_apart ns ms xs a.1 in
      let none : count x.by ns + count x.by ms ≤ 0 = omega (arith, count_append x.by ns ms, ltb-false 0 (count x.by (ns ++ ms)) a.0) in (
        ap (λ c. cond c (x ∷ calls_by ns xs) (calls_by ns xs)) (le-ltb 0 (count x.by ns) (omega arith)) ∙ rest.0,
        ap (λ c. cond c (x ∷ calls_by ms xs) (calls_by ms xs)) (le-ltb 0 (count x.by ms) (omega arith)) ∙ rest.1,
      )

  -- where each call is of one of the numbers, all calls are
  pub all_calls : (ns : List ℕ) (xs : List (Entry A R)) → All (λ (e : Entry A R). count e.by ns ≡ 1) xs → calls_by ns xs ≡ xs
  all_calls ns [] a = refl
  all_calls ns (x ∷ xs) a =
      let one : count x.by ns ≡ 1 = a 0 x (omega arith) in
      ap (λ b. cond b (x ∷ calls_by ns xs) (calls_by ns xs)) (lt-ltb 0 (count x.by ns) (omega arith)) ∙ ap (λ l. x ∷ l) (all_calls ns xs (λ k d h. a (suc k) d (omega arith)))

  pub all_none : (xs : List (Entry A R)) → calls_by [] xs ≡ []
  all_none [] = refl
  all_none (x ∷ xs) = all_none xs

  pub all_prefix : (ns : List ℕ) (xs log : List (Entry A R)) → IsPrefix xs log → All (λ (e : Entry A R). count e.by ns ≡ 1) log → calls_by ns xs ≡ xs
  all_prefix ns [] log p a = refl
  all_prefix ns (x ∷ xs) [] p a = cc
  all_prefix ns (x ∷ xs) (l ∷ log) p a =
      let same : l ≡ x = ap (first_or l) p.1 in
      let one : count x.by ns ≡ 1 = ap (λ (e : Entry A R). count e.by ns) (sym same) ∙ a 0 l (omega arith) in
      ap (λ b. cond b (x ∷ calls_by ns xs) (calls_by ns xs)) (lt-ltb 0 (count x.by ns) (omega arith)) ∙ ap (λ h. x ∷ h) (all_prefix ns xs log (p.0, ap tail_of p.1) (λ k d h. a (suc k) d (omega arith)))

module _ {D A R : Type 0} (answers : D → A → R → D → Type 0) where
  -- one more call
  pub leads_snoc : (d m d' : D) (log : List (Entry A R)) (e : Entry A R) → Leads answers d log m → answers m e.asked e.told d' → Leads answers d (log ++ e ∷ []) d'
  leads_snoc d m d' [] e l s = (d', subst (λ x. answers x e.asked e.told d') (sym l) s, refl)
  leads_snoc d m d' (x ∷ xs) e l s = (l.0, l.1, leads_snoc l.0 m d' xs e l.2 s)

  pub each_in_place : EachInPlace answers
  each_in_place before after [] later call run = (before, run.0, refl, run.1, run.2)
  each_in_place before after (x ∷ xs) later call run =
      let rest = each_in_place run.0 after xs later call run.2 in
      (rest.0, rest.1, (run.0, run.1, rest.2), rest.3, rest.4)

module _ (A R : Type 0) where
  pub continues_on : ContinuesOn A R
  continues_on ns xs ys zs p q = (prefix_on xs ys zs p.0 q.0, q.1 ∙ p.1)

  pub parts_continue : PartsContinue A R
  parts_continue ns ms xs ys h =
      let none = nothing_apart ns ms h.0.0 (nothing_since (ns ++ ms) xs ys h.0 h.1) in
      ((h.0, none_more ns xs ys h.0 none.0), (h.0, none_more ms xs ys h.0 none.1))
