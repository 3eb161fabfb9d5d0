-- The order of tickets.
use Rattle.std.proofs.Common.{◌≡◌, ◌<◌, ◌≤◌, ◌++◌, cond, ℕ, Bool, true, false, nat_lt, List, [], ◌∷◌, refl, sym, ◌∙◌, ap, arith}
use Rattle.std.specs.Prelude.{filter, All}
use Rattle.std.proofs.lemmas.List.Elements.{All-head, All-tail, All-cons, All-nil}
use Rattle.std.proofs.lemmas.Bool.{lt-ltb, le-ltb, ltb-true, ltb-false}
use Rattle.run_merge.specs.Merging.{Ticketed, insert, sorted_by_ticket, RiseFrom}

abbrev pub Ordered : ℕ → List Ticketed → Type 0
Ordered n [] = Unit {0}
Ordered n (e ∷ es) = (n ≤ e.ticket) × Ordered e.ticket es

pub ordered_from : (m n : ℕ) (es : List Ticketed) → m ≤ n → Ordered n es → Ordered m es
ordered_from m n [] h o = tt
ordered_from m n (e ∷ es) h o = (let k = o.0 in omega (arith, h, k), o.1)

pub rises_ordered : (n : ℕ) (es : List Ticketed) → RiseFrom n es → Ordered n es
rises_ordered n [] r = tt
rises_ordered n (e ∷ es) r = (let k = r.0 in omega (arith, k), rises_ordered e.ticket es r.1)

-- before what has no smaller ticket
pub insert_front : (e : Ticketed) (es : List Ticketed) → Ordered e.ticket es → insert e es ≡ e ∷ es
insert_front e [] o = refl
insert_front e (x ∷ xs) o = ap (λ b. cond b (x ∷ insert e xs) (e ∷ x ∷ xs)) (le-ltb x.ticket e.ticket o.0)

inserted : (n : ℕ) (e x : Ticketed) (xs ys : List Ticketed) (b : Bool) → nat_lt x.ticket e.ticket ≡ b → n ≤ e.ticket → n ≤ x.ticket → Ordered x.ticket xs
    → (x.ticket ≤ e.ticket → Ordered x.ticket ys) → Ordered n (cond b (x ∷ ys) (e ∷ x ∷ xs))
inserted n e x xs ys true h l m o r = (m, r (let k = ltb-true x.ticket e.ticket h in omega (arith, k)))
inserted n e x xs ys false h l m o r = (l, (ltb-false x.ticket e.ticket h, o))

ordered_insert : (n : ℕ) (e : Ticketed) (es : List Ticketed) → n ≤ e.ticket → Ordered n es → Ordered n (insert e es)
ordered_insert n e [] l o = (l, tt)
ordered_insert n e (x ∷ xs) l o = inserted n e x xs (insert e xs) (nat_lt x.ticket e.ticket) refl l o.0 o.1 (λ k. ordered_insert x.ticket e xs k o.1)

pub sorted_ordered : (es : List Ticketed) → Ordered 0 (sorted_by_ticket es)
sorted_ordered [] = tt
sorted_ordered (e ∷ es) = ordered_insert 0 e (sorted_by_ticket es) (omega arith) (sorted_ordered es)

pub rising_sorted : (n : ℕ) (es : List Ticketed) → RiseFrom n es → sorted_by_ticket es ≡ es
rising_sorted n [] r = refl
rising_sorted n (e ∷ es) r = ap (insert e) (rising_sorted e.ticket es r.1) ∙ insert_front e es (rises_ordered e.ticket es r.1)

-- what is so of all entries is so of them in order
all_insert : (P : Ticketed → Type 0) (x : Ticketed) (xs : List Ticketed) → P x → All P xs → All P (insert x xs)
all_insert P x [] h a = All-cons P x [] h a
all_insert P x (y ∷ ys) h a = placed (nat_lt y.ticket x.ticket) (all_insert P x ys h (All-tail P y ys a))
  where
    placed : (b : Bool) → All P (insert x ys) → All P (cond b (y ∷ insert x ys) (x ∷ y ∷ ys))
    placed true i = All-cons P y (insert x ys) (All-head P y ys a) i
    placed false i = All-cons P x (y ∷ ys) h a

pub all_sorted : (P : Ticketed → Type 0) (xs : List Ticketed) → All P xs → All P (sorted_by_ticket xs)
all_sorted P [] a = a
all_sorted P (x ∷ xs) a = all_insert P x (sorted_by_ticket xs) (All-head P x xs a) (all_sorted P xs (All-tail P x xs a))

-- and what is so of them in order is so of all
of_insert : (P : Ticketed → Type 0) (x : Ticketed) (xs : List Ticketed) → All P (insert x xs) → P x × All P xs
of_insert P x [] a = (All-head P x [] a, All-nil P)
of_insert P x (y ∷ ys) a = placed (nat_lt y.ticket x.ticket) a (of_insert P x ys)
  where
    placed : (b : Bool) → All P (cond b (y ∷ insert x ys) (x ∷ y ∷ ys)) → (All P (insert x ys) → P x × All P ys) → P x × All P (y ∷ ys)
    placed true i more = let r = more (All-tail P y (insert x ys) i) in (r.0, All-cons P y ys (All-head P y (insert x ys) i) r.1)
    placed false i more = (All-head P x (y ∷ ys) i, All-tail P x (y ∷ ys) i)

pub of_sorted : (P : Ticketed → Type 0) (xs : List Ticketed) → All P (sorted_by_ticket xs) → All P xs
of_sorted P [] a = a
of_sorted P (x ∷ xs) a = let r = of_insert P x (sorted_by_ticket xs) a in All-cons P x xs r.0 (of_sorted P xs r.1)

module _ (p : Ticketed → Bool) where
  filtered : (n : ℕ) (x : Ticketed) (ys : List Ticketed) (b : Bool) → n ≤ x.ticket → Ordered x.ticket ys → Ordered n (cond b (x ∷ ys) ys)
  filtered n x ys true l o = (l, o)
  filtered n x ys false l o = ordered_from n x.ticket ys l o

  pub ordered_filter : (n : ℕ) (es : List Ticketed) → Ordered n es → Ordered n (filter p es)
  ordered_filter n [] o = tt
  ordered_filter n (e ∷ es) o = filtered n e (filter p es) (p e) o.0 (ordered_filter e.ticket es o.1)

  before_it : (e x : Ticketed) (fi f : List Ticketed) (be bx : Bool) → nat_lt x.ticket e.ticket ≡ true → fi ≡ cond be (insert e f) f
      → cond bx (x ∷ fi) fi ≡ cond be (insert e (cond bx (x ∷ f) f)) (cond bx (x ∷ f) f)
  before_it e x fi f true true h i = ap (λ l. x ∷ l) i ∙ sym (ap (λ b. cond b (x ∷ insert e f) (e ∷ x ∷ f)) h)
  before_it e x fi f true false h i = i
  before_it e x fi f false true h i = ap (λ l. x ∷ l) i
  before_it e x fi f false false h i = i

  pick : (e x : Ticketed) (xs : List Ticketed) (b : Bool) → nat_lt x.ticket e.ticket ≡ b → Ordered x.ticket xs
      → filter p (insert e xs) ≡ cond (p e) (insert e (filter p xs)) (filter p xs)
      → filter p (cond b (x ∷ insert e xs) (e ∷ x ∷ xs)) ≡ cond (p e) (insert e (filter p (x ∷ xs))) (filter p (x ∷ xs))
  pick e x xs true h o i = before_it e x (filter p (insert e xs)) (filter p xs) (p e) (p x) h i
  pick e x xs false h o i =
      ap (λ l. cond (p e) l (filter p (x ∷ xs))) (sym (insert_front e (filter p (x ∷ xs)) (ordered_filter e.ticket (x ∷ xs) (ltb-false x.ticket e.ticket h, o))))

  filter_insert : (n : ℕ) (e : Ticketed) (xs : List Ticketed) → Ordered n xs → filter p (insert e xs) ≡ cond (p e) (insert e (filter p xs)) (filter p xs)
  filter_insert n e [] o = refl
  filter_insert n e (x ∷ xs) o = pick e x xs (nat_lt x.ticket e.ticket) refl o.1 (filter_insert x.ticket e xs o.1)

  step : (e : Ticketed) (es : List Ticketed) (b : Bool) → filter p (sorted_by_ticket es) ≡ sorted_by_ticket (filter p es)
      → cond b (insert e (filter p (sorted_by_ticket es))) (filter p (sorted_by_ticket es)) ≡ sorted_by_ticket (cond b (e ∷ filter p es) (filter p es))
  step e es true i = ap (insert e) i
  step e es false i = i

  -- what is picked of all, in the order of tickets, is what was picked, in that order
  pub filter_sorted : (es : List Ticketed) → filter p (sorted_by_ticket es) ≡ sorted_by_ticket (filter p es)
  filter_sorted [] = refl
  filter_sorted (e ∷ es) = filter_insert 0 e (sorted_by_ticket es) (sorted_ordered es) ∙ step e es (p e) (filter_sorted es)

-- those with smaller tickets than this one
abbrev pub early : ℕ → List Ticketed → List Ticketed
early ticket es = filter (λ n. nat_lt n.ticket ticket) es

pub early_none : (ticket : ℕ) (es : List Ticketed) → All (λ n. ticket ≤ n.ticket) es → early ticket es ≡ []
early_none ticket [] a = refl
early_none ticket (e ∷ es) a =
    ap (λ b. cond b (e ∷ early ticket es) (early ticket es)) (le-ltb e.ticket ticket (All-head (λ (n : Ticketed). ticket ≤ n.ticket) e es a))
    ∙ early_none ticket es (All-tail (λ (n : Ticketed). ticket ≤ n.ticket) e es a)

pub early_all : (ticket : ℕ) (es : List Ticketed) → All (λ n. n.ticket < ticket) es → early ticket es ≡ es
early_all ticket [] a = refl
early_all ticket (e ∷ es) a =
    ap (λ b. cond b (e ∷ early ticket es) (early ticket es)) (lt-ltb e.ticket ticket (All-head (λ (n : Ticketed). n.ticket < ticket) e es a))
    ∙ ap (λ l. e ∷ l) (early_all ticket es (All-tail (λ (n : Ticketed). n.ticket < ticket) e es a))

pub early_few : (ticket : ℕ) (es : List Ticketed) → All (λ n. n.ticket < ticket) (early ticket es)
early_few ticket [] = All-nil (λ (n : Ticketed). n.ticket < ticket)
early_few ticket (e ∷ es) = by_test (nat_lt e.ticket ticket) refl (early_few ticket es)
  where
    by_test : (b : Bool) → nat_lt e.ticket ticket ≡ b → All (λ (n : Ticketed). n.ticket < ticket) (early ticket es)
        → All (λ (n : Ticketed). n.ticket < ticket) (cond b (e ∷ early ticket es) (early ticket es))
    by_test true is rest = All-cons (λ (n : Ticketed). n.ticket < ticket) e (early ticket es) (ltb-true e.ticket ticket is) rest
    by_test false is rest = rest

ordered_all : (ticket n : ℕ) (es : List Ticketed) → ticket ≤ n → Ordered n es → All (λ (x : Ticketed). ticket ≤ x.ticket) es
ordered_all ticket n [] le o = All-nil (λ (x : Ticketed). ticket ≤ x.ticket)
ordered_all ticket n (e ∷ es) le o =
    let more = o.0 in
    All-cons (λ (x : Ticketed). ticket ≤ x.ticket) e es (omega (arith, le, more)) (ordered_all ticket e.ticket es (omega (arith, le, more)) o.1)

-- they come first among entries in order
pub early_first : (ticket n : ℕ) (es : List Ticketed) → Ordered n es → (rest : List Ticketed) × (es ≡ early ticket es ++ rest)
early_first ticket n [] o = ([], refl)
early_first ticket n (e ∷ es) o = by_test (nat_lt e.ticket ticket) refl (early_first ticket e.ticket es o.1)
  where
    by_test : (b : Bool) → nat_lt e.ticket ticket ≡ b → (rest : List Ticketed) × (es ≡ early ticket es ++ rest)
        → (rest : List Ticketed) × (e ∷ es ≡ cond b (e ∷ early ticket es) (early ticket es) ++ rest)
    by_test true is more = (more.0, ap (λ l. e ∷ l) more.1)
    by_test false is more =
        (e ∷ es, ap (λ l. l ++ e ∷ es) (sym (early_none ticket es (ordered_all ticket e.ticket es (ltb-false e.ticket ticket is) o.1))))

-- of what is in order, the second part is behind the first
pub ordered_split : (n : ℕ) (xs ys : List Ticketed) → Ordered n (xs ++ ys) → Ordered n xs × Ordered n ys
ordered_split n [] ys o = (tt, o)
ordered_split n (x ∷ xs) ys o = let m = ordered_split x.ticket xs ys o.1 in ((o.0, m.0), ordered_from n x.ticket ys o.0 m.1)
