-- Rows that grow by an entry, and rows of which the next entry is changed.
use Rattle.std.proofs.Common.{◌≡◌, ℕ, ◌+◌, ◌<◌, List, [], ◌∷◌, ◌++◌, All, arith, refl, sym, ◌∙◌, ap, subst, length, get_or, set}
use Rattle.std.proofs.lemmas.List.{append-nil, append_assoc, length-append, length-set, get_or-set_same, get_or-set_other, get_or_append_left, get_or_default}
use Rattle.std.proofs.Math.Seq.{get_or-append_seam}
use Rattle.std.proofs.Math.Decide.{ℕ_discrete}
use Rattle.std.proofs.Math.Logic.{dite}
use Rattle.shared_objects.specs.Rows.{Abreast, AbreastThree, AreChanged}

module _ {X : Type 0} where
  some_of : (xs : List X) → 0 < length xs → X
  some_of [] lt = absurd (omega (arith, lt))
  some_of (x ∷ xs) lt = x

  pub at_end : (xs : List X) (x : X) (place : ℕ) (d : X) → place ≡ length xs → get_or (xs ++ x ∷ []) place d ≡ x
  at_end xs x place d e = subst (λ k. get_or (xs ++ x ∷ []) k d ≡ x) (sym e) (get_or-append_seam xs x [] d)

  pub before : (xs : List X) (x : X) (place : ℕ) (d : X) → place < length xs → get_or (xs ++ x ∷ []) place d ≡ get_or xs place d
  before xs x place d lt = get_or_append_left xs (x ∷ []) d place lt

  pub longer : (xs : List X) (x : X) → length (xs ++ x ∷ []) ≡ length xs + 1
  longer xs x = length-append xs (x ∷ [])

module _ {X Y Z : Type 0} (P : X → Y → Z → Type 0) where
  three_at : (a a' : X) (b b' : Y) (c c' : Z) → a' ≡ a → b' ≡ b → c' ≡ c → P a b c → P a' b' c'
  three_at a a' b b' c c' e f g p = subst (λ z. P a' b' z) (sym g) (subst (λ y. P a' y c) (sym f) (subst (λ x. P x b c) (sym e) p))

  -- three rows grow by an entry
  pub three_more : (xs : List X) (ys : List Y) (zs : List Z) (x : X) (y : Y) (z : Z) → AbreastThree P xs ys zs → P x y z
      → AbreastThree P (xs ++ x ∷ []) (ys ++ y ∷ []) (zs ++ z ∷ [])
  three_more xs ys zs x y z are is =
      let l = longer xs x in let m = longer ys y in let n = longer zs z in let e = are.lens.0 in let f = are.lens.1 in
      record { lens = (omega (arith, l, m, e), omega (arith, l, n, f)); each = λ place a b c lt. at place a b c (omega (arith, lt, l)) }
    where
      at : (place : ℕ) (a : X) (b : Y) (c : Z) → place < length xs + 1 → P (get_or (xs ++ x ∷ []) place a) (get_or (ys ++ y ∷ []) place b) (get_or (zs ++ z ∷ []) place c)
      at place a b c lt = let e = are.lens.0 in let f = are.lens.1 in dite (ℕ_discrete place (length xs))
          (λ same. three_at x (get_or (xs ++ x ∷ []) place a) y (get_or (ys ++ y ∷ []) place b) z (get_or (zs ++ z ∷ []) place c)
          (at_end xs x place a same) (at_end ys y place b (omega (arith, same, e))) (at_end zs z place c (omega (arith, same, f))) is)
          (λ apart. three_at (get_or xs place a) (get_or (xs ++ x ∷ []) place a) (get_or ys place b) (get_or (ys ++ y ∷ []) place b) (get_or zs place c) (get_or (zs ++ z ∷ []) place c)
          (before xs x place a (omega (arith, lt, apart))) (before ys y place b (omega (arith, lt, apart, e))) (before zs z place c (omega (arith, lt, apart, f)))
          (are.each place a b c (omega (arith, lt, apart))))

module _ {L X Y : Type 0} (P : L → X → Y → X → Type 0) where
  -- the next entry is changed
  pub one_changed : (locks : List L) (olds : List X) (others : List Y) (news : List X) (other : Y) (new : X) → AreChanged P locks olds others news
      → length others < length olds → ((lock : L) (old : X) → P (get_or locks (length others) lock) (get_or olds (length others) old) other new)
      → AreChanged P locks olds (others ++ other ∷ []) (set news (length others) new)
  one_changed locks olds others news other new are there is =
      let l = longer others other in let e = are.lens in record {
        lens = length-set news (length others) new ∙ are.lens;
        done = λ place lock old o n lt. at place lock old o n (omega (arith, lt, l));
        ahead = λ place old le. get_or-set_other news (length others) place new old (λ same. absurd (omega (arith, le, l, same))) ∙ are.ahead place old (omega (arith, le, l));
      }
    where
      at : (place : ℕ) (lock : L) (old : X) (o : Y) (n : X) → place < length others + 1
          → P (get_or locks place lock) (get_or olds place old) (get_or (others ++ other ∷ []) place o) (get_or (set news (length others) new) place n)
      at place lock old o n lt = let e = are.lens in dite (ℕ_discrete place (length others))
          (λ same. three_at (P (get_or locks place lock)) (get_or olds place old) (get_or olds place old) other (get_or (others ++ other ∷ []) place o) new (get_or (set news (length others) new) place n)
          refl (at_end others other place o same)
          (subst (λ k. get_or (set news (length others) new) k n ≡ new) (sym same) (get_or-set_same news (length others) new n (omega (arith, there, e))))
          (subst (λ k. P (get_or locks k lock) (get_or olds k old) other new) (sym same) (is lock old)))
          (λ apart. three_at (P (get_or locks place lock)) (get_or olds place old) (get_or olds place old) (get_or others place o) (get_or (others ++ other ∷ []) place o) (get_or news place n) (get_or (set news (length others) new) place n)
          refl (before others other place o (omega (arith, lt, apart)))
          (get_or-set_other news (length others) place new n apart)
          (are.done place lock old o n (omega (arith, lt, apart))))

  -- The entry is changed at which the change so far ends.
  module _ (locks : List L) (olds : List X) (others : List Y) (news : List X) (are : AreChanged P locks olds others news) (at : ℕ) (at_is : length others ≡ at) (lies : (at < length locks) × (at < length olds))
      (lock : L) (lock_is : lock ≡ get_or locks at lock) (first : X) (first_is : first ≡ get_or news at first) where
    lock_was : (d : L) → lock ≡ get_or locks at d
    lock_was d = lock_is ∙ get_or_default locks at lock d lies.0

    first_was : (d : X) → first ≡ get_or olds at d
    first_was d = first_is ∙ are.ahead at first (omega (arith, at_is)) ∙ get_or_default olds at first d lies.1

    pub was_abreast : (Q : L → X → Type 0) → Abreast Q locks olds → Q lock first
    was_abreast Q of = subst (λ x. Q lock x) (sym (first_was first)) (subst (λ l. Q l (get_or olds at first)) (sym (lock_was lock)) (of.each at lock first lies.0))

    pub was_so : (Q : X → Type 0) → All Q olds → Q first
    was_so Q all = subst Q (sym (first_was first)) (all at first lies.1)

    pub changes_here : (other : Y) (new : X) → P lock first other new → AreChanged P locks olds (others ++ other ∷ []) (set news at new)
    changes_here other new is =
        subst (λ k. AreChanged P locks olds (others ++ other ∷ []) (set news k new)) at_is
        (one_changed locks olds others news other new are (let l = lies.1 in omega (arith, at_is, l))
        (λ l o. subst (λ k. P (get_or locks k l) (get_or olds k o) other new) (sym at_is) (three_at (λ l' x n. P l' x other n) lock (get_or locks at l) first (get_or olds at o) new new (sym (lock_was l)) (sym (first_was o)) refl is)))

  -- what is so of each change is so of all, where all were changed
  module _ (locks : List L) (olds : List X) (others : List Y) (news : List X) (are : AreChanged P locks olds others news) (lens : (length olds ≡ length locks) × (length others ≡ length locks)) where
    pub news_are : (Q : L → X → Type 0) → ((lock : L) (old : X) (other : Y) (new : X) → P lock old other new → Q lock new) → Abreast Q locks news
    news_are Q holds = let l = lens.0 in let m = lens.1 in let n = are.lens in record {
      lens = omega (arith, l, n);
      each = λ place lock new lt. let other = some_of others (omega (arith, lt, m)) in
          holds (get_or locks place lock) (get_or olds place new) (get_or others place other) (get_or news place new) (are.done place lock new other new (omega (arith, lt, m)));
    }

    pub others_are : (Q : L → Y → Type 0) → ((lock : L) (old : X) (other : Y) (new : X) → P lock old other new → Q lock other) → Abreast Q locks others
    others_are Q holds = let l = lens.0 in let m = lens.1 in record {
      lens = m;
      each = λ place lock other lt. let old = some_of olds (omega (arith, lt, l)) in
          holds (get_or locks place lock) (get_or olds place old) (get_or others place other) (get_or news place old) (are.done place lock old other old (omega (arith, lt, m)));
    }

module _ {X : Type 0} where
  -- This is left of a list, and what came before it is as P says.
  abbrev pub Part : List X → List X → (List X → Type 0) → Type 0
  Part all left P = (done : List X) × (all ≡ done ++ left) × P done

  pub part_all : (all left : List X) (P : List X → Type 0) → Part all left P → length left ≡ 0 → P all
  part_all all [] P part none = subst P (sym (part.1 ∙ append-nil part.0)) part.2
  part_all all (x ∷ left) P part none = absurd (omega (arith, none))

  pub part_more : (all left more : List X) (x : X) (P Q : List X → Type 0) → Part all left P → left ≡ x ∷ more
      → ((done : List X) → all ≡ done ++ x ∷ more → P done → Q (done ++ x ∷ [])) → Part all more Q
  part_more all left more x P Q part e step =
      let whole : all ≡ part.0 ++ x ∷ more = part.1 ∙ ap (λ l. part.0 ++ l) e in
      (part.0 ++ x ∷ [], whole ∙ sym (append_assoc part.0 (x ∷ []) more), step part.0 whole part.2)

  module _ (all done more : List X) (x : X) (whole : all ≡ done ++ x ∷ more) where
    pub in_list : length done < length all
    in_list = let l = ap length whole in let m = length-append done (x ∷ more) in omega (arith, l, m)

    pub next_is : (d : X) → get_or all (length done) d ≡ x
    next_is d = ap (λ l. get_or l (length done) d) whole ∙ get_or-append_seam done x more d

    pub next_so : (Q : X → Type 0) → All Q all → Q x
    next_so Q are = subst Q (next_is x) (are (length done) x in_list)

    pub next_abreast : {L : Type 0} (Q : L → X → Type 0) (locks : List L) (at : ℕ) (lock : L) → length done ≡ at → Abreast Q locks all → lock ≡ get_or locks at lock → Q lock x
    next_abreast Q locks at lock at_is are is = let l = are.lens in let lt = in_list in
        let here = subst (λ k. lock ≡ get_or locks k lock) (sym at_is) is in
        subst (λ y. Q lock y) (next_is x) (subst (λ k. Q k (get_or all (length done) x)) (sym here) (are.each (length done) lock x (omega (arith, l, lt))))

    -- the place of the next one lies in rows that are as long
    pub in_rows : {L Z : Type 0} (locks : List L) (firsts : List Z) (at : ℕ) → length done ≡ at → length all ≡ length locks → length firsts ≡ length locks → (at < length locks) × (at < length firsts)
    in_rows locks firsts at at_is lens same = let lt = in_list in (omega (arith, lt, at_is, lens), omega (arith, lt, at_is, lens, same))
