-- Two rows of which the next entries are taken together, and what is made of them stands behind what was there.
use Rattle.std.proofs.Common.{◌≡◌, ◌+◌, ◌≤◌, ◌<◌, ℕ, List, [], ◌∷◌, ◌++◌, All, arith, refl, sym, ◌∙◌, ap, subst, length, get_or}
use Rattle.std.proofs.lemmas.List.{append-nil, append_assoc, length-append}
use Rattle.shared_objects.specs.Rows.{Abreast, AreAdded}
use Rattle.shared_objects.proofs.row_lemmas.GrowingRows.{Part, part_all, next_is, next_so, in_list, three_more}

module _ {X Y Z : Type 0} (P : X → Y → Z → Type 0) (xs : List X) (ys : List Y) (olds : List Z) where
  -- pairs were taken of both rows up to what is left, and what is made of them was added
  abbrev pub PairsAreAdded : List X → List Y → List Z → Type 0
  PairsAreAdded left other_left news = Part xs left (λ taken. Part ys other_left (λ others. AreAdded P taken others olds news))

  pub none_taken : (left : List X) (other_left : List Y) → xs ≡ left → ys ≡ other_left → PairsAreAdded left other_left olds
  none_taken left other_left e f =
      ([], e, ([], f, record { made = []; added = sym (append-nil olds); are = record { lens = (refl, refl); each = λ place x y z lt. absurd (omega (arith, lt)) } }))

  module _ (left : List X) (other_left : List Y) (news : List Z) (are : PairsAreAdded left other_left news) where
    same_long : length are.2.0 ≡ length are.0
    same_long = are.2.2.are.lens.0

    module _ (more : List X) (other_more : List Y) (x : X) (y : Y) (e : left ≡ x ∷ more) (f : other_left ≡ y ∷ other_more) where
      whole : xs ≡ are.0 ++ x ∷ more
      whole = are.1 ∙ ap (λ l. are.0 ++ l) e

      other_whole : ys ≡ are.2.0 ++ y ∷ other_more
      other_whole = are.2.1 ∙ ap (λ l. are.2.0 ++ l) f

      pub pair_abreast : (Q : X → Y → Type 0) → Abreast Q xs ys → Q x y
      pair_abreast Q of = subst (λ b. Q x b) (next_is ys are.2.0 other_more y other_whole y)
          (subst (λ a. Q a (get_or ys (length are.2.0) y)) (next_is xs are.0 more x whole x)
          (subst (λ k. Q (get_or xs (length are.0) x) (get_or ys k y)) (sym same_long) (of.each (length are.0) x y (in_list xs are.0 more x whole))))

      pub other_so : (Q : Y → Type 0) → All Q ys → Q y
      other_so Q all = next_so ys are.2.0 other_more y other_whole Q all

      -- there is room for what is made of them
      pub has_room : (room : ℕ) → length olds + length xs ≤ room → length news < room
      has_room room fits =
          let n = ap length are.2.2.added in let l = length-append olds are.2.2.made in let m = are.2.2.are.lens.1 in let lt = in_list xs are.0 more x whole in
          omega (arith, n, l, m, lt, fits)

      pub one_taken : (z : Z) (now : List Z) → now ≡ news ++ z ∷ [] → P x y z → PairsAreAdded more other_more now
      one_taken z now added is = (
        are.0 ++ x ∷ [],
        whole ∙ sym (append_assoc are.0 (x ∷ []) more),
        (
          are.2.0 ++ y ∷ [],
          other_whole ∙ sym (append_assoc are.2.0 (y ∷ []) other_more),
          record {
            made = are.2.2.made ++ z ∷ [];
            added = added ∙ ap (λ l. l ++ z ∷ []) are.2.2.added ∙ append_assoc olds are.2.2.made (z ∷ []);
            are = three_more P are.0 are.2.0 are.2.2.made x y z are.2.2.are is;
          },
        ),
      )

    pub all_taken : length left ≡ 0 → length ys ≡ length xs → AreAdded P xs ys olds news
    all_taken none lens =
        let a = ap length are.1 in let b = ap length are.2.1 in let c = length-append are.0 left in let d = length-append are.2.0 other_left in let s = same_long in
        part_all ys other_left (λ others. AreAdded P xs others olds news)
        (subst (λ taken. Part ys other_left (λ others. AreAdded P taken others olds news)) (sym (whole_is none)) are.2)
        (omega (arith, a, b, c, d, s, none, lens))
      where
        whole_is : length left ≡ 0 → xs ≡ are.0
        whole_is none = part_all xs left (λ taken. taken ≡ are.0) (are.0, are.1, refl) none
