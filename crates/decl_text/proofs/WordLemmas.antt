-- Words that are joined of two parts.
use Rattle.std.proofs.Common.{◌≡◌, ℕ, ◌&&◌, List, ◌++◌, length, drop, take, ap, ◌∙◌, sym, arith, length-append}
use Rattle.std.specs.Str.{bytes_eq}
use Rattle.std.proofs.lemmas.List.{take_at, drop_at, take-append-drop}
use Rattle.std.proofs.lemmas.Slice.Eq.{bytes_eq-Decides}
use Rattle.std.proofs.lemmas.Bool.Decides.{same_from_decides, Decides-and, Decides-like}

-- two lists that are joined of parts, the last of one length
pub parts_same : (a s front back : List ℕ) → length back ≡ length s → a ++ s ≡ front ++ back → (back ≡ s) × (a ≡ front)
parts_same a s front back many same =
    let n : length a ≡ length front = omega (arith, ap length same, length-append a s, length-append front back) in (
      sym (drop_at front back (length front) (omega arith)) ∙ sym (ap (drop (length front)) same) ∙ drop_at a s (length front) n,
      sym (take_at a s (length front) n) ∙ ap (take (length front)) same ∙ take_at front back (length front) (omega arith),
    )

-- a name with a suffix is a word where the suffix is the word's end and the name the rest of it
pub bytes_eq_parts : (a s front back : List ℕ) → length back ≡ length s → bytes_eq (a ++ s) (front ++ back) ≡ (bytes_eq back s && bytes_eq a front)
bytes_eq_parts a s front back many =
    same_from_decides (bytes_eq (a ++ s) (front ++ back)) (bytes_eq back s && bytes_eq a front)
    (bytes_eq-Decides (a ++ s) (front ++ back))
    (Decides-like (bytes_eq back s && bytes_eq a front)
    (λ (both : (back ≡ s) × (a ≡ front)). ap (λ x. x ++ s) both.1 ∙ ap (λ x. front ++ x) (sym both.0))
    (parts_same a s front back many)
    (Decides-and (bytes_eq back s) (bytes_eq a front) (bytes_eq-Decides back s) (bytes_eq-Decides a front)))

-- at a place of a word
pub bytes_eq_at :
    (a s word front back : List ℕ) (n : ℕ) → front ≡ take n word → back ≡ drop n word → length back ≡ length s
    → bytes_eq (a ++ s) word ≡ (bytes_eq back s && bytes_eq a front)
bytes_eq_at a s word front back n first rest many =
    ap (bytes_eq (a ++ s)) (sym (take-append-drop n word) ∙ ap (λ x. x ++ drop n word) (sym first) ∙ ap (λ x. front ++ x) (sym rest))
    ∙ bytes_eq_parts a s front back many
