-- Words that have the form of their line.
use Rattle.std.proofs.Common.{◌≡◌, ◌≤◌, ◌||◌, ℕ, Bool, true, false, not, List, [], ◌∷◌, length, drop, zip, Some, None, Option, if◌then◌else◌, is_some, true≢false, refl, sym, ◌∙◌, arith, length-drop, take, ◌-◌}
use Rattle.std.specs.List.{list_any}
use Rattle.std.specs.Option.{option_or}
use Rattle.std.proofs.lemmas.Bool.{ltb-false, not-false}
use Rattle.std.proofs.lemmas.List.{take_all}
use Rattle.std.proofs.lemmas.Option.{none-some, same_Some}
use Rattle.decl_text.specs.Text.{is_option, is_number, number_of}
use Rattle.decl_text.specs.Words.{has_number, is_within}
use Rattle.decl_text.specs.Forms.{any_number, fixed, fails, form, is_malformed, is_misnumbered, is_strange, may, must, number_from, value_of}
use Rattle.decl_text.specs.Items.{number, value_in}
use Rattle.decl_text.specs.declared.command.Command.TheVariants.{Limit}
use Rattle.decl_text.specs.declared.form.Few.TheVariants as few
use Rattle.decl_text.specs.declared.form.Key.{Key}
use Rattle.decl_text.specs.declared.form.Key.TheVariants.{Chunk, Max, Rescuer, Reserve}
use Rattle.decl_text.specs.declared.form.Setting.{Setting}
use Rattle.decl_text.specs.declared.form.Place.{Place}
use Rattle.decl_text.specs.declared.form.Place.TheVariants.{Number, OneOf}

-- the alternatives of one that does not hold
pub first_not : (a b : Bool) → (a || b) ≡ false → a ≡ false
first_not false b none = refl
first_not true b none = none

pub others_not : (a b : Bool) → (a || b) ≡ false → b ≡ false
others_not false b none = none
others_not true b none = cc

-- where no word may stand, each is strange
strange_by : (is : Bool) → (if is then true else true) ≡ true
strange_by true = refl
strange_by false = refl

none_else : (places : List Place) (words : List (List ℕ)) → list_any (is_strange (fixed places)) words ≡ false → words ≡ []
none_else places [] none = refl
none_else places (word ∷ words) none =
    let strange = first_not (is_strange (fixed places) word) (list_any (is_strange (fixed places)) words) none in
    absurd (true≢false (sym (strange_by (is_option word)) ∙ strange))

all_there : {A : Type 0} (xs : List A) (n : ℕ) → n ≤ length xs → length (drop n xs) ≡ 0 → length xs ≡ n
all_there xs n some none = grind (arith, length-drop n xs)

-- a line whose words have their places has as many as places
pub as_many : (places : List Place) (words : List (List ℕ)) → is_malformed (fixed places) words ≡ false → length words ≡ length places
as_many places words formed =
    let unset = first_not _ _ formed in
    let strange = others_not _ _ unset in
    let few = first_not _ _ (first_not _ _ unset) in
    let none = none_else places (drop (length places) words) strange in
    let left : length (drop (length places) words) ≡ 0 = rw none refl in
    all_there words (length places) (ltb-false (length words) (length places) few) left

-- a number that was read is that of the digits
number_if : (is : Bool) (n v : ℕ) → (if is then Some v else None) ≡ Some n → n ≡ v
number_if true n v found = sym (same_Some _ _ found)
number_if false n v found = absurd (none-some n found)

pub number_is : (word : List ℕ) (n : ℕ) → number_of word ≡ Some n → n ≡ number word
unfolding number_of
number_is word n found = number_if (is_number word) n (number word) found

-- an option whose number may stand there has one
within_some : (least most : ℕ) (n : Option ℕ) → is_within least most n ≡ true → is_some n ≡ true
within_some least most None is = is
within_some least most (Some n) is = refl

some_number : (least most : ℕ) (value : Option (List ℕ)) → fails (has_number (Number least most)) value ≡ false → fails (λ v. is_some (number_of v)) value ≡ false
some_number least most None fine = refl
some_number least most (Some v) fine = rw (within_some least most (number_of v) (not-false (is_within least most (number_of v)) fine)) refl

pub numbers : (name : Key) (least most : ℕ) (words : List (List ℕ)) → list_any (λ word. fails (has_number (Number least most)) (value_of name word)) words ≡ false
    → list_any (λ word. fails (λ v. is_some (number_of v)) (value_of name word)) words ≡ false
numbers name least most [] fine = refl
numbers name least most (word ∷ words) fine =
    rw (some_number least most (value_of name word) (first_not (fails (has_number (Number least most)) (value_of name word)) _ fine))
    (numbers name least most words (others_not (fails (has_number (Number least most)) (value_of name word)) _ fine))

-- the first value of an option is as each of them is
value_by : (may : List ℕ → Bool) (first more : Option (List ℕ)) (v : List ℕ) → fails may first ≡ false → (more ≡ Some v → may v ≡ true)
    → option_or first more ≡ Some v → may v ≡ true
value_by may None more v fine later found = later found
value_by may (Some w) more v fine later found = rw (sym (same_Some _ _ found)) (not-false (may w) fine)

pub value_passes : (may : List ℕ → Bool) (name : Key) (words : List (List ℕ)) (v : List ℕ) → list_any (λ word. fails may (value_of name word)) words ≡ false
    → value_in name words ≡ Some v → may v ≡ true
value_passes may name [] v fine found = absurd (none-some v found)
value_passes may name (word ∷ words) v fine found =
    value_by may (value_of name word) (value_in name words) v (first_not (fails may (value_of name word)) _ fine)
    (value_passes may name words v (others_not (fails may (value_of name word)) _ fine)) found

-- the numbers of the options of a form, one after the other
pub first_number : (places : List Place) (words : List (List ℕ)) (a b : Bool) → (list_any (λ (at : Place × List ℕ). not (has_number at.0 at.1)) (zip places words) || (a || b)) ≡ false → a ≡ false
first_number places words a b fine = first_not a b (others_not _ _ fine)

pub second_number : (places : List Place) (words : List (List ℕ)) (a b d : Bool) → (list_any (λ (at : Place × List ℕ). not (has_number at.0 at.1)) (zip places words) || (a || (b || d))) ≡ false → b ≡ false
second_number places words a b d fine = first_not b d (others_not a _ (others_not _ _ fine))

pub third_number : (places : List Place) (words : List (List ℕ)) (a b c d : Bool) → (list_any (λ (at : Place × List ℕ). not (has_number at.0 at.1)) (zip places words) || (a || (b || (c || d)))) ≡ false → c ≡ false
third_number places words a b c d fine = first_not c d (others_not b _ (others_not a _ (others_not _ _ fine)))

abbrev pub wrong : Setting → List (List ℕ) → Bool
wrong setting words = list_any (λ word. fails (has_number setting.place) (value_of setting.key word)) words

pub limit_chunk : (words : List (List ℕ)) → is_misnumbered (form Limit) words ≡ false → wrong (may Chunk any_number) (drop 1 words) ≡ false
limit_chunk words fine =
    first_not (wrong (may Chunk any_number) (drop 1 words)) false
    (others_not (wrong (must Max (number_from 1)) (drop 1 words)) _
    (others_not (wrong (may Rescuer (OneOf few.YesNo)) (drop 1 words)) _
    (others_not (wrong (may Reserve any_number) (drop 1 words)) _ (others_not _ _ fine))))

-- the words behind the first one, as they are cut off
pub behind_first : {A : Type 0} (words : List A) → take (length words - 1) (drop 1 words) ≡ drop 1 words
behind_first words = take_all (length words - 1) (drop 1 words) (omega (arith, length-drop 1 words))
