-- A line of blanks has no word, and says nothing.
use Rattle.std.proofs.Common.{◌≡◌, ℕ, true, false, List, [], ◌∷◌, None, Ok, refl}
use Rattle.std.specs.List.{list_all, slice_split}
use Rattle.std.proofs.lemmas.Bool.{and_parts}
use Rattle.decl_text.specs.Text.{is_blank, is_text, words}
use Rattle.decl_text.specs.Lines.{LineSays}
use Rattle.decl_text.specs.Reading.{is_work_line}
use Rattle.decl_text.specs.declared.stand.Stand.{Stand}
use Rattle.decl_text.proofs.LineLemmas.{says_nothing}

-- a blank cuts off an empty part
cut_first : (byte : ℕ) (bytes : List ℕ) → is_blank byte ≡ true → slice_split is_blank (byte ∷ bytes) ≡ [] ∷ slice_split is_blank bytes
cut_first byte bytes is = rw is refl

pub blank_words : (line : List ℕ) → list_all is_blank line ≡ true → words line ≡ []
blank_words [] all = refl
blank_words (byte ∷ bytes) all =
    let parts = and_parts (is_blank byte) (list_all is_blank bytes) all in
    rw (cut_first byte bytes parts.0) (blank_words bytes parts.1)

blank_text : (line : List ℕ) → list_all is_blank line ≡ true → is_text line ≡ true
blank_text [] all = refl
blank_text (byte ∷ bytes) all =
    let parts = and_parts (is_blank byte) (list_all is_blank bytes) all in
    rw (parts.0, blank_text bytes parts.1) refl

-- wherever it stands
pub blank_says_nothing : (stand : Stand) (line : List ℕ) → list_all is_blank line ≡ true → LineSays stand line (Ok None)
blank_says_nothing stand line all = says_nothing stand line [] (blank_text line all) (blank_words line all) refl

-- so it is no work
pub blank_is_no_work : (line : List ℕ) → list_all is_blank line ≡ true → is_work_line line ≡ false
blank_is_no_work line all = rw (blank_words line all) refl
