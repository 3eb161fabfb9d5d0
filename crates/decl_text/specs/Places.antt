-- A place in a text.
use Rattle.std.specs.Prelude.{◌≡◌, ◌+◌, ℕ, List, [], ◌∷◌, drop, take}
use Rattle.decl_text.specs.Text.{lines}

pub record TextPlace : Type 0 where
  pub text : List ℕ
  pub place : ℕ

-- what stands from there on
abbrev pub text_left : TextPlace → List ℕ
text_left at = drop at.place at.text

-- the text begins with this line, which takes so many bytes, wherever the text is cut behind it
abbrev pub BeginsWhereverCut : List ℕ → List ℕ → ℕ → Type 0
BeginsWhereverCut text line taken = (more : ℕ) → lines (take (taken + more) text) ≡ line ∷ lines (take more (drop taken text))

-- no line is left there, and the place stays
abbrev pub StaysAtEnd : TextPlace → TextPlace → Type 0
StaysAtEnd old new = (lines (text_left old) ≡ []) × (new ≡ old)

-- the line is the next one, and those behind it are left
abbrev pub IsNextLine : TextPlace → List ℕ → TextPlace → Type 0
IsNextLine old line new = lines (text_left old) ≡ line ∷ lines (text_left new)

-- the same line comes where the text ends at any place behind it
abbrev pub IsNextOfFront : TextPlace → List ℕ → TextPlace → Type 0
IsNextOfFront old line new = (more : ℕ)
    → lines (drop old.place (take (new.place + more) old.text)) ≡ line ∷ lines (drop new.place (take (new.place + more) old.text))
