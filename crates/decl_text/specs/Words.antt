-- Which words may stand at a place.
use Rattle.std.specs.Prelude.{◌&&◌, nat_le, Bool, true, false, List, [], ◌∷◌, ℕ, codes, Option, None, Some}
use Rattle.std.specs.List.{list_any}
use Rattle.std.specs.Str.{bytes_eq}
use Rattle.decl_text.specs.Text.{is_name, number_of, is_pattern}
use Rattle.decl_text.specs.declared.form.Few.{Few}
use Rattle.decl_text.specs.declared.form.Few.TheVariants as few
use Rattle.decl_text.specs.declared.form.Key.{Key}
use Rattle.decl_text.specs.declared.form.Key.TheVariants as key
use Rattle.decl_text.specs.declared.form.Place.{Place}
use Rattle.decl_text.specs.declared.form.Place.TheVariants.{Name, Mention, Number, OneOf, Pattern}

-- the few words
abbrev pub choices : Few → List (List ℕ)
choices few.Faults = codes "io" ∷ codes "medium" ∷ codes "nospace" ∷ []
choices few.YesNo = codes "yes" ∷ codes "no" ∷ []
choices few.Tails = codes "+" ∷ codes "-" ∷ []
choices few.None = codes "none" ∷ []

-- the word before the `=` of an option
abbrev pub key_word : Key → List ℕ
key_word key.Reserve = codes "reserve"
key_word key.Rescuer = codes "rescuer"
key_word key.Chunk = codes "chunk"
key_word key.Max = codes "max"
key_word key.Records = codes "records"
key_word key.Bios = codes "bios"
key_word key.Vecs = codes "vecs"

-- the word is one of these
abbrev pub is_one_of : Few → List ℕ → Bool
is_one_of few word = list_any (λ choice. bytes_eq word choice) (choices few)

-- the word may stand there, but for its number
abbrev pub is_word : Place → List ℕ → Bool
is_word Name word = is_name word
is_word Mention word = true
is_word (Number least most) word = true
is_word (OneOf few) word = is_one_of few word
is_word Pattern word = is_pattern word

abbrev pub is_within : ℕ → ℕ → Option ℕ → Bool
is_within least most None = false
is_within least most (Some n) = nat_le least n && nat_le n most

-- its number may, where a number has to stand
abbrev pub has_number : Place → List ℕ → Bool
has_number (Number least most) word = is_within least most (number_of word)
has_number Name word = true
has_number Mention word = true
has_number (OneOf few) word = true
has_number Pattern word = true
