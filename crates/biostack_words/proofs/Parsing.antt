-- What the parser is: its rows, its faults, its states, and the words and names that it meets.
use Rattle.std.proofs.Common.{◌≡◌, ◌∙◌, ◌||◌, ◌==◌, ℕ, Bool, cond, codes, if◌then◌else◌, true, false, refl, sym, ap, List, [], ◌∷◌, map, Option, Some, None, true≢false}
use Rattle.std.specs.List.{fold}
use Rattle.std.specs.Str.{bytes_eq}
use Rattle.clap.specs.Lexer.{long_of, short_of}
use Rattle.clap.specs.Walk.{Held, Row, Rule, Text, Waiting, Walk, arg_by_long, has_row, reading_by, settled, walked, finished}
use Rattle.clap.specs.Simple.{Shape, built, filled, new_rule, with_index}
use Rattle.clap.specs.Kinds.{Kinds, or_else}
use Rattle.clap.specs.Faults.{check_fault, defaults_fault, settle_fault, turn_fault, walk_fault}
use Rattle.clap.specs.declared.parser.matches.ValueSource.TheVariants.{CommandLine}
use Rattle.biostack_words.specs.Grammar.{WordForm, SettingKind, Setting, Word, dashed, flag_named, form_of_word, has, is_dashed, is_dashed_form, is_setting_of, kind_word, name_of, option, place, plain, seed, text, trace, valued_named, value_behind_equals, workers}
use Rattle.biostack_words.specs.Parser.{flag_rule, parser, valued}

-- ---- what the parser is

abbrev pub shape : Shape
shape = (built parser).top

abbrev pub rules : List Rule
rules = shape.rules

abbrev pub id_of : SettingKind → Text
id_of = kind_word

abbrev pub rule_for : SettingKind → Rule
rule_for seed = filled (valued (codes "seed"))
rule_for workers = filled (valued (codes "workers"))
rule_for trace = filled (flag_rule (codes "trace"))
rule_for text = filled (flag_rule (codes "text"))
rule_for place = with_index 1 (filled (new_rule (codes "number")))

-- ---- rows

-- an option that has a value, and a word alone
abbrev pub is_valued : SettingKind → Bool
is_valued seed = true
is_valued workers = true
is_valued place = true
is_valued trace = false
is_valued text = false

-- the words of a use, and what its row has
abbrev pub use_values : Option Word → List Text
use_values (Some value) = value ∷ []
use_values None = []

abbrev pub row_values : SettingKind → Option Word → List Text
row_values kind value = if is_valued kind then use_values value else codes "true" ∷ []

abbrev pub row_for : Setting → Row
row_for setting = record {
  id = id_of setting.kind;
  values = row_values setting.kind setting.value;
  count = None;
  source = Some CommandLine;
  reading = reading_by (rule_for setting.kind);
}

abbrev pub rows_for : List Setting → List Row
rows_for all = map row_for all

pub has_row_for : (kind : SettingKind) (all : List Setting) → has_row (id_of kind) (rows_for all) ≡ has kind all
has_row_for kind [] = refl
has_row_for kind (setting ∷ all) = ap (λ b. is_setting_of kind setting || b) (has_row_for kind all)

-- ---- faults

abbrev pub fails : Kinds → Bool
fails [] = false
fails (kind ∷ more) = true

pub fails_first : (a b : Kinds) → fails a ≡ true → fails (or_else a b) ≡ true
fails_first [] b e = absurd (true≢false (sym e))
fails_first (kind ∷ more) b e = refl

pub fails_then : (a b : Kinds) → fails b ≡ true → fails (or_else a b) ≡ true
fails_then [] b e = e
fails_then (kind ∷ more) b e = refl

-- ---- states

abbrev pub holding : List Row → Option (Text × List Text) → Held
holding rows pending = record { rows = rows; pending = pending; skip = 0 }

abbrev pub standing : List Row → Option (Text × List Text) → Waiting → ℕ → Walk
standing rows pending waiting position =
    record { held = holding rows pending; waiting = waiting; position = position; is_trailing = false; stopped = None }

abbrev pub end_fault : Held → Kinds
end_fault h =
    or_else (settle_fault rules false h) (or_else (defaults_fault (settled rules h).rows rules) (check_fault shape (finished rules h) false))

abbrev pub last : Walk → List Text → Walk
last w words = fold (walked rules []) w words

abbrev pub ends : Walk → List Text → Kinds
ends w words = or_else (walk_fault shape [] w words) (end_fault (last w words).held)

-- a word that passes, and one that does not
pub goes_on : (w after : Walk) (word : Text) (rest : List Text) → turn_fault shape [] w word ≡ [] → walked rules [] w word ≡ after → ends w (word ∷ rest) ≡ ends after rest
unfolding walk_fault
goes_on w after word rest passes is =
    ap (λ (a : Kinds). or_else (or_else a (walk_fault shape [] (walked rules [] w word) rest)) (end_fault (last (walked rules [] w word) rest).held)) passes
    ∙ ap (λ (v : Walk). ends v rest) is

pub stops : (w : Walk) (word : Text) (rest : List Text) → fails (turn_fault shape [] w word) ≡ true → fails (ends w (word ∷ rest)) ≡ true
unfolding walk_fault
stops w word rest e = fails_first _ _ (fails_first _ _ e)

-- ---- words

-- what a word is to the parser, by its form
abbrev pub is_two_dashes : Word → Bool
is_two_dashes word = bytes_eq word (45 ∷ 45 ∷ [])

pub record PlainWord (word : Word) : Type 0 where
  pub dashes : is_two_dashes word ≡ false
  pub long : long_of word ≡ None
  pub short : short_of word ≡ None

pub record Long (word name : Word) (value : Option Word) : Type 0 where
  pub dashes : is_two_dashes word ≡ false
  pub long : long_of word ≡ Some (name, value)

abbrev pub Met : Word → WordForm → Type 0
Met word (option name value) = Long word name value
Met word dashed = ⊥
Met word plain = PlainWord word

abbrev long_form : Bool → Bool → List ℕ → WordForm
long_form t u rest = cond t (cond u (option (name_of rest) (value_behind_equals rest)) dashed) plain

pub met : (word : Word) → is_dashed word ≡ false → Met word (form_of_word word)
met [] e = record { dashes = refl; long = refl; short = refl }
met (a ∷ []) e = go (a == 45) refl
  where
    go : (t : Bool) → (a == 45) ≡ t → PlainWord (a ∷ [])
    go true t = record { dashes = rw t refl; long = rw t refl; short = rw t refl }
    go false t = record { dashes = rw t refl; long = rw t refl; short = rw t refl }
met (a ∷ b ∷ []) e = go (a == 45) refl e
  where
    go : (t : Bool) → (a == 45) ≡ t → is_dashed_form (cond t dashed plain) ≡ false → Met (a ∷ b ∷ []) (cond t dashed plain)
    go false at e = record { dashes = rw at refl; long = rw at refl; short = rw at refl }
    go true at e = absurd (true≢false e)
met (a ∷ b ∷ c ∷ more) e = go (a == 45) (b == 45) refl refl e
  where
    go : (t u : Bool) → (a == 45) ≡ t → (b == 45) ≡ u → is_dashed_form (long_form t u (c ∷ more)) ≡ false → Met (a ∷ b ∷ c ∷ more) (long_form t u (c ∷ more))
    go false u at bt e = record { dashes = rw at refl; long = rw at refl; short = rw at refl }
    go true false at bt e = absurd (true≢false e)
    go true true at bt e = record { dashes = rw (at, bt) refl; long = rw (at, bt) refl }

-- ---- names

-- an option that has a value, and one that has none
abbrev pub Takes : SettingKind → Type 0
Takes seed = Unit {0}
Takes workers = Unit {0}
Takes trace = ⊥
Takes text = ⊥
Takes place = ⊥

abbrev pub IsFlag : SettingKind → Type 0
IsFlag seed = ⊥
IsFlag workers = ⊥
IsFlag trace = Unit {0}
IsFlag text = Unit {0}
IsFlag place = ⊥

-- the options of this name: one that has a value, one that has none, or none
pub data Named (name : Word) : Type 0 where
  valued_one : (kind : SettingKind) → valued_named name ≡ Some kind → arg_by_long rules name ≡ Some (rule_for kind) → Takes kind → Named name
  flag_one : (kind : SettingKind) → valued_named name ≡ None → flag_named name ≡ Some kind → arg_by_long rules name ≡ Some (rule_for kind) → IsFlag kind → Named name
  unknown : valued_named name ≡ None → flag_named name ≡ None → arg_by_long rules name ≡ None → Named name

pub named : (name : Word) → Named name
named name = go (bytes_eq (codes "seed") name) (bytes_eq (codes "workers") name) (bytes_eq (codes "trace") name) (bytes_eq (codes "text") name) refl refl refl refl
  where
    go : (a b c d : Bool) → bytes_eq (codes "seed") name ≡ a → bytes_eq (codes "workers") name ≡ b → bytes_eq (codes "trace") name ≡ c → bytes_eq (codes "text") name ≡ d → Named name
    go true b c d e1 e2 e3 e4 = valued_one seed (rw e1 refl) (rw e1 refl) tt
    go false true c d e1 e2 e3 e4 = valued_one workers (rw (e1, e2) refl) (rw (e1, e2) refl) tt
    go false false true d e1 e2 e3 e4 = flag_one trace (rw (e1, e2) refl) (rw e3 refl) (rw (e1, e2, e3) refl) tt
    go false false false true e1 e2 e3 e4 = flag_one text (rw (e1, e2) refl) (rw (e3, e4) refl) (rw (e1, e2, e3, e4) refl) tt
    go false false false false e1 e2 e3 e4 = unknown (rw (e1, e2) refl) (rw (e3, e4) refl) (rw (e1, e2, e3, e4) refl)
