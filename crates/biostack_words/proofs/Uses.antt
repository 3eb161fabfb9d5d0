-- Uses of settings: a first one is a row more, and a second one is refused.
use Rattle.std.proofs.Common.{◌≡◌, ◌∙◌, ◌&&◌, ◌||◌, Bool, codes, true, false, not, refl, sym, ap, List, [], ◌∷◌, ◌++◌, Option, Some, None, is_some, append-nil, true≢false}
use Rattle.std.proofs.lemmas.List.{map-append}
use Rattle.std.proofs.lemmas.Slice.Eq.{bytes_eq-Decides}
use Rattle.std.proofs.lemmas.Bool.Decides.{Decides-like, same_from_decides}
use Rattle.std.proofs.lemmas.Bool.{and_parts, not-true, or_parts, or_left, or_right, and_right}
use Rattle.std.specs.Str.{bytes_eq}
use Rattle.clap.specs.Walk.{Row, at_row, more_values, with_values, without, Text, has_row, used}
use Rattle.clap.specs.Faults.{use_fault}
use Rattle.clap.specs.declared.parser.matches.ValueSource.TheVariants.{CommandLine}
use Rattle.biostack_words.specs.Grammar.{SettingKind, Setting, Word, alone, given_once, has, are_once, is_setting_of, kind_word, place, seed, text, trace, with_value, workers}
use Rattle.biostack_words.proofs.Parsing.{fails, has_row_for, id_of, is_valued, row_for, rows_for, rule_for, use_values}

-- ---- uses

-- the kind has a value exactly where there is one
abbrev pub Fits : SettingKind → Option Word → Type 0
Fits kind value = is_some value ≡ is_valued kind

-- where no row has the id, one that is missing stands behind all
pub row_missing : (id : Text) (change : Row → List Row) (missing : List Row) (rows : List Row) → has_row id rows ≡ false → at_row id change missing rows ≡ rows ++ missing
row_missing id change missing [] none = refl
row_missing id change missing (row ∷ rows) none =
    let parts = or_parts (bytes_eq row.id id) (has_row id rows) none in
    rw parts.0 (ap (λ more. row ∷ more) (row_missing id change missing rows parts.1))

passed_over : (kind : SettingKind) (change : Row → List Row) (missing : List Row) (done : List Setting) → has kind done ≡ false
    → at_row (id_of kind) change missing (rows_for done) ≡ rows_for done ++ missing
passed_over kind change missing done none = row_missing (id_of kind) change missing (rows_for done) (has_row_for kind done ∙ none)

-- the row of an id that has none stands behind the others
row_more : (kind : SettingKind) (how : _) (values : List Text) (done : List Setting) → has kind done ≡ false
    → with_values (id_of kind) how CommandLine values (without (id_of kind) (rows_for done))
    ≡ rows_for done ++ record { id = id_of kind; values = values; count = None; source = Some CommandLine; reading = how } ∷ []
row_more kind how values done none =
    let gone : without (id_of kind) (rows_for done) ≡ rows_for done = passed_over kind (λ _. []) [] done none ∙ append-nil (rows_for done) in
    ap (with_values (id_of kind) how CommandLine values) gone ∙ passed_over kind (more_values CommandLine values) _ done none

more_is : (done : List Setting) (setting : Setting) → rows_for done ++ row_for setting ∷ [] ≡ rows_for (done ++ setting ∷ [])
more_is done setting = sym (map-append row_for done (setting ∷ []))

-- a first use passes, and is a row more
pub first_use : (kind : SettingKind) (value : Option Word) (done : List Setting) → Fits kind value → has kind done ≡ false
    → (use_fault false (rule_for kind) (use_values value) (rows_for done) ≡ [])
    × (used (rule_for kind) (use_values value) (rows_for done) ≡ rows_for (done ++ record { kind = kind; value = value } ∷ []))
first_use seed (Some v) done fits none = (rw (has_row_for seed done ∙ none) refl, row_more seed _ (v ∷ []) done none ∙ more_is done (with_value seed v))
first_use workers (Some v) done fits none = (rw (has_row_for workers done ∙ none) refl, row_more workers _ (v ∷ []) done none ∙ more_is done (with_value workers v))
first_use place (Some v) done fits none = (rw (has_row_for place done ∙ none) refl, row_more place _ (v ∷ []) done none ∙ more_is done (with_value place v))
first_use trace None done fits none = (rw (has_row_for trace done ∙ none) refl, row_more trace _ (codes "true" ∷ []) done none ∙ more_is done (alone trace))
first_use text None done fits none = (rw (has_row_for text done ∙ none) refl, row_more text _ (codes "true" ∷ []) done none ∙ more_is done (alone text))
first_use seed None done fits none = absurd (true≢false (sym fits))
first_use workers None done fits none = absurd (true≢false (sym fits))
first_use place None done fits none = absurd (true≢false (sym fits))
first_use trace (Some v) done fits none = absurd (true≢false fits)
first_use text (Some v) done fits none = absurd (true≢false fits)

-- a second one does not pass
pub second_use : (kind : SettingKind) (value : Option Word) (done : List Setting) → Fits kind value → has kind done ≡ true
    → fails (use_fault false (rule_for kind) (use_values value) (rows_for done)) ≡ true
second_use seed (Some v) done fits some = rw (has_row_for seed done ∙ some) refl
second_use workers (Some v) done fits some = rw (has_row_for workers done ∙ some) refl
second_use place (Some v) done fits some = rw (has_row_for place done ∙ some) refl
second_use trace None done fits some = rw (has_row_for trace done ∙ some) refl
second_use text None done fits some = rw (has_row_for text done ∙ some) refl
second_use seed None done fits some = refl
second_use workers None done fits some = refl
second_use place None done fits some = refl
second_use trace (Some v) done fits some = refl
second_use text (Some v) done fits some = refl

-- ---- what the grammar says of repeated settings

or_assoc : (a b c : Bool) → (a || (b || c)) ≡ ((a || b) || c)
or_assoc true b c = refl
or_assoc false b c = refl

pub has_on : (kind : SettingKind) (done more : List Setting) → has kind (done ++ more) ≡ (has kind done || has kind more)
has_on kind [] more = refl
has_on kind (setting ∷ done) more = ap (λ b. is_setting_of kind setting || b) (has_on kind done more) ∙ or_assoc (is_setting_of kind setting) (has kind done) (has kind more)

-- of one kind, either way round
is_of_back : (one other : Setting) → is_setting_of one.kind other ≡ is_setting_of other.kind one
is_of_back one other =
    same_from_decides _ _ (bytes_eq-Decides (kind_word other.kind) (kind_word one.kind)) (Decides-like _ sym sym (bytes_eq-Decides (kind_word one.kind) (kind_word other.kind)))

pub or_no : (b : Bool) → (b || (false || false)) ≡ b
or_no true = refl
or_no false = refl

pub or_yes : (b : Bool) → (b || (true || false)) ≡ true
or_yes true = refl
or_yes false = refl

-- two of one kind
are_twice : (setting : Setting) (done more : List Setting) → has setting.kind done ≡ true → are_once (done ++ setting ∷ more) ≡ false
are_twice setting [] more some = absurd (true≢false (sym some))
are_twice setting (first ∷ done) more some = go (is_setting_of setting.kind first) refl some (are_twice setting done more)
  where
    go : (b : Bool) → is_setting_of setting.kind first ≡ b → (b || has setting.kind done) ≡ true → (has setting.kind done ≡ true → are_once (done ++ setting ∷ more) ≡ false)
        → (not (has first.kind (done ++ setting ∷ more)) && are_once (done ++ setting ∷ more)) ≡ false
    go true e some later =
        let there : has first.kind (done ++ setting ∷ more) ≡ true =
        has_on first.kind done (setting ∷ more) ∙ or_right (has first.kind done) _ (or_left _ (has first.kind more) (is_of_back first setting ∙ e)) in
        rw there refl
    go false e some later = and_right (not (has first.kind (done ++ setting ∷ more))) _ (later some)

pub one_more : (setting : Setting) (done : List Setting) → are_once done ≡ true → has setting.kind done ≡ false → are_once (done ++ setting ∷ []) ≡ true
one_more setting [] once none = refl
one_more setting (first ∷ done) once none =
    let parts = and_parts (not (has first.kind done)) (are_once done) once in
    let apart = or_parts (is_setting_of setting.kind first) (has setting.kind done) none in
    let other : is_setting_of first.kind setting ≡ false = is_of_back first setting ∙ apart.0 in
    let fresh : has first.kind (done ++ setting ∷ []) ≡ false = has_on first.kind done (setting ∷ []) ∙ rw (not-true (has first.kind done) parts.0, other) refl in
    rw (fresh, one_more setting done parts.1 apart.1) refl

pub repeated : (setting : Setting) (done more : List Setting) → has setting.kind done ≡ true → given_once (done ++ setting ∷ more) ≡ None
repeated setting done more some = rw (are_twice setting done more some) refl
