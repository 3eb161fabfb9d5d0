-- What is read of the parser's rows.
use Rattle.std.proofs.Common.{◌≡◌, ◌∙◌, ◌||◌, Bool, cond, codes, true, false, refl, sym, ap, subst, List, [], ◌∷◌, ◌++◌, Option, Some, None, true≢false}
use Rattle.std.specs.List.{find, fold, list_any}
use Rattle.std.specs.Option.{is_some, option_map, option_map_or, option_and_then}
use Rattle.std.specs.Prelude.{slice_get}
use Rattle.std.specs.Str.{bytes_eq}
use Rattle.std.proofs.lemmas.Bool.{or_parts}
use Rattle.clap.specs.Walk.{Row, Text, first_of, has_row, more_values, one_of, reading_by, row_text, with_default, with_values}
use Rattle.clap.specs.declared.parser.matches.ValueSource.TheVariants.{DefaultValue}
use Rattle.biostack_words.specs.Grammar.{GivenWords, SettingKind, Setting, Word, given_in, has, is_setting_of, kind_word, place, seed, text, trace, setting_value, workers}
use Rattle.biostack_words.specs.Reading.{IsSeen, flag_text}
use Rattle.biostack_words.proofs.Parsing.{has_row_for, id_of, is_valued, row_for, rows_for, rule_for, rules}
use Rattle.biostack_words.proofs.Uses.{row_missing}
use Rattle.biostack_words.proofs.Walks.{first}

-- kinds that are called the same are the same
same_kind : (one other : SettingKind) → bytes_eq (kind_word one) (kind_word other) ≡ true → one ≡ other
same_kind seed seed e = refl
same_kind workers workers e = refl
same_kind trace trace e = refl
same_kind text text e = refl
same_kind place place e = refl
same_kind _ _ e = absurd (true≢false (sym e))

-- the row of a kind is that of its first setting
find_row : (kind : SettingKind) (all : List Setting) → find (λ r. bytes_eq r.id (id_of kind)) (rows_for all) ≡ option_map row_for (find (is_setting_of kind) all)
find_row kind [] = refl
find_row kind (setting ∷ all) = go (is_setting_of kind setting) (find_row kind all)
  where
    go : (b : Bool) → find (λ r. bytes_eq r.id (id_of kind)) (rows_for all) ≡ option_map row_for (find (is_setting_of kind) all)
        → cond b (Some (row_for setting)) (find (λ r. bytes_eq r.id (id_of kind)) (rows_for all)) ≡ option_map row_for (cond b (Some setting) (find (is_setting_of kind) all))
    go true e = refl
    go false e = e

found_has : (p : Setting → Bool) (all : List Setting) (setting : Setting) → find p all ≡ Some setting → p setting ≡ true
found_has p [] setting e = absurd (true≢false (ap (λ o. Rattle.std.specs.Option.is_some o) (sym e)))
found_has p (first ∷ all) setting e = go (p first) refl e (found_has p all setting)
  where
    go : (b : Bool) → p first ≡ b → cond b (Some first) (find p all) ≡ Some setting → (find p all ≡ Some setting → p setting ≡ true) → p setting ≡ true
    go true is e later = subst (λ (o : Option Setting). option_map_or p o true ≡ true) e is
    go false is e later = later e

none_has : (kind : SettingKind) (all : List Setting) → find (is_setting_of kind) all ≡ None → has kind all ≡ false
none_has kind [] e = refl
none_has kind (first ∷ all) e = go (is_setting_of kind first) refl e (none_has kind all)
  where
    go : (b : Bool) → is_setting_of kind first ≡ b → cond b (Some first) (find (is_setting_of kind) all) ≡ None → (find (is_setting_of kind) all ≡ None → has kind all ≡ false) → (b || has kind all) ≡ false
    go true is e later = absurd (true≢false (ap (λ (o : Option Setting). Rattle.std.specs.Option.is_some o) e))
    go false is e later = later e

-- its value
slot : (kind : SettingKind) (v : Option Word) → is_valued kind ≡ true → slice_get (row_for (record { kind = kind; value = v })).values 0 ≡ v
slot seed (Some v) e = refl
slot workers (Some v) e = refl
slot place (Some v) e = refl
slot seed None e = refl
slot workers None e = refl
slot place None e = refl
slot trace v e = absurd (true≢false (sym e))
slot text v e = absurd (true≢false (sym e))

flag_slot : (kind : SettingKind) (v : Option Word) → is_valued kind ≡ false → row_text (row_for (record { kind = kind; value = v })) ≡ Some (codes "true")
flag_slot trace v e = refl
flag_slot text v e = refl
flag_slot seed v e = absurd (true≢false e)
flag_slot workers v e = absurd (true≢false e)
flag_slot place v e = absurd (true≢false e)

value_row : (kind : SettingKind) (all : List Setting) → is_valued kind ≡ true → first_of (id_of kind) (rows_for all) ≡ setting_value kind all
value_row kind all valued = ap (option_and_then (λ r. slice_get r.values 0)) (find_row kind all) ∙ go (find (is_setting_of kind) all) refl
  where
    go : (o : Option Setting) → find (is_setting_of kind) all ≡ o → option_and_then (λ r. slice_get r.values 0) (option_map row_for o) ≡ option_and_then (λ setting. setting.value) o
    go None e = refl
    go (Some setting) e =
        slot setting.kind setting.value (ap is_valued (same_kind setting.kind kind (found_has (is_setting_of kind) all setting e)) ∙ valued)

flag_row : (kind : SettingKind) (all : List Setting) → is_valued kind ≡ false → has kind all ≡ true → one_of (id_of kind) (rows_for all) ≡ Some (codes "true")
flag_row kind all flag some = ap (option_and_then row_text) (find_row kind all) ∙ go (find (is_setting_of kind) all) refl
  where
    go : (o : Option Setting) → find (is_setting_of kind) all ≡ o → option_and_then row_text (option_map row_for o) ≡ Some (codes "true")
    go None e = absurd (true≢false (sym some ∙ none_has kind all e))
    go (Some setting) e =
        flag_slot setting.kind setting.value (ap is_valued (same_kind setting.kind kind (found_has (is_setting_of kind) all setting e)) ∙ flag)

-- ---- defaults

abbrev found : Text → List Row → Option Row
found id rows = find (λ r. bytes_eq r.id id) rows

find_on : (id : Text) (rows : List Row) (row : Row) → bytes_eq row.id id ≡ false → found id (rows ++ row ∷ []) ≡ found id rows
find_on id [] row other = rw other refl
find_on id (r ∷ rows) row other = ap (λ o. cond (bytes_eq r.id id) (Some r) o) (find_on id rows row other)

find_last : (id : Text) (rows : List Row) (row : Row) → has_row id rows ≡ false → bytes_eq row.id id ≡ true → found id (rows ++ row ∷ []) ≡ Some row
find_last id [] row none is = rw is refl
find_last id (r ∷ rows) row none is =
    let parts = or_parts (bytes_eq r.id id) (has_row id rows) none in
    rw parts.0 (find_last id rows row parts.1 is)

abbrev default_row : SettingKind → Row
default_row kind = record { id = id_of kind; values = codes "false" ∷ []; count = None; source = Some DefaultValue; reading = reading_by (rule_for kind) }

with_new : (kind : SettingKind) (rows : List Row) → has_row (id_of kind) rows ≡ false
    → with_values (id_of kind) (reading_by (rule_for kind)) DefaultValue (codes "false" ∷ []) rows ≡ rows ++ default_row kind ∷ []
with_new kind rows none = row_missing (id_of kind) (more_values DefaultValue (codes "false" ∷ [])) _ rows none

default_text : (kind : SettingKind) → is_valued kind ≡ false → row_text (default_row kind) ≡ Some (codes "false")
default_text trace flag = refl
default_text text flag = refl
default_text seed flag = absurd (true≢false flag)
default_text workers flag = absurd (true≢false flag)
default_text place flag = absurd (true≢false flag)

-- what the default of a flag makes of the rows
default_is : (kind : SettingKind) (rows : List Row) (b : Bool) → is_valued kind ≡ false → has_row (id_of kind) rows ≡ b
    → with_default rows (rule_for kind) ≡ cond b rows (rows ++ default_row kind ∷ [])
default_is trace rows true flag there = rw there refl
default_is trace rows false flag there = rw there (with_new trace rows there)
default_is text rows true flag there = rw there refl
default_is text rows false flag there = rw there (with_new text rows there)
default_is seed rows b flag there = absurd (true≢false flag)
default_is workers rows b flag there = absurd (true≢false flag)
default_is place rows b flag there = absurd (true≢false flag)

either_same : (b : Bool) (rows : List Row) → cond b rows rows ≡ rows
either_same true rows = refl
either_same false rows = refl

no_default : (kind : SettingKind) (rows : List Row) → is_valued kind ≡ true → with_default rows (rule_for kind) ≡ rows
no_default seed rows valued = either_same (has_row (id_of seed) rows) rows
no_default workers rows valued = either_same (has_row (id_of workers) rows) rows
no_default place rows valued = either_same (has_row (id_of place) rows) rows
no_default trace rows valued = absurd (true≢false (sym valued))
no_default text rows valued = absurd (true≢false (sym valued))

-- the row of another id stays
other_stays : (kind : SettingKind) (id : Text) (rows : List Row) → is_valued kind ≡ false → bytes_eq (id_of kind) id ≡ false → found id (with_default rows (rule_for kind)) ≡ found id rows
other_stays kind id rows flag other = go (has_row (id_of kind) rows) refl
  where
    go : (b : Bool) → has_row (id_of kind) rows ≡ b → found id (with_default rows (rule_for kind)) ≡ found id rows
    go true there = ap (found id) (default_is kind rows true flag there)
    go false there = ap (found id) (default_is kind rows false flag there) ∙ find_on id rows (default_row kind) other

-- the rows with all defaults
abbrev pub all_rows : List Row → List Row
all_rows rows = fold with_default rows rules

abbrev flags_in : List Row → List Row
flags_in rows = with_default (with_default rows (rule_for trace)) (rule_for text)

flags_alone : (rows : List Row) → all_rows rows ≡ flags_in rows
flags_alone rows =
    no_default place _ refl ∙ ap flags_in (no_default workers _ refl ∙ no_default seed rows refl)

-- a value is as in the settings
value_seen : (kind : SettingKind) (all : List Setting) → is_valued kind ≡ true → bytes_eq (id_of trace) (id_of kind) ≡ false → bytes_eq (id_of text) (id_of kind) ≡ false
    → first_of (id_of kind) (all_rows (rows_for all)) ≡ setting_value kind all
value_seen kind all valued one other =
    ap (first_of (id_of kind)) (flags_alone (rows_for all))
    ∙ ap (option_and_then (λ r. slice_get r.values 0)) (other_stays text (id_of kind) _ refl other ∙ other_stays trace (id_of kind) (rows_for all) refl one)
    ∙ value_row kind all valued

abbrev has_text : SettingKind → List Setting → Text
has_text kind all = flag_text (has kind all)

has_found : (id : Text) (rows : List Row) → has_row id rows ≡ is_some (found id rows)
has_found id [] = refl
has_found id (row ∷ rows) = go (bytes_eq row.id id) (has_found id rows)
  where
    go : (b : Bool) → has_row id rows ≡ is_some (found id rows) → (b || has_row id rows) ≡ is_some (cond b (Some row) (found id rows))
    go true e = refl
    go false e = e

-- so is a flag, with its default, in rows that have what the settings have of it
flag_seen : (kind : SettingKind) (all : List Setting) (rows : List Row) → is_valued kind ≡ false → bytes_eq (id_of kind) (id_of kind) ≡ true → found (id_of kind) rows ≡ found (id_of kind) (rows_for all)
    → option_and_then row_text (found (id_of kind) (with_default rows (rule_for kind))) ≡ Some (has_text kind all)
flag_seen kind all rows flag own same = go (has kind all) refl
  where
    there_is : has_row (id_of kind) rows ≡ has kind all
    there_is = has_found (id_of kind) rows ∙ ap (λ (o : Option Row). is_some o) same ∙ sym (has_found (id_of kind) (rows_for all)) ∙ has_row_for kind all

    go : (b : Bool) → has kind all ≡ b → option_and_then row_text (found (id_of kind) (with_default rows (rule_for kind))) ≡ Some (flag_text b)
    go true there =
        ap (λ rows. option_and_then row_text (found (id_of kind) rows)) (default_is kind rows true flag (there_is ∙ there))
        ∙ ap (option_and_then row_text) same ∙ flag_row kind all flag there
    go false there =
        ap (λ rows. option_and_then row_text (found (id_of kind) rows)) (default_is kind rows false flag (there_is ∙ there))
        ∙ ap (option_and_then row_text) (find_last (id_of kind) rows (default_row kind) (there_is ∙ there) own) ∙ default_text kind flag

trace_seen : (all : List Setting) → one_of (codes "trace") (all_rows (rows_for all)) ≡ Some (has_text trace all)
trace_seen all =
    ap (one_of (codes "trace")) (flags_alone (rows_for all)) ∙ ap (option_and_then row_text) (other_stays text (id_of trace) (with_default (rows_for all) (rule_for trace)) refl refl)
    ∙ flag_seen trace all (rows_for all) refl refl refl

text_seen : (all : List Setting) → one_of (codes "text") (all_rows (rows_for all)) ≡ Some (has_text text all)
text_seen all =
    ap (one_of (codes "text")) (flags_alone (rows_for all))
    ∙ flag_seen text all (with_default (rows_for all) (rule_for trace)) refl refl (other_stays trace (id_of text) (rows_for all) refl refl)

-- what is read of the rows of these settings is what they give
pub seen_is : (all : List Setting) (seen : GivenWords) → IsSeen (all_rows (rows_for all)) seen → seen ≡ given_in all
seen_is all seen is = λ i. record {
  seed = (is.seed ∙ value_seen seed all refl refl refl) i;
  workers = (is.workers ∙ value_seen workers all refl refl refl) i;
  trace = is.trace (has trace all) (trace_seen all) i;
  text = is.text (has text all) (text_seen all) i;
  number = (is.number ∙ value_seen place all refl refl refl) i;
}
