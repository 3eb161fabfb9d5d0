-- What the parser's answer says of the words.
use Rattle.std.proofs.Common.{◌≡◌, ◌∙◌, ◌||◌, Bool, true, false, refl, sym, ap, subst, List, [], ◌∷◌, Option, Some, None, Err, inl, inr, true≢false}
use Rattle.std.specs.List.{list_any}
use Rattle.std.specs.Option.{option_and_then}
use Rattle.clap.specs.Walk.{Row}
use Rattle.clap.specs.Simple.{matches_of}
use Rattle.clap.specs.Faults.{fault_of}
use Rattle.clap.specs.Kinds.{HasKind, IsAmong, Kinds}
use Rattle.clap.specs.Values.{kind_of}
use Rattle.clap.specs.declared.error.Error.{Error}
use Rattle.clap.specs.declared.error.kind.ErrorKind.{ErrorKind}
use Rattle.biostack_words.specs.Grammar.{WordForm, GivenWords, SettingKind, Reading, Setting, Word, are_once, dashed, followed, form_of_word, given_by_words, given_in, given_once, is, is_dashed, is_dashed_form, option, plain, reading, settings, settings_from, value_reading, waits, wrong}
use Rattle.biostack_words.specs.Reading.{IsSeen, ReadsGiven, fault_for}
use Rattle.biostack_words.specs.Parser.{parser}
use Rattle.biostack_words.specs.declared.WordFault.{WordFault}
use Rattle.biostack_words.specs.declared.WordFault.TheVariants.{Refused, Memory}
use Rattle.biostack_words.proofs.Parsing.{ends, fails}
use Rattle.biostack_words.proofs.Standing.{AgreesAt, both_read, both_refuse}
use Rattle.biostack_words.proofs.Walks.{faults_are, first, parses}
use Rattle.biostack_words.proofs.Rows.{all_rows, seen_is}

no_fault : (kinds : Kinds) → fails kinds ≡ true → kinds ≡ [] → ⊥
no_fault [] fail e = true≢false (sym fail)
no_fault (kind ∷ kinds) fail e = true≢false (sym fail ∙ ap fails e)

some_fault : (kind : ErrorKind) (kinds : Kinds) → IsAmong kind kinds → kinds ≡ [] → ⊥
some_fault kind [] among e = among
some_fault kind (k ∷ kinds) among e = true≢false (ap fails e)

given_of : (all : List Setting) (words : List Word) → settings words ≡ Some all → are_once all ≡ true → given_by_words words ≡ Some (given_in all)
given_of all words are once = ap (option_and_then given_once) are ∙ rw once refl

-- no fault, and this is read of the rows
pub read_is : (words : List Word) (seen : GivenWords) → list_any is_dashed words ≡ false → fault_of parser words ≡ [] → IsSeen (matches_of parser words) seen → given_by_words words ≡ Some seen
read_is words seen clear passes sees = go (parses words clear)
  where
    go : AgreesAt [] None first words → given_by_words words ≡ Some seen
    go (both_refuse fail none) = absurd (no_fault (ends first words) fail (sym (faults_are words) ∙ passes))
    go (both_read all none are once rows) =
        given_of all words are once ∙ ap (λ g. Some g) (sym (seen_is all seen (subst (λ (r : List Row). IsSeen (all_rows r) seen) rows sees)))

-- a fault
pub refused_is : (words : List Word) (kind : ErrorKind) → list_any is_dashed words ≡ false → IsAmong kind (fault_of parser words) → given_by_words words ≡ None
refused_is words kind clear among = go (parses words clear)
  where
    go : AgreesAt [] None first words → given_by_words words ≡ None
    go (both_refuse fail none) = none
    go (both_read all none are once rows) = absurd (some_fault kind (fault_of parser words) among (faults_are words ∙ none))

pub fault_is : (words : List Word) (error : Error) → list_any is_dashed words ≡ false → HasKind (fault_of parser words) error → ReadsGiven words (Err (fault_for (kind_of error)))
fault_is words error clear (inl memory) = subst (λ (k : ErrorKind). ReadsGiven words (Err (fault_for k))) (sym memory) tt
fault_is words error clear (inr among) = go (fault_for (kind_of error))
  where
    go : (fault : WordFault) → ReadsGiven words (Err fault)
    go Refused = refused_is words (kind_of error) clear among
    go Memory = tt

-- what a word of this form is
abbrev reads : Option SettingKind → WordForm → Word → Reading
reads None f word = reading f word
reads (Some kind) f word = value_reading kind f word

-- a dashed word
none_follows : (read : Reading) (rest : Option SettingKind → Option (List Setting)) → ((next : Option SettingKind) → rest next ≡ None) → followed read rest ≡ None
none_follows (is setting) rest none = rw (none None) refl
none_follows (waits kind) rest none = none (Some kind)
none_follows wrong rest none = refl

dashed_reading : (waiting : Option SettingKind) (f : WordForm) (word : Word) → is_dashed_form f ≡ true → reads waiting f word ≡ wrong
dashed_reading None dashed word some = refl
dashed_reading (Some kind) dashed word some = refl
dashed_reading waiting plain word some = absurd (true≢false (sym some))
dashed_reading waiting (option name value) word some = absurd (true≢false (sym some))

dashed_wrong : (words : List Word) → list_any is_dashed words ≡ true → (waiting : Option SettingKind) → settings_from waiting words ≡ None
unfolding settings_from
dashed_wrong [] some waiting = absurd (true≢false (sym some))
dashed_wrong (word ∷ words) some waiting = go (is_dashed word) refl some waiting (dashed_wrong words)
  where
    go : (b : Bool) → is_dashed word ≡ b → (b || list_any is_dashed words) ≡ true → (waiting : Option SettingKind) → (list_any is_dashed words ≡ true → (next : Option SettingKind) → settings_from next words ≡ None)
        → settings_from waiting (word ∷ words) ≡ None
    go true is_one some None later = ap (λ read. followed read (λ next. settings_from next words)) (dashed_reading None (form_of_word word) word is_one)
    go true is_one some (Some kind) later = ap (λ read. followed read (λ next. settings_from next words)) (dashed_reading (Some kind) (form_of_word word) word is_one)
    go false is_one some None later = none_follows _ _ (later some)
    go false is_one some (Some kind) later = none_follows _ _ (later some)

pub dashed_is : (words : List Word) → list_any is_dashed words ≡ true → given_by_words words ≡ None
dashed_is words some = ap (option_and_then given_once) (dashed_wrong words some None)
