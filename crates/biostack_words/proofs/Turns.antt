-- A turn of the parser, at a word of each form.
use Rattle.std.proofs.Common.{◌≡◌, ◌==◌, ℕ, Bool, true, false, refl, List, [], ◌∷◌, Option, Some, None}
use Rattle.clap.specs.Walk.{value as a_value}
use Rattle.std.specs.List.{list_any}
use Rattle.std.proofs.lemmas.Bool.{or_parts, and_right}
use Rattle.clap.specs.Walk.{Held, Row, is_pending, after_step, long_word, plain_word, positional, Text, Waiting, arg_by_long, idle, option as for_option, settled, walked}
use Rattle.clap.specs.Kinds.{or_else}
use Rattle.clap.specs.Faults.{settle_fault, turn_fault, use_fault, walk_fault, word_fault, long_fault, step_fault}
use Rattle.biostack_words.specs.Grammar.{WordForm, SettingKind, Word, dashed, form_of_word, is_dashed, option, place, plain, seed, text, trace, workers}
use Rattle.biostack_words.proofs.Parsing.{IsFlag, Long, Met, Named, PlainWord, Takes, ends, fails, fails_first, flag_one, holding, met, named, rule_for, rules, shape, standing, stops, unknown, valued_one}

-- ---- a turn

-- the parser's faults and walk at a word of each form
module _ (rows : List Row) (pending : Option (Text × List Text)) (position : ℕ) (word : Text) where
  pub long_stops : (waiting : Waiting) (name : Text) (value : Option Text) → Long word name value → fails (long_fault rules false (arg_by_long rules name) value (holding rows pending)) ≡ true
      → fails (turn_fault shape [] (standing rows pending waiting position) word) ≡ true
  long_stops waiting name value is e = fails_first (word_fault shape [] false waiting word (holding rows pending)) _ (go waiting)
    where
      go : (w : Waiting) → fails (word_fault shape [] false w word (holding rows pending)) ≡ true
      go idle = rw (is.dashes, is.long) e
      go positional = rw (is.dashes, is.long) e
      go (for_option id) = rw (is.dashes, is.long) e

  -- an option where no value waits
  pub long_turn : (name : Text) (value : Option Text) → Long word name value
      → turn_fault shape [] (standing rows pending idle position) word ≡ or_else (long_fault rules false (arg_by_long rules name) value (holding rows pending))
      (step_fault shape position (long_word rules idle word name value (holding rows pending)).0 (long_word rules idle word name value (holding rows pending)).1)
  long_turn name value is = rw (is.dashes, is.long) refl

  pub long_walked : (name : Text) (value : Option Text) → Long word name value
      → walked rules [] (standing rows pending idle position) word
      ≡ after_step rules word (standing rows pending idle position) (long_word rules idle word name value (holding rows pending)).0 (long_word rules idle word name value (holding rows pending)).1
  unfolding walked
  long_walked name value is = rw (is.dashes, is.long) refl

  -- a word that is no option
  pub plain_turn : (waiting : Waiting) → PlainWord word
      → turn_fault shape [] (standing rows pending waiting position) word
      ≡ step_fault shape position (plain_word rules waiting word (holding rows pending)).0 (plain_word rules waiting word (holding rows pending)).1
  plain_turn idle is = rw (is.dashes, is.long, is.short) refl
  plain_turn positional is = rw (is.dashes, is.long, is.short) refl
  plain_turn (for_option id) is = rw (is.dashes, is.long, is.short) refl

  pub plain_walked : (waiting : Waiting) → PlainWord word
      → walked rules [] (standing rows pending waiting position) word
      ≡ after_step rules word (standing rows pending waiting position) (plain_word rules waiting word (holding rows pending)).0 (plain_word rules waiting word (holding rows pending)).1
  unfolding walked
  plain_walked idle is = rw (is.dashes, is.long, is.short) refl
  plain_walked positional is = rw (is.dashes, is.long, is.short) refl
  plain_walked (for_option id) is = rw (is.dashes, is.long, is.short) refl

-- ---- options

pub valued_fault : (kind : SettingKind) (value : Word) (h : Held) → Takes kind
    → long_fault rules false (Some (rule_for kind)) (Some value) h ≡ or_else (settle_fault rules false h) (use_fault false (rule_for kind) (value ∷ []) (settled rules h).rows)
valued_fault seed value h t = refl
valued_fault workers value h t = refl
valued_fault trace value h t = absurd t
valued_fault text value h t = absurd t
valued_fault place value h t = absurd t

pub waits_fault : (kind : SettingKind) (h : Held) → Takes kind → long_fault rules false (Some (rule_for kind)) None h ≡ settle_fault rules false h
waits_fault seed h t = refl
waits_fault workers h t = refl
waits_fault trace h t = absurd t
waits_fault text h t = absurd t
waits_fault place h t = absurd t

pub flag_fault : (kind : SettingKind) (h : Held) → IsFlag kind
    → long_fault rules false (Some (rule_for kind)) None h ≡ or_else (settle_fault rules false h) (use_fault false (rule_for kind) [] (settled rules h).rows)
flag_fault trace h t = refl
flag_fault text h t = refl
flag_fault seed h t = absurd t
flag_fault workers h t = absurd t
flag_fault place h t = absurd t

pub value_of_flag : (kind : SettingKind) (value : Word) (h : Held) → IsFlag kind → fails (long_fault rules false (Some (rule_for kind)) (Some value) h) ≡ true
value_of_flag trace value h t = refl
value_of_flag text value h t = refl
value_of_flag seed value h t = absurd t
value_of_flag workers value h t = absurd t
value_of_flag place value h t = absurd t

-- where the state before it is refused, an option is
pub late_option : (name : Word) (value : Option Word) (h : Held) → fails (settle_fault rules false h) ≡ true → Named name
    → fails (long_fault rules false (arg_by_long rules name) value h) ≡ true
late_option name None h e (valued_one kind a found t) = rw (found, waits_fault kind h t) e
late_option name (Some value) h e (valued_one kind a found t) = rw (found, valued_fault kind value h t) (fails_first _ _ e)
late_option name None h e (flag_one kind a b found t) = rw (found, flag_fault kind h t) (fails_first _ _ e)
late_option name (Some value) h e (flag_one kind a b found t) = rw found (value_of_flag kind value h t)
late_option name value h e (unknown a b found) = rw found refl

-- ---- a state that is refused at any word, and at the end

place_fault : (h : Held) (position : ℕ) → fails (settle_fault rules false h) ≡ true → fails (step_fault shape position h a_value) ≡ true
place_fault h position e = go (1 == position) refl
  where
    go : (b : Bool) → (1 == position) ≡ b → fails (step_fault shape position h a_value) ≡ true
    go true is = rw (is, and_right (is_pending (rule_for place) h.pending) false refl) e
    go false is = rw is refl

pub doomed : (rows : List Row) (pending : Option (Text × List Text)) (position : ℕ) (words : List Word) → list_any is_dashed words ≡ false
    → fails (settle_fault rules false (holding rows pending)) ≡ true → fails (ends (standing rows pending idle position) words) ≡ true
unfolding walk_fault
doomed rows pending position [] none e = fails_first _ _ e
doomed rows pending position (word ∷ rest) none e = stops (standing rows pending idle position) word rest (go (form_of_word word) (met word (or_parts (is_dashed word) _ none).0))
  where
    go : (f : WordForm) → Met word f → fails (turn_fault shape [] (standing rows pending idle position) word) ≡ true
    go (option name value) is = long_stops rows pending position word idle name value is (late_option name value (holding rows pending) e (named name))
    go dashed is = absurd is
    go plain is = rw (plain_turn rows pending position word idle is) (place_fault (holding rows pending) position e)
