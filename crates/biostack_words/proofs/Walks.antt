-- What `clap` makes of the words behind the first, by the grammar.
use Rattle.std.proofs.Common.{◌≡◌, ◌∙◌, ℕ, Bool, true, false, refl, sym, ap, subst, List, [], ◌∷◌, ◌++◌, Option, Some, None}
use Rattle.clap.specs.Walk.{done as is_done, waits as waits_for, long_met, next as next_step, Step}
use Rattle.std.specs.List.{list_any}
use Rattle.std.specs.Option.{option_map}
use Rattle.std.proofs.lemmas.Bool.{or_parts, and_right}
use Rattle.clap.specs.Walk.{Held, Row, is_pending, after_step, plain_word, Rule, Text, Walk, arg_by_long, idle, option as for_option, settled_rows, used, walked}
use Rattle.clap.specs.Simple.{built, entered}
use Rattle.clap.specs.Kinds.{Kinds}
use Rattle.clap.specs.Faults.{entered_fault, fault_of, settle_fault, turn_fault, long_fault}
use Rattle.biostack_words.specs.Grammar.{is as is_read, waits as waits_then, as_option, with_its_value, wrong, Reading, reading, value_reading, WordForm, SettingKind, Setting, Word, alone, as_flag, dashed, followed, form_of_word, has, are_once, is_dashed, option, place, plain, seed, settings_from, text, trace, with_value, workers}
use Rattle.biostack_words.specs.Parser.{parser}
use Rattle.biostack_words.proofs.Parsing.{IsFlag, Long, Met, Named, PlainWord, Takes, ends, fails, fails_then, flag_one, goes_on, holding, id_of, last, met, named, rows_for, rule_for, rules, shape, standing, stops, unknown, valued_one}
use Rattle.biostack_words.proofs.Uses.{Fits, first_use, second_use}
use Rattle.biostack_words.proofs.Turns.{doomed, flag_fault, late_option, long_stops, long_turn, long_walked, plain_turn, plain_walked, value_of_flag, valued_fault, waits_fault}
use Rattle.biostack_words.proofs.Standing.{Agrees, AgreesAt, IdleAgrees, Stands, WaitAgrees, again, at_end, both_refuse, flag_is_met, flag_is_not, flag_no_place, missing, one_setting, pending_again, pending_stands, place_is, place_moves, place_of, place_stays, takes_is_valued, takes_no_place, used_stands, valued_met, waits_met}

-- ---- one word

-- an option that is done with its word, and one that waits for a value
module _ (rows : List Row) (pending : Option (Text × List Text)) (position : ℕ) (word name : Text) (value : Option Text) (a : Rule) (is : Long word name value)
    (found : arg_by_long rules name ≡ Some a) (passes : long_fault rules false (Some a) value (holding rows pending) ≡ []) where
  long_done : (after : Held) → long_met rules (Some a) value (holding rows pending) ≡ (after, is_done)
      → (turn_fault shape [] (standing rows pending idle position) word ≡ [])
      × (walked rules [] (standing rows pending idle position) word ≡ record { held = after; waiting = idle; position = position; is_trailing = false; stopped = None })
  long_done after met =
      (long_turn rows pending position word name value is ∙ rw (found, passes, met) refl, long_walked rows pending position word name value is ∙ rw (found, met) refl)

  long_waits : (after : Held) (id : Text) → long_met rules (Some a) value (holding rows pending) ≡ (after, waits_for id)
      → (turn_fault shape [] (standing rows pending idle position) word ≡ [])
      × (walked rules [] (standing rows pending idle position) word ≡ record { held = after; waiting = for_option id; position = position; is_trailing = false; stopped = None })
  long_waits after id met =
      (long_turn rows pending position word name value is ∙ rw (found, passes, met) refl, long_walked rows pending position word name value is ∙ rw (found, met) refl)

-- what agrees behind a word that passes agrees with it
passed_on : (done : List Setting) (rest : Option (List Setting)) (w after : Walk) (word : Word) (words : List Word) → turn_fault shape [] w word ≡ [] → walked rules [] w word ≡ after
    → Agrees done rest (ends after words) (last after words).held → Agrees done rest (ends w (word ∷ words)) (last w (word ∷ words)).held
passed_on done rest w after word words passes is agrees =
    subst (λ (fault : Kinds). Agrees done rest fault (last w (word ∷ words)).held) (sym (goes_on w after word words passes is))
    (subst (λ (v : Walk). Agrees done rest (ends after words) (last v words).held) (sym is) agrees)

-- a setting that is there already is refused by both
refused_twice : (setting : Setting) (done : List Setting) (rest : Option (List Setting)) (w : Walk) (word : Word) (words : List Word) → has setting.kind done ≡ true
    → fails (ends w (word ∷ words)) ≡ true → Agrees done (option_map (λ more. setting ∷ more) rest) (ends w (word ∷ words)) (last w (word ∷ words)).held
refused_twice setting done rest w word words some fail = both_refuse fail (again setting done rest some)

module _ (word : Word) (words : List Word) (clear : list_any is_dashed words ≡ false) (idle_rest : IdleAgrees words) (wait_rest : WaitAgrees words)
    (done : List Setting) (rows : List Row) (pending : Option (Text × List Text)) (stands : Stands done rows pending) where
  abbrev here : Walk
  here = standing rows pending idle (place_of done)

  abbrev settled_here : List Row
  settled_here = settled_rows rules pending rows

  abbrev AgreesBy : Reading → Type 0
  AgreesBy read = Agrees done (followed read (λ next. settings_from next words)) (ends here (word ∷ words)) (last here (word ∷ words)).held

  -- `--NAME=VALUE`
  with_value_agrees : (name value : Word) → Long word name (Some value) → (kind : SettingKind) → arg_by_long rules name ≡ Some (rule_for kind) → Takes kind → (b : Bool) → has kind done ≡ b
      → AgreesBy (is_read (with_value kind value))
  with_value_agrees name value is kind found t true there =
      refused_twice (with_value kind value) done _ here word words there
      (stops here word words
      (long_stops rows pending (place_of done) word idle name (Some value) is
      (rw (found, valued_fault kind value (holding rows pending) t)
      (fails_then (settle_fault rules false (holding rows pending)) _ (rw stands.settled (second_use kind (Some value) done (sym (takes_is_valued kind t)) there))))))
  with_value_agrees name value is kind found t false there =
      let fits : Fits kind (Some value) = sym (takes_is_valued kind t) in
      let first = first_use kind (Some value) done fits there in
      let passes : long_fault rules false (Some (rule_for kind)) (Some value) (holding rows pending) ≡ [] =
      valued_fault kind value (holding rows pending) t ∙ rw (stands.settles, stands.settled) first.0 in
      let step = long_done rows pending (place_of done) word name (Some value) (rule_for kind) is found passes _ (valued_met kind value (holding rows pending) t) in
      let after : List Setting = done ++ with_value kind value ∷ [] in
      let next : AgreesAt after None (standing (used (rule_for kind) (value ∷ []) settled_here) None idle (place_of done)) words =
      subst (λ (k : ℕ). AgreesAt after None (standing (used (rule_for kind) (value ∷ []) settled_here) None idle k) words) (place_stays kind (Some value) done (takes_no_place kind t))
      (idle_rest after _ None (used_stands kind (Some value) done settled_here fits stands.once there stands.settled)) in
      passed_on done _ here _ word words step.0 step.1 (one_setting (with_value kind value) done _ _ _ next)

  -- `--NAME` of an option that has no value
  flag_agrees : (name : Word) → Long word name None → (kind : SettingKind) → arg_by_long rules name ≡ Some (rule_for kind) → IsFlag kind → (b : Bool) → has kind done ≡ b → AgreesBy (is_read (alone kind))
  flag_agrees name is kind found t true there =
      refused_twice (alone kind) done _ here word words there
      (stops here word words
      (long_stops rows pending (place_of done) word idle name None is
      (rw (found, flag_fault kind (holding rows pending) t)
      (fails_then (settle_fault rules false (holding rows pending)) _ (rw stands.settled (second_use kind None done (flag_is_not kind t) there))))))
  flag_agrees name is kind found t false there =
      let first = first_use kind None done (flag_is_not kind t) there in
      let passes : long_fault rules false (Some (rule_for kind)) None (holding rows pending) ≡ [] =
      flag_fault kind (holding rows pending) t ∙ rw (stands.settles, stands.settled) first.0 in
      let step = long_done rows pending (place_of done) word name None (rule_for kind) is found passes _ (flag_is_met kind (holding rows pending) t) in
      let after : List Setting = done ++ alone kind ∷ [] in
      let next : AgreesAt after None (standing (used (rule_for kind) [] settled_here) None idle (place_of done)) words =
      subst (λ (k : ℕ). AgreesAt after None (standing (used (rule_for kind) [] settled_here) None idle k) words) (place_stays kind None done (flag_no_place kind t))
      (idle_rest after _ None (used_stands kind None done settled_here (flag_is_not kind t) stands.once there stands.settled)) in
      passed_on done _ here _ word words step.0 step.1 (one_setting (alone kind) done _ _ _ next)

  -- `--NAME` of an option that has a value
  waits_agrees : (name : Word) → Long word name None → (kind : SettingKind) → arg_by_long rules name ≡ Some (rule_for kind) → Takes kind → AgreesBy (waits_then kind)
  waits_agrees name is kind found t =
      let passes : long_fault rules false (Some (rule_for kind)) None (holding rows pending) ≡ [] = waits_fault kind (holding rows pending) t ∙ stands.settles in
      let step = long_waits rows pending (place_of done) word name None (rule_for kind) is found passes _ _ (waits_met kind (holding rows pending) t) in
      passed_on done _ here _ word words step.0 step.1
      (subst (λ (r : List Row). AgreesAt done (Some kind) (standing r (Some (id_of kind, [])) (for_option (id_of kind)) (place_of done)) words) (sym stands.settled)
      (wait_rest kind done t stands.once))

  -- a word that is no option of any
  refused_option : (name : Word) (value : Option Word) → Long word name value → fails (long_fault rules false (arg_by_long rules name) value (holding rows pending)) ≡ true → AgreesBy wrong
  refused_option name value is fail = both_refuse (stops here word words (long_stops rows pending (place_of done) word idle name value is fail)) refl

  option_agrees : (name : Word) (value : Option Word) → Long word name value → Named name → AgreesBy (reading (option name value) word)
  option_agrees name None is (valued_one kind a found t) = subst AgreesBy (sym (ap (λ k. as_option k name) a)) (waits_agrees name is kind found t)
  option_agrees name (Some value) is (valued_one kind a found t) =
      subst AgreesBy (sym (ap (λ k. with_its_value k value) a)) (with_value_agrees name value is kind found t (has kind done) refl)
  option_agrees name None is (flag_one kind a b found t) =
      subst AgreesBy (sym (ap (λ k. as_option k name) a ∙ ap as_flag b)) (flag_agrees name is kind found t (has kind done) refl)
  option_agrees name (Some value) is (flag_one kind a b found t) =
      subst AgreesBy (sym (ap (λ k. with_its_value k value) a)) (refused_option name (Some value) is (rw found (value_of_flag kind value (holding rows pending) t)))
  option_agrees name None is (unknown a b found) = subst AgreesBy (sym (ap (λ k. as_option k name) a ∙ ap as_flag b)) (refused_option name None is (rw found refl))
  option_agrees name (Some value) is (unknown a b found) = subst AgreesBy (sym (ap (λ k. with_its_value k value) a)) (refused_option name (Some value) is (rw found refl))

  -- a word alone
  place_agrees : PlainWord word → (b : Bool) → has place done ≡ b → AgreesBy (is_read (with_value place word))
  place_agrees is true there =
      refused_twice (with_value place word) done _ here word words there (stops here word words (rw (plain_turn rows pending (place_of done) word idle is, place_is done true there) refl))
  place_agrees is false there =
      let passes : turn_fault shape [] here word ≡ [] =
      plain_turn rows pending (place_of done) word idle is ∙ rw (place_is done false there, and_right (is_pending (rule_for place) pending) false refl) stands.settles in
      let goes : walked rules [] here word ≡ standing settled_here (Some (id_of place, word ∷ [])) idle 2 =
      plain_walked rows pending (place_of done) word idle is ∙ rw (place_is done false there, and_right (is_pending (rule_for place) pending) false refl) refl in
      let after : List Setting = done ++ with_value place word ∷ [] in
      let next : AgreesAt after None (standing settled_here (Some (id_of place, word ∷ [])) idle 2) words =
      subst (λ (k : ℕ). AgreesAt after None (standing settled_here (Some (id_of place, word ∷ [])) idle k) words) (place_moves word done)
      (idle_rest after _ _ (pending_stands place word done settled_here refl stands.once there stands.settled)) in
      passed_on done _ here _ word words passes goes (one_setting (with_value place word) done _ _ _ next)

  word_agrees : (f : WordForm) → Met word f → AgreesBy (reading f word)
  word_agrees (option name value) is = option_agrees name value is (named name)
  word_agrees dashed is = absurd is
  word_agrees plain is = place_agrees is (has place done) refl

-- the next word is the value
waits_word : (kind : SettingKind) (word : Word) (rows : List Row) → Takes kind
    → plain_word rules (for_option (id_of kind)) word (holding rows (Some (id_of kind, []))) ≡ (holding rows (Some (id_of kind, word ∷ [])), next_step idle)
waits_word seed word rows t = refl
waits_word workers word rows t = refl
waits_word trace word rows t = absurd t
waits_word text word rows t = absurd t
waits_word place word rows t = absurd t

-- no value is refused
no_value : (kind : SettingKind) (rows : List Row) → Takes kind → fails (settle_fault rules false (holding rows (Some (id_of kind, [])))) ≡ true
no_value seed rows t = refl
no_value workers rows t = refl
no_value trace rows t = absurd t
no_value text rows t = absurd t
no_value place rows t = absurd t

-- a word that waits for a value
module _ (word : Word) (words : List Word) (clear : list_any is_dashed words ≡ false) (idle_rest : IdleAgrees words)
    (kind : SettingKind) (done : List Setting) (t : Takes kind) (once : are_once done ≡ true) where
  abbrev pub waiting : Walk
  waiting = standing (rows_for done) (Some (id_of kind, [])) (for_option (id_of kind)) (place_of done)

  abbrev after_value : Walk
  after_value = standing (rows_for done) (Some (id_of kind, word ∷ [])) idle (place_of done)

  value_passes : PlainWord word → turn_fault shape [] waiting word ≡ []
  value_passes is = plain_turn (rows_for done) (Some (id_of kind, [])) (place_of done) word (for_option (id_of kind)) is

  value_goes : PlainWord word → walked rules [] waiting word ≡ after_value
  value_goes is =
      plain_walked (rows_for done) (Some (id_of kind, [])) (place_of done) word (for_option (id_of kind)) is
      ∙ ap (λ (p : Held × Step). after_step rules word waiting p.0 p.1) (waits_word kind word (rows_for done) t)

  value_agrees : PlainWord word → (b : Bool) → has kind done ≡ b
      → Agrees done (option_map (λ more. with_value kind word ∷ more) (settings_from None words)) (ends waiting (word ∷ words)) (last waiting (word ∷ words)).held
  value_agrees is true there =
      refused_twice (with_value kind word) done _ waiting word words there
      (ap fails (goes_on waiting after_value word words (value_passes is) (value_goes is))
      ∙ doomed (rows_for done) (Some (id_of kind, word ∷ [])) (place_of done) words clear (pending_again kind word done (rows_for done) (takes_is_valued kind t) there refl))
  value_agrees is false there =
      let after : List Setting = done ++ with_value kind word ∷ [] in
      let next : AgreesAt after None after_value words =
      subst (λ (k : ℕ). AgreesAt after None (standing (rows_for done) (Some (id_of kind, word ∷ [])) idle k) words) (place_stays kind (Some word) done (takes_no_place kind t))
      (idle_rest after _ _ (pending_stands kind word done (rows_for done) (takes_is_valued kind t) once there refl)) in
      passed_on done _ waiting after_value word words (value_passes is) (value_goes is) (one_setting (with_value kind word) done _ _ _ next)

  next_agrees : (f : WordForm) → Met word f → Agrees done (followed (value_reading kind f word) (λ next. settings_from next words)) (ends waiting (word ∷ words)) (last waiting (word ∷ words)).held
  next_agrees (option name value) is =
      both_refuse (stops waiting word words
      (long_stops (rows_for done) (Some (id_of kind, [])) (place_of done) word (for_option (id_of kind)) name value is
      (late_option name value (holding (rows_for done) (Some (id_of kind, []))) (no_value kind (rows_for done) t) (named name)))) refl
  next_agrees dashed is = absurd is
  next_agrees plain is = value_agrees is (has kind done) refl

agrees : (words : List Word) → list_any is_dashed words ≡ false → IdleAgrees words × WaitAgrees words
unfolding settings_from
agrees [] clear = (at_end, missing)
agrees (word ∷ words) clear =
    let parts = or_parts (is_dashed word) (list_any is_dashed words) clear in
    let rest = agrees words parts.1 in (
      λ done rows pending stands. word_agrees word words parts.1 rest.0 rest.1 done rows pending stands (form_of_word word) (met word parts.0),
      λ kind done t once. next_agrees word words parts.1 rest.0 kind done t once (form_of_word word) (met word parts.0),
    )

-- ---- the whole

none_entered : (stop : Option (Text × List Text)) → entered (built parser) stop ≡ None
none_entered None = refl
none_entered (Some p) = refl

none_below : (stop : Option (Text × List Text)) → entered_fault (built parser) stop ≡ []
none_below None = refl
none_below (Some p) = refl

abbrev pub first : Walk
first = standing [] None idle 1

pub faults_are : (words : List Word) → fault_of parser words ≡ ends first words
faults_are words = rw (none_entered (last first words).stopped, none_below (last first words).stopped) refl

nothing_stands : Stands [] [] None
nothing_stands = record { once = refl; settles = refl; settled = refl }

-- the parser refuses the words exactly where they are no settings, each at most once; and otherwise it has their rows
pub parses : (words : List Word) → list_any is_dashed words ≡ false → AgreesAt [] None first words
unfolding place_of
parses words clear = (agrees words clear).0 [] [] None nothing_stands
