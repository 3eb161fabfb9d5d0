-- What the parser says by the grammar, where the words so far are settings, and at the end.
use Rattle.std.proofs.Common.{◌≡◌, ◌∙◌, ◌||◌, ℕ, Bool, cond, if◌then◌else◌, true, false, refl, sym, ap, List, [], ◌∷◌, ◌++◌, Option, Some, None, append_assoc, append-nil, true≢false}
use Rattle.clap.specs.Walk.{done as is_done, waits as waits_for, long_met, with_default}
use Rattle.std.specs.Option.{option_map, option_and_then}
use Rattle.std.specs.Str.{bytes_eq}
use Rattle.clap.specs.Walk.{Held, Row, Rule, Text, Walk, has_row, idle, option as for_option, reacted, settled, settled_rows, used}
use Rattle.clap.specs.Kinds.{Kinds}
use Rattle.clap.specs.Faults.{defaults_fault, settle_fault, default_fault, use_fault, walk_fault}
use Rattle.biostack_words.specs.Grammar.{GivenWords, SettingKind, Setting, Word, given_once, has, are_once, kind_word, place, seed, settings_from, text, trace, with_value, workers}
use Rattle.biostack_words.proofs.Parsing.{IsFlag, Takes, ends, fails, holding, id_of, is_valued, last, rows_for, rule_for, rules, standing, use_values}
use Rattle.biostack_words.proofs.Uses.{Fits, first_use, has_on, one_more, or_no, or_yes, repeated, second_use}

-- ---- what the parser says, by the grammar

-- the settings so far are followed by those of the words, and no two are of one kind
abbrev pub given_on : List Setting → Option (List Setting) → Option GivenWords
given_on done rest = option_and_then (λ more. given_once (done ++ more)) rest

-- both refuse, or both read the same
pub data Agrees (done : List Setting) (rest : Option (List Setting)) (fault : Kinds) (end : Held) : Type 0 where
  both_refuse : fails fault ≡ true → given_on done rest ≡ None → Agrees done rest fault end
  both_read : (more : List Setting) → fault ≡ [] → rest ≡ Some more → are_once (done ++ more) ≡ true → settled_rows rules end.pending end.rows ≡ rows_for (done ++ more)
      → Agrees done rest fault end

abbrev pub AgreesAt : List Setting → Option SettingKind → Walk → List Word → Type 0
AgreesAt done waiting w words = Agrees done (settings_from waiting words) (ends w words) (last w words).held

-- the next word is a setting, and the words behind it agree
pub one_setting : (setting : Setting) (done : List Setting) (rest : Option (List Setting)) (fault : Kinds) (end : Held) → Agrees (done ++ setting ∷ []) rest fault end
    → Agrees done (option_map (λ more. setting ∷ more) rest) fault end
one_setting setting done rest fault end (both_refuse fail none) = both_refuse fail (go rest none)
  where
    go : (r : Option (List Setting)) → given_on (done ++ setting ∷ []) r ≡ None → given_on done (option_map (λ more. setting ∷ more) r) ≡ None
    go None e = refl
    go (Some more) e = ap given_once (sym (append_assoc done (setting ∷ []) more)) ∙ e
one_setting setting done rest fault end (both_read more passes is once rows) =
    both_read (setting ∷ more) passes (ap (option_map (λ m. setting ∷ m)) is) (ap are_once (sym (append_assoc done (setting ∷ []) more)) ∙ once)
    (rows ∙ ap rows_for (append_assoc done (setting ∷ []) more))

-- it is one that was there before
pub again : (setting : Setting) (done : List Setting) (rest : Option (List Setting)) → has setting.kind done ≡ true → given_on done (option_map (λ more. setting ∷ more) rest) ≡ None
again setting done None some = refl
again setting done (Some more) some = repeated setting done more some

unfoldable pub place_of : List Setting → ℕ
place_of done = if has place done then 2 else 1

-- where the words so far are these settings, and no value waits
pub record Stands (done : List Setting) (rows : List Row) (pending : Option (Text × List Text)) : Type 0 where
  pub once : are_once done ≡ true
  pub settles : settle_fault rules false (holding rows pending) ≡ []
  pub settled : settled_rows rules pending rows ≡ rows_for done

abbrev pub IdleAgrees : List Word → Type 0
IdleAgrees words = (done : List Setting) (rows : List Row) (pending : Option (Text × List Text)) → Stands done rows pending
    → AgreesAt done None (standing rows pending idle (place_of done)) words

abbrev pub WaitAgrees : List Word → Type 0
WaitAgrees words = (kind : SettingKind) (done : List Setting) → Takes kind → are_once done ≡ true
    → AgreesAt done (Some kind) (standing (rows_for done) (Some (id_of kind, [])) (for_option (id_of kind)) (place_of done)) words

-- ---- at the end

either_way : (b : Bool) → cond {A = Kinds} b [] [] ≡ []
either_way true = refl
either_way false = refl

default_passes : (kind : SettingKind) (rows : List Row) → default_fault rows (rule_for kind) ≡ []
default_passes seed rows = either_way (has_row (id_of seed) rows || true)
default_passes workers rows = either_way (has_row (id_of workers) rows || true)
default_passes place rows = either_way (has_row (id_of place) rows || true)
default_passes trace rows = either_way (has_row (id_of trace) rows || false)
default_passes text rows = either_way (has_row (id_of text) rows || false)

next_passes : (a : Rule) (rest : List Rule) → ((r : List Row) → default_fault r a ≡ []) → ((r : List Row) → defaults_fault r rest ≡ []) → (rows : List Row)
    → defaults_fault rows (a ∷ rest) ≡ []
unfolding defaults_fault
next_passes a rest first others rows = rw (first rows, others (with_default rows a)) refl

none_left : (rows : List Row) → defaults_fault rows [] ≡ []
unfolding defaults_fault
none_left rows = refl

defaults_pass : (rows : List Row) → defaults_fault rows rules ≡ []
defaults_pass =
    next_passes (rule_for seed) _ (default_passes seed)
    (next_passes (rule_for workers) _ (default_passes workers)
    (next_passes (rule_for trace) _ (default_passes trace) (next_passes (rule_for text) _ (default_passes text) (next_passes (rule_for place) _ (default_passes place) none_left))))

pub at_end : IdleAgrees []
unfolding walk_fault settings_from
at_end done rows pending stands =
    both_read [] (rw (stands.settles, defaults_pass (settled_rows rules pending rows)) refl) refl (ap are_once (append-nil done) ∙ stands.once)
    (stands.settled ∙ ap rows_for (sym (append-nil done)))

-- a value is missing
pub missing : WaitAgrees []
unfolding walk_fault settings_from
missing seed done t once = both_refuse refl refl
missing workers done t once = both_refuse refl refl
missing trace done t once = absurd t
missing text done t once = absurd t
missing place done t once = absurd t

-- ---- uses in a state

pub valued_met : (kind : SettingKind) (value : Word) (h : Held) → Takes kind → long_met rules (Some (rule_for kind)) (Some value) h ≡ (reacted rules (rule_for kind) (value ∷ []) h, is_done)
valued_met seed value h t = refl
valued_met workers value h t = refl
valued_met trace value h t = absurd t
valued_met text value h t = absurd t
valued_met place value h t = absurd t

pub waits_met : (kind : SettingKind) (h : Held) → Takes kind → long_met rules (Some (rule_for kind)) None h ≡ (record (settled rules h) { pending = Some (id_of kind, []) }, waits_for (id_of kind))
waits_met seed h t = refl
waits_met workers h t = refl
waits_met trace h t = absurd t
waits_met text h t = absurd t
waits_met place h t = absurd t

pub flag_is_met : (kind : SettingKind) (h : Held) → IsFlag kind → long_met rules (Some (rule_for kind)) None h ≡ (reacted rules (rule_for kind) [] h, is_done)
flag_is_met trace h t = refl
flag_is_met text h t = refl
flag_is_met seed h t = absurd t
flag_is_met workers h t = absurd t
flag_is_met place h t = absurd t

-- a pending use is settled as a use
pending_fault : (kind : SettingKind) (values : List Text) (rows : List Row) → is_valued kind ≡ true
    → settle_fault rules false (holding rows (Some (id_of kind, values))) ≡ use_fault false (rule_for kind) values rows
pending_fault seed values rows v = refl
pending_fault workers values rows v = refl
pending_fault trace values rows v = absurd (true≢false (sym v))
pending_fault text values rows v = absurd (true≢false (sym v))
pending_fault place values rows v = refl

pending_rows : (kind : SettingKind) (values : List Text) (rows : List Row) → settled_rows rules (Some (id_of kind, values)) rows ≡ used (rule_for kind) values rows
pending_rows seed values rows = refl
pending_rows workers values rows = refl
pending_rows trace values rows = refl
pending_rows text values rows = refl
pending_rows place values rows = refl

pub takes_is_valued : (kind : SettingKind) → Takes kind → is_valued kind ≡ true
takes_is_valued seed t = refl
takes_is_valued workers t = refl
takes_is_valued trace t = absurd t
takes_is_valued text t = absurd t
takes_is_valued place t = absurd t

pub flag_is_not : (kind : SettingKind) → IsFlag kind → false ≡ is_valued kind
flag_is_not trace t = refl
flag_is_not text t = refl
flag_is_not seed t = absurd t
flag_is_not workers t = absurd t
flag_is_not place t = absurd t

pub place_is : (done : List Setting) (b : Bool) → has place done ≡ b → place_of done ≡ (if b then 2 else 1)
unfolding place_of
place_is done b there = ap (λ c. if c then 2 else 1) there

-- where a first use was settled, or is pending
pub used_stands : (kind : SettingKind) (value : Option Word) (done : List Setting) (rows : List Row) → Fits kind value → are_once done ≡ true → has kind done ≡ false → rows ≡ rows_for done
    → Stands (done ++ record { kind = kind; value = value } ∷ []) (used (rule_for kind) (use_values value) rows) None
used_stands kind value done rows fits once none are = record {
  once = one_more (record { kind = kind; value = value }) done once none;
  settles = refl;
  settled = ap (used (rule_for kind) (use_values value)) are ∙ (first_use kind value done fits none).1;
}

pub pending_stands : (kind : SettingKind) (value : Word) (done : List Setting) (rows : List Row) → is_valued kind ≡ true → are_once done ≡ true → has kind done ≡ false → rows ≡ rows_for done
    → Stands (done ++ with_value kind value ∷ []) rows (Some (id_of kind, value ∷ []))
pending_stands kind value done rows fits once none are = record {
  once = one_more (with_value kind value) done once none;
  settles = pending_fault kind (value ∷ []) rows fits ∙ ap (use_fault false (rule_for kind) (value ∷ [])) are ∙ (first_use kind (Some value) done (sym fits) none).0;
  settled = pending_rows kind (value ∷ []) rows ∙ ap (used (rule_for kind) (value ∷ [])) are ∙ (first_use kind (Some value) done (sym fits) none).1;
}

-- a pending second use is refused
pub pending_again : (kind : SettingKind) (value : Word) (done : List Setting) (rows : List Row) → is_valued kind ≡ true → has kind done ≡ true → rows ≡ rows_for done
    → fails (settle_fault rules false (holding rows (Some (id_of kind, value ∷ [])))) ≡ true
pending_again kind value done rows fits some are =
    rw (pending_fault kind (value ∷ []) rows fits, are) (second_use kind (Some value) done (sym fits) some)

-- a word alone moves the place on, and an option does not
pub place_stays : (kind : SettingKind) (value : Option Word) (done : List Setting) → bytes_eq (kind_word kind) (kind_word place) ≡ false
    → place_of (done ++ record { kind = kind; value = value } ∷ []) ≡ place_of done
unfolding place_of
place_stays kind value done other = rw (has_on place done (record { kind = kind; value = value } ∷ []), other) (ap (λ b. if b then 2 else 1) (or_no (has place done)))

pub place_moves : (value : Word) (done : List Setting) → place_of (done ++ with_value place value ∷ []) ≡ 2
unfolding place_of
place_moves value done = rw (has_on place done (with_value place value ∷ [])) (ap (λ b. if b then 2 else 1) (or_yes (has place done)))

pub takes_no_place : (kind : SettingKind) → Takes kind → bytes_eq (kind_word kind) (kind_word place) ≡ false
takes_no_place seed t = refl
takes_no_place workers t = refl
takes_no_place trace t = absurd t
takes_no_place text t = absurd t
takes_no_place place t = absurd t

pub flag_no_place : (kind : SettingKind) → IsFlag kind → bytes_eq (kind_word kind) (kind_word place) ≡ false
flag_no_place trace t = refl
flag_no_place text t = refl
flag_no_place seed t = absurd t
flag_no_place workers t = absurd t
flag_no_place place t = absurd t
