-- Lines and events.
use Rattle.std.proofs.Common.{◌≡◌, ◌<◌, ◌^◌, ◌==◌, ℕ, Bool, true, false, List, [], ◌∷◌, ◌++◌, get_or, append-nil, All, Option, Some, None, refl, ap, sym, ◌∙◌, subst, arith}
use Rattle.std.specs.Prelude.{codes, decimal}
use Rattle.std.specs.List.{join_with_byte, list_all, slice_split}
use Rattle.std.specs.Char.{is_ascii_digit}
use Rattle.std.proofs.lemmas.Option.{none-some, same_Some}
use Rattle.std.proofs.lemmas.Bool.Decides.{nat_tests}
use Rattle.std.proofs.lemmas.Fmt.{digits_decimal}
use Rattle.std.proofs.lemmas.List.Folds.{list_all-append}
use Rattle.std.proofs.lemmas.List.Sums.{AllPass-from_list_all}
use Rattle.std.proofs.lemmas.List.Splits.{join_with_byte-slice_split, slice_split_at, slice_split_none}
use Rattle.stack_base.specs.declared.ids.DevId.{DevId}
use Rattle.stack_base.specs.declared.ids.PoolId.{PoolId}
use Rattle.stack_base.specs.declared.ids.PoolId.TheVariants.{FsBios, FsVecs, Bios, Records}
use Rattle.stack_base.specs.declared.ids.Status.{Status}
use Rattle.stack_base.specs.declared.ids.Status.TheVariants as status
use Rattle.stack_base.specs.declared.stack.Stack.{Stack}
use Rattle.stack_base.specs.Names.{name_of_device, pool_name}
use Rattle.run_machine.specs.declared.event.TaskId.{TaskId}
use Rattle.run_machine.specs.declared.event.TaskId.TheVariants as task
use Rattle.run_machine.specs.declared.event.Got.{Got}
use Rattle.run_machine.specs.declared.event.Got.TheVariants as got
use Rattle.run_machine.specs.declared.event.How.{How}
use Rattle.run_machine.specs.declared.event.How.TheVariants as how
use Rattle.run_machine.specs.declared.event.End.{End}
use Rattle.run_machine.specs.declared.event.End.TheVariants as end
use Rattle.run_machine.specs.declared.event.What.{What}
use Rattle.run_machine.specs.declared.event.What.TheVariants as what
use Rattle.run_machine.specs.declared.event.Event.{Event}
use Rattle.run_machine.specs.StatusWords.{status_word}
use Rattle.trace_text.specs.Names.{HasDevice, HasPool, DevicesAreNamed, is_stacked_kind, is_any, is_disk_kind, is_mirror_kind}
use Rattle.trace_text.specs.Lines.{FitsEvent, IsEventOf, end_word, got_word, how_word, line_of_event, task_word, what_words, words_of}
use Rattle.trace_text.specs.Reading.{at_end, read_both, event_of, field, made, fixed_word, task_of_word, what_in}
use Rattle.trace_text.specs.Laws.{IsEventLine, IsEventRead, is_line_byte}
use Rattle.trace_text.proofs.NameLemmas.{any_of}
use Rattle.trace_text.proofs.NameWords.{is_visible, list_all_follows, name_is_word}
use Rattle.stack_base.proofs.NumeralLemmas.{numerals}
use Rattle.trace_text.proofs.Readers.{made_again, made_takes, of_word, then}
use Rattle.trace_text.proofs.TaskLemmas.{IsTask, task_is}
use Rattle.trace_text.proofs.VerbLemmas.{IsWhat, what_is}
use Rattle.trace_text.proofs.WordLemmas.{mark_is}

-- a word of visible characters
abbrev pub is_unbroken : List ℕ → Bool
is_unbroken word = list_all is_visible word

digit_visible : (byte : ℕ) → is_ascii_digit byte ≡ true → is_visible byte ≡ true
digit_visible byte is = grind (arith, nat_tests)

number_unbroken : (n : ℕ) → n < 2 ^ 64 → is_unbroken (decimal n) ≡ true
number_unbroken n small = list_all_follows is_ascii_digit is_visible digit_visible (decimal n) (digits_decimal numerals n small)

name_unbroken : (stack : Stack) (dev : DevId) → DevicesAreNamed stack → HasDevice is_any stack dev → is_unbroken (name_of_device stack dev.0) ≡ true
name_unbroken stack dev named has = (name_is_word stack dev named has).visible

joined_unbroken : (a b : List ℕ) → is_unbroken a ≡ true → is_unbroken b ≡ true → is_unbroken (a ++ b) ≡ true
joined_unbroken a b first second = rw (list_all-append is_visible a b, first, second) refl

pool_unbroken : (stack : Stack) (pool : PoolId) → DevicesAreNamed stack → HasPool stack pool → is_unbroken (pool_name stack pool) ≡ true
pool_unbroken stack FsBios named has = refl
pool_unbroken stack FsVecs named has = refl
pool_unbroken stack (Bios dev) named has = joined_unbroken (name_of_device stack dev.0) (codes ".bios") (name_unbroken stack dev named (any_of is_stacked_kind stack dev has)) refl
pool_unbroken stack (Records dev) named has =
    joined_unbroken (name_of_device stack dev.0) (codes ".records") (name_unbroken stack dev named (any_of is_mirror_kind stack dev has)) refl

task_unbroken : (stack : Stack) (one : TaskId) → DevicesAreNamed stack → IsTask stack one → is_unbroken (task_word stack one) ≡ true
task_unbroken stack (task.Writer number) named is = joined_unbroken (codes "w") (decimal number) refl (number_unbroken number (omega (arith, is.1)))
task_unbroken stack (task.Rescuer dev) named is = joined_unbroken (codes "r:") (name_of_device stack dev.0) refl (name_unbroken stack dev named is.0)
task_unbroken stack (task.Completer disk) named is =
    joined_unbroken (codes "c:") (name_of_device stack disk.0) refl (name_unbroken stack disk named (any_of is_disk_kind stack disk is.0))
task_unbroken stack task.Keeper named is = refl

got_unbroken : (one : Got) → is_unbroken (got_word one) ≡ true
got_unbroken got.Ordinary = refl
got_unbroken got.Spare = refl
got_unbroken got.Missed = refl

how_unbroken : (one : How) → is_unbroken (how_word one) ≡ true
how_unbroken how.Write = refl
how_unbroken how.Chain = refl
how_unbroken how.Master = refl
how_unbroken how.Leg = refl

end_unbroken : (one : End) → is_unbroken (end_word one) ≡ true
end_unbroken end.Left = refl
end_unbroken end.Up = refl
end_unbroken end.Top = refl

status_unbroken : (one : Status) → is_unbroken (status_word one) ≡ true
status_unbroken status.Ok = refl
status_unbroken status.Io = refl
status_unbroken status.Medium = refl
status_unbroken status.NoSpace = refl

short_unbroken : (n : ℕ) → n < 2 ^ 32 → is_unbroken (decimal n) ≡ true
short_unbroken n small = number_unbroken n (omega arith)

-- so are all words
abbrev pub AreUnbroken : List (List ℕ) → Type 0
AreUnbroken [] = Unit {0}
AreUnbroken (word ∷ words) = (is_unbroken word ≡ true) × AreUnbroken words

what_unbroken : (stack : Stack) (one : What) → DevicesAreNamed stack → IsWhat stack one → AreUnbroken (what_words stack one)
-- elements: takes, tries and gives
what_unbroken stack (what.Take pool got) named is = (refl, (pool_unbroken stack pool named is.0, (got_unbroken got, tt)))
what_unbroken stack (what.Try pool got) named is = (refl, (pool_unbroken stack pool named is.0, (got_unbroken got, tt)))
what_unbroken stack (what.Give pool) named is = (refl, (pool_unbroken stack pool named is.0, tt))
-- bios at devices: punts, pops, pushes and completions
what_unbroken stack (what.Punt dev moved) named is = (refl, (name_unbroken stack dev named is.0, (number_unbroken moved is.1, tt)))
what_unbroken stack (what.Pop dev) named is = (refl, (name_unbroken stack dev named is.0, tt))
what_unbroken stack (what.Push disk at len leg) named is =
    (refl, (name_unbroken stack disk named (any_of is_disk_kind stack disk is.0), (number_unbroken at is.1.0, (number_unbroken len is.1.1, (refl, (short_unbroken leg is.1.2, tt))))))
what_unbroken stack (what.Complete disk index status) named is =
    (refl, (name_unbroken stack disk named (any_of is_disk_kind stack disk is.0), (number_unbroken index is.1, (status_unbroken status, tt))))
-- nodes: links and drops
what_unbroken stack (what.Link writer how node) named is = (refl, (short_unbroken writer is.1.0, (how_unbroken how, (short_unbroken node is.1.1, tt))))
what_unbroken stack (what.Drop writer node status end) named is =
    (refl, (short_unbroken writer is.1.0, (short_unbroken node is.1.1, (status_unbroken status, (end_unbroken end, tt)))))
-- writes that are done, reserves and rounds
what_unbroken stack (what.Done write status) named is = (refl, (short_unbroken write is.1, (status_unbroken status, tt)))
what_unbroken stack (what.Resize pool min) named is = (refl, (pool_unbroken stack pool named is.0, (short_unbroken min is.1, tt)))
what_unbroken stack (what.Round round) named is = (refl, (short_unbroken round is.1, tt))

words_unbroken : (stack : Stack) (event : Event) → DevicesAreNamed stack → IsEventOf stack event → FitsEvent event → AreUnbroken (words_of stack event)
words_unbroken stack event named is fits =
    (refl, (task_unbroken stack event.task named (is.task, fits.task), what_unbroken stack event.what named (is.what, fits.what)))

-- words without blanks are the parts of their line
visible_apart : (byte : ℕ) → is_visible byte ≡ true → (byte == 32) ≡ false
visible_apart byte is = grind (arith, nat_tests)

all_apart : (word : List ℕ) → is_unbroken word ≡ true → All (λ byte. (byte == 32) ≡ false) word
all_apart word whole = λ k d within.
    visible_apart (get_or word k d) (AllPass-from_list_all is_visible word whole k d within)

parts_are : (word : List ℕ) (words : List (List ℕ)) → AreUnbroken (word ∷ words)
    → slice_split (λ byte. byte == 32) (join_with_byte 32 (word ∷ words)) ≡ word ∷ words
parts_are word [] whole = slice_split_none (λ byte. byte == 32) word (all_apart word whole.0)
parts_are word (next ∷ words) whole =
    slice_split_at (λ byte. byte == 32) word 32 (join_with_byte 32 (next ∷ words)) (all_apart word whole.0) refl
    ∙ ap (λ parts. word ∷ parts) (parts_are next words whole.1)

-- what is read, with nothing behind it
ends : {A : Type 0} (o : Option (A × List (List ℕ))) (a : A) → at_end o ≡ Some a → o ≡ Some (a, [])
ends None a e = absurd (cc)
ends (Some (found, [])) a e = ap (λ (x : _). Some (x, [])) (same_Some found a e)
ends (Some (found, word ∷ words)) a e = absurd (cc)

event_takes : (stack : Stack) (words : List (List ℕ)) (event : Event) → DevicesAreNamed stack → event_of stack words ≡ Some event
    → (words ≡ words_of stack event) × IsEventOf stack event × FitsEvent event
unfolding event_of
event_takes stack words event named e =
    made_takes (then (of_word (mark_is (codes "event"))) (then (of_word (task_is stack named)) (what_is stack named)))
    (λ of. record { task = of.1.0; what = of.1.1 }) words event [] (λ event. (words ≡ words_of stack event) × IsEventOf stack event × FitsEvent event)
    (λ of is said. (said ∙ append-nil (words_of stack (record { task = of.1.0; what = of.1.1 })), record { task = is.1.0.0; what = is.1.1.0 }, record { task = is.1.0.1; what = is.1.1.1 }))
    (ends _ event e)

event_again : (stack : Stack) (event : Event) → DevicesAreNamed stack → IsEventOf stack event → FitsEvent event → event_of stack (words_of stack event) ≡ Some event
unfolding event_of
event_again stack event named is fits =
    ap at_end (ap (made (λ of. record { task = of.1.0; what = of.1.1 }) (read_both (field (fixed_word (codes "event"))) (read_both (field (task_of_word stack)) (what_in stack)))) (sym (append-nil (words_of stack event)))
    ∙ made_again (then (of_word (mark_is (codes "event"))) (then (of_word (task_is stack named)) (what_is stack named)))
    (λ of. record { task = of.1.0; what = of.1.1 }) (tt, (event.task, event.what)) [] (tt, ((is.task, fits.task), (is.what, fits.what))))

-- a line of an event is read as that event, and what is read of a line is the event whose line it is
line_again : (stack : Stack) (line : List ℕ) (event : Event) → DevicesAreNamed stack → IsEventLine stack line event → event_of stack (slice_split (λ byte. byte == 32) line) ≡ Some event
line_again stack line event named is =
    ap (λ bytes. event_of stack (slice_split (λ byte. byte == 32) bytes)) is.said
    ∙ ap (event_of stack) (parts_are (codes "event") (task_word stack event.task ∷ what_words stack event.what) (words_unbroken stack event named is.named is.fits))
    ∙ event_again stack event named is.named is.fits

line_takes : (stack : Stack) (line : List ℕ) (event : Event) → DevicesAreNamed stack → event_of stack (slice_split (λ byte. byte == 32) line) ≡ Some event → IsEventLine stack line event
line_takes stack line event named e =
    let t = event_takes stack (slice_split (λ byte. byte == 32) line) event named e in
    record { said = sym (join_with_byte-slice_split 32 line) ∙ ap (join_with_byte 32) t.0; named = t.1; fits = t.2 }

pub is_read : (stack : Stack) (line : List ℕ) (answer : Option Event) → DevicesAreNamed stack → answer ≡ event_of stack (slice_split (λ byte. byte == 32) line) → IsEventRead stack line answer
is_read stack line (Some event) named is = line_takes stack line event named (sym is)
is_read stack line None named is = λ event of. absurd (let again = line_again stack line event named of in none-some event (is ∙ again))

-- a line of such words has visible characters and blanks alone
visible_line_byte : (byte : ℕ) → is_visible byte ≡ true → is_line_byte byte ≡ true
visible_line_byte byte is = grind (arith, nat_tests)

line_is_text : (words : List (List ℕ)) → AreUnbroken words → list_all is_line_byte (join_with_byte 32 words) ≡ true
line_is_text [] whole = refl
line_is_text (word ∷ []) whole = list_all_follows is_visible is_line_byte visible_line_byte word whole.0
line_is_text (word ∷ next ∷ words) whole =
    rw (list_all-append is_line_byte word (32 ∷ join_with_byte 32 (next ∷ words)), list_all_follows is_visible is_line_byte visible_line_byte word whole.0)
    (line_is_text (next ∷ words) whole.1)

pub text_line : (stack : Stack) (line : List ℕ) (event : Event) → DevicesAreNamed stack → IsEventLine stack line event → list_all is_line_byte line ≡ true
text_line stack line event named is =
    subst (λ bytes. list_all is_line_byte bytes ≡ true) (sym is.said) (line_is_text (words_of stack event) (words_unbroken stack event named is.named is.fits))

-- no two events have one line
pub events_apart : (stack : Stack) (line : List ℕ) (one other : Event) → DevicesAreNamed stack → IsEventLine stack line one → IsEventLine stack line other → one ≡ other
events_apart stack line one other named first second = same_Some one other (sym (line_again stack line one named first) ∙ line_again stack line other named second)

pub read_back : (stack : Stack) (event : Event) (answer : Option Event) → DevicesAreNamed stack → IsEventOf stack event → FitsEvent event
    → IsEventRead stack (line_of_event stack event) answer → answer ≡ Some event
read_back stack event (Some other) named is fits read = ap Some (events_apart stack (line_of_event stack event) other event named read (record { said = refl; named = is; fits = fits }))
read_back stack event None named is fits read = absurd (read event (record { said = refl; named = is; fits = fits }))
