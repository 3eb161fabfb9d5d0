-- No line of a text that is not refused tells an event.
use Rattle.std.proofs.Common.{◌≡◌, ◌+◌, ◌||◌, nat_lt, ℕ, true, false, true≢false, List, [], ◌∷◌, length, None, refl, sym, ap, ◌∙◌, subst}
use Rattle.std.specs.Prelude.{codes}
use Rattle.std.proofs.lemmas.Bool.{false_from_ne_true}
use Rattle.std.proofs.lemmas.Slice.Eq.{bytes_eq-Decides}
use Rattle.decl_text.specs.Checks.{bad_word}
use Rattle.decl_text.specs.Commands.{command_of}
use Rattle.decl_text.specs.Items.{malformed, said}
use Rattle.decl_text.specs.Known.{Declarations, after_line, nothing_declared}
use Rattle.decl_text.specs.Reading.{NonePass}
use Rattle.decl_text.specs.Refusals.{Check, check, line_checks, line_reason, refusal, refused}
use Rattle.decl_text.specs.Stands.{stand_of, misplaced}
use Rattle.decl_text.specs.Text.{lines, most_bytes, words}
use Rattle.decl_text.specs.declared.item.Item.{Item}
use Rattle.decl_text.specs.declared.reason.Reason.TheVariants.{BadWord, TooLong}
use Rattle.decl_text.proofs.Unrefused.{cond_none, finds_nothing, line_passes, none_refused}
use Rattle.work_text.specs.Work.{checks_by}
use Rattle.trace_replay.specs.Lines.{begins_event, is_told}
use Rattle.trace_replay.specs.Traces.{AcceptedTextsTellNoEvent}

-- no command has this word
no_command : (rest : List (List ℕ)) → malformed (codes "event" ∷ rest) ≡ true
unfolding command_of
no_command rest = refl

words_wrong : (all : List (List ℕ)) → begins_event all ≡ true → malformed all ≡ true
words_wrong [] is = absurd (true≢false (sym is))
words_wrong (word ∷ rest) is = subst (λ (w : List ℕ). malformed (w ∷ rest) ≡ true) (sym ((bytes_eq-Decides word (codes "event")).0 is)) (no_command rest)

line_none : (checks : List (Check Item)) (known : Declarations) (line : List ℕ) → line_reason checks known line ≡ None → is_told line ≡ false
line_none checks known line none =
    let right : bad_word known line ≡ false = finds_nothing line_checks known line 1 (check BadWord bad_word) (line_passes checks known line none).0 refl in
    false_from_ne_true (is_told line) (λ is. true≢false (sym (ap (λ b. b || misplaced (stand_of known) (words line)) (words_wrong (words line) is)) ∙ right))

lines_none : (checks : List (Check Item)) (known : Declarations) (number : ℕ) (all : List (List ℕ)) → refusal checks known number all ≡ None → NonePass is_told all
lines_none checks known number [] none = tt
lines_none checks known number (line ∷ left) none =
    let parts = none_refused checks known number line left none in
    (line_none checks known line parts.0, lines_none checks (after_line known (said (words line))) (number + 1) left parts.1)

pub none_told_of : AcceptedTextsTellNoEvent
none_told_of text (loose, fine) =
    lines_none (checks_by loose) nothing_declared 1 (lines text)
    (cond_none (nat_lt most_bytes (length text)) (refused 0 TooLong) (refusal (checks_by loose) nothing_declared 1 (lines text)) fine).1
