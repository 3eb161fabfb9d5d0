-- Texts that are not refused: what each line keeps holds of all that they declare.
use Rattle.std.proofs.Common.{◌≡◌, ℕ, ◌≤◌, nat_lt, List, length, None}
use Rattle.std.proofs.lemmas.Bool.{ltb-false}
use Rattle.decl_text.specs.Text.{lines, most_bytes}
use Rattle.decl_text.specs.Known.{Declarations, nothing_declared}
use Rattle.decl_text.specs.Refusals.{refusal, refused}
use Rattle.decl_text.specs.declared.reason.Reason.TheVariants.{TooLong}
use Rattle.decl_text.proofs.Unrefused.{EachLineKeeps, cond_none, kept_behind}
use Rattle.work_text.specs.Work.{all_checks}
use Rattle.work_text.specs.Whole.{text_refusal, known_of_text}

-- a text that is not refused is short, and none of its lines is
pub text_lines : (text : List ℕ) → text_refusal text ≡ None → (length text ≤ most_bytes) × (refusal all_checks nothing_declared 1 (lines text) ≡ None)
text_lines text fine =
    let parts = cond_none (nat_lt most_bytes (length text)) (refused 0 TooLong) (refusal all_checks nothing_declared 1 (lines text)) fine in
    (ltb-false most_bytes (length text) parts.0, parts.1)

-- so what each line keeps holds of what a text declares that is not refused
pub kept_by_text : (Holds : Declarations → Type 0) → EachLineKeeps all_checks Holds → Holds nothing_declared → (text : List ℕ) → text_refusal text ≡ None → Holds (known_of_text text)
kept_by_text Holds keeps first text fine = kept_behind all_checks Holds keeps nothing_declared 1 (lines text) (text_lines text fine).1 first
