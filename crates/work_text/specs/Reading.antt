-- What becomes of the writes of a text.
use Rattle.std.specs.Prelude.{◌≡◌, ℕ, List, drop, Result, Ok, Err, None, Some}
use Rattle.decl_text.specs.Text.{lines}
use Rattle.decl_text.specs.Refusals.{refusal, known_after}
use Rattle.decl_text.specs.declared.accepted.Accepted.{Accepted}
use Rattle.decl_text.specs.declared.reason.ReadFault.{ReadFault}
use Rattle.decl_text.specs.declared.reason.ReadFault.TheVariants.{Refused, Memory}
use Rattle.work_text.specs.Work.{IsWork, all_checks, known_of}
use Rattle.work_text.specs.declared.Work.{Work}
use Rattle.work_text.specs.declared.draft.Draft.{Draft}
use Rattle.work_text.specs.Draft.{known_so_far}
use Rattle.work_text.specs.Lines.{ReadsLines}

-- the lines from the first write or `sync` line on
abbrev pub work_lines : List ℕ → Accepted → List (List ℕ)
work_lines text accepted = lines (drop accepted.rest text)

-- behind the lines of this draft none of these is refused, and the draft is that one then; or this is the first refusal
abbrev pub ReadsBehind : List ℕ → Accepted → Draft → Draft → Result (Unit {0}) ReadFault → Type 0
ReadsBehind text accepted draft new result =
    ReadsLines (known_so_far accepted.stack draft) accepted.line (work_lines text accepted) (known_so_far accepted.stack new) result

-- no line is refused, and they mean this work; or this is the first refusal
abbrev pub ReadsWork : List ℕ → Accepted → Result Work ReadFault → Type 0
ReadsWork text accepted (Ok work) =
    (refusal all_checks (known_of accepted.stack) accepted.line (work_lines text accepted) ≡ None)
    × IsWork accepted.stack accepted.scripts.items (known_after (known_of accepted.stack) (work_lines text accepted)) work
ReadsWork text accepted (Err (Refused first)) = refusal all_checks (known_of accepted.stack) accepted.line (work_lines text accepted) ≡ Some first
ReadsWork text accepted (Err Memory) = Unit {0}
