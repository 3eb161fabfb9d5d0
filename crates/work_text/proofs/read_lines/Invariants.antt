use Rattle.std.proofs.Common.{◌≡◌, ◌+◌, ◌-◌, ◌≤◌, [], length}
use Rattle.decl_text.specs.Text.{lines}
use Rattle.decl_text.specs.Places.{text_left}
use Rattle.decl_text.specs.Stands.{stand_of}
use Rattle.decl_text.specs.declared.stand.Stand.TheVariants.{Front}
use Rattle.decl_text.specs.Reading.{declarations}
use Rattle.decl_text.specs.Refusals.{known_after, refusal}
use Rattle.work_text.specs.Work.{all_checks}
use Rattle.work_text.specs.Reading.{work_lines}
use Rattle.work_text.specs.Draft.{IsDraft, known_so_far}
use Rattle.work_text.proofs.read_lines.Given as goal

abbrev pub invariant-loop-bytes : goal.invariant-loop-bytes
invariant-loop-bytes l = record {
  text : l.lines.text ≡ l.text;
  within : l.lines.place ≤ length l.text;
  -- each line takes a byte or more
  numbers : l.number ≤ l.accepted.line + l.lines.place;
  draft : IsDraft l.accepted.stack l.draft;
  entries : l.draft.work.bound.z ≡ l.initial.draft.work.bound.z;
  -- the first line is a write or a `sync` line
  stands : stand_of (known_so_far l.accepted.stack l.draft) ≡ Front → declarations (lines (text_left l.lines)) ≡ [];
  -- what becomes of the rest becomes of all lines
  refused : refusal all_checks (known_so_far l.accepted.stack l.draft) l.number (lines (text_left l.lines))
      ≡ refusal all_checks (known_so_far l.accepted.stack l.initial.draft) l.accepted.line (work_lines l.text l.accepted);
  known : known_after (known_so_far l.accepted.stack l.draft) (lines (text_left l.lines))
      ≡ known_after (known_so_far l.accepted.stack l.initial.draft) (work_lines l.text l.accepted);
}

abbrev pub decreases-loop-bytes : goal.decreases-loop-bytes
decreases-loop-bytes l = length l.text - l.lines.place
