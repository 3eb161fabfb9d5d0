use Rattle.std.proofs.Common.{◌≡◌, ◌+◌, ◌-◌, ◌≤◌, length}
use Rattle.decl_text.specs.Text.{lines}
use Rattle.decl_text.specs.Places.{text_left}
use Rattle.plain_core.specs.Cores.{scene_of_core, state_of_core}
use Rattle.trace_replay.specs.Lines.{told_in, told_lines}
use Rattle.trace_replay.specs.KeptNames.{names_in_entries}
use Rattle.trace_replay.specs.Walks.{HasCome}
use Rattle.trace_replay.proofs.walk.follow.Given as goal

abbrev pub invariant-loop-line : goal.invariant-loop-line
invariant-loop-line l = record {
  text : l.lines.text ≡ l.text;
  within : l.lines.place ≤ length l.text;
  -- each line takes a byte or more
  numbers : l.number ≤ l.first + l.lines.place;
  counts : l.events ≤ l.lines.place;
  come : HasCome l.stack (scene_of_core l.initial.core) (state_of_core l.initial.core) (told_in l.first l.text) (told_lines l.number (lines (text_left l.lines))) (names_in_entries l.names) l.core l.events l.extents.items;
}

abbrev pub decreases-loop-line : goal.decreases-loop-line
decreases-loop-line l = length l.text - l.lines.place
