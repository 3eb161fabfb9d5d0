use Rattle.std.proofs.Common.{◌≡◌, ◌++◌, take, drop, map, length}
use Rattle.plain_core.specs.Cores.{state_of_core}
use Rattle.trace_replay.specs.Replay.{wider}
use Rattle.trace_replay.proofs.extents.note.Given as goal

-- those before this one are wider, and the others as they were
abbrev pub invariant-noting : goal.invariant-noting
invariant-noting l = record {
  is : l.extents ≡ map (wider (state_of_core l.core)) (take l.place l.initial.extents) ++ drop l.place l.initial.extents;
  long : length l.extents ≡ length l.initial.extents;
}
