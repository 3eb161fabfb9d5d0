use Rattle.std.proofs.Common.{◌≡◌, ◌≤◌, ◌-◌, length}
use Rattle.decl_text.specs.Steps.{IsSoFar, read_of}
use Rattle.decl_text.proofs.decl.read_decl.Given as goal

abbrev pub invariant-loop-parts : goal.invariant-loop-parts
invariant-loop-parts l = record {
  text : l.lines.text ≡ l.text;
  so_far : IsSoFar l.text (read_of l.parts);
  place : l.lines.place ≡ l.parts.rest;
  few : length l.text ≤ 4194304;
}

abbrev pub decreases-loop-parts : goal.decreases-loop-parts
decreases-loop-parts l = length l.text - l.lines.place
