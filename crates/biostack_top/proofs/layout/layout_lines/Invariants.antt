use Rattle.std.proofs.Common.{take}
use Rattle.biostack_top.specs.LayoutText.{AreLaid}
use Rattle.biostack_top.proofs.layout.layout_lines.Given as goal

abbrev pub invariant-laying : goal.invariant-laying
invariant-laying l = AreLaid l.stack 0 (take l.number l.writes) l.all.items
