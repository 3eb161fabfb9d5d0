use Rattle.std.proofs.Common.{◌≡◌, length}
use Rattle.decl_text.specs.Text.{words}
use Rattle.decl_text.proofs.line.first_word.Given as goal

-- the words of what is left are those of the line
abbrev pub invariant-cutting : goal.invariant-cutting
invariant-cutting l = words l.left ≡ words l.line

abbrev pub decreases-cutting : goal.decreases-cutting
decreases-cutting l = length l.left
