use Rattle.std.proofs.Common.{◌≡◌, ◌++◌, length}
use Rattle.std.specs.Prelude.{filter}
use Rattle.std.specs.List.{slice_split}
use Rattle.decl_text.specs.Text.{is_blank, is_some_text, words}
use Rattle.decl_text.proofs.line.words_of.Given as goal

-- the words so far, followed by those of what is left, are those of the line
abbrev pub invariant-loop-all : goal.invariant-loop-all
invariant-loop-all l = l.all.items ++ filter is_some_text (slice_split is_blank l.left) ≡ words l.line

abbrev pub decreases-loop-all : goal.decreases-loop-all
decreases-loop-all l = length l.left
