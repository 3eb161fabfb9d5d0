use Rattle.std.proofs.Common.{◌≡◌, take}
use Rattle.decl_text.specs.Items.{members}
use Rattle.decl_text.proofs.meaning.members.Given as goal

abbrev pub invariant-loop-word : goal.invariant-loop-word
invariant-loop-word l = l.all.items ≡ members (take l.word-index l.words)
