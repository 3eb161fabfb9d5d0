use Rattle.std.proofs.Common.{◌≡◌, drop}
use Rattle.decl_text.specs.Items.{value_in}
use Rattle.decl_text.proofs.options.value_in.Given as goal

-- none so far: the value is that of what is left
abbrev pub invariant-loop-word : goal.invariant-loop-word
invariant-loop-word l = value_in l.key (drop l.word-index l.words) ≡ value_in l.key l.initial.words
