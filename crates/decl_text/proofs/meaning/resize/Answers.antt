use Rattle.std.proofs.Common.{arith}
use Rattle.std.proofs.lemmas.Bool.Decides.{nat_tests}
use Rattle.decl_text.specs.Forms.{form}
use Rattle.decl_text.specs.declared.command.Command.TheVariants.{Resize}
use Rattle.decl_text.proofs.FormLemmas.{as_many}
use Rattle.decl_text.proofs.meaning.resize.Goals as goal
use Rattle.decl_text.proofs.meaning.resize.Goals.{in_default-via-then-words-lt2, in_default-via-else-words-lt2+else-words-lt3}

-- there are as many words as places
pub unreachable-requires : goal.unreachable-requires
unreachable-requires c =
    let many = as_many (form Resize).places c.args.words.now c.requires.formed in
    elim c.in_default.branch [ in_default-via-then-words-lt2 w ↦ grind (arith, nat_tests, many) | in_default-via-else-words-lt2+else-words-lt3 w ↦ grind (arith, nat_tests, many) ]
