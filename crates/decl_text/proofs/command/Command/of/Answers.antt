-- The word of a write is that of a write.
use Rattle.std.proofs.Common.{◌≡◌, Some, refl, sym, ap, ◌∙◌}
use Rattle.std.specs.Prelude.{codes}
use Rattle.std.proofs.lemmas.Slice.Eq.{bytes_eq-Decides}
use Rattle.decl_text.specs.Commands.{command_of}
use Rattle.decl_text.specs.declared.command.Command.TheVariants.{Write}
use Rattle.decl_text.proofs.command.Command.of.Goals as goal

the_write : Some Write ≡ command_of (codes "write")
unfolding command_of
the_write = refl

pub returns-then-is : goal.returns-then-is
returns-then-is c =
    the_write ∙ sym (ap command_of ((bytes_eq-Decides c.args.word.now (codes "write")).0 (sym c.is.ensures ∙ c.if-is.true)))
