use Rattle.std.proofs.Common.{◌^◌, ◌-◌, drop}
use Rattle.decl_text.specs.declared.form.Key.TheVariants.{Records}
use Rattle.decl_text.specs.Forms.{form}
use Rattle.decl_text.specs.declared.command.Command.TheVariants.{Mirror}
use Rattle.decl_text.proofs.FormLemmas.{behind_first, numbers, third_number}
use Rattle.decl_text.proofs.meaning.mirror.Goals as goal

pub number_or-records-requires : goal.number_or-records-requires
number_or-records-requires c = rw (behind_first c.args.words.now) (numbers Records 0 (2 ^ 64 - 1) (drop 1 c.args.words.now) (third_number (form Mirror).places c.args.words.now _ _ _ _ c.requires.numbered))
