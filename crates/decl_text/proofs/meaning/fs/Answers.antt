use Rattle.std.proofs.Common.{◌^◌, ◌-◌}
use Rattle.decl_text.specs.declared.form.Key.TheVariants.{Bios, Vecs}
use Rattle.decl_text.specs.Forms.{form}
use Rattle.decl_text.specs.declared.command.Command.TheVariants.{Fs}
use Rattle.decl_text.proofs.FormLemmas.{numbers, first_number, second_number}
use Rattle.decl_text.proofs.meaning.fs.Goals as goal

pub number_or-requires : goal.number_or-requires
number_or-requires c = numbers Bios 0 (2 ^ 64 - 1) c.args.words.now (first_number (form Fs).places c.args.words.now _ _ c.requires.numbered)

pub number_or-requires-2 : goal.number_or-requires-2
number_or-requires-2 c = numbers Vecs 0 (2 ^ 64 - 1) c.args.words.now (second_number (form Fs).places c.args.words.now _ _ _ c.requires.numbered)
