use Rattle.std.proofs.Common.{◌^◌, ◌-◌, drop}
use Rattle.decl_text.specs.declared.form.Key.TheVariants.{Chunk}
use Rattle.decl_text.specs.Forms.{form}
use Rattle.decl_text.specs.declared.command.Command.TheVariants.{Zoned}
use Rattle.decl_text.proofs.FormLemmas.{behind_first, numbers, third_number}
use Rattle.decl_text.proofs.meaning.zoned.Goals as goal

pub number_or-chunk-requires : goal.number_or-chunk-requires
number_or-chunk-requires c = rw (behind_first c.args.words.now) (numbers Chunk 1 (2 ^ 64 - 1) (drop 1 c.args.words.now) (third_number (form Zoned).places c.args.words.now _ _ _ _ c.requires.numbered))
