use Rattle.std.proofs.Common.{◌^◌, ◌-◌, drop}
use Rattle.decl_text.specs.declared.form.Key.TheVariants.{Max, Chunk}
use Rattle.decl_text.specs.Forms.{form}
use Rattle.decl_text.specs.declared.command.Command.TheVariants.{Limit}
use Rattle.decl_text.proofs.FormLemmas.{behind_first, first_number, numbers, third_number, limit_chunk}
use Rattle.decl_text.proofs.meaning.limit.Goals as goal

pub number_or-max-requires : goal.number_or-max-requires
number_or-max-requires c = rw (behind_first c.args.words.now) (numbers Max 1 (2 ^ 64 - 1) (drop 1 c.args.words.now) (third_number (form Limit).places c.args.words.now _ _ _ _ c.requires.numbered))

pub number_or-chunk-requires : goal.number_or-chunk-requires
number_or-chunk-requires c = rw (behind_first c.args.words.now) (numbers Chunk 0 (2 ^ 64 - 1) (drop 1 c.args.words.now) (limit_chunk c.args.words.now c.requires.numbered))

pub device-requires : goal.device-requires
device-requires c = rw (behind_first c.args.words.now) (first_number (form Limit).places c.args.words.now _ _ c.requires.numbered)
