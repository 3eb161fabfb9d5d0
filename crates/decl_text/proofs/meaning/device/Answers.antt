use Rattle.std.proofs.Common.{◌^◌, ◌-◌}
use Rattle.decl_text.specs.declared.form.Key.TheVariants.{Reserve}
use Rattle.decl_text.proofs.FormLemmas.{numbers}
use Rattle.decl_text.proofs.meaning.device.Goals as goal

pub number_or-requires : goal.number_or-requires
number_or-requires c = numbers Reserve 0 (2 ^ 64 - 1) c.args.rest.now c.requires
