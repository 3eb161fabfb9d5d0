use Rattle.std.proofs.Common.{sym}
use Rattle.std.specs.Prelude.{is_some}
use Rattle.decl_text.specs.Text.{number_of}
use Rattle.decl_text.proofs.FormLemmas.{value_passes}
use Rattle.decl_text.proofs.options.number_or.Goals as goal

pub digits-requires : goal.digits-requires
digits-requires c = value_passes (λ value. is_some (number_of value)) c.args.key c.args.words.now c.in-Some.value c.requires (sym c.in-Some.ensures)
