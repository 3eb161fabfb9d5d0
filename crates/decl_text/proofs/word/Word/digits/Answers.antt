use Rattle.std.proofs.Common.{sym, ◌∙◌}
use Rattle.decl_text.proofs.FormLemmas.{number_is}
use Rattle.decl_text.proofs.word.Word.digits.Goals as goal

pub returns : goal.returns
returns c = number_is c.args.self.now c.unwrap.result (sym c.number.ensures ∙ c.unwrap.ensures)
