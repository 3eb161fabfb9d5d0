-- `parse` reads a word of 1 to 20 digits.
use Rattle.std.proofs.Common.{◌∙◌, ◌<◌, length, arith, rules}
use Rattle.stack_base.proofs.NumeralLemmas.{AllAreDigits, number_is_parsed}
use Rattle.decl_text.proofs.word.number.Goals as goal

pub returns : goal.returns
returns c =
    let digits : AllAreDigits c.args.word.now = search rules in
    let some : 0 < length c.args.word.now = grind arith in
    c.ok.ensures.value ∙ number_is_parsed c.args.word.now c.parse.result digits some (omega arith) (rw c.digits_text.ensures at c.parse.ensures.value.0)
