-- `parse` reads a word of 1 to 20 digits.
use Rattle.std.proofs.Common.{◌∙◌, ◌<◌, length, arith, rules}
use Rattle.stack_base.proofs.NumeralLemmas.{AllAreDigits, number_is_parsed}
use Rattle.biostack_words.proofs.number.number.Goals as goal

pub returns : goal.returns
returns c =
    let digits : AllAreDigits c.args.word.now = search rules in
    let some : 0 < length c.args.word.now = grind arith in
    c.ok.ensures.value ∙ number_is_parsed c.args.word.now c.parse.result digits some (omega arith) c.parse.ensures.value.0
