use Rattle.std.proofs.Common.{◌≡◌, ◌∙◌, true, arith}
use Rattle.std.proofs.lemmas.Bool.Decides.{nat_tests}
use Rattle.trace_text.specs.Reading.{is_plain}
use Rattle.trace_text.proofs.NumberLemmas.{number_is_parsed}
use Rattle.trace_text.proofs.word.short_of.Goals as goal

pub returns : goal.returns
returns c =
    let plain : is_plain c.args.word.now ≡ true = grind (arith, nat_tests) in
    c.ok.ensures.value ∙ number_is_parsed 32 c.args.word.now c.parse.result plain (rw c.digits_text.ensures at c.parse.ensures.value.0)
