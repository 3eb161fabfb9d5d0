use Rattle.std.proofs.Common.{◌==◌, sym, ◌∙◌}
use Rattle.decl_text.proofs.SplitLemmas.{any_found, none_found, before_is, after_is}
use Rattle.decl_text.proofs.word.key_and_value.Goals as goal

pub returns-in-None : goal.returns-in-None
returns-in-None c = none_found (λ byte. byte == 61) c.args.word.now (sym c.in-None.ensures)

pub returns-in-Some : goal.returns-in-Some
returns-in-Some c =
    let found = sym c.in-Some.ensures in (
      any_found (λ byte. byte == 61) c.args.word.now c.in-Some.end found,
      c.split_at.ensures.front ∙ before_is (λ byte. byte == 61) c.args.word.now c.in-Some.end found,
      c.split_at-in-Some.ensures.back ∙ after_is (λ byte. byte == 61) c.args.word.now c.in-Some.end found,
    )
