-- Each call adds its rule.
use Rattle.std.proofs.Common.{◌∙◌, ap₂}
use Rattle.std.proofs.lemmas.Result.{IfOk-weaker}
use Rattle.clap.specs.Simple.{with_rule}
use Rattle.biostack_words.proofs.grammar.grammar.Goals as goal

pub returns : goal.returns
returns c =
    IfOk-weaker c.arg-5.result _ _ (λ r h. h.shape c.place.ensures.local
    ∙ ap₂ with_rule (c.in_ok-arg-4.ensures.shape c.flag-2.ensures.local
    ∙ ap₂ with_rule (c.in_ok-arg-3.ensures.shape c.flag.ensures.local
    ∙ ap₂ with_rule (c.in_ok-arg-2.ensures.shape c.valued-2.ensures.local
    ∙ ap₂ with_rule (c.in_ok-arg.ensures.shape c.valued.ensures.local
    ∙ ap₂ with_rule c.without_help.ensures c.valued.ensures.rule) c.valued-2.ensures.rule) c.flag.ensures.rule) c.flag-2.ensures.rule) c.place.ensures.rule)
    c.arg-5.ensures
