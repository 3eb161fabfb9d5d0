use Rattle.std.proofs.Common.{◌∙◌, ap, true}
use Rattle.clap.specs.Simple.{app_of_fields}
use Rattle.biostack_words.specs.Parser.{without_help}
use Rattle.biostack_words.proofs.grammar.without_help.Goals as goal

pub returns : goal.returns
returns c =
    ap app_of_fields c.no_binary_name.ensures
    ∙ ap (λ fields. app_of_fields (record fields { no_binary_name = true })) c.disable_help_flag.ensures
    ∙ ap without_help c.new.ensures.app
