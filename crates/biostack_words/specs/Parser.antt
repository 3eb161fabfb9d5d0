-- What `clap` is told, as its contracts see it.
use Rattle.std.specs.Prelude.{true, codes, Some}
use Rattle.clap.specs.Walk.{Rule, Text}
use Rattle.clap.specs.Simple.{App, new_app, new_rule, on_top, with_rule}
use Rattle.clap.specs.declared.builder.action.ArgAction.TheVariants.{SetTrue}

-- an option that has a value, and one that has none
abbrev pub valued : Text → Rule
valued name = record (new_rule name) { long = Some name }

abbrev pub flag_rule : Text → Rule
flag_rule name = record (new_rule name) { long = Some name; action = Some SetTrue }

-- no help, no first word to pass over, the four options, and a word alone
abbrev pub without_help : App → App
without_help = on_top (λ shape. record shape { disable_help_flag = true; no_binary_name = true })

abbrev pub parser : App
parser = with_rule (with_rule (with_rule (with_rule (with_rule (without_help (new_app (codes "biostack")))
    (valued (codes "seed"))) (valued (codes "workers"))) (flag_rule (codes "trace"))) (flag_rule (codes "text")))
    (new_rule (codes "number"))
