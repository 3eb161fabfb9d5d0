use Rattle.std.proofs.Common.{sym, subst}
use Rattle.std.specs.Str.{IsUtf8}
use Rattle.stack_base.proofs.NumeralLemmas.{text_is_read}
use Rattle.stack_check.proofs.NameLemmas.{name_is_text}
use Rattle.stack_check.proofs.built.text_of.Goals as goal

pub unwrap-requires : goal.unwrap-requires
unwrap-requires c =
    text_is_read c.bytes.result.now _ _ _ (subst IsUtf8 (sym c.bytes.ensures) (name_is_text c.args.name.now c.requires)) c.from_utf8.ensures.cases
