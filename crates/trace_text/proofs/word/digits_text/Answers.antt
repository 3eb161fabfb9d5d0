-- Digits are text.
use Rattle.stack_base.proofs.NumeralLemmas.{digits_are_text, text_is_read}
use Rattle.trace_text.proofs.word.digits_text.Goals as goal

pub unwrap-requires : goal.unwrap-requires
unwrap-requires c = text_is_read c.args.word.now _ _ _ (digits_are_text c.args.word.now c.requires) c.from_utf8.ensures.cases
