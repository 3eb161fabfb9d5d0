use Rattle.std.proofs.Common.{◌∙◌, ap}
use Rattle.trace_text.specs.Reading.{is_nil}
use Rattle.trace_text.proofs.SplitLemmas.{left_words}
use Rattle.trace_text.proofs.words.Words.is_done.Goals as goal

pub returns : goal.returns
returns c = left_words c.self.inside.rest c.is_none.result c.is_none.ensures ∙ ap is_nil c.self.view_is
