use Rattle.std.proofs.Common.{◌==◌, ◌∙◌, sym, ap}
use Rattle.trace_text.specs.Reading.{words_in}
use Rattle.decl_text.proofs.SplitLemmas.{cut_at, cut_none}
use Rattle.trace_text.proofs.words.Words.next.Goals as goal

pub returns-in-None : goal.returns-in-None
returns-in-None c =
    sym c.self.view_is ∙ ap words_in c.in_ok-rest.was
    ∙ cut_none (λ byte. byte == 32) c.in_ok-rest.rest.now (sym c.in-None.ensures)

pub returns-in-Some : goal.returns-in-Some
returns-in-Some c =
    rw (c.split_at.ensures.front, c.split_at-in-Some.ensures.back)
    (sym c.self.view_is ∙ ap words_in c.in_ok-rest.was ∙ cut_at (λ byte. byte == 32) c.in_ok-rest.rest.now c.in-Some.end 0 (sym c.in-Some.ensures))
