use Rattle.std.proofs.Common.{drop, sym, ap, ◌∙◌}
use Rattle.plain_core.proofs.step_lemmas.Keepers.{one_left, others_of_pools}
use Rattle.plain_core.proofs.steps.task.Keeper.advance.Goals as goal

pub invariant_of-self : goal.invariant_of-self
invariant_of-self c =
    let k = c.self.inside in
    others_of_pools k.duties.items k.done (λ none. c.requires (sym c.self.view_is ∙ none)) c.self.invariant

pub returns : goal.returns
returns c =
    let k = c.self.inside in
    (one_left k.duties.items k.done (λ none. c.requires (sym c.self.view_is ∙ none))).1 ∙ ap (drop 1) c.self.view_is
