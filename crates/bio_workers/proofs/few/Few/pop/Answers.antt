use Rattle.std.proofs.Common.{is_some, false, ◌≡◌, ◌++◌, option_to_list, ap, sym, subst, ◌∙◌}
use Rattle.std.proofs.lemmas.List.Elements.{All-pop}
use Rattle.bio_workers.specs.Somes.{somes, HoldsOne}
use Rattle.bio_workers.proofs.AllThere.{popped, flat, nothing_popped, none_if_empty}
use Rattle.bio_workers.proofs.few.Few.pop.Goals as goal
use Rattle.bio_workers.proofs.few.Few.pop.Goals.{in-Some, in-None}

pub invariant_of-self : goal.invariant_of-self
invariant_of-self g c = (All-pop HoldsOne c.self.inside.slots.items c.pop.new.self.items c.pop.result c.pop.ensures.items c.self.invariant).0

pub returns : goal.returns
returns g c =
    let there = (All-pop HoldsOne c.self.inside.slots.items c.pop.new.self.items c.pop.result c.pop.ensures.items c.self.invariant).1 in
    let whole = sym c.self.view_is ∙ ap somes c.pop.ensures.items ∙ popped c.pop.new.self.items c.pop.result there in
    let out : flat c.pop.result ≡ c.match-pop.result = elim c.match-pop.branch [ in-Some w ↦ ap flat w.in-Some.is ∙ sym w.result-is | in-None w ↦ ap flat w.in-None.is ∙ sym w.result-is ] in
    let last = whole ∙ ap (λ r. somes c.pop.new.self.items ++ option_to_list r) out in
    record {
      last = last;
      none = (λ none. sym c.self.view_is ∙ ap somes (nothing_popped c.self.inside.slots.items c.pop.result c.pop.ensures.variant.1 there (subst (λ o. is_some o ≡ false) (sym out) none)), λ empty. none_if_empty (somes c.pop.new.self.items) c.match-pop.result (sym last ∙ empty));
    }
