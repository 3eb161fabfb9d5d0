use Rattle.std.proofs.Common.{◌++◌, ◌<◌, [], ◌∷◌, length, All, Some, arith, ap, sym, subst, ◌∙◌}
use Rattle.std.proofs.lemmas.List.Elements.{All-push}
use Rattle.bio_workers.specs.Somes.{somes, HoldsOne}
use Rattle.bio_workers.specs.declared.few.TheConstants.{MOST_TASKS}
use Rattle.bio_workers.proofs.AllThere.{somes_append, as_long}
use Rattle.bio_workers.proofs.few.Few.push.Goals as goal

pub push-requires : goal.push-requires
push-requires g c =
    let long = as_long c.self.inside.slots.items c.self.invariant in
    let room : length (somes c.self.inside.slots.items) < MOST_TASKS = rw c.self.view_is c.requires in
    omega arith

pub invariant_of-self : goal.invariant_of-self
invariant_of-self g c = subst (All HoldsOne) (sym c.push.ensures.items) (All-push HoldsOne c.self.inside.slots.items (Some c.args.task) c.self.invariant tt)

pub returns : goal.returns
returns g c = ap somes c.push.ensures.items ∙ somes_append c.self.inside.slots.items (Some c.args.task ∷ []) ∙ ap (λ l. l ++ c.args.task ∷ []) c.self.view_is
