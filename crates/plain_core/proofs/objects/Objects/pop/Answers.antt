use Rattle.std.proofs.Common.{◌≡◌, rules, sym, subst, []}
use Rattle.std.specs.Prelude.{slice_index_or}
use Rattle.std.proofs.lemmas.List.Elements.{All-drop}
use Rattle.task_steps.specs.Within.{AreWithin, IsItemWithin}
use Rattle.plain_core.proofs.object_lemmas.Places.{rescued}
use Rattle.plain_core.proofs.objects.Objects.pop.Goals as goal

pub invariant_of-self-2 : goal.invariant_of-self-2
invariant_of-self-2 c =
    let stack = c.self.inside.stage.value.stack in
    let here : slice_index_or c.self.inside.rescues.items c.args.dev.0 [] ≡ c.in-Some.rescue.now = search rules in
    rescued c.args.dev.0 c.pop.new.self c.self.invariant
    (subst (AreWithin stack) (sym c.pop.ensures.rest)
    (All-drop (IsItemWithin stack) 1 c.in-Some.rescue.now (subst (AreWithin stack) here (c.self.invariant.within c.args.dev.0))))
