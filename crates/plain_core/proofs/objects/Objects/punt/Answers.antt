use Rattle.std.proofs.Common.{◌≡◌, rules, sym, subst, []}
use Rattle.std.specs.Prelude.{slice_index_or}
use Rattle.std.proofs.lemmas.List.Elements.{All-append}
use Rattle.task_steps.specs.Within.{AreWithin, IsItemWithin, ListsAreWithin}
use Rattle.plain_core.specs.objects.Lists.{lists_of}
use Rattle.plain_core.specs.objects.Plain.{CoreObjects}
use Rattle.plain_core.proofs.object_lemmas.Places.{rescued, punted_within}
use Rattle.plain_core.proofs.objects.Objects.punt.Goals as goal

pub invariant_of-self-2 : goal.invariant_of-self-2
invariant_of-self-2 c =
    let stack = c.self.inside.stage.value.stack in
    let here : slice_index_or c.self.inside.rescues.items c.args.dev.0 [] ≡ c.in-Some.rescue.now = search rules in
    let lists = lists_of c.args.lists.now in
    let within : ListsAreWithin stack lists = subst (λ (o : CoreObjects). ListsAreWithin o.stack lists) (sym c.self.view_is) c.requires.within in
    rescued c.args.dev.0 c.punt.new.self c.self.invariant
    (subst (AreWithin stack) (sym c.in_ok-punt.ensures.moved)
    (All-append (IsItemWithin stack) c.in-Some.rescue.now _ (subst (AreWithin stack) here (c.self.invariant.within c.args.dev.0))
    (punted_within stack c.args.dev lists within)))
