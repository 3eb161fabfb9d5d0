use Rattle.std.proofs.Common.{◌≡◌, rules, subst, None}
use Rattle.std.specs.Prelude.{slice_index_or}
use Rattle.plain_core.specs.objects.Plain.{HasSize}
use Rattle.plain_core.proofs.object_lemmas.Places.{disked}
use Rattle.plain_core.proofs.objects.Objects.complete.Goals as goal

pub invariant_of-self-2 : goal.invariant_of-self-2
invariant_of-self-2 c =
    let here : slice_index_or c.self.inside.disks.items c.args.disk.0 None ≡ c.in-Some-get_mut.slot.now = search rules in
    disked c.args.disk.0 c.complete_in.new.slot c.self.invariant
    (λ sectors sized. c.complete_in.ensures.size sectors (subst (HasSize sectors) here sized))
