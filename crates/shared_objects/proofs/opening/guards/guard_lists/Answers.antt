use Rattle.std.proofs.Common.{rules, ◌≡◌, ◌++◌, ◌∷◌, [], All, ap, sym, subst}
use Rattle.task_steps.specs.Stage.{AreServed}
use Rattle.object_things.specs.Stamps.{stage_in}
use Rattle.shared_objects.specs.Guards.{guarded}
use Rattle.shared_objects.proofs.row_lemmas.MadeOneByOne.{next_of, others_of, one_made}
use Rattle.shared_objects.proofs.opening.guards.guard_lists.Goals as goal

pub guarding-init : goal.guarding-init
guarding-init c =
    (search rules, subst (All (λ entry. AreServed (stage_in c.args.common.now.value) entry.1.bios)) (sym c.into_iter-entry-iterator.ensures.into_iter_gives.0) c.requires)

pub guard_list-requires : goal.guard_list-requires
guard_list-requires c =
    next_of (λ entry. AreServed (stage_in c.args.common.now.value) entry.1.bios) c.in-Some.entry c.next.new.self.rest.items c.in-Some.ensures.steps.0 c.guarding.invariant.1

pub guarding-preserved : goal.guarding-preserved
guarding-preserved c =
    let now : c.push.new.self.items ≡ c.guarding.things.items ++ (c.in-Some.entry.0, c.in_ok-thing.thing) ∷ [] = search rules in (
      one_made (λ entry. (entry.0, guarded c.args.common.now.value entry.1)) c.guarding.yielded c.in-Some.entry c.guarding.things.items c.push.new.self.items (c.in-Some.entry.0, c.in_ok-thing.thing)
          c.guarding.invariant.0 now (ap (λ t. (c.in-Some.entry.0, t)) c.in_ok-thing.ensures),
      others_of (λ entry. AreServed (stage_in c.args.common.now.value) entry.1.bios) c.in-Some.entry c.next.new.self.rest.items c.in-Some.ensures.steps.0 c.guarding.invariant.1,
    )
