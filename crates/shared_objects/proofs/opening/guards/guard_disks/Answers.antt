use Rattle.std.proofs.Common.{rules, ◌≡◌, ◌++◌, ◌∷◌, [], All, ap, sym, ◌∙◌, subst}
use Rattle.std.proofs.lemmas.List.{map-append}
use Rattle.model_disks.specs.Disks.{DiskState}
use Rattle.stack_base.specs.declared.ids.DevId.{DevId}
use Rattle.task_core.specs.ObjectsOf.{IsDiskOf}
use Rattle.object_things.specs.Stamps.{stage_in}
use Rattle.shared_objects.specs.Guards.{guarded}
use Rattle.shared_objects.specs.Opening.{guarded_row}
use Rattle.shared_objects.specs.Sharing.{disks_by_device}
use Rattle.shared_objects.proofs.row_lemmas.MadeOneByOne.{next_of, others_of, one_made}
use Rattle.shared_objects.proofs.opening.guards.guard_disks.Goals as goal

pub guarding-init : goal.guarding-init
guarding-init c =
    (search rules, subst (All (λ entry. IsDiskOf (stage_in c.args.common.now.value) entry.dev.0 entry)) (sym c.into_iter-disk-iterator.ensures.into_iter_gives.0) c.requires)

pub guard_disk-requires : goal.guard_disk-requires
guard_disk-requires c =
    next_of (λ entry. IsDiskOf (stage_in c.args.common.now.value) entry.dev.0 entry) c.in-Some.disk c.next.new.self.rest.items c.in-Some.ensures.steps.0 c.guarding.invariant.1

pub guarding-preserved : goal.guarding-preserved
guarding-preserved c =
    let common = c.args.common.now.value in
    let now : c.push.new.self.items ≡ c.guarding.things.items ++ (c.dev-dev.result, c.in_ok-thing.thing) ∷ [] = search rules in (
      one_made (λ (entry : DevId × DiskState). (entry.0, guarded common entry.1)) (disks_by_device c.guarding.yielded) (c.in-Some.disk.dev, c.in-Some.disk) c.guarding.things.items c.push.new.self.items
          (c.dev-dev.result, c.in_ok-thing.thing) c.guarding.invariant.0 now (ap (λ d. (d, c.in_ok-thing.thing)) c.dev-dev.ensures ∙ ap (λ t. (c.in-Some.disk.dev, t)) c.in_ok-thing.ensures)
          ∙ ap (guarded_row common) (sym (map-append (λ (disk : DiskState). (disk.dev, disk)) c.guarding.yielded (c.in-Some.disk ∷ []))),
      others_of (λ disk. IsDiskOf (stage_in common) disk.dev.0 disk) c.in-Some.disk c.next.new.self.rest.items c.in-Some.ensures.steps.0 c.guarding.invariant.1,
    )
