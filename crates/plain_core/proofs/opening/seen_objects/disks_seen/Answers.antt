use Rattle.task_core.specs.opened.OfOne.{scenario_in}
use Rattle.plain_core.specs.opening.Opening.{new_disk}
use Rattle.plain_core.proofs.opening_lemmas.MadeByNumber.{mapped_more}
use Rattle.plain_core.proofs.opening.seen_objects.disks_seen.Goals as goal

pub seeing-preserved : goal.seeing-preserved
seeing-preserved c =
    let s = scenario_in c.args.opened.now in
    mapped_more (new_disk s.stack) c.seeing.disks.items c.push.new.self.items c.seeing.number c.in_ok-disk_seen.field-0 c.in_ok-push.ensures.items
    c.seeing.invariant c.in_ok-disk_seen.ensures
