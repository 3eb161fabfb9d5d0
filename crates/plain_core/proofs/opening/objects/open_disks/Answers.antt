use Rattle.plain_core.specs.opening.Opening.{new_disk}
use Rattle.plain_core.proofs.opening_lemmas.MadeByNumber.{mapped_more}
use Rattle.plain_core.proofs.opening.objects.open_disks.Goals as goal

pub opening-preserved : goal.opening-preserved
opening-preserved c =
    mapped_more (new_disk c.args.stack.now) c.opening.disks.items c.push.new.self.items c.opening.number c.in_ok-open_disk.field-0 c.in_ok-push.ensures.items
    c.opening.invariant c.in_ok-open_disk.ensures
