use Rattle.std.proofs.Common.{◌<◌, length, ap, ◌∙◌, arith}
use Rattle.stack_base.specs.declared.stack.Stack.{Stack}
use Rattle.task_core.specs.opened.Openings.{itself, IsNewDisk}
use Rattle.task_steps.specs.Stage.{has_disk_in}
use Rattle.task_core.specs.Plains.{disk_number}
use Rattle.task_core.proofs.opened.OpenedInOrder.{one_more, not_itself}
use Rattle.task_core.proofs.opening.objects.open_disks.Goals as goal

pub opening-preserved : goal.opening-preserved
opening-preserved c =
    let few = c.requires.stack.few in
    let same = ap (λ (s : Stack). length s.devices.items) c.requires.same in
    let len = c.len-number-end.ensures in
    let test = c.opening-test.true in
    let long = c.opening.invariant.long in
    let inside : c.opening.number < length c.opening.table = omega (few, same, len, test, long, arith) in
    let more =
    one_more disk_number itself (has_disk_in c.args.routes.now) (IsNewDisk c.args.routes.now) c.opening.number c.opening.disks.items c.opening.table c.opening.invariant.opened
    c.open_disk.new.disks.items c.open_disk.new.table (λ i lt. not_itself i c.opening.number lt) inside c.in_ok-open_disk.ensures in
    record { opened = more.0; long = more.1 ∙ long }
