use Rattle.std.proofs.Common.{arith, refl}
use Rattle.task_core.proofs.opened.LeftCounts.{disks_fit, pools_fit}
use Rattle.task_core.proofs.opening.room_of.Goals as goal

pub returns : goal.returns
returns c =
    let disks = disks_fit c.args.stack.now in
    let pools = pools_fit c.args.stack.now in
    let devices = c.len-devices.ensures in
    let disk_room = c.in_ok-with_capacity-2.ensures.capacity in
    let pool_room = c.in_ok-with_capacity-3.ensures.capacity in
    record {
      statuses = (c.in_ok-with_capacity.ensures.items, c.in_ok-with_capacity.ensures.capacity);
      disks = (c.in_ok-with_capacity-2.ensures.items, omega (arith, disks, devices, disk_room));
      pools = (c.in_ok-with_capacity-3.ensures.items, omega (arith, pools, devices, pool_room));
      steps = refl;
    }
