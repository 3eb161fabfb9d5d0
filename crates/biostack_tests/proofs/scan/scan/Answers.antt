use Rattle.std.proofs.Common.{arith}
use Rattle.layout_model.proofs.Stacks.{element}
use Rattle.biostack_tests.proofs.scan.scan.Goals as goal

-- no device has so many sectors
pub overflow_add-sector : goal.overflow_add-sector
overflow_add-sector g c =
    let write = c.args.write.now in
    let at = element c.args.stack.now.devices.items write.dev.0 c.requires.write.known in
    omega (arith, c.loop-offset-test.true, c.requires.write.within, (c.requires.stack.each write.dev.0 at.0 at.1).small)
