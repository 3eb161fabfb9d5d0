use Rattle.std.proofs.Common.{◌≡◌, Some, slice_get, arith}
use Rattle.std.proofs.lemmas.Grind.{elements}
use Rattle.stack_base.proofs.Unfolded.{tree_is, size-tree}
use Rattle.stack_base.proofs.stack.Stack.device.Goals as goal

pub returns-clause-is_device : goal.returns-clause-is_device
returns-clause-is_device c =
    let found : slice_get c.args.self.now.devices.items c.args.d.0 ≡ Some c.index.result.now = grind (arith, elements) in
    c.requires.stack.each c.args.d.0 c.index.result.now found

pub returns-clause-over_members : goal.returns-clause-over_members
returns-clause-over_members c = tree_is c.args.self.now c.requires.stack c.args.d.0 c.index.result.now (grind (arith, elements))

pub returns-clause-sized : goal.returns-clause-sized
returns-clause-sized c = size-tree c.args.self.now c.requires.stack c.args.d.0 c.index.result.now (grind (arith, elements))
