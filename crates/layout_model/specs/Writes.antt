-- A write that a stack can serve.
use Rattle.std.specs.Prelude.{◌+◌, ◌<◌, ◌≤◌, List, length, Contains}
use Rattle.stack_base.specs.declared.stack.Stack.{Stack}
use Rattle.stack_base.specs.Tree.{tree, size}
use Rattle.layout_model.specs.declared.write.Write.{Write}

-- it is to a device of the stack, has a sector, and ends within the device
pub record IsWrite (stack : Stack) (write : Write) : Type 0 where
  pub known : write.dev.0 < length stack.devices.items
  pub some : 1 ≤ write.count
  pub within : write.start + write.count ≤ size (tree stack write.dev.0)

-- so is each of these
abbrev pub AreWritesOf : Stack → List Write → Type 0
AreWritesOf stack writes = (write : Write) → Contains writes write → IsWrite stack write
