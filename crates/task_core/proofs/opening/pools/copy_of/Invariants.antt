use Rattle.std.proofs.Common.{◌≡◌, take}
use Rattle.task_core.proofs.opening.pools.copy_of.Given as goal

abbrev pub invariant-copying : goal.invariant-copying
invariant-copying l = l.entries.items ≡ take l.pos l.script.entries
