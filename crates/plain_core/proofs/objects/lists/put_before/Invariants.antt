use Rattle.std.proofs.Common.{◌≡◌, ◌+◌, ◌≤◌, ◌++◌, length, drop}
use Rattle.std.specs.Prelude.{filter}
use Rattle.std.specs.VecDeque.{deque_capacity}
use Rattle.plain_core.specs.objects.Lists.{is_picked}
use Rattle.plain_core.proofs.objects.lists.put_before.Given as goal

-- those behind this place stand before list 1
abbrev pub invariant-moving : goal.invariant-moving
invariant-moving l = record {
  items : l.list1.items ≡ filter (is_picked l.lower l.dev) (drop l.left l.list0.items) ++ l.fn.list1.items;
  few : length l.list1.items + l.left ≤ length l.list0.items + length l.fn.list1.items;
  within : l.left ≤ length l.list0.items;
  capacity : deque_capacity l.list1 ≡ deque_capacity l.fn.list1;
}

abbrev pub decreases-moving : goal.decreases-moving
decreases-moving l = l.left
