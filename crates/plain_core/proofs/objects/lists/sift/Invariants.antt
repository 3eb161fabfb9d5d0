use Rattle.std.proofs.Common.{◌≡◌, ◌+◌, ◌≤◌, ◌++◌, length, drop, take}
use Rattle.std.specs.Prelude.{filter}
use Rattle.std.specs.VecDeque.{deque_capacity}
use Rattle.stack_base.specs.declared.ids.SetId.TheVariants.{Of}
use Rattle.bio_records.specs.Sorting.{is_of, is_of_other}
use Rattle.plain_core.proofs.objects.lists.sift.Given as goal

-- those before this place were moved, or stand behind the others
abbrev pub invariant-moving : goal.invariant-moving
invariant-moving l = record {
  others : l.from.items ≡ drop l.counter l.fn.from.items ++ filter (is_of_other (Of l.dev)) (take l.counter l.fn.from.items);
  moved : l.into.items ≡ l.fn.into.items ++ filter (is_of (Of l.dev)) (take l.counter l.fn.from.items);
  few : length l.into.items ≤ length l.fn.into.items + l.counter;
  capacity : deque_capacity l.into ≡ deque_capacity l.fn.into;
}
