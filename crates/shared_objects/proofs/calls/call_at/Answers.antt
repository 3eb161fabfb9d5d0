use Rattle.std.proofs.Common.{rules, ap, refl, slice_index_or}
use Rattle.shared_objects.specs.Calling.{HasAskedAt}
use Rattle.shared_objects.proofs.calls.call_at.Goals as goal

pub returns : goal.returns
returns g c = record {
  lock = slice_index_or c.args.locks.now c.args.place c.index-locks-place.result;
  lock_is = ap (slice_index_or c.args.locks.now c.args.place) c.index-locks-place.is;
  seat = c.index_mut.result.now;
  seat_is = c.index_mut.ensures.value;
  now = c.call.new.seat;
  of = c.call.ensures.of;
  changed = refl;
  made = c.call.ensures.asked;
}
