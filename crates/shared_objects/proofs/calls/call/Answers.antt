use Rattle.std.proofs.Common.{rules, ◌≡◌, ◌∙◌, sym, refl}
use Rattle.shared_objects.specs.Calling.{HasAsked}
use Rattle.shared_objects.proofs.asking.OnlySeen.{only_seen}
use Rattle.shared_objects.proofs.calls.call.Goals as goal

pub returns-clause-asked : goal.returns-clause-asked
returns-clause-asked g c = record {
  pass = c.in-Some.held;
  held = sym c.take.ensures.value ∙ c.in-Some.is;
  replied = c.call-back.result;
  says = refl;
  back = refl;
  calls = c.call-back.ensures.calls.own_calls;
  same = only_seen c.args.seat.now.known c.call-back.new.seat.known _ c.call-back.ensures.calls.seen;
  owed = c.call-back.ensures.owed;
}
