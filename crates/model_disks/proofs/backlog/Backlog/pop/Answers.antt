-- The first bio leaves the ring, and the first of the list comes in behind the others.
use Rattle.std.proofs.Common.{length, sym, ap, arith}
use Rattle.std.specs.Prelude.{remove}
use Rattle.std.specs.VecDeque.{deque_capacity}
use Rattle.std.proofs.lemmas.List.Elements.{All-same}
use Rattle.bio_records.specs.Items.{IsAlone}
use Rattle.model_disks.proofs.KeptLemmas.{all_but_one}
use Rattle.model_disks.proofs.PendingLemmas.{front_moved_up}
use Rattle.model_disks.proofs.backlog.Backlog.pop.Goals as goal

pub invariant_of-self-in-Some-pop : goal.invariant_of-self-in-Some-pop
invariant_of-self-in-Some-pop c =
    let was = c.self.inside in
    let popped = c.in-Some.ensures.items in
    let room = deque_capacity was.ring in
    let room_now = deque_capacity c.push_back_reserved.new.self in
    front_moved_up room room room_now room_now was.ring.items c.pop_front.new.self.items c.push_back_reserved.new.self.items was.list
    c.pop-2.new.self 0 c.in-Some-pop.next c.self.invariant (omega (arith, ap length popped)) (ap (λ l. remove l 0) (sym popped))
    c.push_back_reserved.ensures.items c.in-Some-pop.ensures.0 c.in-Some-pop.ensures.1 (omega arith) (omega arith)

pub invariant_of-self-in_default-pop : goal.invariant_of-self-in_default-pop
invariant_of-self-in_default-pop c =
    let was = c.self.inside in
    let popped = c.in-Some.ensures.items in
    record {
      alone = All-same IsAlone c.pop_front.new.self.items (remove was.ring.items 0) (ap (λ l. remove l 0) (sym popped))
          (all_but_one IsAlone was.ring.items 0 c.self.invariant.alone);
      few = omega (arith, ap length popped, c.self.invariant.few);
      fits = omega arith;
      full = λ _. c.in_default-pop.ensures.1;
    }
