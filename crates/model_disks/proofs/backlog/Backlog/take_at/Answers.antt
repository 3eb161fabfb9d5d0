-- A bio that is taken out of the ring, or out of the list behind it.
use Rattle.std.proofs.Common.{◌≡◌, ◌++◌, ◌-◌, length, map, sym, ap, ◌∙◌, arith}
use Rattle.std.specs.Prelude.{remove, slice_get}
use Rattle.std.specs.VecDeque.{deque_capacity}
use Rattle.bio_records.specs.Items.{item_of}
use Rattle.model_disks.proofs.PendingLemmas.{taken_far, stands_near, taken_near, moved_up, front_moved_up}
use Rattle.model_disks.proofs.backlog.Backlog.take_at.Goals as goal

pub returns-then-index-near-clause-rest : goal.returns-then-index-near-clause-rest
returns-then-index-near-clause-rest c =
    let was = c.self.inside in
    let near : c.len-near.result ≡ length was.ring.items = omega arith in
    ap (λ l. map item_of was.ring.items ++ l) (c.take_at.ensures.rest ∙ ap (λ n. remove was.list (c.args.index - n)) near)
    ∙ taken_far item_of was.ring.items was.list c.args.index (omega arith)
    ∙ ap (λ l. remove l c.args.index) c.self.view_is

pub invariant_of-self-in-Some-pop : goal.invariant_of-self-in-Some-pop
invariant_of-self-in-Some-pop c =
    let was = c.self.inside in
    let room = deque_capacity was.ring in
    let room_now = deque_capacity c.push_back_reserved.new.self in
    front_moved_up room room room_now room_now was.ring.items c.remove.new.self.items c.push_back_reserved.new.self.items was.list c.pop.new.self
    c.args.index c.in-Some-pop.next c.self.invariant (omega arith) c.in-Some.ensures.items c.push_back_reserved.ensures.items
    c.in-Some-pop.ensures.0 c.in-Some-pop.ensures.1 (omega arith) (omega arith)

pub returns-in-Some-pop-clause-taken : goal.returns-in-Some-pop-clause-taken
returns-in-Some-pop-clause-taken c =
    let was = c.self.inside in
    ap (λ l. slice_get l c.args.index) (sym c.self.view_is)
    ∙ stands_near item_of was.ring.items was.list c.args.index c.in-Some.el (omega arith) c.in-Some.ensures.value

pub returns-in-Some-pop-clause-rest : goal.returns-in-Some-pop-clause-rest
returns-in-Some-pop-clause-rest c =
    let was = c.self.inside in
    moved_up item_of was.ring.items c.remove.new.self.items c.push_back_reserved.new.self.items was.list c.pop.new.self c.args.index
    c.in-Some-pop.next (omega arith) c.in-Some.ensures.items c.push_back_reserved.ensures.items c.in-Some-pop.ensures.0
    ∙ ap (λ l. remove l c.args.index) c.self.view_is

pub returns-in_default-pop-clause-taken : goal.returns-in_default-pop-clause-taken
returns-in_default-pop-clause-taken c =
    let was = c.self.inside in
    ap (λ l. slice_get l c.args.index) (sym c.self.view_is)
    ∙ stands_near item_of was.ring.items was.list c.args.index c.in-Some.el (omega arith) c.in-Some.ensures.value

pub returns-in_default-pop-clause-rest : goal.returns-in_default-pop-clause-rest
returns-in_default-pop-clause-rest c =
    let was = c.self.inside in
    ap (λ l. map item_of l ++ c.pop.new.self) c.in-Some.ensures.items
    ∙ ap (λ l. map item_of (remove was.ring.items c.args.index) ++ l) (c.in_default-pop.ensures.1 ∙ sym c.in_default-pop.ensures.0)
    ∙ taken_near item_of was.ring.items was.list c.args.index (omega arith)
    ∙ ap (λ l. remove l c.args.index) c.self.view_is
