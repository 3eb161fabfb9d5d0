-- A bio that is taken out of the window, or out of the list behind it.
use Rattle.std.proofs.Common.{◌≡◌, ◌++◌, ◌-◌, length, map, refl, sym, ap, ◌∙◌, arith}
use Rattle.std.specs.Prelude.{remove, slice_get}
use Rattle.std.specs.Vec.{vec_capacity}
use Rattle.bio_records.specs.Items.{item_of}
use Rattle.model_disks.specs.declared.pending.TheConstants.{WINDOW}
use Rattle.model_disks.proofs.PendingLemmas.{taken_far, stands_near, taken_near, moved_up, front_moved_up}
use Rattle.model_disks.proofs.pending.Pending.take_at.Goals as goal

pub returns-then-index-near-clause-rest : goal.returns-then-index-near-clause-rest
returns-then-index-near-clause-rest c =
    let was = c.self.inside in
    let near : c.len-near.result ≡ length was.window.items = omega arith in
    ap (λ l. map item_of was.window.items ++ l) (c.take_at.ensures.rest ∙ ap (λ n. remove was.rest (c.args.index - n)) near)
    ∙ taken_far item_of was.window.items was.rest c.args.index (omega arith)
    ∙ ap (λ l. remove l c.args.index) c.self.view_is

pub invariant_of-self-in-Some : goal.invariant_of-self-in-Some
invariant_of-self-in-Some c =
    let was = c.self.inside in
    front_moved_up WINDOW (vec_capacity was.window) WINDOW (vec_capacity c.push_reserved.new.self) was.window.items c.remove-el.new.self.items
    c.push_reserved.new.self.items was.rest c.pop.new.self c.args.index c.in-Some.next c.self.invariant (omega arith)
    c.remove-el.ensures.items c.push_reserved.ensures.items c.in-Some.ensures.0 c.in-Some.ensures.1 refl (omega arith)

pub returns-in-Some-clause-taken : goal.returns-in-Some-clause-taken
returns-in-Some-clause-taken c =
    let was = c.self.inside in
    ap (λ l. slice_get l c.args.index) (sym c.self.view_is)
    ∙ stands_near item_of was.window.items was.rest c.args.index c.remove-el.result (omega arith) c.remove-el.ensures.value

pub returns-in-Some-clause-rest : goal.returns-in-Some-clause-rest
returns-in-Some-clause-rest c =
    let was = c.self.inside in
    moved_up item_of was.window.items c.remove-el.new.self.items c.push_reserved.new.self.items was.rest c.pop.new.self c.args.index c.in-Some.next
    (omega arith) c.remove-el.ensures.items c.push_reserved.ensures.items c.in-Some.ensures.0
    ∙ ap (λ l. remove l c.args.index) c.self.view_is

pub returns-in_default-clause-taken : goal.returns-in_default-clause-taken
returns-in_default-clause-taken c =
    let was = c.self.inside in
    ap (λ l. slice_get l c.args.index) (sym c.self.view_is)
    ∙ stands_near item_of was.window.items was.rest c.args.index c.remove-el.result (omega arith) c.remove-el.ensures.value

pub returns-in_default-clause-rest : goal.returns-in_default-clause-rest
returns-in_default-clause-rest c =
    let was = c.self.inside in
    ap (λ l. map item_of l ++ c.pop.new.self) c.remove-el.ensures.items
    ∙ ap (λ l. map item_of (remove was.window.items c.args.index) ++ l) (c.in_default.ensures.1 ∙ sym c.in_default.ensures.0)
    ∙ taken_near item_of was.window.items was.rest c.args.index (omega arith)
    ∙ ap (λ l. remove l c.args.index) c.self.view_is
