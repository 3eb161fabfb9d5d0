-- The place loses its key, and is free.
use Rattle.std.proofs.Common.{◌≡◌, Some, None, sym, ◌∙◌, ap, subst}
use Rattle.std.specs.Prelude.{slice_set, vec_capacity}
use Rattle.bio_books.specs.Kept.{IsPlaced, key_at}
use Rattle.bio_books.proofs.ContainersStaySound.{goes}
use Rattle.bio_books.proofs.places.Places.remove.Goals as goal

pub invariant_of-self-2 : goal.invariant_of-self-2
invariant_of-self-2 g c =
    let found : key_at c.self.inside.keys.items c.args.place ≡ Some c.in_ok-key.key =
    ap (λ l. key_at l c.args.place) (sym c.deref.ensures.value) ∙ sym c.key_of.ensures ∙ c.in_ok-key.was in
    let step = goes c.self.inside.slots c.try_remove.new.self c.self.inside.keys.items c.self.inside.free.items (vec_capacity c.self.inside.free)
    c.args.place c.in_ok-key.key c.self.invariant found c.try_remove.ensures.updates c.in_ok-value.ensures.len c.in_ok-value.ensures.capacity in
    subst (IsPlaced _ _ c.push_reserved.new.self.items) (sym c.push_reserved.ensures.capacity)
    (subst (λ free. IsPlaced c.try_remove.new.self (slice_set c.self.inside.keys.items c.args.place None) free (vec_capacity c.self.inside.free)) (sym c.push_reserved.ensures.items) step.sound)

pub returns-clause-vacant : goal.returns-clause-vacant
returns-clause-vacant g c =
    let found : key_at c.self.inside.keys.items c.args.place ≡ Some c.in_ok-key.key =
    ap (λ l. key_at l c.args.place) (sym c.deref.ensures.value) ∙ sym c.key_of.ensures ∙ c.in_ok-key.was in
    let step = goes c.self.inside.slots c.try_remove.new.self c.self.inside.keys.items c.self.inside.free.items (vec_capacity c.self.inside.free)
    c.args.place c.in_ok-key.key c.self.invariant found c.try_remove.ensures.updates c.in_ok-value.ensures.len c.in_ok-value.ensures.capacity in
    step.shows ∙ ap (λ shown. slice_set shown c.args.place None) c.self.view_is
