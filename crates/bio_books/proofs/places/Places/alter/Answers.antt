-- The value at the key of the place is changed, and the other places keep theirs.
use Rattle.std.proofs.Common.{◌≡◌, Some, None, IsSome, map, refl, sym, ◌∙◌, ap, subst}
use Rattle.std.specs.Prelude.{slice_set, slice_index_or}
use Rattle.slab.specs.Slab.{get}
use Rattle.slab.proofs.SlabLemmas.{Updates-with_value}
use Rattle.bio_books.specs.Kept.{key_at, look}
use Rattle.bio_books.proofs.Slots.{matched, read_look}
use Rattle.bio_books.proofs.ContainersStaySound.{changes}
use Rattle.bio_books.proofs.places.Places.alter.Goals as goal

pub returns-in-Some-get_mut : goal.returns-in-Some-get_mut
returns-in-Some-get_mut g c =
    let slots = c.self.inside.slots in
    let keys = c.self.inside.keys.items in
    let found : key_at keys c.args.place ≡ Some c.in-Some.key =
    ap (λ l. key_at l c.args.place) (sym c.deref.ensures.value) ∙ sym c.key_of.ensures ∙ c.in-Some.is in
    let has : get slots c.in-Some.key ≡ Some c.in-Some-get_mut.value.now = sym c.in-Some-get_mut.ensures.value in
    let step = changes slots _ keys c.self.inside.free.items _ c.args.place c.in-Some.key c.change.new.value c.self.invariant found
    (Updates-with_value slots c.in-Some.key c.change.new.value (subst IsSome (sym has) refl)) in
    matched _ c.in-Some-get_mut.value.now (g.C.Change.after c.args.change) _ _ c.args.place
    (ap (λ shown. slice_index_or shown c.args.place None) (sym c.self.view_is) ∙ read_look slots keys c.args.place c.in-Some.key found ∙ has)
    (step ∙ ap (λ value. slice_set (map (look slots) keys) c.args.place (Some value)) c.change.ensures
    ∙ ap (λ shown. slice_set shown c.args.place (Some (g.C.Change.after c.args.change c.in-Some-get_mut.value.now))) c.self.view_is)
