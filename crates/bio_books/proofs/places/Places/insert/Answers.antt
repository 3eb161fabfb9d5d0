-- The last free place takes the key of the value.
use Rattle.std.proofs.Common.{Some, refl, sym, ◌∙◌, ap, subst, arith}
use Rattle.std.specs.Prelude.{All, IsSome, slice_get, slice_set, vec_capacity}
use Rattle.bio_books.specs.Kept.{IsPlaced}
use Rattle.bio_books.proofs.Slots.{read_vacant}
use Rattle.bio_books.proofs.ContainersStaySound.{comes, full, last_free}
use Rattle.bio_books.proofs.places.Places.insert.Goals as goal

pub returns-in_default : goal.returns-in_default
returns-in_default g c = (
  refl,
  (
    c.self.view_is,
    subst (All IsSome) c.self.view_is (full c.self.inside.slots c.self.inside.keys.items c.self.inside.free.items _ c.self.invariant
        (omega (arith, c.self.inside.free.ok, c.in_default.ensures.cases.0))),
  ),
)

pub index_mut-requires : goal.index_mut-requires
index_mut-requires g c =
    omega (
      arith,
      c.self.inside.keys.ok,
      (comes c.self.inside.slots _ c.self.inside.keys.items c.pop.new.self.items (vec_capacity c.self.inside.free) c.in-Some.place c.insert_reserved-key.result c.args.value
          (subst (λ free. IsPlaced c.self.inside.slots c.self.inside.keys.items free (vec_capacity c.self.inside.free)) c.in-Some.ensures.items c.self.invariant)
          c.insert_reserved-key.ensures.was_vacant c.insert_reserved-key.ensures.updates c.insert_reserved-key.ensures.len c.insert_reserved-key.ensures.capacity).within,
    )

pub invariant_of-self-2 : goal.invariant_of-self-2
invariant_of-self-2 g c =
    subst (IsPlaced _ _ c.pop.new.self.items) (sym c.pop.ensures.capacity)
    (comes c.self.inside.slots _ c.self.inside.keys.items c.pop.new.self.items (vec_capacity c.self.inside.free) c.in-Some.place c.insert_reserved-key.result c.args.value
    (subst (λ free. IsPlaced c.self.inside.slots c.self.inside.keys.items free (vec_capacity c.self.inside.free)) c.in-Some.ensures.items c.self.invariant)
    c.insert_reserved-key.ensures.was_vacant c.insert_reserved-key.ensures.updates c.insert_reserved-key.ensures.len c.insert_reserved-key.ensures.capacity).sound

pub returns : goal.returns
returns g c =
    let sound = subst (λ free. IsPlaced c.self.inside.slots c.self.inside.keys.items free (vec_capacity c.self.inside.free)) c.in-Some.ensures.items c.self.invariant in (
      ap (λ shown. slice_get shown c.in-Some.place) (sym c.self.view_is)
          ∙ read_vacant c.self.inside.slots c.self.inside.keys.items c.in-Some.place
          (last_free c.self.inside.slots c.self.inside.keys.items c.pop.new.self.items (vec_capacity c.self.inside.free) c.in-Some.place sound).0,
      (comes c.self.inside.slots _ c.self.inside.keys.items c.pop.new.self.items (vec_capacity c.self.inside.free) c.in-Some.place c.insert_reserved-key.result c.args.value sound
          c.insert_reserved-key.ensures.was_vacant c.insert_reserved-key.ensures.updates c.insert_reserved-key.ensures.len c.insert_reserved-key.ensures.capacity).shows
          ∙ ap (λ shown. slice_set shown c.in-Some.place (Some c.args.value)) c.self.view_is,
    )
