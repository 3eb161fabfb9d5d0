-- All places are numbered as the loop ends.
use Rattle.std.proofs.Common.{◌∷◌, [], ◌++◌, ◌+◌, None, sym, subst, arith}
use Rattle.bio_books.proofs.Numbered.{IsNumbered, next_numbered, numbered, shows_none}
use Rattle.bio_books.proofs.places.Places.open.Goals as goal

pub numbering-preserved : goal.numbering-preserved
numbering-preserved g c =
    let step = next_numbered c.numbering.keys.items c.numbering.free.items c.numbering.place c.numbering.invariant.0 in (
      subst (λ keys. IsNumbered keys c.push_reserved-in-numbering.new.self.items (c.numbering.place + 1)) (sym c.push_reserved.ensures.items)
          (subst (λ free. IsNumbered (c.numbering.keys.items ++ None ∷ []) free (c.numbering.place + 1)) (sym c.push_reserved-in-numbering.ensures.items) step),
      omega (arith, c.push_reserved.ensures.capacity, c.numbering.invariant.1),
      omega (arith, c.push_reserved-in-numbering.ensures.capacity, c.numbering.invariant.2),
    )

pub invariant_of-result : goal.invariant_of-result
invariant_of-result g c =
    numbered c.in_ok-slots.slots c.numbering.keys.items c.numbering.free.items _ c.args.count
    (subst (IsNumbered c.numbering.keys.items c.numbering.free.items) (omega (arith, c.numbering.auto.place-end, c.numbering-test.false)) c.numbering.invariant.0)
    c.in_ok-slots.ensures.empty c.in_ok-slots.ensures.capacity c.numbering.invariant.2 (omega arith)

pub returns : goal.returns
returns g c =
    shows_none c.in_ok-slots.slots c.numbering.keys.items c.args.count
    (subst (IsNumbered c.numbering.keys.items c.numbering.free.items) (omega (arith, c.numbering.auto.place-end, c.numbering-test.false)) c.numbering.invariant.0).blank
