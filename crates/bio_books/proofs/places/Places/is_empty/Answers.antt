-- All places are free exactly where none has a value.
use Rattle.std.proofs.Common.{◌≡◌, None, sym, subst, arith}
use Rattle.std.specs.Prelude.{All}
use Rattle.std.proofs.lemmas.Bool.{eq-eqb, eqb-true}
use Rattle.bio_books.proofs.ContainersStaySound.{empty_if, empty_only_if}
use Rattle.bio_books.proofs.places.Places.is_empty.Goals as goal

pub returns : goal.returns
returns g c = (
  λ same. subst (All (λ slot. slot ≡ None)) c.self.view_is
      (empty_if c.self.inside.slots c.self.inside.keys.items c.self.inside.free.items _ c.self.invariant
      (omega (arith, c.len.ensures, eqb-true c.len.result c.len-2.result same, c.len-2.ensures, c.self.inside.free.ok, c.self.inside.keys.ok))),
  λ empty. eq-eqb c.len.result c.len-2.result
      (omega (
        arith,
        c.len.ensures,
        c.len-2.ensures,
        c.self.inside.free.ok,
        c.self.inside.keys.ok,
        empty_only_if c.self.inside.slots c.self.inside.keys.items c.self.inside.free.items _ c.self.invariant
            (subst (All (λ slot. slot ≡ None)) (sym c.self.view_is) empty),
      )),
)
