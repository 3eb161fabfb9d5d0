-- No place is free exactly where a value stands at each.
use Rattle.std.proofs.Common.{sym, ◌∙◌, subst, arith}
use Rattle.std.specs.Prelude.{All, IsSome, vec_len}
use Rattle.std.proofs.lemmas.Bool.{eq-eqb, eqb-true}
use Rattle.bio_books.proofs.ContainersStaySound.{full, full_only_if}
use Rattle.bio_books.proofs.places.Places.is_full.Goals as goal

pub returns : goal.returns
returns g c = (
  λ none. subst (All IsSome) c.self.view_is
      (full c.self.inside.slots c.self.inside.keys.items c.self.inside.free.items _ c.self.invariant
      (omega (arith, c.self.inside.free.ok, eqb-true (vec_len c.self.inside.free) 0 (sym c.is_empty.ensures ∙ none)))),
  λ all. c.is_empty.ensures ∙ eq-eqb (vec_len c.self.inside.free) 0
      (omega (
        arith,
        c.self.inside.free.ok,
        full_only_if c.self.inside.slots c.self.inside.keys.items c.self.inside.free.items _ c.self.invariant (subst (All IsSome) (sym c.self.view_is) all),
      )),
)
