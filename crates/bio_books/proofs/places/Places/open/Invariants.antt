use Rattle.std.proofs.Common.{◌≤◌}
use Rattle.std.specs.Prelude.{vec_capacity}
use Rattle.bio_books.proofs.Numbered.{IsNumbered}
use Rattle.bio_books.proofs.places.Places.open.Given as goal

-- the places so far are numbered, and there is room for the others
abbrev pub invariant-numbering : goal.invariant-numbering
invariant-numbering g l = IsNumbered l.keys.items l.free.items l.place × (l.count ≤ vec_capacity l.keys) × (l.count ≤ vec_capacity l.free)
