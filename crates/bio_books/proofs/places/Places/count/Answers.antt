-- As many places are shown as have a number.
use Rattle.std.proofs.Common.{length, ap, arith}
use Rattle.bio_books.proofs.ContainersStaySound.{as_many}
use Rattle.bio_books.proofs.places.Places.count.Goals as goal

pub returns : goal.returns
returns g c =
    omega (
      arith,
      c.len.ensures,
      c.self.inside.keys.ok,
      c.self.invariant.numbers,
      ap length c.self.view_is,
      as_many c.self.inside.slots c.self.inside.keys.items,
    )
