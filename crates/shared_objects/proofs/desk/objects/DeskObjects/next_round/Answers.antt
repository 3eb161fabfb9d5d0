use Rattle.std.proofs.Common.{refl, sym, subst}
use Rattle.shared_objects.specs.Holding.{DeskHolds}
use Rattle.shared_objects.proofs.desk.objects.DeskObjects.next_round.Goals as goal

-- src/desk/objects.rt
pub shape_of-self : goal.shape_of-self
shape_of-self g c = sym (c.next_round.ensures.serves 0).2

pub returns-clause-serves : goal.returns-clause-serves
returns-clause-serves g c round = ((c.next_round.ensures.serves round).0, refl)

pub returns-clause-kept : goal.returns-clause-kept
returns-clause-kept g c =
    (subst (λ locks. DeskHolds locks c.next_round.new.self.seats.now) (c.next_round.ensures.serves 0).1 c.next_round.ensures.kept.0, refl)
