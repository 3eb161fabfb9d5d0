use Rattle.trace_replay.proofs.renaming.NextPlaces as places
use Rattle.trace_replay.proofs.laws.next_places_are_vacant.Goals as goal

pub returns : goal.returns
returns c = places.next_places_are_vacant
