-- What a task that cannot go on keeps: the elements that it had at hand, and those that came back of what it asked.
use Rattle.std.specs.Prelude.{◌++◌, List, [], ◌∷◌, Option, None, Some}
use Rattle.bio_records.specs.declared.bio.Pad.{Pad}
use Rattle.bio_records.specs.Items.{Item}
use Rattle.bio_books.specs.Books.{VectorItem, SlipItem, Holding}
use Rattle.run_machine.specs.Requests.{Opening, Write, Chain, Master, Leg}

pub data Kept : Type 0 where
  KeptBio : Item Pad → Kept
  KeptVec : VectorItem → Kept
  KeptSlip : SlipItem → Kept

abbrev pub bio_kept : Option (Item Pad) → List Kept
bio_kept None = []
bio_kept (Some bio) = KeptBio bio ∷ []

abbrev pub vec_kept : Option VectorItem → List Kept
vec_kept None = []
vec_kept (Some vector) = KeptVec vector ∷ []

abbrev pub slip_kept : Option SlipItem → List Kept
slip_kept None = []
slip_kept (Some slip) = KeptSlip slip ∷ []

-- all that a node held, in the order in which it goes back to its pools
abbrev pub holding_kept : Holding → List Kept
holding_kept held = vec_kept held.vector ++ (bio_kept held.bio ++ slip_kept held.slip)

-- what is handed over for a node
abbrev pub opening_kept : Opening → List Kept
opening_kept (Write write vector) = vec_kept vector
opening_kept (Chain parent) = []
opening_kept (Master parent part slip legs) = KeptBio part ∷ KeptSlip slip ∷ []
opening_kept (Leg master) = []
