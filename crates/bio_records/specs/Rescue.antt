-- What contracts see of the list of a set's rescuer.
use Rattle.std.specs.Prelude.{List}
use Rattle.stack_base.specs.declared.ids.DevId.{DevId}
use Rattle.bio_records.specs.declared.bio.Pad.{Pad}
use Rattle.bio_records.specs.Items.{Item}

-- the device whose set it is of, and the bios that wait
pub record Rescue : Type 0 where
  pub dev : DevId
  pub bios : List (Item Pad)
