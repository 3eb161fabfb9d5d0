-- A part that is all that is kept.
use Rattle.std.proofs.Common.{◌≡◌, ◌++◌, [], Option}
use Rattle.std.proofs.lemmas.List.{append-nil}
use Rattle.bio_records.specs.declared.bio.Pad.{Pad}
use Rattle.bio_records.specs.Items.{Item}
use Rattle.run_machine.specs.Kept.{bio_kept}

pub part_alone : (part : Option (Item Pad)) → bio_kept part ++ [] ≡ bio_kept part
part_alone part = append-nil (bio_kept part)
