use Rattle.model_disks.proofs.MoveLemmas as lemmas
use Rattle.model_disks.proofs.laws.bios_write_their_sectors.Goals as goal

pub returns : goal.returns
returns c = lemmas.bios_write_their_sectors
