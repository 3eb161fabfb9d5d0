use Rattle.std.proofs.Common.{◌≡◌, ◌==◌, drop}
use Rattle.std.specs.Prelude.{find}
use Rattle.model_disks.specs.Disks.{DiskState}
use Rattle.mirror_scrub.proofs.pair.disk_of.Given as goal

-- it is none of those before
abbrev pub invariant-looking : goal.invariant-looking
invariant-looking l =
    find (λ (disk : DiskState). disk.dev.0 == l.dev.0) l.disks ≡ find (λ (disk : DiskState). disk.dev.0 == l.dev.0) (drop l.disk-index l.disks)
