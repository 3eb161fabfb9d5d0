use Rattle.std.proofs.Common.{◌≡◌, ◌-◌, length}
use Rattle.std.specs.List.{list_all, range_with_len}
use Rattle.mirror_scrub.specs.Seen.{held}
use Rattle.mirror_scrub.specs.Text.{all_alike, mirror_alike}
use Rattle.mirror_scrub.proofs.mirror.all_alike.Given as goal

-- all are alike where those from here on are
abbrev pub invariant-devices : goal.invariant-devices
invariant-devices l =
    all_alike l.stack (held l.disks)
    ≡ list_all (mirror_alike l.stack (held l.disks)) (range_with_len l.number (length l.stack.devices.items - l.number))
