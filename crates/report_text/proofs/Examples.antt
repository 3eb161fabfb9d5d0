-- The definitions, computed on three devices and on single lines.
use Rattle.std.proofs.Common.{◌≡◌, true, ℕ, List, [], ◌∷◌, refl, codes}
use Rattle.stack_base.specs.declared.ids.PoolId.{PoolId}
use Rattle.stack_base.specs.declared.ids.PoolId.TheVariants.{FsBios, FsVecs, Bios, Records}
use Rattle.stack_base.specs.declared.ids.Status.TheVariants as status
use Rattle.stack_base.specs.declared.stack.Kind.{Kind}
use Rattle.stack_base.specs.declared.stack.Kind.TheVariants.{Linear, Limit, Mirror}
use Rattle.stack_base.specs.declared.stack.Device.{Device}
use Rattle.mempool_core.specs.declared.Facts.{Facts}
use Rattle.std.specs.Fmt.{digits}
use Rattle.hex.specs.Hex.{encode_with}
use Rattle.report_text.specs.Pools.{device_at, rising_from, falling_from}
use Rattle.report_text.specs.Report.{facts_of, no_facts, write_lines, disk_line, steps_line, gen_line}

abbrev device : List ℕ → Kind → Device
device name kind = record { name = record { bytes = name; spare = [] }; kind = kind; members = record { items = [] }; reserve = 2; rescuer = true }

abbrev devices : List Device
devices = device (codes "n") Linear ∷ device (codes "m") (Mirror 2) ∷ device (codes "l") (Limit 4 0) ∷ []

rising : rising_from 0 devices ≡ Bios (device_at 0) ∷ Records (device_at 1) ∷ Bios (device_at 1) ∷ Bios (device_at 2) ∷ []
unfolding rising_from
rising = refl

falling : falling_from 0 devices ≡ Bios (device_at 2) ∷ Records (device_at 1) ∷ Bios (device_at 1) ∷ Bios (device_at 0) ∷ []
unfolding falling_from
falling = refl

abbrev facts : ℕ → ℕ → ℕ → Facts
facts min ordinary spare = record no_facts { min = min; ordinary = ordinary; spare = spare }

abbrev pools : List (PoolId × Facts)
pools = (FsBios, facts 2 1 0) ∷ (FsVecs, facts 2 0 0) ∷ (Bios (device_at 2), facts 3 4 5) ∷ (Records (device_at 1), facts 6 7 8) ∷ (Bios (device_at 1), facts 9 10 11) ∷ (Bios (device_at 0), facts 12 13 14) ∷ []

found : facts_of pools (Bios (device_at 1)) ≡ facts 9 10 11
unfolding facts_of
found = refl

writes : write_lines 0 (status.Ok ∷ status.NoSpace ∷ []) ≡ codes "write 0 ok\nwrite 1 nospace\n"
unfolding digits
writes = refl

sum : disk_line (codes "a") 130816 ≡ codes "disk a sum 000000000001ff00\n"
unfolding encode_with
sum = refl

steps : steps_line 29 46 ≡ codes "steps 29 of 46\n"
unfolding digits
steps = refl

gen : gen_line 1 200 50000 ≡ codes "gen 1 writes 200 sectors 50000\n"
unfolding digits
gen = refl
