-- A mirror, and the legs of a bio that it serves.
use Rattle.std.specs.Prelude.{◌≡◌, ℕ, ◌≤◌, List, length}
use Rattle.stack_base.specs.declared.ids.DevId.{DevId}
use Rattle.stack_base.specs.declared.ids.SetId.{SetId}
use Rattle.bio_records.specs.declared.bio.Bio.{Bio}
use Rattle.bio_records.specs.declared.bio.Pad.{Pad}
use Rattle.bio_records.specs.Runs.{run_of}

-- a mirror: its members in their order, and how many sectors it has
pub record MirrorState : Type 0 where
  pub members : List DevId
  pub size : ℕ

-- the members of a mirror: from 1 to 8 devices
pub record AreMirrored (members : List DevId) : Type 0 where
  pub some : 1 ≤ length members
  pub few : length members ≤ 8

-- the bio of one leg, at a member, and its padding: all but device, set and node is the bio's own
abbrev pub clone_of : Bio → DevId → ℕ → SetId → ℕ → Bio × Pad
clone_of bio member leg set node = (record bio { dev = member; set = set; node = node }, record { leg = leg })

-- a clone has the sectors of its bio, and is of the same write, by the same writer
abbrev pub ClonesHaveTheRun : Type 0
ClonesHaveTheRun =
    (bio : Bio) (member : DevId) (leg : ℕ) (set : SetId) (node : ℕ)
    → let clone = (clone_of bio member leg set node).0 in
    (run_of clone ≡ run_of bio) × (clone.write ≡ bio.write) × (clone.writer ≡ bio.writer) × (clone.dev ≡ member)
