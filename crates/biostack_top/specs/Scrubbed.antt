-- What stands on the disks that a scrub compares.
use Rattle.std.specs.Prelude.{◌≡◌, ◌≢◌, ◌<◌, ℕ, true, List, length}
use Rattle.std.specs.Bool.{Decides}
use Rattle.stack_base.specs.Tree.{size, tree, legs_of}
use Rattle.layout_model.specs.Laid.{IsLaid}
use Rattle.layout_model.specs.Shown.{keeps_data, shown_sector}
use Rattle.layout_model.specs.Way.{Place}
use Rattle.model_disks.specs.Runs.{flag}
use Rattle.run_machine.specs.Opened.{Scenario}
use Rattle.block_core.specs.Scenarios.{IsScenario}
use Rattle.mirror_scrub.specs.Seen.{Images, mirror_member, unlikes}

-- each sector of each disk holds what is laid out there
abbrev pub AreLaidImages : Scenario → Images → Type 0
AreLaidImages s images = (disk at : ℕ) → disk < length s.stack.devices.items → keeps_data (tree s.stack disk) ≡ true → at < size (tree s.stack disk)
    → IsLaid s.stack s.writes s.rounds disk at (images disk at)

-- what is laid out at a place
abbrev pub IsLaidAt : Scenario → Place → List ℕ → Type 0
IsLaidAt s place sector = IsLaid s.stack s.writes s.rounds place.disk place.at sector

-- Then a sector of a mirror is unlike on a leg exactly where what is laid out for the leg differs from what is for leg 0:
-- what is laid out at the two sectors of disks that they show there.
abbrev pub UnlikeWhereLaidDiffers : Type 0
UnlikeWhereLaidDiffers = (s : Scenario) (images : Images) → IsScenario s → AreLaidImages s images
    → (mirror leg x : ℕ) → mirror < length s.stack.devices.items → leg < legs_of (tree s.stack mirror) → x < size (tree s.stack mirror)
    → (one other : List ℕ) → IsLaidAt s (shown_sector (mirror_member (tree s.stack mirror) leg) x) one → IsLaidAt s (shown_sector (mirror_member (tree s.stack mirror) 0) x) other
    → Decides (flag (unlikes images (tree s.stack mirror) leg) x) (one ≢ other)
