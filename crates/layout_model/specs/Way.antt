-- The way of one sector from a device down to a disk. At each mirror a choice names the member that it goes on to.
use Rattle.std.specs.Prelude.{◌≡◌, ◌<◌, ℕ, List, [], ◌∷◌, length}
use Rattle.stack_base.specs.Mapping.{slot, head}
use Rattle.stack_base.specs.Tree.{Tree, Leaf, Split, Mirrored}

-- one choice for each mirror on the way of sector s, each the place of a member
unfoldable pub FitsWay : Tree → ℕ → List ℕ → Type 0
FitsWay (Leaf number sectors) s choices = choices ≡ []
FitsWay (Split number kind sizes members) s choices = FitsWay (members (slot kind sizes s).member) (slot kind sizes s).at choices
FitsWay (Mirrored number sizes members) s [] = ⊥
FitsWay (Mirrored number sizes members) s (choice ∷ choices) = (choice < length sizes) × FitsWay (members choice) s choices

-- a sector of a disk
pub record Place : Type 0 where
  pub disk : ℕ
  pub at : ℕ

-- where the way of sector s ends
unfoldable pub place : Tree → ℕ → List ℕ → Place
place (Leaf number sectors) s choices = record { disk = number; at = s }
place (Split number kind sizes members) s choices = place (members (slot kind sizes s).member) (slot kind sizes s).at choices
place (Mirrored number sizes members) s [] = record { disk = number; at = s }
place (Mirrored number sizes members) s (choice ∷ choices) = place (members choice) s choices

-- a step of the way: the device, where the run that comes to it starts, the sector, and the first sector of the piece that holds it
pub record Step : Type 0 where
  pub device : ℕ
  pub run : ℕ
  pub sector : ℕ
  pub head : ℕ

-- the way of sector s in a run that starts at r: a device that cuts hands on the piece that begins at the head, others the whole run
unfoldable pub way : Tree → ℕ → ℕ → List ℕ → List Step
way (Leaf number sectors) r s choices = record { device = number; run = r; sector = s; head = r } ∷ []
way (Split number kind sizes members) r s choices =
    record { device = number; run = r; sector = s; head = head kind sizes r s }
    ∷ way (members (slot kind sizes s).member) (slot kind sizes (head kind sizes r s)).at (slot kind sizes s).at choices
way (Mirrored number sizes members) r s [] = record { device = number; run = r; sector = s; head = r } ∷ []
way (Mirrored number sizes members) r s (choice ∷ choices) = record { device = number; run = r; sector = s; head = r } ∷ way (members choice) r s choices

-- the heads at the devices of the way, from the top down
unfoldable pub heads : Tree → ℕ → ℕ → List ℕ → List ℕ
heads (Leaf number sectors) r s choices = r ∷ []
heads (Split number kind sizes members) r s choices =
    head kind sizes r s
    ∷ heads (members (slot kind sizes s).member) (slot kind sizes (head kind sizes r s)).at (slot kind sizes s).at choices
heads (Mirrored number sizes members) r s [] = r ∷ []
heads (Mirrored number sizes members) r s (choice ∷ choices) = r ∷ heads (members choice) r s choices
