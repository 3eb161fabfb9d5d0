-- How a disk is kept. No contract of its public calls speaks of this.
use Rattle.std.specs.Prelude.{◌≡◌, ◌+◌, ◌-◌, ◌^◌, ◌<◌, ◌≤◌, ◌++◌, ℕ, Bool, true, List, [], length, take, drop, replicate, All}
use Rattle.stack_base.specs.declared.ids.Range.{Range}
use Rattle.stack_base.specs.declared.ids.Bad.{Bad}
use Rattle.elem_ledger.specs.declared.element.Element.{Element}
use Rattle.bio_records.specs.declared.bio.Pad.{Pad}
use Rattle.bio_records.specs.declared.body.BioBody.{BioBody}
use Rattle.bio_records.specs.Items.{Item, IsAlone}
use Rattle.model_disks.specs.Disks.{IsBadRange}

-- a list with copies of one element behind it, so that it has this length where it was shorter
unfoldable pub grown : {X : Type 0} → X → ℕ → List X → List X
grown none size xs = xs ++ replicate (size - length xs) none

-- flags of which those of a range are set
abbrev pub marked : Range → List Bool → List Bool
marked range flags = take range.start flags ++ (replicate range.len true ++ drop (range.start + range.len) flags)

-- a bio ends within a disk of so many sectors
abbrev pub IsWithin : ℕ → Item Pad → Type 0
IsWithin sectors item = item.bio.range.start + item.bio.range.len ≤ sectors

-- what holds at any time of the bad ranges of a disk of so many sectors and of the bios that wait in it
pub record IsSoundDisk (sectors : ℕ) (bads : List Bad) (items : List (Item Pad)) : Type 0 where
  pub size : sectors < 2 ^ 64
  pub bad : All (IsBadRange sectors) bads
  pub pending : All (IsWithin sectors) items

-- the first of some bios, side by side in a front of this size, for which there is room, and those behind them
pub record IsFront (size room : ℕ) (front : List (Element (BioBody Pad))) (rest : List (Item Pad)) : Type 0 where
  pub alone : All IsAlone front
  pub few : length front ≤ size
  pub fits : size ≤ room
  -- none is behind them unless the front is full
  pub full : length front < size → rest ≡ []
