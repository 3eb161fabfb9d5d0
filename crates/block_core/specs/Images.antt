-- What disks hold after the fragments that a run has completed.
use Rattle.std.specs.Prelude.{◌≡◌, ◌+◌, ◌-◌, ◌*◌, ◌^◌, ◌%◌, ◌<◌, ◌≤◌, ◌==◌, ◌&&◌, if◌then◌else◌, nat_le, nat_lt, ℕ, Bool, true, List, [], ◌∷◌, length, slice_get, slice_index_or}
use Rattle.std.specs.List.{AllPairs}
use Rattle.std.specs.Option.{option_map_or}
use Rattle.elem_ledger.specs.Ledger.{LedgerId}
use Rattle.stack_base.specs.declared.ids.Status.TheVariants as status
use Rattle.stack_base.specs.Fault.{status_eq}
use Rattle.stack_base.specs.Tree.{size, tree}
use Rattle.stack_base.specs.Words.{sector_data, zero_sector}
use Rattle.layout_model.specs.declared.fragment.Fragment.{Fragment}
use Rattle.layout_model.specs.declared.write.Write.{Write}
use Rattle.layout_model.specs.Laid.{round_of, IsLaid}
use Rattle.layout_model.specs.May.{fault_of}
use Rattle.layout_model.specs.OneWay.{AreApartByRounds}
use Rattle.bio_records.specs.declared.bio.Bio.{Bio}
use Rattle.run_machine.specs.declared.event.Event.{Event}
use Rattle.run_machine.specs.Opened.{Scenario, scene, start}
use Rattle.run_machine.specs.Runs.{State, IsRun, HasEnded}
use Rattle.block_core.specs.Scenarios.{IsScenario, IsNaming}
use Rattle.block_core.specs.Fragments.{offset_of, completed, IsOfScenario}

-- the tag of a write
abbrev pub tag_of : Scenario → ℕ → ℕ
tag_of s number = option_map_or (λ (write : Write). write.tag) (slice_get s.writes number) 0

-- the first word of a bio is that of its place in its write
abbrev pub HasItsWord : Scenario → Bio → Type 0
HasItsWord s bio = bio.word % 2 ^ 64 ≡ (tag_of s bio.write + 64 * offset_of bio) % 2 ^ 64

-- whether a fragment has this sector of a disk
abbrev pub lies_at : Fragment → ℕ → ℕ → Bool
lies_at f disk at = f.disk.0 == disk && (nat_le f.at at && nat_lt at (f.at + f.len))

-- and no fault in any of its sectors, so that the sector is written
abbrev pub writes_at : Scenario → Fragment → ℕ → ℕ → Bool
writes_at s f disk at = lies_at f disk at && status_eq (fault_of s.stack f) status.Ok

-- what the sector holds then: the data of that sector of the write, or what it held before
abbrev pub sector_after : Scenario → ℕ → ℕ → Fragment → List ℕ → List ℕ
sector_after s disk at f held = if writes_at s f disk at then sector_data (tag_of s f.write) (f.offset + (at - f.at)) else held

-- and after all of these, one after the other
abbrev pub held_after : Scenario → ℕ → ℕ → List Fragment → List ℕ → List ℕ
held_after s disk at [] held = held
held_after s disk at (f ∷ fragments) held = held_after s disk at fragments (sector_after s disk at f held)

-- Each sector of each disk holds the data of the last fragment there without a fault in any of its sectors that the run has completed, and
-- zeros where there is none.
abbrev pub ImagesAreOfCompleted : Type 0
ImagesAreOfCompleted = (s : Scenario) (ledger : ℕ → LedgerId) (events : List Event) (state : State) → IsScenario s → IsNaming ledger
    → (run : IsRun (scene s ledger) (start s) events state) (disk at : ℕ) → at < size (tree s.stack disk)
    → slice_index_or (state.objects.disk disk).image at [] ≡ held_after s disk at (completed (scene s ledger) (start s) events state run) zero_sector

-- the round of a fragment's write
abbrev pub round_at : Scenario → Fragment → ℕ
round_at s f = round_of s.rounds f.write

-- of each round one fragment at most writes the sector
abbrev pub OneARound : Scenario → ℕ → ℕ → Type 0
OneARound s disk at = (f g : Fragment) → IsOfScenario s f → IsOfScenario s g → writes_at s f disk at ≡ true → writes_at s g disk at ≡ true
    → round_at s f ≡ round_at s g → f ≡ g

-- none of these fragments comes behind one of a later round
abbrev pub ComeInRounds : Scenario → List Fragment → Type 0
ComeInRounds s fragments = AllPairs (λ f g. round_at s f ≤ round_at s g) fragments

-- In every run fragments are completed round by round, since nothing of an earlier round is left when a round starts.
abbrev pub RoundsComeInOrder : Type 0
RoundsComeInOrder = (s : Scenario) (ledger : ℕ → LedgerId) (events : List Event) (state : State) → IsScenario s → IsNaming ledger
    → (run : IsRun (scene s ledger) (start s) events state) → ComeInRounds s (completed (scene s ledger) (start s) events state run)

-- and where no two writes of a round have a sector in common, one fragment a round at most writes a sector
abbrev pub OneFragmentASectorARound : Type 0
OneFragmentASectorARound = (s : Scenario) → IsScenario s → AreApartByRounds s.stack s.writes s.rounds → (disk at : ℕ) → OneARound s disk at

-- each disk has as many sectors as it was opened with, and each of them holds what is laid out there
pub record HasLaidImages (s : Scenario) (state : State) : Type 0 where
  pub sized : (disk : ℕ) → length (state.objects.disk disk).image ≡ size (tree s.stack disk)
  pub laid : (disk at : ℕ) → at < size (tree s.stack disk) → IsLaid s.stack s.writes s.rounds disk at (slice_index_or (state.objects.disk disk).image at [])

-- So it is where a run has ended, in whatever order its events came.
abbrev pub ImagesAreLaidOut : Type 0
ImagesAreLaidOut = (s : Scenario) (ledger : ℕ → LedgerId) (events : List Event) (state : State) → IsScenario s → AreApartByRounds s.stack s.writes s.rounds
    → IsNaming ledger → IsRun (scene s ledger) (start s) events state → HasEnded state → HasLaidImages s state

-- What is laid out in a sector is one thing.
abbrev pub LaidIsOne : Type 0
LaidIsOne = (s : Scenario) → IsScenario s → (disk at : ℕ) (one other : List ℕ) → IsLaid s.stack s.writes s.rounds disk at one → IsLaid s.stack s.writes s.rounds disk at other
    → one ≡ other

-- So all runs of such a scenario that have ended leave the same images, whatever came first and whichever attempts at memory succeeded.
abbrev pub EndedRunsLeaveTheSame : Type 0
EndedRunsLeaveTheSame = (s : Scenario) (ledger other : ℕ → LedgerId) (events others : List Event) (state end : State) → IsScenario s → AreApartByRounds s.stack s.writes s.rounds
    → IsNaming ledger → IsNaming other → IsRun (scene s ledger) (start s) events state → IsRun (scene s other) (start s) others end → HasEnded state → HasEnded end
    → (disk : ℕ) → (state.objects.disk disk).image ≡ (end.objects.disk disk).image
