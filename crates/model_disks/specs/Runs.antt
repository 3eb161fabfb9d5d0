-- The written runs of an image: sectors that are not all zeros, as many as follow one another.
use Rattle.std.specs.Prelude.{◌≡◌, ◌+◌, ◌-◌, ◌^◌, ◌&&◌, ◌||◌, ◌<◌, ◌≤◌, ◌==◌, not, Bool, true, false, List, [], ◌∷◌, map, filter, ℕ, length, drop, slice_index_or, All, Contains, MatchOption, Option}
use Rattle.std.specs.List.{range_with_len, prefix_len, AllPairs}
use Rattle.stack_base.specs.declared.ids.Range.{Range}
use Rattle.stack_base.specs.Words.{is_written}
use Rattle.image_lanes.specs.Lanes.{IsFirstWhere}

-- whether sector x of the flags is written
abbrev pub flag : List Bool → ℕ → Bool
flag flags x = slice_index_or flags x false

-- a run starts at each written sector before which none is written
unfoldable pub starts_run : List Bool → ℕ → Bool
starts_run flags x = flag flags x && (x == 0 || not (flag flags (x - 1)))

-- and is as long as written sectors follow
unfoldable pub run_at : List Bool → ℕ → Range
run_at flags x = record { start = x; len = prefix_len (λ flag. flag) (drop x flags) }

-- the runs that start at `from` or behind it
unfoldable pub runs_from : List Bool → ℕ → List Range
runs_from flags from = map (run_at flags) (filter (starts_run flags) (range_with_len from (length flags - from)))

-- the run is the first of those that start at `from` or behind it, and those behind its end are the others
abbrev pub ComesFirst : List Bool → ℕ → Range → Type 0
ComesFirst flags from run = runs_from flags from ≡ run ∷ runs_from flags (run.start + run.len)

-- none, where no run starts at `from` or behind it, or else the first
abbrev pub IsNextRun : List Bool → ℕ → Option Range → Type 0
IsNextRun flags from next = MatchOption next (runs_from flags from ≡ []) (ComesFirst flags from)

-- the run ends behind `from`, within so many sectors
abbrev pub EndsWithin : ℕ → ℕ → Range → Type 0
EndsWithin from size run = (from < run.start + run.len) × (run.start + run.len ≤ size)

-- and at a place that a word holds
abbrev pub EndsInWord : ℕ → ℕ → Range → Type 0
EndsInWord from size run = EndsWithin from size run × (run.start + run.len < 2 ^ 64)

-- the place is not inside a run: if it is written, a run starts there
abbrev pub IsApart : List Bool → ℕ → Type 0
IsApart flags from = flag flags from ≡ true → starts_run flags from ≡ true

-- the first place at or behind `from` that is written, or that is not, or the length where there is none
abbrev pub IsFirst : List Bool → ℕ → Bool → ℕ → Type 0
IsFirst flags from written place = IsFirstWhere (flag flags) from (length flags) written place

-- all written runs of an image, by rising start
abbrev pub written_runs : List (List ℕ) → List Range
written_runs image = runs_from (map is_written image) 0

-- sectors of a run, all written, with no written sector right before or right behind them
pub record IsMaximalRun (flags : List Bool) (run : Range) : Type 0 where
  pub some : 0 < run.len
  pub within : run.start + run.len ≤ length flags
  pub inside : (x : ℕ) → run.start ≤ x → x < run.start + run.len → flag flags x ≡ true
  pub before : 0 < run.start → flag flags (run.start - 1) ≡ false
  pub behind : flag flags (run.start + run.len) ≡ false

-- the written runs of an image are its maximal runs, each of them once, by rising start
pub record WrittenRunsAreMaximal : Type 0 where
  pub maximal : (image : List (List ℕ)) → All (IsMaximalRun (map is_written image)) (written_runs image)
  pub all : (image : List (List ℕ)) (run : Range) → IsMaximalRun (map is_written image) run → Contains (written_runs image) run
  pub rising : (image : List (List ℕ)) → AllPairs (λ one other. one.start < other.start) (written_runs image)
