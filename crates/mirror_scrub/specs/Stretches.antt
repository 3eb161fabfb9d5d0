-- Two devices of a stack side by side, and sectors of two disks that follow one another on both.
use Rattle.std.specs.Prelude.{◌≡◌, ◌+◌, ◌/◌, ◌%◌, ◌<◌, ◌≤◌, not, ℕ, Bool, true, false, List, [], Option, MatchOption, length, slice_index_or}
use Rattle.stack_base.specs.Stack.{IsStack}
use Rattle.stack_base.specs.Tree.{size, tree}
use Rattle.image_lanes.specs.Lanes.{IsFirstWhere, equal_words, sectors_differ}
use Rattle.stack_base.specs.declared.ids.Range.{Range}
use Rattle.model_disks.specs.Runs.{IsFirst}
use Rattle.mirror_scrub.specs.declared.pair.Pair.{Pair}
use Rattle.mirror_scrub.specs.declared.stretch.Stretch.{Stretch}
use Rattle.mirror_scrub.specs.Seen.{AreDisksOf, differing, differs, held}

-- both are devices of the stack, whose disks these are, and have so many sectors
pub record IsPair (p : Pair) : Type 0 where
  pub stack : IsStack p.stack.now
  pub disks : AreDisksOf p.stack.now p.disks.now
  pub one : p.one.0 < length p.stack.now.devices.items
  pub other : p.other.0 < length p.stack.now.devices.items
  pub in_one : p.size ≤ size (tree p.stack.now p.one.0)
  pub in_other : p.size ≤ size (tree p.stack.now p.other.0)

-- whether they show different words at sector s
abbrev pub differ_in : Pair → ℕ → Bool
differ_in p s = differs (held p.disks.now) (tree p.stack.now p.one.0) (tree p.stack.now p.other.0) s

-- and for each of their sectors
abbrev pub flags_in : Pair → List Bool
flags_in p = differing (held p.disks.now) (tree p.stack.now p.one.0) (tree p.stack.now p.other.0) p.size

-- the sectors lie within their disks, and no disk is large
pub record LiesInDisks (s : Stretch) : Type 0 where
  pub one : s.at + s.len ≤ length s.one.now.image
  pub other : s.there + s.len ≤ length s.other.now.image
  pub low : s.at + s.len ≤ 262144
  pub also : s.there + s.len ≤ 262144

-- whether the words of the sectors at this place differ
abbrev pub differ_at : Stretch → ℕ → Bool
differ_at s place =
    not (equal_words (slice_index_or s.one.now.image (s.at + place) []) (slice_index_or s.other.now.image (s.there + place) []))

-- the words of the sectors of the stretch from a place on, as many on one disk as on the other
pub record AreWordsFrom (s : Stretch) (place : ℕ) (one other : List ℕ) : Type 0 where
  pub lengths : length one ≡ length other
  pub whole : length one % 64 ≡ 0
  pub short : place + length one / 64 ≤ s.len
  pub same : (i : ℕ) → i < length one / 64 → sectors_differ one other i ≡ differ_at s (place + i)

-- the sectors of a pair from `start` on are those of the stretch, as many as it has
pub record IsStretchOf (p : Pair) (start : ℕ) (s : Stretch) : Type 0 where
  pub some : 1 ≤ s.len
  pub short : start + s.len ≤ p.size
  pub within : LiesInDisks s
  pub same : (i : ℕ) → i < s.len → differ_at s i ≡ differ_in p (start + i)

-- the first place at or behind `from` at which they differ, or at which they do not, or the length where there is none
abbrev pub IsFirstInStretch : Stretch → ℕ → Bool → ℕ → Type 0
IsFirstInStretch s from so place = IsFirstWhere (differ_at s) from s.len so place

-- the first of those before `end`, or `end` where there is none
pub record IsFirstUpTo (s : Stretch) (from end : ℕ) (so : Bool) (place : ℕ) : Type 0 where
  pub some : from < end
  pub short : end ≤ s.len
  pub first : IsFirstWhere (differ_at s) from end so place

-- the run begins at the first flag at or behind `from` that is set, and ends at the first one behind it that is not
pub record IsFirstSetRun (flags : List Bool) (from : ℕ) (run : Range) : Type 0 where
  pub start : IsFirst flags from true run.start
  pub inside : run.start < length flags
  pub end : IsFirst flags run.start false (run.start + run.len)

-- and the first of them, if there is one
abbrev pub IsFirstRunOf : List Bool → ℕ → Option Range → Type 0
IsFirstRunOf flags from run = MatchOption run (IsFirst flags from true (length flags)) (IsFirstSetRun flags from)
