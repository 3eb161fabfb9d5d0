-- The fragments of a run: which of its sectors come to a disk together.
use Rattle.std.specs.Prelude.{◌≡◌, ◌↔◌, ◌+◌, ◌*◌, ◌^◌, ◌<◌, ◌≤◌, ℕ, List, map, Contains}
use Rattle.std.specs.List.Sorted.{IsStrictlyIncreasing}
use Rattle.stack_base.specs.declared.stack.Stack.{Stack}
use Rattle.stack_base.specs.Tree.{Tree, tree}
use Rattle.layout_model.specs.declared.fragment.Fragment.{Fragment}
use Rattle.layout_model.specs.declared.write.Write.{Write}
use Rattle.layout_model.specs.Way.{FitsWay, place, heads}

-- the choices lead the other sector too, and its heads agree with those of s at every device of the way
pub record Together (t : Tree) (r : ℕ) (choices : List ℕ) (s other : ℕ) : Type 0 where
  pub fits : FitsWay t other choices
  pub same : heads t r other choices ≡ heads t r s choices

-- a fragment of the run of len sectors from r on, whose first sector has this offset in the write: some choices and the sectors
-- that are together by them, all of these and no others
pub record IsFragmentOf (t : Tree) (write offset r len : ℕ) (f : Fragment) : Type 0 where
  -- its first sector, as a place in the run, and the choices
  pub from : ℕ
  pub choices : List ℕ
  pub of_write : f.write ≡ write
  pub begins : f.offset ≡ offset + from
  pub some : 0 < f.len
  pub within : from + f.len ≤ len
  pub fits : FitsWay t (r + from) choices
  pub lies : place t (r + from) choices ≡ record { disk = f.disk.0; at = f.at }
  pub whole : (j : ℕ) → j < len → Together t r choices (r + from) (r + j) ↔ ((from ≤ j) × (j < from + f.len))

-- a fragment of a run by these choices, and among its sectors the one that stands j behind the run's first
pub record IsIn (t : Tree) (write offset r len : ℕ) (choices : List ℕ) (j : ℕ) (f : Fragment) : Type 0 where
  pub fragment : IsFragmentOf t write offset r len f
  pub chosen : fragment.choices ≡ choices
  pub from : fragment.from ≤ j
  pub before : j < fragment.from + f.len

-- two fragments that do not both begin at one sector of the write and lie on one disk
abbrev pub AreOther : Fragment → Fragment → Type 0
AreOther a b = a.offset ≡ b.offset → a.disk.0 ≡ b.disk.0 → ⊥

-- fragments stand by their offsets, and by their disks where these are the same
abbrev pub fragment_order : Fragment → ℕ
fragment_order f = f.offset * 2 ^ 32 + f.disk.0

-- the fragments of the run, each once and in this order
pub record AreFragments (t : Tree) (write r len : ℕ) (fragments : List Fragment) : Type 0 where
  pub each : (f : Fragment) → Contains fragments f ↔ IsFragmentOf t write 0 r len f
  pub order : IsStrictlyIncreasing (map fragment_order fragments)

-- the fragments of a write, which has this number
abbrev pub AreFragmentsOf : Stack → ℕ → Write → List Fragment → Type 0
AreFragmentsOf stack number write own = AreFragments (tree stack write.dev.0) number write.start write.count own
