-- What a run becomes when it is cut piece by piece: the second form of the layout, for those that do so. It defines no fragment: laws tie
-- it to the first form.
use Rattle.std.specs.Prelude.{◌≡◌, ◌+◌, ◌-◌, min, ℕ, zero, suc, List, [], ◌∷◌, ◌++◌, length}
use Rattle.std.specs.List.{range_with_len, flat_map}
use Rattle.stack_base.specs.declared.ids.DevId.{DevId}
use Rattle.stack_base.specs.declared.stack.Stack.{Stack}
use Rattle.stack_base.specs.Mapping.{slot}
use Rattle.stack_base.specs.Cutting.{piece_end}
use Rattle.stack_base.specs.Tree.{Tree, Leaf, Split, Mirrored, tree}
use Rattle.layout_model.specs.declared.fragment.Fragment.{Fragment}
use Rattle.layout_model.specs.declared.fragment.Run.{Run}

-- a part of a run: how far it stands behind the run's first sector in the write, its first sector, and its length
pub record Part : Type 0 where
  pub offset : ℕ
  pub start : ℕ
  pub len : ℕ

-- the parts of the run of `len` sectors from r on, each to the next end; `steps` is at least their number
unfoldable pub cuts_in : ℕ → (ℕ → ℕ) → ℕ → ℕ → ℕ → List Part
cuts_in zero next offset r len = []
cuts_in (suc steps) next offset r zero = []
cuts_in (suc steps) next offset r (suc more) =
    let n = min (next r - r) (suc more) in
    record { offset = offset; start = r; len = n } ∷ cuts_in steps next (offset + n) (r + n) (suc more - n)

unfoldable pub cuts : (ℕ → ℕ) → ℕ → ℕ → ℕ → List Part
cuts next offset r len = cuts_in len next offset r len

-- the fragments of a run, in the order in which it is cut
unfoldable pub frags : Tree → ℕ → ℕ → ℕ → ℕ → List Fragment
frags (Leaf number sectors) write offset r len =
    record { write = write; offset = offset; len = len; disk = record { 0 = number }; at = r } ∷ []
frags (Split number kind sizes members) write offset r len =
    flat_map (λ p. frags (members (slot kind sizes p.start).member) write p.offset (slot kind sizes p.start).at p.len) (cuts (piece_end kind sizes) offset r len)
frags (Mirrored number sizes members) write offset r len =
    flat_map (λ k. frags (members k) write offset r len) (range_with_len 0 (length sizes))

-- those of a run at a device were added behind the old ones
abbrev pub AddsFragments : Stack → DevId → ℕ → Run → List Fragment → List Fragment → Type 0
AddsFragments stack dev write run old new = new ≡ old ++ frags (tree stack dev.0) write run.offset run.start run.len

mutual
  pub data Plan : Type 0 where
    -- one fragment
    OneFragment : (fragment : Fragment) → Plan
    -- a run that a device cuts, by its pieces in order
    Pieces : (number : ℕ) → Plans → Plan
    -- a run that a mirror copies, by its legs in order
    Legs : (number : ℕ) → Plans → Plan

  pub data Plans : Type 0 where
    none : Plans
    also : Plan → Plans → Plans

unfoldable pub plans_of : {X : Type 0} → (X → Plan) → List X → Plans
plans_of f [] = none
plans_of f (x ∷ xs) = also (f x) (plans_of f xs)

-- how the run of len sectors from r on, which stands so far behind the write's first sector, is cut and copied down to the disks
unfoldable pub plan : Tree → ℕ → ℕ → ℕ → ℕ → Plan
plan (Leaf number sectors) write offset r len =
    OneFragment (record { write = write; offset = offset; len = len; disk = record { 0 = number }; at = r })
plan (Split number kind sizes members) write offset r len =
    Pieces number (plans_of (λ p. plan (members (slot kind sizes p.start).member) write p.offset (slot kind sizes p.start).at p.len) (cuts (piece_end kind sizes) offset r len))
plan (Mirrored number sizes members) write offset r len =
    Legs number (plans_of (λ k. plan (members k) write offset r len) (range_with_len 0 (length sizes)))

-- the fragments of a plan, in order, and the elements that it takes besides its run's own bio
unfoldable mutual
  pub leaves : Plan → List Fragment
  leaves (OneFragment fragment) = fragment ∷ []
  leaves (Pieces number plans) = all_leaves plans
  leaves (Legs number plans) = all_leaves plans

  pub all_leaves : Plans → List Fragment
  all_leaves none = []
  all_leaves (also p plans) = leaves p ++ all_leaves plans

unfoldable mutual
  pub takes : Plan → ℕ
  takes (OneFragment fragment) = 0
  takes (Pieces number plans) = all_takes plans + (count_of plans - 1)
  takes (Legs number plans) = 1 + count_of plans + all_takes plans

  pub all_takes : Plans → ℕ
  all_takes none = 0
  all_takes (also p plans) = takes p + all_takes plans

  pub count_of : Plans → ℕ
  count_of none = 0
  count_of (also p plans) = 1 + count_of plans
