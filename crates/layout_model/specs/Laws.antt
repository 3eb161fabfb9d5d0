-- The laws of the plan: how it is made step by step, and what it has to do with the layout and with what a run needs. With them, that
-- the fragments of a run leave no sector out, and that the laws hold over every stack.
use Rattle.std.specs.Prelude.{◌≡◌, ◌↔◌, ◌+◌, ◌-◌, ◌<◌, ℕ, List, [], ◌∷◌, ◌++◌, length, map, Contains, IsTrue}
use Rattle.std.specs.List.{range_with_len, AllPairs}
use Rattle.stack_base.specs.declared.stack.Kind.{Kind}
use Rattle.stack_base.specs.declared.stack.Stack.{Stack}
use Rattle.stack_base.specs.declared.mapping.Piece.{Piece}
use Rattle.stack_base.specs.declared.ids.Status.{Status}
use Rattle.stack_base.specs.declared.ids.Status.TheVariants as status
use Rattle.stack_base.specs.Piece.{IsPiece}
use Rattle.stack_base.specs.Tree.{Tree, Leaf, Split, Mirrored, tree}
use Rattle.stack_base.specs.Stack.{IsStack}
use Rattle.layout_model.specs.declared.fragment.Fragment.{Fragment}
use Rattle.layout_model.specs.Way.{FitsWay, place, Step, way, heads}
use Rattle.layout_model.specs.Fragments.{IsFragmentOf, IsIn, AreOther}
use Rattle.layout_model.specs.Need.{needed, fragments_in_run}
use Rattle.layout_model.specs.Plan.{Plan, Plans, OneFragment, Pieces, Legs, none, also, plans_of, plan, frags, leaves, takes}
use Rattle.layout_model.specs.Sound.{Sound}
use Rattle.layout_model.specs.May.{may_end}

-- A piece of n sectors, cut off a run: its plan in its member stands before the plans of the rest. If there is a rest, these are the plan
-- of the rest as a run of its own, and if not, there are none.
pub record IsCutOff (number : ℕ) (kind : Kind) (sizes : List ℕ) (members : ℕ → Tree) (write offset start len : ℕ) (member at n : ℕ) : Type 0 where
  pub rest : Plans
  pub whole : plan (Split number kind sizes members) write offset start len ≡ Pieces number (also (plan (members member) write offset at n) rest)
  pub goes_on : n < len → plan (Split number kind sizes members) write (offset + n) (start + n) (len - n) ≡ Pieces number rest
  pub ends : n ≡ len → rest ≡ none

-- the plan of a run at a device that cuts, by the run's first piece
abbrev pub PlanOfPieces : Type 0
PlanOfPieces = (number : ℕ) (kind : Kind) (sizes : List ℕ) (members : ℕ → Tree) (write offset start len : ℕ) (piece : Piece)
    → Sound (Split number kind sizes members) → IsPiece kind sizes start len piece
    → IsCutOff number kind sizes members write offset start len piece.member piece.at piece.len

-- at a mirror, the same run for each member, in their order
abbrev pub PlanOfLegs : Type 0
PlanOfLegs = (number : ℕ) (sizes : List ℕ) (members : ℕ → Tree) (write offset start len : ℕ)
    → plan (Mirrored number sizes members) write offset start len
    ≡ Legs number (plans_of (λ k. plan (members k) write offset start len) (range_with_len 0 (length sizes)))

-- at a disk, one fragment
abbrev pub PlanOfDisk : Type 0
PlanOfDisk = (number sectors write offset start len : ℕ)
    → plan (Leaf number sectors) write offset start len
    ≡ OneFragment (record { write = write; offset = offset; len = len; disk = record { 0 = number }; at = start })

-- the plan's fragments are those of the run
abbrev pub PlanGivesFragments : Type 0
PlanGivesFragments = (t : Tree) (write offset start len : ℕ) → Sound t → 0 < len → (f : Fragment)
    → Contains (leaves (plan t write offset start len)) f ↔ IsFragmentOf t write offset start len f

-- and they stand in the order in which the run is cut
abbrev pub PlanKeepsOrder : Type 0
PlanKeepsOrder = (t : Tree) (write offset start len : ℕ) → leaves (plan t write offset start len) ≡ frags t write offset start len

-- the plan takes the elements that the run needs
abbrev pub PlanTakesNeeded : Type 0
PlanTakesNeeded = (t : Tree) (write offset start len : ℕ) → Sound t → 0 < len → takes (plan t write offset start len) ≡ needed t start len

-- the plan has as many fragments as the layout counts
abbrev pub FragmentsAreCounted : Type 0
FragmentsAreCounted = (t : Tree) (write offset start len : ℕ) → Sound t → 0 < len
    → fragments_in_run t start len ≡ length (leaves (plan t write offset start len))

-- over a stack, the tree of each device is sound
abbrev pub TreesAreSound : Type 0
TreesAreSound = (stack : Stack) (number : ℕ) → IsStack stack → number < length stack.devices.items → Sound (tree stack number)

-- over a stack, no two fragments of a plan begin at one sector of the write and lie on one disk
abbrev pub PlanFragmentsDiffer : Type 0
PlanFragmentsDiffer = (stack : Stack) (number write offset start len : ℕ) → IsStack stack → number < length stack.devices.items → 0 < len
    → AllPairs AreOther (leaves (plan (tree stack number) write offset start len))

-- each sector of a run is in a fragment of the run, by whatever choices lead it
abbrev pub FragmentsCover : Type 0
FragmentsCover = (t : Tree) (write offset r len j : ℕ) (choices : List ℕ) → Sound t → j < len → FitsWay t (r + j) choices
    → (f : Fragment) × IsIn t write offset r len choices j f

-- the sectors of a fragment follow one another on its disk
abbrev pub FragmentsFollow : Type 0
FragmentsFollow = (t : Tree) (write offset r len : ℕ) (f : Fragment) → Sound t → (is : IsFragmentOf t write offset r len f)
    → (j : ℕ) → j < f.len → place t (r + (is.from + j)) is.choices ≡ record { disk = f.disk.0; at = f.at + j }

-- a way's heads are those of its steps, and it ends at its sector's place
pub record IsWayTold (t : Tree) (r s : ℕ) (choices : List ℕ) : Type 0 where
  pub at_steps : heads t r s choices ≡ map (λ (step : Step). step.head) (way t r s choices)
  -- the last step, and those before it
  pub before : List Step
  pub end : Step
  pub whole : way t r s choices ≡ before ++ (end ∷ [])
  pub there : place t s choices ≡ record { disk = end.device; at = end.sector }

abbrev pub WaysAreTold : Type 0
WaysAreTold = (t : Tree) (r s : ℕ) (choices : List ℕ) → IsWayTold t r s choices

-- a plan that may end well can end with nothing else
abbrev pub OkIsAlone : Type 0
OkIsAlone = (ends : Fragment → Status) (p : Plan) (end : Status) → IsTrue (may_end ends p status.Ok) → IsTrue (may_end ends p end) → end ≡ status.Ok

-- a plan may end somehow
abbrev pub SomeEndIsOpen : Type 0
SomeEndIsOpen = (ends : Fragment → Status) (p : Plan) → (end : Status) × IsTrue (may_end ends p end)

-- at a disk, a run ends as its fragment does
abbrev pub EndsOfDisk : Type 0
EndsOfDisk = (ends : Fragment → Status) (f : Fragment) (end : Status) → IsTrue (may_end ends (OneFragment f) end) ↔ (end ≡ ends f)
