-- Marks of nodes: how their runs may end, as numbers that are 1 where they may, so that sums over all places say what comes to which node.
use Rattle.std.specs.Prelude.{◌≡◌, ◌≢◌, ◌+◌, ◌-◌, ◌*◌, ◌≤◌, not, ℕ, Bool, true, false, Option, None, Some, slice_get, sum_by}
use Rattle.std.specs.List.{range_with_len}
use Rattle.std.proofs.Common.{refl, arith}
use Rattle.std.specs.Option.{option_map_or}
use Rattle.stack_base.specs.declared.ids.Status.{Status}
use Rattle.stack_base.specs.declared.ids.Status.TheVariants.{Ok, Io, Medium, NoSpace}
use Rattle.stack_base.specs.Fault.{status_eq}
use Rattle.stack_base.specs.Tree.{Tree, Leaf, Split, Mirrored, tree}
use Rattle.layout_model.specs.declared.fragment.Fragment.{Fragment}
use Rattle.layout_model.specs.declared.write.Write.{Write}
use Rattle.layout_model.specs.Plan.{Plan, plan}
use Rattle.layout_model.specs.May.{may_end, fault_of}
use Rattle.bio_records.specs.declared.bio.Bio.{Bio}
use Rattle.bio_books.specs.declared.node.Role.{Role}
use Rattle.bio_books.specs.declared.node.Role.TheVariants as role
use Rattle.bio_books.specs.Books.{Node, node_at, parent_of}
use Rattle.run_machine.specs.Scene.{Setup, Scene, tree_at}
use Rattle.run_machine.specs.Tasks.{Todo}
use Rattle.run_machine.specs.Opened.{Scenario}
use Rattle.run_machine.specs.Runs.{State}
use Rattle.block_core.specs.Touches.{is_master}
use Rattle.block_core.specs.Weights.{Weight, Spot, Lined, Rescued, Pending, Brought, total_weight, one_if_same, names_node, under, legs_left}
use Rattle.block_core.specs.Fragments.{offset_of, fragment_of}
use Rattle.block_core.proofs.moves.Sums.{apart, yes}

-- 1 where a status is this one
abbrev pub is : Status → Status → ℕ
is end other = yes (status_eq end other)

-- 1 where a plan may end so, if each fragment ends as `ends` says
abbrev pub may : (Fragment → Status) → Plan → Status → ℕ
may ends p end = yes (may_end ends p end)

-- 1 where the run of a bio may end so; that of one of the legs of a bio that a mirror copies; that of a write that is to begin; and that of the
-- write with this number
abbrev pub bio_may : Setup → (Fragment → Status) → Bio → Status → ℕ
bio_may setup ends bio end = may ends (plan (tree_at setup bio.dev) bio.write (offset_of bio) bio.range.start bio.range.len) end

abbrev pub leg_may : (Fragment → Status) → Tree → Bio → ℕ → Status → ℕ
leg_may ends (Leaf number sectors) bio leg end = 0
leg_may ends (Split number kind sizes members) bio leg end = 0
leg_may ends (Mirrored number sizes members) bio leg end = may ends (plan (members leg) bio.write (offset_of bio) bio.range.start bio.range.len) end

abbrev pub todo_may : Setup → (Fragment → Status) → Todo → Status → ℕ
todo_may setup ends todo end = may ends (plan (tree_at setup todo.write.dev) todo.number 0 todo.write.start todo.write.count) end

abbrev pub write_may : Scenario → ℕ → Status → ℕ
write_may s number end =
    option_map_or (λ (write : Write). may (fault_of s.stack) (plan (tree s.stack write.dev.0) number 0 write.start write.count) end) (slice_get s.writes number) 0

-- Of a node: whether it is a master, and how its whole run may end.
pub record Mark : Type 0 where
  pub master : Bool
  pub ends : Status → ℕ

pub record IsMark (mark : Mark) : Type 0 where
  -- a run that may end well can end with nothing else
  pub alone : (end : Status) → (end ≢ Ok) → mark.ends end + mark.ends Ok ≤ 1
  -- and that of a mirror ends well or with an error of no kind
  pub failed : mark.master ≡ true → 1 ≤ mark.ends Ok + mark.ends Io

-- Which ends a node may be told of, and keep: one that keeps its first failure none but those that its run may end with, and a master an end that
-- is well only where its run may end well.
abbrev pub allowed_by : Bool → (Status → ℕ) → Status → ℕ
allowed_by false ends Ok = 1
allowed_by false ends Io = ends Io
allowed_by false ends Medium = ends Medium
allowed_by false ends NoSpace = ends NoSpace
allowed_by true ends Ok = ends Ok
allowed_by true ends Io = 1
allowed_by true ends Medium = 1
allowed_by true ends NoSpace = 1

abbrev pub allowed : Mark → Status → ℕ
allowed mark end = allowed_by mark.master mark.ends end

-- What decides how a node ends: an end that is not well, and for a master one that is; by 1 where the end is well.
abbrev pub decides : Bool → ℕ → ℕ
decides false well = 1 - well
decides true well = well

-- 1 where the run of an open node is decided, and what the node keeps is not yet
abbrev pub lack : Mark → Option Node → ℕ
lack mark None = 0
lack mark (Some node) = decides mark.master (mark.ends Ok) - decides mark.master (is Ok node.status)

-- 1 where a node of a role is marked as another one
abbrev pub mismatch : Role → Bool → ℕ
mismatch role.Top master = yes master
mismatch (role.Chain parent) master = yes master
mismatch (role.Master parent) master = yes (not master)
mismatch (role.Leg parent) master = yes master

pub kind_is : (r : Role) (b : Bool) → mismatch r b ≡ 0 → is_master r ≡ b
kind_is role.Top true none = absurd (omega (arith, none))
kind_is role.Top false none = refl
kind_is (role.Chain parent) true none = absurd (omega (arith, none))
kind_is (role.Chain parent) false none = refl
kind_is (role.Master parent) true none = refl
kind_is (role.Master parent) false none = absurd (omega (arith, none))
kind_is (role.Leg parent) true none = absurd (omega (arith, none))
kind_is (role.Leg parent) false none = refl

-- 1 where a bio that waits at its disk, or that the disk is done with, may end otherwise than its fragment does
abbrev pub unlike : Setup → (Fragment → Status) → Status → Spot → Bio → ℕ
unlike setup ends end (Lined limit) bio = 0
unlike setup ends end Rescued bio = 0
unlike setup ends end Pending bio = apart (bio_may setup ends bio end) (is end (ends (fragment_of bio)))
unlike setup ends end Brought bio = apart (bio_may setup ends bio end) (is end (ends (fragment_of bio)))

-- 1 where an end may come that must not: to the node that another one is under, or to the write that a top node is of
abbrev pub above : (ℕ → Status → ℕ) → (ℕ → ℕ → Mark) → Status → ℕ → ℕ → ℕ → Option ℕ → ℕ
above written mark end may_come writer write None = may_come - written write end
above written mark end may_come writer write (Some parent) = may_come - allowed (mark writer parent) end

-- How often this end may come to a node that it must not come to: from the bio that names the node, from a leg that is to be made, from a node
-- that is under it and from what is left of that; and how often it was kept by one that must not keep it. Nodes are marked by their roles.
abbrev pub unallowed : Setup → (Fragment → Status) → (ℕ → Status → ℕ) → (ℕ → ℕ → Mark) → Status → Weight
unallowed setup ends written mark end = record {
  todo = λ writer todos taken. sum_by (λ todo. todo_may setup ends todo end - written todo.number end) todos;
  bio = λ spot item. (bio_may setup ends item.bio end - allowed (mark item.bio.writer item.bio.node) end) + unlike setup ends end spot item.bio;
  copy = λ bio master leg.
      sum_by (λ k. leg_may ends (tree_at setup bio.dev) bio k end - allowed (mark bio.writer master) end) (range_with_len leg (legs_left setup bio leg));
  hand = λ bio. 0;
  vector = λ vector. 0;
  slip = λ slip. 0;
  node = λ writer place node.
      mismatch node.role (mark writer place).master + (is end node.status - allowed (mark writer place) end)
      + above written mark end ((mark writer place).ends end) writer node.write (parent_of node.role);
  closed = λ task writer closed. above written mark end (is end closed.status) writer closed.write closed.parent;
}

-- How many ends still come to the node at place k of writer w's book that decide how it ends, if it is a master or is not.
abbrev pub deciding : Setup → (Fragment → Status) → (ℕ → ℕ → Mark) → Bool → ℕ → ℕ → Weight
deciding setup ends mark master w k = record {
  todo = λ writer todos taken. 0;
  bio = λ spot item. names_node w k item * decides master (bio_may setup ends item.bio Ok);
  copy = λ bio m leg.
      one_if_same bio.writer w * one_if_same m k * sum_by (λ j. decides master (leg_may ends (tree_at setup bio.dev) bio j Ok)) (range_with_len leg (legs_left setup bio leg));
  hand = λ bio. 0;
  vector = λ vector. 0;
  slip = λ slip. 0;
  node = λ writer place node. under w k writer (parent_of node.role) * decides master ((mark writer place).ends Ok);
  closed = λ task writer closed. under w k writer closed.parent * decides master (is Ok closed.status);
}

-- With these marks no end comes where it must not, and what a node lacks still comes. So a node closes with an end of its run.
pub record IsMarked (scene : Scene) (ends : Fragment → Status) (written : ℕ → Status → ℕ) (mark : ℕ → ℕ → Mark) (state : State) : Type 0 where
  pub fair : (w k : ℕ) → IsMark (mark w k)
  pub fits : (end : Status) → total_weight scene (unallowed scene.setup ends written mark end) state ≡ 0
  pub decided : (w k : ℕ) → lack (mark w k) (node_at (state.objects.book w) k) ≤ total_weight scene (deciding scene.setup ends mark (mark w k).master w k) state
