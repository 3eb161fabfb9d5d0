-- What nodes wait for, by their roles.
use Rattle.std.specs.Prelude.{◌≡◌, ◌+◌, ◌*◌, ◌<◌, ◌≤◌, if◌then◌else◌, ℕ, Bool, true, false, Option, None, Some}
use Rattle.stack_base.specs.declared.ids.DevId.{DevId}
use Rattle.bio_records.specs.declared.bio.Pad.{Pad}
use Rattle.bio_records.specs.Items.{Item}
use Rattle.bio_books.specs.declared.node.Role.{Role}
use Rattle.bio_books.specs.declared.node.Role.TheVariants as role
use Rattle.bio_books.specs.Books.{Node, node_at, parent_of}
use Rattle.bio_books.specs.Drops.{Closed}
use Rattle.run_machine.specs.Scene.{Setup, Scene}
use Rattle.run_machine.specs.Tasks.{Completer, Carries}
use Rattle.run_machine.specs.Runs.{State}
use Rattle.block_core.specs.EachBio.{EachBio, EachCopied}
use Rattle.block_core.specs.Touches.{is_master}
use Rattle.block_core.specs.Weights.{Weight, total_weight, one_if_same, names_node, under, legs_left, no_weight}

abbrev pub is_leg : Role → Bool
is_leg role.Top = false
is_leg (role.Chain parent) = false
is_leg (role.Master parent) = false
is_leg (role.Leg parent) = true

-- the bios that name the node at place k of writer w's book, in lists, with drivers, in rescue lists, in disks and in completers' hands
abbrev pub named : ℕ → ℕ → Weight
named w k = record no_weight { bio = λ spot. names_node w k }

-- The masters that stand for its own part, open ones and closed ones that are carried. What is left of a closed node does not tell whether it was
-- a master; the place of the task that carries it does, by the event that closed the node.
abbrev pub masters : (ℕ → Bool) → ℕ → ℕ → Weight
masters was_master w k = record no_weight {
  node = λ writer place node. if is_master node.role then under w k writer (parent_of node.role) else 0;
  closed = λ task writer closed. if was_master task then under w k writer closed.parent else 0;
}

-- its children, or its legs: the other nodes right under it, open ones and closed ones that are carried
abbrev pub children : (ℕ → Bool) → ℕ → ℕ → Weight
children was_master w k = record no_weight {
  node = λ writer place node. if is_master node.role then 0 else under w k writer (parent_of node.role);
  closed = λ task writer closed. if was_master task then 0 else under w k writer closed.parent;
}

-- the legs that are still to be made of it
abbrev pub legs_to_make : Setup → ℕ → ℕ → Weight
legs_to_make setup w k = record no_weight { copy = λ bio master leg. one_if_same bio.writer w * one_if_same master k * legs_left setup bio leg }

-- where a node's own part is, by what the node keeps: it is away, in the one bio that names the node, or it is in the node, while a master stands
-- for it, or has been dropped
abbrev pub IsInOnePlace : Option (Item Pad) → (bios masters : ℕ) → Type 0
IsInOnePlace None bios masters = (bios ≡ 1) × (masters ≡ 0)
IsInOnePlace (Some part) bios masters = (bios ≡ 0) × (masters ≤ 1)

-- how many ends a node waits for: a master for its legs, and any other node for its children, and for its own part while it is not dropped
abbrev pub WaitsForParts : (is_master : Bool) → Option (Item Pad) → (count bios masters children legs : ℕ) → Type 0
WaitsForParts true part count bios masters children legs = (bios ≡ 0) × (masters ≡ 0) × (count ≡ children + legs)
WaitsForParts false part count bios masters children legs = IsInOnePlace part bios masters × (legs ≡ 0) × (count ≡ children + bios + masters)

-- the node at this place is open, and is a master where what refers to it is a leg or is copied for legs, and none where it is not
abbrev pub IsUnderOpen : State → (writer parent : ℕ) → (leg : Bool) → Type 0
IsUnderOpen state writer parent leg = (above : Node) × (node_at (state.objects.book writer) parent ≡ Some above) × (is_master above.role ≡ leg)

-- where what is left of a node that a task carries was a master as this says, by the places of tasks
pub record HasRoles (scene : Scene) (was_master : ℕ → Bool) (state : State) : Type 0 where
  -- each open node waits for just its parts, and its own part is in one place or was dropped
  pub waits : (writer place : ℕ) (node : Node) → node_at (state.objects.book writer) place ≡ Some node
      → WaitsForParts (is_master node.role) node.held.bio node.count (total_weight scene (named writer place) state) (total_weight scene (masters was_master writer place) state)
      (total_weight scene (children was_master writer place) state) (total_weight scene (legs_to_make scene.setup writer place) state)
  -- Nothing refers to a place at which no node is open: each bio at work names an open node that is no master, and the node under which a mirror
  -- copies a bio is an open master;
  pub bios : EachBio (λ item. IsUnderOpen state item.bio.writer item.bio.node false) scene state
  pub copied : EachCopied (λ bio master. IsUnderOpen state bio.writer master true) scene state
  -- children and masters are under open nodes that are no masters, and legs under open masters
  pub parents : (writer place : ℕ) (node : Node) (parent : ℕ) → node_at (state.objects.book writer) place ≡ Some node → parent_of node.role ≡ Some parent
      → IsUnderOpen state writer parent (is_leg node.role)
  -- the parent of a closed node that is carried is open, and no master where the closed one was a master
  pub carried : (place : ℕ) (disk : DevId) (writer : ℕ) (closed : Closed) (parent : ℕ) → place < scene.tasks → state.task place ≡ Completer disk (Carries writer closed)
      → closed.parent ≡ Some parent
      → (above : Node) × (node_at (state.objects.book writer) parent ≡ Some above) × (was_master place ≡ true → is_master above.role ≡ false)
