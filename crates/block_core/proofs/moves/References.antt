-- The references to a node, and the ends that it waits for.
use Rattle.std.specs.Prelude.{◌*◌, ℕ, Option, None, Some}
use Rattle.bio_books.specs.Books.{Node, parent_of}
use Rattle.run_machine.specs.Scene.{Setup}
use Rattle.block_core.specs.Weights.{Weight, one_if_same, names_node, under, legs_left, no_weight}

-- the references to the node at place k of writer w's book: bios that name it, nodes right under it, and the legs that are still to be made
-- where it is a master
abbrev pub references : Setup → ℕ → ℕ → Weight
references setup w k = record no_weight {
  bio = λ spot. names_node w k;
  copy = λ bio master leg. one_if_same bio.writer w * one_if_same master k * legs_left setup bio leg;
  node = λ writer place node. under w k writer (parent_of node.role);
  closed = λ task writer closed. under w k writer closed.parent;
}

-- the ends that a node waits for; where no node is open there are none
abbrev pub awaited_ends : Option Node → ℕ
awaited_ends None = 0
awaited_ends (Some node) = node.count
