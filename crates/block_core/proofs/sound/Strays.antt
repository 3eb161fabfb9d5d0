-- How far all is off the writes of the places of books, as a sum over all places.
use Rattle.std.specs.Prelude.{◌≡◌, ◌+◌, ℕ, Option, None, Some}
use Rattle.bio_records.specs.declared.bio.Pad.{Pad}
use Rattle.bio_records.specs.Items.{Item}
use Rattle.bio_books.specs.Books.{parent_of}
use Rattle.run_machine.specs.Scene.{Scene}
use Rattle.run_machine.specs.Runs.{State}
use Rattle.block_core.specs.Weights.{Weight, total_weight, no_weight}
use Rattle.block_core.proofs.moves.Sums.{apart}

-- a bio that names a node is of the node's write
abbrev pub bio_strays : (ℕ → ℕ → ℕ) → Item Pad → ℕ
bio_strays write_of item = apart (write_of item.bio.writer item.bio.node) item.bio.write

-- what is under a node is of its write
abbrev pub parent_strays : (ℕ → ℕ → ℕ) → ℕ → Option ℕ → ℕ → ℕ
parent_strays write_of writer None write = 0
parent_strays write_of writer (Some parent) write = apart (write_of writer parent) write

-- how far all is off these writes: a bio that names a node is of the node's write, so is one that a master's mirror copies, and so are a node
-- under another one and what is left of it when it has closed
abbrev pub strays : (ℕ → ℕ → ℕ) → Weight
strays write_of = record no_weight {
  bio = λ spot. bio_strays write_of;
  copy = λ bio master leg. apart (write_of bio.writer master) bio.write;
  node = λ writer place node. apart (write_of writer place) node.write + parent_strays write_of writer (parent_of node.role) node.write;
  closed = λ task writer closed. parent_strays write_of writer closed.parent closed.write;
}

-- there are writes of which all is
abbrev pub NoneStrays : Scene → State → Type 0
NoneStrays scene state = (write_of : ℕ → ℕ → ℕ) × (total_weight scene (strays write_of) state ≡ 0)
