-- How far all is off the levels of nodes, as a sum over all places.
use Rattle.std.specs.Prelude.{◌≡◌, ◌+◌, ◌-◌, ◌*◌, min, ℕ, Option, None, Some}
use Rattle.bio_records.specs.declared.bio.Pad.{Pad}
use Rattle.bio_records.specs.Items.{Item}
use Rattle.bio_books.specs.Books.{VectorItem, SlipItem, Holding, parent_of}
use Rattle.bio_books.specs.Drops.{Closed}
use Rattle.run_machine.specs.Scene.{Scene}
use Rattle.run_machine.specs.Runs.{State}
use Rattle.block_core.specs.Weights.{Weight, total_weight, weigh_option, no_weight}
use Rattle.block_core.proofs.moves.Sums.{apart}

-- a bio that names a node is of the pool of the node's level; the two pools of writes are one level, 64
abbrev pub bio_off : (ℕ → ℕ → ℕ) → Item Pad → ℕ
bio_off level item = apart (level item.bio.writer item.bio.node) (min item.share.no 64)

-- a node is below the one that it is under
abbrev pub parent_off : (ℕ → ℕ → ℕ) → ℕ → ℕ → Option ℕ → ℕ
parent_off level writer place None = 0
parent_off level writer place (Some parent) = (level writer place + 1) - level writer parent

-- what it holds is of pools of its level
abbrev pub held_off : ℕ → Holding → ℕ
held_off level held =
    weigh_option (λ (bio : Item Pad). apart level (min bio.share.no 64)) held.bio
    + weigh_option (λ (vector : VectorItem). apart level (min vector.share.no 64)) held.vector
    + weigh_option (λ (slip : SlipItem). apart level (min slip.share.no 64)) held.slip

-- the level of what is held: that of the first that is there
abbrev pub first_level : Option (Item Pad) → Option VectorItem → Option SlipItem → ℕ
first_level (Some bio) vector slip = min bio.share.no 64
first_level None (Some vector) slip = min vector.share.no 64
first_level None None slip = weigh_option (λ (slip : SlipItem). min slip.share.no 64) slip

abbrev pub held_level : Holding → ℕ
held_level held = first_level held.bio held.vector held.slip

-- what is left of a closed node is of one level, below that of the node that it was under
abbrev pub below_off : (ℕ → ℕ) → ℕ → Option ℕ → ℕ
below_off level own None = 0
below_off level own (Some parent) = (own + 1) - level parent

abbrev pub closed_off : (ℕ → ℕ) → Closed → ℕ
closed_off level closed = held_off (held_level closed.held) closed.held + below_off level (held_level closed.held) closed.parent

-- how far all is off these levels; a master is on the level of its mirror's records
abbrev pub off_levels : (ℕ → ℕ → ℕ) → Weight
off_levels level = record no_weight {
  bio = λ spot. bio_off level;
  copy = λ bio master leg. apart (level bio.writer master) (2 * bio.dev.0 + 1);
  node = λ writer place node. parent_off level writer place (parent_of node.role) + held_off (level writer place) node.held;
  closed = λ task writer closed. closed_off (level writer) closed;
}

-- there are levels on which all is
abbrev pub AreLeveled : Scene → State → Type 0
AreLeveled scene state = (level : ℕ → ℕ → ℕ) × (total_weight scene (off_levels level) state ≡ 0)
