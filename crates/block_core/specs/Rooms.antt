-- That the books of writers always have room: how many nodes are still to be opened.
use Rattle.std.specs.Prelude.{◌≡◌, ◌+◌, ◌*◌, ◌≤◌, ℕ, length, sum_by}
use Rattle.std.specs.List.{range_with_len}
use Rattle.stack_base.specs.declared.ids.Range.{Range}
use Rattle.stack_base.specs.Tree.{Tree, Leaf, Split, Mirrored}
use Rattle.layout_model.specs.Need.{needed}
use Rattle.bio_records.specs.declared.bio.Bio.{Bio}
use Rattle.run_machine.specs.Scene.{Setup, Scene, tree_at}
use Rattle.run_machine.specs.Tasks.{Todo}
use Rattle.run_machine.specs.Opened.{scene}
use Rattle.run_machine.specs.Runs.{State}
use Rattle.block_core.specs.Weights.{Weight, Spot, Lined, Rescued, Pending, Brought, total_weight, one_if_same, legs_left, no_weight}
use Rattle.block_core.specs.Scenarios.{InEveryRun}

-- the nodes that a bio at its device still needs
abbrev pub need_at : Setup → Bio → ℕ
need_at setup bio = needed (tree_at setup bio.dev) bio.range.start bio.range.len

-- a bio that is at a disk, or that its disk is done with, needs no more
abbrev pub to_open : Setup → Spot → Bio → ℕ
to_open setup (Lined limit) bio = need_at setup bio
to_open setup Rescued bio = need_at setup bio
to_open setup Pending bio = 0
to_open setup Brought bio = 0

-- a leg of a run at a mirror that is still to be made needs its own node, and what its run needs
abbrev pub leg_need : Tree → Range → ℕ → ℕ
leg_need (Leaf number sectors) range leg = 0
leg_need (Split number kind sizes members) range leg = 0
leg_need (Mirrored number sizes members) range leg = 1 + needed (members leg) range.start range.len

abbrev pub legs_need : Setup → Bio → ℕ → ℕ
legs_need setup bio leg = sum_by (leg_need (tree_at setup bio.dev) bio.range) (range_with_len leg (legs_left setup bio leg))

-- a write that is still to begin needs its top node, and what its run needs
abbrev pub todo_need : Setup → Todo → ℕ
todo_need setup todo = 1 + needed (tree_at setup todo.write.dev) todo.write.start todo.write.count

-- the nodes that are open in the book of writer w, and those that its writes have still to open there
abbrev pub room : Setup → ℕ → Weight
room setup w = record no_weight {
  todo = λ writer todos taken. one_if_same writer w * sum_by (todo_need setup) todos;
  bio = λ spot item. one_if_same item.bio.writer w * to_open setup spot item.bio;
  copy = λ bio master leg. one_if_same bio.writer w * legs_need setup bio leg;
  node = λ writer place node. one_if_same writer w;
}

pub record HasRoomInBooks (scene : Scene) (state : State) : Type 0 where
  -- a book has the places that it was made with
  pub places : (writer : ℕ) → length (state.objects.book writer).nodes ≡ scene.setup.places writer
  -- all that its writer's writes have open and have still to open find a place there
  pub room : (writer : ℕ) → total_weight scene (room scene.setup writer) state ≤ scene.setup.places writer

-- after every event of every run of every scenario
abbrev pub BooksHaveRoom : Type 0
BooksHaveRoom = InEveryRun (λ s ledger events state. HasRoomInBooks (scene s ledger) state)
