-- Rounds of writes: how many of each are unfinished, and which may be begun.
use Rattle.std.specs.Prelude.{◌≡◌, ◌+◌, ◌*◌, ◌<◌, ℕ, List, [], ◌∷◌, slice_index_or, Option, None, Some}
use Rattle.bio_books.specs.declared.node.Role.{Role}
use Rattle.bio_books.specs.declared.node.Role.TheVariants as role
use Rattle.run_machine.specs.Scene.{Scene}
use Rattle.run_machine.specs.Tasks.{Todo, Gathered, NoBio, HasBio, HasBoth}
use Rattle.run_machine.specs.Runs.{State}
use Rattle.block_core.specs.Weights.{Weight, total_weight, one_if_same, no_weight}
pub use Rattle.layout_model.specs.Laid.{round_of}

-- 1 where a write is of this round
abbrev pub is_of_round : List ℕ → ℕ → ℕ → ℕ
is_of_round rounds round write = one_if_same (round_of rounds write) round

abbrev pub tops : Role → ℕ
tops role.Top = 1
tops (role.Chain parent) = 0
tops (role.Master parent) = 0
tops (role.Leg parent) = 0

abbrev pub tops_left : Option ℕ → ℕ
tops_left None = 1
tops_left (Some parent) = 0

-- what writes are worth that are to be begun, or whose top node is open or carried, where each is worth this by its number
abbrev pub by_stage : (List Todo → Gathered → ℕ) → (ℕ → ℕ) → Weight
by_stage to_come worth = record no_weight {
  todo = λ writer todos taken. to_come todos taken;
  node = λ writer place node. tops node.role * worth node.write;
  closed = λ task writer closed. tops_left closed.parent * worth closed.write;
}

-- all that a writer has still to begin
abbrev pub all_worth : (ℕ → ℕ) → List Todo → ℕ
all_worth worth [] = 0
all_worth worth (todo ∷ todos) = worth todo.number + all_worth worth todos

-- the one that it has taken something for
abbrev pub first_worth : (ℕ → ℕ) → List Todo → ℕ
first_worth worth [] = 0
first_worth worth (todo ∷ todos) = worth todo.number

abbrev pub gathered_worth : (ℕ → ℕ) → List Todo → Gathered → ℕ
gathered_worth worth todos NoBio = 0
gathered_worth worth todos (HasBio bio) = first_worth worth todos
gathered_worth worth todos (HasBoth bio vector) = first_worth worth todos

-- the unfinished writes, and those of them of which something is begun: an element is taken for the write, or its top node was opened
abbrev pub unfinished_of : (ℕ → ℕ) → Weight
unfinished_of worth = by_stage (λ todos taken. all_worth worth todos) worth

abbrev pub begun_of : (ℕ → ℕ) → Weight
begun_of worth = by_stage (gathered_worth worth) worth

pub record RoundsAreTallied (rounds : List ℕ) (scene : Scene) (state : State) : Type 0 where
  -- the tally has the number of unfinished writes of each round
  pub left : (round : ℕ) → slice_index_or state.objects.tally.left round 0 ≡ total_weight scene (unfinished_of (is_of_round rounds round)) state
  -- no write of an earlier round than the present one is unfinished
  pub past : (round : ℕ) → round < state.objects.tally.round → slice_index_or state.objects.tally.left round 0 ≡ 0
  -- and nothing is begun of a later one
  pub later : (round : ℕ) → state.objects.tally.round < round → total_weight scene (begun_of (is_of_round rounds round)) state ≡ 0
