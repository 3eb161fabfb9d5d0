-- Where the keeper may change a reserve no write is begun, so every element is at home.
use Rattle.std.proofs.Common.{◌≡◌, ◌*◌, ◌<◌, ◌⊎◌, ℕ, List, [], ◌∷◌, None, Some, inl, inr, refl, ◌∙◌, ap, subst, arith}
use Rattle.std.specs.Prelude.{sum, slice_index_or}
use Rattle.stack_base.specs.declared.ids.DevId.{DevId}
use Rattle.stack_base.specs.declared.ids.PoolId.{PoolId}
use Rattle.stack_base.proofs.NumberLemmas.{in_order}
use Rattle.bio_books.specs.Books.{Node, node_at, parent_of}
use Rattle.bio_books.specs.Drops.{Closed}
use Rattle.run_machine.specs.Scene.{Scene}
use Rattle.run_machine.specs.Submissions.{Submission}
use Rattle.run_machine.specs.Requests as requests
use Rattle.run_machine.specs.Tasks.{Writer, Completer, Keeper, Keeps, Resizes, Duty, Todo, Gathered, NoBio, HasBio, HasBoth, Carries}
use Rattle.run_machine.specs.Runs.{State, IsLet}
use Rattle.block_core.specs.Weights.{total_weight, one_if_same}
use Rattle.block_core.proofs.sound.OffLevels.{AreLeveled, off_levels, parent_off}
use Rattle.block_core.proofs.sound.EventStages.{top_worth, carried_worth}
use Rattle.block_core.specs.Rounds.{round_of, is_of_round, tops_left, unfinished_of, begun_of}
use Rattle.block_core.proofs.moves.Sums.{one-same}
use Rattle.block_core.proofs.sound.Invariant.{Invariant}
use Rattle.block_core.proofs.moves.Totals.{task_part}
use Rattle.block_core.proofs.sound.Rounds.{Tallied, TaskRounds}
use Rattle.block_core.proofs.stuck.Idle.{GoesDown, NoneBegun, node_part, all_home}
use Rattle.block_core.proofs.unrefused.NoneFails.{GoesOnCarrying}

-- levels go down from each node to those under it
module _ (scene : Scene) (s : State) (i : Invariant scene s) where
  pub goes_down : (level : ℕ → ℕ → ℕ) → total_weight scene (off_levels level) s ≡ 0 → GoesDown s level
  goes_down level on writer key node parent at is =
      let off : parent_off level writer key (parent_of node.role) ≡ parent_off level writer key (Some parent) = ap (parent_off level writer key) is in
      omega (arith, on, off, node_part scene s i (off_levels level) writer key node at)

module _ (rounds : List ℕ) (keeper : ℕ) (scene : Scene) (s : State) (i : Invariant scene s) (t : Tallied rounds keeper scene s)
    (on : (place : ℕ) → GoesOnCarrying (s.task place)) (past : slice_index_or s.objects.tally.left s.objects.tally.round 0 ≡ 0) where
  -- no write of the rounds up to the present one is unfinished, and nothing is begun of a later one
  abbrev IsOver : ℕ → Type 0
  IsOver round = (total_weight scene (unfinished_of (is_of_round rounds round)) s ≡ 0) ⊎ (total_weight scene (begun_of (is_of_round rounds round)) s ≡ 0)

  over : (round : ℕ) → IsOver round
  over round = elim (in_order round s.objects.tally.round) [
    | inl lt ↦ inl (omega (arith, t.left round, t.tally.past round lt))
    | inr (inl same) ↦ inl (let left = ap (λ r. slice_index_or s.objects.tally.left r 0) same in omega (arith, t.left round, left, past))
    | inr (inr gt) ↦ inr (t.later round gt)
  ]

  no_top : (writer key : ℕ) (node : Node) → writer < scene.books → node_at (s.objects.book writer) key ≡ Some node → parent_of node.role ≡ None → ⊥
  no_top writer key node some at is = elim (over r) [
    | inl none ↦ omega (arith, top_worth node.role is r, none, node_part scene s i (unfinished_of (is_of_round rounds r)) writer key node at)
    | inr none ↦ omega (arith, top_worth node.role is r, none, node_part scene s i (begun_of (is_of_round rounds r)) writer key node at)
  ]
    where
      r : ℕ
      r = round_of rounds node.write

  no_carried : (place : ℕ) (disk : DevId) (writer : ℕ) (closed : Closed) → place < scene.tasks → s.task place ≡ Completer disk (Carries writer closed) → closed.parent ≡ None → ⊥
  no_carried place disk writer closed here is top = elim (over r) [
    | inl none ↦ omega (arith, carried_worth closed.parent top r, none, task_part scene (unfinished_of (is_of_round rounds r)) s place (Completer disk (Carries writer closed)) here is)
    | inr none ↦ omega (arith, carried_worth closed.parent top r, none, task_part scene (begun_of (is_of_round rounds r)) s place (Completer disk (Carries writer closed)) here is)
  ]
    where
      r : ℕ
      r = round_of rounds closed.write

      worth : tops_left closed.parent * one_if_same r r ≡ 1
      worth = ap (λ parent. tops_left parent * one_if_same r r) top ∙ ap (λ n. 1 * n) (one-same r)

  -- what is in a hand is for the first of some writes
  no_hand : (place number : ℕ) (todos : List Todo) (taken : Gathered) (submission : Submission) → place < scene.tasks → s.task place ≡ Writer number todos taken submission → taken ≡ NoBio
  no_hand place number todos NoBio submission here is = refl
  no_hand place number [] (HasBio item) submission here is = absurd (subst GoesOnCarrying is (on place))
  no_hand place number [] (HasBoth item vector) submission here is = absurd (subst GoesOnCarrying is (on place))
  no_hand place number (todo ∷ later) (HasBio item) submission here is =
      let r = round_of rounds todo.number in
      absurd (elim (over r) [
        | inl none ↦ omega (arith, one-same r, none, task_part scene (unfinished_of (is_of_round rounds r)) s place (Writer number (todo ∷ later) (HasBio item) submission) here is)
        | inr none ↦ omega (arith, one-same r, none, task_part scene (begun_of (is_of_round rounds r)) s place (Writer number (todo ∷ later) (HasBio item) submission) here is)
      ])
  no_hand place number (todo ∷ later) (HasBoth item vector) submission here is =
      let r = round_of rounds todo.number in
      absurd (elim (over r) [
        | inl none ↦ omega (arith, one-same r, none, task_part scene (unfinished_of (is_of_round rounds r)) s place (Writer number (todo ∷ later) (HasBoth item vector) submission) here is)
        | inr none ↦ omega (arith, one-same r, none, task_part scene (begun_of (is_of_round rounds r)) s place (Writer number (todo ∷ later) (HasBoth item vector) submission) here is)
      ])

  none_begun : NoneBegun scene s
  none_begun = record { tops = no_top; carried = no_carried; hands = no_hand }

  pub home_between : AreLeveled scene s → (q : ℕ) → (s.objects.pool q).facts.out ≡ 0
  home_between levels q = all_home scene s i levels.0 (goes_down scene s i levels.0 levels.1) none_begun q

-- the keeper saw that all writes of the rounds so far are done
seen_left : (scene : Scene) (s : State) (pool : PoolId) (min later : ℕ) (duties : List Duty)
    → IsLet scene.ledger s.objects (Keeper (Keeps (Resizes pool min later ∷ duties))) (Some requests.LookLeft) → sum s.objects.tally.left ≡ later
seen_left scene s pool min later duties (requests.LeftOver count, served, lets_it) = let a = lets_it in let same = served.0 in search (a, same, arith)
seen_left scene s pool min later duties (_, served, lets_it) = absurd served

pub nothing_out : (rounds : List ℕ) (keeper : ℕ) (scene : Scene) (s : State) → Invariant scene s → Tallied rounds keeper scene s → ((place : ℕ) → GoesOnCarrying (s.task place))
    → AreLeveled scene s → (place : ℕ) (pool : PoolId) (min later : ℕ) (duties : List Duty) → s.task place ≡ Keeper (Keeps (Resizes pool min later ∷ duties))
    → IsLet scene.ledger s.objects (Keeper (Keeps (Resizes pool min later ∷ duties))) (Some requests.LookLeft) → (q : ℕ) → (s.objects.pool q).facts.out ≡ 0
nothing_out rounds keeper scene s i t on levels place pool min later duties is see q =
    let fit : TaskRounds rounds keeper s.objects.tally.round place (Keeper (Keeps (Resizes pool min later ∷ duties))) =
    subst (TaskRounds rounds keeper s.objects.tally.round place) is (t.tasks place) in
    home_between rounds keeper scene s i t on (omega (arith, t.tally.sums, fit.1.0, seen_left scene s pool min later duties see)) levels q
