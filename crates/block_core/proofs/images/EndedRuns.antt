-- Where a run has ended, each write was begun, so nothing is left to come.
use Rattle.std.proofs.Common.{◌≡◌, ◌<◌, ℕ, zero, suc, List, [], ◌∷◌, refl, sym, ◌∙◌, ap, arith}
use Rattle.std.specs.Prelude.{sum, slice_index_or}
use Rattle.std.proofs.lemmas.List.Sums.{sum_by-cons}
use Rattle.run_machine.specs.Scene.{Scene}
use Rattle.run_machine.specs.Tasks.{TaskState, Writer, Rescuer, Completer, Keeper}
use Rattle.run_machine.specs.Opened.{scene}
use Rattle.run_machine.specs.Runs.{State}
use Rattle.block_core.specs.Weights.{total_weight, task_weight}
use Rattle.block_core.specs.Rounds.{round_of, is_of_round, unfinished_of}
use Rattle.block_core.specs.Fragments.{HasBegunAll, AllIsHomeAndBegun, NothingComesWhereEnded}
use Rattle.block_core.proofs.moves.Sums.{one-same}
use Rattle.block_core.proofs.moves.Totals.{part_of}
use Rattle.block_core.proofs.sound.EveryRun.{run_tallied}
use Rattle.block_core.proofs.images.NothingComes.{nothing_comes_where_all_is_home}

pub zero_at : (xs : List ℕ) (r : ℕ) → sum xs ≡ 0 → slice_index_or xs r 0 ≡ 0
zero_at [] r none = refl
zero_at (x ∷ xs) zero none = let next = sum_by-cons (λ (n : ℕ). n) x xs in let here : x ≡ 0 = omega (arith, none, next) in here
zero_at (x ∷ xs) (suc r) none = let next = sum_by-cons (λ (n : ℕ). n) x xs in zero_at xs r (omega (arith, none, next))

begun : (scene : Scene) (s : State) (rounds : List ℕ) → ((r : ℕ) → total_weight scene (unfinished_of (is_of_round rounds r)) s ≡ 0)
    → (place : ℕ) (x : TaskState) → place < scene.tasks → s.task place ≡ x → HasBegunAll x
begun scene s rounds none place (Writer number [] taken submission) lt is = refl
begun scene s rounds none place (Writer number (todo ∷ later) taken submission) lt is =
    let r : ℕ = round_of rounds todo.number in
    let w = unfinished_of (is_of_round rounds r) in
    let a = part_of (task_weight w) scene.tasks s.task place lt in
    let b : task_weight w place (s.task place) ≡ task_weight w place (Writer number (todo ∷ later) taken submission) = ap (task_weight w place) is in
    absurd (omega (arith, a, b, none r, one-same r))
begun scene s rounds none place (Rescuer dev submission) lt is = tt
begun scene s rounds none place (Completer disk carried) lt is = tt
begun scene s rounds none place (Keeper keeping) lt is = tt

pub nothing_comes_where_ended : NothingComesWhereEnded
nothing_comes_where_ended s ledger events state good naming run ended =
    let tally = run_tallied s ledger good naming events state run in
    let none : (r : ℕ) → total_weight (scene s ledger) (unfinished_of (is_of_round s.rounds r)) state ≡ 0 = λ r. sym (tally.left r) ∙ zero_at state.objects.tally.left r ended.writes in
    let home : AllIsHomeAndBegun (scene s ledger) state = record { pools = ended.pools; tasks = λ place lt. begun (scene s ledger) state s.rounds none place (state.task place) lt refl } in
    (home, nothing_comes_where_all_is_home s ledger events state good naming run home)
