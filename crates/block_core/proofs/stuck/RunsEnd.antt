-- A run whose writes are done has ended, and the keeper starts no round that is not there.
use Rattle.std.proofs.Common.{◌+◌, ◌<◌, ℕ, List, ◌∷◌, length, subst, arith}
use Rattle.run_machine.specs.declared.event.TaskId.{TaskId}
use Rattle.run_machine.specs.Opened.{scene, start, setup_in}
use Rattle.run_machine.specs.Runs.{State}
use Rattle.run_machine.specs.Scene.{Scene}
use Rattle.run_machine.specs.Tasks.{Keeper, Keeps, Starts, Duty}
use Rattle.block_core.specs.Ending.{RunsEndWithTheirWrites, StartedRoundsAreThere}
use Rattle.block_core.proofs.images.EndedRuns.{zero_at}
use Rattle.block_core.proofs.moves.Devices.{ground}
use Rattle.block_core.proofs.unrefused.NoneFails.{runs_on, begins_on}
use Rattle.block_core.proofs.sound.Invariant.{LedgersAreNumbered}
use Rattle.block_core.proofs.start.InvariantAtStart.{start_opened}
use Rattle.block_core.proofs.sound.TaskPosts.{AtPost, Posted}
use Rattle.block_core.proofs.start.PostsAtStart.{ids_of, start_posted}
use Rattle.block_core.proofs.unrefused.Resizes.{home_between}
use Rattle.block_core.proofs.sound.Rounds.{Tallied, TaskRounds}
use Rattle.block_core.proofs.start.TallyAtStart.{keeper_place, start_tallied}
use Rattle.block_core.proofs.sound.EveryRun.{runs_leveled, runs_posted, runs_tallied, runs_whole, start_leveled, start_whole}

pub runs_end_with_their_writes : RunsEndWithTheirWrites
runs_end_with_their_writes s ledger events state good naming run none =
    let sc = scene s ledger in
    let numbered : LedgersAreNumbered sc = record { named = naming } in
    let g = ground s.stack good.stack (setup_in s).places in
    let begun = start_whole s ledger good naming in
    let keeper = keeper_place s good ledger in
    let o = start_opened s good ledger in
    let i = runs_whole sc numbered g (start s) events state begun run in
    let t = runs_tallied sc numbered g s.rounds keeper (start s) events state begun (start_tallied s good ledger) run in
    let on = runs_on sc numbered g (start s) events state begun (λ place. begins_on sc ((start s).task place) (o.tasks place)) run in
    let l = runs_leveled sc numbered g (start s) events state begun (start_leveled s ledger good naming) run in
    record { writes = none; pools = home_between s.rounds keeper sc state i.kept t on (zero_at state.objects.tally.left state.objects.tally.round none) l }

-- what the keeper keeps are the rounds that are left
round_ahead : (rounds : List ℕ) (ids : ℕ → TaskId) (keeper : ℕ) (scene : Scene) (s : State) → Tallied rounds keeper scene s → Posted ids keeper scene s
    → (place round later : ℕ) (duties : List Duty) → TaskRounds rounds keeper s.objects.tally.round place (Keeper (Keeps (Starts round later ∷ duties)))
    → AtPost ids keeper scene s.objects.tally place (Keeper (Keeps (Starts round later ∷ duties))) → s.objects.tally.round + 1 < length s.objects.tally.left
round_ahead rounds ids keeper scene s t p place round later duties fits post = let left = post.1.1 fits.0 in omega (arith, left)

pub started_rounds_are_there : StartedRoundsAreThere
started_rounds_are_there s ledger events state good reserves ordered naming run place round later duties is =
    let sc = scene s ledger in
    let numbered : LedgersAreNumbered sc = record { named = naming } in
    let g = ground s.stack good.stack (setup_in s).places in
    let begun = start_whole s ledger good naming in
    let keeper = keeper_place s good ledger in
    let ids = ids_of s good ledger reserves ordered in
    let t0 = start_tallied s good ledger in
    let t = runs_tallied sc numbered g s.rounds keeper (start s) events state begun t0 run in
    let p = runs_posted sc numbered g s.rounds ids keeper (start s) events state begun t0 (start_posted s good ledger reserves ordered) run in
    round_ahead s.rounds ids keeper sc state t p place round later duties (subst (TaskRounds s.rounds keeper state.objects.tally.round place) is (t.tasks place))
    (subst (AtPost ids keeper sc state.objects.tally place) is (p.tasks place))
