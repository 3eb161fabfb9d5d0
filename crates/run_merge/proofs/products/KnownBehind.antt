-- What is known of the tally and of the keeper behind the entries of a run.
use Rattle.std.proofs.Common.{◌≡◌, ◌≢◌, ◌+◌, ◌<◌, ◌≤◌, ◌⊎◌, ℕ, List, [], ◌∷◌, length, inl, inr, sym, ◌∙◌, ap, subst, arith}
use Rattle.std.specs.Prelude.{sum, slice_index_or}
use Rattle.std.specs.List.{list_any}
use Rattle.elem_ledger.specs.Ledger.{LedgerId}
use Rattle.run_machine.specs.Scene.{Scene}
use Rattle.run_machine.specs.Opened.{Scenario, scene, start, writes_from, setup_in}
use Rattle.run_machine.specs.Tasks.{Keeper, Keeps, Duty, Resizes, Starts, later_of}
use Rattle.run_machine.specs.Runs.{State}
use Rattle.block_core.specs.Rounds.{round_of, is_of_round}
use Rattle.block_core.specs.Scenarios.{IsScenario, IsNaming}
use Rattle.block_core.specs.Dones.{times_done}
use Rattle.block_core.specs.Weights.{total_weight, one_if_same}
use Rattle.block_core.proofs.sound.DoneOnce.{stage}
use Rattle.block_core.proofs.moves.Devices.{ground}
use Rattle.block_core.proofs.sound.Invariant.{LedgersAreNumbered}
use Rattle.block_core.proofs.sound.Orders.{DeviceGeometry}
use Rattle.block_core.proofs.sound.Rounds.{DutiesFit, TaskRounds, Tallied}
use Rattle.block_core.proofs.start.TallyAtStart.{keeper_place, start_tallied}
use Rattle.block_core.proofs.moves.Sums.{one-same, one-other, same_or_not, below_or}
use Rattle.block_core.proofs.sound.EveryRun.{IsReachedWhole, runs_whole, runs_done, runs_tallied, start_whole, stage_once}
use Rattle.run_merge.specs.Entries.{Entry}
use Rattle.run_merge.specs.Products.{AreDone, AreOfRun}
use Rattle.run_merge.proofs.products.WritesEnd.{ends, ended_is_told, told_is_ended}
use Rattle.run_merge.proofs.products.Stages.{some_at_start, none_at_start, stage_within, worth_nothing}

abbrev pub present_left : State → ℕ
present_left state = slice_index_or state.objects.tally.left state.objects.tally.round 0

-- what is known of rounds behind these entries, which lead to this state
pub record RoundsKnown (s : Scenario) (before : List Entry) (state : State) : Type 0 where
  -- what is unfinished is of the present round, or of a later one, of which all is
  pub sums : sum state.objects.tally.left ≡ present_left state + writes_from s (state.objects.tally.round + 1)
  -- what the keeper does next belongs to the round behind the present one
  pub duties : (place : ℕ) (duty : Duty) (duties : List Duty) → state.task place ≡ Keeper (Keeps (duty ∷ duties))
      → later_of duty ≡ writes_from s (state.objects.tally.round + 1)
  pub next : (place round later : ℕ) (duties : List Duty) → state.task place ≡ Keeper (Keeps (Starts round later ∷ duties))
      → round ≡ state.objects.tally.round + 1
  -- the writes of the rounds up to the present one are done exactly where none of the present one is unfinished
  pub home : AreDone s (state.objects.tally.round + 1) before → present_left state ≡ 0
  pub done : present_left state ≡ 0 → AreDone s (state.objects.tally.round + 1) before

module _ (s : Scenario) (ledger : ℕ → LedgerId) (good : IsScenario s) (naming : IsNaming ledger) where
  abbrev sc : Scene
  sc = scene s ledger

  numbered : LedgersAreNumbered sc
  numbered = record { named = naming }

  g : DeviceGeometry sc.setup
  g = ground s.stack good.stack (setup_in s).places

  pub rounds_known : (before : List Entry) (state : State) → AreOfRun s ledger before state → RoundsKnown s before state
  rounds_known before state (events, run, is) = record {
    sums = t.tally.sums;
    duties = λ place duty duties at. later_is duty duties (own place (duty ∷ duties) at);
    next = λ place round later duties at. (own place (Starts round later ∷ duties) at).0;
    home = home;
    done = done;
  }
    where
      begun : IsReachedWhole sc (start s)
      begun = start_whole s ledger good naming

      whole : IsReachedWhole sc state
      whole = runs_whole sc numbered g (start s) events state begun run

      t : Tallied s.rounds (keeper_place s good ledger) sc state
      t = runs_tallied sc numbered g s.rounds (keeper_place s good ledger) (start s) events state begun (start_tallied s good ledger) run

      now : ℕ
      now = state.objects.tally.round

      times : (w : ℕ) → times_done w events + total_weight sc (stage w) state ≡ total_weight sc (stage w) (start s)
      times w = runs_done sc numbered g w (start s) events state begun run

      own : (place : ℕ) (duties : List Duty) → state.task place ≡ Keeper (Keeps duties) → DutiesFit s.rounds now duties
      own place [] at = tt
      own place (duty ∷ duties) at = (subst (TaskRounds s.rounds (keeper_place s good ledger) now place) at (t.tasks place)).1

      later_is : (duty : Duty) (duties : List Duty) → DutiesFit s.rounds now (duty ∷ duties) → later_of duty ≡ writes_from s (now + 1)
      later_is (Resizes pool min later) duties fit = fit.0
      later_is (Starts round later) duties fit = fit.1

      home : AreDone s (now + 1) before → present_left state ≡ 0
      home h =
          let none_left = none (length s.writes) (omega arith) in
          omega (arith, t.left now, worth_nothing sc state whole.kept (is_of_round s.rounds now) (length s.writes) of_present, none_left)
        where
          none : (w : ℕ) → length s.writes ≤ w → total_weight sc (stage w) state ≡ 0
          none w ge = omega (arith, times w, none_at_start s good ledger w ge)

          of_present : (n : ℕ) → 1 ≤ is_of_round s.rounds now n → total_weight sc (stage n) state ≡ 0
          of_present n some = by_two (below_or n (length s.writes))
            where
              is_now : (round_of s.rounds n ≡ now) ⊎ (round_of s.rounds n ≢ now) → round_of s.rounds n ≡ now
              is_now (inl e) = e
              is_now (inr ne) = let z = one-other (round_of s.rounds n) now ne in absurd (omega (arith, z, some))

              by_two : (n < length s.writes) ⊎ (length s.writes ≤ n) → total_weight sc (stage n) state ≡ 0
              by_two (inl lt) =
                  let e = is_now (same_or_not (round_of s.rounds n) now) in
                  let any = h n lt (omega (arith, e)) in
                  let once = ended_is_told sc n (start s) events state run (ap (list_any (ends n)) is ∙ any) in
                  omega (arith, once, times n, stage_once s ledger good naming n)
              by_two (inr ge) = none n ge

      done : present_left state ≡ 0 → AreDone s (now + 1) before
      done none write lt few =
          let r = round_of s.rounds write in
          let z : slice_index_or state.objects.tally.left r 0 ≡ 0 = by_two (below_or r now) in
          let a = stage_within sc state whole.kept (is_of_round s.rounds r) write worth in
          let once : 1 ≤ times_done write events = omega (arith, z, a, t.left r, times write, some_at_start s good ledger write lt) in
          ap (list_any (ends write)) (sym is) ∙ told_is_ended sc write (start s) events state run once
        where
          by_two : (round_of s.rounds write < now) ⊎ (now ≤ round_of s.rounds write) → slice_index_or state.objects.tally.left (round_of s.rounds write) 0 ≡ 0
          by_two (inl early) = t.tally.past (round_of s.rounds write) early
          by_two (inr ge) = let e : round_of s.rounds write ≡ now = omega (arith, ge, few) in ap (λ r. slice_index_or state.objects.tally.left r 0) e ∙ none

          worth : (n : ℕ) → one_if_same n write ≤ is_of_round s.rounds (round_of s.rounds write) n
          worth n = by_same (same_or_not n write)
            where
              by_same : (n ≡ write) ⊎ (n ≢ write) → one_if_same n write ≤ is_of_round s.rounds (round_of s.rounds write) n
              by_same (inl e) =
                  let a : one_if_same n write ≡ 1 = ap (λ k. one_if_same k write) e ∙ one-same write in
                  let b : is_of_round s.rounds (round_of s.rounds write) n ≡ 1 = ap (λ k. one_if_same (round_of s.rounds k) (round_of s.rounds write)) e ∙ one-same (round_of s.rounds write) in
                  omega (arith, a, b)
              by_same (inr ne) = let z = one-other n write ne in omega (arith, z)
