-- Each write is unfinished until it is told done, in its round and with the status that the tally has then; and rounds start in turn.
use Rattle.std.proofs.Common.{◌≡◌, ◌≢◌, ◌+◌, ◌*◌, ◌<◌, ◌≤◌, ◌⊎◌, ℕ, zero, suc, List, [], ◌∷◌, length, Some, inl, inr, refl, sym, ◌∙◌, ap, subst, arith, get_or}
use Rattle.std.specs.Prelude.{Contains, slice_set, zip, map}
use Rattle.std.specs.List.{range_with_len}
use Rattle.std.proofs.lemmas.List.{get_or-set_same, get_or-set_other, length-set}
use Rattle.std.proofs.lemmas.List.Elements.{Contains-append_cases}
use Rattle.std.proofs.lemmas.Option.{slice_get-get_or}
use Rattle.elem_ledger.specs.Ledger.{LedgerId}
use Rattle.stack_base.specs.declared.ids.Status.{Status}
use Rattle.stack_base.specs.declared.ids.Status.TheVariants.{Ok}
use Rattle.layout_model.specs.declared.write.Write.{Write}
use Rattle.run_machine.specs.declared.event.Event.{Event}
use Rattle.run_machine.specs.declared.event.What.{What}
use Rattle.run_machine.specs.declared.event.What.TheVariants as what
use Rattle.run_machine.specs.Events.{what_of}
use Rattle.run_machine.specs.Objects.{TallyState, Serves}
use Rattle.run_machine.specs.Requests as requests
use Rattle.run_machine.specs.Requests.{Request, Reply}
use Rattle.run_machine.specs.Scene.{Scene}
use Rattle.run_machine.specs.Tasks.{Todo, request, Keeps, Starts}
use Rattle.run_machine.specs.Opened.{Scenario, scene, start, setup_in, todos}
use Rattle.run_machine.specs.Runs.{State, Steps, Happens, IsRun}
use Rattle.block_core.specs.Weights.{total_weight, one_if_same, no_weight}
use Rattle.block_core.specs.Scenarios.{IsScenario, IsNaming}
use Rattle.block_core.specs.Dones.{done_in, times_done}
use Rattle.block_core.specs.Rounds.{round_of, is_of_round, tops, tops_left, all_worth, unfinished_of}
use Rattle.block_core.specs.Dones.{unfinished_write, WritesAreUnfinishedUntilDone, TallyHasStatuses, NoneIsLeftUndone, WritesAreDoneInTheirRound, RoundsStartInTurn}
use Rattle.block_core.proofs.moves.Sums.{same_or_not, one-same, one-other, below_or}
use Rattle.block_core.proofs.moves.Moves.{Move, Can, after, place_of}
use Rattle.block_core.proofs.moves.Moves as moves
use Rattle.block_core.proofs.sound.Invariant.{LedgersAreNumbered}
use Rattle.block_core.proofs.moves.Devices.{ground}
use Rattle.block_core.proofs.stuck.NothingWaits.{one-eq}
use Rattle.block_core.proofs.sound.DoneOnce.{stage, to_begin, asked, asked_by, done_by}
use Rattle.block_core.proofs.sound.EveryRun.{IsReachedWhole, runs_whole, runs_done, runs_tallied, run_tallied, start_whole, stage_once}
use Rattle.block_core.proofs.moves.StepMoves.{step_is_move}
use Rattle.block_core.proofs.sound.Rounds.{Tallied, TaskRounds, KeepingFits, of_present}
use Rattle.block_core.proofs.start.TallyAtStart.{keeper_place, start_tallied, unfinished_at_start}
use Rattle.block_core.proofs.status.Statuses.{start_told, start_staged, stage_within}
use Rattle.block_core.proofs.moves.Totals.{within}
use Rattle.block_core.proofs.images.EndedRuns.{zero_at}
use Rattle.block_core.proofs.sound.DoneAndRoundEvents.{IsOther, EventSays, says, asks_done, asks_round, tally_stays, done_tally, round_tally}

-- the weight of a write in stage
begins_worth : (w : ℕ) (ts : List Todo) → to_begin w ts ≡ all_worth (λ n. one_if_same n w) ts
begins_worth w [] = refl
begins_worth w (todo ∷ ts) = ap (λ n. one_if_same todo.number w + n) (begins_worth w ts)

pub stage_is : (w : ℕ) → stage w ≡ unfinished_write w
stage_is w = λ i. record no_weight {
  todo = λ writer todos taken. begins_worth w todos i;
  node = λ writer place node. tops node.role * one_if_same node.write w;
  closed = λ task writer closed. tops_left closed.parent * one_if_same closed.write w;
}

module _ (s : Scenario) (ledger : ℕ → LedgerId) (good : IsScenario s) (naming : IsNaming ledger) where
  numbered : LedgersAreNumbered (scene s ledger)
  numbered = record { named = naming }

  runs_to_done : (events : List Event) (state : State) → IsRun (scene s ledger) (start s) events state → (w : ℕ)
      → times_done w events + total_weight (scene s ledger) (stage w) state ≡ total_weight (scene s ledger) (stage w) (start s)
  runs_to_done events state run w = runs_done (scene s ledger) numbered (ground s.stack good.stack (setup_in s).places) w (start s) events state (start_whole s ledger good naming) run

pub unfinished_until_done : WritesAreUnfinishedUntilDone
unfinished_until_done s ledger events state good naming run w lt =
    omega (
      arith,
      runs_to_done s ledger good naming events state run w,
      stage_once s ledger good naming w,
      start_staged s good ledger w lt,
      ap (λ u. total_weight (scene s ledger) u state) (stage_is w),
    )

pub none_left_undone : NoneIsLeftUndone
none_left_undone s ledger events state good naming run none w lt =
    let r : ℕ = round_of s.rounds w in
    let u = unfinished_of (is_of_round s.rounds r) in
    let tally = run_tallied s ledger good naming events state run in
    let nothing : total_weight (scene s ledger) u state ≡ 0 = sym (tally.left r) ∙ zero_at state.objects.tally.left r none in
    omega (
      arith,
      nothing,
      within (stage w) u u u (stage_within s.rounds w) (scene s ledger) state,
      runs_to_done s ledger good naming events state run w,
      stage_once s ledger good naming w,
      start_staged s good ledger w lt,
    )

-- what an event makes of the status of a write
module _ (scene : Scene) (old new : State) (place : ℕ) (event : Event) (steps : Steps scene old place event new) where
  abbrev asks : Request
  asks = request scene.setup (old.task place)

  said : EventSays asks event.what
  said = says (request scene.setup (old.task place)) steps.reply event.what steps.told

  served : Serves scene.ledger old.objects asks steps.reply new.objects
  served = steps.serves

  stays : IsOther event.what → new.objects.tally ≡ old.objects.tally
  stays other = tally_stays scene.ledger old.objects new.objects asks steps.reply event.what said other served

  pub done_is : (write : ℕ) (status : Status) → event.what ≡ what.Done write status → new.objects.tally.statuses ≡ slice_set old.objects.tally.statuses write status
  done_is write status is =
      let same = asks_done asks write status (subst (EventSays asks) is said) in
      ap (λ (t : TallyState). t.statuses) (done_tally scene.ledger old.objects new.objects write status steps.reply (subst (λ r. Serves scene.ledger old.objects r steps.reply new.objects) same served))

  pub round_is : (round : ℕ) → event.what ≡ what.Round round → new.objects.tally ≡ record old.objects.tally { round = old.objects.tally.round + 1 }
  round_is round is =
      let same = asks_round asks round (subst (EventSays asks) is said) in
      round_tally scene.ledger old.objects new.objects round steps.reply (subst (λ r. Serves scene.ledger old.objects r steps.reply new.objects) same served)

  -- it keeps the status of each write but the one that it tells done
  pub keeps_status : (write : ℕ) (d : Status) → done_in write event.what ≡ 0
      → (length new.objects.tally.statuses ≡ length old.objects.tally.statuses) × (get_or new.objects.tally.statuses write d ≡ get_or old.objects.tally.statuses write d)
  keeps_status write d none = by_what event.what refl
    where
      same : new.objects.tally.statuses ≡ old.objects.tally.statuses
          → (length new.objects.tally.statuses ≡ length old.objects.tally.statuses) × (get_or new.objects.tally.statuses write d ≡ get_or old.objects.tally.statuses write d)
      same is = (ap (λ (xs : List Status). length xs) is, ap (λ xs. get_or xs write d) is)

      other : (told : What) → event.what ≡ told → IsOther told
          → (length new.objects.tally.statuses ≡ length old.objects.tally.statuses) × (get_or new.objects.tally.statuses write d ≡ get_or old.objects.tally.statuses write d)
      other told is h = same (ap (λ (t : TallyState). t.statuses) (stays (subst IsOther (sym is) h)))

      by_what : (told : What) → event.what ≡ told
          → (length new.objects.tally.statuses ≡ length old.objects.tally.statuses) × (get_or new.objects.tally.statuses write d ≡ get_or old.objects.tally.statuses write d)
      -- a write is done: its own status is set, and no other
      by_what (what.Done number status) is =
          let set = done_is number status is in
          let apart : write ≢ number = λ e. let here : done_in write event.what ≡ one_if_same number write = ap (done_in write) is in
          let one_here : one_if_same number write ≡ 1 = subst (λ k. one_if_same number k ≡ 1) (sym e) (one-same number) in absurd (omega (arith, here, one_here, none)) in
          (ap (λ (xs : List Status). length xs) set ∙ length-set old.objects.tally.statuses number status, ap (λ xs. get_or xs write d) set ∙ get_or-set_other old.objects.tally.statuses number write status d apart)
      -- a round starts: no status changes
      by_what (what.Round round) is = same (ap (λ (t : TallyState). t.statuses) (round_is round is))
      -- takes, gives and bios that wait for a rescuer leave the tally
      by_what (what.Take pool got) is = other (what.Take pool got) is tt
      by_what (what.Try pool got) is = other (what.Try pool got) is tt
      by_what (what.Give pool) is = other (what.Give pool) is tt
      by_what (what.Punt dev moved) is = other (what.Punt dev moved) is tt
      by_what (what.Pop dev) is = other (what.Pop dev) is tt
      -- so do disks and nodes
      by_what (what.Push disk at len leg) is = other (what.Push disk at len leg) is tt
      by_what (what.Complete disk index status) is = other (what.Complete disk index status) is tt
      by_what (what.Link writer how node) is = other (what.Link writer how node) is tt
      by_what (what.Drop writer node status end) is = other (what.Drop writer node status end) is tt
      -- and a reserve that changes
      by_what (what.Resize pool min) is = other (what.Resize pool min) is tt

-- a run that does not tell a write done keeps its status,
runs_keep_status : (scene : Scene) (old : State) (events : List Event) (new : State) (write : ℕ) (d : Status) → IsRun scene old events new → times_done write events ≡ 0
    → get_or new.objects.tally.statuses write d ≡ get_or old.objects.tally.statuses write d
runs_keep_status scene old [] new write d run none = ap (λ (x : State). get_or x.objects.tally.statuses write d) run
runs_keep_status scene old (event ∷ events) new write d (next, (place, steps), run) none =
    runs_keep_status scene next events new write d run (omega (arith, none)) ∙ (keeps_status scene old next place event steps write d (omega (arith, none))).1

statuses_long : (scene : Scene) (old new : State) (place : ℕ) (event : Event) → Steps scene old place event new → length new.objects.tally.statuses ≡ length old.objects.tally.statuses
statuses_long scene old new place event steps = by_what event.what refl
  where
    keeps : (write : ℕ) → done_in write event.what ≡ 0 → length new.objects.tally.statuses ≡ length old.objects.tally.statuses
    keeps write none = (keeps_status scene old new place event steps write Ok none).0

    by_what : (told : What) → event.what ≡ told → length new.objects.tally.statuses ≡ length old.objects.tally.statuses
    -- a write is done: there are as many statuses as before
    by_what (what.Done number status) is = ap (λ (xs : List Status). length xs) (done_is scene old new place event steps number status is) ∙ length-set old.objects.tally.statuses number status
    -- no event is the end of two writes, so any other keeps the status of one
    by_what told is = elim (same_or_not (done_in 0 event.what) 0) [
      | inl none ↦ keeps 0 none
      | inr some ↦ elim (same_or_not (done_in 1 event.what) 0) [
        | inl none ↦ keeps 1 none
        | inr other ↦ absurd (two event.what some other)
      ]
    ]
      where
        two : (told : What) → done_in 0 told ≢ 0 → done_in 1 told ≢ 0 → ⊥
        two (what.Done number status) some other = elim (same_or_not number 0) [
          | inl e ↦ other (one-other number 1 (λ q. omega (arith, e, q)))
          | inr ne ↦ some (one-other number 0 ne)
        ]
        two told some other = some refl

-- and one that does leaves it as it was told, if it was told once
contains_or : (event first : Event) (events : List Event) → Contains (first ∷ events) event → (first ≡ event) ⊎ Contains events event
contains_or event first events c = elim (Contains-append_cases (first ∷ []) events event c) [
  | inl here ↦ inl (only here)
  | inr rest ↦ inr rest
]
  where
    only : Contains (first ∷ []) event → first ≡ event
    only (zero, lt, is) = is
    only (suc k, lt, is) = absurd (omega (arith, lt))

times_at_least : (write : ℕ) (status : Status) (event : Event) (events : List Event) → Contains events event → event.what ≡ what.Done write status → 1 ≤ times_done write events
times_at_least write status event [] (k, lt, is) tells = absurd (omega (arith, lt))
times_at_least write status event (first ∷ events) c tells = elim (contains_or event first events c) [
  | inl same ↦
      let here : done_in write first.what ≡ one_if_same write write = ap (λ (e : Event). done_in write e.what) same ∙ ap (done_in write) tells in
      omega (arith, here, one-same write)
  | inr rest ↦ omega (arith, times_at_least write status event events rest tells)
]

runs_tell : (scene : Scene) (old : State) (events : List Event) (new : State) (write : ℕ) (status : Status) (event : Event) → IsRun scene old events new → Contains events event
    → event.what ≡ what.Done write status → times_done write events ≤ 1 → write < length old.objects.tally.statuses → (get_or new.objects.tally.statuses write Ok ≡ status)
    × (write < length new.objects.tally.statuses)
runs_tell scene old [] new write status event run (k, lt, is) tells few within = absurd (omega (arith, lt))
runs_tell scene old (first ∷ events) new write status event (next, (place, steps), run) c tells few within =
    let long = statuses_long scene old next place first steps in
    elim (contains_or event first events c) [
      | inl same ↦
          let here : first.what ≡ what.Done write status = ap (λ (e : Event). e.what) same ∙ tells in
          let once : done_in write first.what ≡ 1 = ap (done_in write) here ∙ one-same write in
          let set : get_or next.objects.tally.statuses write Ok ≡ status =
          ap (λ xs. get_or xs write Ok) (done_is scene old next place first steps write status here) ∙ get_or-set_same old.objects.tally.statuses write status Ok within in
          (runs_keep_status scene next events new write Ok run (omega (arith, few, once)) ∙ set, runs_long scene next events new run write (omega (arith, within, long)))
      | inr rest ↦ runs_tell scene next events new write status event run rest tells (omega (arith, few)) (omega (arith, within, long))
    ]
  where
    runs_long : (scene : Scene) (old : State) (events : List Event) (new : State) → IsRun scene old events new → (write : ℕ) → write < length old.objects.tally.statuses
        → write < length new.objects.tally.statuses
    runs_long scene old [] new run write lt = subst (λ (x : State). write < length x.objects.tally.statuses) (sym run) lt
    runs_long scene old (event ∷ events) new (next, (place, steps), run) write lt =
        runs_long scene next events new run write (let long = statuses_long scene old next place event steps in omega (arith, lt, long))

-- no write has a number behind the last one
beyond : (w a n : ℕ) (xs : List (ℕ × Write)) → a + n ≤ w → to_begin w (map (λ x. record { number = x.0; round = x.1.0; write = x.1.1 }) (zip (range_with_len a n) xs)) ≡ 0
beyond w a zero xs le = refl
beyond w a (suc n) [] le = refl
beyond w a (suc n) (x ∷ xs) le = omega (arith, one-other a w (λ e. omega (arith, e, le)), beyond w (a + 1) n xs (omega (arith, le)))

pub tally_has_statuses : TallyHasStatuses
tally_has_statuses s ledger events state good naming run event write status c tells =
    let some = times_at_least write status event events c tells in
    let total_is = runs_to_done s ledger good naming events state run write in
    let begins : total_weight (scene s ledger) (stage write) (start s) ≡ to_begin write (todos s) =
    ap (λ u. total_weight (scene s ledger) u (start s)) (stage_is write) ∙ (unfinished_at_start s good ledger (λ n. one_if_same n write) ∙ sym (begins_worth write (todos s))) in
    let known : write < length s.writes = elim (below_or write (length s.writes)) [
      | inl lt ↦ lt
      | inr ge ↦ absurd (omega (arith, some, total_is, begins, beyond write 0 (length s.writes) (zip s.rounds s.writes) (omega (arith, ge))))
    ] in
    let told = runs_tell (scene s ledger) (start s) events state write status event run c tells (omega (arith, total_is, stage_once s ledger good naming write))
    (let all = (start_told s good ledger).all in omega (arith, known, all)) in
    slice_get-get_or state.objects.tally.statuses write Ok told.1 ∙ ap Some told.0

-- of what comes next
module _ (s : Scenario) (ledger : ℕ → LedgerId) (events : List Event) (state : State) (good : IsScenario s) (naming : IsNaming ledger) (run : IsRun (scene s ledger) (start s) events state) where
  abbrev sc : Scene
  sc = scene s ledger

  whole : IsReachedWhole sc state
  whole = runs_whole sc (record { named = naming }) (ground s.stack good.stack (setup_in s).places) (start s) events state (start_whole s ledger good naming) run

  tallied : Tallied s.rounds (keeper_place s good ledger) sc state
  tallied =
      runs_tallied sc (record { named = naming }) (ground s.stack good.stack (setup_in s).places) s.rounds (keeper_place s good ledger) (start s) events state (start_whole s ledger good naming)
      (start_tallied s good ledger) run

  ends_present : (m : Move) → Can sc state m → (w : ℕ) → done_by w m ≡ 1 → round_of s.rounds w ≡ state.objects.tally.round
  -- the end of a write is one of the present round
  ends_present (moves.Ends place disk writer closed) c w done =
      let same : closed.write ≡ w = one-eq closed.write w (omega (arith, done)) in
      ap (round_of s.rounds) (sym same) ∙ (of_present s.rounds (keeper_place s good ledger) sc state tallied place disk writer closed c).0
  -- no other event ends a write
  ends_present _ c w done = absurd (omega (arith, done))

  starts_next : (m : Move) → Can sc state m → (round : ℕ) (reply : Reply) → (after sc state m).objects.tally.round ≡ state.objects.tally.round + 1
      → what_of (request (setup_in s) (state.task (place_of m))) reply ≡ Some (what.Round round) → round ≡ state.objects.tally.round + 1
  -- a round that starts is the next one
  starts_next (moves.Started place number later duties) c round reply more told =
      let here : what_of (requests.NextRound number) reply ≡ Some (what.Round round) = subst (λ x. what_of (request (setup_in s) x) reply ≡ Some (what.Round round)) c.1 told in
      let fits : KeepingFits s.rounds (keeper_place s good ledger) state.objects.tally.round place (Keeps (Starts number later ∷ duties)) =
      subst (TaskRounds s.rounds (keeper_place s good ledger) state.objects.tally.round place) c.1 (tallied.tasks place) in
      by_reply reply here ∙ fits.1.0
    where
      by_reply : (reply : Reply) → what_of (requests.NextRound number) reply ≡ Some (what.Round round) → round ≡ number
      by_reply requests.Did told = cc
      by_reply _ told = absurd cc
  -- no other event changes the round
  starts_next _ c round reply more told = absurd (omega (arith, more))

  dones_present : (event : Event) (new : State) → Happens sc state event new → (write : ℕ) (status : Status) → event.what ≡ what.Done write status → round_of s.rounds write ≡ state.objects.tally.round
  dones_present event new (place, steps) write status tells =
      let moved = step_is_move sc state (record { named = naming }) whole.kept place event new steps in
      let asks : request (setup_in s) (state.task place) ≡ requests.Done write status =
      asks_done (request (setup_in s) (state.task place)) write status (subst (EventSays (request (setup_in s) (state.task place))) tells (says (request (setup_in s) (state.task place)) steps.reply event.what steps.told)) in
      let at_place : asked write (request (setup_in s) (state.task (place_of moved.move))) ≡ 1 =
      ap (λ p. asked write (request (setup_in s) (state.task p))) moved.at ∙ ap (asked write) asks ∙ one-same write in
      ends_present moved.move moved.can write (sym (asked_by sc state write moved.move moved.can) ∙ at_place)

  rounds_next : (event : Event) (new : State) → Happens sc state event new → (round : ℕ) → event.what ≡ what.Round round → round ≡ state.objects.tally.round + 1
  rounds_next event new (place, steps) round tells =
      let moved = step_is_move sc state (record { named = naming }) whole.kept place event new steps in
      let more : (after sc state moved.move).objects.tally.round ≡ state.objects.tally.round + 1 =
      ap (λ (x : State). x.objects.tally.round) (sym moved.is) ∙ ap (λ (t : TallyState). t.round) (round_is sc state new place event steps round tells) in
      starts_next moved.move moved.can round steps.reply more
      (subst (λ p. what_of (request (setup_in s) (state.task p)) steps.reply ≡ Some (what.Round round)) (sym moved.at) (steps.told ∙ ap Some tells))

pub writes_are_done_in_their_round : WritesAreDoneInTheirRound
writes_are_done_in_their_round s ledger events state good naming run = dones_present s ledger events state good naming run

pub rounds_start_in_turn : RoundsStartInTurn
rounds_start_in_turn s ledger events state good naming run = rounds_next s ledger events state good naming run
