-- At every end of a write of every run its status is one that its fragments give.
use Rattle.std.proofs.Common.{◌≡◌, ◌≢◌, ◌+◌, ◌-◌, ◌*◌, ◌<◌, ◌≤◌, ◌⊎◌, ℕ, zero, suc, false, List, [], ◌∷◌, length, map, Option, None, Some, inl, inr, refl, sym, ◌∙◌, ap, subst, arith, set}
use Rattle.std.specs.Prelude.{slice_get, slice_set, zip}
use Rattle.std.specs.List.{range_with_len}
use Rattle.std.specs.Option.{option_map_or}
use Rattle.std.proofs.lemmas.List.{length-set, get_or-set_same, get_or-set_other, length-replicate}
use Rattle.std.proofs.lemmas.Option.{slice_get_within, slice_get-get_or, get_or_from_slice_get}
use Rattle.layout_model.proofs.RangeSums.{sum_of_zero}
use Rattle.elem_ledger.specs.Ledger.{LedgerId}
use Rattle.stack_base.specs.declared.ids.DevId.{DevId}
use Rattle.stack_base.specs.declared.ids.Status.{Status}
use Rattle.stack_base.specs.declared.ids.Status.TheVariants as status
use Rattle.stack_base.specs.Tree.{tree}
use Rattle.layout_model.specs.declared.write.Write.{Write}
use Rattle.layout_model.specs.Plan.{plan}
use Rattle.layout_model.specs.May.{fault_of}
use Rattle.bio_records.specs.declared.bio.Bio.{Bio}
use Rattle.bio_records.specs.Clear.{no_bio}
use Rattle.bio_records.specs.declared.tasks.TaskLists.{TaskLists}
use Rattle.bio_books.specs.declared.node.Role.{Role}
use Rattle.bio_books.specs.declared.node.Role.TheVariants as role
use Rattle.bio_books.specs.Books.{Holding}
use Rattle.bio_books.specs.Drops.{Closed}
use Rattle.run_machine.specs.declared.event.Event.{Event}
use Rattle.run_machine.specs.declared.event.What.TheVariants as what
use Rattle.run_machine.specs.Events.{what_of}
use Rattle.run_machine.specs.Maps.{upd}
use Rattle.run_machine.specs.Scene.{Scene}
use Rattle.run_machine.specs.Submissions.{Doing, Submission}
use Rattle.run_machine.specs.Tasks.{TaskState, Writer, Rescuer, Completer, Keeper, Todo, Empty, Brings, Carries, request, closed_request}
use Rattle.run_machine.specs.Opened.{Scenario, scene, start, todos, setup_in}
use Rattle.run_machine.specs.Requests as requests
use Rattle.run_machine.specs.Requests.{Reply}
use Rattle.run_machine.specs.Runs.{State, IsRun, Happens, HasEnded}
use Rattle.block_core.specs.Weights.{total_weight, one_if_same}
use Rattle.block_core.specs.Rounds.{round_of, is_of_round, tops, tops_left, all_worth, unfinished_of}
use Rattle.block_core.specs.Scenarios.{IsScenario, IsNaming}
use Rattle.block_core.proofs.status.Marks.{is, may, bio_may, todo_may, write_may, Mark, IsMark, lack, above, unallowed, IsMarked}
use Rattle.block_core.specs.Touches.{touch_of}
use Rattle.block_core.specs.NodeBios.{bios_after, node_bios, no_bios}
use Rattle.block_core.specs.Values.{NodesAreValued}
use Rattle.block_core.specs.DoneWrites.{WriteMayEnd, StatusesAreGiven, HasGivenStatuses, EndedStatusesAreGiven}
use Rattle.block_core.proofs.moves.Sums.{one-same, one-other, same_or_not}
use Rattle.block_core.proofs.moves.Moves.{Move, place_of, touch_by, Can, after, with_submission, HasSubmission}
use Rattle.block_core.proofs.moves.Moves as moves
use Rattle.block_core.proofs.sound.Invariant.{LedgersAreNumbered}
use Rattle.block_core.proofs.sound.TaskSubmissions.{all-upd}
use Rattle.block_core.proofs.sound.Orders.{DeviceGeometry}
use Rattle.block_core.proofs.moves.Devices.{ground}
use Rattle.block_core.proofs.moves.StepMoves.{step_is_move}
use Rattle.block_core.proofs.start.InvariantAtStart.{Begins, start_opened}
use Rattle.block_core.proofs.sound.DoneOnce.{done_of, told_done, done_by, asked_by, to_begin, stage, staged}
use Rattle.block_core.proofs.sound.EveryRun.{IsReachedWhole, runs_whole, start_whole, run_tallied}
use Rattle.block_core.proofs.moves.Totals.{IsWithin, within, task_part}
use Rattle.block_core.proofs.images.EndedRuns.{zero_at}
use Rattle.block_core.proofs.moves.Misfits.{misfits, no_misfits}
use Rattle.block_core.proofs.images.StillToCome.{over}
use Rattle.block_core.proofs.images.Completed.{over_follows, start_counted}
use Rattle.block_core.proofs.start.StagesAtStart.{begins_sum}
use Rattle.block_core.proofs.start.StartTotals.{opened_total, all_sum}
use Rattle.block_core.proofs.images.BioData.{own_writes}
use Rattle.block_core.proofs.images.ImageData.{IsOwn, own_stays, completed_waits, completed_ends, start_own}
use Rattle.block_core.proofs.status.RunEndings.{EndingsByParts, endings_by_parts, plan_alone}
use Rattle.block_core.proofs.status.NodeValues.{is_itself}
use Rattle.block_core.proofs.status.ValuesKept.{stays_marked}
use Rattle.block_core.proofs.status.ToldEnds.{HasEnding}
use Rattle.block_core.proofs.status.MarksBehind.{marks_by}
use Rattle.block_core.proofs.status.NodeBios.{AreOfBios, stays_of_bios}
use Rattle.block_core.proofs.status.MarkedValues.{may_given, are_valued}

-- a task with a submission brings nothing
submission_ending : (s : Scenario) (x : TaskState) (doing : Doing) (lists : TaskLists) (submission : Submission) → HasSubmission x doing lists → HasEnding (fault_of s.stack) (with_submission x submission)
submission_ending s (Writer number todos taken old) doing lists submission h = tt
submission_ending s (Rescuer dev old) doing lists submission h = tt
submission_ending s (Completer disk carried) doing lists submission h = absurd h
submission_ending s (Keeper keeping) doing lists submission h = tt

module _ (s : Scenario) (ledger : ℕ → LedgerId) (st : State) (own : (number : ℕ) → IsOwn s number (st.objects.disk number))
    (endings : (place : ℕ) → HasEnding (fault_of s.stack) (st.task place)) where
  goes : (place : ℕ) (y : TaskState) → HasEnding (fault_of s.stack) y → (p : ℕ) → HasEnding (fault_of s.stack) (upd st.task place y p)
  goes place y fits = all-upd (HasEnding (fault_of s.stack)) st.task place y endings fits

  endings_stay : (m : Move) → Can (scene s ledger) st m → (p : ℕ) → HasEnding (fault_of s.stack) ((after (scene s ledger) st m).task p)
  -- takes, misses, punts, pops and pushes: no completer comes to bring a bio
  endings_stay (moves.TakesFirst place writer todo later move) c = goes place _ tt
  endings_stay (moves.TakesVector place writer todo later item move) c = goes place _ tt
  endings_stay (moves.TakesSub place x doing lists dev waits move) c = goes place _ (submission_ending s x doing lists _ c.2)
  endings_stay (moves.TakesSlip place x bio lists move) c = goes place _ (submission_ending s x _ lists _ c.2)
  endings_stay (moves.MissesOne place x number used) c = goes place x (subst (HasEnding (fault_of s.stack)) c.1 (endings place))
  endings_stay (moves.MissesTry place x doing lists dev used) c = goes place _ (submission_ending s x doing lists _ c.2)
  endings_stay (moves.Punts place x doing lists dev) c = goes place _ (submission_ending s x doing lists _ c.2)
  endings_stay (moves.Pops place dev bio bios) c = goes place _ tt
  endings_stay (moves.Pushes place x bio lists) c = goes place _ (submission_ending s x _ lists _ c.2)
  -- completions: the bio is of the disk of its completer, and ends as its fragment ends
  endings_stay (moves.Completed place disk index bio ending new) c =
      goes place (Completer disk (Brings bio ending)) (
        (completed_waits s disk.0 (st.objects.disk disk.0) index bio ending new (own disk.0) c.3).1,
        completed_ends s disk.0 (st.objects.disk disk.0) index bio ending new (own disk.0) c.3,
      )
  -- links: no completer comes to bring a bio
  endings_stay (moves.Begins place writer todo later item vector key) c = goes place _ tt
  endings_stay (moves.Chained place x bio lists hand number kind sizes members key node) c = goes place _ (submission_ending s x _ lists _ c.2)
  endings_stay (moves.Mastered place x bio lists slip key node) c = goes place _ (submission_ending s x _ lists _ c.2)
  endings_stay (moves.Legged place x bio lists master leg hand key node) c = goes place _ (submission_ending s x _ lists _ c.2)
  -- drops, gives and ends of writes: the completer brings no bio then
  endings_stay (moves.Told place disk carried writer key ending part node) c = goes place (Completer disk Empty) tt
  endings_stay (moves.Closes place disk carried writer key ending part node) c = goes place (Completer disk (Carries writer _)) tt
  endings_stay (moves.Gives place disk writer number closed held) c = goes place (Completer disk (Carries writer _)) tt
  endings_stay (moves.Ends place disk writer closed) c = goes place (Completer disk Empty) tt
  -- resizes and rounds: by the keeper, which brings no bio
  endings_stay (moves.Resized place pool min later duties) c = goes place _ tt
  endings_stay (moves.Started place round later duties) c = goes place _ tt

-- all that is known of statuses
pub record HasStatuses (s : Scenario) (ledger : ℕ → LedgerId) (bios : ℕ → ℕ → Bio) (st : State) : Type 0 where
  pub counted : total_weight (scene s ledger) (misfits over) st ≡ 0
  pub own : (number : ℕ) → IsOwn s number (st.objects.disk number)
  pub endings : (place : ℕ) → HasEnding (fault_of s.stack) (st.task place)
  pub mark : ℕ → ℕ → Mark
  pub tied : AreOfBios (setup_in s) (fault_of s.stack) mark bios
  pub valued : IsMarked (scene s ledger) (fault_of s.stack) (write_may s) mark st
  -- a write is unfinished, or its status is one that it may have
  pub all : length st.objects.tally.statuses ≡ length s.writes
  pub tallied : (number : ℕ) → number < length s.writes
      → (1 ≤ total_weight (scene s ledger) (stage number) st) ⊎ ((end : Status) × (slice_get st.objects.tally.statuses number ≡ Some end) × WriteMayEnd s number end)

-- what is left of a top node ends as its write may
ends_given : (s : Scenario) (ledger : ℕ → LedgerId) (bios : ℕ → ℕ → Bio) (st : State) → HasStatuses s ledger bios st → (place : ℕ) (disk : DevId) (writer : ℕ) (closed : Closed)
    → Can (scene s ledger) st (moves.Ends place disk writer closed) → WriteMayEnd s closed.write closed.status
ends_given s ledger bios st t place disk writer closed c =
    let w = unallowed (setup_in s) (fault_of s.stack) (write_may s) t.mark closed.status in
    let off : is closed.status closed.status - write_may s closed.write closed.status ≡ 0 =
    ap (above (write_may s) t.mark closed.status (is closed.status closed.status) writer closed.write) (sym c.3)
    ∙ omega (arith, t.valued.fits closed.status, task_part (scene s ledger) w st place (Completer disk (Carries writer closed)) c.0 c.1) in
    may_given s closed.write closed.status (omega (arith, off, is_itself closed.status))

set_get : (xs : List Status) (i : ℕ) (x : Status) → i < length xs → slice_get (slice_set xs i x) i ≡ Some x
set_get xs i x lt =
    let long = length-set xs i x in
    slice_get-get_or (set xs i x) i x (omega (arith, lt, long)) ∙ ap Some (get_or-set_same xs i x x lt)

set_get_other : (xs : List Status) (i j : ℕ) (x y : Status) → j ≢ i → slice_get xs j ≡ Some y → slice_get (slice_set xs i x) j ≡ Some y
set_get_other xs i j x y ne at =
    let long = length-set xs i x in
    let lt = slice_get_within xs j y at in
    slice_get-get_or (set xs i x) j y (omega (arith, lt, long)) ∙ ap Some (get_or-set_other xs i j x y ne ∙ get_or_from_slice_get xs j y y at)

module _ (s : Scenario) (ledger : ℕ → LedgerId) (f : LedgersAreNumbered (scene s ledger)) (g : DeviceGeometry (setup_in s)) (v : EndingsByParts (setup_in s) (fault_of s.stack)) where
  abbrev sc : Scene
  sc = scene s ledger

  module _ (bios : ℕ → ℕ → Bio) (st : State) (i : IsReachedWhole sc st) (t : HasStatuses s ledger bios st) where
    Tallied : Move → ℕ → Type 0
    Tallied m number =
        (1 ≤ total_weight sc (stage number) (after sc st m)) ⊎ ((end : Status) × (slice_get (after sc st m).objects.tally.statuses number ≡ Some end) × WriteMayEnd s number end)

    same_tallied : (m : Move) → Can sc st m → (number : ℕ) → number < length s.writes → done_by number m ≡ 0 → (after sc st m).objects.tally.statuses ≡ st.objects.tally.statuses → Tallied m number
    unfolding Tallied
    same_tallied m c number lt none same = elim (t.tallied number lt) [
      | inl some ↦ inl (omega (arith, some, none, staged sc st number m c))
      | inr (end, at, is_given) ↦ inr (end, ap (λ xs. slice_get xs number) same ∙ at, is_given)
    ]

    ends_tallied : (place : ℕ) (disk : DevId) (writer : ℕ) (closed : Closed) → Can sc st (moves.Ends place disk writer closed) → (number : ℕ) → number < length s.writes
        → Tallied (moves.Ends place disk writer closed) number
    unfolding Tallied
    ends_tallied place disk writer closed c number lt = elim (same_or_not number closed.write) [
      | inl e ↦ let P : ℕ → Type 0 = λ n. (end : Status) × (slice_get (slice_set st.objects.tally.statuses closed.write closed.status) n ≡ Some end) × WriteMayEnd s n end in
          let long = t.all in
          inr (subst P (sym e) (closed.status, set_get st.objects.tally.statuses closed.write closed.status (omega (arith, lt, long, e)), ends_given s ledger bios st t place disk writer closed c))
      | inr ne ↦ elim (t.tallied number lt) [
        | inl some ↦ inl (omega (arith, some, one-other closed.write number (λ q. ne (sym q)), staged sc st number (moves.Ends place disk writer closed) c))
        | inr (end, at, is_given) ↦ inr (end, set_get_other st.objects.tally.statuses closed.write number closed.status end ne at, is_given)
      ]
    ]

    tallied_after : (m : Move) → Can sc st m → (number : ℕ) → number < length s.writes → Tallied m number
    -- ends of writes: the write has a status that it may have, and the others what they had
    tallied_after (moves.Ends place disk writer closed) c number lt = ends_tallied place disk writer closed c number lt
    -- takes, misses, punts, pops, pushes, completions, links, drops, gives, resizes and rounds: no write is done
    tallied_after (moves.TakesFirst place writer todo later move) c number lt = same_tallied (moves.TakesFirst place writer todo later move) c number lt refl refl
    tallied_after (moves.TakesVector place writer todo later item move) c number lt = same_tallied (moves.TakesVector place writer todo later item move) c number lt refl refl
    tallied_after (moves.TakesSub place x doing lists dev waits move) c number lt = same_tallied (moves.TakesSub place x doing lists dev waits move) c number lt refl refl
    tallied_after (moves.TakesSlip place x bio lists move) c number lt = same_tallied (moves.TakesSlip place x bio lists move) c number lt refl refl
    tallied_after (moves.MissesOne place x pool used) c number lt = same_tallied (moves.MissesOne place x pool used) c number lt refl refl
    tallied_after (moves.MissesTry place x doing lists dev used) c number lt = same_tallied (moves.MissesTry place x doing lists dev used) c number lt refl refl
    tallied_after (moves.Punts place x doing lists dev) c number lt = same_tallied (moves.Punts place x doing lists dev) c number lt refl refl
    tallied_after (moves.Pops place dev bio bios) c number lt = same_tallied (moves.Pops place dev bio bios) c number lt refl refl
    tallied_after (moves.Pushes place x bio lists) c number lt = same_tallied (moves.Pushes place x bio lists) c number lt refl refl
    tallied_after (moves.Completed place disk index bio ending new) c number lt = same_tallied (moves.Completed place disk index bio ending new) c number lt refl refl
    tallied_after (moves.Begins place writer todo later item vector key) c number lt = same_tallied (moves.Begins place writer todo later item vector key) c number lt refl refl
    tallied_after (moves.Chained place x bio lists hand device kind sizes members key node) c number lt =
        same_tallied (moves.Chained place x bio lists hand device kind sizes members key node) c number lt refl refl
    tallied_after (moves.Mastered place x bio lists slip key node) c number lt = same_tallied (moves.Mastered place x bio lists slip key node) c number lt refl refl
    tallied_after (moves.Legged place x bio lists master leg hand key node) c number lt = same_tallied (moves.Legged place x bio lists master leg hand key node) c number lt refl refl
    tallied_after (moves.Told place disk carried writer key ending part node) c number lt = same_tallied (moves.Told place disk carried writer key ending part node) c number lt refl refl
    tallied_after (moves.Closes place disk carried writer key ending part node) c number lt = same_tallied (moves.Closes place disk carried writer key ending part node) c number lt refl refl
    tallied_after (moves.Gives place disk writer pool closed held) c number lt = same_tallied (moves.Gives place disk writer pool closed held) c number lt refl refl
    tallied_after (moves.Resized place pool min later duties) c number lt = same_tallied (moves.Resized place pool min later duties) c number lt refl refl
    tallied_after (moves.Started place round later duties) c number lt = same_tallied (moves.Started place round later duties) c number lt refl refl

    long_after : (m : Move) → length (after sc st m).objects.tally.statuses ≡ length st.objects.tally.statuses
    long_after (moves.Ends place disk writer closed) = length-set st.objects.tally.statuses closed.write closed.status
    long_after m = refl

    stays_told : (m : Move) → Can sc st m → HasStatuses s ledger (bios_after sc.setup (st.task (place_of m)) (touch_by m) bios) (after sc st m)
    unfolding Tallied
    stays_told m c = record {
      counted = no_misfits over over_follows sc st i.kept t.counted m c;
      own = own_stays s ledger st i.placed t.own m c;
      endings = endings_stay s ledger st t.own t.endings m c;
      mark = marks_by sc.setup (fault_of s.stack) t.mark m;
      tied = stays_of_bios sc (fault_of s.stack) st t.mark bios t.tied m c;
      valued = stays_marked sc (fault_of s.stack) (write_may s) v st g i.kept i.placed t.counted t.endings t.mark t.valued m c;
      all = long_after m ∙ t.all;
      tallied = tallied_after m c;
    }

  pub runs_told : (st : State) (events : List Event) (new : State) (bios : ℕ → ℕ → Bio) → IsReachedWhole sc st → HasStatuses s ledger bios st → (run : IsRun sc st events new)
      → HasStatuses s ledger (node_bios sc st events new run bios) new
  runs_told st [] new bios i t run = subst (HasStatuses s ledger bios) (sym run) t
  runs_told st (event ∷ events) new bios i t (next, (place, steps), run) =
      let moved = step_is_move sc st f i.kept place event next steps in
      let now : bios_after sc.setup (st.task place) (touch_of event.what) bios ≡ bios_after sc.setup (st.task (place_of moved.move)) (touch_by moved.move) bios =
      ap (λ touch. bios_after sc.setup (st.task place) touch bios) moved.touches ∙ ap (λ at. bios_after sc.setup (st.task at) (touch_by moved.move) bios) (sym moved.at) in
      let told : HasStatuses s ledger (bios_after sc.setup (st.task (place_of moved.move)) (touch_by moved.move) bios) next =
      subst (HasStatuses s ledger (bios_after sc.setup (st.task (place_of moved.move)) (touch_by moved.move) bios)) (sym moved.is) (stays_told bios st i t moved.move moved.can) in
      runs_told next events new (bios_after sc.setup (st.task place) (touch_of event.what) bios) (runs_whole sc f g st (event ∷ []) next i (next, (place, steps), refl))
      (subst (λ b. HasStatuses s ledger b next) (sym now) told) run

-- each write is to begin at the start
is_numbered : (w a n : ℕ) (rs : List ℕ) (ws : List Write) → length rs ≡ n → length ws ≡ n → a ≤ w → w < a + n
    → 1 ≤ to_begin w (map (λ x. record { number = x.0; round = x.1.0; write = x.1.1 }) (zip (range_with_len a n) (zip rs ws)))
is_numbered w a zero rs ws rl wl ge lt = absurd (omega (arith, ge, lt))
is_numbered w a (suc n) [] ws rl wl ge lt = absurd (omega (arith, rl))
is_numbered w a (suc n) (r ∷ rs) [] rl wl ge lt = absurd (omega (arith, wl))
is_numbered w a (suc n) (r ∷ rs) (x ∷ ws) rl wl ge lt = elim (same_or_not a w) [
  | inl e ↦ let here : one_if_same a w ≡ 1 = ap (one_if_same a) (sym e) ∙ one-same a in omega (arith, here)
  | inr ne ↦ omega (arith, is_numbered w (a + 1) n rs ws (omega (arith, rl)) (omega (arith, wl)) (omega (arith, ge, ne)) (omega (arith, lt)))
]

module _ (s : Scenario) (good : IsScenario s) (ledger : ℕ → LedgerId) where
  -- any mark will do where no node is open
  abbrev plain : Mark
  plain = record { master = false; ends = bio_may (setup_in s) (fault_of s.stack) no_bio }

  plain_fair : IsMark plain
  plain_fair = record { alone = λ end ne. plan_alone (fault_of s.stack) _ end ne; failed = λ same. absurd cc }

  begins_ending : (x : TaskState) → Begins (scene s ledger) x → HasEnding (fault_of s.stack) x
  begins_ending (Writer number todos taken submission) h = tt
  begins_ending (Rescuer dev submission) h = tt
  begins_ending (Completer disk carried) h = subst (λ c. HasEnding (fault_of s.stack) (Completer disk c)) (sym h.1) tt
  begins_ending (Keeper keeping) h = tt

  start_off : (end : Status) → total_weight (scene s ledger) (unallowed (setup_in s) (fault_of s.stack) (write_may s) (λ w k. plain) end) (start s) ≡ 0
  start_off end =
      let of : Todo → ℕ = λ todo. todo_may (setup_in s) (fault_of s.stack) todo end - write_may s todo.number end in
      opened_total s good ledger (unallowed (setup_in s) (fault_of s.stack) (write_may s) (λ w k. plain) end) of (λ n ts. refl)
      ∙ (all_sum (λ (todo : Todo). slice_get s.writes todo.number ≡ Some todo.write) of (λ todo. 0) (todos s)
      (λ todo at. omega (
        arith,
        ap (λ found. option_map_or (λ (write : Write). may (fault_of s.stack) (plan (tree s.stack write.dev.0) todo.number 0 write.start write.count) end) found 0) at,
      )) (own_writes s)
      ∙ sum_of_zero (todos s))

  pub start_staged : (number : ℕ) → number < length s.writes → 1 ≤ total_weight (scene s ledger) (stage number) (start s)
  start_staged number lt =
      omega (
        arith,
        opened_total s good ledger (stage number) (λ (todo : Todo). one_if_same todo.number number) (λ n ts. sym (begins_sum number ts)),
        begins_sum number (todos s),
        is_numbered number 0 (length s.writes) s.rounds s.writes good.rounds refl (omega arith) (omega (arith, lt)),
      )

  pub start_told : HasStatuses s ledger no_bios (start s)
  start_told =
      let o = start_opened s good ledger in
      record {
        counted = start_counted s good ledger;
        own = start_own s ledger good;
        endings = λ place. begins_ending ((start s).task place) (o.tasks place);
        mark = λ w k. plain;
        tied = λ w k. refl;
        valued = record {
          fair = λ w k. plain_fair;
          fits = start_off;
          decided = λ w k. omega (arith, ap (lack plain) (o.books w k));
        };
        all = length-replicate (length s.writes) status.Ok;
        tallied = λ number lt. inl (start_staged number lt);
      }

-- a write that is in stage is an unfinished one of its round
same_round : (rounds : List ℕ) (number n : ℕ) → one_if_same n number ≤ is_of_round rounds (round_of rounds number) n
same_round rounds number n = elim (same_or_not n number) [
  | inr ne ↦ omega (arith, one-other n number ne)
  | inl e ↦
      let here : one_if_same n number ≡ 1 = ap (one_if_same n) (sym e) ∙ one-same n in
      let round : is_of_round rounds (round_of rounds number) n ≡ 1 = ap (λ k. one_if_same (round_of rounds n) (round_of rounds k)) (sym e) ∙ one-same (round_of rounds n) in
      omega (arith, here, round)
]

begins_within : (rounds : List ℕ) (number : ℕ) (todos : List Todo) → to_begin number todos ≤ all_worth (is_of_round rounds (round_of rounds number)) todos
begins_within rounds number [] = omega arith
begins_within rounds number (todo ∷ todos) = omega (arith, same_round rounds number todo.number, begins_within rounds number todos)

pub stage_within : (rounds : List ℕ) (number : ℕ) → let u = unfinished_of (is_of_round rounds (round_of rounds number)) in IsWithin (stage number) u u u
stage_within rounds number = record {
  todo = λ writer todos taken. omega (arith, begins_within rounds number todos);
  bio = λ spot item. omega arith;
  copy = λ bio master leg. omega arith;
  hand = λ item. omega arith;
  vector = λ vector. omega arith;
  slip = λ slip. omega arith;
  node = λ writer place node. by_role node.role node.write;
  closed = λ task writer closed. by_parent closed.parent closed.write;
}
  where
    by_role : (r : Role) (write : ℕ) → let worth = tops r * is_of_round rounds (round_of rounds number) write in tops r * one_if_same write number ≤ worth + worth + worth
    by_role role.Top write = omega (arith, same_round rounds number write)
    by_role (role.Chain parent) write = omega arith
    by_role (role.Master parent) write = omega arith
    by_role (role.Leg parent) write = omega arith

    by_parent : (parent : Option ℕ) (write : ℕ)
        → let worth = tops_left parent * is_of_round rounds (round_of rounds number) write in tops_left parent * one_if_same write number ≤ worth + worth + worth
    by_parent None write = omega (arith, same_round rounds number write)
    by_parent (Some parent) write = omega arith

-- a completer that carries all that is left of a top node tells its write done
done_told : (w : ℕ) (end : Status) (writer : ℕ) (closed : Closed) (reply : Reply) → what_of (requests.Done closed.write closed.status) reply ≡ Some (what.Done w end)
    → (closed.write ≡ w) × (closed.status ≡ end)
done_told w end writer closed requests.Did told = (cc, cc)
done_told w end writer closed _ told = absurd cc

module _ (s : Scenario) (ledger : ℕ → LedgerId) (bios : ℕ → ℕ → Bio) (st : State) (t : HasStatuses s ledger bios st) where
  ends_by : (m : Move) → Can (scene s ledger) st m → (w : ℕ) (end : Status) (reply : Reply) → done_by w m ≡ 1
      → what_of (request (setup_in s) (st.task (place_of m))) reply ≡ Some (what.Done w end) → WriteMayEnd s w end
  ends_by (moves.Ends place disk writer closed) c w end reply done told =
      let asks : request (setup_in s) (st.task place) ≡ requests.Done closed.write closed.status =
      ap (request (setup_in s)) c.1 ∙ ap (λ (held : Holding). closed_request writer closed held.vector held.bio held.slip closed.parent) c.2
      ∙ ap (closed_request writer closed None None None) c.3 in
      let same = done_told w end writer closed reply (ap (λ r. what_of r reply) (sym asks) ∙ told) in
      subst (λ n. WriteMayEnd s n end) same.0 (subst (WriteMayEnd s closed.write) same.1 (ends_given s ledger bios st t place disk writer closed c))
  ends_by _ c w end reply done told = absurd (omega (arith, done))

module _ (s : Scenario) (ledger : ℕ → LedgerId) (events : List Event) (state : State) (good : IsScenario s) (naming : IsNaming ledger) (run : IsRun (scene s ledger) (start s) events state) where
  told : HasStatuses s ledger (node_bios (scene s ledger) (start s) events state run no_bios) state
  told =
      let places = (setup_in s).places in
      runs_told s ledger (record { named = naming }) (ground s.stack good.stack places) (endings_by_parts s.stack good.stack places (fault_of s.stack)) (start s) events state no_bios
      (start_whole s ledger good naming) (start_told s good ledger) run

  happens_given : (event : Event) (new : State) → Happens (scene s ledger) state event new → (w : ℕ) (end : Status) → event.what ≡ what.Done w end → WriteMayEnd s w end
  happens_given event new (place, steps) w end tells =
      let f : LedgersAreNumbered (scene s ledger) = record { named = naming } in
      let i = runs_whole (scene s ledger) f (ground s.stack good.stack (setup_in s).places) (start s) events state (start_whole s ledger good naming) run in
      let moved = step_is_move (scene s ledger) state f i.kept place event new steps in
      let here : what_of (request (setup_in s) (state.task place)) steps.reply ≡ Some (what.Done w end) = steps.told ∙ ap Some tells in
      let at_place : what_of (request (setup_in s) (state.task (place_of moved.move))) steps.reply ≡ Some (what.Done w end) =
      subst (λ p. what_of (request (setup_in s) (state.task p)) steps.reply ≡ Some (what.Done w end)) (sym moved.at) here in
      let asks = told_done w (request (setup_in s) (state.task (place_of moved.move))) steps.reply (what.Done w end) at_place in
      let one_done : done_of w (what_of (request (setup_in s) (state.task (place_of moved.move))) steps.reply) ≡ 1 = ap (done_of w) at_place ∙ one-same w in
      ends_by s ledger (node_bios (scene s ledger) (start s) events state run no_bios) state told moved.move moved.can w end steps.reply (sym (asked_by (scene s ledger) state w moved.move moved.can) ∙ sym asks ∙ one_done) at_place

  ended_given : HasEnded state → HasGivenStatuses s state.objects.tally.statuses
  ended_given ended =
      let tally = run_tallied s ledger good naming events state run in
      record {
        all = told.all;
        each = λ number lt. elim (told.tallied number lt) [
          | inr x ↦ x
          | inl some ↦
              let r : ℕ = round_of s.rounds number in
              let none : total_weight (scene s ledger) (unfinished_of (is_of_round s.rounds r)) state ≡ 0 = sym (tally.left r) ∙ zero_at state.objects.tally.left r ended.writes in
              let u = unfinished_of (is_of_round s.rounds r) in
              absurd (omega (arith, some, none, within (stage number) u u u (stage_within s.rounds number) (scene s ledger) state))
        ];
      }

pub statuses_are_given : StatusesAreGiven
statuses_are_given s ledger events state good naming run = happens_given s ledger events state good naming run

pub ended_statuses_are_given : EndedStatusesAreGiven
ended_statuses_are_given s ledger events state good naming run = ended_given s ledger events state good naming run

-- what each completer brings
pub completers_are_right : (s : Scenario) (ledger : ℕ → LedgerId) (events : List Event) (state : State) → IsScenario s → IsNaming ledger
    → IsRun (scene s ledger) (start s) events state → (place : ℕ) → HasEnding (fault_of s.stack) (state.task place)
completers_are_right s ledger events state good naming run = (told s ledger events state good naming run).endings

pub nodes_are_valued : NodesAreValued
nodes_are_valued s ledger events state good naming run =
    let t = told s ledger events state good naming run in
    let f : LedgersAreNumbered (scene s ledger) = record { named = naming } in
    let i = runs_whole (scene s ledger) f (ground s.stack good.stack (setup_in s).places) (start s) events state (start_whole s ledger good naming) run in
    are_valued s (scene s ledger) (node_bios (scene s ledger) (start s) events state run no_bios) state i.kept t.mark t.tied t.valued
