-- Rounds of writes: the tally counts what is unfinished, and nothing of a later round is begun.
use Rattle.std.proofs.Common.{◌≡◌, ◌≢◌, ◌+◌, ◌-◌, ◌*◌, ◌<◌, ◌≤◌, ◌⊎◌, ℕ, List, [], ◌∷◌, length, None, Some, inl, inr, refl, sym, ◌∙◌, ap, subst, arith, get_or, set}
use Rattle.std.specs.Prelude.{slice_index_or, sum}
use Rattle.std.proofs.lemmas.List.{length-set, get_or-set_same, get_or-set_other}
use Rattle.std.proofs.lemmas.List.Sums.{sum_by-set}
use Rattle.stack_base.specs.declared.ids.DevId.{DevId}
use Rattle.stack_base.proofs.ListLemmas.{Each}
use Rattle.bio_books.specs.Drops.{Closed}
use Rattle.run_machine.specs.Maps.{upd}
use Rattle.run_machine.specs.Scene.{Scene}
use Rattle.run_machine.specs.Submissions.{Submission, rests}
use Rattle.run_machine.specs.Tasks.{TaskState, Writer, Rescuer, Completer, Keeper, Keeping, Keeps, Stops, Duty, Resizes, Starts, Todo, Gathered, NoBio, Carries}
use Rattle.run_machine.specs.Runs.{State}
use Rattle.block_core.specs.Weights.{Weight, total_weight, one_if_same, task_weight}
use Rattle.block_core.proofs.moves.Moves.{Move, Can, after, with_submission, gathered_of}
use Rattle.block_core.proofs.moves.Moves as moves
use Rattle.block_core.proofs.moves.Sums.{upd-same, upd-other, one-same, one-other, same_or_not, below_or}
use Rattle.block_core.proofs.moves.Totals.{part_of}
use Rattle.run_machine.specs.Objects.{TallyState}
use Rattle.run_machine.specs.Opened.{in_round, from_round}
use Rattle.run_machine.proofs.Frames.{upd_keeps}
use Rattle.run_machine.proofs.FromRounds.{from_next}
use Rattle.block_core.specs.Rounds.{round_of, is_of_round, tops_left, all_worth, gathered_worth, unfinished_of, begun_of}
use Rattle.block_core.proofs.sound.EventStages.{staged, ended_worth, to_come_before, to_come_after}

-- each write that a writer has still to begin is of its round
abbrev pub TodosFit : List ℕ → List Todo → Type 0
TodosFit rounds todos = Each (λ (todo : Todo). round_of rounds todo.number ≡ todo.round) todos

-- what the keeper does next belongs to the round behind the present one
abbrev pub DutiesFit : List ℕ → ℕ → List Duty → Type 0
DutiesFit rounds present [] = Unit {0}
DutiesFit rounds present (Resizes pool min later ∷ duties) = (later ≡ from_round rounds (present + 1)) × DutiesFit rounds present duties
DutiesFit rounds present (Starts round later ∷ duties) =
    (round ≡ present + 1) × (later ≡ from_round rounds (present + 1)) × DutiesFit rounds (present + 1) duties

-- only the task at one place keeps rounds
abbrev pub KeepingFits : List ℕ → ℕ → ℕ → ℕ → Keeping → Type 0
KeepingFits rounds keeper present place (Keeps []) = Unit {0}
KeepingFits rounds keeper present place (Keeps (duty ∷ duties)) = (place ≡ keeper) × DutiesFit rounds present (duty ∷ duties)
KeepingFits rounds keeper present place (Stops breach) = Unit {0}

abbrev pub TaskRounds : List ℕ → ℕ → ℕ → ℕ → TaskState → Type 0
TaskRounds rounds keeper present place (Writer number todo taken submission) = TodosFit rounds todo
TaskRounds rounds keeper present place (Rescuer dev submission) = Unit {0}
TaskRounds rounds keeper present place (Completer disk carried) = Unit {0}
TaskRounds rounds keeper present place (Keeper keeping) = KeepingFits rounds keeper present place keeping

-- the tally by itself
pub record TallyFits (rounds : List ℕ) (tally : TallyState) : Type 0 where
  -- no write of an earlier round is unfinished
  pub past : (r : ℕ) → r < tally.round → slice_index_or tally.left r 0 ≡ 0
  -- nothing is done of later rounds
  pub whole : (r : ℕ) → tally.round < r → r < length tally.left → slice_index_or tally.left r 0 ≡ in_round rounds r
  pub sums : sum tally.left ≡ slice_index_or tally.left tally.round 0 + from_round rounds (tally.round + 1)
  pub present : tally.round < length tally.left

pub record Tallied (rounds : List ℕ) (keeper : ℕ) (scene : Scene) (s : State) : Type 0 where
  pub left : (r : ℕ) → slice_index_or s.objects.tally.left r 0 ≡ total_weight scene (unfinished_of (is_of_round rounds r)) s
  pub later : (r : ℕ) → s.objects.tally.round < r → total_weight scene (begun_of (is_of_round rounds r)) s ≡ 0
  pub tally : TallyFits rounds s.objects.tally
  pub tasks : (place : ℕ) → TaskRounds rounds keeper s.objects.tally.round place (s.task place)

module _ (rounds : List ℕ) (keeper : ℕ) (scene : Scene) (s : State) (i : Tallied rounds keeper scene s) where
  -- what the carried top of a write is worth is in the sum
  carried_part : (w : Weight) (place : ℕ) (disk : DevId) (writer : ℕ) (closed : Closed) → place < scene.tasks → s.task place ≡ Completer disk (Carries writer closed)
      → w.closed place writer closed ≤ total_weight scene w s
  carried_part w place disk writer closed lt is =
      let a : task_weight w place (s.task place) ≡ w.closed place writer closed = ap (task_weight w place) is in
      let b = part_of (task_weight w) scene.tasks s.task place lt in
      omega (arith, a, b)

  -- a write that is told done is of the present round
  pub of_present : (place : ℕ) (disk : DevId) (writer : ℕ) (closed : Closed) → Can scene s (moves.Ends place disk writer closed)
      → (round_of rounds closed.write ≡ s.objects.tally.round) × (1 ≤ slice_index_or s.objects.tally.left s.objects.tally.round 0)
  of_present place disk writer closed c = (same, subst (λ n. 1 ≤ slice_index_or s.objects.tally.left n 0) same some)
    where
      r : ℕ
      r = round_of rounds closed.write

      worth_one : tops_left closed.parent * one_if_same r r ≡ 1
      worth_one = ap (λ parent. tops_left parent * one_if_same r r) c.3 ∙ omega (arith, one-same r)

      some : 1 ≤ slice_index_or s.objects.tally.left r 0
      some = omega (arith, i.left r, worth_one, carried_part (unfinished_of (is_of_round rounds r)) place disk writer closed c.0 c.1)

      same : r ≡ s.objects.tally.round
      same =
          let not_past : s.objects.tally.round ≤ r = by_two (below_or r s.objects.tally.round) in
          let not_later : r ≤ s.objects.tally.round = by_other (below_or s.objects.tally.round r) in
          omega (arith, not_past, not_later)
        where
          by_two : (r < s.objects.tally.round) ⊎ (s.objects.tally.round ≤ r) → s.objects.tally.round ≤ r
          by_two (inl lt) = absurd (omega (arith, i.tally.past r lt, some))
          by_two (inr ge) = ge

          by_other : (s.objects.tally.round < r) ⊎ (r ≤ s.objects.tally.round) → r ≤ s.objects.tally.round
          by_other (inl lt) = absurd (omega (arith, i.later r lt, worth_one, carried_part (begun_of (is_of_round rounds r)) place disk writer closed c.0 c.1))
          by_other (inr ge) = ge

  at_task : (place : ℕ) (x : TaskState) → s.task place ≡ x → TaskRounds rounds keeper s.objects.tally.round place x
  at_task place x is = subst (TaskRounds rounds keeper s.objects.tally.round place) is (i.tasks place)

  goes : (place : ℕ) (y : TaskState) → TaskRounds rounds keeper s.objects.tally.round place y → (j : ℕ) → TaskRounds rounds keeper s.objects.tally.round j (upd s.task place y j)
  goes place y fits = upd_keeps (TaskRounds rounds keeper s.objects.tally.round) s.task place y i.tasks fits

  relined : (place : ℕ) (x : TaskState) (new : Submission) → TaskRounds rounds keeper s.objects.tally.round place x → TaskRounds rounds keeper s.objects.tally.round place (with_submission x new)
  relined place (Writer number todo taken submission) new t = t
  relined place (Rescuer dev submission) new t = tt
  relined place (Completer disk carried) new t = tt
  relined place (Keeper keeping) new t = t

  on_submission : (place : ℕ) (x : TaskState) (new : Submission) → s.task place ≡ x → (j : ℕ) → TaskRounds rounds keeper s.objects.tally.round j (upd s.task place (with_submission x new) j)
  on_submission place x new is = goes place (with_submission x new) (relined place x new (at_task place x is))

  keeps_fit : (place : ℕ) (duties : List Duty) (present : ℕ) → place ≡ keeper → DutiesFit rounds present duties → KeepingFits rounds keeper present place (Keeps duties)
  keeps_fit place [] present at d = tt
  keeps_fit place (duty ∷ duties) present at d = (at, d)

  -- another task keeps no rounds
  others : (place other : ℕ) (x : TaskState) (later : ℕ) → place ≡ keeper → other ≢ place → TaskRounds rounds keeper s.objects.tally.round other x → TaskRounds rounds keeper later other x
  others place other (Writer number todo taken submission) later at ne t = t
  others place other (Rescuer dev submission) later at ne t = tt
  others place other (Completer disk carried) later at ne t = tt
  others place other (Keeper (Keeps [])) later at ne t = tt
  others place other (Keeper (Keeps (duty ∷ duties))) later at ne t = absurd (ne (t.0 ∙ sym at))
  others place other (Keeper (Stops breach)) later at ne t = tt

  started : (place round later : ℕ) (duties : List Duty) → Can scene s (moves.Started place round later duties) → (j : ℕ) → TaskRounds rounds keeper (s.objects.tally.round + 1) j (upd s.task place (Keeper (Keeps duties)) j)
  started place round later duties c j =
      let t = at_task place _ c.1 in
      elim (same_or_not j place) [
        | inl e ↦
            let P : ℕ → Type 0 = λ n. TaskRounds rounds keeper (s.objects.tally.round + 1) n (upd s.task place (Keeper (Keeps duties)) n) in
            subst P (sym e) (subst (TaskRounds rounds keeper (s.objects.tally.round + 1) place) (sym (upd-same s.task place (Keeper (Keeps duties))))
            (keeps_fit place duties (s.objects.tally.round + 1) t.0 t.1.2))
        | inr ne ↦
            subst (TaskRounds rounds keeper (s.objects.tally.round + 1) j) (sym (upd-other s.task place (Keeper (Keeps duties)) j ne)) (others place j (s.task j) (s.objects.tally.round + 1) t.0 ne (i.tasks j))
      ]

  tasks : (m : Move) → Can scene s m → (j : ℕ) → TaskRounds rounds keeper (after scene s m).objects.tally.round j ((after scene s m).task j)
  -- takes, misses, punts, pops, pushes and completions: writers and the keeper have the same before them
  tasks (moves.TakesFirst place writer todo later move) c = goes place _ (at_task place _ c.1)
  tasks (moves.TakesVector place writer todo later item move) c = goes place _ (at_task place _ c.1)
  tasks (moves.TakesSub place x doing lists dev waits move) c = on_submission place x _ c.1
  tasks (moves.TakesSlip place x bio lists move) c = on_submission place x _ c.1
  tasks (moves.MissesOne place x number used) c = goes place x (at_task place x c.1)
  tasks (moves.MissesTry place x doing lists dev used) c = on_submission place x _ c.1
  tasks (moves.Punts place x doing lists dev) c = on_submission place x _ c.1
  tasks (moves.Pops place dev bio bios) c = goes place _ tt
  tasks (moves.Pushes place x bio lists) c = on_submission place x _ c.1
  tasks (moves.Completed place disk index bio status new) c = goes place _ tt
  -- links of writes: the writes behind it are of their rounds
  tasks (moves.Begins place writer todo later item vector key) c =
      let t = at_task place (Writer writer (todo ∷ later) (gathered_of item vector) rests) c.1 in goes place _ t.1
  -- links of pieces, of masters and of legs: writers and the keeper have the same before them
  tasks (moves.Chained place x bio lists hand number kind sizes members key node) c = on_submission place x _ c.1
  tasks (moves.Mastered place x bio lists slip key node) c = on_submission place x _ c.1
  tasks (moves.Legged place x bio lists master leg hand key node) c = on_submission place x _ c.1
  -- drops, gives and ends of writes: by completers, which have no rounds
  tasks (moves.Told place disk carried writer key status part node) c = goes place _ tt
  tasks (moves.Closes place disk carried writer key status part node) c = goes place _ tt
  tasks (moves.Gives place disk writer number closed held) c = goes place _ tt
  tasks (moves.Ends place disk writer closed) c = goes place _ tt
  -- resizes: the duties behind it fit the present round
  tasks (moves.Resized place pool min later duties) c =
      let t = at_task place _ c.1 in goes place _ (keeps_fit place duties s.objects.tally.round t.0 t.1.1)
  -- rounds: the duties behind it fit the next round
  tasks (moves.Started place round later duties) c = started place round later duties c

  -- an event that leaves the tally as it is
  quiet : (m : Move) → Can scene s m → (after scene s m).objects.tally ≡ s.objects.tally → ((r : ℕ) → ended_worth (is_of_round rounds r) m ≡ 0)
      → ((r : ℕ) → to_come_before (λ todos taken. all_worth (is_of_round rounds r) todos) m ≡ to_come_after scene (λ todos taken. all_worth (is_of_round rounds r) todos) (is_of_round rounds r) m)
      → ((r : ℕ) → s.objects.tally.round < r → to_come_before (gathered_worth (is_of_round rounds r)) m ≡ to_come_after scene (gathered_worth (is_of_round rounds r)) (is_of_round rounds r) m)
      → Tallied rounds keeper scene (after scene s m)
  quiet m c same none all begun = record {
    left = λ r. omega (
      arith,
      ap (λ (tally : TallyState). slice_index_or tally.left r 0) same,
      i.left r,
      staged (λ todos taken. all_worth (is_of_round rounds r) todos) (is_of_round rounds r) scene s m c,
      all r,
      none r,
    );
    later = λ r lt.
        let before : s.objects.tally.round < r = subst (λ (tally : TallyState). tally.round < r) same lt in
        omega (arith, i.later r before, staged (gathered_worth (is_of_round rounds r)) (is_of_round rounds r) scene s m c, begun r before, none r);
    tally = subst (TallyFits rounds) (sym same) i.tally;
    tasks = tasks m c;
  }

  -- a write that is begun is not of a later round
  not_later : (place writer : ℕ) (todo : Todo) (later : List Todo) (taken : Gathered) (submission : Submission) → s.task place ≡ Writer writer (todo ∷ later) taken submission → todo.round ≤ s.objects.tally.round
      → (r : ℕ) → s.objects.tally.round < r → 0 ≡ is_of_round rounds r todo.number
  not_later place writer todo later taken submission is le r lt =
      let t = at_task place _ is in
      let own : round_of rounds todo.number ≡ todo.round = t.0 in
      sym (one-other (round_of rounds todo.number) r (λ e. omega (arith, e, own, le, lt)))

  -- a write of the present round is done
  ends : (place : ℕ) (disk : DevId) (writer : ℕ) (closed : Closed) → Can scene s (moves.Ends place disk writer closed) → Tallied rounds keeper scene (after scene s (moves.Ends place disk writer closed))
  ends place disk writer closed c =
      let m = moves.Ends place disk writer closed in
      let now = s.objects.tally.round in
      let left = s.objects.tally.left in
      let own = of_present place disk writer closed c in
      let here : round_of rounds closed.write ≡ now = own.0 in
      let some = own.1 in
      let lt = i.tally.present in
      let set_here : get_or (set left now (get_or left now 0 - 1)) now 0 ≡ get_or left now 0 - 1 = get_or-set_same left now (get_or left now 0 - 1) 0 lt in
      let total_sum = sum_by-set (λ (n : ℕ). n) left now (get_or left now 0 - 1) 0 lt in
      let total_less : sum (set left now (get_or left now 0 - 1)) + 1 ≡ sum left = omega (arith, total_sum, some) in
      record {
        left = λ r. by_round r (same_or_not r now);
        later = λ r before. omega (arith, i.later r before, staged (gathered_worth (is_of_round rounds r)) (is_of_round rounds r) scene s m c);
        tally = record {
          past = λ r before. get_or-set_other left now r (get_or left now 0 - 1) 0 (λ e. omega (arith, e, before)) ∙ i.tally.past r before;
          whole = λ r before few.
              get_or-set_other left now r (get_or left now 0 - 1) 0 (λ e. omega (arith, e, before)) ∙ i.tally.whole r before (omega (arith, few, length-set left now (get_or left now 0 - 1)));
          sums = omega (arith, i.tally.sums, total_less, set_here, some);
          present = omega (arith, lt, length-set left now (get_or left now 0 - 1));
        };
        tasks = tasks m c;
      }
    where
      by_round : (r : ℕ) → (r ≡ s.objects.tally.round) ⊎ (r ≢ s.objects.tally.round)
          → get_or (set s.objects.tally.left s.objects.tally.round (get_or s.objects.tally.left s.objects.tally.round 0 - 1)) r 0
          ≡ total_weight scene (unfinished_of (is_of_round rounds r)) (after scene s (moves.Ends place disk writer closed))
      by_round r (inl e) =
          let own = of_present place disk writer closed c in
          let now = s.objects.tally.round in
          let left = s.objects.tally.left in
          let mine : one_if_same (round_of rounds closed.write) r ≡ 1 = ap (λ n. one_if_same n r) (own.0 ∙ sym e) ∙ one-same r in
          let set_here : get_or (set left now (get_or left now 0 - 1)) now 0 ≡ get_or left now 0 - 1 = get_or-set_same left now (get_or left now 0 - 1) 0 i.tally.present in
          let at : get_or (set left now (get_or left now 0 - 1)) r 0 ≡ get_or (set left now (get_or left now 0 - 1)) now 0 = ap (λ n. get_or (set left now (get_or left now 0 - 1)) n 0) e in
          let old : get_or left r 0 ≡ get_or left now 0 = ap (λ n. get_or left n 0) e in
          omega (arith, own.1, mine, at, set_here, old, i.left r, staged (λ todos taken. all_worth (is_of_round rounds r) todos) (is_of_round rounds r) scene s (moves.Ends place disk writer closed) c)
      by_round r (inr ne) =
          let own = of_present place disk writer closed c in
          let now = s.objects.tally.round in
          let left = s.objects.tally.left in
          let none : one_if_same (round_of rounds closed.write) r ≡ 0 = one-other (round_of rounds closed.write) r (λ e. ne (sym e ∙ own.0)) in
          let stays : get_or (set left now (get_or left now 0 - 1)) r 0 ≡ get_or left r 0 = get_or-set_other left now r (get_or left now 0 - 1) 0 ne in
          omega (arith, none, stays, i.left r, staged (λ todos taken. all_worth (is_of_round rounds r) todos) (is_of_round rounds r) scene s (moves.Ends place disk writer closed) c)

  -- the next round starts
  starts : (place round later : ℕ) (duties : List Duty) → Can scene s (moves.Started place round later duties) → Tallied rounds keeper scene (after scene s (moves.Started place round later duties))
  starts place round later duties c =
      let m = moves.Started place round later duties in
      let now = s.objects.tally.round in
      let left = s.objects.tally.left in
      let t = at_task place _ c.1 in
      let later_is : later ≡ from_round rounds (now + 1) = t.1.1 in
      let seen : sum left ≡ later = c.3 in
      let done : slice_index_or left now 0 ≡ 0 = omega (arith, i.tally.sums, later_is, seen) in
      let more = from_next rounds (now + 1) in
      let lt : now + 1 < length left = c.2 in
      let next : slice_index_or left (now + 1) 0 ≡ in_round rounds (now + 1) = i.tally.whole (now + 1) (omega arith) lt in
      record {
        left = λ r. omega (arith, i.left r, staged (λ todos taken. all_worth (is_of_round rounds r) todos) (is_of_round rounds r) scene s m c);
        later = λ r before. omega (arith, i.later r (omega (arith, before)), staged (gathered_worth (is_of_round rounds r)) (is_of_round rounds r) scene s m c);
        tally = record {
          past = λ r before. by_round r (same_or_not r now) before done;
          whole = λ r before few. i.tally.whole r (omega (arith, before)) few;
          sums = omega (arith, later_is, seen, next, more);
          present = lt;
        };
        tasks = tasks m c;
      }
    where
      by_round : (r : ℕ) → (r ≡ s.objects.tally.round) ⊎ (r ≢ s.objects.tally.round) → r < s.objects.tally.round + 1
          → slice_index_or s.objects.tally.left s.objects.tally.round 0 ≡ 0 → slice_index_or s.objects.tally.left r 0 ≡ 0
      by_round r (inl e) before done = ap (λ n. slice_index_or s.objects.tally.left n 0) e ∙ done
      by_round r (inr ne) before done = i.tally.past r (omega (arith, before, ne))

  pub stays_tallied : (m : Move) → Can scene s m → Tallied rounds keeper scene (after scene s m)
  -- takes of bios by writers: the write is not of a later round
  stays_tallied (moves.TakesFirst place writer todo later move) c =
      quiet (moves.TakesFirst place writer todo later move) c refl (λ r. refl) (λ r. refl) (λ r lt. not_later place writer todo later NoBio rests c.1 c.3 r lt)
  -- other takes, misses, punts, pops, pushes and completions: no write is begun or done
  stays_tallied (moves.TakesVector place writer todo later item move) c = quiet (moves.TakesVector place writer todo later item move) c refl (λ r. refl) (λ r. refl) (λ r lt. refl)
  stays_tallied (moves.TakesSub place x doing lists dev waits move) c = quiet (moves.TakesSub place x doing lists dev waits move) c refl (λ r. refl) (λ r. refl) (λ r lt. refl)
  stays_tallied (moves.TakesSlip place x bio lists move) c = quiet (moves.TakesSlip place x bio lists move) c refl (λ r. refl) (λ r. refl) (λ r lt. refl)
  stays_tallied (moves.MissesOne place x number used) c = quiet (moves.MissesOne place x number used) c refl (λ r. refl) (λ r. refl) (λ r lt. refl)
  stays_tallied (moves.MissesTry place x doing lists dev used) c = quiet (moves.MissesTry place x doing lists dev used) c refl (λ r. refl) (λ r. refl) (λ r lt. refl)
  stays_tallied (moves.Punts place x doing lists dev) c = quiet (moves.Punts place x doing lists dev) c refl (λ r. refl) (λ r. refl) (λ r lt. refl)
  stays_tallied (moves.Pops place dev bio bios) c = quiet (moves.Pops place dev bio bios) c refl (λ r. refl) (λ r. refl) (λ r lt. refl)
  stays_tallied (moves.Pushes place x bio lists) c = quiet (moves.Pushes place x bio lists) c refl (λ r. refl) (λ r. refl) (λ r lt. refl)
  stays_tallied (moves.Completed place disk index bio status new) c = quiet (moves.Completed place disk index bio status new) c refl (λ r. refl) (λ r. refl) (λ r lt. refl)
  -- links of writes: the write was counted as one that is to come, and is counted by its top node
  stays_tallied (moves.Begins place writer todo later item None key) c =
      quiet (moves.Begins place writer todo later item None key) c refl (λ r. refl) (λ r. omega arith) (λ r lt. omega arith)
  stays_tallied (moves.Begins place writer todo later item (Some vector) key) c =
      quiet (moves.Begins place writer todo later item (Some vector) key) c refl (λ r. refl) (λ r. omega arith) (λ r lt. omega arith)
  -- links of pieces, of masters and of legs, drops and gives: no write is begun or done
  stays_tallied (moves.Chained place x bio lists hand number kind sizes members key node) c =
      quiet (moves.Chained place x bio lists hand number kind sizes members key node) c refl (λ r. refl) (λ r. refl) (λ r lt. refl)
  stays_tallied (moves.Mastered place x bio lists slip key node) c = quiet (moves.Mastered place x bio lists slip key node) c refl (λ r. refl) (λ r. refl) (λ r lt. refl)
  stays_tallied (moves.Legged place x bio lists master leg hand key node) c = quiet (moves.Legged place x bio lists master leg hand key node) c refl (λ r. refl) (λ r. refl) (λ r lt. refl)
  stays_tallied (moves.Told place disk carried writer key status part node) c =
      quiet (moves.Told place disk carried writer key status part node) c refl (λ r. refl) (λ r. refl) (λ r lt. refl)
  stays_tallied (moves.Closes place disk carried writer key status part node) c =
      quiet (moves.Closes place disk carried writer key status part node) c refl (λ r. refl) (λ r. refl) (λ r lt. refl)
  stays_tallied (moves.Gives place disk writer number closed held) c = quiet (moves.Gives place disk writer number closed held) c refl (λ r. refl) (λ r. refl) (λ r lt. refl)
  -- ends of writes: a write of the present round is done
  stays_tallied (moves.Ends place disk writer closed) c = ends place disk writer closed c
  -- resizes: no write is begun or done
  stays_tallied (moves.Resized place pool min later duties) c = quiet (moves.Resized place pool min later duties) c refl (λ r. refl) (λ r. refl) (λ r lt. refl)
  -- rounds: the next round starts
  stays_tallied (moves.Started place round later duties) c = starts place round later duties c
