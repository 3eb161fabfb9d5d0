-- What a task looks at lets it ask exactly where its next entry stands behind all that it has to.
use Rattle.std.proofs.Common.{◌≡◌, ◌+◌, ◌≤◌, ◌++◌, if◌then◌else◌, ℕ, Bool, true, false, List, [], ◌∷◌, length, filter, refl, sym, ◌∙◌, ap, subst, arith}
use Rattle.std.specs.Prelude.{IsTrue, sum, nat_le}
use Rattle.std.proofs.lemmas.Bool.{eq-eqb, eqb-true, le-leb, leb-true, true≢false}
use Rattle.std.proofs.lemmas.List.{length-append}
use Rattle.std.proofs.lemmas.List.Elements.{filter-append}
use Rattle.elem_ledger.specs.Ledger.{LedgerId}
use Rattle.run_machine.specs.Laws.{OfTally, object_of}
use Rattle.run_machine.specs.Submissions.{Doing, Rests}
use Rattle.run_machine.specs.Objects.{TallyState, Objects, Serves}
use Rattle.run_machine.specs.Opened.{Scenario, setup_in}
use Rattle.run_machine.specs.Requests as requests
use Rattle.run_machine.specs.Requests.{Request, Reply, Resize, NextRound, Did, Present, LeftOver}
use Rattle.run_machine.specs.Runs.{State, IsLet}
use Rattle.run_machine.specs.Tasks.{TaskState, Writer, Rescuer, Completer, Keeper, Keeps, Stops, Duty, Resizes, Starts, Todo, Gathered, NoBio, request, look_of, writer_look, later_of}
use Rattle.shared_objects.specs.Calls.{is_same_object, struck}
use Rattle.run_merge.specs.Entries.{Entry}
use Rattle.run_merge.specs.ObjectsByName.{object_named}
use Rattle.run_merge.specs.Products.{is_next_round, changes_reserve, rounds_started, AreDone, RoundHasCome, MayBegin}
use Rattle.run_merge.proofs.products.KeeperAsks.{is_keeping, writer_keeps_none, rescuer_keeps_none, completer_keeps_none}
use Rattle.run_merge.proofs.products.KnownBehind.{RoundsKnown, present_left}
use Rattle.run_merge.proofs.products.ObjectNames.{named_other}
use Rattle.run_merge.proofs.products.Served.{others_stay}

-- the present round rises where a round starts
pub round_after : (ledger : ℕ → LedgerId) (o : Objects) (request : Request) (reply : Reply) (new : Objects) → Serves ledger o request reply new
    → new.tally.round ≡ o.tally.round + (if is_next_round request then 1 else 0)
round_after ledger o request reply new h = by_object (is_same_object OfTally (object_of request)) refl
  where
    none_starts : (request : Request) → is_same_object OfTally (object_of request) ≡ false → is_next_round request ≡ false
    none_starts (NextRound round) off = absurd (true≢false off)
    none_starts request off = refl

    at_tally : (request : Request) (reply : Reply) → Serves ledger o request reply new → is_same_object OfTally (object_of request) ≡ true
        → new.tally.round ≡ o.tally.round + (if is_next_round request then 1 else 0)
    -- ends of writes: the same round
    at_tally (requests.Done write status) Did h on = ap (λ (x : Objects). x.tally.round) h ∙ omega arith
    at_tally (requests.Done write status) reply h on = absurd h
    -- starts of rounds: one round later
    at_tally (NextRound round) Did h on = ap (λ (x : Objects). x.tally.round) h.1
    at_tally (NextRound round) reply h on = absurd h
    -- looks: the same round
    at_tally requests.LookRound (Present round) h on = ap (λ (x : Objects). x.tally.round) h.1 ∙ omega arith
    at_tally requests.LookRound reply h on = absurd h
    at_tally requests.LookLeft (LeftOver count) h on = ap (λ (x : Objects). x.tally.round) h.1 ∙ omega arith
    at_tally requests.LookLeft reply h on = absurd h
    -- a tally is asked nothing else
    at_tally request reply h on = absurd (true≢false (sym on))

    by_object : (b : Bool) → is_same_object OfTally (object_of request) ≡ b → new.tally.round ≡ o.tally.round + (if is_next_round request then 1 else 0)
    by_object true on = at_tally request reply h on
    by_object false off =
        let same = ap (λ (x : Objects). x.tally.round) (others_stay ledger o request reply new h)
        ∙ ap (λ (t : TallyState). t.round) (named_other o (object_of request) OfTally (object_named new (object_of request)) off) in
        let none : (if is_next_round request then 1 else 0) + 0 ≡ 0 = ap (λ b. (if b then 1 else 0) + 0) (none_starts request off) in
        omega (arith, same, none)

pub started_more : (before : List Entry) (e : Entry) → rounds_started (before ++ e ∷ []) ≡ rounds_started before + (if is_next_round e.asked then 1 else 0)
started_more before e =
    ap (λ (l : List Entry). length l) (filter-append (λ (x : Entry). is_next_round x.asked) before (e ∷ []))
    ∙ length-append (filter (λ (x : Entry). is_next_round x.asked) before) (filter (λ (x : Entry). is_next_round x.asked) (e ∷ []))
    ∙ ap (λ n. rounds_started before + n) (by_test (is_next_round e.asked))
  where
    by_test : (b : Bool) → length (if b then e ∷ [] else []) ≡ (if b then 1 else 0)
    by_test true = refl
    by_test false = refl

-- what stands before an entry of a task
pub record ComesBehind (s : Scenario) (before : List Entry) (task : TaskState) (asked : Request) : Type 0 where
  pub takes : MayBegin task before
  pub rounds : IsTrue (is_next_round asked) → AreDone s (rounds_started before + 1) before
  pub resizes : IsTrue (changes_reserve asked) → AreDone s (rounds_started before + 1) before

starts_keeping : (request : Request) → is_next_round request ≡ true → is_keeping request ≡ true
starts_keeping (NextRound round) starts = refl
starts_keeping request starts = absurd (true≢false (sym starts))

changes_keeping : (request : Request) → changes_reserve request ≡ true → is_keeping request ≡ true
changes_keeping (Resize pool min) changes = refl
changes_keeping request changes = absurd (true≢false (sym changes))

-- nothing has to be done before what no keeper asks
no_keeper : (s : Scenario) (before : List Entry) (task : TaskState) (asked : Request) → MayBegin task before → is_keeping asked ≡ false → ComesBehind s before task asked
no_keeper s before task asked may none = record {
  takes = may;
  rounds = λ starts. absurd (true≢false (sym (starts_keeping asked starts) ∙ none));
  resizes = λ changes. absurd (true≢false (sym (changes_keeping asked changes) ∙ none));
}

module _ (s : Scenario) (ledger : ℕ → LedgerId) (before : List Entry) (state : State) (known : RoundsKnown s before state) (count : rounds_started before ≡ state.objects.tally.round) where
  -- by the tally, all writes are done of the rounds up to the present one
  all_done : (place : ℕ) (duty : Duty) (duties : List Duty) → state.task place ≡ Keeper (Keeps (duty ∷ duties)) → sum state.objects.tally.left ≡ later_of duty
      → AreDone s (rounds_started before + 1) before
  all_done place duty duties at left =
      let later = known.duties place duty duties at in
      let none : present_left state ≡ 0 = omega (arith, known.sums, left, later) in
      subst (λ n. AreDone s (n + 1) before) (sym count) (known.done none)

  left_is : (place : ℕ) (duty : Duty) (duties : List Duty) → state.task place ≡ Keeper (Keeps (duty ∷ duties)) → AreDone s (rounds_started before + 1) before
      → sum state.objects.tally.left ≡ later_of duty
  left_is place duty duties at done =
      let later = known.duties place duty duties at in
      let none = known.home (subst (λ n. AreDone s (n + 1) before) count done) in
      omega (arith, known.sums, none, later)

  pub lets : (place : ℕ) (x : TaskState) → state.task place ≡ x → ComesBehind s before x (struck (request (setup_in s) x)) → IsLet ledger state.objects x (look_of x)
  -- writers: the round of a write that begins has come
  lets place (Writer number todo taken submission) at comes = by_writer todo taken submission.doing comes.takes
    where
      by_writer : (todo : List Todo) (taken : Gathered) (doing : Doing) → RoundHasCome todo taken doing before
          → IsLet ledger state.objects (Writer number todo taken submission) (writer_look todo taken doing)
      by_writer [] taken doing come = tt
      by_writer (todo ∷ later) NoBio Rests come = (Present state.objects.tally.round, (refl, refl), le-leb todo.round state.objects.tally.round (omega (arith, come, count)))
      by_writer (todo ∷ later) NoBio doing come = tt
      by_writer (todo ∷ later) taken doing come = tt
  -- rescuers and completers look at nothing
  lets place (Rescuer dev submission) at comes = tt
  lets place (Completer disk carried) at comes = tt
  -- the keeper: all writes that its duty waits for have ended, and with no duty it looks at nothing
  lets place (Keeper (Keeps [])) at comes = tt
  lets place (Keeper (Keeps (Starts round later ∷ duties))) at comes = (
    LeftOver (sum state.objects.tally.left),
    (refl, refl),
    eq-eqb (sum state.objects.tally.left) later (left_is place (Starts round later) duties at (comes.rounds refl)),
  )
  lets place (Keeper (Keeps (Resizes pool min later ∷ duties))) at comes = (
    LeftOver (sum state.objects.tally.left),
    (refl, refl),
    eq-eqb (sum state.objects.tally.left) later (left_is place (Resizes pool min later) duties at (comes.resizes refl)),
  )
  lets place (Keeper (Stops breach)) at comes = tt

  pub comes_by : (place : ℕ) (x : TaskState) → state.task place ≡ x → IsLet ledger state.objects x (look_of x) → ComesBehind s before x (struck (request (setup_in s) x))
  comes_by place (Writer number todo taken submission) at may =
      no_keeper s before (Writer number todo taken submission) (struck (request (setup_in s) (Writer number todo taken submission)))
      (by_writer todo taken submission.doing may) (writer_keeps_none (setup_in s) number todo taken submission.doing submission)
    where
      by_round : (round now : ℕ) → now ≡ state.objects.tally.round → nat_le round now ≡ true → round ≤ rounds_started before
      by_round round now at le = let few = leb-true round now le in omega (arith, at, few, count)

      by_writer : (todo : List Todo) (taken : Gathered) (doing : Doing) → IsLet ledger state.objects (Writer number todo taken submission) (writer_look todo taken doing)
          → RoundHasCome todo taken doing before
      by_writer [] taken doing may = tt
      by_writer (todo ∷ later) NoBio Rests (Present now, serves, le) = by_round todo.round now serves.0 le
      by_writer (todo ∷ later) NoBio Rests (seen, serves, le) = absurd serves
      by_writer (todo ∷ later) NoBio doing may = tt
      by_writer (todo ∷ later) taken doing may = tt
  comes_by place (Rescuer dev submission) at may =
      no_keeper s before (Rescuer dev submission) (struck (request (setup_in s) (Rescuer dev submission))) tt (rescuer_keeps_none (setup_in s) dev submission.doing submission)
  comes_by place (Completer disk carried) at may =
      no_keeper s before (Completer disk carried) (struck (request (setup_in s) (Completer disk carried))) tt (completer_keeps_none disk carried)
  comes_by place (Keeper (Keeps [])) at may = record { takes = tt; rounds = λ starts. absurd (true≢false (sym starts)); resizes = λ changes. absurd (true≢false (sym changes)) }
  comes_by place (Keeper (Keeps (duty ∷ duties))) at (LeftOver many, serves, same) =
      let done = all_done place duty duties at (sym serves.0 ∙ eqb-true many (later_of duty) same) in
      record { takes = tt; rounds = λ starts. done; resizes = λ changes. done }
  comes_by place (Keeper (Keeps (duty ∷ duties))) at (seen, serves, same) = absurd serves
  comes_by place (Keeper (Stops breach)) at may = record { takes = tt; rounds = λ starts. absurd (true≢false (sym starts)); resizes = λ changes. absurd (true≢false (sym changes)) }
