-- Rounds are started in the order of their numbers.
use Rattle.std.proofs.Common.{◌≡◌, ◌+◌, ◌++◌, if◌then◌else◌, ℕ, Bool, true, false, List, [], ◌∷◌, length, refl, sym, ◌∙◌, ap, subst, arith}
use Rattle.std.specs.List.{range_with_len}
use Rattle.std.proofs.lemmas.Bool.{true≢false}
use Rattle.elem_ledger.specs.Ledger.{LedgerId}
use Rattle.run_machine.specs.declared.event.Event.{Event}
use Rattle.run_machine.specs.declared.event.What.{What}
use Rattle.run_machine.specs.declared.event.What.TheVariants as what
use Rattle.run_machine.specs.Objects.{Objects}
use Rattle.run_machine.specs.Opened.{Scenario, scene, start, setup_in}
use Rattle.run_machine.specs.Requests.{Request, TakeBio, NextRound}
use Rattle.run_machine.specs.Runs.{State, IsRun}
use Rattle.run_machine.specs.Tasks.{TaskState, Writer, Rescuer, Completer, Keeper, Keeps, Stops, Resizes, Starts, request}
use Rattle.run_machine.proofs.Able.{Needs, can_of}
use Rattle.block_core.specs.Scenarios.{IsScenario, IsNaming}
use Rattle.shared_objects.specs.Calls.{struck}
use Rattle.run_merge.specs.Entries.{Entry}
use Rattle.run_merge.specs.RoundNumbers.{round_told, rounds_told, RoundsAreNumbered}
use Rattle.run_merge.specs.Products.{is_next_round}
use Rattle.run_merge.proofs.products.KeeperAsks.{is_keeping, writer_keeps_none, rescuer_keeps_none, completer_keeps_none}
use Rattle.run_merge.proofs.products.StateBehind.{Behind, entry_of, at_start, one_more}
use Rattle.run_merge.proofs.products.KnownBehind.{RoundsKnown, rounds_known}
use Rattle.run_merge.proofs.products.LookLets.{round_after}

-- an event starts a round just where its task asks for it
abbrev numbers : Request → List ℕ
numbers (NextRound number) = number ∷ []
numbers request = []

asked_is : (old : Objects) (request : Request) (told : What) → Needs old request told → round_told told ≡ numbers request
asked_is old (NextRound round) (what.Round number) needs = ap (λ n. n ∷ []) needs.0
asked_is old (NextRound round) told needs = absurd needs
asked_is old (TakeBio set true) (what.Round number) needs = absurd needs
asked_is old (TakeBio set false) (what.Round number) needs = absurd needs
asked_is old request (what.Round number) needs = absurd needs
asked_is old request told needs = refl

round_number : Request → ℕ
round_number (NextRound number) = number
round_number request = 0

none : {X : Type 0} (b : Bool) → b ≡ true → b ≡ false → X
none b is not = absurd (true≢false (sym is ∙ not))

module _ (s : Scenario) (before : List Entry) (state : State) (known : RoundsKnown s before state) where
  -- which is the one behind the present round
  number_is : (place number : ℕ) (x : TaskState) → state.task place ≡ x → request (setup_in s) x ≡ NextRound number → number ≡ state.objects.tally.round + 1
  unfolding round_number
  number_is place number (Writer writer todo taken submission) at is =
      none (is_keeping (struck (request (setup_in s) (Writer writer todo taken submission)))) (ap (λ r. is_keeping (struck r)) is) (writer_keeps_none (setup_in s) writer todo taken submission.doing submission)
  number_is place number (Rescuer dev submission) at is =
      none (is_keeping (struck (request (setup_in s) (Rescuer dev submission)))) (ap (λ r. is_keeping (struck r)) is) (rescuer_keeps_none (setup_in s) dev submission.doing submission)
  number_is place number (Completer disk carried) at is =
      none (is_keeping (struck (request (setup_in s) (Completer disk carried)))) (ap (λ r. is_keeping (struck r)) is) (completer_keeps_none disk carried)
  number_is place number (Keeper (Keeps [])) at is = none false (ap is_keeping is) refl
  number_is place number (Keeper (Keeps (Resizes pool min later ∷ duties))) at is = none false (ap is_next_round is) refl
  number_is place number (Keeper (Keeps (Starts round later ∷ duties))) at is = sym (ap round_number is) ∙ known.next place round later duties at
  number_is place number (Keeper (Stops breach)) at is = none false (ap is_keeping is) refl

module _ (s : Scenario) (ledger : ℕ → LedgerId) (good : IsScenario s) (naming : IsNaming ledger) where
  numbered : (before : List Entry) (state : State) → Behind s ledger before state → (events : List Event) (last : State) → IsRun (scene s ledger) state events last
      → rounds_told events ≡ range_with_len (state.objects.tally.round + 1) (length (rounds_told events))
  numbered before state b [] last run = refl
  numbered before state b (event ∷ events) last (next, (place, steps), run) =
      by_request (request (setup_in s) (state.task place)) refl
      (numbered (before ++ entry_of (scene s ledger) state place event next steps ∷ []) next (one_more s ledger before state b place event next steps) events last run)
    where
      needs : Needs state.objects (request (setup_in s) (state.task place)) event.what
      needs = (can_of (scene s ledger) state next place event steps).needs

      started : round_told event.what ≡ numbers (request (setup_in s) (state.task place))
      started = asked_is state.objects (request (setup_in s) (state.task place)) event.what needs

      round_is : next.objects.tally.round ≡ state.objects.tally.round + (if is_next_round (request (setup_in s) (state.task place)) then 1 else 0)
      round_is = round_after ledger state.objects (request (setup_in s) (state.task place)) steps.reply next.objects steps.serves

      Goes : List ℕ → Type 0
      Goes here = here ++ rounds_told events ≡ range_with_len (state.objects.tally.round + 1) (length (here ++ rounds_told events))

      Rest : ℕ → Type 0
      Rest round = rounds_told events ≡ range_with_len (round + 1) (length (rounds_told events))

      by_request : (asks : Request) → request (setup_in s) (state.task place) ≡ asks → Rest next.objects.tally.round → Goes (round_told event.what)
      by_request (NextRound number) is rest =
          let n = number_is s before state (rounds_known s ledger good naming before state b.reached) place number (state.task place) refl is in
          let more : next.objects.tally.round ≡ state.objects.tally.round + 1 = round_is ∙ ap (λ r. state.objects.tally.round + (if is_next_round r then 1 else 0)) is in
          let here : round_told event.what ≡ (state.objects.tally.round + 1) ∷ [] = started ∙ ap numbers is ∙ ap (λ n. n ∷ []) n in
          subst Goes (sym here) (ap (λ l. (state.objects.tally.round + 1) ∷ l) (subst Rest more rest))
      by_request asks is rest =
          let same : next.objects.tally.round ≡ state.objects.tally.round =
          round_is ∙ ap (λ r. state.objects.tally.round + (if is_next_round r then 1 else 0)) is ∙ omega arith in
          subst Goes (sym (started ∙ ap numbers is)) (subst Rest same rest)

pub rounds_are_numbered : RoundsAreNumbered
rounds_are_numbered s ledger events last good naming run = numbered s ledger good naming [] (start s) (at_start s ledger) events last run
