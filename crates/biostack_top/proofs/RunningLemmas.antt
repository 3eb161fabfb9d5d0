-- What the run of a text is, and what it leaves.
use Rattle.std.proofs.Common.{◌≡◌, ◌*◌, ◌^◌, ◌<◌, ◌≤◌, ℕ, suc, Bool, true, false, true≢false, List, [], ◌∷◌, length, refl, sym, subst, ◌∙◌, arith}
use Rattle.std.specs.Option.{is_some}
use Rattle.std.specs.Prelude.{Contains, Result, Ok, Err, IfOk, IsOk}
use Rattle.std.proofs.lemmas.List.Sums.{sum_by-cons}
use Rattle.stack_base.specs.declared.stack.Stack.{Stack}
use Rattle.layout_model.specs.declared.write.Write.{Write}
use Rattle.layout_model.specs.Bound.{all_elements}
use Rattle.layout_model.specs.NeedCounts.{elements}
use Rattle.decl_text.specs.declared.accepted.Accepted.{Accepted}
use Rattle.work_text.specs.declared.Work.{Work}
use Rattle.work_text.proofs.Ready.{writes_ready}
use Rattle.task_core.specs.declared.ended.Ended.{Ended}
use Rattle.run_machine.specs.declared.event.Event.{Event}
use Rattle.task_core.specs.declared.opening.Opened.{Opened}
use Rattle.task_core.specs.opened.OfOne.{IsOpened, scenario_in}
use Rattle.run_machine.specs.ReadBehind.{IsReadBehind}
use Rattle.task_core.specs.Plains.{stage_of}
use Rattle.run_machine.specs.Opened.{scene, start}
use Rattle.run_machine.specs.Scenario.{scenario_of}
use Rattle.block_core.proofs.claim.Claim.{accepted_texts_run_as_claimed}
use Rattle.block_core.proofs.claim.Runnable.{accepted_texts_are_runnable, steps_fit_in_24_bits}
use Rattle.rand_pcg.specs.Lcg.{Lcg}
use Rattle.serial_run.specs.Schedule.{FollowsSchedule}
use Rattle.serial_run.specs.Serial.{IsSerialRun}
use Rattle.serial_run.proofs.Follows.{turns_are_a_run}
use Rattle.report_text.specs.CheckText.{steps_bound}
use Rattle.report_text.specs.Views.{IsEndedOfStack, told_of}
use Rattle.report_text.proofs.LeftLemmas.{left_of, told_is}
use Rattle.shared_objects.specs.declared.closed.Closed.{Closed}
use Rattle.shared_objects.specs.Left.{HasClosed}
use Rattle.bio_workers.specs.Gates.{showing}
use Rattle.run_merge.specs.Outcomes.{IsOutcomeOf, shared_ledger, state_in}
use Rattle.run_merge.specs.declared.outcome.Outcome.{Outcome}
use Rattle.biostack_top.specs.Scene.{TextSays}
use Rattle.work_text.specs.Generated.{generator}
use Rattle.biostack_top.specs.Running.{ByNumber, ByThreads, EveryRunOfTextIsAsClaimed, HasOutcome, HasRun, IsShownOf, IsRunTold, Maker, sectors_of_writes}

module _ (text : List ℕ) (accepted : Accepted) (work : Work) (says : TextSays text accepted work) where
  pub read_behind : IsReadBehind accepted work
  read_behind = record { text = text; begins = says.begins; reads = says.reads; served = says.served }

  -- its bound is small
  pub few_steps : steps_bound work.bound < 2 ^ 64
  few_steps =
      let by = accepted_texts_are_runnable accepted work read_behind in
      omega (arith, by.1, steps_fit_in_24_bits (scenario_of accepted work) by.0)

  pub every_run : EveryRunOfTextIsAsClaimed accepted work
  every_run = λ ledger events state naming run.
      accepted_texts_run_as_claimed accepted work read_behind says.rescuers ledger events state naming run

  module _ (maker : Maker) (events : List Event) (ended : Ended) (has : HasRun (scenario_of accepted work) maker events ended) where
    pub is_of : IsEndedOfStack accepted.stack ended
    is_of = left_of has.state.objects has.disks accepted.stack (length events) ended has.left

    pub is_told : IsRunTold accepted work maker events (told_of ended (steps_bound work.bound))
    is_told =
        let claimed = every_run has.ledger events has.state has.naming has.run in
        record {
          ledger = has.ledger;
          state = has.state;
          ended = record {
            naming = has.naming;
            run = has.run;
            ends = has.ends;
            named = has.named;
            claimed = claimed.0;
            bounded = claimed.1;
            told = told_is has.state.objects has.disks accepted.stack (length events) (steps_bound work.bound) ended has.left;
          };
          made = has.made;
        }

-- writes of up to 2,048 sectors, each of which needs an element
sectors_of : (stack : Stack) (writes : List Write) → ((write : Write) → Contains writes write → write.count ≤ 2048)
    → sectors_of_writes writes ≤ 2048 * all_elements stack writes
sectors_of stack [] short = omega arith
sectors_of stack (write ∷ writes) short =
    omega (
      arith,
      short write (0, omega arith, refl),
      sectors_of stack writes (λ w there. short w (suc there.0, omega (arith, there.1), there.2)),
      sum_by-cons (λ (w : Write). w.count) write writes,
      sum_by-cons (λ w. elements stack w) write writes,
    )

pub few_sectors : (text : List ℕ) (accepted : Accepted) (work : Work) → TextSays text accepted work → sectors_of_writes work.writes.items < 2 ^ 64
few_sectors text accepted work says =
    omega (
      arith,
      sectors_of accepted.stack work.writes.items (writes_ready text work.writes.items says.fine says.writes),
      says.needs.allowed,
    )

-- what a run by one thread is, whatever its events are handed to
pub has_run : {V : Type 0} (happens : V → Event → V → Type 0) (opened : Opened) (number : ℕ) (stream : Lcg) (before : V) (after : Lcg) (now : V) (ended : Ended)
    → IsOpened opened → stream ≡ generator number → (ran : IsSerialRun happens opened stream before after now ended)
    → HasRun (scenario_in opened) (ByNumber number) ran.events ended
has_run happens opened number stream before after now ended is same ran =
    let ledger = (stage_of opened.objects).ledger in
    let s = scenario_in opened in
    let follows = subst (λ from. FollowsSchedule (scene s ledger) (start s) from ran.events ran.state after) same ran.follows in
    record {
      ledger = ledger;
      naming = is.one.holds.numbered;
      state = ran.state;
      run = turns_are_a_run (scene s ledger) (start s) (generator number) ran.events ran.state after follows;
      made = ((after, follows), ran.fits);
      ends = ran.ends;
      left = ran.left;
      disks = ran.disks;
      named = ran.named;
    }

-- what threads have left, and the merge of that
module _ (closed : Closed) (held : HasClosed closed) where
  has_merged : (outcome : Outcome) (is : IsOutcomeOf closed outcome) → HasRun (scenario_in closed.told.value) (ByThreads (showing closed)) is.events outcome.ended
  has_merged outcome is = record {
    ledger = shared_ledger closed;
    naming = is.naming;
    state = state_in closed;
    run = is.run;
    made = (record { closed = (closed, held, refl); opened = held.opened; of = refl }, refl, is.merges);
    ends = is.ends;
    left = is.left;
    disks = is.disks;
    named = is.named;
  }

  outcome_is : {E : Type 0} (trace : Bool) (result : Result Outcome E) → is_some closed.trace ≡ trace → IfOk result (IsOutcomeOf closed)
      → (is_some closed.trace ≡ false → IsOk result) → HasOutcome (scenario_in closed.told.value) trace (showing closed) result
  outcome_is trace (Ok outcome) same is fine = (is.events, has_merged outcome is, (is.traced ∙ same, is.trace))
  outcome_is true (Err lacking) same is fine = refl
  outcome_is false (Err lacking) same is fine = absurd (true≢false (sym (fine same)))

  -- of what was shared as this
  pub has_outcome : {E : Type 0} (shared : Opened) (trace : Bool) (result : Result Outcome E) → closed.told.value ≡ shared → is_some closed.trace ≡ trace
      → IfOk result (IsOutcomeOf closed) → (is_some closed.trace ≡ false → IsOk result)
      → IsShownOf (scenario_in shared) (showing closed) × HasOutcome (scenario_in shared) trace (showing closed) result
  has_outcome shared trace result told same is fine =
      subst (λ (o : Opened). IsShownOf (scenario_in o) (showing closed) × HasOutcome (scenario_in o) trace (showing closed) result) told
      (record { closed = (closed, held, refl); opened = held.opened; of = refl }, outcome_is trace result same is fine)
