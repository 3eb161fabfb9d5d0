-- Shared objects that were closed show an ended run.
use Rattle.std.proofs.Common.{◌≡◌, ◌-◌, ◌^◌, ◌<◌, ◌≤◌, ◌⊎◌, ℕ, List, length, inl, inr, sym, ◌∙◌, ap, subst, arith}
use Rattle.std.specs.Prelude.{Contains, sum}
use Rattle.std.proofs.lemmas.List.{map-append}
use mathlib.Core.Path.{fun_ext}
use Rattle.elem_ledger.specs.Ledger.{LedgerId}
use Rattle.stack_base.specs.Stack.{HasRescuers}
use Rattle.run_machine.specs.declared.event.Event.{Event}
use Rattle.run_machine.specs.Laws.{Object, OfTally}
use Rattle.run_machine.specs.Objects.{Serves}
use Rattle.run_machine.specs.Opened.{Scenario, scene, start}
use Rattle.run_machine.specs.Runs.{State, IsRun, HasFree, HasEnded, unfinished}
use Rattle.block_core.specs.Runnable.{IsRunnable}
use Rattle.block_core.specs.Scenarios.{IsNaming}
use Rattle.block_core.proofs.bound.Bounded.{runs_are_bounded}
use Rattle.block_core.proofs.stuck.RunsEnd.{runs_end_with_their_writes}
use Rattle.block_core.proofs.stuck.NeverStuck.{each_run_goes_on_or_has_ended}
use Rattle.block_core.proofs.claim.Runnable.{steps_fit_in_24_bits}
use Rattle.block_core.proofs.unrefused.Unbroken.{no_task_breaks}
use Rattle.run_merge.specs.Closing.{IsThrough, WasRefused, HasLast, IsClosed, MergeIsEndedRun, ClosedRunsEnd}
use Rattle.run_merge.specs.Machines.{LeadsObject}
use Rattle.run_merge.specs.Merging.{Ticketed, Histories, without_tickets, sorted_by_ticket, all_of, history_of, TallyThen, Shown}
use Rattle.run_merge.specs.ObjectsByName.{object_named}
use Rattle.run_merge.specs.Products.{AreOfRun}
use Rattle.run_merge.proofs.closing.EventsAndEntries.{merge_length}
use Rattle.run_merge.proofs.closing.FewTasks.{few_tasks}
use Rattle.run_merge.proofs.closing.NoneRefused.{not_refused}
use Rattle.run_merge.proofs.closing.TicketRows.{row_long}
use Rattle.run_merge.proofs.merging.MergeIsRun.{merge_runs}
use Rattle.run_merge.proofs.merging.TwoParts.{object_split}
use Rattle.run_merge.proofs.merging.TallyAlone.{from_there}
use Rattle.run_merge.proofs.products.ObjectNames.{all_same}

module _ (s : Scenario) (ledger : ℕ → LedgerId) (good : IsRunnable s) (rescuers : HasRescuers s.stack) (naming : IsNaming ledger) (hs : Histories) where
  merged : (last : State) → Shown s ledger hs last → AreOfRun s ledger (without_tickets (sorted_by_ticket (all_of hs))) last
  merged last shown = merge_runs s ledger good.scenario naming hs last shown

  few_entries : (last : State) → Shown s ledger hs last → length (all_of hs) < 2 ^ 24
  few_entries last shown =
      let run = merged last shown in
      let bounded = runs_are_bounded s ledger run.0 last good.scenario naming run.1 in
      let few = steps_fit_in_24_bits s good in
      omega (arith, bounded, few, merge_length s ledger (all_of hs) last run)

  -- a tally that showed no unfinished write has none later
  none_left : (last : State) → Shown s ledger hs last → (was : TallyThen s ledger (history_of OfTally hs)) → sum was.shown.left ≡ 0 → unfinished last ≡ 0
  none_left last shown was none =
      let leads = subst (λ l. LeadsObject ledger OfTally (start s).objects.tally l last.objects.tally)
      (ap without_tickets was.history ∙ map-append (λ (n : Ticketed). n.entry) was.seen was.later) (shown.objects OfTally) in
      let parts = object_split ledger OfTally (without_tickets was.seen) (without_tickets was.later) (start s).objects.tally last.objects.tally leads in
      let later = from_there ledger (without_tickets was.seen) (without_tickets was.later) (start s).objects.tally parts.0 was.shown last.objects.tally parts.1 was.leads parts.2 in
      omega (arith, later.left, none)

  -- where each task is through, the run has ended
  all_ended : (last : State) → Shown s ledger hs last → ((place : ℕ) → IsThrough s ledger hs (last.task place))
      → (events : List Event) → IsRun (scene s ledger) (start s) events last → HasEnded last
  all_ended last shown through events run =
      by_two (each_run_goes_on_or_has_ended s ledger events last good.scenario good.allowed rescuers good.reserves good.ordered naming run)
    where
      by_two : HasFree (scene s ledger) last ⊎ HasEnded last → HasEnded last
      by_two (inr done) = done
      by_two (inl (event, (new, (place, steps)), free)) = by_task (through place)
        where
          by_task : IsThrough s ledger hs (last.task place) → HasEnded last
          by_task (inr (was, none)) = runs_end_with_their_writes s ledger events last good.scenario naming run (none_left last shown was none)
          by_task (inl rests) = absurd (subst (λ q. Serves ledger last.objects q steps.reply new.objects) rests steps.serves)

  module _ (drawn : List ℕ) (last : State) (c : IsClosed s ledger hs drawn last) where
    no_last : HasLast drawn → ⊥
    no_last there = too_many (2 ^ 64 - 1) there (omega arith)
      where
        too_many : (n : ℕ) → Contains drawn n → 2 ^ 26 ≤ n → ⊥
        too_many n there large = let few = c.few in omega (arith, row_long drawn c.row n there, few, few_tasks s good.scenario, large, few_entries c.reached c.shown)

    object_is : (name : Object) → object_named last.objects name ≡ object_named c.reached.objects name
    object_is name = by_two (c.object name)
      where
        by_two : (object_named last.objects name ≡ object_named c.reached.objects name) ⊎ HasLast drawn → object_named last.objects name ≡ object_named c.reached.objects name
        by_two (inl is) = is
        by_two (inr there) = absurd (no_last there)

    task_is : (place : ℕ) → (last.task place ≡ c.reached.task place) × IsThrough s ledger hs (c.reached.task place)
    task_is place = by_three (c.task place)
      where
        by_three : ((last.task place ≡ c.reached.task place) × IsThrough s ledger hs (c.reached.task place))
            ⊎ (WasRefused s ledger hs place (c.reached.task place) (last.task place) ⊎ HasLast drawn)
            → (last.task place ≡ c.reached.task place) × IsThrough s ledger hs (c.reached.task place)
        by_three (inl is) = is
        by_three (inr (inl refused)) = absurd (not_refused s ledger good naming hs c.reached c.shown place (last.task place) refused)
        by_three (inr (inr there)) = absurd (no_last there)

    last_is : last ≡ c.reached
    last_is = λ i. record { objects = all_same last.objects c.reached.objects object_is i; task = fun_ext (λ place. (task_is place).0) i }

    pub has_merged : MergeIsEndedRun s ledger hs drawn last
    has_merged =
        let shown = subst (Shown s ledger hs) (sym last_is) c.shown in
        let run = merged last shown in
        let through = subst (λ (x : State). (place : ℕ) → IsThrough s ledger hs (x.task place)) (sym last_is) (λ place. (task_is place).1) in
        record {
          run = run;
          ended = all_ended last shown through run.0 run.1;
          unbroken = (no_task_breaks s ledger run.0 last good.scenario good.allowed naming run.1).tasks;
          tickets = no_last;
        }

pub closed_runs_end : ClosedRunsEnd
closed_runs_end s ledger histories drawn last good rescuers naming closed = has_merged s ledger good rescuers naming histories drawn last closed
