-- What the tasks of closed objects noted, joined by tickets, are the events of the run to which the histories merge.
use Rattle.std.proofs.Common.{◌≡◌, ◌⊎◌, ◌<◌, ◌≤◌, ◌++◌, ℕ, suc, List, [], ◌∷◌, Option, None, Some, length, get_or, inl, inr, refl, sym, ◌∙◌, subst, arith}
use Rattle.std.specs.Global.{Vec}
use Rattle.std.specs.Option.{is_some}
use Rattle.std.specs.Prelude.{All, IfSome, slice_get, slice_index_or}
use Rattle.std.specs.List.{flat_map}
use Rattle.std.specs.List.Sorted.{IsNonDecreasingBy}
use Rattle.std.proofs.lemmas.Option.{slice_get_cases, get_or_from_slice_get}
use Rattle.run_machine.specs.declared.event.Event.{Event}
use Rattle.run_machine.specs.Opened.{setup_in}
use Rattle.run_machine.specs.Runs.{State}
use Rattle.run_machine.specs.Scene.{Setup}
use Rattle.task_core.specs.Plains.{stage_of}
use Rattle.task_steps.specs.Routed.{routing_setup}
use Rattle.shared_objects.specs.ClosedByName.{history_in, object_left_in, names_in}
use Rattle.shared_objects.specs.Closes.{Returned, ClosesAs}
use Rattle.shared_objects.specs.Left.{HasClosed, HasNoted, IsNotedTrace}
use Rattle.shared_objects.specs.Noting.{notes_of, HaveTickets}
use Rattle.shared_objects.specs.Rows.{Abreast}
use Rattle.shared_objects.specs.declared.closed.Closed.{Closed}
use Rattle.shared_objects.specs.declared.noted.Noted.{Noted}
use Rattle.shared_objects.proofs.logs.StepNotes.{whole_notes}
use Rattle.run_merge.specs.Joining.{IsJoinedByTicket}
use Rattle.run_merge.specs.Listing.{AreWhole, IsTrace, TraceRises, WholeRises, noted_in}
use Rattle.run_merge.specs.Merging.{without_tickets, sorted_by_ticket, all_of}
use Rattle.run_merge.specs.Outcomes.{shared_scenario, shared_ledger, histories_in}
use Rattle.run_merge.specs.Products.{AreOfRun}
use Rattle.run_merge.specs.Tracing.{notes_in}
use Rattle.run_merge.proofs.enough_shown.TaskCounts.{log_drew}
use Rattle.run_merge.proofs.tracing.NotesOfRun.{notes_are_runs, notes_rise}

-- rows of which this is the same at each place
flats_same : {X Y Z : Type 0} (f : X → List Z) (g : Y → List Z) (xs : List X) (ys : List Y) → Abreast (λ x y. f x ≡ g y) xs ys → flat_map f xs ≡ flat_map g ys
flats_same f g [] [] are = refl
flats_same f g [] (y ∷ ys) are = absurd (let long = are.lens in omega (arith, long))
flats_same f g (x ∷ xs) [] are = absurd (let long = are.lens in omega (arith, long))
flats_same f g (x ∷ xs) (y ∷ ys) are =
    let here = are.each 0 x y (omega arith) in
    let long = are.lens in
    let rest = flats_same f g xs ys (record { lens = omega (arith, long); each = λ place a b lt. are.each (suc place) a b (omega (arith, lt)) }) in
    λ i. here i ++ rest i

module _ (closed : Closed) (has : HasClosed closed) where
  abbrev now : Setup
  now = routing_setup (stage_of closed.told.value.objects).routing

  in_scenario : ClosesAs (setup_in (shared_scenario closed)) closed.told.value.objects (names_in closed) (history_in closed) (object_left_in closed closed.told.value.objects) has.returned closed.pass.value
  in_scenario =
      subst (λ setup. ClosesAs setup closed.told.value.objects (names_in closed) (history_in closed) (object_left_in closed closed.told.value.objects) has.returned closed.pass.value)
      has.opened.setup has.closes

  -- each event of a task drew a ticket
  have_tickets : All (λ (task : Returned). HaveTickets task.log) has.returned
  have_tickets place task less = by_two (slice_get_cases has.returned place).1
    where
      by_two : ((x : Returned) × (place < length has.returned) × (slice_get has.returned place ≡ Some x) × (get_or has.returned place x ≡ x))
          ⊎ ((length has.returned ≤ place) × (slice_get has.returned place ≡ None)) → HaveTickets (get_or has.returned place task).log
      by_two (inl (x, lt, is, same)) =
          subst (λ (r : Returned). HaveTickets r.log) (sym (get_or_from_slice_get has.returned place x task is))
          (log_drew (shared_scenario closed) closed.told.value.objects (names_in closed) (history_in closed) (object_left_in closed closed.told.value.objects) has.returned closed.pass.value
          in_scenario (has.firsts ∙ has.opened.tasks) place x is)
      by_two (inr (le, none)) = absurd (omega (arith, le, less))

  -- and so tickets rise along what it noted, where that is whole
  entries_rise : (trace : List Noted) → Abreast (HasNoted now) trace has.returned → All WholeRises trace
  entries_rise trace is place noted less list whole = by_two (slice_get_cases has.returned place).1
    where
      by_two : ((x : Returned) × (place < length has.returned) × (slice_get has.returned place ≡ Some x) × (get_or has.returned place x ≡ x))
          ⊎ ((length has.returned ≤ place) × (slice_get has.returned place ≡ None)) → IsNonDecreasingBy (λ (e : ℕ × Event). e.0) list
      by_two (inl (x, lt, at, same)) =
          let all = whole.1 ∙ whole_notes (notes_of now (slice_index_or has.returned place x).first (slice_index_or has.returned place x).log) (slice_index_or trace place noted)
          (is.each place noted x less (have_tickets place x lt)) whole.0 in
          subst (IsNonDecreasingBy (λ (e : ℕ × Event). e.0)) (sym all)
          (subst (λ (r : Returned). IsNonDecreasingBy (λ (e : ℕ × Event). e.0) (notes_of now r.first r.log)) (sym same)
          (subst (λ setup. IsNonDecreasingBy (λ (e : ℕ × Event). e.0) (notes_of setup x.first x.log)) (sym has.opened.setup)
          (notes_rise (shared_scenario closed) (shared_ledger closed) closed.told.value.objects (names_in closed) (history_in closed) (object_left_in closed closed.told.value.objects) has.returned closed.pass.value
          in_scenario (has.firsts ∙ has.opened.tasks) place x at)))
      by_two (inr (le, none)) = let long = is.lens in absurd (omega (arith, le, less, long))

  rise_in : (trace : Option (Vec Noted)) → IsNotedTrace now has.returned trace → TraceRises trace
  rise_in None is = tt
  rise_in (Some list) is = entries_rise list.items is

  pub lists_rise : TraceRises closed.trace
  lists_rise = rise_in closed.trace has.trace

  -- what tasks noted are the notes of their calls
  noted_is : (trace : List Noted) → Abreast (HasNoted now) trace has.returned → AreWhole trace → noted_in trace ≡ notes_in now has.returned
  noted_is trace is whole = flats_same (λ (noted : Noted). noted.events.items) (λ (task : Returned). notes_of now task.first task.log) trace has.returned (record {
    lens = is.lens;
    each = λ place noted returned lt.
        let long = is.lens in
        whole_notes (notes_of now (slice_index_or has.returned place returned).first (slice_index_or has.returned place returned).log) (slice_index_or trace place noted)
        (is.each place noted returned lt (have_tickets place returned (omega (arith, long, lt)))) (whole place noted lt);
  })

  abbrev IsMerged : State → Type 0
  IsMerged last = AreOfRun (shared_scenario closed) (shared_ledger closed) (without_tickets (sorted_by_ticket (all_of (histories_in closed)))) last

  joined_is : (trace : List Noted) → Abreast (HasNoted now) trace has.returned → (joined : List Event) (last : State) → AreWhole trace
      → IsJoinedByTicket (noted_in trace) joined → (run : IsMerged last) → joined ≡ run.0
  joined_is trace are joined last whole is run =
      sym (notes_are_runs closed.told.value (names_in closed) (history_in closed) (object_left_in closed closed.told.value.objects) has.returned closed.pass.value
      has.opened has.firsts has.closes joined last (subst (λ all. IsJoinedByTicket all joined) (noted_is trace are whole) is) run)

  events_in : (last : State) (run : IsMerged last) (trace : Option (Vec Noted)) (events : Option (Vec Event)) → IsNotedTrace now has.returned trace → IsTrace trace events
      → (is_some events ≡ is_some trace) × IfSome events (λ (list : Vec Event). list.items ≡ run.0)
  events_in last run None None are is = (refl, tt)
  events_in last run None (Some list) are is = absurd is
  events_in last run (Some trace) None are is = absurd is
  events_in last run (Some trace) (Some list) are is = (refl, joined_is trace.items are list.items last is.0 is.1 run)

  pub trace_is : (last : State) (run : IsMerged last) (events : Option (Vec Event)) → IsTrace closed.trace events
      → (is_some events ≡ is_some closed.trace) × IfSome events (λ (list : Vec Event). list.items ≡ run.0)
  trace_is last run events is = events_in last run closed.trace events has.trace is
