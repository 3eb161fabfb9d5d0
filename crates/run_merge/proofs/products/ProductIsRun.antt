-- A product is the entries of a run.
use Rattle.std.proofs.Common.{◌≡◌, ◌<◌, ◌≤◌, ◌==◌, ◌⊎◌, ◌++◌, cond, ℕ, Bool, true, false, List, [], ◌∷◌, length, Option, None, Some, inl, inr, refl, sym, ◌∙◌, ap, subst}
use Rattle.std.specs.Prelude.{IsTrue}
use Rattle.std.specs.Option.{is_some}
use Rattle.std.proofs.lemmas.Bool.{eq-eqb, eqb-true, eqb-false, true≢false}
use Rattle.std.proofs.lemmas.List.{append-nil, append_assoc}
use Rattle.std.proofs.lemmas.List.Elements.{All-head, All-tail}
use mathlib.Core.Path.{fun_ext}
use Rattle.elem_ledger.specs.Ledger.{LedgerId}
use Rattle.run_machine.specs.declared.event.Event.{Event}
use Rattle.run_machine.specs.declared.event.What.{What}
use Rattle.run_machine.specs.Events.{id_of, what_of}
use Rattle.run_machine.specs.Laws.{Object, object_of}
use Rattle.run_machine.specs.Maps.{upd}
use Rattle.run_machine.specs.Objects.{Serves}
use Rattle.run_machine.specs.Opened.{Scenario, scene, setup_in, opened_tasks}
use Rattle.run_machine.specs.Requests.{Request, Reply, Rest}
use Rattle.run_machine.specs.Runs.{State, Steps}
use Rattle.run_machine.specs.Scene.{Scene}
use Rattle.run_machine.specs.Tasks.{TaskState, request, answered}
use Rattle.run_machine.proofs.Frames.{upd_same, upd_other}
use Rattle.block_core.specs.Scenarios.{IsScenario, IsNaming}
use Rattle.block_core.proofs.moves.Sums.{below_or}
use Rattle.shared_objects.specs.Calls.{is_same_object, struck}
use Rattle.shared_objects.specs.Logs.{is_event}
use Rattle.shared_objects.proofs.SameNames.{same_is, same_self}
use Rattle.shared_objects.proofs.steps.GlanceStays.{event_struck}
use Rattle.run_merge.specs.Entries.{Entry, AreEvents}
use Rattle.run_merge.specs.Machines.{ServesAt, LeadsObject, entries_at}
use Rattle.run_merge.specs.ObjectsByName.{StateAt, object_named, put_object}
use Rattle.run_merge.specs.Products.{EntriesLead, entries_by, AreOfRun}
use Rattle.run_merge.proofs.products.StateBehind.{Behind, one_more}
use Rattle.run_merge.proofs.products.KnownBehind.{rounds_known}
use Rattle.run_merge.proofs.products.LookLets.{ComesBehind, lets}
use Rattle.run_merge.proofs.products.ObjectNames.{named_put, named_other, all_same}
use Rattle.run_merge.proofs.products.Served.{serves_all, struck_serves}

is_some_of : (w : Option What) → IsTrue (is_some w) → (what : What) × (w ≡ Some what)
is_some_of (Some what) some = (what, refl)
is_some_of None some = absurd (true≢false (sym some))

module _ (s : Scenario) (ledger : ℕ → LedgerId) (good : IsScenario s) (naming : IsNaming ledger) where
  abbrev sc : Scene
  sc = scene s ledger

  -- Each of these entries comes behind what it has to, where those before it are the entries of a run.
  abbrev pub AreOrdered : List Entry → List Entry → Type 0
  AreOrdered before es = (between after : List Entry) (e : Entry) → es ≡ between ++ e ∷ after → (state : State) → AreOfRun s ledger (before ++ between) state
      → ComesBehind s (before ++ between) (state.task e.place) e.asked

  -- a task behind the last asks for nothing
  pub is_inside : (before : List Entry) (state : State) → Behind s ledger before state → (place : ℕ) (asked : Request) (reply : Reply) (v : StateAt (object_of asked))
      → asked ≡ struck (request (setup_in s) (state.task place)) → ServesAt ledger (object_of asked) (object_named state.objects (object_of asked)) asked reply v → place < length (opened_tasks s)
  is_inside before state b place asked reply v is serves = by_two (below_or place (length (opened_tasks s)))
    where
      by_two : (place < length (opened_tasks s)) ⊎ (length (opened_tasks s) ≤ place) → place < length (opened_tasks s)
      by_two (inl lt) = lt
      by_two (inr le) =
          let rests : asked ≡ Rest = is ∙ ap (λ x. struck (request (setup_in s) x)) (b.outside place le) in
          let all : Serves ledger state.objects asked reply (put_object state.objects (object_of asked) v) = serves_all ledger state.objects asked reply v serves in
          absurd (subst (λ r. Serves ledger state.objects r reply (put_object state.objects (object_of asked) v)) rests all)

  pub leads : (before es : List Entry) (state last : State) → Behind s ledger before state → AreEvents es
      → ((name : Object) → LeadsObject ledger name (object_named state.objects name) (entries_at name es) (object_named last.objects name))
      → ((place : ℕ) → EntriesLead (setup_in s) (state.task place) (entries_by place es) (last.task place))
      → AreOrdered before es → AreOfRun s ledger (before ++ es) last
  leads before [] state last b events objects tasks ordered =
      let same : last ≡ state = λ i. record { objects = all_same last.objects state.objects objects i; task = fun_ext tasks i } in
      subst (AreOfRun s ledger (before ++ [])) (sym same) (subst (λ l. AreOfRun s ledger l state) (sym (append-nil before)) b.reached)
  leads before (e ∷ es) state last b events objects tasks ordered =
      subst (λ l. AreOfRun s ledger l last) (append_assoc before (e ∷ []) es)
      (leads (before ++ e ∷ []) es next last behind (All-tail (λ (x : Entry). IsTrue (is_event x.asked x.reply)) e es events) objects_rest tasks_rest ordered_rest)
    where
      name : Object
      name = object_of e.asked

      place : ℕ
      place = e.place

      asks : Request
      asks = request (setup_in s) (state.task place)

      here : LeadsObject ledger name (object_named state.objects name) (e ∷ entries_at name es) (object_named last.objects name)
      here = subst (λ b. LeadsObject ledger name (object_named state.objects name) (cond b (e ∷ entries_at name es) (entries_at name es)) (object_named last.objects name)) (same_self name) (objects name)

      mine : EntriesLead (setup_in s) (state.task place) (e ∷ entries_by place es) (last.task place)
      mine = subst (λ b. EntriesLead (setup_in s) (state.task place) (cond b (e ∷ entries_by place es) (entries_by place es)) (last.task place)) (eq-eqb place place refl) (tasks place)

      o : StateAt name
      o = here.0

      next : State
      next = record { objects = put_object state.objects name o; task = upd state.task place (answered (setup_in s) (state.task place) e.reply) }

      asked_is : e.asked ≡ struck asks
      asked_is = mine.0

      serves : Serves ledger state.objects asks e.reply next.objects
      serves = struck_serves ledger state.objects asks e.reply next.objects
          (subst (λ r. Serves ledger state.objects r e.reply next.objects) asked_is (serves_all ledger state.objects e.asked e.reply o here.1))

      what : (what : What) × (what_of asks e.reply ≡ Some what)
      what = is_some_of (what_of asks e.reply)
          (sym (event_struck asks e.reply) ∙ ap (λ r. is_event r e.reply) (sym asked_is) ∙ All-head (λ (x : Entry). IsTrue (is_event x.asked x.reply)) e es events)

      comes : ComesBehind s before (state.task place) (struck asks)
      comes =
          subst (ComesBehind s before (state.task place)) asked_is
          (subst (λ l. ComesBehind s l (state.task place) e.asked) (append-nil before)
          (ordered [] es e refl state (subst (λ l. AreOfRun s ledger l state) (sym (append-nil before)) b.reached)))

      event : Event
      event = record { task = id_of (state.task place); what = what.0 }

      steps : Steps sc state place event next
      steps = record {
        here = is_inside before state b place e.asked e.reply o asked_is here.1;
        by = refl;
        is_let = lets s ledger before state (rounds_known s ledger good naming before state b.reached) b.count place (state.task place) refl comes;
        reply = e.reply;
        told = what.1;
        serves = serves;
        goes_on = refl;
      }

      behind : Behind s ledger (before ++ e ∷ []) next
      behind = subst (λ x. Behind s ledger (before ++ x ∷ []) next) (λ i. record { place = e.place; asked = sym asked_is i; reply = e.reply })
          (one_more s ledger before state b place event next steps)

      objects_rest : (other : Object) → LeadsObject ledger other (object_named next.objects other) (entries_at other es) (object_named last.objects other)
      objects_rest other = by_test (is_same_object other name) refl
        where
          by_test : (b : Bool) → is_same_object other name ≡ b → LeadsObject ledger other (object_named next.objects other) (entries_at other es) (object_named last.objects other)
          by_test true same =
              subst (λ k. LeadsObject ledger k (object_named next.objects k) (entries_at k es) (object_named last.objects k)) (sym (same_is other name same))
              (subst (λ v. LeadsObject ledger name v (entries_at name es) (object_named last.objects name)) (sym (named_put state.objects name o)) here.2)
          by_test false same =
              subst (λ v. LeadsObject ledger other v (entries_at other es) (object_named last.objects other)) (sym (named_other state.objects name other o same))
              (subst (λ b. LeadsObject ledger other (object_named state.objects other) (cond b (e ∷ entries_at other es) (entries_at other es)) (object_named last.objects other)) same (objects other))

      tasks_rest : (other : ℕ) → EntriesLead (setup_in s) (next.task other) (entries_by other es) (last.task other)
      tasks_rest other = by_test (other == place) refl
        where
          x : TaskState
          x = answered (setup_in s) (state.task place) e.reply

          by_test : (b : Bool) → (other == place) ≡ b → EntriesLead (setup_in s) (next.task other) (entries_by other es) (last.task other)
          by_test true same =
              subst (λ k. EntriesLead (setup_in s) (next.task k) (entries_by k es) (last.task k)) (sym (eqb-true other place same))
              (subst (λ v. EntriesLead (setup_in s) v (entries_by place es) (last.task place)) (sym (upd_same state.task place x)) mine.1)
          by_test false same =
              subst (λ v. EntriesLead (setup_in s) v (entries_by other es) (last.task other)) (sym (upd_other state.task place x other (eqb-false other place same)))
              (subst (λ b. EntriesLead (setup_in s) (state.task other) (cond b (e ∷ entries_by other es) (entries_by other es)) (last.task other)) same (tasks other))

      ordered_rest : AreOrdered (before ++ e ∷ []) es
      ordered_rest between after other is at_state reached =
          let assoc : before ++ e ∷ [] ++ between ≡ before ++ (e ∷ between) = append_assoc before (e ∷ []) between in
          subst (λ l. ComesBehind s l (at_state.task other.place) other.asked) (sym assoc)
          (ordered (e ∷ between) after other (ap (λ l. e ∷ l) is) at_state (subst (λ l. AreOfRun s ledger l at_state) assoc reached))
