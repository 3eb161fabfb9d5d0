-- The entries of a run are a product.
use Rattle.std.proofs.Common.{◌≡◌, ◌==◌, ◌++◌, cond, ℕ, Bool, true, false, List, [], ◌∷◌, refl, sym, ◌∙◌, ap, subst}
use Rattle.std.specs.Prelude.{IsTrue}
use Rattle.std.specs.Option.{is_some}
use Rattle.std.proofs.lemmas.Bool.{eqb-true, eqb-false, true≢false}
use Rattle.std.proofs.lemmas.List.Elements.{All-cons, All-nil}
use Rattle.stack_base.proofs.ListLemmas.{first_or, behind_first}
use Rattle.elem_ledger.specs.Ledger.{LedgerId}
use Rattle.run_machine.specs.declared.event.Event.{Event}
use Rattle.run_machine.specs.Laws.{Object, object_of}
use Rattle.run_machine.specs.Objects.{Objects}
use Rattle.run_machine.specs.Opened.{Scenario, scene, start, setup_in}
use Rattle.run_machine.specs.Runs.{State, Steps, IsRun}
use Rattle.run_machine.specs.Scene.{Scene}
use Rattle.run_machine.specs.Tasks.{TaskState, request, answered}
use Rattle.run_machine.proofs.Frames.{upd_same, upd_other}
use Rattle.block_core.specs.Scenarios.{IsScenario, IsNaming}
use Rattle.shared_objects.specs.Calls.{is_same_object, struck}
use Rattle.shared_objects.specs.Logs.{is_event}
use Rattle.shared_objects.proofs.SameNames.{same_is}
use Rattle.shared_objects.proofs.steps.GlanceStays.{event_struck}
use Rattle.run_merge.specs.Entries.{Entry, AreEvents, entries_in}
use Rattle.run_merge.specs.Machines.{ServesAt, LeadsObject, entries_at}
use Rattle.run_merge.specs.ObjectsByName.{object_named}
use Rattle.run_merge.specs.Products.{EntriesLead, entries_by, task_behind_entries, AtEach, IsProduct, AreOfRun, RunsAreProducts}
use Rattle.run_merge.proofs.Fronts.{is_none}
use Rattle.run_merge.proofs.products.StateBehind.{entry_of, at_start, behind_run}
use Rattle.run_merge.proofs.products.KnownBehind.{rounds_known}
use Rattle.run_merge.proofs.products.ProductIsRun.{leads}
use Rattle.run_merge.proofs.products.LookLets.{ComesBehind, comes_by}
use Rattle.run_merge.proofs.products.ObjectNames.{named_other}
use Rattle.run_merge.proofs.products.Served.{others_stay, serves_one, serves_struck}

-- the parts of a run from any state
module _ (scene : Scene) where
  pub run_events : (old : State) (events : List Event) (new : State) (run : IsRun scene old events new) → AreEvents (entries_in scene old events new run)
  run_events old [] new run = All-nil (λ (x : Entry). IsTrue (is_event x.asked x.reply))
  run_events old (event ∷ events) new (next, (place, steps), run) =
      All-cons (λ (x : Entry). IsTrue (is_event x.asked x.reply)) (entry_of scene old place event next steps) (entries_in scene next events new run)
      (event_struck (request scene.setup (old.task place)) steps.reply ∙ ap is_some steps.told) (run_events next events new run)

  pub run_objects : (name : Object) (old : State) (events : List Event) (new : State) (run : IsRun scene old events new)
      → LeadsObject scene.ledger name (object_named old.objects name) (entries_at name (entries_in scene old events new run)) (object_named new.objects name)
  run_objects name old [] new run = ap (λ (x : State). object_named x.objects name) run
  run_objects name old (event ∷ events) new (next, (place, steps), run) = by_test (is_same_object name own) refl (run_objects name next events new run)
    where
      e : Entry
      e = entry_of scene old place event next steps

      own : Object
      own = object_of e.asked

      es : List Entry
      es = entries_at name (entries_in scene next events new run)

      by_test : (b : Bool) → is_same_object name own ≡ b → LeadsObject scene.ledger name (object_named next.objects name) es (object_named new.objects name)
          → LeadsObject scene.ledger name (object_named old.objects name) (cond b (e ∷ es) es) (object_named new.objects name)
      by_test true same rest =
          let serves = serves_struck scene.ledger old.objects (request scene.setup (old.task place)) steps.reply next.objects steps.serves in
          let one = serves_one scene.ledger old.objects e.asked steps.reply next.objects serves in
          (object_named next.objects name, subst (λ k. ServesAt scene.ledger k (object_named old.objects k) e.asked steps.reply (object_named next.objects k)) (sym (same_is name own same)) one, rest)
      by_test false same rest =
          let serves = serves_struck scene.ledger old.objects (request scene.setup (old.task place)) steps.reply next.objects steps.serves in
          let kept : object_named next.objects name ≡ object_named old.objects name =
          ap (λ (x : Objects). object_named x name) (others_stay scene.ledger old.objects e.asked steps.reply next.objects serves) ∙ named_other old.objects own name (object_named next.objects own) same in
          subst (λ v. LeadsObject scene.ledger name v es (object_named new.objects name)) kept rest

  run_tasks : (other : ℕ) (old : State) (events : List Event) (new : State) (run : IsRun scene old events new)
      → EntriesLead scene.setup (old.task other) (entries_by other (entries_in scene old events new run)) (new.task other)
  run_tasks other old [] new run = ap (λ (x : State). x.task other) run
  run_tasks other old (event ∷ events) new (next, (place, steps), run) = by_test (other == place) refl (run_tasks other next events new run)
    where
      x : TaskState
      x = answered scene.setup (old.task place) steps.reply

      e : Entry
      e = entry_of scene old place event next steps

      es : List Entry
      es = entries_by other (entries_in scene next events new run)

      by_test : (b : Bool) → (other == place) ≡ b → EntriesLead scene.setup (next.task other) es (new.task other)
          → EntriesLead scene.setup (old.task other) (cond b (e ∷ es) es) (new.task other)
      by_test true same rest =
          let is = eqb-true other place same in
          subst (λ k. EntriesLead scene.setup (old.task k) (e ∷ es) (new.task other)) (sym is) (
            refl,
            subst (λ v. EntriesLead scene.setup v es (new.task other)) (ap next.task is ∙ ap (λ (f : ℕ → TaskState). f place) steps.goes_on ∙ upd_same old.task place x) rest,
          )
      by_test false same rest =
          subst (λ v. EntriesLead scene.setup v es (new.task other))
          (ap (λ (f : ℕ → TaskState). f other) steps.goes_on ∙ upd_other old.task place x other (eqb-false other place same)) rest

-- the run up to an entry, and its step
record IsRunUpTo (scene : Scene) (old : State) (before : List Entry) (e : Entry) : Type 0 where
  events : List Event
  mid : State
  run : IsRun scene old events mid
  entries : entries_in scene old events mid run ≡ before
  event : Event
  next : State
  steps : Steps scene mid e.place event next
  asked : e.asked ≡ struck (request scene.setup (mid.task e.place))

cut : (scene : Scene) (old : State) (events : List Event) (new : State) (run : IsRun scene old events new) (before after : List Entry) (e : Entry)
    → entries_in scene old events new run ≡ before ++ e ∷ after → IsRunUpTo scene old before e
cut scene old [] new run [] after e is = absurd (true≢false (ap is_none is))
cut scene old [] new run (b ∷ before) after e is = absurd (true≢false (ap is_none is))
cut scene old (event ∷ events) new (next, (place, steps), run) [] after e is =
    let first = entry_of scene old place event next steps in
    let head : first ≡ e = ap (first_or first) is in
    record {
      events = [];
      mid = old;
      run = refl;
      entries = refl;
      event = event;
      next = next;
      steps = subst (λ (x : Entry). Steps scene old x.place event next) head steps;
      asked = subst (λ (x : Entry). x.asked ≡ struck (request scene.setup (old.task x.place))) head refl;
    }
cut scene old (event ∷ events) new (next, (place, steps), run) (b ∷ before) after e is =
    let first = entry_of scene old place event next steps in
    let head : first ≡ b = ap (first_or first) is in
    let c = cut scene next events new run before after e (ap behind_first is) in
    record {
      events = event ∷ c.events;
      mid = c.mid;
      run = (next, (place, steps), c.run);
      entries = λ i. head i ∷ c.entries i;
      event = c.event;
      next = c.next;
      steps = c.steps;
      asked = c.asked;
    }

module _ (s : Scenario) (ledger : ℕ → LedgerId) (good : IsScenario s) (naming : IsNaming ledger) where
  -- what stands before an entry, by the entries of its task
  abbrev StandsBehind : List Entry → Entry → Type 0
  StandsBehind before e = ComesBehind s before (task_behind_entries (setup_in s) ((start s).task e.place) (entries_by e.place before)) e.asked

  stands_in : (entries : List Entry) (last : State) → AreOfRun s ledger entries last → AtEach entries StandsBehind
  stands_in entries last (events, run, is) before after e at =
      let c = cut (scene s ledger) (start s) events last run before after e (is ∙ at) in
      let b = behind_run s ledger before c.mid (c.events, c.run, c.entries) in
      let k = rounds_known s ledger good naming before c.mid b.reached in
      let comes = comes_by s ledger before c.mid k b.count e.place (c.mid.task e.place) refl c.steps.is_let in
      subst (λ x. ComesBehind s before x e.asked) (b.mine e.place) (subst (ComesBehind s before (c.mid.task e.place)) (sym c.asked) comes)

  product_of : (entries : List Entry) (last : State) → AreOfRun s ledger entries last → IsProduct s ledger entries last
  product_of entries last (events, run, is) =
      let stands = stands_in entries last (events, run, is) in
      record {
        events = subst AreEvents is (run_events (scene s ledger) (start s) events last run);
        objects = λ name. subst (λ l. LeadsObject ledger name (object_named (start s).objects name) (entries_at name l) (object_named last.objects name)) is
            (run_objects (scene s ledger) name (start s) events last run);
        tasks = λ place. subst (λ l. EntriesLead (setup_in s) ((start s).task place) (entries_by place l) (last.task place)) is
            (run_tasks (scene s ledger) place (start s) events last run);
        takes = λ before after e at. (stands before after e at).takes;
        rounds = λ before after e at. (stands before after e at).rounds;
        resizes = λ before after e at. (stands before after e at).resizes;
      }

  run_of : (entries : List Entry) (last : State) → IsProduct s ledger entries last → AreOfRun s ledger entries last
  run_of entries last p =
      leads s ledger good naming [] entries (start s) last (at_start s ledger) p.events p.objects p.tasks
      (λ between after e is state reached.
      let b = behind_run s ledger between state reached in
      subst (λ (x : TaskState). ComesBehind s between x e.asked) (sym (b.mine e.place)) (record { takes = p.takes between after e is; rounds = p.rounds between after e is; resizes = p.resizes between after e is }))

pub runs_are_products : RunsAreProducts
runs_are_products s ledger entries last good naming = (product_of s ledger good naming entries last, run_of s ledger good naming entries last)
