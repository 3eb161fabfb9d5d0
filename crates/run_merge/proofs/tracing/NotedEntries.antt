-- What is noted along entries with tickets: of one task, and of all.
use Rattle.std.proofs.Common.{◌≡◌, ◌⊎◌, ◌<◌, ◌≤◌, ◌++◌, ◌==◌, cond, if◌then◌else◌, ℕ, Bool, true, false, List, [], ◌∷◌, Option, None, Some, filter, map, inl, inr, refl, sym, ◌∙◌, ap, subst, arith}
use Rattle.std.specs.Prelude.{All, Contains}
use Rattle.std.proofs.lemmas.Bool.{true≢false, eq-eqb, eqb-true, eqb-false}
use Rattle.std.proofs.lemmas.List.Elements.{All-cons, All-head, All-nil, All-tail, Contains-append_left, Contains-append_right, Contains-append_cases}
use Rattle.std.proofs.lemmas.List.Sums.{sum_by-cons}
use Rattle.stack_base.proofs.ListLemmas.{first_or, behind_first}
use Rattle.run_machine.specs.declared.event.Event.{Event}
use Rattle.run_machine.specs.declared.event.What.{What}
use Rattle.run_machine.specs.Events.{id_of, what_of}
use Rattle.run_machine.specs.Laws.{OfNone, object_of}
use Rattle.run_machine.specs.Maps.{upd}
use Rattle.run_machine.specs.Runs.{State, IsRun}
use Rattle.run_machine.specs.Scene.{Setup, Scene}
use Rattle.run_machine.specs.Tasks.{TaskState, request, answered}
use Rattle.run_machine.proofs.Frames.{upd_same, upd_other}
use Rattle.object_things.specs.Histories.{Call, or_last}
use Rattle.shared_objects.specs.Logs.{is_event, is_stop, LogLeads}
use Rattle.shared_objects.specs.Noting.{noted_as, notes_of}
use Rattle.shared_objects.proofs.logs.CallsLead.{kinds, stop_kind}
use Rattle.shared_objects.proofs.logs.StepNotes.{no_what}
use Rattle.shared_objects.proofs.steps.GlanceStays.{event_struck}
use Rattle.run_merge.specs.Entries.{Entry, entries_in}
use Rattle.run_merge.specs.Merging.{Ticketed, without_tickets}
use Rattle.run_merge.proofs.Fronts.{is_none}
use Rattle.run_merge.proofs.enough_shown.BreaksOff.{stop_breaks}
use Rattle.run_merge.proofs.enough_shown.CallTickets.{events_told, events_untold}
use Rattle.run_merge.proofs.enough_shown.CallEvents.{drawn_entry, ticketed_events}
use Rattle.run_merge.proofs.enough_shown.LogLeads.{is_told, AskSome, only_looks}
use Rattle.run_merge.proofs.merging.Picked.{is_by}
use Rattle.run_merge.proofs.products.StateBehind.{entry_of}
use Rattle.run_merge.proofs.tracing.RisingLists.{NoneFalls, is_hit, hits}

abbrev pub tickets_of : List Ticketed → List ℕ
tickets_of ns = map (λ (n : Ticketed). n.ticket) ns

abbrev pub keys_of : List (ℕ × Event) → List ℕ
keys_of notes = map (λ (e : ℕ × Event). e.0) notes

abbrev pub events_of : List (ℕ × Event) → List Event
events_of notes = map (λ (e : ℕ × Event). e.1) notes

-- what a reply is to a task
abbrev pub note_at : Setup → TaskState → Ticketed → List (ℕ × Event)
note_at setup task n = noted_as n.ticket task (what_of (request setup task) n.entry.reply)

-- what is noted of one task along its own entries
abbrev pub own_notes : Setup → TaskState → List Ticketed → List (ℕ × Event)
own_notes setup task [] = []
own_notes setup task (n ∷ ns) = note_at setup task n ++ own_notes setup (answered setup task n.entry.reply) ns

-- where each task is behind an entry
abbrev pub tasks_behind : Setup → (ℕ → TaskState) → Ticketed → ℕ → TaskState
tasks_behind setup task n = upd task n.entry.place (answered setup (task n.entry.place) n.entry.reply)

-- what is noted of all tasks along entries
abbrev pub led_notes : Setup → (ℕ → TaskState) → List Ticketed → List (ℕ × Event)
led_notes setup task [] = []
led_notes setup task (n ∷ ns) = note_at setup (task n.entry.place) n ++ led_notes setup (tasks_behind setup task n) ns

-- along the entries of a run its events are noted, with all tickets
pub run_notes : (scene : Scene) (old : State) (events : List Event) (new : State) (run : IsRun scene old events new) (ns : List Ticketed)
    → entries_in scene old events new run ≡ without_tickets ns
    → (keys_of (led_notes scene.setup old.task ns) ≡ tickets_of ns) × (events_of (led_notes scene.setup old.task ns) ≡ events)
run_notes scene old [] new run [] is = (refl, refl)
run_notes scene old [] new run (n ∷ ns) is = absurd (true≢false (ap is_none is))
run_notes scene old (event ∷ events) new (next, (place, steps), run) [] is = absurd (true≢false (sym (ap is_none is)))
run_notes scene old (event ∷ events) new (next, (place, steps), run) (n ∷ ns) is =
    let rest = run_notes scene next events new run ns (ap behind_first is) in
    (keys ∙ ap (λ l. n.ticket ∷ l) rest.0, values ∙ ap (λ l. event ∷ l) rest.1)
  where
    first : entry_of scene old place event next steps ≡ n.entry
    first = ap (first_or n.entry) is

    what : what_of (request scene.setup (old.task n.entry.place)) n.entry.reply ≡ Some event.what
    what = subst (λ (e : Entry). what_of (request scene.setup (old.task e.place)) e.reply ≡ Some event.what) first steps.told

    by : event.task ≡ id_of (old.task n.entry.place)
    by = subst (λ (e : Entry). event.task ≡ id_of (old.task e.place)) first steps.by

    goes_on : next.task ≡ tasks_behind scene.setup old.task n
    goes_on = subst (λ (e : Entry). next.task ≡ upd old.task e.place (answered scene.setup (old.task e.place) e.reply)) first steps.goes_on

    keys : keys_of (led_notes scene.setup old.task (n ∷ ns)) ≡ n.ticket ∷ keys_of (led_notes scene.setup next.task ns)
    keys =
        ap (λ w. keys_of (noted_as n.ticket (old.task n.entry.place) w ++ led_notes scene.setup (tasks_behind scene.setup old.task n) ns)) what
        ∙ ap (λ task. n.ticket ∷ keys_of (led_notes scene.setup task ns)) (sym goes_on)

    values : events_of (led_notes scene.setup old.task (n ∷ ns)) ≡ event ∷ events_of (led_notes scene.setup next.task ns)
    values =
        ap (λ w. events_of (noted_as n.ticket (old.task n.entry.place) w ++ led_notes scene.setup (tasks_behind scene.setup old.task n) ns)) what
        ∙ ap (λ task. record { task = id_of (old.task n.entry.place); what = event.what } ∷ events_of (led_notes scene.setup task ns)) (sym goes_on)
        ∙ ap (λ id. record { task = id; what = event.what } ∷ events_of (led_notes scene.setup next.task ns)) (sym by)

module _ (setup : Setup) where
  -- what is noted of a task is noted among all,
  pub of_task : (task : ℕ → TaskState) (ns : List Ticketed) (place : ℕ) (x : ℕ × Event) → Contains (own_notes setup (task place) (filter (is_by place) ns)) x → Contains (led_notes setup task ns) x
  of_task task [] place x there = there
  of_task task (n ∷ ns) place x there = by_test (place == n.entry.place) refl there (of_task (tasks_behind setup task n) ns place x)
    where
      few : List Ticketed
      few = filter (is_by place) ns

      by_test : (b : Bool) → (place == n.entry.place) ≡ b → Contains (own_notes setup (task place) (cond b (n ∷ few) few)) x
          → (Contains (own_notes setup (tasks_behind setup task n place) few) x → Contains (led_notes setup (tasks_behind setup task n) ns) x) → Contains (led_notes setup task (n ∷ ns)) x
      by_test true same there rest = by_two (Contains-append_cases (note_at setup (task place) n) (own_notes setup (answered setup (task place) n.entry.reply) few) x there)
        where
          is : place ≡ n.entry.place
          is = eqb-true place n.entry.place same

          now : tasks_behind setup task n place ≡ answered setup (task place) n.entry.reply
          now = ap (tasks_behind setup task n) is ∙ upd_same task n.entry.place (answered setup (task n.entry.place) n.entry.reply) ∙ ap (λ p. answered setup (task p) n.entry.reply) (sym is)

          by_two : Contains (note_at setup (task place) n) x ⊎ Contains (own_notes setup (answered setup (task place) n.entry.reply) few) x → Contains (led_notes setup task (n ∷ ns)) x
          by_two (inl here) =
              Contains-append_left (note_at setup (task n.entry.place) n) (led_notes setup (tasks_behind setup task n) ns) x (subst (λ p. Contains (note_at setup (task p) n) x) is here)
          by_two (inr later) =
              Contains-append_right (note_at setup (task n.entry.place) n) (led_notes setup (tasks_behind setup task n) ns) x (rest (subst (λ t. Contains (own_notes setup t few) x) (sym now) later))
      by_test false same there rest =
          let now = upd_other task n.entry.place (answered setup (task n.entry.place) n.entry.reply) place (eqb-false place n.entry.place same) in
          Contains-append_right (note_at setup (task n.entry.place) n) (led_notes setup (tasks_behind setup task n) ns) x (rest (subst (λ t. Contains (own_notes setup t few) x) (sym now) there))

  -- and what is noted among all is noted of a task
  pub record IsNotedOf (task : ℕ → TaskState) (ns : List Ticketed) (count : ℕ) (x : ℕ × Event) : Type 0 where
    pub place : ℕ
    pub less : place < count
    pub there : Contains (own_notes setup (task place) (filter (is_by place) ns)) x

  pub task_of : (task : ℕ → TaskState) (ns : List Ticketed) (count : ℕ) (x : ℕ × Event) → All (λ (n : Ticketed). n.entry.place < count) ns → Contains (led_notes setup task ns) x
      → IsNotedOf task ns count x
  task_of task [] count x less (k, lt, at) = absurd (omega (arith, lt))
  task_of task (n ∷ ns) count x less there =
      by_two (Contains-append_cases (note_at setup (task n.entry.place) n) (led_notes setup (tasks_behind setup task n) ns) x there)
      (task_of (tasks_behind setup task n) ns count x (All-tail (λ (n : Ticketed). n.entry.place < count) n ns less))
    where
      later : IsNotedOf (tasks_behind setup task n) ns count x → IsNotedOf task (n ∷ ns) count x
      later o = record { place = o.place; less = o.less; there = by_test (o.place == n.entry.place) refl }
        where
          few : List Ticketed
          few = filter (is_by o.place) ns

          by_test : (b : Bool) → (o.place == n.entry.place) ≡ b → Contains (own_notes setup (task o.place) (cond b (n ∷ few) few)) x
          by_test true same =
              let is = eqb-true o.place n.entry.place same in
              let now : tasks_behind setup task n o.place ≡ answered setup (task o.place) n.entry.reply =
              ap (tasks_behind setup task n) is ∙ upd_same task n.entry.place (answered setup (task n.entry.place) n.entry.reply) ∙ ap (λ p. answered setup (task p) n.entry.reply) (sym is) in
              Contains-append_right (note_at setup (task o.place) n) (own_notes setup (answered setup (task o.place) n.entry.reply) few) x (subst (λ t. Contains (own_notes setup t few) x) now o.there)
          by_test false same =
              subst (λ t. Contains (own_notes setup t few) x) (upd_other task n.entry.place (answered setup (task n.entry.place) n.entry.reply) o.place (eqb-false o.place n.entry.place same)) o.there

      by_two : Contains (note_at setup (task n.entry.place) n) x ⊎ Contains (led_notes setup (tasks_behind setup task n) ns) x
          → (Contains (led_notes setup (tasks_behind setup task n) ns) x → IsNotedOf (tasks_behind setup task n) ns count x) → IsNotedOf task (n ∷ ns) count x
      by_two (inl here) rest = record {
        place = n.entry.place;
        less = All-head (λ (n : Ticketed). n.entry.place < count) n ns less;
        there = subst (λ b. Contains (own_notes setup (task n.entry.place) (cond b (n ∷ filter (is_by n.entry.place) ns) (filter (is_by n.entry.place) ns))) x) (sym (eq-eqb n.entry.place n.entry.place refl))
            (Contains-append_left (note_at setup (task n.entry.place) n) (own_notes setup (answered setup (task n.entry.place) n.entry.reply) (filter (is_by n.entry.place) ns)) x here);
      }
      by_two (inr behind) rest = later (rest behind)

  -- no ticket is noted more often than it stands there
  pub keys_fewer : (number : ℕ) (task : TaskState) (ns : List Ticketed) → hits number (keys_of (own_notes setup task ns)) ≤ hits number (tickets_of ns)
  keys_fewer number task [] = omega arith
  keys_fewer number task (n ∷ ns) = by_what (what_of (request setup task) n.entry.reply) (keys_fewer number (answered setup task n.entry.reply) ns)
    where
      rest : List (ℕ × Event)
      rest = own_notes setup (answered setup task n.entry.reply) ns

      by_what : (what : Option What) → hits number (keys_of rest) ≤ hits number (tickets_of ns) → hits number (keys_of (noted_as n.ticket task what ++ rest)) ≤ hits number (tickets_of (n ∷ ns))
      by_what None le = let more = sum_by-cons (is_hit number) n.ticket (tickets_of ns) in omega (arith, le, more)
      by_what (Some what) le =
          let more = sum_by-cons (is_hit number) n.ticket (tickets_of ns) in
          let same = sum_by-cons (is_hit number) n.ticket (keys_of rest) in
          omega (arith, le, more, same)

  -- and where tickets do not fall, they do not among notes
  own_all : (P : ℕ → Type 0) (task : TaskState) (ns : List Ticketed) → All P (tickets_of ns) → All P (keys_of (own_notes setup task ns))
  own_all P task [] all = All-nil P
  own_all P task (n ∷ ns) all =
      by_what (what_of (request setup task) n.entry.reply) (own_all P (answered setup task n.entry.reply) ns (All-tail P n.ticket (tickets_of ns) all))
    where
      rest : List (ℕ × Event)
      rest = own_notes setup (answered setup task n.entry.reply) ns

      by_what : (what : Option What) → All P (keys_of rest) → All P (keys_of (noted_as n.ticket task what ++ rest))
      by_what None later = later
      by_what (Some what) later = All-cons P n.ticket (keys_of rest) (All-head P n.ticket (tickets_of ns) all) later

  pub own_falls : (task : TaskState) (ns : List Ticketed) → NoneFalls (tickets_of ns) → NoneFalls (keys_of (own_notes setup task ns))
  own_falls task [] falls = tt
  own_falls task (n ∷ ns) falls =
      by_what (what_of (request setup task) n.entry.reply) (own_all (λ m. n.ticket ≤ m) (answered setup task n.entry.reply) ns falls.0) (own_falls (answered setup task n.entry.reply) ns falls.1)
    where
      rest : List (ℕ × Event)
      rest = own_notes setup (answered setup task n.entry.reply) ns

      by_what : (what : Option What) → All (λ m. n.ticket ≤ m) (keys_of rest) → NoneFalls (keys_of rest) → NoneFalls (keys_of (noted_as n.ticket task what ++ rest))
      by_what None least later = later
      by_what (Some what) least later = (least, later)

  -- what a task's calls were is noted along the events of its log
  pub log_notes : (before : List Call) (first : TaskState) (log : List Call) (last : TaskState) → AskSome log → LogLeads setup before first log last
      → notes_of setup first log ≡ own_notes setup first (ticketed_events log)
  log_notes before first [] last some leads = refl
  log_notes before first (call ∷ calls) last some (inl (glance, leads)) =
      ap (λ b. if b then notes_of setup first calls else noted_as (or_last 0 call.told.drawn) first (what_of (request setup first) call.told.reply) ++ notes_of setup (answered setup first call.told.reply) calls) glance
      ∙ log_notes (before ++ call ∷ []) first calls last (All-tail (λ (c : Call). object_of c.asked ≡ OfNone → ⊥) call calls some) leads
      ∙ ap (own_notes setup first) (sym (events_untold call calls (kinds call glance).0))
  log_notes before first (call ∷ calls) last some (inr (goes, asks, looked, leads)) =
      ap (λ b. if b then notes_of setup first calls else noted_as (or_last 0 call.told.drawn) first (what_of (request setup first) call.told.reply) ++ notes_of setup (answered setup first call.told.reply) calls) goes
      ∙ by_event (is_told call) refl (log_notes (before ++ call ∷ []) (answered setup first call.told.reply) calls last others leads)
    where
      others : AskSome calls
      others = All-tail (λ (c : Call). object_of c.asked ≡ OfNone → ⊥) call calls some

      by_event : (told : Bool) → is_told call ≡ told → notes_of setup (answered setup first call.told.reply) calls ≡ own_notes setup (answered setup first call.told.reply) (ticketed_events calls)
          → noted_as (or_last 0 call.told.drawn) first (what_of (request setup first) call.told.reply) ++ notes_of setup (answered setup first call.told.reply) calls
          ≡ own_notes setup first (ticketed_events (call ∷ calls))
      by_event true is rest =
          ap (λ l. noted_as (or_last 0 call.told.drawn) first (what_of (request setup first) call.told.reply) ++ l) rest ∙ ap (own_notes setup first) (sym (events_told call calls is))
      by_event false is rest =
          let stop = stop_kind (is_told call) (is_stop call.asked call.told.reply) goes is in
          let broken = stop_breaks setup first call.asked call.told.reply asks (All-head (λ (c : Call). object_of c.asked ≡ OfNone → ⊥) call calls some) stop in
          let behind = only_looks setup (before ++ call ∷ []) (answered setup first call.told.reply) calls last broken others leads in
          let none : what_of (request setup first) call.told.reply ≡ None =
          no_what (what_of (request setup first) call.told.reply)
          (sym (event_struck (request setup first) call.told.reply) ∙ ap (λ asked. is_event asked call.told.reply) (sym asks) ∙ is) in
          ap (λ what. noted_as (or_last 0 call.told.drawn) first what ++ notes_of setup (answered setup first call.told.reply) calls) none
          ∙ rest ∙ ap (λ l. own_notes setup (answered setup first call.told.reply) (map drawn_entry l)) behind.1
          ∙ sym (ap (own_notes setup first) (events_untold call calls is ∙ ap (map drawn_entry) behind.1))
