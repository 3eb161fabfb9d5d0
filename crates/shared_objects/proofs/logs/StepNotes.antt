-- What a step notes of its calls.
use Rattle.std.proofs.Common.{◌≡◌, ◌++◌, cond, if◌then◌else◌, ℕ, Bool, true, false, List, [], ◌∷◌, Option, None, Some, inl, inr, refl, sym, ◌∙◌, ap, subst}
use Rattle.std.specs.Prelude.{All, IfSome}
use Rattle.std.specs.Option.{is_some}
use Rattle.std.proofs.lemmas.List.{append-nil, append_assoc}
use Rattle.std.proofs.lemmas.List.Elements.{All-nil, All-cons, All-head, All-tail, All-filter}
use Rattle.run_machine.specs.declared.event.Event.{Event}
use Rattle.run_machine.specs.declared.event.What.{What}
use Rattle.run_machine.specs.Events.{id_of, what_of}
use Rattle.run_machine.specs.Laws.{OfNone}
use Rattle.run_machine.specs.Scene.{Setup}
use Rattle.run_machine.specs.Tasks.{TaskState, request, answered}
use Rattle.task_steps.specs.declared.step.Step.{Step}
use Rattle.task_steps.specs.declared.step.Step.TheVariants.{Stepped, Blocked, Waiting, Ended, Broken}
use Rattle.object_things.specs.Histories.{Call, or_last}
use Rattle.shared_objects.specs.Calls.{calls_to, struck}
use Rattle.shared_objects.specs.Desks.{DeskState}
use Rattle.shared_objects.specs.Logs.{is_event, is_stop, is_glance, events_in, LogLeads, IsLogged, seen_by, ShowsStep}
use Rattle.shared_objects.specs.Noting.{noted_as, note_of, notes_of, HaveTickets, AddsNote, AreNoted, NotesStep}
use Rattle.shared_objects.specs.declared.noted.Noted.{Noted}
use Rattle.shared_objects.proofs.steps.BrokenRests.{broken_rests, stop_breaks}
use Rattle.shared_objects.proofs.logs.CallsLead.{AsksSome, apart_of, asks_some, event_first, glances_quiet, kinds, quiet_first, rest_glances, stop_kind}
use Rattle.shared_objects.proofs.steps.GlanceStays.{event_struck, stop_struck}

all_left : {X : Type 0} (P : X → Type 0) (xs ys : List X) → All P (xs ++ ys) → All P xs
all_left P [] ys all = All-nil P
all_left P (x ∷ xs) ys all = All-cons P x xs (All-head P x (xs ++ ys) all) (all_left P xs ys (All-tail P x (xs ++ ys) all))

all_right : {X : Type 0} (P : X → Type 0) (xs ys : List X) → All P (xs ++ ys) → All P ys
all_right P [] ys all = all
all_right P (x ∷ xs) ys all = all_right P xs ys (All-tail P x (xs ++ ys) all)

-- where a call tells of nothing, it is no event
pub no_what : (what : Option What) → is_some what ≡ false → what ≡ None
no_what None none = refl
no_what (Some what) none = absurd (cc none)

-- an event drew a ticket
abbrev pub HasTicket : Call → Type 0
HasTicket call = is_event call.asked call.told.reply ≡ true → is_some call.told.drawn ≡ true

pub earlier_tickets : (log more : List Call) → HaveTickets (log ++ more) → HaveTickets log
earlier_tickets log more have = all_left HasTicket log more have

-- what is noted of a step
abbrev noted_by : Step → ℕ → List (ℕ × Event)
noted_by (Stepped event) seen = (seen, event) ∷ []
noted_by step seen = []

module _ (setup : Setup) where
  -- what is noted of calls that are events
  abbrev notes_along : TaskState → List Call → List (ℕ × Event)
  notes_along task [] = []
  notes_along task (call ∷ calls) = note_of setup task call ++ notes_along (answered setup task call.told.reply) calls

  abbrev next_notes : TaskState → Call → List Call → Bool → List (ℕ × Event)
  next_notes task call calls glance =
      if glance then notes_of setup task calls else note_of setup task call ++ notes_of setup (answered setup task call.told.reply) calls

  glances_note : (before calls : List Call) (task last : TaskState) → All (λ (c : Call). is_glance c.asked c.told.reply ≡ true) calls → notes_of setup task calls ≡ []
  glances_note before [] task last all = refl
  glances_note before (call ∷ calls) task last all =
      ap (next_notes task call calls) (All-head (λ (c : Call). is_glance c.asked c.told.reply ≡ true) call calls all)
      ∙ glances_note before calls task last (All-tail (λ (c : Call). is_glance c.asked c.told.reply ≡ true) call calls all)

  -- only events are noted
  call_notes : (before calls : List Call) (call : Call) (task last : TaskState) (event : Bool) → is_event call.asked call.told.reply ≡ event
      → is_glance call.asked call.told.reply ≡ false → call.asked ≡ struck (request setup task) → All AsksSome (call ∷ calls)
      → LogLeads setup before (answered setup task call.told.reply) calls last
      → notes_of setup (answered setup task call.told.reply) calls ≡ notes_along (answered setup task call.told.reply) (events_in calls)
      → note_of setup task call ++ notes_of setup (answered setup task call.told.reply) calls ≡ notes_along task (events_in (call ∷ calls))
  call_notes before calls call task last true is goes asks some leads rest =
      ap (λ l. note_of setup task call ++ l) rest ∙ ap (notes_along task) (sym (event_first call calls is))
  call_notes before calls call task last false is goes asks some leads rest =
      let apart = apart_of setup task call (All-head AsksSome call calls some) asks in
      let stop : is_stop (request setup task) call.told.reply ≡ true =
      sym (stop_struck (request setup task) call.told.reply) ∙ sym (ap (λ a. is_stop a call.told.reply) asks)
      ∙ stop_kind (is_event call.asked call.told.reply) (is_stop call.asked call.told.reply) goes is in
      let rests = broken_rests setup (answered setup task call.told.reply) (stop_breaks setup task call.told.reply apart stop) in
      let glances = (rest_glances setup before calls (answered setup task call.told.reply) last rests (All-tail AsksSome call calls some) leads).0 in
      let none : what_of (request setup task) call.told.reply ≡ None =
      no_what (what_of (request setup task) call.told.reply)
      (sym (event_struck (request setup task) call.told.reply) ∙ sym (ap (λ a. is_event a call.told.reply) asks) ∙ is) in
      ap (λ what. noted_as (or_last 0 call.told.drawn) task what ++ notes_of setup (answered setup task call.told.reply) calls) none
      ∙ glances_note before calls (answered setup task call.told.reply) last glances
      ∙ sym (ap (notes_along task) (quiet_first call calls is ∙ glances_quiet calls glances))

  events_note : (before log : List Call) (task last : TaskState) → All AsksSome log → LogLeads setup before task log last
      → notes_of setup task log ≡ notes_along task (events_in log)
  events_note before [] task last some leads = refl
  events_note before (call ∷ calls) task last some (inl (glance, leads)) =
      ap (next_notes task call calls) glance ∙ events_note (before ++ call ∷ []) calls task last (All-tail AsksSome call calls some) leads
      ∙ ap (notes_along task) (sym (quiet_first call calls (kinds call glance).0))
  events_note before (call ∷ calls) task last some (inr (goes, asks, looked, leads)) =
      ap (next_notes task call calls) goes
      ∙ call_notes (before ++ call ∷ []) calls call task last (is_event call.asked call.told.reply) refl goes asks some leads
      (events_note (before ++ call ∷ []) calls (answered setup task call.told.reply) last (All-tail AsksSome call calls some) leads)

  -- notes of calls behind others
  notes_more : (before log more : List Call) (first task : TaskState) → LogLeads setup before first log task
      → notes_of setup first (log ++ more) ≡ notes_of setup first log ++ notes_of setup task more
  notes_more before [] more first task leads = ap (λ t. notes_of setup t more) (sym leads)
  notes_more before (call ∷ calls) more first task (inl (glance, leads)) =
      ap (next_notes first call (calls ++ more)) glance ∙ notes_more (before ++ call ∷ []) calls more first task leads
      ∙ ap (λ l. l ++ notes_of setup task more) (sym (ap (next_notes first call calls) glance))
  notes_more before (call ∷ calls) more first task (inr (goes, asks, looked, leads)) =
      let next = answered setup first call.told.reply in
      ap (next_notes first call (calls ++ more)) goes
      ∙ ap (λ l. note_of setup first call ++ l) (notes_more (before ++ call ∷ []) calls more next task leads)
      ∙ sym (append_assoc (note_of setup first call) (notes_of setup next calls) (notes_of setup task more))
      ∙ ap (λ l. l ++ notes_of setup task more) (sym (ap (next_notes first call calls) goes))

  -- where calls lead behind others, the later ones lead from where the earlier ones do
  leads_behind : (before xs ys : List Call) (first mid last : TaskState) → LogLeads setup before first xs mid → LogLeads setup before first (xs ++ ys) last
      → LogLeads setup (before ++ xs) mid ys last
  leads_behind before [] ys first mid last is all =
      subst (λ b. LogLeads setup b mid ys last) (sym (append-nil before)) (subst (λ t. LogLeads setup before t ys last) (sym is) all)
  leads_behind before (x ∷ xs) ys first mid last (inl (glance, is)) (inl (same, all)) =
      subst (λ b. LogLeads setup b mid ys last) (append_assoc before (x ∷ []) xs) (leads_behind (before ++ x ∷ []) xs ys first mid last is all)
  leads_behind before (x ∷ xs) ys first mid last (inr (goes, asks, looked, is)) (inr (same, again, seen, all)) =
      subst (λ b. LogLeads setup b mid ys last) (append_assoc before (x ∷ []) xs)
      (leads_behind (before ++ x ∷ []) xs ys (answered setup first x.told.reply) mid last is all)
  leads_behind before (x ∷ xs) ys first mid last (inl (glance, is)) (inr (goes, again, seen, all)) = absurd (cc (sym glance ∙ goes))
  leads_behind before (x ∷ xs) ys first mid last (inr (goes, asks, looked, is)) (inl (glance, all)) = absurd (cc (sym glance ∙ goes))

  ticket_seen : (ticket : Option ℕ) (seen : ℕ) → is_some ticket ≡ true → IfSome ticket (λ n. n ≡ seen) → or_last 0 ticket ≡ seen
  ticket_seen None seen some is = absurd (cc some)
  ticket_seen (Some n) seen some is = is

  -- a step that tells an event notes it, with what the pass has seen then, and any other notes nothing
  step_notes : (task next : TaskState) (seen : ℕ) (more : List Call) (step : Step) → ShowsStep setup task next seen more step → All HasTicket more
      → notes_along task (events_in more) ≡ noted_by step seen
  step_notes task next seen more (Stepped event) shows have =
      let call = shows.0 in
      let what = what_of (request setup task) call.told.reply in
      let is : is_event call.asked call.told.reply ≡ true =
      ap (λ a. is_event a call.told.reply) shows.2 ∙ event_struck (request setup task) call.told.reply ∙ ap is_some shows.3 in
      let drew : is_some call.told.drawn ≡ true =
      All-head HasTicket call [] (subst (All HasTicket) shows.1 (All-filter (λ (c : Call). is_event c.asked c.told.reply) HasTicket more have)) is in
      ap (notes_along task) shows.1 ∙ append-nil (note_of setup task call) ∙ ap (noted_as (or_last 0 call.told.drawn) task) shows.3
      ∙ ap (λ n. (n, record { task = id_of task; what = event.what }) ∷ []) (ticket_seen call.told.drawn seen drew shows.5)
      ∙ ap (λ id. (seen, record { task = id; what = event.what }) ∷ []) (sym shows.4)
  step_notes task next seen more Ended shows have = ap (notes_along task) shows.0
  step_notes task next seen more (Broken breach) shows have = ap (notes_along task) shows.0
  step_notes task next seen more Waiting shows have = ap (notes_along task) shows
  step_notes task next seen more (Blocked pool) shows have = ap (notes_along task) shows

  -- the notes of a log with the calls of one more step
  pub log_notes : (first task next : TaskState) (log more : List Call) (old new : DeskState) (step : Step) → IsLogged setup first log task old
      → IsLogged setup first (log ++ more) next new → ShowsStep setup task next (seen_by new.pass) more step → HaveTickets (log ++ more)
      → notes_of setup first (log ++ more) ≡ notes_of setup first log ++ noted_by step (seen_by new.pass)
  log_notes first task next log more old new step was is shows have =
      let some = all_right AsksSome log more (asks_some (log ++ more) (is.calls OfNone)) in
      notes_more [] log more first task was.leads
      ∙ ap (λ l. notes_of setup first log ++ l)
      (events_note log more task next some (leads_behind [] log more first task next was.leads is.leads)
      ∙ step_notes task next (seen_by new.pass) more step shows (all_right HasTicket log more have))

same_list : (notes more : List (ℕ × Event)) (old list : Noted) → more ≡ notes ++ [] → AreNoted notes (Some old) → list ≡ old → AreNoted more (Some list)
same_list notes more old list is were same =
    subst (λ l. AreNoted more (Some l)) (sym same) (subst (λ l. AreNoted l (Some old)) (sym (is ∙ append-nil notes)) were)

-- one note more, or no memory for it
adds_note : (notes : List (ℕ × Event)) (note : ℕ × Event) (old new : Noted) → AreNoted notes (Some old) → AddsNote note old new → AreNoted (notes ++ note ∷ []) (Some new)
adds_note notes note old new (inl (whole, all)) (inl (was, is, adds)) = inl (is, adds ∙ ap (λ l. l ++ note ∷ []) all)
adds_note notes note old new (inr (part, front)) (inl (was, is, adds)) = absurd (cc (sym part ∙ was))
adds_note notes note old new (inl (whole, all)) (inr (stops, same)) = inr (stops, (note, [], ap (λ l. l ++ note ∷ []) (sym (same ∙ all))))
adds_note notes note old new (inr (part, (next, rest, front))) (inr (stops, same)) =
    inr (stops, (next, rest ++ note ∷ [], ap (λ l. l ++ note ∷ []) front ∙ append_assoc old.events.items (next ∷ rest) (note ∷ []) ∙ ap (λ l. l ++ next ∷ (rest ++ note ∷ [])) (sym same)))

-- a step keeps that what is noted is all, or those before one for which there was no memory
pub stays_noted : (step : Step) (seen : ℕ) (notes more : List (ℕ × Event)) (old new : Option Noted) → more ≡ notes ++ noted_by step seen → AreNoted notes old
    → NotesStep step seen old new → AreNoted more new
stays_noted step seen notes more None new is were goes = subst (AreNoted more) (sym goes) tt
stays_noted step seen notes more (Some old) None is were goes = tt
stays_noted (Stepped event) seen notes more (Some old) (Some new) is were goes =
    subst (λ l. AreNoted l (Some new)) (sym is) (adds_note notes (seen, event) old new were goes)
stays_noted Ended seen notes more (Some old) (Some new) is were goes = same_list notes more old new is were goes
stays_noted (Broken breach) seen notes more (Some old) (Some new) is were goes = same_list notes more old new is were goes
stays_noted Waiting seen notes more (Some old) (Some new) is were goes = same_list notes more old new is were goes
stays_noted (Blocked pool) seen notes more (Some old) (Some new) is were goes = same_list notes more old new is were goes

-- a list that is whole has all notes
pub whole_notes : (notes : List (ℕ × Event)) (noted : Noted) → AreNoted notes (Some noted) → noted.whole ≡ true → noted.events.items ≡ notes
whole_notes notes noted (inl (is, all)) whole = all
whole_notes notes noted (inr (part, front)) whole = absurd (cc (sym part ∙ whole))
