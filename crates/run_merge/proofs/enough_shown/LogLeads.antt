-- The log of a task leads it on by its events, up to a call that breaks it off, if there is one.
use Rattle.std.proofs.Common.{◌≡◌, ◌⊎◌, ◌++◌, cond, Bool, true, false, List, [], ◌∷◌, inl, inr, refl, sym, ◌∙◌, ap, subst}
use Rattle.std.specs.Prelude.{All, map}
use Rattle.std.proofs.lemmas.Bool.{true≢false}
use Rattle.std.proofs.lemmas.List.{append_assoc, append-nil}
use Rattle.std.proofs.lemmas.List.Elements.{All-head, All-tail}
use Rattle.run_machine.specs.Laws.{OfNone, object_of}
use Rattle.run_machine.specs.Scene.{Setup}
use Rattle.run_machine.specs.Tasks.{TaskState, request, look_of, answered, is_broken}
use Rattle.object_things.specs.Histories.{Call}
use Rattle.shared_objects.specs.Calls.{struck}
use Rattle.shared_objects.specs.Logs.{is_event, is_stop, events_in, Looked, LogLeads}
use Rattle.shared_objects.proofs.logs.CallsLead.{event_first, kinds, quiet_first, stop_kind}
use Rattle.shared_objects.proofs.steps.BrokenRests.{broken_rests}
use Rattle.run_merge.specs.Merging.{Ticketed, without_tickets}
use Rattle.run_merge.specs.Products.{EntriesLead, task_behind_entries}
use Rattle.run_merge.proofs.Fronts.{has_some}
use Rattle.run_merge.proofs.enough_shown.BreaksOff.{stop_breaks}
use Rattle.run_merge.proofs.enough_shown.CallEvents.{drawn_entry, ticketed_events}

abbrev pub is_told : Call → Bool
is_told call = is_event call.asked call.told.reply

-- each of these calls asks some object
abbrev pub AskSome : List Call → Type 0
AskSome calls = All (λ (call : Call). object_of call.asked ≡ OfNone → ⊥) calls

-- The call that broke the task off, which was at `now`, among calls behind others: what is behind it are looks.
pub record IsStopped (setup : Setup) (before : List Call) (log : List Call) (now last : TaskState) : Type 0 where
  pub here : List Call
  pub call : Call
  pub later : List Call
  pub log_is : log ≡ here ++ call ∷ later
  pub stop : is_stop call.asked call.told.reply ≡ true
  pub untold : is_told call ≡ false
  pub asks : call.asked ≡ struck (request setup now)
  pub looked : Looked (before ++ here) now call (look_of now)
  pub goes_on : last ≡ answered setup now call.told.reply
  pub broken : is_broken last ≡ true
  pub none : events_in later ≡ []

pub record Walked (setup : Setup) (before : List Call) (first : TaskState) (log : List Call) (last : TaskState) : Type 0 where
  -- where the events lead it
  pub now : TaskState
  pub leads : EntriesLead setup first (without_tickets (ticketed_events log)) now
  pub end : (last ≡ now) ⊎ IsStopped setup before log now last

abbrev pub map_all : List Call → List Ticketed
map_all calls = map drawn_entry calls

module _ (setup : Setup) where
  by_events : (before : List Call) (first : TaskState) (m : Call) (mine : List Call) (call : Call) (events : List Call) → events_in (m ∷ mine) ≡ events
      → (let task = task_behind_entries setup first (without_tickets (map_all events)) in Looked ((before ++ m ∷ []) ++ mine) task call (look_of task))
      → let task = task_behind_entries setup first (without_tickets (map_all (events_in (m ∷ mine)))) in Looked (before ++ m ∷ mine) task call (look_of task)
  by_events before first m mine call events is looked =
      subst (λ l. Looked l (task_behind_entries setup first (without_tickets (map_all (events_in (m ∷ mine))))) call (look_of (task_behind_entries setup first (without_tickets (map_all (events_in (m ∷ mine)))))))
      (append_assoc before (m ∷ []) mine)
      (subst (λ es. Looked ((before ++ m ∷ []) ++ mine) (task_behind_entries setup first (without_tickets (map_all es))) call (look_of (task_behind_entries setup first (without_tickets (map_all es))))) (sym is) looked)

  -- behind it a task only looks
  pub only_looks : (before : List Call) (task : TaskState) (calls : List Call) (last : TaskState) → is_broken task ≡ true → AskSome calls → LogLeads setup before task calls last
      → (last ≡ task) × (events_in calls ≡ [])
  only_looks before task [] last broken some leads = (leads, refl)
  only_looks before task (call ∷ calls) last broken some (inl (glance, leads)) =
      let rest = only_looks (before ++ call ∷ []) task calls last broken (All-tail (λ (c : Call). object_of c.asked ≡ OfNone → ⊥) call calls some) leads in
      (rest.0, quiet_first call calls (kinds call glance).0 ∙ rest.1)
  only_looks before task (call ∷ calls) last broken some (inr (none, asks, looked, leads)) =
      absurd (All-head (λ (c : Call). object_of c.asked ≡ OfNone → ⊥) call calls some (ap object_of (asks ∙ ap struck (broken_rests setup task broken))))

  -- one call more before those of a walk
  abbrev Ends : List Call → List Call → TaskState → TaskState → Type 0
  Ends before log now last = (last ≡ now) ⊎ IsStopped setup before log now last

  behind_one : (before : List Call) (call : Call) (calls : List Call) (now last : TaskState) → Ends (before ++ call ∷ []) calls now last → Ends before (call ∷ calls) now last
  behind_one before call calls now last (inl is) = inl is
  behind_one before call calls now last (inr s) = inr (record {
    here = call ∷ s.here;
    call = s.call;
    later = s.later;
    log_is = ap (λ l. call ∷ l) s.log_is;
    stop = s.stop;
    untold = s.untold;
    asks = s.asks;
    looked = subst (λ l. Looked l now s.call (look_of now)) (append_assoc before (call ∷ []) s.here) s.looked;
    goes_on = s.goes_on;
    broken = s.broken;
    none = s.none;
  })

  pub walk : (before : List Call) (first : TaskState) (log : List Call) (last : TaskState) → AskSome log → LogLeads setup before first log last
      → Walked setup before first log last
  walk before first [] last some leads = record { now = first; leads = refl; end = inl leads }
  walk before first (call ∷ calls) last some (inl (glance, leads)) =
      let rest = walk (before ++ call ∷ []) first calls last (All-tail (λ (c : Call). object_of c.asked ≡ OfNone → ⊥) call calls some) leads in
      record {
        now = rest.now;
        leads = subst (λ l. EntriesLead setup first (without_tickets (map_all l)) rest.now) (sym (quiet_first call calls (kinds call glance).0)) rest.leads;
        end = behind_one before call calls rest.now last rest.end;
      }
  walk before first (call ∷ calls) last some (inr (none, asks, looked, leads)) =
      by_event (is_told call) refl (walk (before ++ call ∷ []) (answered setup first call.told.reply) calls last others leads)
    where
      others : AskSome calls
      others = All-tail (λ (c : Call). object_of c.asked ≡ OfNone → ⊥) call calls some

      by_event : (told : Bool) → is_told call ≡ told → Walked setup (before ++ call ∷ []) (answered setup first call.told.reply) calls last → Walked setup before first (call ∷ calls) last
      by_event true is rest = record {
        now = rest.now;
        leads = subst (λ l. EntriesLead setup first (without_tickets (map_all l)) rest.now) (sym (event_first call calls is)) (asks, rest.leads);
        end = behind_one before call calls rest.now last rest.end;
      }
      by_event false is rest =
          let stop = stop_kind (is_told call) (is_stop call.asked call.told.reply) none is in
          let broken = stop_breaks setup first call.asked call.told.reply asks (All-head (λ (c : Call). object_of c.asked ≡ OfNone → ⊥) call calls some) stop in
          let behind = only_looks (before ++ call ∷ []) (answered setup first call.told.reply) calls last broken others leads in
          record {
            now = first;
            leads = subst (λ l. EntriesLead setup first (without_tickets (map_all l)) first) (sym (quiet_first call calls is ∙ behind.1)) refl;
            end = inr (record {
              here = [];
              call = call;
              later = calls;
              log_is = refl;
              stop = stop;
              untold = is;
              asks = asks;
              looked = subst (λ l. Looked l first call (look_of first)) (sym (append-nil before)) looked;
              goes_on = behind.0;
              broken = ap is_broken behind.0 ∙ broken;
              none = behind.1;
            });
          }

  not_none : {X : Type 0} (mine rest : List Call) (call : Call) → is_told call ≡ true → events_in (mine ++ call ∷ rest) ≡ [] → X
  not_none [] rest call told none = absurd (true≢false (ap has_some (sym (event_first call rest told) ∙ none)))
  not_none {X} (m ∷ mine) rest call told none = by_event (is_told m) none (λ is. not_none mine rest call told is)
    where
      by_event : (b : Bool) → cond b (m ∷ events_in (mine ++ call ∷ rest)) (events_in (mine ++ call ∷ rest)) ≡ [] → (events_in (mine ++ call ∷ rest) ≡ [] → X) → X
      by_event true none more = absurd (true≢false (ap has_some none))
      by_event false none more = more none

  -- each event stands behind a look, where its task has one
  pub looks_there : (before : List Call) (first : TaskState) (mine rest : List Call) (call : Call) (last : TaskState) → is_told call ≡ true → AskSome (mine ++ call ∷ rest)
      → LogLeads setup before first (mine ++ call ∷ rest) last
      → let task = task_behind_entries setup first (without_tickets (ticketed_events mine)) in Looked (before ++ mine) task call (look_of task)
  looks_there before first [] rest call last told some (inl (glance, leads)) = absurd (true≢false (sym told ∙ (kinds call glance).0))
  looks_there before first [] rest call last told some (inr (none, asks, looked, leads)) =
      subst (λ l. Looked l first call (look_of first)) (sym (append-nil before)) looked
  looks_there before first (m ∷ mine) rest call last told some (inl (glance, leads)) =
      let others = All-tail (λ (c : Call). object_of c.asked ≡ OfNone → ⊥) m (mine ++ call ∷ rest) some in
      by_events before first m mine call (events_in mine) (quiet_first m mine (kinds m glance).0)
      (looks_there (before ++ m ∷ []) first mine rest call last told others leads)
  looks_there before first (m ∷ mine) rest call last told some (inr (none, asks, looked, leads)) =
      by_event (is_told m) refl (looks_there (before ++ m ∷ []) (answered setup first m.told.reply) mine rest call last told others leads)
    where
      others : AskSome (mine ++ call ∷ rest)
      others = All-tail (λ (c : Call). object_of c.asked ≡ OfNone → ⊥) m (mine ++ call ∷ rest) some

      Then : TaskState → List Call → Type 0
      Then from events = Looked (before ++ m ∷ mine) (task_behind_entries setup from (without_tickets (map_all events))) call (look_of (task_behind_entries setup from (without_tickets (map_all events))))

      by_event : (b : Bool) → is_told m ≡ b
          → Looked ((before ++ m ∷ []) ++ mine) (task_behind_entries setup (answered setup first m.told.reply) (without_tickets (ticketed_events mine))) call
          (look_of (task_behind_entries setup (answered setup first m.told.reply) (without_tickets (ticketed_events mine))))
          → Then first (events_in (m ∷ mine))
      by_event true is l = by_events before first m mine call (m ∷ events_in mine) (event_first m mine is) l
      by_event false is l =
          let stop = stop_kind (is_told m) (is_stop m.asked m.told.reply) none is in
          let broken = stop_breaks setup first m.asked m.told.reply asks (All-head (λ (c : Call). object_of c.asked ≡ OfNone → ⊥) m (mine ++ call ∷ rest) some) stop in
          not_none mine rest call told (only_looks (before ++ m ∷ []) (answered setup first m.told.reply) (mine ++ call ∷ rest) last broken others leads).1
