-- Where the calls of a task lead it.
use Rattle.std.proofs.Common.{◌≡◌, ℕ, ◌+◌, ◌⊎◌, inl, inr, ◌||◌, ◌==◌, Bool, true, false, not, cond, List, [], ◌∷◌, ◌++◌, Option, Some, None, refl, sym, ◌∙◌, ap, subst}
use Rattle.std.specs.Prelude.{All}
use Rattle.std.specs.Option.{is_some}
use Rattle.std.proofs.lemmas.List.{append-nil, append_assoc}
use Rattle.std.proofs.lemmas.List.Elements.{All-nil, All-cons, All-head, All-tail, Contains-append_left}
use Rattle.stack_base.specs.declared.ids.PoolId.{PoolId}
use Rattle.bio_books.specs.Drops as end
use Rattle.bio_books.specs.Links.{Made, NoRoom, Stray}
use Rattle.run_machine.specs.Events.{what_of, resize_of}
use Rattle.run_machine.specs.Laws.{OfNone, object_of}
use Rattle.run_machine.specs.Requests.{Request, Reply, TakeBio, Link, Drop, Resize, Rest, LinkedTo, DroppedTo, OutIs, NoTicket}
use Rattle.run_machine.specs.Scene.{Setup}
use Rattle.run_machine.specs.Tasks.{TaskState, request, look_of, answered, is_broken}
use Rattle.object_things.specs.Histories.{Call}
use Rattle.shared_objects.specs.Calls.{is_same_object, calls_to, struck}
use Rattle.shared_objects.specs.Logs.{is_event, is_stop, is_glance, events_in, Looked, LogLeads}
use Rattle.shared_objects.specs.Led.{CallsLead, task_behind_calls, LogsLead}
use Rattle.shared_objects.proofs.steps.BrokenRests.{broken_rests, stop_breaks}
use Rattle.shared_objects.proofs.steps.GlanceStays.{glance_kinds, stop_struck}

-- a call without a ticket is no event
spent_none : (asked : Request) → what_of asked NoTicket ≡ None
spent_none (TakeBio set waits) = refl
spent_none asked = refl

resize_goes : (home : Bool) (pool : PoolId) (min : ℕ) → is_some (resize_of home pool min) ≡ true → (not home || false) ≡ false
resize_goes true pool min is = refl
resize_goes false pool min is = absurd (cc is)

-- no event stops a task
event_goes : (asked : Request) (reply : Reply) → is_event asked reply ≡ true → is_stop asked reply ≡ false
-- links: one that was refused is no event
event_goes (Link writer opening) (LinkedTo (Made node)) is = refl
event_goes (Link writer opening) (LinkedTo (NoRoom back)) is = absurd (cc is)
event_goes (Link writer opening) (LinkedTo (Stray back)) is = absurd (cc is)
-- drops: one at no node is no event
event_goes (Drop writer node status part) (DroppedTo (end.Stray back)) is = absurd (cc is)
-- resizes: one that was refused is no event
event_goes (Resize pool min) (OutIs out) is = resize_goes (out == 0) pool min is
-- no ticket: no event
event_goes asked NoTicket is = absurd (cc (sym (ap is_some (spent_none asked)) ∙ is))
-- nothing else stops a task
event_goes asked reply is = refl

pub stop_kind : (event stop : Bool) → not (event || stop) ≡ false → event ≡ false → stop ≡ true
stop_kind true stop is e = absurd (cc e)
stop_kind false true is e = refl
stop_kind false false is e = absurd (cc is)

abbrev pub AsksSome : Call → Type 0
AsksSome call = is_same_object OfNone (object_of call.asked) ≡ false

asks_by : (call : Call) (log : List Call) (b : Bool) → is_same_object OfNone (object_of call.asked) ≡ b → [] ≡ calls_to OfNone (call ∷ log)
    → AsksSome call × ([] ≡ calls_to OfNone log)
asks_by call log true is none = absurd (cc (none ∙ ap (λ (e : Bool). cond e (call ∷ calls_to OfNone log) (calls_to OfNone log)) is))
asks_by call log false is none = (is, none ∙ ap (λ (e : Bool). cond e (call ∷ calls_to OfNone log) (calls_to OfNone log)) is)

pub asks_some : (log : List Call) → [] ≡ calls_to OfNone log → All AsksSome log
asks_some [] none = All-nil AsksSome
asks_some (call ∷ log) none =
    let first = asks_by call log (is_same_object OfNone (object_of call.asked)) refl none in
    All-cons AsksSome call log first.0 (asks_some log first.1)

pub event_first : (call : Call) (calls : List Call) → is_event call.asked call.told.reply ≡ true → events_in (call ∷ calls) ≡ call ∷ events_in calls
event_first call calls is = ap (λ (e : Bool). cond e (call ∷ events_in calls) (events_in calls)) is

pub quiet_first : (call : Call) (calls : List Call) → is_event call.asked call.told.reply ≡ false → events_in (call ∷ calls) ≡ events_in calls
quiet_first call calls is = ap (λ (e : Bool). cond e (call ∷ events_in calls) (events_in calls)) is

first_or : Call → List Call → Call
first_or call [] = call
first_or call (first ∷ rest) = first

behind_first : List Call → List Call
behind_first [] = []
behind_first (first ∷ rest) = rest

-- a look of calls is one of more calls
looked_later : (before more : List Call) (task : TaskState) (call : Call) (look : Option Request) → Looked before task call look → Looked (before ++ more) task call look
looked_later before more task call None l = tt
looked_later before more task call (Some look) l = (l.0, Contains-append_left before more l.0 l.1, l.2, l.3, l.4)

abbrev pub IsGlance : Call → Type 0
IsGlance c = is_glance c.asked c.told.reply ≡ true

abbrev IsGone : Call → Type 0
IsGone c = is_stop c.asked c.told.reply ≡ false

abbrev pub Glances : List Call → Type 0
Glances calls = All IsGlance calls

abbrev AreGone : List Call → Type 0
AreGone calls = All IsGone calls

pub kinds : (call : Call) → is_glance call.asked call.told.reply ≡ true → (is_event call.asked call.told.reply ≡ false) × (is_stop call.asked call.told.reply ≡ false)
kinds call is = glance_kinds (is_event call.asked call.told.reply) (is_stop call.asked call.told.reply) is

pub glances_quiet : (calls : List Call) → Glances calls → events_in calls ≡ []
glances_quiet [] all = refl
glances_quiet (call ∷ calls) all = quiet_first call calls (kinds call (All-head IsGlance call calls all)).0 ∙ glances_quiet calls (All-tail IsGlance call calls all)

none_behind : (mine rest : List Call) (call : Call) → [] ≡ mine ++ call ∷ rest → ⊥
none_behind [] rest call is = absurd (cc is)
none_behind (first ∷ mine) rest call is = absurd (cc is)

-- a call that the task asked for is of some object
pub apart_of : (setup : Setup) (task : TaskState) (call : Call) → AsksSome call → call.asked ≡ struck (request setup task) → request setup task ≡ Rest → ⊥
apart_of setup task call some asks rests = absurd (cc (sym (ap (λ a. is_same_object OfNone (object_of a)) (asks ∙ ap struck rests)) ∙ some))

pub rest_glances : (setup : Setup) (before calls : List Call) (task last : TaskState) → request setup task ≡ Rest → All AsksSome calls → LogLeads setup before task calls last
    → Glances calls × (last ≡ task)
rest_glances setup before [] task last rests some l = (All-nil IsGlance, l)
rest_glances setup before (call ∷ calls) task last rests some l = elim l [
  | inl glance ↦ (let more = rest_glances setup (before ++ call ∷ []) calls task last rests (All-tail AsksSome call calls some) glance.1 in (All-cons IsGlance call calls glance.0 more.0, more.1))
  | inr asks ↦ absurd (apart_of setup task call (All-head AsksSome call calls some) asks.1 rests)
]

-- the same as in `BrokeOff` and `IsLed`, behind other calls
record BrokeBehind (setup : Setup) (done log : List Call) (through now : TaskState) : Type 0 where
  before : List Call
  call : Call
  later : List Call
  log_is : log ≡ before ++ call ∷ later
  stops : is_stop call.asked call.told.reply ≡ true
  goes : AreGone before
  glances : Glances later
  asks : call.asked ≡ struck (request setup through)
  looked : Looked (done ++ before) through call (look_of through)
  goes_on : now ≡ answered setup through call.told.reply
  broken : is_broken now ≡ true

abbrev HaveLooked : Setup → List Call → TaskState → List Call → Type 0
HaveLooked setup whole task events = (mine rest : List Call) (call : Call) → events ≡ mine ++ call ∷ rest
    → Looked whole (task_behind_calls setup task mine) call (look_of (task_behind_calls setup task mine))

record LedBehind (setup : Setup) (done : List Call) (task : TaskState) (log : List Call) (now : TaskState) : Type 0 where
  through : TaskState
  leads : CallsLead setup task (events_in log) through
  looks : HaveLooked setup (done ++ log) task (events_in log)
  stops : ((now ≡ through) × AreGone log) ⊎ BrokeBehind setup done log through now

one_more : (setup : Setup) (done calls : List Call) (call : Call) (through now : TaskState) → is_stop call.asked call.told.reply ≡ false
    → ((now ≡ through) × AreGone calls) ⊎ BrokeBehind setup (done ++ call ∷ []) calls through now
    → ((now ≡ through) × AreGone (call ∷ calls)) ⊎ BrokeBehind setup done (call ∷ calls) through now
one_more setup done calls call through now goes s = elim s [
  | inl here ↦ inl (here.0, All-cons IsGone call calls goes here.1)
  | inr b ↦ inr (record {
    before = call ∷ b.before;
    call = b.call;
    later = b.later;
    log_is = ap (λ l. call ∷ l) b.log_is;
    stops = b.stops;
    goes = All-cons IsGone call b.before goes b.goes;
    glances = b.glances;
    asks = b.asks;
    looked = subst (λ l. Looked l through b.call (look_of through)) (append_assoc done (call ∷ []) b.before) b.looked;
    goes_on = b.goes_on;
    broken = b.broken;
  })
]

looks_first : (setup : Setup) (done calls : List Call) (call : Call) (task : TaskState) → Looked done task call (look_of task)
    → HaveLooked setup (done ++ call ∷ calls) (answered setup task call.told.reply) (events_in calls)
    → HaveLooked setup (done ++ call ∷ calls) task (call ∷ events_in calls)
unfolding first_or behind_first
looks_first setup done calls call task l more [] rest other is =
    subst (λ c. Looked (done ++ call ∷ calls) task c (look_of task)) (ap (first_or call) is) (looked_later done (call ∷ calls) task call (look_of task) l)
looks_first setup done calls call task l more (first ∷ mine) rest other is =
    let Then : Call → Type 0 = λ c. let t = task_behind_calls setup (answered setup task c.told.reply) mine in Looked (done ++ call ∷ calls) t other (look_of t) in
    subst Then (ap (first_or call) is) (more mine rest other (ap behind_first is))

moved : (setup : Setup) (done calls : List Call) (call : Call) (task : TaskState) (events : List Call) → HaveLooked setup ((done ++ call ∷ []) ++ calls) task events
    → HaveLooked setup (done ++ call ∷ calls) task events
moved setup done calls call task events l = subst (λ w. HaveLooked setup w task events) (append_assoc done (call ∷ []) calls) l

led_call : (setup : Setup) (done : List Call) (call : Call) (calls : List Call) (task now : TaskState) → All AsksSome (call ∷ calls)
    → ((next : TaskState) → LogLeads setup (done ++ call ∷ []) next calls now → LedBehind setup (done ++ call ∷ []) next calls now)
    → (b : Bool) → is_event call.asked call.told.reply ≡ b → is_glance call.asked call.told.reply ≡ false → call.asked ≡ struck (request setup task)
    → Looked done task call (look_of task) → LogLeads setup (done ++ call ∷ []) (answered setup task call.told.reply) calls now
    → LedBehind setup done task (call ∷ calls) now
-- an event: it leads the task on
led_call setup done call calls task now some again true is glance asks l more =
    let r = again (answered setup task call.told.reply) more in
    let event = event_first call calls is in
    record {
      through = r.through;
      leads = subst (λ es. CallsLead setup task es r.through) (sym event) (asks, r.leads);
      looks = subst (HaveLooked setup (done ++ call ∷ calls) task) (sym event)
          (looks_first setup done calls call task l (moved setup done calls call (answered setup task call.told.reply) (events_in calls) r.looks));
      stops = one_more setup done calls call r.through now (event_goes call.asked call.told.reply is) r.stops;
    }
-- a stop: the task breaks off, and what follows are glances
led_call setup done call calls task now some again false is glance asks l more =
    let stop = stop_kind (is_event call.asked call.told.reply) (is_stop call.asked call.told.reply) glance is in
    let stop_task : is_stop (request setup task) call.told.reply ≡ true =
    sym (stop_struck (request setup task) call.told.reply) ∙ (sym (ap (λ a. is_stop a call.told.reply) asks) ∙ stop) in
    let broke = stop_breaks setup task call.told.reply (apart_of setup task call (All-head AsksSome call calls some) asks) stop_task in
    let rests = broken_rests setup (answered setup task call.told.reply) broke in
    let behind = rest_glances setup (done ++ call ∷ []) calls (answered setup task call.told.reply) now rests (All-tail AsksSome call calls some) more in
    let none : events_in (call ∷ calls) ≡ [] = quiet_first call calls is ∙ glances_quiet calls behind.0 in
    record {
      through = task;
      leads = subst (λ es. CallsLead setup task es task) (sym none) refl;
      looks = subst (HaveLooked setup (done ++ call ∷ calls) task) (sym none) (λ mine rest other e. absurd (none_behind mine rest other e));
      stops = inr (record {
        before = [];
        call = call;
        later = calls;
        log_is = refl;
        stops = stop;
        goes = All-nil IsGone;
        glances = behind.0;
        asks = asks;
        looked = subst (λ w. Looked w task call (look_of task)) (sym (append-nil done)) l;
        goes_on = behind.1;
        broken = subst (λ t. is_broken t ≡ true) (sym behind.1) broke;
      });
    }

led : (setup : Setup) (done log : List Call) (task now : TaskState) → All AsksSome log → LogLeads setup done task log now → LedBehind setup done task log now
led setup done [] task now some l = record {
  through = task;
  leads = refl;
  looks = λ mine rest call is. absurd (none_behind mine rest call is);
  stops = inl (l, All-nil IsGone);
}
led setup done (call ∷ calls) task now some l = elim l [
  | inl glance ↦ (let r = led setup (done ++ call ∷ []) calls task now (All-tail AsksSome call calls some) glance.1 in
      let quiet = quiet_first call calls (kinds call glance.0).0 in
      record {
        through = r.through;
        leads = subst (λ es. CallsLead setup task es r.through) (sym quiet) r.leads;
        looks = subst (HaveLooked setup (done ++ call ∷ calls) task) (sym quiet) (moved setup done calls call task (events_in calls) r.looks);
        stops = one_more setup done calls call r.through now (kinds call glance.0).1 r.stops;
      })
  | inr asks ↦ led_call setup done call calls task now some (λ next more. led setup (done ++ call ∷ []) calls next now (All-tail AsksSome call calls some) more)
      (is_event call.asked call.told.reply) refl asks.0 asks.1 asks.2 asks.3
]

pub logs_lead : LogsLead
logs_lead setup first now log desk is =
    let r = led setup [] log first now (asks_some log (is.calls OfNone)) is.leads in
    record {
      through = r.through;
      leads = r.leads;
      looks = r.looks;
      stops = elim r.stops [
        | inl here ↦ inl here
        | inr b ↦ inr (record {
          before = b.before;
          call = b.call;
          later = b.later;
          log_is = b.log_is;
          stops = b.stops;
          goes = b.goes;
          glances = b.glances;
          asks = b.asks;
          looked = b.looked;
          goes_on = b.goes_on;
          broken = b.broken;
        })
      ];
    }
