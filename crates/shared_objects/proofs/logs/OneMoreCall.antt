-- One more call of a task.
use Rattle.std.proofs.Common.{◌≡◌, ℕ, ◌==◌, ◌<◌, ◌≤◌, ◌⊎◌, inl, inr, Bool, true, false, cond, List, [], ◌∷◌, ◌++◌, Option, Some, None, arith, refl, sym, ◌∙◌, ap, subst}
use Rattle.std.specs.Prelude.{All, Contains, IfSome, IsTrue, max, ◌-◌, ◌^◌, map}
use Rattle.std.specs.List.{cons_option}
use Rattle.std.proofs.lemmas.Bool.{cases_lt, eqb-true}
use Rattle.std.proofs.lemmas.List.{append-nil, append_assoc, map-append}
use Rattle.std.proofs.lemmas.List.Elements.{All-push, All-weaker, filter-append, filter_map-append, Contains-push, Contains-append_left}
use Rattle.tick_clock.specs.Tickets.{PassState, drawn_with}
use Rattle.tick_clock.specs.declared.ticking.Ticket.{Ticket}
use Rattle.run_machine.specs.Maps.{upd}
use Rattle.run_machine.specs.Requests.{Request, Reply}
use Rattle.run_machine.specs.Laws.{Object, OfPool, OfRescuer, OfDisk, OfBook, OfTally, OfNone, object_of}
use Rattle.run_machine.specs.Scene.{Setup}
use Rattle.run_machine.specs.Tasks.{TaskState, request, look_of, lets, answered}
use Rattle.object_things.specs.Stamps.{is_spent, PassBy, IsOver}
use Rattle.object_things.specs.Histories.{Call, TicketsRise, IsNextTicket, or_last, FoundNone}
use Rattle.shared_objects.specs.Calls.{CallsAt, with_call, is_same_object, calls_at, calls_to, struck}
use Rattle.shared_objects.specs.Desks.{DeskState, HasCalled, PassGoesOn}
use Rattle.shared_objects.specs.Logs.{is_glance, tickets_in, Looked, LogLeads, IsMet, IsSeenIn, KnowsLast, WentThrough, HasPass, IsMade, IsLogged}

abbrev here : Bool → Call → List Call
here b call = cond b (call ∷ []) []

more_by : (f : ℕ → List Call) (n m : ℕ) (call : Call) (b : Bool) → (m == n) ≡ b → cond b (f n ++ call ∷ []) (f m) ≡ f m ++ here b call
more_by f n m call true e = ap (λ k. f k ++ call ∷ []) (sym (eqb-true m n e))
more_by f n m call false e = sym (append-nil (f m))

upd_more : (f : ℕ → List Call) (n m : ℕ) (call : Call) → upd f n (f n ++ call ∷ []) m ≡ f m ++ here (m == n) call
unfolding upd
upd_more f n m call = more_by f n m call (m == n) refl

-- where a call is made, its object has it last, and no other object has it
at_call : (calls : CallsAt) (target name : Object) (call : Call) → (target ≡ OfNone → ⊥)
    → calls_at (with_call calls target call) name ≡ calls_at calls name ++ here (is_same_object name target) call
at_call calls OfNone name call apart = absurd (apart refl)
at_call calls (OfPool n) (OfPool m) call apart = upd_more calls.pool n m call
at_call calls (OfRescuer n) (OfRescuer m) call apart = upd_more calls.rescue n m call
at_call calls (OfDisk n) (OfDisk m) call apart = upd_more calls.disk n m call
at_call calls (OfBook n) (OfBook m) call apart = upd_more calls.book n m call
at_call calls OfTally OfTally call apart = refl
at_call calls target name call apart = sym (append-nil (calls_at calls name))

calls_more : (calls : CallsAt) (log : List Call) (call : Call) → (object_of call.asked ≡ OfNone → ⊥) → ((name : Object) → calls_at calls name ≡ calls_to name log)
    → (name : Object) → calls_at (with_call calls (object_of call.asked) call) name ≡ calls_to name (log ++ call ∷ [])
calls_more calls log call apart same name =
    at_call calls (object_of call.asked) name call apart ∙ ap (λ l. l ++ here (is_same_object name (object_of call.asked)) call) (same name)
    ∙ sym (filter-append (λ (c : Call). is_same_object name (object_of c.asked)) log (call ∷ []))

-- calls that lead on behind others
pub leads_more : (setup : Setup) (before xs ys : List Call) (task mid last : TaskState) → LogLeads setup before task xs mid → LogLeads setup (before ++ xs) mid ys last
    → LogLeads setup before task (xs ++ ys) last
leads_more setup before [] ys task mid last l m = subst (λ t. LogLeads setup before t ys last) l (subst (λ b. LogLeads setup b mid ys last) (append-nil before) m)
leads_more setup before (x ∷ xs) ys task mid last l m =
    let rest : LogLeads setup ((before ++ x ∷ []) ++ xs) mid ys last = subst (λ b. LogLeads setup b mid ys last) (sym (append_assoc before (x ∷ []) xs)) m in
    elim l [
      | inl glance ↦ inl (glance.0, leads_more setup (before ++ x ∷ []) xs ys task mid last glance.1 rest)
      | inr asks ↦ inr (asks.0, asks.1, asks.2, leads_more setup (before ++ x ∷ []) xs ys (answered setup task x.told.reply) mid last asks.3 rest)
    ]

rises_more : (last end : ℕ) (xs : List Call) (call : Call) → TicketsRise last xs end → IsNextTicket end call.told.drawn
    → TicketsRise last (xs ++ call ∷ []) (or_last end call.told.drawn)
rises_more last end [] call r next =
    (subst (λ n. IsNextTicket n call.told.drawn) (sym r) next, ap (λ n. or_last n call.told.drawn) r)
rises_more last end (x ∷ xs) call r next = (r.0, rises_more (or_last last x.told.drawn) end xs call r.1 next)

met_later : (m n : ℕ) (log : List Call) → m ≤ n → All (IsMet m) log → All (IsMet n) log
met_later m n log le a = All-weaker (IsMet m) (IsMet n) (λ call met ok. (let k = met ok in omega (arith, le, k))) log a

climbs : (last m n : ℕ) → last ≤ m → m ≤ n → last ≤ n
climbs last m n low le = omega (arith, low, le)

reaches : (last n : ℕ) → n ≡ last → last ≤ n
reaches last n is = omega (arith, is)

greater_is : (m n : ℕ) → (max m n ≡ m) ⊎ (max m n ≡ n)
greater_is m n = elim (cases_lt m n) [ inl less ↦ inr (omega (arith, less)) | inr most ↦ inl (omega (arith, most)) ]

-- what was seen behind some calls is seen behind more
pub seen_later : (log more : List Call) (n : ℕ) → IsSeenIn log n → IsSeenIn (log ++ more) n
seen_later log more n is = elim is [
  | inl zero ↦ inl zero
  | inr seen ↦ inr (seen.0, Contains-append_left log more seen.0 seen.1, seen.2)
]

greater_seen : (log : List Call) (call : Call) (n : ℕ) → IsSeenIn log n → IsSeenIn (log ++ call ∷ []) (max n call.told.note)
greater_seen log call n is = elim (greater_is n call.told.note) [
  | inl first ↦ subst (IsSeenIn (log ++ call ∷ [])) (sym first) (seen_later log (call ∷ []) n is)
  | inr note ↦ inr (call, Contains-push log call, inr (sym note))
]

knows_later : (pass after : PassState) (log : List Call) (call : Call) → pass.known ≤ after.known → KnowsLast pass log → KnowsLast after (log ++ call ∷ [])
knows_later pass after log call le is = elim is [
  | inl known ↦ inl (climbs (2 ^ 64 - 1) pass.known after.known known le)
  | inr seen ↦ inr (seen_later log (call ∷ []) (2 ^ 64 - 1) seen)
]

knows_now : (pass after : PassState) (log : List Call) (call : Call) → IsSeenIn log pass.seen → IsOver pass call.told.note after → KnowsLast after (log ++ call ∷ [])
knows_now pass after log call own is = elim is [
  | inl known ↦ inl (reaches (2 ^ 64 - 1) after.known known)
  | inr seen ↦ inr (subst (IsSeenIn (log ++ call ∷ [])) seen (greater_seen log call pass.seen own))
]

last_later : (pass after : PassState) (log : List Call) (call : Call) → pass.known ≤ after.known → All (λ (c : Call). FoundNone c → KnowsLast pass log) log
    → (FoundNone call → KnowsLast after (log ++ call ∷ [])) → All (λ (c : Call). FoundNone c → KnowsLast after (log ++ call ∷ [])) (log ++ call ∷ [])
last_later pass after log call le all here =
    All-push (λ (c : Call). FoundNone c → KnowsLast after (log ++ call ∷ [])) log call
    (All-weaker (λ (c : Call). FoundNone c → KnowsLast pass log) (λ (c : Call). FoundNone c → KnowsLast after (log ++ call ∷ []))
    (λ c was found. knows_later pass after log call le (was found)) log all) here

saw_later : (log more : List Call) (ts : List Ticket) → All (λ (t : Ticket). IsSeenIn log t.seen) ts → All (λ (t : Ticket). IsSeenIn (log ++ more) t.seen) ts
saw_later log more ts all = All-weaker (λ (t : Ticket). IsSeenIn log t.seen) (λ (t : Ticket). IsSeenIn (log ++ more) t.seen) (λ t is. seen_later log more t.seen is) ts all

pub tickets_more : (log : List Call) (call : Call) (ticket : Option ℕ) → call.told.drawn ≡ ticket → tickets_in (log ++ call ∷ []) ≡ tickets_in log ++ cons_option ticket []
tickets_more log call ticket is =
    filter_map-append (λ (c : Call). c.told.drawn) log (call ∷ []) ∙ ap (λ t. tickets_in log ++ cons_option t []) is

tickets_same : (log : List Call) (call : Call) → call.told.drawn ≡ None → tickets_in (log ++ call ∷ []) ≡ tickets_in log
tickets_same log call is = tickets_more log call None is ∙ append-nil (tickets_in log)

-- what a pass keeps behind one more call
draws : (pass : PassState) (end n : ℕ) (log : List Call) (call : Call) → call.told.drawn ≡ Some n → max pass.seen call.told.note < n → pass.known < n
    → WentThrough pass end log → WentThrough (drawn_with pass (max pass.seen call.told.note) n) n (log ++ call ∷ [])
draws pass end n log call t above fresh was =
    let seen : pass.seen ≤ n = omega (arith, above) in
    record {
      above = omega (arith);
      met = All-push (IsMet n) log call (met_later pass.seen n log seen was.met) (λ ok. omega (arith, above));
      own = inr (call, Contains-push log call, inl t);
      drew = map-append (λ (u : Ticket). u.number) pass.drawn (record { number = n; seen = max pass.seen call.told.note } ∷ []) ∙ ap (λ l. l ++ n ∷ []) was.drew
          ∙ sym (tickets_more log call (Some n) t);
      saw = All-push (λ (u : Ticket). IsSeenIn (log ++ call ∷ []) u.seen) pass.drawn (record { number = n; seen = max pass.seen call.told.note })
          (saw_later log (call ∷ []) pass.drawn was.saw) (greater_seen log call pass.seen was.own);
      last = last_later pass (drawn_with pass (max pass.seen call.told.note) n) log call (omega (arith, fresh)) was.last (λ found. absurd (cc (t, found.2)));
    }

finds_none : (pass : PassState) (end known : ℕ) (log : List Call) (call : Call) → call.told.drawn ≡ None → is_spent call.told.reply ≡ true → pass.known ≤ known
    → (call.told.drew ≡ true → IsOver pass call.told.note (record pass { known = known })) → WentThrough pass end log
    → WentThrough (record pass { known = known }) end (log ++ call ∷ [])
finds_none pass end known log call t s le over was = record {
  above = was.above;
  met = All-push (IsMet pass.seen) log call was.met (λ ok. absurd (cc (s, ok)));
  own = seen_later log (call ∷ []) pass.seen was.own;
  drew = was.drew ∙ sym (tickets_same log call t);
  saw = saw_later log (call ∷ []) pass.drawn was.saw;
  last = last_later pass (record pass { known = known }) log call le was.last (λ found. knows_now pass (record pass { known = known }) log call was.own (over found.1));
}

meets : (pass : PassState) (end : ℕ) (log : List Call) (call : Call) → call.told.drawn ≡ None → is_spent call.told.reply ≡ false → WentThrough pass end log
    → WentThrough (record pass { seen = max pass.seen call.told.note }) end (log ++ call ∷ [])
meets pass end log call t s was = let low = was.above in record {
  above = omega (arith, low);
  met = All-push (IsMet (max pass.seen call.told.note)) log call (met_later pass.seen (max pass.seen call.told.note) log (omega (arith)) was.met) (λ ok. omega (arith));
  own = greater_seen log call pass.seen was.own;
  drew = was.drew ∙ sym (tickets_same log call t);
  saw = saw_later log (call ∷ []) pass.drawn was.saw;
  last = last_later pass (record pass { seen = max pass.seen call.told.note }) log call (omega (arith)) was.last (λ found. absurd (cc (s, found.0)));
}

pass_by : (pass after : PassState) (end : ℕ) (log : List Call) (call : Call) (spent : Bool) (ticket : Option ℕ) → is_spent call.told.reply ≡ spent → call.told.drawn ≡ ticket
    → PassBy pass call.told.note spent call.told.drew ticket after → WentThrough pass end log
    → IsNextTicket end ticket × WentThrough after (or_last end ticket) (log ++ call ∷ [])
pass_by pass after end log call spent (Some n) s t by was =
    let above = by.0 in let low = was.above in
    (omega (arith, above, low), subst (λ p. WentThrough p n (log ++ call ∷ [])) (sym by.2) (draws pass end n log call t by.0 by.1 was))
pass_by pass after end log call true None s t by was = (
  tt,
  subst (λ p. WentThrough p end (log ++ call ∷ [])) (sym by.0)
      (finds_none pass end after.known log call t s by.1 (λ d. subst (IsOver pass call.told.note) by.0 (by.2 d)) was),
)
pass_by pass after end log call false None s t by was =
    (tt, subst (λ p. WentThrough p end (log ++ call ∷ [])) (sym by) (meets pass end log call t s was))

pass_on : (pass after : Option PassState) (end : ℕ) (log : List Call) (call : Call) → PassGoesOn pass call.told.note (is_spent call.told.reply) call.told.drew call.told.drawn after
    → HasPass pass end log → IsNextTicket end call.told.drawn × HasPass after (or_last end call.told.drawn) (log ++ call ∷ [])
pass_on None after end log call by was = absurd was
pass_on (Some pass) None end log call by was = absurd by
pass_on (Some pass) (Some after) end log call by was = pass_by pass after end log call (is_spent call.told.reply) call.told.drawn refl refl by was

pub one_call : (setup : Setup) (first task next : TaskState) (log : List Call) (old new : DeskState) (asked : Request) (reply : Reply)
    → IsLogged setup first log task old → HasCalled old asked reply new → (object_of asked ≡ OfNone → ⊥)
    → ((call : Call) → IsMade asked reply old.pass new.pass call → LogLeads setup log task (call ∷ []) next)
    → (call : Call) × IsMade asked reply old.pass new.pass call × IsLogged setup first (log ++ call ∷ []) next new
one_call setup first task next log old new asked reply is calls apart step =
    let call : Call = record { by = old.number; asked = asked; told = calls.told } in
    let made : IsMade asked reply old.pass new.pass call = record { asks = refl; replies = calls.replies; pass = calls.pass } in
    let passed = pass_on old.pass new.pass is.end log call calls.pass is.pass in (
      call,
      made,
      record {
        calls = λ name. ap (λ (c : CallsAt). calls_at c name) calls.calls ∙ calls_more old.calls log call apart is.calls name;
        leads = leads_more setup [] log (call ∷ []) first task next is.leads (step call made);
        end = or_last is.end calls.told.drawn;
        rises = rises_more 0 is.end log call is.rises passed.0;
        pass = passed.1;
      },
    )
