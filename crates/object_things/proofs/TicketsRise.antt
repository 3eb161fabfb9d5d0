-- Tickets rise along a history, and the calls that drew one are a run, as are those whose entries carry one.
use Rattle.std.proofs.Common.{◌≡◌, ◌≤◌, ℕ, inl, inr, Bool, true, false, not, cond, List, [], ◌∷◌, All, Option, Some, None, refl, sym, ◌∙◌, ap, subst, arith}
use Rattle.std.specs.Option.{is_some}
use Rattle.std.specs.Prelude.{Contains}
use Rattle.std.proofs.lemmas.Bool.{true≢false, true_from_ne_false}
use Rattle.std.proofs.lemmas.List.Elements.{All-nil, All-cons, All-head, All-tail, Contains-append_right}
use Rattle.seat_lock.specs.History.{Leads}
use Rattle.run_machine.specs.declared.event.What.{What}
use Rattle.run_machine.specs.Events.{what_of}
use Rattle.run_machine.specs.Requests.{Request, Reply, NoTicket}
use Rattle.task_steps.specs.Service.{Service}
use Rattle.object_things.specs.Stamps.{ThingState, StepOf, ThingAnswers, carried, is_spent}
use Rattle.object_things.specs.Histories.{Call, FoundNone, IsNextTicket, or_last, TicketsRise, CarriedRise, drawn_in, ticketed_in, CarriesItsOwn, IsQuiet, LeadDrawn, DrawnRun, KeepsHistory, StaysSpent}

-- an entry carries no ticket of a call that drew none
carried_none : (what : Option What) → carried what None ≡ None
carried_none None = refl
carried_none (Some what) = refl

uncarried : (what : Option What) (drawn ticket : Option ℕ) → ticket ≡ carried what drawn → is_some drawn ≡ false → is_some ticket ≡ false
uncarried None drawn ticket t none = ap is_some t
uncarried (Some what) drawn ticket t none = ap is_some t ∙ none

-- what entries carry rises where what was drawn does
carried_rise : (last low end : ℕ) (cs : List Call) → low ≤ last → TicketsRise last cs end → All CarriesItsOwn cs → CarriedRise low cs end
carried_rise last low end [] under rises all = subst (λ n. low ≤ n) rises under
carried_rise last low end (c ∷ cs) under rises all =
    by_two (what_of c.asked c.told.reply) c.told.drawn (All-head CarriesItsOwn c cs all) rises.0 rises.1
    (λ next lower below up. carried_rise next lower end cs below up (All-tail CarriesItsOwn c cs all))
  where
    Rises : Option ℕ → Type 0
    Rises ticket = IsNextTicket low ticket × CarriedRise (or_last low ticket) cs end

    by_two : (what : Option What) (drawn : Option ℕ) → c.told.ticket ≡ carried what drawn → IsNextTicket last drawn → TicketsRise (or_last last drawn) cs end
        → ((next lower : ℕ) → lower ≤ next → TicketsRise next cs end → CarriedRise lower cs end) → Rises c.told.ticket
    by_two (Some what) (Some n) t above up more = subst Rises (sym t) (omega (arith, under, above), more n n (omega arith) up)
    by_two None (Some n) t above up more = subst Rises (sym t) (tt, more n low (omega (arith, under, above)) up)
    by_two what None t above up more = subst Rises (sym (t ∙ carried_none what)) (tt, more last low under up)

-- what is known of a thing's looks and steps alone: a thing is marked by a call that found no ticket
module _ {O : Type 0} (serves : Service O) (looks : Service (ThingState O)) (chooses : O → Reply → Option ℕ → Type 0)
    (keeps : (old new : ThingState O) (asked : Request) (reply : Reply) → looks old asked reply new → is_spent reply ≡ false → new.spent ≡ old.spent) where
  -- the look that marked the thing was told so
  marked : (old new : ThingState O) (asked : Request) (reply : Reply) → looks old asked reply new → old.spent ≡ false → new.spent ≡ true → is_spent reply ≡ true
  marked old new asked reply looked had none =
      true_from_ne_false (is_spent reply) (λ is. true≢false (sym none ∙ keeps old new asked reply looked is ∙ had))

  pub marks : (old new : ThingState O) (history : List Call) → Leads (ThingAnswers serves looks chooses) old history new → old.spent ≡ false → new.spent ≡ true
      → (call : Call) × Contains history call × FoundNone call
  marks old new [] leads had none = absurd (true≢false (sym none ∙ ap (λ (thing : ThingState O). thing.spent) (sym leads) ∙ had))
  marks old new (call ∷ calls) leads had none =
      by_ticket call.told.drawn refl leads.1.step leads.0.spent refl (λ still. marks leads.0 new calls leads.2 still none)
    where
      Found : List Call → Type 0
      Found list = (x : Call) × Contains list x × FoundNone x

      further : Found calls → Found (call ∷ calls)
      further (x, there, found) = (x, Contains-append_right (call ∷ []) calls x there, found)

      by_ticket : (ticket : Option ℕ) → call.told.drawn ≡ ticket → StepOf serves looks old call.asked call.told.reply ticket leads.0 → (b : Bool)
          → leads.0.spent ≡ b → (leads.0.spent ≡ false → Found calls) → Found (call ∷ calls)
      by_ticket ticket t step false is rest = further (rest is)
      by_ticket (Some n) t step true is rest = absurd (true≢false (sym is ∙ step.4))
      by_ticket None t step true is rest =
          (call, (0, omega arith, refl), (marked old leads.0 call.asked call.told.reply step.0 had is, leads.1.drew ∙ ap not had, t))

module _ {O : Type 0} (serves : Service O) (looks : Service (ThingState O))
    (chooses : O → Reply → Option ℕ → Type 0)
    (quiet : (old new : ThingState O) (asked : Request) (reply : Reply) → looks old asked reply new → IsQuiet old reply (what_of asked reply) new)
    (refused : (old new : O) (asked : Request) (reply : Reply) → serves old asked reply new → what_of asked reply ≡ None → new ≡ old) where
  next_of : (old new : ThingState O) (asked : Request) (reply : Reply) (ticket : Option ℕ) → StepOf serves looks old asked reply ticket new
      → IsNextTicket old.note ticket × (new.note ≡ or_last old.note ticket)
  next_of old new asked reply None s = (tt, s.1)
  next_of old new asked reply (Some n) s = (s.2, s.3)

  rises : (old new : ThingState O) (history : List Call) → Leads (ThingAnswers serves looks chooses) old history new → TicketsRise old.note history new.note
  rises old new [] l = ap (λ (k : ThingState O). k.note) l
  rises old new (c ∷ cs) l =
      let here = next_of old l.0 c.asked c.told.reply c.told.drawn l.1.step in
      (here.0, subst (λ n. TicketsRise n cs new.note) here.1 (rises l.0 new cs l.2))

  carry : (old new : ThingState O) (history : List Call) → Leads (ThingAnswers serves looks chooses) old history new → All CarriesItsOwn history
  carry old new [] l = All-nil CarriesItsOwn
  carry old new (c ∷ cs) l = All-cons CarriesItsOwn c cs l.1.ticket (carry l.0 new cs l.2)

  entries : (old new : ThingState O) (history : List Call) → Leads (ThingAnswers serves looks chooses) old history new → CarriedRise old.note history new.note
  entries old new history l = carried_rise old.note old.note new.note history (omega arith) (rises old new history l) (carry old new history l)

  none_left : (old new : ThingState O) (asked : Request) (reply : Reply) (ticket : Option ℕ) → StepOf serves looks old asked reply ticket new → old.spent ≡ true
      → (is_some ticket ≡ false) × (new.spent ≡ true)
  none_left old new asked reply None s h = (refl, (quiet old new asked reply s.0).spent h)
  none_left old new asked reply (Some n) s h = absurd (cc (s.1, h))

  -- where a draw found no ticket, no call draws one later
  none_drawn : (old new : ThingState O) (history : List Call) → old.spent ≡ true → Leads (ThingAnswers serves looks chooses) old history new
      → (drawn_in history ≡ []) × (ticketed_in history ≡ []) × (new.spent ≡ true)
  none_drawn old new [] h l = (refl, refl, sym (ap (λ (k : ThingState O). k.spent) l) ∙ h)
  none_drawn old new (c ∷ cs) h l =
      let here = none_left old l.0 c.asked c.told.reply c.told.drawn l.1.step h in
      let rest = none_drawn l.0 new cs here.1 l.2 in (
        ap (λ b. cond b (c ∷ drawn_in cs) (drawn_in cs)) here.0 ∙ rest.0,
        ap (λ b. cond b (c ∷ ticketed_in cs) (ticketed_in cs)) (uncarried (what_of c.asked c.told.reply) c.told.drawn c.told.ticket l.1.ticket here.0) ∙ rest.1,
        rest.2,
      )

  -- a run goes on behind a call that is among those of it, or leaves out one that changed nothing
  goes : (old mid : ThingState O) (c : Call) (rest : List Call) (last : O) (ticket : Option ℕ) → is_some ticket ≡ true → serves old.object c.asked c.told.reply mid.object
      → LeadDrawn serves mid.object rest last → LeadDrawn serves old.object (cond (is_some ticket) (c ∷ rest) rest) last
  goes old mid c rest last ticket is served run = subst (λ b. LeadDrawn serves old.object (cond b (c ∷ rest) rest) last) (sym is) (mid.object, served, run)

  passes : (old mid : O) (c : Call) (rest : List Call) (last : O) (ticket : Option ℕ) → is_some ticket ≡ false → mid ≡ old → LeadDrawn serves mid rest last
      → LeadDrawn serves old (cond (is_some ticket) (c ∷ rest) rest) last
  passes old mid c rest last ticket is same run = subst (λ b. LeadDrawn serves old (cond b (c ∷ rest) rest) last) (sym is) (subst (λ x. LeadDrawn serves x rest last) same run)

  one_more : (old mid new : ThingState O) (c : Call) (cs : List Call) (what : Option What) (drawn : Option ℕ) → what_of c.asked c.told.reply ≡ what → c.told.drawn ≡ drawn
      → c.told.ticket ≡ carried what drawn → StepOf serves looks old c.asked c.told.reply drawn mid → Leads (ThingAnswers serves looks chooses) mid cs new → DrawnRun serves mid new cs
      → DrawnRun serves old new (c ∷ cs)
  one_more old mid new c cs (Some what) (Some n) w d t s l r = record {
    last = r.last;
    run = goes old mid c (drawn_in cs) r.last c.told.drawn (ap is_some d) s.0 r.run;
    entries = goes old mid c (ticketed_in cs) r.last c.told.ticket (ap is_some t) s.0 r.entries;
    ends = r.ends;
  }
  one_more old mid new c cs None (Some n) w d t s l r = record {
    last = r.last;
    run = goes old mid c (drawn_in cs) r.last c.told.drawn (ap is_some d) s.0 r.run;
    entries = passes old.object mid.object c (ticketed_in cs) r.last c.told.ticket (ap is_some t) (refused old.object mid.object c.asked c.told.reply s.0 w) r.entries;
    ends = r.ends;
  }
  one_more old mid new c cs what None w d t s l r =
      let bare : is_some c.told.ticket ≡ false = ap is_some (t ∙ carried_none what) in elim ((quiet old mid c.asked c.told.reply s.0).keeps) [
        | inl same ↦ record {
          last = r.last;
          run = passes old.object mid.object c (drawn_in cs) r.last c.told.drawn (ap is_some d) same r.run;
          entries = passes old.object mid.object c (ticketed_in cs) r.last c.told.ticket bare same r.entries;
          ends = r.ends;
        }
        | inr spent ↦ (let none = none_drawn mid new cs spent.1 l in record {
          last = old.object;
          run = passes old.object old.object c (drawn_in cs) old.object c.told.drawn (ap is_some d) refl (subst (λ x. LeadDrawn serves old.object x old.object) (sym none.0) refl);
          entries = passes old.object old.object c (ticketed_in cs) old.object c.told.ticket bare refl (subst (λ x. LeadDrawn serves old.object x old.object) (sym none.1) refl);
          ends = λ h. absurd (cc (none.2, h));
        })
      ]

  runs : (old new : ThingState O) (history : List Call) → Leads (ThingAnswers serves looks chooses) old history new → DrawnRun serves old new history
  runs old new [] l = record { last = old.object; run = refl; entries = refl; ends = λ h. ap (λ (k : ThingState O). k.object) l }
  runs old new (c ∷ cs) l = one_more old l.0 new c cs (what_of c.asked c.told.reply) c.told.drawn refl refl l.1.ticket l.1.step l.2 (runs l.0 new cs l.2)

  pub keeps_history : KeepsHistory serves looks chooses
  keeps_history = record { rises = rises; runs = runs; quiet = quiet; refused = refused; carry = carry; entries = entries }

  module _ (unserved : (old : O) (asked : Request) (new : O) → serves old asked NoTicket new → ⊥)
      (found : (old new : ThingState O) (asked : Request) → looks old asked NoTicket new → new.spent ≡ true)
      (keeps : (old new : ThingState O) (asked : Request) (reply : Reply) → looks old asked reply new → is_spent reply ≡ false → new.spent ≡ old.spent) where
    -- a call that is told that there was none has no ticket, and leaves the thing marked
    told_none : (old new : ThingState O) (asked : Request) (reply : Reply) (ticket : Option ℕ) → reply ≡ NoTicket → StepOf serves looks old asked reply ticket new
        → (is_some ticket ≡ false) × (new.spent ≡ true)
    told_none old new asked reply None is s = (refl, found old new asked (subst (λ r. looks old asked r new) is s.0))
    told_none old new asked reply (Some n) is s = absurd (unserved old.object asked new.object (subst (λ r. serves old.object asked r new.object) is s.0))

    follows : (old new : ThingState O) (call : Call) (rest : List Call) → Leads (ThingAnswers serves looks chooses) old (call ∷ rest) new → call.told.reply ≡ NoTicket
        → (drawn_in (call ∷ rest) ≡ []) × (ticketed_in (call ∷ rest) ≡ []) × (new.spent ≡ true)
    follows old new call rest l is =
        let here = told_none old l.0 call.asked call.told.reply call.told.drawn is l.1.step in
        let after = none_drawn l.0 new rest here.1 l.2 in
        let bare = uncarried (what_of call.asked call.told.reply) call.told.drawn call.told.ticket l.1.ticket here.0 in
        (ap (λ b. cond b (call ∷ drawn_in rest) (drawn_in rest)) here.0 ∙ after.0, ap (λ b. cond b (call ∷ ticketed_in rest) (ticketed_in rest)) bare ∙ after.1, after.2)

    pub stays_spent : StaysSpent serves looks chooses
    stays_spent = record { found = found; stays = λ old new history l h. none_drawn old new history h l; follows = follows; marks = marks serves looks chooses keeps }
