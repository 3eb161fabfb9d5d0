-- The history of an object: its events are a run of the object's machine, and their tickets rise.
use Rattle.std.proofs.Common.{◌≡◌, ◌+◌, ◌-◌, ◌<◌, ◌++◌, cond, ℕ, Bool, true, false, List, [], ◌∷◌, Option, None, Some, length, filter, inl, inr, refl, sym, ◌∙◌, ap, subst, arith}
use Rattle.std.specs.Option.{is_some}
use Rattle.std.specs.Prelude.{All, slice_index_or}
use Rattle.std.proofs.lemmas.Bool.{true≢false}
use Rattle.std.proofs.lemmas.List.{length-append, length-set}
use Rattle.std.proofs.lemmas.List.Elements.{All-head, All-tail, All-cons, All-nil, filter-append}
use Rattle.elem_ledger.specs.Ledger.{LedgerId}
use Rattle.seat_lock.specs.History.{Leads}
use Rattle.run_machine.specs.Laws.{Object, OfPool, OfRescuer, OfDisk, OfBook, OfTally, OfNone}
use Rattle.run_machine.specs.Objects.{TallyState}
use Rattle.run_machine.specs.Requests.{Request, Reply, Done, NextRound, LookRound, LookLeft, Did, Present, LeftOver, NoTicket}
use Rattle.object_things.specs.Tallies.{TallyServes, TallyLooks}
use Rattle.object_things.specs.Histories.{Call, CarriesItsOwn, drawn_in, LeadDrawn}
use Rattle.object_things.specs.Stamps.{ThingState, StepOf}
use Rattle.shared_objects.specs.Kinds.{ThingAt, serves_at, looks_at, answers_at}
use Rattle.shared_objects.proofs.tickets.TicketsOfCalls.{keeps}
use Rattle.shared_objects.proofs.logs.StepNotes.{HasTicket}
use Rattle.run_merge.specs.Machines.{ServesAt, LeadsObject}
use Rattle.run_merge.specs.Merging.{without_tickets}
use Rattle.run_merge.specs.Products.{is_next_round}
use Rattle.run_merge.specs.SharedObjects.{seen_at}
use Rattle.run_merge.proofs.enough_shown.CallTickets.{events_told, events_untold}
use Rattle.run_merge.proofs.enough_shown.CallEvents.{ticketed_events}
use Rattle.run_merge.proofs.enough_shown.ServedWithTicket.{pool_is, pool_stays, pool_ledger, list_is, list_stays, disk_is, disk_stays, book_is, book_stays, HasNext, tally_is, tally_stays}
use Rattle.run_merge.proofs.enough_shown.LogLeads.{is_told}

-- each event of a history drew a ticket
pub told_drew : (name : Object) (old new : ThingState (ThingAt name)) (calls : List Call) → Leads (answers_at name) old calls new → All HasTicket calls
told_drew name old new [] leads = All-nil HasTicket
told_drew name old new (call ∷ calls) leads = All-cons HasTicket call calls (λ told. by_ticket told call.told.drawn leads.1.step) (told_drew name leads.0 new calls leads.2)
  where
    by_ticket : is_told call ≡ true → (ticket : Option ℕ) → StepOf (serves_at name) (looks_at name) old call.asked call.told.reply ticket leads.0 → is_some ticket ≡ true
    by_ticket told (Some n) step = refl
    by_ticket told None step = absurd (true≢false (sym told ∙ ap is_some ((keeps name).quiet old leads.0 call.asked call.told.reply step.0).told))

-- and its entry carries that one
pub history_shows : (name : Object) (old new : ThingState (ThingAt name)) (calls : List Call) → Leads (answers_at name) old calls new → All HasTicket calls × All CarriesItsOwn calls
history_shows name old new calls leads = (told_drew name old new calls leads, (keeps name).carry old new calls leads)

-- how many of these calls start a round
abbrev pub starts : List Call → ℕ
starts calls = length (filter (λ (call : Call). is_next_round call.asked) calls)

next_there : (tally : TallyState) (asked : Request) (call : Call) (few : List Call) → tally.round + length (cond (is_next_round asked) (call ∷ few) few) < length tally.left → HasNext tally asked
next_there tally (NextRound round) call few h = omega (arith, h)
next_there tally asked call few h = tt

tally_goes : (old new : TallyState) (asked : Request) (reply : Reply) (call : Call) (few : List Call)
    → old.round + length (cond (is_next_round asked) (call ∷ few) few) < length old.left → TallyServes old asked reply new → new.round + length few < length new.left
tally_goes old new (Done write status) Did call few h serves =
    let round = ap (λ (tally : TallyState). tally.round) serves in
    let left = ap (λ (tally : TallyState). length tally.left) serves ∙ length-set old.left old.round (slice_index_or old.left old.round 0 - 1) in
    omega (arith, h, round, left)
tally_goes old new (Done write status) reply call few h serves = absurd serves
tally_goes old new (NextRound number) Did call few h (inl (there, serves)) =
    let round = ap (λ (tally : TallyState). tally.round) serves in
    let left = ap (λ (tally : TallyState). length tally.left) serves in
    omega (arith, h, round, left)
tally_goes old new (NextRound number) Did call few h (inr (last, serves)) =
    let round = ap (λ (tally : TallyState). tally.round) serves in
    let left = ap (λ (tally : TallyState). length tally.left) serves in
    omega (arith, h, round, left)
tally_goes old new (NextRound number) reply call few h serves = absurd serves
tally_goes old new asked reply call few h serves = absurd serves

module _ (ledger : ℕ → LedgerId) where
  -- the pool is of its ledger, and there are rounds for all that start one
  abbrev pub IsReady : (name : Object) → ThingAt name → List Call → Type 0
  IsReady (OfPool number) pool calls = pool.ledger ≡ ledger number
  IsReady (OfRescuer dev) list calls = Unit {0}
  IsReady (OfDisk dev) disk calls = Unit {0}
  IsReady (OfBook writer) book calls = Unit {0}
  IsReady OfTally tally calls = tally.round + starts calls < length tally.left
  IsReady OfNone none calls = Unit {0}

  pub serves_is : (name : Object) (old new : ThingAt name) (call : Call) (calls : List Call) → IsReady name old (call ∷ calls) → serves_at name old call.asked call.told.reply new
      → ServesAt ledger name (seen_at name old) call.asked call.told.reply (seen_at name new)
  serves_is (OfPool number) old new call calls ready h = pool_is (ledger number) old new call.asked call.told.reply ready h
  serves_is (OfRescuer dev) old new call calls ready h = list_is old new call.asked call.told.reply h
  serves_is (OfDisk dev) old new call calls ready h = disk_is old new call.asked call.told.reply h
  serves_is (OfBook writer) old new call calls ready h = book_is old new call.asked call.told.reply h
  serves_is OfTally old new call calls ready h =
      tally_is old new call.asked call.told.reply (next_there old call.asked call (filter (λ (c : Call). is_next_round c.asked) calls) ready) h
  serves_is OfNone old new call calls ready h = absurd h

  pub serves_none : (name : Object) (old new : ThingAt name) (call : Call) → is_told call ≡ false → serves_at name old call.asked call.told.reply new → new ≡ old
  serves_none (OfPool number) old new call not h = pool_stays old new call.asked call.told.reply h not
  serves_none (OfRescuer dev) old new call not h = list_stays old new call.asked call.told.reply h not
  serves_none (OfDisk dev) old new call not h = disk_stays old new call.asked call.told.reply h not
  serves_none (OfBook writer) old new call not h = book_stays old new call.asked call.told.reply h not
  serves_none OfTally old new call not h = tally_stays old new call.asked call.told.reply h not
  serves_none OfNone old new call not h = absurd h

  pub ready_next : (name : Object) (old new : ThingAt name) (call : Call) (calls : List Call) → IsReady name old (call ∷ calls) → serves_at name old call.asked call.told.reply new
      → IsReady name new calls
  ready_next (OfPool number) old new call calls ready h = pool_ledger old new call.asked call.told.reply h ∙ ready
  ready_next (OfRescuer dev) old new call calls ready h = tt
  ready_next (OfDisk dev) old new call calls ready h = tt
  ready_next (OfBook writer) old new call calls ready h = tt
  ready_next OfTally old new call calls ready h = tally_goes old new call.asked call.told.reply call (filter (λ (c : Call). is_next_round c.asked) calls) ready h
  ready_next OfNone old new call calls ready h = tt

  pub ready_behind : (name : Object) (xs ys : List Call) (old last : ThingAt name) → IsReady name old (xs ++ ys) → LeadDrawn (serves_at name) old xs last → IsReady name last ys
  ready_behind name [] ys old last ready leads = subst (λ o. IsReady name o ys) leads ready
  ready_behind name (x ∷ xs) ys old last ready leads =
      ready_behind name xs ys leads.0 last (ready_next name old leads.0 x (xs ++ ys) ready leads.1) leads.2

  pub ready_first : (name : Object) (xs ys : List Call) (old : ThingAt name) → IsReady name old (xs ++ ys) → IsReady name old xs
  ready_first (OfPool number) xs ys old ready = ready
  ready_first (OfRescuer dev) xs ys old ready = tt
  ready_first (OfDisk dev) xs ys old ready = tt
  ready_first (OfBook writer) xs ys old ready = tt
  ready_first OfTally xs ys old ready =
      let p = λ (call : Call). is_next_round call.asked in
      let both : starts (xs ++ ys) ≡ starts xs + starts ys = ap (λ (l : List Call). length l) (filter-append p xs ys) ∙ length-append (filter p xs) (filter p ys) in
      omega (arith, ready, both)
  ready_first OfNone xs ys old ready = tt

  module _ (name : Object) where
    abbrev Result : ThingAt name → ThingAt name → List Call → Type 0
    Result old last calls = LeadsObject ledger name (seen_at name old) (without_tickets (ticketed_events calls)) (seen_at name last)

    -- those that drew a ticket and are events lead it as in a run
    pub drawn_leads : (calls : List Call) (old last : ThingAt name) → All HasTicket calls → IsReady name old (drawn_in calls) → LeadDrawn (serves_at name) old (drawn_in calls) last
        → LeadsObject ledger name (seen_at name old) (without_tickets (ticketed_events calls)) (seen_at name last)
    drawn_leads [] old last has ready leads = ap (seen_at name) (sym leads)
    drawn_leads (call ∷ calls) old last has ready leads =
        by_two (is_some call.told.drawn) (is_told call) refl refl ready leads (λ o r l. drawn_leads calls o last (All-tail HasTicket call calls has) r l)
      where
        More : List Call → Type 0
        More drawn = (o : ThingAt name) → IsReady name o drawn → LeadDrawn (serves_at name) o drawn last → Result o last calls

        by_two : (drew told : Bool) → is_some call.told.drawn ≡ drew → is_told call ≡ told → IsReady name old (cond drew (call ∷ drawn_in calls) (drawn_in calls))
            → LeadDrawn (serves_at name) old (cond drew (call ∷ drawn_in calls) (drawn_in calls)) last → More (drawn_in calls) → Result old last (call ∷ calls)
        by_two true true d t ready leads more =
            subst (λ ns. LeadsObject ledger name (seen_at name old) (without_tickets ns) (seen_at name last)) (sym (events_told call calls t))
            (seen_at name leads.0, serves_is name old leads.0 call (drawn_in calls) ready leads.1, more leads.0 (ready_next name old leads.0 call (drawn_in calls) ready leads.1) leads.2)
        by_two true false d t ready leads more =
            let same = serves_none name old leads.0 call t leads.1 in
            subst (λ ns. LeadsObject ledger name (seen_at name old) (without_tickets ns) (seen_at name last)) (sym (events_untold call calls t))
            (subst (λ o. Result o last calls) same (more leads.0 (ready_next name old leads.0 call (drawn_in calls) ready leads.1) leads.2))
        by_two false true d t ready leads more = absurd (true≢false (sym (All-head HasTicket call calls has t) ∙ d))
        by_two false false d t ready leads more =
            subst (λ ns. LeadsObject ledger name (seen_at name old) (without_tickets ns) (seen_at name last)) (sym (events_untold call calls t)) (more old ready leads)

    -- what they leave, which is the object while no draw failed
    pub object_leads : (calls : List Call) (old new : ThingState (ThingAt name)) → IsReady name old.object (drawn_in calls) → Leads (answers_at name) old calls new
        → (last : ThingAt name) × LeadsObject ledger name (seen_at name old.object) (without_tickets (ticketed_events calls)) (seen_at name last) × (new.spent ≡ false → last ≡ new.object)
    object_leads calls old new ready leads =
        let run = (keeps name).runs old new calls leads in
        (run.last, drawn_leads calls old.object run.last (told_drew name old new calls leads) ready run.run, run.ends)

-- a tally stays as it is where a draw fails
tally_stays_so : (old new : ThingState TallyState) (asked : Request) (reply : Reply) → TallyLooks old asked reply new → new.object ≡ old.object
tally_stays_so old new LookRound (Present round) looks = looks.1.0
tally_stays_so old new LookLeft (LeftOver count) looks = looks.1.0
tally_stays_so old new (Done write status) NoTicket looks = looks.0
tally_stays_so old new (NextRound round) NoTicket looks = looks.0
tally_stays_so old new asked reply looks = absurd looks

pub tally_drawn : (calls : List Call) (old new : ThingState TallyState) → Leads (answers_at OfTally) old calls new → LeadDrawn TallyServes old.object (drawn_in calls) new.object
tally_drawn [] old new leads = ap (λ (thing : ThingState TallyState). thing.object) leads
tally_drawn (call ∷ calls) old new leads = by_ticket call.told.drawn leads.1.step (tally_drawn calls leads.0 new leads.2)
  where
    by_ticket : (ticket : Option ℕ) → StepOf TallyServes TallyLooks old call.asked call.told.reply ticket leads.0 → LeadDrawn TallyServes leads.0.object (drawn_in calls) new.object
        → LeadDrawn TallyServes old.object (cond (is_some ticket) (call ∷ drawn_in calls) (drawn_in calls)) new.object
    by_ticket (Some n) step rest = (leads.0.object, step.0, rest)
    by_ticket None step rest = subst (λ o. LeadDrawn TallyServes o (drawn_in calls) new.object) (tally_stays_so old leads.0 call.asked call.told.reply step.0) rest
