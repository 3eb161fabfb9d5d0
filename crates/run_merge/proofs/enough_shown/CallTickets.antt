-- Tickets along calls, and the events among them.
use Rattle.std.proofs.Common.{◌≡◌, ◌<◌, ◌≤◌, ◌++◌, ℕ, Bool, true, false, List, [], ◌∷◌, Option, None, Some, refl, sym, ◌∙◌, ap, subst, arith}
use Rattle.std.specs.Option.{is_some}
use Rattle.std.specs.Prelude.{All, map}
use Rattle.std.proofs.lemmas.Bool.{true≢false}
use Rattle.std.proofs.lemmas.List.{map-append}
use Rattle.std.proofs.lemmas.List.Elements.{All-head, All-tail, All-cons, All-nil, filter-append}
use Rattle.object_things.specs.Histories.{Call, IsNextTicket, or_last, TicketsRise}
use Rattle.shared_objects.specs.Logs.{events_in}
use Rattle.shared_objects.proofs.logs.CallsLead.{event_first, quiet_first}
use Rattle.shared_objects.proofs.logs.StepNotes.{HasTicket}
use Rattle.run_merge.specs.Merging.{Ticketed, RiseFrom}
use Rattle.run_merge.proofs.enough_shown.CallEvents.{drawn_entry, ticketed_events}
use Rattle.run_merge.proofs.enough_shown.LogLeads.{is_told}
use Rattle.run_merge.proofs.closing.RunUpTo.{rises_from}

pub events_append : (xs ys : List Call) → ticketed_events (xs ++ ys) ≡ ticketed_events xs ++ ticketed_events ys
events_append xs ys = ap (map drawn_entry) (filter-append is_told xs ys) ∙ map-append drawn_entry (events_in xs) (events_in ys)

pub events_told : (call : Call) (calls : List Call) → is_told call ≡ true → ticketed_events (call ∷ calls) ≡ drawn_entry call ∷ ticketed_events calls
events_told call calls is = ap (map drawn_entry) (event_first call calls is)

pub events_untold : (call : Call) (calls : List Call) → is_told call ≡ false → ticketed_events (call ∷ calls) ≡ ticketed_events calls
events_untold call calls is = ap (map drawn_entry) (quiet_first call calls is)

-- without one that is none
pub events_around : (xs ys : List Call) (call : Call) → is_told call ≡ false → ticketed_events (xs ++ call ∷ ys) ≡ ticketed_events xs ++ ticketed_events ys
events_around xs ys call is = events_append xs (call ∷ ys) ∙ ap (λ l. ticketed_events xs ++ l) (events_untold call ys is)

-- tickets of events rise
pub rises_events : (last end : ℕ) (calls : List Call) → TicketsRise last calls end → All HasTicket calls → RiseFrom last (ticketed_events calls)
rises_events last end [] rises has = tt
rises_events last end (call ∷ calls) rises has =
    by_two (is_told call) refl call.told.drawn refl rises.0 (rises_events (or_last last call.told.drawn) end calls rises.1 (All-tail HasTicket call calls has))
  where
    by_two : (told : Bool) → is_told call ≡ told → (ticket : Option ℕ) → call.told.drawn ≡ ticket → IsNextTicket last ticket → RiseFrom (or_last last ticket) (ticketed_events calls)
        → RiseFrom last (ticketed_events (call ∷ calls))
    by_two true is (Some n) t next rest =
        subst (RiseFrom last) (sym (events_told call calls is))
        (subst (λ x. (last < or_last 0 x) × RiseFrom (or_last 0 x) (ticketed_events calls)) (sym t) (next, rest))
    by_two true is None t next rest = absurd (true≢false (sym (All-head HasTicket call calls has is) ∙ ap is_some t))
    by_two false is (Some n) t next rest = subst (RiseFrom last) (sym (events_untold call calls is)) (rises_from last n (ticketed_events calls) (omega (arith, next)) rest)
    by_two false is None t next rest = subst (RiseFrom last) (sym (events_untold call calls is)) rest

-- and none is greater than where they end
pub none_greater : (last end : ℕ) (calls : List Call) → TicketsRise last calls end → All HasTicket calls
    → (last ≤ end) × All (λ (n : Ticketed). n.ticket ≤ end) (ticketed_events calls)
none_greater last end [] rises has = (omega (arith, rises), All-nil (λ (n : Ticketed). n.ticket ≤ end))
none_greater last end (call ∷ calls) rises has =
    by_two (is_told call) refl call.told.drawn refl rises.0 (none_greater (or_last last call.told.drawn) end calls rises.1 (All-tail HasTicket call calls has))
  where
    Below : List Ticketed → Type 0
    Below ns = All (λ (n : Ticketed). n.ticket ≤ end) ns

    by_two : (told : Bool) → is_told call ≡ told → (ticket : Option ℕ) → call.told.drawn ≡ ticket → IsNextTicket last ticket
        → (or_last last ticket ≤ end) × Below (ticketed_events calls) → (last ≤ end) × Below (ticketed_events (call ∷ calls))
    by_two true is (Some n) t next rest =
        let le = rest.0 in
        let here : or_last 0 call.told.drawn ≤ end = subst (λ x. or_last 0 x ≤ end) (sym t) le in
        (omega (arith, next, le), subst Below (sym (events_told call calls is)) (All-cons (λ (n : Ticketed). n.ticket ≤ end) (drawn_entry call) (ticketed_events calls) here rest.1))
    by_two true is None t next rest = absurd (true≢false (sym (All-head HasTicket call calls has is) ∙ ap is_some t))
    by_two false is (Some n) t next rest = (let le = rest.0 in omega (arith, next, le), subst Below (sym (events_untold call calls is)) rest.1)
    by_two false is None t next rest = (rest.0, subst Below (sym (events_untold call calls is)) rest.1)

pub rises_above : (last : ℕ) (ns : List Ticketed) → RiseFrom last ns → All (λ (n : Ticketed). last < n.ticket) ns
rises_above last [] rises = All-nil (λ (n : Ticketed). last < n.ticket)
rises_above last (n ∷ ns) rises =
    let lt = rises.0 in
    All-cons (λ (m : Ticketed). last < m.ticket) n ns lt (rises_above last ns (rises_from last n.ticket ns (omega (arith, lt)) rises.1))

-- they rise along each part
pub rises_parts : (last end : ℕ) (xs ys : List Call) → TicketsRise last (xs ++ ys) end → (mid : ℕ) × TicketsRise last xs mid × TicketsRise mid ys end
rises_parts last end [] ys rises = (last, refl, rises)
rises_parts last end (x ∷ xs) ys rises =
    let rest = rises_parts (or_last last x.told.drawn) end xs ys rises.1 in (rest.0, (rises.0, rest.1), rest.2)
