-- What a task did at each object, put in the order of tickets, is what it did.
use Rattle.std.proofs.Common.{◌≡◌, ◌+◌, ◌-◌, ◌<◌, ◌==◌, ◌++◌, ◌||◌, cond, ℕ, zero, suc, Bool, true, false, nat_lt, List, [], ◌∷◌, filter, refl, sym, ◌∙◌, ap, subst, arith}
use Rattle.std.specs.Prelude.{All, map}
use Rattle.std.specs.List.{list_any}
use Rattle.std.proofs.lemmas.Bool.{true≢false, or_parts, eq-eqb, ne_eqb, eqb-true, eqb-false, lt-ltb}
use Rattle.std.proofs.lemmas.List.{append_assoc}
use Rattle.std.proofs.lemmas.List.Elements.{All-head, All-tail, All-nil, All-filter, All-append, filter-append}
use Rattle.seat_lock.specs.History.{indicator, count, calls_by}
use Rattle.seat_lock.proofs.Histories.{count_one}
use Rattle.run_machine.specs.Laws.{Object, object_of}
use Rattle.object_things.specs.Histories.{Call}
use Rattle.shared_objects.specs.Calls.{calls_to, is_same_object}
use Rattle.shared_objects.specs.Names.{Apart}
use Rattle.shared_objects.specs.Logs.{events_in}
use Rattle.shared_objects.proofs.SameNames.{same_is}
use Rattle.run_merge.specs.Merging.{Ticketed, insert, sorted_by_ticket, RiseFrom, all_of, done_by}
use Rattle.run_merge.proofs.enough_shown.CallTickets.{events_told, events_untold, rises_above}
use Rattle.run_merge.proofs.enough_shown.CallEvents.{drawn_entry, ticketed_events, event_histories}
use Rattle.run_merge.proofs.enough_shown.CalledObjects.{apart_both_ways}
use Rattle.run_merge.proofs.enough_shown.LogLeads.{is_told}
use Rattle.run_merge.proofs.merging.Picked.{is_at, is_by}
use Rattle.run_merge.proofs.merging.TicketOrder.{Ordered, insert_front, sorted_ordered, all_sorted}

-- the seat of the task at a place
mine_is : (place by : ℕ) → 0 < by → (place == by - 1) ≡ nat_lt 0 (count by ((place + 1) ∷ []))
mine_is place zero some = absurd (omega (arith, some))
mine_is place (suc by) some = by_test (place == by) refl
  where
    by_test : (b : Bool) → (place == by) ≡ b → (place == suc by - 1) ≡ nat_lt 0 (count (suc by) ((place + 1) ∷ []))
    by_test true is =
        let same = eqb-true place by is in
        eq-eqb place (suc by - 1) (omega (arith, same)) ∙ sym (lt-ltb 0 (count (suc by) ((place + 1) ∷ []))
        (subst (λ n. 0 < n) (sym (count_one (suc by) (place + 1) ∙ ap indicator (eq-eqb (place + 1) (suc by) (omega (arith, same))))) (omega arith)))
    by_test false is =
        let other = eqb-false place by is in
        ne_eqb place (suc by - 1) (λ same. other (omega (arith, same)))
        ∙ sym (ap (λ n. nat_lt 0 n) (count_one (suc by) (place + 1) ∙ ap indicator (ne_eqb (place + 1) (suc by) (λ same. other (omega (arith, same))))))

abbrev mine : ℕ → Call → Bool
mine place call = nat_lt 0 (count call.by ((place + 1) ∷ []))

-- those of a task among calls of some kind, as entries
module _ (entry : Call → Ticketed) (place : ℕ) (by : (call : Call) → is_by place (entry call) ≡ (place == call.by - 1)) where
  pub picks_mine : (p : Call → Bool) (calls : List Call) → All (λ (call : Call). 0 < call.by) calls
      → filter (is_by place) (map entry (filter p calls)) ≡ map entry (filter p (calls_by ((place + 1) ∷ []) calls))
  picks_mine p [] some = refl
  picks_mine p (call ∷ calls) some =
      by_two (p call) (mine place call) refl (by call ∙ mine_is place call.by (All-head (λ (c : Call). 0 < c.by) call calls some))
      (picks_mine p calls (All-tail (λ (c : Call). 0 < c.by) call calls some))
    where
      rest : List Call
      rest = calls_by ((place + 1) ∷ []) calls

      picked : List Ticketed
      picked = filter (is_by place) (map entry (filter p calls))

      more : (b : Bool) → p call ≡ b → map entry (filter p (call ∷ rest)) ≡ map entry (cond b (call ∷ filter p rest) (filter p rest))
      more b is = ap (λ b. map entry (cond b (call ∷ filter p rest) (filter p rest))) is

      by_two : (has own : Bool) → p call ≡ has → is_by place (entry call) ≡ own → picked ≡ map entry (filter p rest)
          → filter (is_by place) (map entry (cond has (call ∷ filter p calls) (filter p calls))) ≡ map entry (filter p (cond own (call ∷ rest) rest))
      by_two true true h m is = ap (λ b. cond b (entry call ∷ picked) picked) m ∙ ap (λ l. entry call ∷ l) is ∙ sym (more true h)
      by_two true false h m is = ap (λ b. cond b (entry call ∷ picked) picked) m ∙ is
      by_two false true h m is = is ∙ sym (more false h)
      by_two false false h m is = is

-- of the calls at an object the events are those among all that are at it
pub events_to : (name : Object) (log : List Call) → ticketed_events (calls_to name log) ≡ filter (is_at name) (ticketed_events log)
events_to name [] = refl
events_to name (call ∷ calls) = by_two (is_told call) (is_same_object name (object_of call.asked)) refl refl (events_to name calls)
  where
    rest : List Call
    rest = calls_to name calls

    by_two : (told own : Bool) → is_told call ≡ told → is_same_object name (object_of call.asked) ≡ own → ticketed_events rest ≡ filter (is_at name) (ticketed_events calls)
        → ticketed_events (cond own (call ∷ rest) rest) ≡ filter (is_at name) (map drawn_entry (cond told (call ∷ events_in calls) (events_in calls)))
    by_two true true t m is =
        events_told call rest t ∙ ap (λ l. drawn_entry call ∷ l) is
        ∙ sym (ap (λ b. cond b (drawn_entry call ∷ filter (is_at name) (ticketed_events calls)) (filter (is_at name) (ticketed_events calls))) m)
    by_two true false t m is = is ∙ sym (ap (λ b. cond b (drawn_entry call ∷ filter (is_at name) (ticketed_events calls)) (filter (is_at name) (ticketed_events calls))) m)
    by_two false true t m is = events_untold call rest t ∙ is
    by_two false false t m is = is

-- a list of entries, object by object
abbrev pub parts : List Object → List Ticketed → List Ticketed
parts [] events = []
parts (name ∷ names) events = filter (is_at name) events ++ parts names events

record IsPut (names : List Object) (e : Ticketed) (events : List Ticketed) : Type 0 where
  before : List Ticketed
  after : List Ticketed
  more : parts names (e ∷ events) ≡ before ++ e ∷ after
  less : parts names events ≡ before ++ after

module _ (e : Ticketed) (events : List Ticketed) where
  no_other : (names : List Object) → list_any (is_same_object (object_of e.entry.asked)) names ≡ false → parts names (e ∷ events) ≡ parts names events
  no_other [] none = refl
  no_other (name ∷ names) none =
      let no = or_parts (is_same_object (object_of e.entry.asked) name) (list_any (is_same_object (object_of e.entry.asked)) names) none in
      ap (λ b. cond b (e ∷ filter (is_at name) events) (filter (is_at name) events) ++ parts names (e ∷ events)) (apart_both_ways (object_of e.entry.asked) name no.0)
      ∙ ap (λ l. filter (is_at name) events ++ l) (no_other names no.1)

  put_in : (names : List Object) → Apart is_same_object names → list_any (λ name. is_same_object name (object_of e.entry.asked)) names ≡ true → IsPut names e events
  put_in [] apart there = absurd (true≢false (sym there))
  put_in (name ∷ names) apart there = by_test (is_same_object name (object_of e.entry.asked)) refl there (λ t. put_in names apart.1 t)
    where
      few : List Ticketed
      few = filter (is_at name) events

      by_test : (b : Bool) → is_same_object name (object_of e.entry.asked) ≡ b → (b || list_any (λ n. is_same_object n (object_of e.entry.asked)) names) ≡ true
          → (list_any (λ n. is_same_object n (object_of e.entry.asked)) names ≡ true → IsPut names e events) → IsPut (name ∷ names) e events
      by_test true is there rest = record {
        before = [];
        after = few ++ parts names events;
        more = ap (λ b. cond b (e ∷ few) few ++ parts names (e ∷ events)) is
            ∙ ap (λ l. e ∷ (few ++ l)) (no_other names (subst (λ o. list_any (is_same_object o) names ≡ false) (same_is name (object_of e.entry.asked) is) apart.0));
        less = refl;
      }
      by_test false is there rest =
          let r = rest there in record {
            before = few ++ r.before;
            after = r.after;
            more = ap (λ b. cond b (e ∷ few) few ++ parts names (e ∷ events)) is ∙ ap (λ l. few ++ l) r.more ∙ sym (append_assoc few r.before (e ∷ r.after));
            less = ap (λ l. few ++ l) r.less ∙ sym (append_assoc few r.before r.after);
          }

ordered_above : (ticket : ℕ) (es : List Ticketed) → Ordered 0 es → All (λ (n : Ticketed). ticket < n.ticket) es → Ordered ticket es
ordered_above ticket [] ordered above = tt
ordered_above ticket (e ∷ es) ordered above = (let lt = All-head (λ (n : Ticketed). ticket < n.ticket) e es above in omega (arith, lt), ordered.1)

-- the one with the smallest ticket comes first
insert_middle : (e : Ticketed) (xs ys : List Ticketed) → All (λ (n : Ticketed). e.ticket < n.ticket) (xs ++ ys) → sorted_by_ticket (xs ++ e ∷ ys) ≡ e ∷ sorted_by_ticket (xs ++ ys)
insert_middle e [] ys above =
    insert_front e (sorted_by_ticket ys) (ordered_above e.ticket (sorted_by_ticket ys) (sorted_ordered ys) (all_sorted (λ (n : Ticketed). e.ticket < n.ticket) ys above))
insert_middle e (x ∷ xs) ys above =
    ap (insert x) (insert_middle e xs ys (All-tail (λ (n : Ticketed). e.ticket < n.ticket) x (xs ++ ys) above))
    ∙ ap (λ b. cond b (e ∷ insert x (sorted_by_ticket (xs ++ ys))) (x ∷ e ∷ sorted_by_ticket (xs ++ ys)))
    (lt-ltb e.ticket x.ticket (All-head (λ (n : Ticketed). e.ticket < n.ticket) x (xs ++ ys) above))

all_in_parts : (P : Ticketed → Type 0) (names : List Object) (events : List Ticketed) → All P events → All P (parts names events)
all_in_parts P [] events all = All-nil P
all_in_parts P (name ∷ names) events all =
    All-append P (filter (is_at name) events) (parts names events) (All-filter (is_at name) P events all) (all_in_parts P names events all)

pub sorted_parts : (names : List Object) (last : ℕ) (events : List Ticketed) → Apart is_same_object names
    → All (λ (n : Ticketed). list_any (λ name. is_same_object name (object_of n.entry.asked)) names ≡ true) events → RiseFrom last events → sorted_by_ticket (parts names events) ≡ events
sorted_parts names last [] apart there rises = ap sorted_by_ticket (none names)
  where
    none : (names : List Object) → parts names [] ≡ []
    none [] = refl
    none (name ∷ names) = none names
sorted_parts names last (e ∷ events) apart there rises =
    let put = put_in e events names apart (All-head (λ (n : Ticketed). list_any (λ name. is_same_object name (object_of n.entry.asked)) names ≡ true) e events there) in
    let above : All (λ (n : Ticketed). e.ticket < n.ticket) (put.before ++ put.after) =
    subst (All (λ (n : Ticketed). e.ticket < n.ticket)) put.less (all_in_parts (λ (n : Ticketed). e.ticket < n.ticket) names events (rises_above e.ticket events rises.1)) in
    ap sorted_by_ticket put.more ∙ insert_middle e put.before put.after above ∙ ap (λ l. e ∷ l) (ap sorted_by_ticket (sym put.less)
    ∙ sorted_parts names e.ticket events apart (All-tail (λ (n : Ticketed). list_any (λ name. is_same_object name (object_of n.entry.asked)) names ≡ true) e events there) rises.1)

-- so of histories that keep what the task did at each object
pub done_is : (names : List Object) (history : Object → List Call) (place : ℕ) (log : List Call) → Apart is_same_object names
    → ((name : Object) → All (λ (call : Call). 0 < call.by) (history name))
    → ((name : Object) → calls_by ((place + 1) ∷ []) (history name) ≡ calls_to name log)
    → All (λ (n : Ticketed). list_any (λ name. is_same_object name (object_of n.entry.asked)) names ≡ true) (ticketed_events log)
    → RiseFrom 0 (ticketed_events log) → done_by place (event_histories names history) ≡ ticketed_events log
done_is names history place log apart some calls there rises = ap sorted_by_ticket (picked names) ∙ sorted_parts names 0 (ticketed_events log) apart there rises
  where
    picked : (names : List Object) → filter (is_by place) (all_of (event_histories names history)) ≡ parts names (ticketed_events log)
    picked [] = refl
    picked (name ∷ names) =
        filter-append (is_by place) (ticketed_events (history name)) (all_of (event_histories names history))
        ∙ ap (λ l. l ++ filter (is_by place) (all_of (event_histories names history)))
        (picks_mine drawn_entry place (λ call. refl) is_told (history name) (some name) ∙ ap ticketed_events (calls name) ∙ events_to name log)
        ∙ ap (λ l. filter (is_at name) (ticketed_events log) ++ l) (picked names)
