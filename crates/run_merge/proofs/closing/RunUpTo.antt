-- Histories up to a ticket show a run up to there.
use Rattle.std.proofs.Common.{◌≡◌, ◌<◌, ◌≤◌, ◌++◌, if◌then◌else◌, cond, ℕ, Bool, true, false, List, [], ◌∷◌, Option, None, Some, refl, sym, ◌∙◌, ap, subst, arith}
use Rattle.std.specs.Prelude.{IsTrue, All, filter, nat_lt}
use Rattle.std.proofs.lemmas.List.{append_assoc, map-append}
use Rattle.std.proofs.lemmas.List.Elements.{All-head, All-tail, All-cons, All-nil, All-filter, filter-append}
use Rattle.elem_ledger.specs.Ledger.{LedgerId}
use Rattle.run_machine.specs.Laws.{Object, OfTally, object_of}
use Rattle.run_machine.specs.Opened.{Scenario, start, setup_in}
use Rattle.run_machine.specs.Requests.{Request}
use Rattle.run_machine.specs.Runs.{State}
use Rattle.run_machine.specs.Tasks.{TaskState, look_of}
use Rattle.shared_objects.specs.Calls.{is_same_object}
use Rattle.shared_objects.specs.Logs.{is_event}
use Rattle.shared_objects.proofs.SameNames.{same_is}
use Rattle.run_merge.specs.Machines.{LeadsObject}
use Rattle.run_merge.specs.Merging.{Ticketed, Histories, without_tickets, sorted_by_ticket, RiseFrom, all_of, history_of, AreOfDifferentObjects, AreTagged, done_by, LetsAsk, Shown}
use Rattle.run_merge.specs.ObjectsByName.{StateAt, object_named, put_object, made_of}
use Rattle.run_merge.specs.Products.{EntriesLead, task_behind}
use Rattle.run_merge.proofs.merging.Picked.{is_by, filter_swap}
use Rattle.run_merge.proofs.merging.TwoParts.{object_split, task_split}
use Rattle.run_merge.proofs.merging.TicketOrder.{sorted_ordered, filter_sorted, early, early_first, early_all, early_few, rises_ordered}
use Rattle.run_merge.proofs.products.ObjectNames.{named_put, named_other, named_made}

abbrev pub early_histories : ℕ → Histories → Histories
early_histories ticket [] = []
early_histories ticket (h ∷ hs) = (h.0, early ticket h.1) ∷ early_histories ticket hs

-- along an object tickets rise
pub rises_from : (m n : ℕ) (ns : List Ticketed) → m ≤ n → RiseFrom n ns → RiseFrom m ns
rises_from m n [] le r = tt
rises_from m n (e ∷ ns) le r = (let lt = r.0 in omega (arith, le, lt), r.1)

rises_filter : (p : Ticketed → Bool) (n : ℕ) (ns : List Ticketed) → RiseFrom n ns → RiseFrom n (filter p ns)
rises_filter p n [] r = tt
rises_filter p n (e ∷ ns) r = by_test (p e) (rises_filter p e.ticket ns r.1)
  where
    by_test : (b : Bool) → RiseFrom e.ticket (filter p ns) → RiseFrom n (cond b (e ∷ filter p ns) (filter p ns))
    by_test true rest = (r.0, rest)
    by_test false rest = let lt = r.0 in rises_from n e.ticket (filter p ns) (omega (arith, lt)) rest

module _ (ticket : ℕ) where
  all_early : (hs : Histories) → all_of (early_histories ticket hs) ≡ early ticket (all_of hs)
  all_early [] = refl
  all_early (h ∷ hs) = ap (λ l. early ticket h.1 ++ l) (all_early hs) ∙ sym (filter-append (λ (n : Ticketed). nat_lt n.ticket ticket) h.1 (all_of hs))

  pub history_early : (name : Object) (hs : Histories) → history_of name (early_histories ticket hs) ≡ early ticket (history_of name hs)
  history_early name [] = refl
  history_early name (h ∷ hs) = by_test (is_same_object name h.0) (history_early name hs)
    where
      by_test : (b : Bool) → history_of name (early_histories ticket hs) ≡ early ticket (history_of name hs)
          → (if b then early ticket h.1 else history_of name (early_histories ticket hs)) ≡ early ticket (if b then h.1 else history_of name hs)
      by_test true is = refl
      by_test false is = is

  pub done_early : (place : ℕ) (hs : Histories) → done_by place (early_histories ticket hs) ≡ early ticket (done_by place hs)
  done_early place hs =
      ap (λ l. sorted_by_ticket (filter (is_by place) l)) (all_early hs)
      ∙ ap sorted_by_ticket (filter_swap (is_by place) (λ (n : Ticketed). nat_lt n.ticket ticket) (all_of hs))
      ∙ sym (filter_sorted (λ (n : Ticketed). nat_lt n.ticket ticket) (filter (is_by place) (all_of hs)))

  apart_early : (hs : Histories) → AreOfDifferentObjects hs → AreOfDifferentObjects (early_histories ticket hs)
  apart_early [] a = tt
  apart_early (h ∷ hs) a = (others hs a.0, apart_early hs a.1)
    where
      others : (hs : Histories) → All (λ (other : Object × List Ticketed). is_same_object h.0 other.0 ≡ false) hs
          → All (λ (other : Object × List Ticketed). is_same_object h.0 other.0 ≡ false) (early_histories ticket hs)
      others [] a = All-nil (λ (other : Object × List Ticketed). is_same_object h.0 other.0 ≡ false)
      others (o ∷ os) a =
          All-cons (λ (other : Object × List Ticketed). is_same_object h.0 other.0 ≡ false) (o.0, early ticket o.1) (early_histories ticket os)
          (All-head (λ (other : Object × List Ticketed). is_same_object h.0 other.0 ≡ false) o os a) (others os (All-tail (λ (other : Object × List Ticketed). is_same_object h.0 other.0 ≡ false) o os a))

  tagged_early : (hs : Histories) → AreTagged hs → AreTagged (early_histories ticket hs)
  tagged_early [] a = tt
  tagged_early (h ∷ hs) a = (All-filter (λ (n : Ticketed). nat_lt n.ticket ticket) (λ (n : Ticketed). object_of n.entry.asked ≡ h.0) h.1 a.0, tagged_early hs a.1)

  -- what was seen with smaller tickets is there
  pub lets_early : (s : Scenario) (ledger : ℕ → LedgerId) (tally : List Ticketed) (own : ℕ) (task : TaskState) (look : Option Request) → own ≤ ticket
      → LetsAsk s ledger tally own task look → LetsAsk s ledger (early ticket tally) own task look
  lets_early s ledger tally own task None le looked = tt
  lets_early s ledger tally own task (Some look) le (was, few, reply, serves, may) =
      let less : All (λ (n : Ticketed). n.ticket < ticket) was.seen = weaker was.seen few in (
        record {
          seen = was.seen;
          later = early ticket was.later;
          history = ap (early ticket) was.history ∙ filter-append (λ (n : Ticketed). nat_lt n.ticket ticket) was.seen was.later
              ∙ ap (λ l. l ++ early ticket was.later) (early_all ticket was.seen less);
          shown = was.shown;
          leads = was.leads;
        },
        few,
        reply,
        serves,
        may,
      )
    where
      weaker : (ns : List Ticketed) → All (λ (n : Ticketed). n.ticket < own) ns → All (λ (n : Ticketed). n.ticket < ticket) ns
      weaker [] a = All-nil (λ (n : Ticketed). n.ticket < ticket)
      weaker (n ∷ ns) a =
          let lt = All-head (λ (m : Ticketed). m.ticket < own) n ns a in
          All-cons (λ (m : Ticketed). m.ticket < ticket) n ns (omega (arith, lt, le)) (weaker ns (All-tail (λ (m : Ticketed). m.ticket < own) n ns a))

  module _ (s : Scenario) (ledger : ℕ → LedgerId) (hs : Histories) (last : State) (shown : Shown s ledger hs last) where
    object_then : (name : Object) → (mid : StateAt name) × LeadsObject ledger name (object_named (start s).objects name) (without_tickets (history_of name (early_histories ticket hs))) mid
    object_then name =
        let p = early_first ticket 0 (history_of name hs) (rises_ordered 0 (history_of name hs) (shown.rises name)) in
        let l = subst (λ l. LeadsObject ledger name (object_named (start s).objects name) l (object_named last.objects name))
        (ap without_tickets p.1 ∙ map-append (λ (n : Ticketed). n.entry) (early ticket (history_of name hs)) p.0) (shown.objects name) in
        let r = object_split ledger name (without_tickets (early ticket (history_of name hs))) (without_tickets p.0) (object_named (start s).objects name) (object_named last.objects name) l in
        (r.0, subst (λ l. LeadsObject ledger name (object_named (start s).objects name) (without_tickets l) r.0) (sym (history_early name hs)) r.1)

    task_then : (place : ℕ) → EntriesLead (setup_in s) ((start s).task place) (without_tickets (done_by place (early_histories ticket hs))) (task_behind s place (without_tickets (early ticket (done_by place hs))))
    task_then place =
        let p = early_first ticket 0 (done_by place hs) (sorted_ordered (filter (is_by place) (all_of hs))) in
        let l = subst (λ l. EntriesLead (setup_in s) ((start s).task place) l (last.task place))
        (ap without_tickets p.1 ∙ map-append (λ (n : Ticketed). n.entry) (early ticket (done_by place hs)) p.0) (shown.tasks place) in
        let r = task_split (setup_in s) (without_tickets (early ticket (done_by place hs))) (without_tickets p.0) ((start s).task place) (last.task place) l in
        subst (λ l. EntriesLead (setup_in s) ((start s).task place) (without_tickets l) (task_behind s place (without_tickets (early ticket (done_by place hs))))) (sym (done_early place hs)) r.0

    -- where they lead
    pub then_state : State
    then_state = record { objects = made_of (λ name. (object_then name).0); task = λ place. task_behind s place (without_tickets (early ticket (done_by place hs))) }

    pub then_task : (place : ℕ) → then_state.task place ≡ task_behind s place (without_tickets (early ticket (done_by place hs)))
    unfolding then_state
    then_task place = refl

    -- what a task does of them has smaller tickets
    ticket_few : (place : ℕ) (mine rest : List Ticketed) (n : Ticketed) → done_by place (early_histories ticket hs) ≡ mine ++ n ∷ rest → n.ticket < ticket
    ticket_few place mine rest n is = one_of mine (subst (All (λ (m : Ticketed). m.ticket < ticket)) (sym (done_early place hs) ∙ is) (early_few ticket (done_by place hs)))
      where
        one_of : (ms : List Ticketed) → All (λ (m : Ticketed). m.ticket < ticket) (ms ++ n ∷ rest) → n.ticket < ticket
        one_of [] a = All-head (λ (m : Ticketed). m.ticket < ticket) n rest a
        one_of (m ∷ ms) a = one_of ms (All-tail (λ (m : Ticketed). m.ticket < ticket) m (ms ++ n ∷ rest) a)

    pub shown_early : Shown s ledger (early_histories ticket hs) then_state
    unfolding then_state
    shown_early = record {
      events = subst (All (λ (n : Ticketed). IsTrue (is_event n.entry.asked n.entry.reply))) (sym (all_early hs))
          (All-filter (λ (n : Ticketed). nat_lt n.ticket ticket) (λ (n : Ticketed). IsTrue (is_event n.entry.asked n.entry.reply)) (all_of hs) shown.events);
      apart = apart_early hs shown.apart;
      tagged = tagged_early hs shown.tagged;
      rises = λ name. subst (RiseFrom 0) (sym (history_early name hs)) (rises_filter (λ (n : Ticketed). nat_lt n.ticket ticket) 0 (history_of name hs) (shown.rises name));
      objects = λ name. subst (LeadsObject ledger name (object_named (start s).objects name) (without_tickets (history_of name (early_histories ticket hs))))
          (sym (named_made (λ name. (object_then name).0) name)) (object_then name).1;
      tasks = task_then;
      looks = λ place mine rest n is.
          let p = early_first ticket 0 (done_by place hs) (sorted_ordered (filter (is_by place) (all_of hs))) in
          let whole : done_by place hs ≡ mine ++ n ∷ (rest ++ p.0) = p.1 ∙ ap (λ l. l ++ p.0) (sym (done_early place hs) ∙ is) ∙ append_assoc mine (n ∷ rest) p.0 in
          let lt = ticket_few place mine rest n is in
          let task = task_behind s place (without_tickets mine) in
          subst (λ l. LetsAsk s ledger l n.ticket task (look_of task)) (sym (history_early OfTally hs))
          (lets_early s ledger (history_of OfTally hs) n.ticket task (look_of task) (omega (arith, lt)) (shown.looks place mine (rest ++ p.0) n whole));
    }

-- and with another state of one object, where its history leads to it too
pub shown_put : (s : Scenario) (ledger : ℕ → LedgerId) (hs : Histories) (last : State) → Shown s ledger hs last → (name : Object) (v : StateAt name)
    → LeadsObject ledger name (object_named (start s).objects name) (without_tickets (history_of name hs)) v → Shown s ledger hs (record last { objects = put_object last.objects name v })
shown_put s ledger hs last shown name v leads = record {
  events = shown.events;
  apart = shown.apart;
  tagged = shown.tagged;
  rises = shown.rises;
  objects = λ other. by_test other (is_same_object other name) refl;
  tasks = shown.tasks;
  looks = shown.looks;
}
  where
    by_test : (other : Object) (b : Bool) → is_same_object other name ≡ b
        → LeadsObject ledger other (object_named (start s).objects other) (without_tickets (history_of other hs)) (object_named (put_object last.objects name v) other)
    by_test other true same =
        subst (λ k. LeadsObject ledger k (object_named (start s).objects k) (without_tickets (history_of k hs)) (object_named (put_object last.objects name v) k)) (sym (same_is other name same))
        (subst (LeadsObject ledger name (object_named (start s).objects name) (without_tickets (history_of name hs))) (sym (named_put last.objects name v)) leads)
    by_test other false same =
        subst (LeadsObject ledger other (object_named (start s).objects other) (without_tickets (history_of other hs))) (sym (named_other last.objects name other v same)) (shown.objects other)
