-- The tickets of a clock are those of the calls: a row, in which all that was seen is.
use Rattle.std.proofs.Common.{◌≡◌, ◌⊎◌, ◌+◌, ◌-◌, ◌^◌, ◌≤◌, ◌++◌, ℕ, zero, suc, List, [], ◌∷◌, Option, None, Some, inl, inr, refl, sym, ◌∙◌, ap, subst, arith}
use Rattle.std.specs.Prelude.{All, Contains, map, slice_get}
use Rattle.std.specs.List.{flat_map, cons_option}
use Rattle.std.proofs.lemmas.List.{map-append}
use Rattle.std.proofs.lemmas.List.Elements.{All-cons, All-nil, All-append, All-contains, All-weaker, Contains-append_left, Contains-append_right, filter_map-append}
use Rattle.tick_clock.specs.declared.ticking.Ticket.{Ticket}
use Rattle.tick_clock.specs.Tickets.{PassState, IsOneOf, IsOneMore, ticket_numbers}
use Rattle.tick_clock.proofs.Rows.{pass_greatest, pass_one_more}
use Rattle.run_machine.specs.Laws.{Object, object_of}
use Rattle.run_machine.specs.Scene.{Setup}
use Rattle.task_core.specs.declared.plain.Plain.{Plain}
use Rattle.object_things.specs.Histories.{Call, KeepsHistory, or_last, TicketsRise, FoundNone}
use Rattle.object_things.specs.Stamps.{ChoosesNone, ThingState}
use Rattle.object_things.proofs.Looking.{book_quiet, tally_quiet, disk_quiet, list_quiet, pool_quiet}
use Rattle.object_things.proofs.Refused.{book_stays, disk_stays, list_stays, pool_stays, tally_stays}
use Rattle.object_things.proofs.TicketsRise.{keeps_history}
use Rattle.object_things.specs.Books.{BookServes, BookLooks}
use Rattle.object_things.specs.Disks.{DiskChooses, DiskServes, DiskLooks}
use Rattle.object_things.specs.Lists.{ListServes, ListLooks}
use Rattle.object_things.specs.Pools.{PoolServes, PoolLooks}
use Rattle.object_things.specs.Tallies.{TallyServes, TallyLooks}
use Rattle.run_machine.specs.Laws.{OfPool, OfRescuer, OfDisk, OfBook, OfTally, OfNone}
use Rattle.shared_objects.specs.Closes.{Returned, ClosesAs}
use Rattle.shared_objects.specs.Passes.{drawn_by, found_by, AreInRow}
use Rattle.shared_objects.specs.Kinds.{ThingAt, chooses_at, looks_at, opened_at, serves_at, unasked}
use Rattle.shared_objects.specs.Logs.{tickets_in, IsSeenIn, KnowsLast, HasPass, IsLogged}
use Rattle.shared_objects.proofs.tickets.CallOwners.{split_at, first_there, at_all, IsCallOfTask, owner, logged, kept, IsInPlace, in_place}

pub keeps : (name : Object) → KeepsHistory (serves_at name) (looks_at name) (chooses_at name)
keeps (OfPool number) = keeps_history PoolServes PoolLooks ChoosesNone pool_quiet pool_stays
keeps (OfRescuer dev) = keeps_history ListServes ListLooks ChoosesNone list_quiet list_stays
keeps (OfDisk dev) = keeps_history DiskServes DiskLooks DiskChooses disk_quiet disk_stays
keeps (OfBook writer) = keeps_history BookServes BookLooks ChoosesNone book_quiet book_stays
keeps OfTally = keeps_history TallyServes TallyLooks ChoosesNone tally_quiet tally_stays
keeps OfNone = keeps_history (serves_at OfNone) (looks_at OfNone) (chooses_at OfNone) (λ old new asked reply looks. absurd looks) (λ old new asked reply serves none. absurd serves)

pub map_there : {X Y : Type 0} (f : X → Y) (xs : List X) (x : X) → Contains xs x → Contains (map f xs) (f x)
map_there f xs x there =
    let p = split_at xs x there in
    subst (λ l. Contains l (f x)) (sym (ap (map f) p.is ∙ map-append f p.before (x ∷ p.after)))
    (Contains-append_right (map f p.before) (f x ∷ map f p.after) (f x) (first_there (f x) (map f p.after)))

ticket_there : (calls : List Call) (call : Call) (n : ℕ) → Contains calls call → call.told.drawn ≡ Some n → Contains (tickets_in calls) n
ticket_there calls call n there is =
    let p = split_at calls call there in
    subst (λ l. Contains l n)
    (sym (ap tickets_in p.is ∙ filter_map-append (λ (c : Call). c.told.drawn) p.before (call ∷ p.after) ∙ ap (λ o. tickets_in p.before ++ cons_option o (tickets_in p.after)) is))
    (Contains-append_right (tickets_in p.before) (n ∷ tickets_in p.after) n (first_there n (tickets_in p.after)))

pub ticket_from : (calls : List Call) (n : ℕ) → Contains (tickets_in calls) n → (call : Call) × Contains calls call × (call.told.drawn ≡ Some n)
ticket_from [] n (k, lt, at) = absurd (omega (arith, lt))
ticket_from (call ∷ calls) n there = by_ticket call.told.drawn refl there (λ inside. ticket_from calls n inside)
  where
    Found : List Call → Type 0
    Found list = (x : Call) × Contains list x × (x.told.drawn ≡ Some n)

    further : Found calls → Found (call ∷ calls)
    further (x, inside, is) = (x, Contains-append_right (call ∷ []) calls x inside, is)

    by_ticket : (ticket : Option ℕ) → call.told.drawn ≡ ticket → Contains (cons_option ticket (tickets_in calls)) n → (Contains (tickets_in calls) n → Found calls)
        → Found (call ∷ calls)
    by_ticket None t there rest = further (rest there)
    by_ticket (Some m) t (zero, lt, at) rest = (call, first_there call calls, t ∙ ap Some at)
    by_ticket (Some m) t (suc k, lt, at) rest = further (rest (k, omega (arith, lt), at))

pub flat_there : {X Y : Type 0} (f : X → List Y) (xs : List X) (i : ℕ) (x : X) (y : Y) → slice_get xs i ≡ Some x → Contains (f x) y → Contains (flat_map f xs) y
flat_there {X} {Y} f xs i x y at there = at_all (λ z. Contains (f z) y → Contains (flat_map f xs) y) xs i x (every xs) at there
  where
    every : (xs : List X) → All (λ z. Contains (f z) y → Contains (flat_map f xs) y) xs
    every [] = All-nil (λ z. Contains (f z) y → Contains (flat_map f []) y)
    every (z ∷ zs) =
        All-cons (λ w. Contains (f w) y → Contains (flat_map f (z ∷ zs)) y) z zs (λ there. Contains-append_left (f z) (flat_map f zs) y there)
        (All-weaker (λ w. Contains (f w) y → Contains (flat_map f zs) y) (λ w. Contains (f w) y → Contains (flat_map f (z ∷ zs)) y)
        (λ w h there. Contains-append_right (f z) (flat_map f zs) y (h there)) zs (every zs))

pub map_from : {X Y : Type 0} (f : X → Y) (xs : List X) (y : Y) → Contains (map f xs) y → (x : X) × Contains xs x × (f x ≡ y)
map_from f [] y (k, lt, at) = absurd (omega (arith, lt))
map_from f (x ∷ xs) y (zero, lt, at) = (x, first_there x xs, at)
map_from f (x ∷ xs) y (suc k, lt, at) = let rest = map_from f xs y (k, omega (arith, lt), at) in (rest.0, Contains-append_right (x ∷ []) xs rest.0 rest.1, rest.2)

pub flat_all : {X Y : Type 0} (P : Y → Type 0) (f : X → List Y) (xs : List X) → ((i : ℕ) (x : X) → slice_get xs i ≡ Some x → All P (f x)) → All P (flat_map f xs)
flat_all P f [] each = All-nil P
flat_all P f (x ∷ xs) each = All-append P (f x) (flat_map f xs) (each 0 x refl) (flat_all P f xs (λ i y at. each (suc i) y at))

abbrev pub drawn_of : Returned → List Ticket
drawn_of task = drawn_by task.desk.pass

pub numbers_flat : (tasks : List Returned) → ticket_numbers (flat_map drawn_of tasks) ≡ flat_map (λ (task : Returned). ticket_numbers (drawn_of task)) tasks
numbers_flat [] = refl
numbers_flat (task ∷ tasks) =
    map-append (λ (t : Ticket). t.number) (drawn_of task) (flat_map drawn_of tasks) ∙ ap (λ l. ticket_numbers (drawn_of task) ++ l) (numbers_flat tasks)

pub pass_drew : (pass : Option PassState) (end : ℕ) (log : List Call) → HasPass pass end log → ticket_numbers (drawn_by pass) ≡ tickets_in log
pass_drew None end log has = absurd has
pass_drew (Some pass) end log has = has.drew

pass_saw : (pass : Option PassState) (end : ℕ) (log : List Call) → HasPass pass end log → All (λ (t : Ticket). IsSeenIn log t.seen) (drawn_by pass)
pass_saw None end log has = absurd has
pass_saw (Some pass) end log has = has.saw

pass_knows : (pass : Option PassState) (end : ℕ) (log : List Call) (call : Call) → HasPass pass end log → Contains log call → FoundNone call
    → (2 ^ 64 - 1 ≤ found_by pass) ⊎ IsSeenIn log (2 ^ 64 - 1)
pass_knows None end log call has there none = absurd has
pass_knows (Some pass) end log call has there none = All-contains (λ (call : Call). FoundNone call → KnowsLast pass log) log call has.last there none

-- tickets end with one of them, or where they began
end_is : (last end : ℕ) (calls : List Call) → TicketsRise last calls end → (end ≡ last) ⊎ ((call : Call) × Contains calls call × (call.told.drawn ≡ Some end))
end_is last end [] rises = inl (sym rises)
end_is last end (call ∷ calls) rises = by_ticket call.told.drawn refl (end_is (or_last last call.told.drawn) end calls rises.1)
  where
    by_ticket : (ticket : Option ℕ) → call.told.drawn ≡ ticket → (end ≡ or_last last ticket) ⊎ ((x : Call) × Contains calls x × (x.told.drawn ≡ Some end))
        → (end ≡ last) ⊎ ((x : Call) × Contains (call ∷ calls) x × (x.told.drawn ≡ Some end))
    by_ticket (Some n) t (inl is) = inr (call, first_there call calls, t ∙ ap Some (sym is))
    by_ticket None t (inl is) = inl is
    by_ticket ticket t (inr (x, there, is)) = inr (x, Contains-append_right (call ∷ []) calls x there, is)

module _ (set : Setup) (plain : Plain) (names : List Object) (history : Object → List Call) (left : (name : Object) → ThingState (ThingAt name)) (tasks : List Returned)
    (pass : PassState) (c : ClosesAs set plain names history left tasks pass) where
  pub drew_of : (place : ℕ) (task : Returned) → slice_get tasks place ≡ Some task → ticket_numbers (drawn_of task) ≡ tickets_in task.log
  drew_of place task at =
      let l = (logged set plain names history left tasks pass c place task at).0 in pass_drew task.desk.pass l.end task.log l.pass

  pub numbers_is : ticket_numbers pass.drawn ≡ flat_map (λ (task : Returned). ticket_numbers (drawn_of task)) tasks
  numbers_is = ap ticket_numbers c.drawn ∙ numbers_flat tasks

  pub ticket_drawn : (name : Object) (call : Call) (n : ℕ) → Contains (history name) call → call.told.drawn ≡ Some n → Contains (ticket_numbers pass.drawn) n
  ticket_drawn name call n there is =
      let o = owner set plain names history left tasks pass c name call there in
      subst (λ l. Contains l n) (sym numbers_is)
      (flat_there (λ (task : Returned). ticket_numbers (drawn_of task)) tasks o.place o.task n o.at
      (subst (λ l. Contains l n) (sym (drew_of o.place o.task o.at)) (ticket_there o.task.log call n o.there is)))

  note_drawn : (name : Object) (call : Call) → Contains (history name) call → (call.told.note ≡ 0) ⊎ Contains (ticket_numbers pass.drawn) call.told.note
  note_drawn name call there = by_two (end_is 0 p.here.note p.before ((keeps name).rises (unasked (opened_at plain name)) p.here p.before p.leads))
    where
      p : IsInPlace set plain names history left tasks pass c name call
      p = in_place set plain names history left tasks pass c name call there

      by_two : (p.here.note ≡ 0) ⊎ ((x : Call) × Contains p.before x × (x.told.drawn ≡ Some p.here.note)) → (call.told.note ≡ 0) ⊎ Contains (ticket_numbers pass.drawn) call.told.note
      by_two (inl none) = inl (p.answers.note ∙ none)
      by_two (inr (x, inside, is)) =
          inr (subst (λ n. Contains (ticket_numbers pass.drawn) n) (sym p.answers.note)
          (ticket_drawn name x p.here.note (subst (λ l. Contains l x) (sym p.is) (Contains-append_left p.before (call ∷ p.after) x inside)) is))

  seen_drawn : (place : ℕ) (task : Returned) → slice_get tasks place ≡ Some task → (n : ℕ) → IsSeenIn task.log n → (n ≡ 0) ⊎ Contains (ticket_numbers pass.drawn) n
  seen_drawn place task at n (inl none) = inl none
  seen_drawn place task at n (inr (call, there, inl ticket)) =
      inr (ticket_drawn (object_of call.asked) call n (kept set plain names history left tasks pass c place task at call there) ticket)
  seen_drawn place task at n (inr (call, there, inr note)) =
      subst (λ m. (m ≡ 0) ⊎ Contains (ticket_numbers pass.drawn) m) note (note_drawn (object_of call.asked) call (kept set plain names history left tasks pass c place task at call there))

  all_seen : All (λ (t : Ticket). (t.seen ≡ 0) ⊎ Contains (ticket_numbers pass.drawn) t.seen) pass.drawn
  all_seen = subst (All (λ (t : Ticket). (t.seen ≡ 0) ⊎ Contains (ticket_numbers pass.drawn) t.seen)) (sym c.drawn)
      (flat_all (λ (t : Ticket). (t.seen ≡ 0) ⊎ Contains (ticket_numbers pass.drawn) t.seen) drawn_of tasks
      (λ place task at. let l = (logged set plain names history left tasks pass c place task at).0 in
      All-weaker (λ (t : Ticket). IsSeenIn task.log t.seen) (λ (t : Ticket). (t.seen ≡ 0) ⊎ Contains (ticket_numbers pass.drawn) t.seen)
      (λ t h. seen_drawn place task at t.seen h) (drawn_of task) (pass_saw task.desk.pass l.end task.log l.pass)))

  one_there : (n : ℕ) → IsOneOf pass.drawn n → (n ≡ 0) ⊎ Contains (ticket_numbers pass.drawn) n
  one_there n (inl none) = inl none
  one_there n (inr (u, there, is)) = inr (subst (λ m. Contains (ticket_numbers pass.drawn) m) (sym is) (map_there (λ (t : Ticket). t.number) pass.drawn u there))

  behind : (ticket before : ℕ) → ticket ≡ before + 1 → (before ≡ 0) ⊎ Contains (ticket_numbers pass.drawn) before
      → (ticket ≡ 1) ⊎ ((other : ℕ) × Contains (ticket_numbers pass.drawn) other × (ticket ≡ other + 1))
  behind ticket before is (inl none) = inl (omega (arith, is, none))
  behind ticket before is (inr there) = inr (before, there, is)

  pub in_row : AreInRow (ticket_numbers pass.drawn)
  in_row ticket there = by_ticket (map_from (λ (t : Ticket). t.number) pass.drawn ticket there)
    where
      by_more : (t : Ticket) → Contains pass.drawn t → t.number ≡ ticket → IsOneMore pass.drawn t
          → (ticket ≡ 1) ⊎ ((other : ℕ) × Contains (ticket_numbers pass.drawn) other × (ticket ≡ other + 1))
      by_more t inside is (inl (before, one, more)) = behind ticket before (sym is ∙ more) (one_there before one)
      by_more t inside is (inr more) =
          behind ticket t.seen (sym is ∙ more) (All-contains (λ (t : Ticket). (t.seen ≡ 0) ⊎ Contains (ticket_numbers pass.drawn) t.seen) pass.drawn t all_seen inside)

      by_ticket : (t : Ticket) × Contains pass.drawn t × (t.number ≡ ticket) → (ticket ≡ 1) ⊎ ((other : ℕ) × Contains (ticket_numbers pass.drawn) other × (ticket ≡ other + 1))
      by_ticket (t, inside, is) = by_more t inside is (All-contains (IsOneMore pass.drawn) pass.drawn t (pass_one_more pass c.all.1 c.all.0) inside)

  -- where a call found no ticket, the last one was drawn
  known_last : 2 ^ 64 - 1 ≤ pass.known → Contains (ticket_numbers pass.drawn) (2 ^ 64 - 1)
  known_last le = by_two (one_there pass.known (pass_greatest pass c.all.1 c.all.0).0)
    where
      is : pass.known ≡ 2 ^ 64 - 1
      is = let fits = c.all.1.fits in omega (arith, fits, le)

      by_two : (pass.known ≡ 0) ⊎ Contains (ticket_numbers pass.drawn) pass.known → Contains (ticket_numbers pass.drawn) (2 ^ 64 - 1)
      by_two (inl none) = absurd (omega (arith, none, le))
      by_two (inr there) = subst (λ n. Contains (ticket_numbers pass.drawn) n) is there

  pub last_drawn : All (λ (task : Returned). found_by task.desk.pass ≤ pass.known) tasks → (name : Object) (call : Call) → Contains (history name) call → FoundNone call → Contains (ticket_numbers pass.drawn) (2 ^ 64 - 1)
  last_drawn found name call there none = by_two (pass_knows o.task.desk.pass l.end o.task.log call l.pass o.there none)
    where
      o : IsCallOfTask set plain names history left tasks pass c name call
      o = owner set plain names history left tasks pass c name call there

      l : IsLogged set o.task.first o.task.log o.task.task o.task.desk
      l = (logged set plain names history left tasks pass c o.place o.task o.at).0

      seen : (2 ^ 64 - 1 ≡ 0) ⊎ Contains (ticket_numbers pass.drawn) (2 ^ 64 - 1) → Contains (ticket_numbers pass.drawn) (2 ^ 64 - 1)
      seen (inl none) = absurd (omega (arith, none))
      seen (inr there) = there

      by_two : (2 ^ 64 - 1 ≤ found_by o.task.desk.pass) ⊎ IsSeenIn o.task.log (2 ^ 64 - 1) → Contains (ticket_numbers pass.drawn) (2 ^ 64 - 1)
      by_two (inl le) =
          let more = at_all (λ (task : Returned). found_by task.desk.pass ≤ pass.known) tasks o.place o.task found o.at in known_last (omega (arith, le, more))
      by_two (inr in_log) = seen (seen_drawn o.place o.task o.at (2 ^ 64 - 1) in_log)
