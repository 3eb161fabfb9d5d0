-- A task's seats that are joined into the first ones.
use Rattle.std.proofs.Common.{◌≡◌, ◌+◌, ◌≤◌, ◌<◌, ℕ, Bool, List, [], ◌∷◌, ◌++◌, All, arith, refl, sym, ◌∙◌, ap, subst, length, map, get_or, append-nil, vec_capacity, Option, None, Some}
use Rattle.std.specs.Global.{Vec}
use Rattle.std.specs.Option.{is_some}
use Rattle.std.specs.Prelude.{IfSome}
use Rattle.std.specs.List.{flat_map}
use Rattle.std.proofs.Math.Decide.{ℕ_discrete}
use Rattle.std.proofs.Math.Logic.{dite}
use Rattle.std.proofs.lemmas.Grind.{flat_map-append}
use Rattle.std.proofs.lemmas.List.{length-append, length-map, map-append}
use Rattle.std.proofs.lemmas.List.Elements.{All-append, All-cons, All-nil}
use Rattle.seat_lock.specs.declared.view.Known.{Known}
use Rattle.seat_lock.specs.declared.view.Rank.TheVariants.{First}
use Rattle.seat_lock.specs.Seats.{LockId, SeatState, is_first}
use Rattle.tick_clock.specs.Tickets.{PassState}
use Rattle.shared_objects.specs.Holding.{AreSeatsOf, SeatsHold}
use Rattle.shared_objects.specs.Joining.{ArePutAway, HasJoinedPass, HasJoinedSeats, HaveNoted, IsPutAway, IsWithNoted, MayGrow}
use Rattle.shared_objects.specs.Joins.{HasTaken, IsNumbered}
use Rattle.shared_objects.specs.Passes.{drawn_by, found_by}
use Rattle.shared_objects.specs.Rans.{IsOtherPass, RanHolds, RanState}
use Rattle.shared_objects.specs.Rows.{Abreast, AreChanged, CanClose, IsAt, IsJoined, IsOther}
use Rattle.shared_objects.specs.Shared.{FirstsHold, IsRoomForTrace}
use Rattle.shared_objects.specs.Taking.{AreTaken, HasTakenPasses, TakenHold}
use Rattle.shared_objects.specs.declared.closed.ClosedTask.{ClosedTask}
use Rattle.shared_objects.specs.declared.locks.Locks.{Locks}
use Rattle.shared_objects.specs.declared.noted.Noted.{Noted}
use Rattle.shared_objects.specs.declared.seats.TaskSeats.{TaskSeats}
use Rattle.shared_objects.proofs.row_lemmas.GrowingRows.{at_end, before, longer}
use Rattle.shared_objects.proofs.row_lemmas.AbreastRows.{some_of}
use Rattle.shared_objects.proofs.row_lemmas.SplitAndJoined.{joins}

module _ {K T A R : Type 0} where
  -- a task's seats are none of the first ones
  pub others_of : (number : ℕ) (locks : List (K × LockId T)) (seats : List (K × SeatState T A R)) → AreSeatsOf number locks seats → All IsOther seats
  others_of number locks seats are k d lt =
      let l = are.lens in let lock = some_of locks k (omega (arith, lt, l)) in
      ap is_first (are.each k lock d (omega (arith, lt, l))).1.numbered.rank

  -- once those of a task are joined into the first ones, these have taken one more row
  pub taken_row : (split number : ℕ) (locks : List (K × LockId T)) (rows : List (List (K × SeatState T A R))) (olds others news : List (K × SeatState T A R))
      → AreTaken split rows olds → number ≡ length rows → Abreast IsAt locks olds → AreSeatsOf number locks others → AreChanged IsJoined locks olds others news
      → AreTaken split (rows ++ others ∷ []) news
  taken_row split number locks rows olds others news taken many at are changed place seat lt =
      let l = at.lens in let m = are.lens in let n = changed.lens in
      let here : place < length olds = omega (arith, lt, n) in
      let known_in : List (K × SeatState T A R) → Known T A R = λ (row : List (K × SeatState T A R)). (get_or row place seat).1.known in
      let lock = some_of locks place (omega (arith, here, l)) in
      let is = are.each place lock seat (omega (arith, here, l)) in
      let numbered : IsNumbered (length (map known_in rows)) (get_or others place seat).1.known =
      subst (λ k. IsNumbered k (get_or others place seat).1.known) (many ∙ sym (length-map rows known_in)) is.1.numbered in
      let joined = changed.done place lock seat seat seat (omega (arith, here, l, m)) in
      subst (λ knowns. HasTaken split knowns (get_or news place seat).1.known) (sym (map-append known_in rows (others ∷ [])))
      (joins split (map known_in rows) (get_or olds place seat).1.known (get_or others place seat).1.known (get_or news place seat).1.known (taken place seat here) numbered joined.joined)

  -- where as many were joined as were split off, each can be closed
  pub row_can_close : (rows : List (List (K × SeatState T A R))) (firsts : List (K × SeatState T A R)) → AreTaken (length rows) rows firsts → All CanClose firsts
  row_can_close rows firsts taken k seat lt =
      let t = taken k seat lt in t.rank ∙ ap First (sym (t.joined ∙ length-map rows (λ (row : List (K × SeatState T A R)). (get_or row k seat).1.known)))

pub one_can_close : {T A R : Type 0} (others : List (Known T A R)) (first : SeatState T A R) → HasTaken (length others) others first.known → first.known.rank ≡ First first.known.joined
one_can_close others first taken = taken.rank ∙ ap First (sym taken.joined)

-- what was done with a row, by another name of it
pub of_row : {L X Y : Type 0} {P : L → X → Y → X → Type 0} {row locks : List L} {olds news : List X} {others : List Y} → row ≡ locks → AreChanged P row olds others news → AreChanged P locks olds others news
of_row {P = P} {olds = olds} {news = news} {others = others} same changed = subst (λ row. AreChanged P row olds others news) same changed

-- what holds of each of a list, and of one more
pub all_and : {X : Type 0} (Q : X → Type 0) (xs : List X) (x : X) → All Q xs → Q x → All Q (xs ++ x ∷ [])
all_and Q xs x are is = All-append Q xs (x ∷ []) are (All-cons Q x [] is (All-nil Q))

-- two rows grow by an entry
pub two_more : {X Y : Type 0} (P : X → Y → Type 0) (xs : List X) (ys : List Y) (x : X) (y : Y) → Abreast P xs ys → P x y → Abreast P (xs ++ x ∷ []) (ys ++ y ∷ [])
two_more {X = X} {Y = Y} P xs ys x y are is =
    let l = longer xs x in let m = longer ys y in let e = are.lens in
    record { lens = omega (arith, l, m, e); each = λ place a b lt. at place a b (omega (arith, lt, l)) }
  where
    at : (place : ℕ) (a : X) (b : Y) → place < length xs + 1 → P (get_or (xs ++ x ∷ []) place a) (get_or (ys ++ y ∷ []) place b)
    at place a b lt = let e = are.lens in dite (ℕ_discrete place (length xs))
        (λ same. subst (λ z. P (get_or (xs ++ x ∷ []) place a) z) (sym (at_end ys y place b (omega (arith, same, e))))
        (subst (λ z. P z y) (sym (at_end xs x place a same)) is))
        (λ apart. subst (λ z. P (get_or (xs ++ x ∷ []) place a) z) (sym (before ys y place b (omega (arith, lt, apart, e))))
        (subst (λ z. P z (get_or ys place b)) (sym (before xs x place a (omega (arith, lt, apart)))) (are.each place a b (omega (arith, lt, apart)))))

-- the first pass, with one more
taken_pass : (split : ℕ) (all : List TaskSeats) (seats : TaskSeats) (old other new : Option PassState) → seats.pass ≡ other → HasTakenPasses split all old → IsOtherPass other
    → HasJoinedPass old other new → HasTakenPasses split (all ++ seats ∷ []) new
taken_pass split all seats (Some old) (Some other) (Some new) is taken apart joined =
    let many : new.joined ≡ old.joined + other.joined + 1 = ap (λ (p : PassState). p.joined) joined.both in
    let none = apart.1 in let was = taken.joined in let long = length-append all (seats ∷ []) in
    let found = joined.found in record {
      rank = ap (λ (p : PassState). p.rank) joined.both ∙ taken.rank;
      joined = omega (arith, many, none, was, long);
      drawn = ap (λ (p : PassState). p.drawn) joined.both ∙ ap (λ ts. ts ++ other.drawn) taken.drawn
          ∙ ap (λ ts. flat_map (λ (s : TaskSeats). drawn_by s.pass) all ++ ts) (sym (ap drawn_by is))
          ∙ ap (λ ts. flat_map (λ (s : TaskSeats). drawn_by s.pass) all ++ ts) (sym (one (drawn_by seats.pass)))
          ∙ sym (flat_map-append (λ (s : TaskSeats). drawn_by s.pass) all (seats ∷ []));
      found = all_and (λ (s : TaskSeats). found_by s.pass ≤ new.known) all seats
          (λ k d lt. let below = taken.found k d lt in omega (arith, below, found))
          (let here = ap found_by is in omega (arith, here, found));
      shows = joined.shows;
    }
  where
    one : {X : Type 0} (xs : List X) → xs ++ [] ≡ xs
    one xs = append-nil xs
taken_pass split all seats None other new is taken apart joined = absurd taken
taken_pass split all seats (Some old) None new is taken apart joined = absurd apart
taken_pass split all seats (Some old) (Some other) None is taken apart joined = absurd joined

-- the first seats have taken those of one more task
pub taken_more : (split : ℕ) (locks : Locks) (all : List TaskSeats) (old seats new : TaskSeats) → TakenHold split locks all old → seats.number ≡ length all
    → FirstsHold locks old → SeatsHold locks seats → IsOtherPass seats.pass → HasJoinedSeats locks old seats new → TakenHold split locks (all ++ seats ∷ []) new
taken_more split locks all old seats new taken number firsts held apart joined = record {
  bios = subst (λ rows. AreTaken split rows new.bios.items) (sym (map-append (λ (s : TaskSeats). s.bios.items) all (seats ∷ [])))
      (taken_row split seats.number locks.bios.items (map (λ (s : TaskSeats). s.bios.items) all) old.bios.items seats.bios.items new.bios.items taken.bios (many (λ (s : TaskSeats). s.bios.items)) firsts.bios held.bios joined.bios);
  vecs = subst (λ knowns. HasTaken split knowns new.vecs.known) (sym (map-append (λ (s : TaskSeats). s.vecs.known) all (seats ∷ [])))
      (joins split (map (λ (s : TaskSeats). s.vecs.known) all) old.vecs.known seats.vecs.known new.vecs.known taken.vecs
      (subst (λ k. IsNumbered k seats.vecs.known) (many (λ (s : TaskSeats). s.vecs.known)) held.vecs.numbered) joined.vecs);
  records = subst (λ rows. AreTaken split rows new.records.items) (sym (map-append (λ (s : TaskSeats). s.records.items) all (seats ∷ [])))
      (taken_row split seats.number locks.records.items (map (λ (s : TaskSeats). s.records.items) all) old.records.items seats.records.items new.records.items taken.records (many (λ (s : TaskSeats). s.records.items)) firsts.records held.records joined.records);
  lists = subst (λ rows. AreTaken split rows new.lists.items) (sym (map-append (λ (s : TaskSeats). s.lists.items) all (seats ∷ [])))
      (taken_row split seats.number locks.lists.items (map (λ (s : TaskSeats). s.lists.items) all) old.lists.items seats.lists.items new.lists.items taken.lists (many (λ (s : TaskSeats). s.lists.items)) firsts.lists held.lists joined.lists);
  disks = subst (λ rows. AreTaken split rows new.disks.items) (sym (map-append (λ (s : TaskSeats). s.disks.items) all (seats ∷ [])))
      (taken_row split seats.number locks.disks.items (map (λ (s : TaskSeats). s.disks.items) all) old.disks.items seats.disks.items new.disks.items taken.disks (many (λ (s : TaskSeats). s.disks.items)) firsts.disks held.disks joined.disks);
  books = subst (λ rows. AreTaken split rows new.books.items) (sym (map-append (λ (s : TaskSeats). s.books.items) all (seats ∷ [])))
      (taken_row split seats.number locks.books.items (map (λ (s : TaskSeats). s.books.items) all) old.books.items seats.books.items new.books.items taken.books (many (λ (s : TaskSeats). s.books.items)) firsts.books held.books joined.books);
  tally = subst (λ knowns. HasTaken split knowns new.tally.known) (sym (map-append (λ (s : TaskSeats). s.tally.known) all (seats ∷ [])))
      (joins split (map (λ (s : TaskSeats). s.tally.known) all) old.tally.known seats.tally.known new.tally.known taken.tally
      (subst (λ k. IsNumbered k seats.tally.known) (many (λ (s : TaskSeats). s.tally.known)) held.tally.numbered) joined.tally);
  passes = taken_pass split all seats old.pass seats.pass new.pass refl taken.passes apart joined.pass;
}
  where
    many : {X : Type 0} (f : TaskSeats → X) → seats.number ≡ length (map f all)
    many f = number ∙ sym (length-map all f)

-- no task was put away yet, and none has noted anything
none_noted : (wanted : Bool) (count : ℕ) (trace : Option (Vec Noted)) → IsRoomForTrace wanted count trace → HaveNoted [] trace
none_noted wanted count None room = tt
none_noted wanted count (Some list) room = record { lens = ap length room.1.0; each = λ place x y lt. absurd (omega (arith, lt)) }

pub none_put_away : (split : ℕ) (locks : Locks) (firsts : TaskSeats) (count : ℕ) (trace : Option (Vec Noted)) → TakenHold split locks [] firsts → FirstsHold locks firsts
    → IsRoomForTrace locks.trace count trace → ArePutAway split locks [] firsts [] trace
none_put_away split locks firsts count trace taken hold room = record {
  rans = [];
  are = refl;
  hold = λ k d lt. absurd (omega (arith, lt));
  homes = λ k d lt. absurd (omega (arith, lt));
  taken = taken;
  firsts_hold = hold;
  tasks = record { lens = refl; each = λ place x y lt. absurd (omega (arith, lt)) };
  traced = room.0;
  noted = none_noted locks.trace count trace room;
}

-- a trace that has room for so many entries
abbrev pub Fits : ℕ → Option (Vec Noted) → Type 0
Fits count trace = IfSome trace (λ (list : Vec Noted). count ≤ vec_capacity list)

pub fits : (wanted : Bool) (count : ℕ) (trace : Option (Vec Noted)) → IsRoomForTrace wanted count trace → Fits count trace
fits wanted count None room = tt
fits wanted count (Some list) room = room.1.1

may_grow : (count : ℕ) (rans : List RanState) (trace : Option (Vec Noted)) → Fits count trace → HaveNoted rans trace → length rans < count → MayGrow trace
may_grow count rans None room are lt = tt
may_grow count rans (Some list) room are lt = let l = are.lens in omega (arith, room, l, lt)

-- behind one more entry
pub fits_still : (count : ℕ) (old : Option (Vec Noted)) (noted : Option Noted) (new : Option (Vec Noted)) → IsWithNoted old noted new → Fits count old → Fits count new
fits_still count None noted None is room = tt
fits_still count None noted (Some new) is room = absurd is
fits_still count (Some old) None new is room = absurd is
fits_still count (Some old) (Some noted) None is room = absurd is
fits_still count (Some old) (Some noted) (Some new) is room = let more = is.1 in omega (arith, more, room)

some_still : (old : Option (Vec Noted)) (noted : Option Noted) (new : Option (Vec Noted)) → IsWithNoted old noted new → is_some new ≡ is_some old
some_still None noted None is = refl
some_still None noted (Some new) is = absurd is
some_still (Some old) None new is = absurd is
some_still (Some old) (Some noted) None is = absurd is
some_still (Some old) (Some noted) (Some new) is = refl

one_noted : (rans : List RanState) (ran : RanState) (old : Option (Vec Noted)) (noted : Option Noted) (new : Option (Vec Noted)) → HaveNoted rans old → noted ≡ ran.noted
    → IsWithNoted old noted new → HaveNoted (rans ++ ran ∷ []) new
one_noted rans ran None noted None have same is = tt
one_noted rans ran None noted (Some new) have same is = absurd is
one_noted rans ran (Some old) None new have same is = absurd is
one_noted rans ran (Some old) (Some noted) None have same is = absurd is
one_noted rans ran (Some old) (Some noted) (Some new) have same is =
    subst (Abreast (λ (r : RanState) (n : Noted). r.noted ≡ Some n) (rans ++ ran ∷ [])) (sym is.0)
    (two_more (λ (r : RanState) (n : Noted). r.noted ≡ Some n) rans old.items ran noted have (sym same))

module _ (split : ℕ) (locks : Locks) (slots : List (Option RanState)) (old : TaskSeats) (closed : List ClosedTask) (trace : Option (Vec Noted))
    (are : ArePutAway split locks slots old closed trace) where
  pub as_many : (length are.rans ≡ length slots) × (length closed ≡ length slots)
  as_many =
      let l = ap length are.are in let m = length-map are.rans (λ (ran : RanState). Some ran) in let n = are.tasks.lens in (omega (arith, l, m), omega (arith, l, m, n))

  -- a task has noted something where there is a trace, and that has room for it
  pub one_listed : (ran : RanState) (noted : Option Noted) → RanHolds ran → ran.home ≡ locks → noted ≡ ran.noted → is_some noted ≡ is_some trace
  one_listed ran noted holds home same = ap is_some same ∙ holds.listed ∙ ap (λ (h : Locks). h.trace) home ∙ sym are.traced

  pub one_fits : (count : ℕ) → Fits count trace → length slots < count → MayGrow trace
  one_fits count room lt = let l = as_many.0 in may_grow count are.rans trace room are.noted (omega (arith, l, lt))

  -- one more was put away
  pub one_put_away : (new : TaskSeats) (ran : RanState) (task : ClosedTask) (noted : Option Noted) (more : Option (Vec Noted)) → RanHolds ran → ran.home ≡ locks
      → ran.seats.number ≡ length slots → IsPutAway ran task → HasJoinedSeats locks old ran.seats new → FirstsHold locks new → noted ≡ ran.noted → IsWithNoted trace noted more
      → ArePutAway split locks (slots ++ Some ran ∷ []) new (closed ++ task ∷ []) more
  one_put_away new ran task noted more holds home number away joined firsts same adds =
      let seats_in : RanState → TaskSeats = λ (r : RanState). r.seats in
      let l = as_many.0 in let m = length-map are.rans seats_in in
      let held : SeatsHold locks ran.seats = subst (λ (h : Locks). SeatsHold h ran.seats) home holds.desk.seated in record {
        rans = are.rans ++ ran ∷ [];
        are = ap (λ (ss : List (Option RanState)). ss ++ Some ran ∷ []) are.are ∙ sym (map-append (λ (r : RanState). Some r) are.rans (ran ∷ []));
        hold = all_and RanHolds are.rans ran are.hold holds;
        homes = all_and (λ (r : RanState). r.home ≡ locks) are.rans ran are.homes home;
        taken = subst (λ all. TakenHold split locks all new) (sym (map-append seats_in are.rans (ran ∷ [])))
            (taken_more split locks (map seats_in are.rans) old ran.seats new are.taken (omega (arith, number, l, m)) are.firsts_hold held holds.pass joined);
        firsts_hold = firsts;
        tasks = two_more IsPutAway are.rans closed ran task are.tasks away;
        traced = some_still trace noted more adds ∙ are.traced;
        noted = one_noted are.rans ran trace noted more are.noted same adds;
      }
