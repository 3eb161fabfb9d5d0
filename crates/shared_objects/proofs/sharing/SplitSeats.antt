-- Seats that are split off from first ones.
use Rattle.std.proofs.Common.{◌≡◌, ◌+◌, ◌<◌, ◌==◌, cond, ℕ, Bool, true, false, List, [], ◌∷◌, All, length, get_or, Option, Some, None, arith, refl, sym, ap, subst, ◌∙◌}
use Rattle.atomic_table.specs.Seated.{TableId}
use Rattle.tick_clock.specs.Tickets.{PassState, fresh_pass, one_more_pass}
use Rattle.seat_lock.specs.declared.view.Known.{Known}
use Rattle.seat_lock.specs.declared.view.Rank.TheVariants.{First}
use Rattle.seat_lock.specs.Seats.{LockId, SeatState, IsOfLock, is_first, new_seat, own, split_more, split_of}
use Rattle.shared_objects.specs.Holding.{IsSeatOf}
use Rattle.shared_objects.specs.Joins.{HasTaken, IsNumbered}
use Rattle.shared_objects.specs.Opening.{IsFirstAt, IsNewAt, IsNewOf, first_pass_of}
use Rattle.shared_objects.specs.Rows.{Abreast, AreChanged, IsAt, CanSplit, IsFirstOf, IsSplit}
use Rattle.shared_objects.proofs.row_lemmas.AbreastRows.{some_of, weaker_two}
use Rattle.shared_objects.proofs.row_lemmas.SplitAndJoined.{splits}

module _ {T A R : Type 0} (n : ℕ) where
  -- one more can be split off
  pub splits_one : (first : Known T A R) → n < 65535 → HasTaken n [] first → (is_first first.rank ≡ true) × (split_of first.rank < 65535)
  splits_one first few taken = (ap is_first taken.rank, subst (λ k. k < 65535) (sym (ap split_of taken.rank)) few)

  module _ (lock : LockId T) (old : SeatState T A R) (taken : HasTaken n [] old.known) where
    pub first_now : (new : SeatState T A R) → IsOfLock lock new → new.known ≡ split_more old.known → IsFirstOf (n + 1) lock new
    first_now new of is = (of, subst (λ (k : Known T A R). HasTaken (n + 1) [] k) (sym is) (splits n [] old.known taken).0)

    pub seat_now : (seat : SeatState T A R) → IsOfLock lock seat → seat.known ≡ new_seat old.known → own seat.known ≡ [] → IsNewOf n lock seat
    seat_now seat of is none =
        (record { of = of; numbered = subst (λ (k : Known T A R). IsNumbered n k) (sym is) (splits n [] old.known taken).1 }, none)

module _ {K T A R : Type 0} (n : ℕ) (locks : List (K × LockId T)) (firsts : List (K × SeatState T A R)) (are : Abreast (IsFirstAt n) locks firsts) where
  pub split_of_locks : Abreast IsAt locks firsts
  split_of_locks = weaker_two (IsFirstAt n) IsAt (λ lock first is. (is.0, is.1.0)) locks firsts are

  pub can_split : n < 65535 → All CanSplit firsts
  can_split few = λ k d lt.
      let l = are.lens in
      let lock = some_of locks k (omega (arith, lt, l)) in
      splits_one n (get_or firsts k d).1.known few (are.each k lock d (omega (arith, lt, l))).1.1

  module _ (rows : List (K × LockId T)) (rows_are : rows ≡ locks) (seats news : List (K × SeatState T A R)) (split : (length seats ≡ length rows) × AreChanged IsSplit rows firsts seats news) where
    lens : length seats ≡ length locks
    lens = split.0 ∙ ap length rows_are

    changed : AreChanged IsSplit locks firsts seats news
    changed = subst (λ r. AreChanged IsSplit r firsts seats news) rows_are split.1

    pub firsts_now : Abreast (IsFirstAt (n + 1)) locks news
    firsts_now = let l = are.lens in let m = changed.lens in record {
      lens = omega (arith, l, m);
      each = λ k lock new lt.
          let seat = some_of seats k (omega (arith, lt, lens)) in
          let d = changed.done k lock new seat new (omega (arith, lt, lens)) in
          (d.at.0.0, first_now n (get_or locks k lock).1 (get_or firsts k new).1 (are.each k lock new lt).1.1 (get_or news k new).1 d.at.0.1 d.seats.0);
    }

    pub seats_now : Abreast (IsNewAt n) locks seats
    seats_now = let l = are.lens in record {
      lens = lens;
      each = λ k lock seat lt.
          let old = some_of firsts k (omega (arith, lt, l)) in
          let d = changed.done k lock old seat old (omega (arith, lt, lens)) in
          (d.at.1.0, seat_now n (get_or locks k lock).1 (get_or firsts k old).1 (are.each k lock old lt).1.1 (get_or seats k seat).1 d.at.1.1 d.seats.1 d.calls);
    }

-- so it is with the pass
module _ (clock : TableId) (n : ℕ) (held : Option PassState) (first : PassState) (was : held ≡ Some (first_pass_of clock n)) (is : held ≡ Some first) where
  first_is : first ≡ first_pass_of clock n
  first_is = same first (first_pass_of clock n) (sym is ∙ was)
    where
      same : (a b : PassState) → Some a ≡ Some b → a ≡ b
      same a b e = cc

  pub pass_more : (new : PassState) → new ≡ record first { rank = one_more_pass first.rank } → Some new ≡ Some (first_pass_of clock (n + 1))
  pass_more new e = ap Some (e ∙ ap (λ (p : PassState). record p { rank = one_more_pass p.rank }) first_is)

  pub pass_fresh : (result : PassState) → result ≡ fresh_pass first → Some result ≡ Some (fresh_pass (first_pass_of clock n))
  pass_fresh result e = ap Some (e ∙ ap fresh_pass first_is)
