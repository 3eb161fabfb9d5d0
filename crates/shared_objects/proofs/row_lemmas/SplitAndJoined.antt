-- Seats that are split off and joined back keep their calls apart.
use Rattle.std.proofs.Common.{◌≡◌, get_or, ℕ, suc, ◌+◌, ◌≤◌, ◌<◌, List, [], ◌∷◌, ◌++◌, All, arith, refl, sym, ◌∙◌, ap, subst, length}
use Rattle.std.specs.List.{range_with_len}
use Rattle.std.specs.declared.snapshot.Snapshot.{Snapshot}
use Rattle.std.proofs.lemmas.Bool.{ltb-true, ltb-false}
use Rattle.std.proofs.lemmas.List.{length-append, get_or_append_left}
use Rattle.std.proofs.Math.Seq.{get_or-append_seam}
use Rattle.std.proofs.Math.Decide.{ℕ_discrete}
use Rattle.std.proofs.Math.Logic.{dite}
use Rattle.seat_lock.specs.declared.view.Entry.{Entry}
use Rattle.seat_lock.specs.declared.view.Known.{Known}
use Rattle.seat_lock.specs.declared.view.Rank.TheVariants.{First}
use Rattle.seat_lock.specs.History.{count, calls_by}
use Rattle.seat_lock.specs.Seats.{Calls, HasJoined, first_seat, new_seat, one_more, own, split_more, split_of}
use Rattle.seat_lock.proofs.Histories.{count_one}
use Rattle.shared_objects.specs.Joins.{HasTaken, IsNumbered, IsOfThese, CallsStayApart}
use Rattle.shared_objects.proofs.row_lemmas.SeatNumbers.{range_more, in_range, below_end, all_picked, none_picked, each_number_stays}

by_none : (number : ℕ) → count number (0 ∷ []) ≡ 0 → 0 < number
by_none number none = dite (ℕ_discrete number 0)
    (λ same. let one : count 0 (0 ∷ []) ≡ 1 = count_one 0 0 in let zero_of = subst (λ n. count n (0 ∷ []) ≡ 0) same none in absurd (omega (arith, one, zero_of)))
    (λ apart. omega (arith, apart))

module _ {T A R : Type 0} where
  pub opens : (start : Snapshot T) → HasTaken {T = T} {A = A} {R = R} 0 [] (first_seat start)
  opens start = record { rank = refl; joined = refl; numbers = refl; none = refl; each = λ place other lt. absurd (omega (arith, lt)) }

  pub splits : (split : ℕ) (others : List (Known T A R)) (first : Known T A R) → HasTaken split others first → HasTaken (split + 1) others (split_more first) × IsNumbered split (new_seat first)
  splits split others first taken = let n = ap split_of taken.rank in (
    record { rank = ap one_more taken.rank; joined = taken.joined; numbers = taken.numbers; none = taken.none; each = taken.each },
    record { rank = refl; joined = refl; number = ap (λ k. k + 1) n; numbers = ap (λ k. (k + 1) ∷ []) n },
  )

  module _ {D : Type 0} (answers : D → A → R → D → Type 0) where
    calls : (before : ℕ) (start : D) (seat : Known T A R) (asked : A) (told : R) (new : Known T A R) → IsNumbered before seat → Calls answers start seat asked told new → IsNumbered before new
    calls before start seat asked told new is called = record {
      rank = ap (λ (k : Known T A R). k.rank) called.seen ∙ is.rank;
      joined = ap (λ (k : Known T A R). k.joined) called.seen ∙ is.joined;
      number = ap (λ (k : Known T A R). k.number) called.seen ∙ is.number;
      numbers = ap (λ (k : Known T A R). k.numbers) called.seen ∙ is.numbers;
    }

  module _ (split : ℕ) (others : List (Known T A R)) (first other new : Known T A R) (taken : HasTaken split others first) (is : IsNumbered (length others) other) (joined : HasJoined first other new) where
    has : (k : ℕ) → k < length others + 1 → 0 < count k first.numbers
    has k lt = subst (λ ns. 0 < count k ns) (sym taken.numbers) (in_range 0 (length others + 1) k (omega arith) (omega (arith, lt)))

    stays : (k : ℕ) → k < length others + 1 → calls_by (k ∷ []) new.seen ≡ calls_by (k ∷ []) first.seen
    stays k lt = each_number_stays k first.numbers first.seen new.seen (has k lt) joined.mine

    theirs : calls_by ((length others + 1) ∷ []) new.seen ≡ own other
    theirs = subst (λ ns. calls_by ns new.seen ≡ calls_by ns other.seen) is.numbers joined.theirs.1 ∙ ap (λ ns. calls_by ns other.seen) (sym is.numbers)

    each : (place : ℕ) (d : Known T A R) → place < length others + 1 → calls_by ((place + 1) ∷ []) new.seen ≡ own (get_or (others ++ other ∷ []) place d)
    each place d lt = dite (ℕ_discrete place (length others))
        (λ same. subst (λ k. calls_by ((k + 1) ∷ []) new.seen ≡ own (get_or (others ++ other ∷ []) k d)) (sym same) (theirs ∙ ap own (sym (get_or-append_seam others other [] d))))
        (λ apart. let less : place < length others = omega (arith, lt, apart) in
        stays (place + 1) (omega (arith, less)) ∙ taken.each place d less ∙ ap own (sym (get_or_append_left others (other ∷ []) d place less)))

    pub joins : HasTaken split (others ++ other ∷ []) new
    joins =
        let long : length (others ++ other ∷ []) ≡ length others + 1 = length-append others (other ∷ []) in
        let more : new.joined ≡ first.joined + other.joined + 1 = ap (λ (k : Known T A R). k.joined) joined.joined in
        let was = taken.joined in
        let none = is.joined in
        let sum : first.numbers ++ other.numbers ≡ range_with_len 0 (suc (length others + 1)) =
        ap (λ ns. ns ++ other.numbers) taken.numbers ∙ ap (λ ns. range_with_len 0 (length others + 1) ++ ns) is.numbers ∙ range_more 0 (length others + 1) (length others + 1) (omega arith) in
        record {
          rank = ap (λ (k : Known T A R). k.rank) joined.joined ∙ taken.rank;
          joined = omega (arith, long, more, was, none);
          numbers = ap (λ (k : Known T A R). k.numbers) joined.joined ∙ sum ∙ ap (λ k. range_with_len 0 k) {x = suc (length others + 1)} {y = length (others ++ other ∷ []) + 1} (omega (arith, long));
          none = stays 0 (omega arith) ∙ taken.none;
          each = λ place d lt. each place d (omega (arith, lt, long));
        }

  all_of : (others : List (Known T A R)) (first : Known T A R) → HasTaken (length others) others first → own first ≡ first.seen
      → All (λ (call : Entry A R). (0 < call.by) × (call.by ≤ length others)) first.seen
  all_of others first taken whole k call lt =
      let e : Entry A R = get_or first.seen k call in
      let mine = ltb-true 0 (count e.by first.numbers) (all_picked (λ (c : Entry A R). _) first.seen whole k call lt) in
      let some : 0 < count e.by (range_with_len 0 (length others + 1)) = subst (λ ns. 0 < count e.by ns) taken.numbers mine in
      let below = below_end (length others + 1) e.by some in
      let none = ltb-false 0 (count e.by (0 ∷ [])) (none_picked (λ (c : Entry A R). _) first.seen taken.none k call lt) in
      (by_none e.by (omega (arith, none)), omega (arith, below))

  ends : (others : List (Known T A R)) (first : Known T A R) → HasTaken (length others) others first
      → (first.rank ≡ First first.joined) × (own first ≡ first.seen → IsOfThese others first.seen)
  ends others first taken = (taken.rank ∙ ap First (sym taken.joined), λ whole. record { all = all_of others first taken whole; none = taken.none; each = taken.each })

pub stay_apart : (T : Type 0) {D A R : Type 0} (answers : D → A → R → D → Type 0) → CallsStayApart T answers
stay_apart T answers = record { opens = opens; splits = splits; calls = calls answers; joins = joins; ends = ends }
