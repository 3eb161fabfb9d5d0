-- What a lock's first seat shows of the seats that were split off from it and joined back.
use Rattle.std.specs.Prelude.{◌≡◌, ◌+◌, ◌<◌, ◌≤◌, ℕ, List, [], ◌∷◌, ◌++◌, All, slice_index_or, length}
use Rattle.std.specs.List.{range_with_len}
use Rattle.std.specs.declared.snapshot.Snapshot.{Snapshot}
use Rattle.seat_lock.specs.declared.view.Entry.{Entry}
use Rattle.seat_lock.specs.declared.view.Known.{Known}
use Rattle.seat_lock.specs.declared.view.Rank.TheVariants.{First, Other}
use Rattle.seat_lock.specs.History.{calls_by}
use Rattle.seat_lock.specs.Seats.{Calls, HasJoined, first_seat, new_seat, own, split_more}

module _ {T A R : Type 0} where
  -- A seat that was split off behind this many others, whatever it has called since.
  pub record IsNumbered (before : ℕ) (seat : Known T A R) : Type 0 where
    pub rank : seat.rank ≡ Other
    pub joined : seat.joined ≡ 0
    pub number : seat.number ≡ before + 1
    pub numbers : seat.numbers ≡ (before + 1) ∷ []

  -- A first seat from which this many seats were split off, and into which these were joined, in the order of their numbers, each as it was
  -- then. It has made no call, and shows those of each of them.
  pub record HasTaken (split : ℕ) (others : List (Known T A R)) (first : Known T A R) : Type 0 where
    pub rank : first.rank ≡ First split
    pub joined : first.joined ≡ length others
    pub numbers : first.numbers ≡ range_with_len 0 (length others + 1)
    pub none : calls_by (0 ∷ []) first.seen ≡ []
    pub each : (place : ℕ) (other : Known T A R) → place < length others
        → calls_by ((place + 1) ∷ []) first.seen ≡ own (slice_index_or others place other)

  -- A history all of whose calls are of these seats, which have the numbers from 1 on: each one's calls in it are those that it showed.
  pub record IsOfThese (others : List (Known T A R)) (history : List (Entry A R)) : Type 0 where
    pub all : All (λ (call : Entry A R). (0 < call.by) × (call.by ≤ length others)) history
    pub none : calls_by (0 ∷ []) history ≡ []
    pub each : (place : ℕ) (other : Known T A R) → place < length others
        → calls_by ((place + 1) ∷ []) history ≡ own (slice_index_or others place other)

module _ (T : Type 0) {D A R : Type 0} (answers : D → A → R → D → Type 0) where
  -- The calls of seats that are split off, make their calls and are joined back stay apart.
  pub record CallsStayApart : Type 0 where
    pub opens : (start : Snapshot T) → HasTaken {T = T} {A = A} {R = R} 0 [] (first_seat start)
    pub splits : (split : ℕ) (others : List (Known T A R)) (first : Known T A R) → HasTaken split others first
        → HasTaken (split + 1) others (split_more first) × IsNumbered split (new_seat first)
    pub calls : (before : ℕ) (start : D) (seat : Known T A R) (asked : A) (told : R) (new : Known T A R) → IsNumbered before seat
        → Calls answers start seat asked told new → IsNumbered before new
    pub joins : (split : ℕ) (others : List (Known T A R)) (first other new : Known T A R) → HasTaken split others first
        → IsNumbered (length others) other → HasJoined first other new → HasTaken split (others ++ other ∷ []) new
    pub ends : (others : List (Known T A R)) (first : Known T A R) → HasTaken (length others) others first
        → (first.rank ≡ First first.joined) × (own first ≡ first.seen → IsOfThese others first.seen)
