-- What first seats show of the seats of tasks that were joined into them, task by task.
use Rattle.std.specs.Prelude.{◌≡◌, ◌<◌, ◌≤◌, ℕ, List, All, map, length, slice_index_or, Option, Some, None}
use Rattle.std.specs.List.{flat_map}
use Rattle.seat_lock.specs.Seats.{SeatState}
use Rattle.tick_clock.specs.declared.ticking.PassRank.TheVariants as pass_rank
use Rattle.tick_clock.specs.Tickets.{PassState, ShowsTickets}
use Rattle.shared_objects.specs.declared.locks.Locks.{Locks}
use Rattle.shared_objects.specs.declared.seats.TaskSeats.{TaskSeats}
use Rattle.shared_objects.specs.Joins.{HasTaken}
use Rattle.shared_objects.specs.Passes.{drawn_by, found_by}

-- into each first seat of a row, those at its place were joined of these rows
abbrev pub AreTaken : {K T A R : Type 0} → ℕ → List (List (K × SeatState T A R)) → List (K × SeatState T A R) → Type 0
AreTaken {K = K} {T = T} {A = A} {R = R} split rows firsts = (place : ℕ) (seat : K × SeatState T A R) → place < length firsts
    → HasTaken split (map (λ (row : List (K × SeatState T A R)). (slice_index_or row place seat).1.known) rows) (slice_index_or firsts place seat).1.known

-- the first pass has the tickets of these, has found what they have, and so many were split off from it
pub record PassHasTaken (split : ℕ) (all : List TaskSeats) (pass : PassState) : Type 0 where
  pub rank : pass.rank ≡ pass_rank.First split
  pub joined : pass.joined ≡ length all
  pub drawn : pass.drawn ≡ flat_map (λ (seats : TaskSeats). drawn_by seats.pass) all
  pub found : All (λ (seats : TaskSeats). found_by seats.pass ≤ pass.known) all
  pub shows : ShowsTickets pass

abbrev pub HasTakenPasses : ℕ → List TaskSeats → Option PassState → Type 0
HasTakenPasses split all None = ⊥
HasTakenPasses split all (Some pass) = PassHasTaken split all pass

-- Into the first seats, from each of which so many were split off, these tasks' seats were joined, in the order of tasks.
pub record TakenHold (split : ℕ) (locks : Locks) (all : List TaskSeats) (firsts : TaskSeats) : Type 0 where
  pub bios : AreTaken split (map (λ (seats : TaskSeats). seats.bios.items) all) firsts.bios.items
  pub vecs : HasTaken split (map (λ (seats : TaskSeats). seats.vecs.known) all) firsts.vecs.known
  pub records : AreTaken split (map (λ (seats : TaskSeats). seats.records.items) all) firsts.records.items
  pub lists : AreTaken split (map (λ (seats : TaskSeats). seats.lists.items) all) firsts.lists.items
  pub disks : AreTaken split (map (λ (seats : TaskSeats). seats.disks.items) all) firsts.disks.items
  pub books : AreTaken split (map (λ (seats : TaskSeats). seats.books.items) all) firsts.books.items
  pub tally : HasTaken split (map (λ (seats : TaskSeats). seats.tally.known) all) firsts.tally.known
  pub passes : HasTakenPasses split all firsts.pass
