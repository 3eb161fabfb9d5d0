-- What adds up in the lock of an object, at every moment at which the object is at home.
use Rattle.std.specs.Prelude.{◌≡◌, ◌+◌, ◌≤◌, ◌++◌, ℕ, List, [], ◌∷◌, length, sum, sum_by, count_by}
use Rattle.std.specs.List.{flat_map}
use Rattle.std.specs.Option.{is_some}
use Rattle.std.specs.declared.snapshot.Snapshot.{Snapshot}
use mathlib.Core.Option.{some}
use Rattle.atomic_table.specs.Table.{State}
use Rattle.seat_lock.specs.declared.view.View.{View}
use Rattle.seat_lock.specs.History.{Leads}
use Rattle.seat_lock.specs.Turning.{IsTurning}
use Rattle.mempool_core.specs.Facts.{AddsUp}
use Rattle.mempool_core.specs.Pool.{LedgerPool}
use Rattle.bio_records.specs.declared.bio.Pad.{Pad}
use Rattle.bio_records.specs.Items.{Item}
use Rattle.bio_records.specs.Rescue.{Rescue}
use Rattle.model_disks.specs.Disks.{DiskState}
use Rattle.bio_books.specs.Books.{BookState}
use Rattle.bio_books.specs.Links.{Made}
use Rattle.bio_books.specs.Drops.{Up, Top}
use Rattle.run_machine.specs.Objects.{TallyState}
use Rattle.run_machine.specs.Requests.{Request, Reply, Punt, Pop, Push, Complete, Link, Drop, Done, Did, Popped, Completed, LinkedTo, DroppedTo}
use Rattle.object_things.specs.Stamps.{Stamped, MarkState, ThingState, Told, thing_state}
use Rattle.object_things.specs.Histories.{Call}

module _ {O : Type 0} (answers : ThingState O → Request → Told → ThingState O → Type 0) (adds_up : O → List Call → O → Type 0) where
  -- Wherever a history is cut, the calls before the cut lead to a state of the object that adds up with them, and those behind it lead on from there.
  abbrev pub AddsUpThroughout : ThingState O → List Call → ThingState O → Type 0
  AddsUpThroughout old history new = (earlier later : List Call) → history ≡ earlier ++ later
      → (here : ThingState O) × Leads answers old earlier here × adds_up old.object earlier here.object × Leads answers here later new

module _ {O : Type 0} (mark : Stamped O → MarkState) (answers : ThingState O → Request → Told → ThingState O → Type 0) (adds_up : O → List Call → O → Type 0) where
  -- An object as it was locked, its history and the object as it is now add up: along each history, and throughout it; and so at every moment of its
  -- lock, which is seen by the rule of the lock's table, where the object is at home.
  pub record AddsUpAtHome : Type 0 where
    pub along : (old new : ThingState O) (history : List Call) → Leads answers old history new → adds_up old.object history new.object
    pub throughout : (old new : ThingState O) (history : List Call) → Leads answers old history new → AddsUpThroughout answers adds_up old history new
    pub at_home : (key : Snapshot (Stamped O)) (table : State (Stamped O) (View (Stamped O) Request Told)) (kept : Stamped O)
        → (turning : IsTurning (λ held. thing_state held.object held.stamp) mark answers key table) → table.homes ≡ some kept ∷ []
        → adds_up key.value.object turning.log kept.object

-- A pool that added up adds up, whatever was taken, given back and resized, and whether or not a draw failed. Its elements are of the same ledger,
-- and its reserve may be as large as before.
pub record PoolAddsUp (old : LedgerPool) (history : List Call) (new : LedgerPool) : Type 0 where
  pub adds_up : AddsUp old.state.facts → AddsUp new.state.facts
  pub ledger : new.ledger ≡ old.ledger
  pub most : new.most ≡ old.most

-- the bios that were handed to a rescuer's list, and those that it handed out
abbrev pub punted_by_call : Request → Reply → List (Item Pad)
punted_by_call (Punt dev moved) Did = moved
punted_by_call asked reply = []

abbrev pub popped_by_call : Request → Reply → List (Item Pad)
popped_by_call (Pop dev) (Popped bio) = bio ∷ []
popped_by_call asked reply = []

-- What waited and what was handed over since was handed out in this order, or waits.
abbrev pub ListAddsUp : Rescue → List Call → Rescue → Type 0
ListAddsUp old history new =
    old.bios ++ flat_map (λ (c : Call). punted_by_call c.asked c.told.reply) history ≡ flat_map (λ (c : Call). popped_by_call c.asked c.told.reply) history ++ new.bios

-- how many bios came into a disk, and how many were completed
abbrev pub pushes : Request → Reply → ℕ
pushes (Push bio) Did = 1
pushes asked reply = 0

abbrev pub completions : Request → Reply → ℕ
completions (Complete disk) (Completed index bio status) = 1
completions asked reply = 0

-- As many bios as waited and came since were completed, or wait.
abbrev pub DiskAddsUp : DiskState → List Call → DiskState → Type 0
DiskAddsUp old history new =
    length old.pending + sum_by (λ (c : Call). pushes c.asked c.told.reply) history ≡ sum_by (λ (c : Call). completions c.asked c.told.reply) history + length new.pending

-- how many nodes of a book are open
abbrev pub open_nodes : BookState → ℕ
open_nodes book = count_by is_some book.nodes

-- how many nodes were opened, and how many closed
abbrev pub openings : Request → Reply → ℕ
openings (Link writer opening) (LinkedTo (Made place)) = 1
openings asked reply = 0

abbrev pub closings : Request → Reply → ℕ
closings (Drop writer node status part) (DroppedTo (Up closed)) = 1
closings (Drop writer node status part) (DroppedTo (Top closed)) = 1
closings asked reply = 0

-- As many nodes as were open and were opened since closed, or are open. The book is of the same writer, and has as many places.
pub record BookAddsUp (old : BookState) (history : List Call) (new : BookState) : Type 0 where
  pub nodes : open_nodes old + sum_by (λ (c : Call). openings c.asked c.told.reply) history ≡ sum_by (λ (c : Call). closings c.asked c.told.reply) history + open_nodes new
  pub places : length new.nodes ≡ length old.nodes
  pub writer : new.writer ≡ old.writer

-- how many writes were done
abbrev pub dones : Request → Reply → ℕ
dones (Done write status) Did = 1
dones asked reply = 0

-- No more writes are left than were, and fewer by at most as many as were done since. Rounds and writes are as many as before.
pub record TallyAddsUp (old : TallyState) (history : List Call) (new : TallyState) : Type 0 where
  pub left : (sum new.left ≤ sum old.left) × (sum old.left ≤ sum new.left + sum_by (λ (c : Call). dones c.asked c.told.reply) history)
  pub rounds : length new.left ≡ length old.left
  pub writes : length new.statuses ≡ length old.statuses
