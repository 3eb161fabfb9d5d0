-- What a task asks of an object, and what an object replies, as plain data.
use Rattle.std.specs.Prelude.{ℕ, Bool, List, Option}
use Rattle.stack_base.specs.declared.ids.DevId.{DevId}
use Rattle.stack_base.specs.declared.ids.PoolId.{PoolId}
use Rattle.stack_base.specs.declared.ids.SetId.{SetId}
use Rattle.stack_base.specs.declared.ids.Status.{Status}
use Rattle.bio_records.specs.declared.bio.Pad.{Pad}
use Rattle.bio_records.specs.Items.{Item}
use Rattle.bio_books.specs.Books.{VectorItem, SlipItem}
use Rattle.bio_books.specs.Drops.{DropOutcome}
use Rattle.bio_books.specs.Links.{Linked}
use Rattle.run_machine.specs.declared.event.Got.{Got}

-- what a node is opened for: a write, with the vector of its bio if it has one; the front of a bio that is split; a bio that a mirror
-- copies to so many legs, which its parent keeps meanwhile; and one of these legs
pub data Opening : Type 0 where
  Write : (write : ℕ) (vector : Option VectorItem) → Opening
  Chain : (parent : ℕ) → Opening
  Master : (parent : ℕ) (part : Item Pad) (slip : SlipItem) (legs : ℕ) → Opening
  Leg : (master : ℕ) → Opening

-- a take that does not wait is a Try: its miss is an event, and a punt follows
pub data Request : Type 0 where
  TakeBio : (set : SetId) (waits : Bool) → Request
  TakeVec : Request
  TakeSlip : (dev : DevId) → Request
  GiveBio : (bio : Item Pad) → Request
  GiveVec : (vector : VectorItem) → Request
  GiveSlip : (slip : SlipItem) → Request
  -- these bios go to the rescuer of the device's set
  Punt : (dev : DevId) (moved : List (Item Pad)) → Request
  Pop : (dev : DevId) → Request
  -- the bio goes to the disk that it is at
  Push : (bio : Item Pad) → Request
  Complete : (disk : DevId) → Request
  Link : (writer : ℕ) → Opening → Request
  Drop : (writer node : ℕ) (status : Status) (part : Option (Item Pad)) → Request
  Done : (write : ℕ) (status : Status) → Request
  Resize : (pool : PoolId) (min : ℕ) → Request
  -- the round of this number starts
  NextRound : (round : ℕ) → Request
  -- looks at the tally: the present round, and how many writes are unfinished
  LookRound : Request
  LookLeft : Request
  -- nothing is left to ask for
  Rest : Request

pub data Reply : Type 0 where
  -- a take had an element, or missed, and whether the miss used up an entry of the pool's script
  HadBio : Got → Item Pad → Reply
  HadVec : Got → VectorItem → Reply
  HadSlip : Got → SlipItem → Reply
  Missed : (used : Bool) → Reply
  Did : Reply
  Popped : Item Pad → Reply
  Completed : (index : ℕ) → Item Pad → Status → Reply
  LinkedTo : Linked → Reply
  DroppedTo : DropOutcome → Reply
  -- how many elements were out of the pool that was to be resized; it was, where there was none
  OutIs : (out : ℕ) → Reply
  Present : (round : ℕ) → Reply
  LeftOver : (count : ℕ) → Reply
  -- a look that found nothing
  Nothing : Reply
  -- there was no ticket for the call
  NoTicket : Reply
