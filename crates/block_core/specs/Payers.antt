-- Which events are paid for by what: the table behind the charges. Charges are told apart by its rows, not from bio to bio: an event tells its row,
-- with what its task has of a bio or of a closed node. Which bio of a row pays is not said.
use Rattle.std.specs.Prelude.{ℕ, List, [], ◌∷◌, sum_by}
use Rattle.stack_base.specs.declared.ids.PoolId.{PoolId}
use Rattle.stack_base.specs.declared.ids.PoolId.TheVariants.{FsBios, FsVecs, Bios, Records}
use Rattle.run_machine.specs.Events.{pool_of}

pub data Payer : Type 0 where
  -- the bio of a write, and its vector, where it has one
  WriteBio : Payer
  WriteVector : Payer
  -- a record of a mirror
  Record : Payer
  -- a bio for the first piece of a split, or for a leg
  PieceBio : Payer
  Fragment : Payer
  -- an entry of a script, a round behind the first, and a change of a reserve
  ScriptEntry : Payer
  LaterRound : Payer
  ReserveChange : Payer

-- what the elements of a pool are
abbrev pub payer_of : PoolId → Payer
payer_of FsBios = WriteBio
payer_of FsVecs = WriteVector
payer_of (Bios dev) = PieceBio
payer_of (Records dev) = Record

-- an element, by the number of its pool
abbrev pub payer_at : ℕ → Payer
payer_at number = payer_of (pool_of number)

pub data Paid : Type 0 where
  -- an element of this kind is taken, its node is linked, the end of a bio's own fragment is told to its node, the end of its node is told to the
  -- parent, or for a record to the parent's own part, and the element is given back
  IsTaken : Payer → Paid
  IsLinked : Payer → Paid
  EndsItself : Payer → Paid
  EndsForParent : Payer → Paid
  IsGiven : Payer → Paid
  MissesAtOnce : Paid
  IsPunted : Paid
  IsPopped : Paid
  IsPushed : Paid
  IsCompleted : Paid
  IsDone : Paid
  MissesWaiting : Paid
  Starts : Paid
  Resizes : Paid

-- each of these events at most once
abbrev pub pays_for : Payer → List Paid
pays_for WriteBio = IsTaken WriteBio ∷ IsLinked WriteBio ∷ EndsItself WriteBio ∷ IsGiven WriteBio ∷ IsDone ∷ []
pays_for WriteVector = IsTaken WriteVector ∷ IsGiven WriteVector ∷ []
pays_for Record = IsTaken Record ∷ IsLinked Record ∷ IsGiven Record ∷ EndsForParent Record ∷ []
pays_for PieceBio =
    MissesAtOnce ∷ IsPunted ∷ IsTaken PieceBio ∷ IsLinked PieceBio ∷ IsPopped ∷ EndsItself PieceBio ∷ IsGiven PieceBio ∷ EndsForParent PieceBio ∷ []
pays_for Fragment = IsPushed ∷ IsCompleted ∷ []
pays_for ScriptEntry = MissesWaiting ∷ []
pays_for LaterRound = Starts ∷ []
pays_for ReserveChange = Resizes ∷ []

-- so this is what each is charged at first, where the kinds of event have these prices: the charges of a state are what is left of these
abbrev pub cost : (Paid → ℕ) → Payer → ℕ
cost price payer = sum_by price (pays_for payer)

-- where each event costs one, it is how many events that are
abbrev pub unit_price : Paid → ℕ
unit_price paid = 1
