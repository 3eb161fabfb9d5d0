-- A pool as a thing.
use Rattle.std.specs.Prelude.{◌≡◌, ◌≤◌, ◌⊎◌, ◌&&◌, not, ℕ, Bool, true, false, IfErr, Result, Ok, Err}
use Rattle.elem_ledger.specs.Ledger.{LedgerId}
use Rattle.elem_ledger.specs.declared.element.Element.{Element}
use Rattle.stack_base.specs.declared.ids.PoolId.{PoolId}
use Rattle.stack_base.specs.declared.ids.PoolId.TheVariants.{FsBios, FsVecs, Bios, Records}
use Rattle.stack_base.specs.declared.ids.SetId.TheVariants.{Fs, Of}
use Rattle.stack_base.specs.PoolId.{pool_number}
use Rattle.mempool_core.specs.Move.{takes_ordinary, takes_spare, misses, gives}
use Rattle.mempool_core.specs.Pool.{LedgerPool, PoolMoves}
use Rattle.mempool_core.specs.Taken.{IsHandedOut}
use Rattle.mempool_core.specs.declared.Taken.{Taken}
use Rattle.mempool_core.specs.declared.Taken.TheVariants as taken
use Rattle.run_machine.specs.declared.event.Got.{Got}
use Rattle.run_machine.specs.declared.event.Got.TheVariants as got
use Rattle.task_steps.specs.declared.objects.Unmade.{Unmade}
use Rattle.task_steps.specs.declared.objects.Unmade.TheVariants as unmade
use Rattle.run_machine.specs.Requests.{Request, Reply, TakeBio, TakeVec, TakeSlip, GiveBio, GiveVec, GiveSlip, Resize, HadBio, HadVec, HadSlip, Missed, Did, OutIs, NoTicket}
use Rattle.run_machine.specs.Objects.{clear_bio, clear_vector, clear_slip}
use Rattle.run_machine.specs.Laws.{Object, OfPool}
use Rattle.task_core.specs.Resizing.{ResizesIfHome}
use Rattle.task_steps.specs.Stage.{Stage}
use Rattle.task_steps.specs.Views.{resized_reply}
use Rattle.object_things.specs.declared.stamp.Asking.{Asking}
use Rattle.object_things.specs.declared.stamp.Replied.{Replied}
use Rattle.object_things.specs.declared.pool.PoolAsk.{PoolAsk}
use Rattle.object_things.specs.declared.pool.PoolAsk.TheVariants as ask
use Rattle.object_things.specs.declared.pool.PoolSaid.{PoolSaid}
use Rattle.object_things.specs.declared.pool.PoolSaid.TheVariants as said
use Rattle.object_things.specs.Stamps.{Stamped, MarkState, mark_of, Told, ThingState, ThingAnswers, ChoosesNone, PassByReply, FindsNone, stage_in, StampState, or_unmade, thing_state, told_by, AskingFits}

-- a pool of the stage: its elements are of the ledger that the stage has for its number, and its reserve may be as large as the stage says there
pub record IsPoolOf (stage : Stage) (pool : LedgerPool) : Type 0 where
  pub ledger : pool.ledger ≡ stage.ledger pool.ledger.no
  pub most : pool.most ≡ stage.most pool.ledger.no

-- takes and gives by the pool. An element that is given is kept with an empty body: the pool does not see it
abbrev pub take_request : PoolId → Bool → Request
take_request FsBios waits = TakeBio Fs waits
take_request (Bios dev) waits = TakeBio (Of dev) waits
take_request FsVecs waits = TakeVec
take_request (Records dev) waits = TakeSlip dev

abbrev pub give_of : PoolId → LedgerId → Request
give_of FsBios share = GiveBio (clear_bio share)
give_of (Bios dev) share = GiveBio (clear_bio share)
give_of FsVecs share = GiveVec (clear_vector share)
give_of (Records dev) share = GiveSlip (clear_slip share)

abbrev pub had_of : PoolId → Got → LedgerId → Reply
had_of FsBios from share = HadBio from (clear_bio share)
had_of (Bios dev) from share = HadBio from (clear_bio share)
had_of FsVecs from share = HadVec from (clear_vector share)
had_of (Records dev) from share = HadSlip from (clear_slip share)

module _ {P : Type 0} where
  abbrev pub pool_asked : PoolAsk P → Request
  pool_asked (ask.Take pool waits) = take_request pool waits
  pool_asked (ask.Give pool el) = give_of pool el.share
  pool_asked (ask.Resize pool min) = Resize pool min

  abbrev pub took : PoolId → Result (Taken P) Unmade → Reply
  took pool (Ok (taken.Ordinary el)) = had_of pool got.Ordinary el.share
  took pool (Ok (taken.Spare el)) = had_of pool got.Spare el.share
  took pool (Ok (taken.Miss used)) = Missed used
  took pool (Err back) = NoTicket

  abbrev pub gave : Result (Unit {0}) (Element P) → Reply
  gave (Ok done) = Did
  gave (Err back) = NoTicket

  abbrev pub pool_replied : PoolSaid P → Reply
  pool_replied (said.Took pool result) = took pool (or_unmade result)
  pool_replied (said.Gave result) = gave result
  pool_replied (said.Resized result) = resized_reply (or_unmade result)

  abbrev pub pool_told : Replied (PoolSaid P) → Told
  pool_told = told_by pool_replied

-- an element was had
abbrev pub HasOne : LedgerPool → Got → LedgerPool → Type 0
HasOne old got.Ordinary new = PoolMoves old takes_ordinary new
HasOne old got.Spare new = PoolMoves old takes_spare new
HasOne old got.Missed new = ⊥

-- a miss is served where it is told: a take that waits is told where it used up an entry
abbrev pub MissesTold : Bool → LedgerPool → Bool → LedgerPool → Type 0
MissesTold waits old used new = PoolMoves old (misses used) new × (waits ≡ true → used ≡ true)

abbrev pub PoolServes : LedgerPool → Request → Reply → LedgerPool → Type 0
PoolServes old (TakeBio set waits) (HadBio from bio) new = HasOne old from new × (bio ≡ clear_bio old.ledger)
PoolServes old (TakeBio set waits) (Missed used) new = MissesTold waits old used new
PoolServes old TakeVec (HadVec from vector) new = HasOne old from new × (vector ≡ clear_vector old.ledger)
PoolServes old TakeVec (Missed used) new = MissesTold true old used new
PoolServes old (TakeSlip dev) (HadSlip from slip) new = HasOne old from new × (slip ≡ clear_slip old.ledger)
PoolServes old (TakeSlip dev) (Missed used) new = MissesTold true old used new
PoolServes old (GiveBio bio) Did new = PoolMoves old gives new × (bio.share ≡ old.ledger)
PoolServes old (GiveVec vector) Did new = PoolMoves old gives new × (vector.share ≡ old.ledger)
PoolServes old (GiveSlip slip) Did new = PoolMoves old gives new × (slip.share ≡ old.ledger)
PoolServes old (Resize pool min) (OutIs out) new = ResizesIfHome old min out new
PoolServes old request reply new = ⊥

-- what a take that found no ticket leaves: it missed, which was to be told, or gave back what it had
abbrev pub Undone : Bool → LedgerPool → LedgerPool → Type 0
Undone waits old new = ((used : Bool) × MissesTold waits old used new) ⊎ ((from : Got) × (between : LedgerPool) × HasOne old from between × PoolMoves between gives new)

module _ {P : Type 0} where
  -- what was taken goes back
  abbrev pub GoesBack : Taken P → LedgerPool → LedgerPool → Type 0
  GoesBack (taken.Ordinary el) old new = PoolMoves old gives new
  GoesBack (taken.Spare el) old new = PoolMoves old gives new
  GoesBack (taken.Miss used) old new = new ≡ old

abbrev pub TakeFindsNone : Bool → ThingState LedgerPool → ThingState LedgerPool → Type 0
TakeFindsNone waits old new = Undone waits old.object new.object × (new.spent ≡ true)

abbrev pub MissLooks : Bool → ThingState LedgerPool → Bool → ThingState LedgerPool → Type 0
MissLooks waits old used new = (waits ≡ true) × (used ≡ false) × PoolMoves old.object (misses used) new.object × (new.spent ≡ old.spent)

abbrev pub PoolLooks : ThingState LedgerPool → Request → Reply → ThingState LedgerPool → Type 0
PoolLooks old (TakeBio set waits) (Missed used) new = MissLooks waits old used new
PoolLooks old TakeVec (Missed used) new = MissLooks true old used new
PoolLooks old (TakeSlip dev) (Missed used) new = MissLooks true old used new
PoolLooks old (TakeBio set waits) NoTicket new = TakeFindsNone waits old new
PoolLooks old TakeVec NoTicket new = TakeFindsNone true old new
PoolLooks old (TakeSlip dev) NoTicket new = TakeFindsNone true old new
PoolLooks old (GiveBio bio) NoTicket new = FindsNone old new
PoolLooks old (GiveVec vector) NoTicket new = FindsNone old new
PoolLooks old (GiveSlip slip) NoTicket new = FindsNone old new
PoolLooks old (Resize pool min) NoTicket new = FindsNone old new
PoolLooks old request reply new = ⊥

abbrev pub PoolAnswers : ThingState LedgerPool → Request → Told → ThingState LedgerPool → Type 0
PoolAnswers = ThingAnswers PoolServes PoolLooks ChoosesNone

-- the same of a pool with its stamp, which gave this reply
abbrev pub PoolReplies : {P : Type 0} → LedgerPool → StampState → Request → Replied (PoolSaid P) → LedgerPool → StampState → Type 0
PoolReplies old stamp asked replied new after = PoolAnswers (thing_state old stamp) asked (pool_told replied) (thing_state new after)

-- vectors and records are never tried for
abbrev pub WaitsAt : PoolId → Bool → Type 0
WaitsAt FsBios waits = Unit {0}
WaitsAt (Bios dev) waits = Unit {0}
WaitsAt FsVecs waits = waits ≡ true
WaitsAt (Records dev) waits = waits ≡ true

-- the number of a pool
abbrev pub object_pool_number : Object → ℕ
object_pool_number (OfPool number) = number
object_pool_number name = 0

module _ {P : Type 0} where
  abbrev pub PoolAskFits : Stage → PoolAsk P → Type 0
  PoolAskFits stage (ask.Take pool waits) = WaitsAt pool waits
  PoolAskFits stage (ask.Give pool el) = el.share ≡ stage.ledger el.share.no
  PoolAskFits stage (ask.Resize pool min) = (1 ≤ min) × (min ≤ stage.most (pool_number pool))

  abbrev pub PoolFits : MarkState → Asking (PoolAsk P) → Type 0
  PoolFits mark asking = AskingFits pool_asked mark asking (PoolAskFits (stage_in mark.common) asking.ask)

  -- an element as the pool of this ledger hands it out
  abbrev pub TookFrom : (P → Type 0) → LedgerId → Result (Taken P) Unmade → Type 0
  TookFrom is_clear ledger (Ok (taken.Ordinary el)) = IsHandedOut is_clear ledger el
  TookFrom is_clear ledger (Ok (taken.Spare el)) = IsHandedOut is_clear ledger el
  TookFrom is_clear ledger (Ok (taken.Miss used)) = Unit {0}
  TookFrom is_clear ledger (Err back) = back ≡ unmade.Nothing

  abbrev pub PoolSays : (P → Type 0) → LedgerId → PoolAsk P → PoolSaid P → Type 0
  PoolSays is_clear ledger (ask.Take pool waits) (said.Took from result) = (from ≡ pool) × TookFrom is_clear ledger (or_unmade result)
  PoolSays is_clear ledger (ask.Give pool el) (said.Gave result) = IfErr result (λ back. back ≡ el)
  PoolSays is_clear ledger (ask.Resize pool min) (said.Resized result) = IfErr (or_unmade result) (λ back. back ≡ unmade.Nothing)
  PoolSays is_clear ledger asked reply = ⊥

  pub record PoolOwes (is_clear : P → Type 0) (mark : MarkState) (asking : Asking (PoolAsk P)) (replied : Replied (PoolSaid P)) : Type 0 where
    pub pass : PassByReply pool_replied asking.pass replied
    pub says : PoolSays is_clear ((stage_in mark.common).ledger (object_pool_number mark.name)) asking.ask replied.said

abbrev pub pool_mark : Stamped LedgerPool → MarkState
pool_mark held = mark_of (OfPool held.object.ledger.no) held

module _ {P : Type 0} where
  -- a take that is no more than a look: it waits, and missed without using up an entry of the script
  abbrev pub is_look : Bool → Taken P → Bool
  is_look waits (taken.Ordinary el) = false
  is_look waits (taken.Spare el) = false
  is_look waits (taken.Miss used) = waits && not used

  -- what was taken is of this ledger
  abbrev pub TakenOf : Taken P → LedgerId → Type 0
  TakenOf (taken.Ordinary el) ledger = el.share ≡ ledger
  TakenOf (taken.Spare el) ledger = el.share ≡ ledger
  TakenOf (taken.Miss used) ledger = Unit {0}
