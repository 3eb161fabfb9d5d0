-- What a thing serves with a ticket, its object serves in a run; where that is no event, the object stays as it is.
use Rattle.std.proofs.Common.{◌≡◌, ◌+◌, ◌<◌, ◌⊎◌, ◌==◌, if◌then◌else◌, ℕ, zero, suc, Bool, true, false, Option, None, Some, length, inl, inr, refl, sym, ◌∙◌, ap, arith}
use Rattle.std.specs.Option.{is_some}
use Rattle.std.proofs.lemmas.Bool.{eq-eqb, true≢false}
use Rattle.elem_ledger.specs.Ledger.{LedgerId}
use Rattle.stack_base.specs.declared.ids.PoolId.{PoolId}
use Rattle.stack_base.specs.declared.ids.Status.{Status}
use Rattle.stack_base.proofs.NumberLemmas.{not_zero}
use Rattle.bio_records.specs.declared.bio.Pad.{Pad}
use Rattle.bio_records.specs.Items.{Item}
use Rattle.bio_records.specs.Rescue.{Rescue}
use Rattle.bio_books.specs.Books.{Node, BookState, node_at}
use Rattle.bio_books.specs.Links.{Linked, Made, NoRoom, Stray, ChainsAt, MastersAt, LegsAt}
use Rattle.bio_books.specs.Drops.{DropsAt}
use Rattle.bio_books.specs.Drops as end
use Rattle.bio_books.specs.Books.{SlipItem}
use Rattle.mempool_core.specs.Move.{PoolMove, misses, gives, resizes, after_move}
use Rattle.mempool_core.specs.Pool.{LedgerPool, PoolMoves}
use Rattle.model_disks.specs.Disks.{DiskState}
use Rattle.run_machine.specs.declared.event.Got.{Got}
use Rattle.run_machine.specs.declared.event.Got.TheVariants as got
use Rattle.run_machine.specs.Events.{miss_of}
use Rattle.run_machine.specs.Objects.{TallyState, OpensNode, clear_bio, clear_vector, clear_slip}
use Rattle.run_machine.specs.Requests.{Request, Reply, Opening, Write, Chain, Master, Leg, TakeBio, TakeVec, TakeSlip, GiveBio, GiveVec, GiveSlip, Punt, Pop, Push, Complete, Link, Drop, Done, Resize, NextRound, HadBio, HadVec, HadSlip, Missed, Did, Popped, Completed, LinkedTo, DroppedTo, OutIs}
use Rattle.object_things.specs.Books as books
use Rattle.object_things.specs.Disks as disks
use Rattle.object_things.specs.Lists as lists
use Rattle.object_things.specs.Pools as pools
use Rattle.object_things.specs.Tallies as tallies
use Rattle.shared_objects.specs.Logs.{is_event}
use Rattle.run_merge.specs.Machines.{PoolGoes, PoolHas, PoolMachine, RescuerMachine, DiskMachine, BookMachine, TallyMachine}

-- pools
has_one : (old new : LedgerPool) (from : Got) → pools.HasOne old from new → PoolHas old.state from new.state
has_one old new got.Ordinary h = (h.moves.can, h.moves.after)
has_one old new got.Spare h = (h.moves.can, h.moves.after)
has_one old new got.Missed h = absurd h

goes : (old new : LedgerPool) (move : PoolMove) → PoolMoves old move new → PoolGoes old.state move new.state
goes old new move h = (h.moves.can, h.moves.after)

resized : (old new : LedgerPool) (min out : ℕ) → ((out ≡ 0) × PoolMoves old (resizes min) new) ⊎ ((0 < out) × (new ≡ old))
    → new.state ≡ (if out == 0 then after_move old.state (resizes min) else old.state)
resized old new min out (inl (none, moves)) =
    moves.moves.after ∙ sym (ap (λ b. if b then after_move old.state (resizes min) else old.state) (eq-eqb out 0 none))
resized old new min out (inr (some, same)) =
    ap (λ (pool : LedgerPool). pool.state) same ∙ sym (ap (λ b. if b then after_move old.state (resizes min) else old.state) (not_zero out some))

pub pool_is : (own : LedgerId) (old new : LedgerPool) (asked : Request) (reply : Reply) → old.ledger ≡ own → pools.PoolServes old asked reply new
    → PoolMachine own old.state asked reply new.state
-- takes: an element is handed out, which is clear, or the pool misses
pool_is own old new (TakeBio set waits) (HadBio from bio) is h = (has_one old new from h.0, h.1 ∙ ap clear_bio is)
pool_is own old new (TakeBio set waits) (Missed used) is h = goes old new (misses used) h.0
pool_is own old new TakeVec (HadVec from vector) is h = (has_one old new from h.0, h.1 ∙ ap clear_vector is)
pool_is own old new TakeVec (Missed used) is h = goes old new (misses used) h.0
pool_is own old new (TakeSlip dev) (HadSlip from slip) is h = (has_one old new from h.0, h.1 ∙ ap clear_slip is)
pool_is own old new (TakeSlip dev) (Missed used) is h = goes old new (misses used) h.0
-- gives: one less is out
pool_is own old new (GiveBio bio) Did is h = goes old new gives h.0
pool_is own old new (GiveVec vector) Did is h = goes old new gives h.0
pool_is own old new (GiveSlip slip) Did is h = goes old new gives h.0
-- resizes: the reserve is the new one where nothing is out
pool_is own old new (Resize pool min) (OutIs out) is h = (h.0, resized old new min out h.1)
-- a pool serves nothing else
pool_is own old new asked reply is h = absurd h

miss_told : {P : Type 0} (waits used : Bool) (pool : PoolId) → (waits ≡ true → used ≡ true) → is_some (miss_of waits used pool) ≡ false → P
miss_told true true pool told not = absurd (true≢false not)
miss_told true false pool told not = absurd (true≢false (sym (told refl)))
miss_told false used pool told not = absurd (true≢false not)

out_stays : (old new : LedgerPool) (pool : PoolId) (min out : ℕ) → ((out ≡ 0) × PoolMoves old (resizes min) new) ⊎ ((0 < out) × (new ≡ old))
    → is_event (Resize pool min) (OutIs out) ≡ false → new ≡ old
out_stays old new pool min zero (inl (none, moves)) not = absurd (true≢false not)
out_stays old new pool min (suc out) (inl (none, moves)) not = absurd (omega (arith, none))
out_stays old new pool min out (inr (some, same)) not = same

pub pool_stays : (old new : LedgerPool) (asked : Request) (reply : Reply) → pools.PoolServes old asked reply new → is_event asked reply ≡ false → new ≡ old
-- takes: what is served is an event, an element that was handed out or a miss
pool_stays old new (TakeBio set waits) (HadBio from bio) h not = absurd (true≢false not)
pool_stays old new (TakeBio set waits) (Missed used) h not = miss_told waits used _ h.1 not
pool_stays old new TakeVec (HadVec from vector) h not = absurd (true≢false not)
pool_stays old new TakeVec (Missed used) h not = miss_told true used _ h.1 not
pool_stays old new (TakeSlip dev) (HadSlip from slip) h not = absurd (true≢false not)
pool_stays old new (TakeSlip dev) (Missed used) h not = miss_told true used _ h.1 not
-- gives are events
pool_stays old new (GiveBio bio) Did h not = absurd (true≢false not)
pool_stays old new (GiveVec vector) Did h not = absurd (true≢false not)
pool_stays old new (GiveSlip slip) Did h not = absurd (true≢false not)
-- resizes: where something is out, the pool stays as it is
pool_stays old new (Resize pool min) (OutIs out) h not = out_stays old new pool min out h.1 not
-- a pool serves nothing else
pool_stays old new asked reply h not = absurd h

-- what is served leaves the pool of the same ledger
one_ledger : (old new : LedgerPool) (from : Got) → pools.HasOne old from new → new.ledger ≡ old.ledger
one_ledger old new got.Ordinary h = h.ledger
one_ledger old new got.Spare h = h.ledger
one_ledger old new got.Missed h = absurd h

out_ledger : (old new : LedgerPool) (min out : ℕ) → ((out ≡ 0) × PoolMoves old (resizes min) new) ⊎ ((0 < out) × (new ≡ old)) → new.ledger ≡ old.ledger
out_ledger old new min out (inl (none, moves)) = moves.ledger
out_ledger old new min out (inr (some, same)) = ap (λ (pool : LedgerPool). pool.ledger) same

pub pool_ledger : (old new : LedgerPool) (asked : Request) (reply : Reply) → pools.PoolServes old asked reply new → new.ledger ≡ old.ledger
-- takes: of the same ledger, whether an element is handed out or missed
pool_ledger old new (TakeBio set waits) (HadBio from bio) h = one_ledger old new from h.0
pool_ledger old new (TakeBio set waits) (Missed used) h = h.0.ledger
pool_ledger old new TakeVec (HadVec from vector) h = one_ledger old new from h.0
pool_ledger old new TakeVec (Missed used) h = h.0.ledger
pool_ledger old new (TakeSlip dev) (HadSlip from slip) h = one_ledger old new from h.0
pool_ledger old new (TakeSlip dev) (Missed used) h = h.0.ledger
-- gives: of the same ledger
pool_ledger old new (GiveBio bio) Did h = h.0.ledger
pool_ledger old new (GiveVec vector) Did h = h.0.ledger
pool_ledger old new (GiveSlip slip) Did h = h.0.ledger
-- resizes: of the same ledger
pool_ledger old new (Resize pool min) (OutIs out) h = out_ledger old new min out h.1
-- a pool serves nothing else
pool_ledger old new asked reply h = absurd h

-- lists of rescuers
pub list_is : (old new : Rescue) (asked : Request) (reply : Reply) → lists.ListServes old asked reply new → RescuerMachine old.bios asked reply new.bios
list_is old new (Punt dev moved) Did h = ap (λ (list : Rescue). list.bios) h.1
list_is old new (Pop dev) (Popped bio) h = h.1
list_is old new asked reply h = absurd h

pub list_stays : (old new : Rescue) (asked : Request) (reply : Reply) → lists.ListServes old asked reply new → is_event asked reply ≡ false → new ≡ old
list_stays old new (Punt dev moved) Did h not = absurd (true≢false not)
list_stays old new (Pop dev) (Popped bio) h not = absurd (true≢false not)
list_stays old new asked reply h not = absurd h

-- disks
pub disk_is : (old new : DiskState) (asked : Request) (reply : Reply) → disks.DiskServes old asked reply new → DiskMachine old asked reply new
disk_is old new (Push bio) Did h = h.1
disk_is old new (Complete disk) (Completed index bio status) h = h.1
disk_is old new asked reply h = absurd h

pub disk_stays : (old new : DiskState) (asked : Request) (reply : Reply) → disks.DiskServes old asked reply new → is_event asked reply ≡ false → new ≡ old
disk_stays old new (Push bio) Did h not = absurd (true≢false not)
disk_stays old new (Complete disk) (Completed index bio status) h not = absurd (true≢false not)
disk_stays old new asked reply h not = absurd h

-- books
pub book_is : (old new : BookState) (asked : Request) (reply : Reply) → books.BookServes old asked reply new → BookMachine old asked reply new
book_is old new (Link writer opening) (LinkedTo answer) h = h.1
book_is old new (Drop writer node status part) (DroppedTo ended) h = h.1
book_is old new asked reply h = absurd h

module _ (old new : BookState) where
  chain_stays : (parent : ℕ) (node : Option Node) (answer : Linked) → ChainsAt old parent node answer new → ((place : ℕ) → answer ≡ Made place → ⊥) → new ≡ old
  chain_stays parent (Some node) (Made place) h not = absurd (not place refl)
  chain_stays parent (Some node) (NoRoom back) h not = h.2
  chain_stays parent (Some node) (Stray back) h not = absurd h
  chain_stays parent None (Made place) h not = absurd h
  chain_stays parent None (NoRoom back) h not = absurd h
  chain_stays parent None (Stray back) h not = h.1

  master_stays : (parent : ℕ) (node : Option Node) (part : Item Pad) (slip : SlipItem) (legs : ℕ) (answer : Linked) → MastersAt old parent node part slip legs answer new
      → ((place : ℕ) → answer ≡ Made place → ⊥) → new ≡ old
  master_stays parent (Some node) part slip legs (Made place) h not = absurd (not place refl)
  master_stays parent (Some node) part slip legs (NoRoom back) h not = h.2
  master_stays parent (Some node) part slip legs (Stray back) h not = absurd h
  master_stays parent None part slip legs (Made place) h not = absurd h
  master_stays parent None part slip legs (NoRoom back) h not = absurd h
  master_stays parent None part slip legs (Stray back) h not = h.1

  leg_stays : (master : ℕ) (node : Option Node) (answer : Linked) → LegsAt old master node answer new → ((place : ℕ) → answer ≡ Made place → ⊥) → new ≡ old
  leg_stays master (Some node) (Made place) h not = absurd (not place refl)
  leg_stays master (Some node) (NoRoom back) h not = h.2
  leg_stays master (Some node) (Stray back) h not = absurd h
  leg_stays master None (Made place) h not = absurd h
  leg_stays master None (NoRoom back) h not = absurd h
  leg_stays master None (Stray back) h not = h.1

  link_stays : (opening : Opening) (answer : Linked) → OpensNode old opening answer new → ((place : ℕ) → answer ≡ Made place → ⊥) → new ≡ old
  link_stays (Write write vector) (Made place) h not = absurd (not place refl)
  link_stays (Write write vector) (NoRoom back) h not = h.2
  link_stays (Write write vector) (Stray back) h not = absurd h
  link_stays (Chain parent) answer h not = chain_stays parent (node_at old parent) answer h not
  link_stays (Master parent part slip legs) answer h not = master_stays parent (node_at old parent) part slip legs answer h not
  link_stays (Leg master) answer h not = leg_stays master (node_at old master) answer h not

  drop_stays : (place : ℕ) (node : Option Node) (status : Status) (part back : Option (Item Pad)) → DropsAt old place node status part (end.Stray back) new → new ≡ old
  drop_stays place (Some node) status part back h = absurd h
  drop_stays place None status part back h = h.1

  pub book_stays : (asked : Request) (reply : Reply) → books.BookServes old asked reply new → is_event asked reply ≡ false → new ≡ old
  -- links: a node that was made is an event, and a link that was refused changes nothing
  book_stays (Link writer opening) (LinkedTo (Made place)) h not = absurd (true≢false not)
  book_stays (Link writer opening) (LinkedTo (NoRoom back)) h not = link_stays opening (NoRoom back) h.1 (λ place is. cc)
  book_stays (Link writer opening) (LinkedTo (Stray back)) h not = link_stays opening (Stray back) h.1 (λ place is. cc)
  -- drops: an end that was dropped is an event, and a drop at no node changes nothing
  book_stays (Drop writer node status part) (DroppedTo end.Left) h not = absurd (true≢false not)
  book_stays (Drop writer node status part) (DroppedTo (end.Up closed)) h not = absurd (true≢false not)
  book_stays (Drop writer node status part) (DroppedTo (end.Top closed)) h not = absurd (true≢false not)
  book_stays (Drop writer node status part) (DroppedTo (end.Stray back)) h not = drop_stays node (node_at old node) status part back h.1
  -- a book serves nothing else
  book_stays asked reply h not = absurd h

-- the tally, where a round that starts is there
abbrev pub HasNext : TallyState → Request → Type 0
HasNext tally (NextRound round) = tally.round + 1 < length tally.left
HasNext tally asked = Unit {0}

pub tally_is : (old new : TallyState) (asked : Request) (reply : Reply) → HasNext old asked → tallies.TallyServes old asked reply new → TallyMachine old asked reply new
-- ends of writes
tally_is old new (Done write status) Did next h = h
-- rounds: the next one is there
tally_is old new (NextRound round) Did next (inl h) = h
tally_is old new (NextRound round) Did next (inr (last, same)) = absurd (omega (arith, next, last))
-- a tally serves nothing else with a ticket
tally_is old new asked reply next h = absurd h

pub tally_stays : (old new : TallyState) (asked : Request) (reply : Reply) → tallies.TallyServes old asked reply new → is_event asked reply ≡ false → new ≡ old
-- ends of writes and starts of rounds are events
tally_stays old new (Done write status) Did h not = absurd (true≢false not)
tally_stays old new (NextRound round) Did h not = absurd (true≢false not)
-- a tally serves nothing else with a ticket
tally_stays old new asked reply h not = absurd h
