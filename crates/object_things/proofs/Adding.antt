-- Histories, and the lock that keeps one, add up where each call does.
use Rattle.std.proofs.Common.{◌≡◌, ◌+◌, ◌++◌, ◌-◌, ◌≤◌, ℕ, zero, suc, ⊎_elim, inl, inr, Bool, true, List, [], ◌∷◌, Option, Some, None, length, get_or, set, refl, sym, ◌∙◌, ap, subst, arith}
use Rattle.std.specs.Prelude.{sum}
use Rattle.std.specs.List.{flat_map}
use Rattle.std.specs.declared.snapshot.Snapshot.{Snapshot}
use Rattle.std.proofs.lemmas.List.{append-nil, append_assoc, length-append, length-set}
use Rattle.std.proofs.lemmas.List.Edits.{length-remove}
use Rattle.std.proofs.lemmas.List.Sums.{sum_by-cons}
use Rattle.std.proofs.lemmas.Option.{slice_get_within}
use mathlib.Core.Option.{some, none, some-injective, some-ne-none}
use mathlib.Core.Option as option
use Rattle.atomic_table.specs.Table.{State}
use Rattle.seat_lock.specs.declared.view.View.{View}
use Rattle.seat_lock.specs.History.{Leads}
use Rattle.seat_lock.specs.Turning.{IsTurning}
use Rattle.mempool_core.specs.Facts.{AddsUp}
use Rattle.mempool_core.specs.Move.{PoolMove}
use Rattle.mempool_core.specs.Pool.{LedgerPool, PoolMoves}
use Rattle.mempool_core.proofs.MoveLemmas.{moves_keep_adds_up}
use Rattle.run_machine.specs.declared.event.Got.{Got}
use Rattle.run_machine.specs.declared.event.Got.TheVariants as got
use Rattle.run_machine.specs.Requests.{Request, Reply, TakeBio, TakeVec, TakeSlip, GiveBio, GiveVec, GiveSlip, Resize, HadBio, HadVec, HadSlip, Missed, Did, OutIs, NoTicket, Punt, Pop, Popped, Push, Complete, Completed, LeftOver, Nothing, Done, NextRound, LookRound, LookLeft, Present}
use Rattle.run_machine.specs.Objects.{TallyState}
use Rattle.bio_records.specs.Rescue.{Rescue}
use Rattle.model_disks.specs.Disks.{DiskState}
use Rattle.task_steps.specs.Service.{Service}
use Rattle.task_core.specs.Plains.{Advances}
use Rattle.task_core.specs.Resizing.{ResizesIfHome}
use Rattle.object_things.specs.Stamps.{Stamped, MarkState, ThingState, Told, StepOf, ThingAnswers, thing_state}
use Rattle.object_things.specs.Histories.{Call}
use Rattle.object_things.specs.Homes.{AddsUpAtHome, AddsUpThroughout, PoolAddsUp, ListAddsUp, DiskAddsUp, TallyAddsUp, punted_by_call, popped_by_call, pushes, completions, dones}
use Rattle.object_things.specs.Pools.{PoolServes, PoolLooks, HasOne, Undone}
use Rattle.object_things.specs.Lists.{ListServes, ListLooks}
use Rattle.object_things.specs.Disks.{DiskServes, DiskLooks}
use Rattle.object_things.specs.Tallies.{TallyServes, TallyLooks}

module _ {O : Type 0} (answers : ThingState O → Request → Told → ThingState O → Type 0) where
  -- a history that is cut
  cut : (old new : ThingState O) (earlier later : List Call) → Leads answers old (earlier ++ later) new
      → (here : ThingState O) × Leads answers old earlier here × Leads answers here later new
  cut old new [] later l = (old, refl, l)
  cut old new (c ∷ cs) later l = let rest = cut l.0 new cs later l.2 in (rest.0, (l.0, l.1, rest.1), rest.2)

  -- what adds up along each history from a state of an object adds up throughout it
  pub throughout_from : (adds_up : O → List Call → O → Type 0) (old new : ThingState O) (history : List Call)
      → ((here : ThingState O) (earlier : List Call) → Leads answers old earlier here → adds_up old.object earlier here.object) → Leads answers old history new
      → AddsUpThroughout answers adds_up old history new
  throughout_from adds_up old new history along l earlier later e =
      let parts = cut old new earlier later (subst (λ (h : List Call). Leads answers old h new) e l) in
      (parts.0, parts.1, along parts.0 earlier parts.1, parts.2)

module _ {O : Type 0} (mark : Stamped O → MarkState) (serves : Service O) (looks : Service (ThingState O))
    (chooses : O → Reply → Option ℕ → Type 0) (adds_up : O → List Call → O → Type 0)
    (still : (object : O) → adds_up object [] object)
    (one : (old mid : ThingState O) (call : Call) (ticket : Option ℕ) (new : O) (rest : List Call) → StepOf serves looks old call.asked call.told.reply ticket mid → adds_up mid.object rest new → adds_up old.object (call ∷ rest) new) where
  along : (old new : ThingState O) (history : List Call) → Leads (ThingAnswers serves looks chooses) old history new → adds_up old.object history new.object
  along old new [] l = subst (λ (k : ThingState O). adds_up old.object [] k.object) l (still old.object)
  along old new (c ∷ cs) l = one old l.0 c c.told.drawn new.object cs l.1.step (along l.0 new cs l.2)

  abbrev homes_tail : List (option.Option (Stamped O)) → option.Option (Stamped O) → option.Option (Stamped O)
  homes_tail [] d = d
  homes_tail (x ∷ xs) d = x

  at_home : (key : Snapshot (Stamped O)) (table : State (Stamped O) (View (Stamped O) Request Told)) (kept : Stamped O)
      → (turning : IsTurning (λ held. thing_state held.object held.stamp) mark (ThingAnswers serves looks chooses) key table) → table.homes ≡ some kept ∷ [] → adds_up key.value.object turning.log kept.object
  at_home key table kept turning home = ⊎_elim
      (λ p. let same : p.0 ≡ kept = some-injective p.0 kept (ap (λ hs. homes_tail hs none) (sym p.1 ∙ home)) in
      subst (λ (k : Stamped O). adds_up key.value.object turning.log k.object) same
      (along (thing_state key.value.object key.value.stamp) (thing_state p.0.object p.0.stamp) turning.log p.2.0))
      (λ p. absurd (some-ne-none kept (ap (λ hs. homes_tail hs (some kept)) (sym home ∙ p.0))))
      turning.place

  pub adds_up_at_home : AddsUpAtHome mark (ThingAnswers serves looks chooses) adds_up
  adds_up_at_home = record {
    along = along;
    throughout = λ old new history l. throughout_from (ThingAnswers serves looks chooses) adds_up old new history (λ here earlier. along old here earlier) l;
    at_home = at_home;
  }

-- pools
moved : {old new : LedgerPool} {move : PoolMove} (history : List Call) → PoolMoves old move new → PoolAddsUp old history new
moved history moves = record { adds_up = moves_keep_adds_up moves.moves; ledger = moves.ledger; most = moves.most }

then : {old mid new : LedgerPool} (first second both : List Call) → PoolAddsUp old first mid → PoolAddsUp mid second new → PoolAddsUp old both new
then first second both a b = record { adds_up = λ s. b.adds_up (a.adds_up s); ledger = b.ledger ∙ a.ledger; most = b.most ∙ a.most }

same_pool : {old new : LedgerPool} → new ≡ old → PoolAddsUp old [] new
same_pool e = record { adds_up = subst (λ (p : LedgerPool). AddsUp p.state.facts) (sym e); ledger = ap (λ (p : LedgerPool). p.ledger) e; most = ap (λ (p : LedgerPool). p.most) e }

had : (old : LedgerPool) (from : Got) (new : LedgerPool) → HasOne old from new → PoolAddsUp old [] new
had old got.Ordinary new h = moved [] h
had old got.Spare new h = moved [] h
had old got.Missed new h = absurd h

resized : (old : LedgerPool) (min out : ℕ) (new : LedgerPool) → ResizesIfHome old min out new → PoolAddsUp old [] new
resized old min out new r = ⊎_elim (λ a. moved [] a.1) (λ b. same_pool b.1) r.1

undone : (waits : Bool) (old new : LedgerPool) → Undone waits old new → PoolAddsUp old [] new
undone waits old new (inl (used, missed)) = moved [] missed.0
undone waits old new (inr (from, between, taken, back)) = then [] [] [] (had old from between taken) (moved [] back)

pool_served : (old : LedgerPool) (asked : Request) (reply : Reply) (new : LedgerPool) → PoolServes old asked reply new → PoolAddsUp old [] new
-- takes
pool_served old (TakeBio set waits) (HadBio from bio) new s = had old from new s.0
pool_served old (TakeBio set waits) (Missed used) new s = moved [] s.0
pool_served old TakeVec (HadVec from vector) new s = had old from new s.0
pool_served old TakeVec (Missed used) new s = moved [] s.0
pool_served old (TakeSlip dev) (HadSlip from slip) new s = had old from new s.0
pool_served old (TakeSlip dev) (Missed used) new s = moved [] s.0
-- gives and resizes
pool_served old (GiveBio bio) Did new s = moved [] s.0
pool_served old (GiveVec vector) Did new s = moved [] s.0
pool_served old (GiveSlip slip) Did new s = moved [] s.0
pool_served old (Resize pool min) (OutIs out) new s = resized old min out new s
pool_served old asked reply new s = absurd s

pool_looked : (old : ThingState LedgerPool) (asked : Request) (reply : Reply) (new : ThingState LedgerPool) → PoolLooks old asked reply new → PoolAddsUp old.object [] new.object
-- takes that miss
pool_looked old (TakeBio set waits) (Missed used) new l = moved [] l.2
pool_looked old TakeVec (Missed used) new l = moved [] l.2
pool_looked old (TakeSlip dev) (Missed used) new l = moved [] l.2
-- takes that find no ticket
pool_looked old (TakeBio set waits) NoTicket new l = undone waits old.object new.object l.0
pool_looked old TakeVec NoTicket new l = undone true old.object new.object l.0
pool_looked old (TakeSlip dev) NoTicket new l = undone true old.object new.object l.0
-- gives and resizes that find none
pool_looked old (GiveBio bio) NoTicket new l = same_pool l.0
pool_looked old (GiveVec vector) NoTicket new l = same_pool l.0
pool_looked old (GiveSlip slip) NoTicket new l = same_pool l.0
pool_looked old (Resize pool min) NoTicket new l = same_pool l.0
pool_looked old asked reply new l = absurd l

pub pool_none : (pool : LedgerPool) → PoolAddsUp pool [] pool
pool_none pool = same_pool refl

pub pool_one : (old mid : ThingState LedgerPool) (call : Call) (ticket : Option ℕ) (new : LedgerPool) (rest : List Call) → StepOf PoolServes PoolLooks old call.asked call.told.reply ticket mid
    → PoolAddsUp mid.object rest new → PoolAddsUp old.object (call ∷ rest) new
pool_one old mid call None new rest step more = then [] rest (call ∷ rest) (pool_looked old call.asked call.told.reply mid step.0) more
pool_one old mid call (Some n) new rest step more = then [] rest (call ∷ rest) (pool_served old.object call.asked call.told.reply mid.object step.0) more

-- lists
list_same : (old new : Rescue) → new ≡ old → old.bios ++ [] ≡ new.bios
list_same old new e = append-nil old.bios ∙ ap (λ (r : Rescue). r.bios) (sym e)

list_served : (old : Rescue) (asked : Request) (reply : Reply) (new : Rescue) → ListServes old asked reply new → old.bios ++ punted_by_call asked reply ≡ popped_by_call asked reply ++ new.bios
list_served old (Punt dev handed) Did new s = ap (λ (r : Rescue). r.bios) (sym s.1)
list_served old (Pop dev) (Popped bio) new s = append-nil old.bios ∙ s.1
list_served old asked reply new s = absurd s

list_looked : (old : ThingState Rescue) (asked : Request) (reply : Reply) (new : ThingState Rescue) → ListLooks old asked reply new
    → old.object.bios ++ punted_by_call asked reply ≡ popped_by_call asked reply ++ new.object.bios
list_looked old (Pop dev) Nothing new l = list_same old.object new.object l.1.0
list_looked old (Punt dev handed) NoTicket new l = list_same old.object new.object l.0
list_looked old (Pop dev) NoTicket new l = list_same old.object new.object l.1.0
list_looked old asked reply new l = absurd l

pub list_none : (list : Rescue) → ListAddsUp list [] list
list_none list = append-nil list.bios

in_turn : {X : Type 0} (old in_now mid out_now in_later new out_later : List X) → old ++ in_now ≡ out_now ++ mid → mid ++ in_later ≡ out_later ++ new
    → old ++ (in_now ++ in_later) ≡ (out_now ++ out_later) ++ new
in_turn old in_now mid out_now in_later new out_later now later =
    sym (append_assoc old in_now in_later) ∙ ap (λ l. l ++ in_later) now ∙ append_assoc out_now mid in_later ∙ ap (λ l. out_now ++ l) later ∙ sym (append_assoc out_now out_later new)

pub list_one : (old mid : ThingState Rescue) (call : Call) (ticket : Option ℕ) (new : Rescue) (rest : List Call) → StepOf ListServes ListLooks old call.asked call.told.reply ticket mid
    → ListAddsUp mid.object rest new → ListAddsUp old.object (call ∷ rest) new
list_one old mid call ticket new rest step more =
    in_turn old.object.bios (punted_by_call call.asked call.told.reply) mid.object.bios (popped_by_call call.asked call.told.reply) (flat_map (λ (c : Call). punted_by_call c.asked c.told.reply) rest) new.bios
    (flat_map (λ (c : Call). popped_by_call c.asked c.told.reply) rest) (by_ticket ticket step) more
  where
    by_ticket : (t : Option ℕ) → StepOf ListServes ListLooks old call.asked call.told.reply t mid → old.object.bios ++ punted_by_call call.asked call.told.reply ≡ popped_by_call call.asked call.told.reply ++ mid.object.bios
    by_ticket None s = list_looked old call.asked call.told.reply mid s.0
    by_ticket (Some n) s = list_served old.object call.asked call.told.reply mid.object s.0

-- disks
disk_same : (old new : DiskState) → new ≡ old → length old.pending + 0 ≡ 0 + length new.pending
disk_same old new e = let l = ap (λ (d : DiskState). length d.pending) e in omega (arith, l)

disk_served : (old : DiskState) (asked : Request) (reply : Reply) (new : DiskState) → DiskServes old asked reply new → length old.pending + pushes asked reply ≡ completions asked reply + length new.pending
disk_served old (Push bio) Did new s = let l = ap (λ (d : DiskState). length d.pending) s.1 in let m = length-append old.pending (bio ∷ []) in omega (arith, l, m)
disk_served old (Complete disk) (Completed index bio status) new s =
    let r = length-remove old.pending index (slice_get_within old.pending index bio s.1.taken) in let l = ap (λ (d : DiskState). length d.pending) s.1.after in omega (arith, l, r)
disk_served old asked reply new s = absurd s

disk_looked : (old : ThingState DiskState) (asked : Request) (reply : Reply) (new : ThingState DiskState) → DiskLooks old asked reply new
    → length old.object.pending + pushes asked reply ≡ completions asked reply + length new.object.pending
disk_looked old (Complete disk) (LeftOver count) new l = disk_same old.object new.object l.1.0
disk_looked old (Complete disk) Nothing new l = disk_same old.object new.object l.1.0
disk_looked old (Push bio) NoTicket new l = disk_same old.object new.object l.0
disk_looked old (Complete disk) NoTicket new l = disk_same old.object new.object l.1.0
disk_looked old asked reply new l = absurd l

pub disk_none : (disk : DiskState) → DiskAddsUp disk [] disk
disk_none disk = omega arith

pub disk_one : (old mid : ThingState DiskState) (call : Call) (ticket : Option ℕ) (new : DiskState) (rest : List Call) → StepOf DiskServes DiskLooks old call.asked call.told.reply ticket mid
    → DiskAddsUp mid.object rest new → DiskAddsUp old.object (call ∷ rest) new
disk_one old mid call ticket new rest step more =
    let a = sum_by-cons (λ (c : Call). pushes c.asked c.told.reply) call rest in let b = sum_by-cons (λ (c : Call). completions c.asked c.told.reply) call rest in
    let now = by_ticket ticket step in omega (arith, a, b, now, more)
  where
    by_ticket : (t : Option ℕ) → StepOf DiskServes DiskLooks old call.asked call.told.reply t mid → length old.object.pending + pushes call.asked call.told.reply ≡ completions call.asked call.told.reply + length mid.object.pending
    by_ticket None s = disk_looked old call.asked call.told.reply mid s.0
    by_ticket (Some n) s = disk_served old.object call.asked call.told.reply mid.object s.0

-- the tally
sum_cons : (x : ℕ) (xs : List ℕ) → sum (x ∷ xs) ≡ x + sum xs
sum_cons x xs = sum_by-cons (λ (n : ℕ). n) x xs

one_less : (xs : List ℕ) (i : ℕ) → (sum (set xs i (get_or xs i 0 - 1)) ≤ sum xs) × (sum xs ≤ sum (set xs i (get_or xs i 0 - 1)) + 1)
one_less [] i = (omega arith, omega arith)
one_less (x ∷ xs) zero = let a = sum_cons x xs in let b = sum_cons (x - 1) xs in (omega (arith, a, b), omega (arith, a, b))
one_less (x ∷ xs) (suc i) =
    let rest = one_less xs i in let m = rest.0 in let n = rest.1 in
    let a = sum_cons x xs in let b = sum_cons x (set xs i (get_or xs i 0 - 1)) in (omega (arith, a, b, m), omega (arith, a, b, n))

-- what a call makes of the tally, with so many writes done in it
record Counts (old : TallyState) (done : ℕ) (new : TallyState) : Type 0 where
  pub left : (sum new.left ≤ sum old.left) × (sum old.left ≤ sum new.left + done)
  pub rounds : length new.left ≡ length old.left
  pub writes : length new.statuses ≡ length old.statuses

tally_same : (old new : TallyState) (done : ℕ) → new ≡ old → Counts old done new
tally_same old new done e = subst (Counts old done) (sym e) (record { left = (omega arith, omega arith); rounds = refl; writes = refl })

tally_advances : (old new : TallyState) → Advances old new → Counts old 0 new
tally_advances old new moves = ⊎_elim
    (λ a. subst (Counts old 0) (sym a.1) (record { left = (omega arith, omega arith); rounds = refl; writes = refl }))
    (λ b. tally_same old new 0 b.1) moves

tally_served : (old : TallyState) (asked : Request) (reply : Reply) (new : TallyState) → TallyServes old asked reply new → Counts old (dones asked reply) new
tally_served old (Done write status) Did new s = subst (Counts old 1) (sym s) (record {
  left = one_less old.left old.round;
  rounds = length-set old.left old.round _;
  writes = length-set old.statuses write status;
})
tally_served old (NextRound round) Did new s = tally_advances old new s
tally_served old asked reply new s = absurd s

tally_looked : (old : ThingState TallyState) (asked : Request) (reply : Reply) (new : ThingState TallyState) → TallyLooks old asked reply new → Counts old.object (dones asked reply) new.object
tally_looked old LookRound (Present round) new l = tally_same old.object new.object 0 l.1.0
tally_looked old LookLeft (LeftOver count) new l = tally_same old.object new.object 0 l.1.0
tally_looked old (Done write status) NoTicket new l = tally_same old.object new.object 0 l.0
tally_looked old (NextRound round) NoTicket new l = tally_same old.object new.object 0 l.0
tally_looked old asked reply new l = absurd l

pub tally_none : (tally : TallyState) → TallyAddsUp tally [] tally
tally_none tally = record { left = (omega arith, omega arith); rounds = refl; writes = refl }

pub tally_one : (old mid : ThingState TallyState) (call : Call) (ticket : Option ℕ) (new : TallyState) (rest : List Call) → StepOf TallyServes TallyLooks old call.asked call.told.reply ticket mid
    → TallyAddsUp mid.object rest new → TallyAddsUp old.object (call ∷ rest) new
tally_one old mid call ticket new rest step more =
    let a = sum_by-cons (λ (c : Call). dones c.asked c.told.reply) call rest in
    let now = by_ticket ticket step in let n = now.left.0 in let o = now.left.1 in let p = more.left.0 in let q = more.left.1 in record {
      left = (omega (arith, n, p), omega (arith, a, o, q));
      rounds = more.rounds ∙ now.rounds;
      writes = more.writes ∙ now.writes;
    }
  where
    by_ticket : (t : Option ℕ) → StepOf TallyServes TallyLooks old call.asked call.told.reply t mid → Counts old.object (dones call.asked call.told.reply) mid.object
    by_ticket None s = tally_looked old call.asked call.told.reply mid s.0
    by_ticket (Some n) s = tally_served old.object call.asked call.told.reply mid.object s.0
