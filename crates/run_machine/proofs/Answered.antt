-- An event tells its reply, and a reply what it makes of the objects.
use Rattle.std.proofs.Common.{◌≡◌, ℕ, Bool, true, false, Option, None, Some, refl, sym, ap, ◌∙◌, arith}
use Rattle.std.specs.Prelude.{slice_get}
use Rattle.std.proofs.lemmas.Bool.{true≢false}
use Rattle.elem_ledger.specs.Ledger.{LedgerId}
use Rattle.stack_base.specs.declared.ids.PoolId.{PoolId}
use Rattle.stack_base.specs.declared.ids.Status.{Status}
use Rattle.stack_base.specs.declared.ids.Status.TheVariants as status
use Rattle.stack_base.proofs.ListLemmas.{first_or, behind_first}
use Rattle.bio_records.specs.declared.bio.Pad.{Pad}
use Rattle.bio_records.specs.Items.{Item}
use Rattle.bio_books.specs.Books.{SlipItem, Node, BookState, node_at}
use Rattle.bio_books.specs.Links.{Linked, Made, NoRoom, Stray, ChainsAt, MastersAt, LegsAt}
use Rattle.bio_books.specs.Drops.{DropOutcome, DropsAt}
use Rattle.bio_books.specs.Drops as end
use Rattle.run_machine.specs.declared.event.What.{What}
use Rattle.run_machine.specs.declared.event.What.TheVariants as what
use Rattle.run_machine.specs.declared.event.End.TheVariants as left
use Rattle.run_machine.specs.declared.event.Got.{Got}
use Rattle.run_machine.specs.declared.event.Got.TheVariants.{Ordinary, Spare}
use Rattle.run_machine.specs.declared.event.Got.TheVariants as got
use Rattle.run_machine.specs.Maps.{upd}
use Rattle.run_machine.specs.Requests.{Request, Reply, Opening, Write, Chain, Master, Leg, TakeBio, TakeVec, TakeSlip, GiveBio, GiveVec, GiveSlip, Punt, Pop, Push, Complete, Link, Drop, Done, Resize, NextRound, LookRound, LookLeft, HadBio, HadVec, HadSlip, Missed, Did, Popped, Completed, LinkedTo, DroppedTo, OutIs, Present, LeftOver, Nothing}
use Rattle.run_machine.specs.Objects.{Objects, TakesElement, OpensNode, Serves}
use Rattle.run_machine.specs.Events.{take_of, miss_of, link_of, drop_of, what_of}

-- what an event tells of a reply
abbrev got_in : Option What → Got
got_in (Some (what.Take pool from)) = from
got_in (Some (what.Try pool from)) = from
got_in _ = got.Missed

abbrev place_in : Option What → ℕ
place_in (Some (what.Complete disk index ending)) = index
place_in (Some (what.Link writer how node)) = node
place_in _ = 0

abbrev status_in : Option What → Status
status_in (Some (what.Complete disk index ending)) = ending
status_in _ = status.Ok

-- how a node was left: it waits, it closed under another one, or at the top
abbrev end_in : Option What → ℕ
end_in (Some (what.Drop writer node ending left.Left)) = 1
end_in (Some (what.Drop writer node ending left.Up)) = 2
end_in (Some (what.Drop writer node ending left.Top)) = 3
end_in _ = 0

abbrev is_told : Option What → Bool
is_told None = false
is_told (Some told) = true

-- what is not told is no event
untold : {P : Type 0} (told : Option What) (event : What) → is_told told ≡ false → told ≡ Some event → P
untold told event not is = absurd (true≢false (sym (ap is_told is) ∙ not))

abbrev some_or : {X : Type 0} → X → Option X → X
some_or x None = x
some_or x (Some y) = y

-- a miss is told as one, or not at all
miss_got : (waits used : Bool) (pool : PoolId) → got_in (miss_of waits used pool) ≡ got.Missed
miss_got true true pool = refl
miss_got true false pool = refl
miss_got false used pool = refl

take_got : (waits : Bool) (pool : PoolId) (from : Got) → got_in (Some (take_of waits pool from)) ≡ from
take_got true pool from = refl
take_got false pool from = refl

-- a take that had an element did not miss
had_no_miss : {P : Type 0} (old new : Objects) (number : ℕ) (from : Got) → TakesElement old number from new → from ≡ got.Missed → P
had_no_miss old new number Ordinary has is = absurd (let e : Ordinary ≡ got.Missed = is in cc)
had_no_miss old new number Spare has is = absurd (let e : Spare ≡ got.Missed = is in cc)
had_no_miss old new number got.Missed has is = absurd has

-- and an element that it had is as the ledger's pool hands it out
one_had : (old new other : Objects) (number : ℕ) (from : Got) → TakesElement old number from new → TakesElement old number from other → new ≡ other
one_had old new other number Ordinary a b = a.1 ∙ sym b.1
one_had old new other number Spare a b = a.1 ∙ sym b.1
one_had old new other number got.Missed a b = absurd a

-- a node that is told of an end closes or waits, as the event tells
one_end : (old : BookState) (writer place : ℕ) (at : Option Node) (ending : Status) (part : Option (Item Pad)) (first second : DropOutcome) (new other : BookState)
    → drop_of writer place ending first ≡ drop_of writer place ending second
    → DropsAt old place at ending part first new → DropsAt old place at ending part second other → first ≡ second
-- the node waits for others
one_end old writer place (Some node) ending part end.Left end.Left new other is a b = refl
one_end old writer place (Some node) ending part end.Left (end.Up closed) new other is a b = absurd (let e : 1 ≡ 2 = ap end_in is in omega arith)
one_end old writer place (Some node) ending part end.Left (end.Top closed) new other is a b = absurd (let e : 1 ≡ 3 = ap end_in is in omega arith)
one_end old writer place (Some node) ending part end.Left (end.Stray back) new other is a b = absurd b
-- it closes under another node
one_end old writer place (Some node) ending part (end.Up closed) end.Left new other is a b = absurd (let e : 2 ≡ 1 = ap end_in is in omega arith)
one_end old writer place (Some node) ending part (end.Up closed) (end.Up again) new other is a b = ap end.Up (a.2 ∙ sym b.2)
one_end old writer place (Some node) ending part (end.Up closed) (end.Top again) new other is a b = absurd (let e : 2 ≡ 3 = ap end_in is in omega arith)
one_end old writer place (Some node) ending part (end.Up closed) (end.Stray back) new other is a b = absurd b
-- it closes at the top
one_end old writer place (Some node) ending part (end.Top closed) end.Left new other is a b = absurd (let e : 3 ≡ 1 = ap end_in is in omega arith)
one_end old writer place (Some node) ending part (end.Top closed) (end.Up again) new other is a b = absurd (let e : 3 ≡ 2 = ap end_in is in omega arith)
one_end old writer place (Some node) ending part (end.Top closed) (end.Top again) new other is a b = ap end.Top (a.2 ∙ sym b.2)
one_end old writer place (Some node) ending part (end.Top closed) (end.Stray back) new other is a b = absurd b
-- an open node is not refused
one_end old writer place (Some node) ending part (end.Stray back) second new other is a b = absurd a
-- no node is open there: it is refused
one_end old writer place None ending part (end.Stray back) (end.Stray again) new other is a b = ap end.Stray (a.0 ∙ sym b.0)
one_end old writer place None ending part (end.Stray back) end.Left new other is a b = absurd b
one_end old writer place None ending part (end.Stray back) (end.Up closed) new other is a b = absurd b
one_end old writer place None ending part (end.Stray back) (end.Top closed) new other is a b = absurd b
one_end old writer place None ending part end.Left second new other is a b = absurd a
one_end old writer place None ending part (end.Up closed) second new other is a b = absurd a
one_end old writer place None ending part (end.Top closed) second new other is a b = absurd a

one_dropped : (old : BookState) (place : ℕ) (at : Option Node) (ending : Status) (part : Option (Item Pad)) (ended : DropOutcome) (new other : BookState)
    → DropsAt old place at ending part ended new → DropsAt old place at ending part ended other → new ≡ other
-- an open node waits for others, or closes
one_dropped old place (Some node) ending part end.Left new other a b = a.1 ∙ sym b.1
one_dropped old place (Some node) ending part (end.Up closed) new other a b = a.3 ∙ sym b.3
one_dropped old place (Some node) ending part (end.Top closed) new other a b = a.3 ∙ sym b.3
one_dropped old place (Some node) ending part (end.Stray back) new other a b = absurd a
-- no node is open there
one_dropped old place None ending part (end.Stray back) new other a b = a.1 ∙ sym b.1
one_dropped old place None ending part end.Left new other a b = absurd a
one_dropped old place None ending part (end.Up closed) new other a b = absurd a
one_dropped old place None ending part (end.Top closed) new other a b = absurd a

-- a node that is opened at a place, or not
one_chained : (old : BookState) (parent : ℕ) (at : Option Node) (answer : Linked) (new other : BookState)
    → ChainsAt old parent at answer new → ChainsAt old parent at answer other → new ≡ other
one_chained old parent (Some node) (Made place) new other a b = a.2 ∙ sym b.2
one_chained old parent (Some node) (NoRoom back) new other a b = a.2 ∙ sym b.2
one_chained old parent (Some node) (Stray back) new other a b = absurd a
one_chained old parent None (Stray back) new other a b = a.1 ∙ sym b.1
one_chained old parent None (Made place) new other a b = absurd a
one_chained old parent None (NoRoom back) new other a b = absurd a

one_mastered : (old : BookState) (parent : ℕ) (at : Option Node) (part : Item Pad) (slip : SlipItem) (legs : ℕ) (answer : Linked) (new other : BookState)
    → MastersAt old parent at part slip legs answer new → MastersAt old parent at part slip legs answer other → new ≡ other
one_mastered old parent (Some node) part slip legs (Made place) new other a b = a.1 ∙ sym b.1
one_mastered old parent (Some node) part slip legs (NoRoom back) new other a b = a.2 ∙ sym b.2
one_mastered old parent (Some node) part slip legs (Stray back) new other a b = absurd a
one_mastered old parent None part slip legs (Stray back) new other a b = a.1 ∙ sym b.1
one_mastered old parent None part slip legs (Made place) new other a b = absurd a
one_mastered old parent None part slip legs (NoRoom back) new other a b = absurd a

one_legged : (old : BookState) (master : ℕ) (at : Option Node) (answer : Linked) (new other : BookState)
    → LegsAt old master at answer new → LegsAt old master at answer other → new ≡ other
one_legged old master (Some node) (Made place) new other a b = a.1 ∙ sym b.1
one_legged old master (Some node) (NoRoom back) new other a b = a.2 ∙ sym b.2
one_legged old master (Some node) (Stray back) new other a b = absurd a
one_legged old master None (Stray back) new other a b = a.1 ∙ sym b.1
one_legged old master None (Made place) new other a b = absurd a
one_legged old master None (NoRoom back) new other a b = absurd a

one_opened : (old : BookState) (opening : Opening) (answer : Linked) (new other : BookState)
    → OpensNode old opening answer new → OpensNode old opening answer other → new ≡ other
-- a write begins with a vacant place
one_opened old (Write write vector) (Made place) new other a b = a.1 ∙ sym b.1
one_opened old (Write write vector) (NoRoom back) new other a b = a.2 ∙ sym b.2
one_opened old (Write write vector) (Stray back) new other a b = absurd a
-- a front, a master and a leg stand under an open node
one_opened old (Chain parent) answer new other a b = one_chained old parent (node_at old parent) answer new other a b
one_opened old (Master parent part slip legs) answer new other a b = one_mastered old parent (node_at old parent) part slip legs answer new other a b
one_opened old (Leg master) answer new other a b = one_legged old master (node_at old master) answer new other a b

-- a link that is told was made, and at the place that is told
one_linked : (writer : ℕ) (opening : Opening) (first second : Linked) (event : What)
    → link_of writer opening first ≡ Some event → link_of writer opening second ≡ Some event → first ≡ second
one_linked writer opening (Made place) (Made again) event a b = ap Made (ap place_in (a ∙ sym b))
one_linked writer opening (Made place) (NoRoom back) event a b = untold None event refl b
one_linked writer opening (Made place) (Stray back) event a b = untold None event refl b
one_linked writer opening (NoRoom back) second event a b = untold None event refl a
one_linked writer opening (Stray back) second event a b = untold None event refl a

-- with one reply a request makes one of the objects
pub one_served : (ledger : ℕ → LedgerId) (old new other : Objects) (asked : Request) (reply : Reply)
    → Serves ledger old asked reply new → Serves ledger old asked reply other → new ≡ other
-- takes: an element, or a miss
one_served ledger old new other (TakeBio set waits) (HadBio from bio) a b = one_had old new other _ from a.0 b.0
one_served ledger old new other (TakeBio set waits) (Missed used) a b = a.1 ∙ sym b.1
one_served ledger old new other TakeVec (HadVec from vector) a b = one_had old new other _ from a.0 b.0
one_served ledger old new other TakeVec (Missed used) a b = a.1 ∙ sym b.1
one_served ledger old new other (TakeSlip dev) (HadSlip from slip) a b = one_had old new other _ from a.0 b.0
one_served ledger old new other (TakeSlip dev) (Missed used) a b = a.1 ∙ sym b.1
-- gives
one_served ledger old new other (GiveBio bio) Did a b = a.1 ∙ sym b.1
one_served ledger old new other (GiveVec vector) Did a b = a.1 ∙ sym b.1
one_served ledger old new other (GiveSlip slip) Did a b = a.1 ∙ sym b.1
-- lists of rescuers
one_served ledger old new other (Punt dev moved) Did a b = a ∙ sym b
one_served ledger old new other (Pop dev) (Popped bio) a b =
    a.1 ∙ ap (λ bios. record old { rescue = upd old.rescue dev.0 bios }) (ap behind_first (sym a.0 ∙ b.0)) ∙ sym b.1
one_served ledger old new other (Pop dev) Nothing a b = a.1 ∙ sym b.1
-- disks
one_served ledger old new other (Push bio) Did a b = a ∙ sym b
one_served ledger old new other (Complete disk) (Completed index bio ending) a b =
    a.1 ∙ ap (λ now. record old { disk = upd old.disk disk.0 now }) (a.0.after ∙ sym b.0.after) ∙ sym b.1
one_served ledger old new other (Complete disk) Nothing a b = a.1 ∙ sym b.1
-- books: a node is opened, or told of an end
one_served ledger old new other (Link writer opening) (LinkedTo answer) a b =
    a.1 ∙ ap (λ now. record old { book = upd old.book writer now }) (one_opened (old.book writer) opening answer _ _ a.0 b.0) ∙ sym b.1
one_served ledger old new other (Drop writer node ending part) (DroppedTo ended) a b =
    a.1 ∙ ap (λ now. record old { book = upd old.book writer now }) (one_dropped (old.book writer) node (node_at (old.book writer) node) ending part ended _ _ a.0 b.0) ∙ sym b.1
-- the tally, reserves and looks
one_served ledger old new other (Done write ending) Did a b = a ∙ sym b
one_served ledger old new other (Resize pool min) (OutIs out) a b = a.1 ∙ sym b.1
one_served ledger old new other (NextRound round) Did a b = a.1 ∙ sym b.1
one_served ledger old new other LookRound (Present round) a b = a.1 ∙ sym b.1
one_served ledger old new other LookLeft (LeftOver count) a b = a.1 ∙ sym b.1
-- no other reply is one to the request
one_served ledger old new other asked reply a b = absurd a

-- an event tells the reply
pub one_reply : (ledger : ℕ → LedgerId) (old new other : Objects) (asked : Request) (first second : Reply) (event : What)
    → what_of asked first ≡ Some event → what_of asked second ≡ Some event
    → Serves ledger old asked first new → Serves ledger old asked second other → first ≡ second
-- takes: the event says whether there was an element, and whose
one_reply ledger old new other (TakeBio set waits) (HadBio from bio) (HadBio again like) event told re a b =
    let same = sym (take_got waits _ from) ∙ ap got_in (told ∙ sym re) ∙ take_got waits _ again in
    let is = a.1 ∙ sym b.1 in
    λ k. HadBio (same k) (is k)
one_reply ledger old new other (TakeBio set waits) (HadBio from bio) (Missed used) event told re a b =
    had_no_miss old new _ from a.0 (sym (take_got waits _ from) ∙ ap got_in (told ∙ sym re) ∙ miss_got waits used _)
one_reply ledger old new other (TakeBio set waits) (Missed used) (HadBio again like) event told re a b =
    had_no_miss old other _ again b.0 (sym (take_got waits _ again) ∙ ap got_in (re ∙ sym told) ∙ miss_got waits used _)
one_reply ledger old new other (TakeBio set waits) (Missed used) (Missed too) event told re a b = ap Missed (a.0.1 ∙ sym b.0.1)
one_reply ledger old new other TakeVec (HadVec from vector) (HadVec again like) event told re a b =
    let same = ap got_in (told ∙ sym re) in
    let is = a.1 ∙ sym b.1 in
    λ k. HadVec (same k) (is k)
one_reply ledger old new other TakeVec (HadVec from vector) (Missed used) event told re a b =
    had_no_miss old new _ from a.0 (ap got_in (told ∙ sym re) ∙ miss_got true used _)
one_reply ledger old new other TakeVec (Missed used) (HadVec again like) event told re a b =
    had_no_miss old other _ again b.0 (ap got_in (re ∙ sym told) ∙ miss_got true used _)
one_reply ledger old new other TakeVec (Missed used) (Missed too) event told re a b = ap Missed (a.0.1 ∙ sym b.0.1)
one_reply ledger old new other (TakeSlip dev) (HadSlip from slip) (HadSlip again like) event told re a b =
    let same = ap got_in (told ∙ sym re) in
    let is = a.1 ∙ sym b.1 in
    λ k. HadSlip (same k) (is k)
one_reply ledger old new other (TakeSlip dev) (HadSlip from slip) (Missed used) event told re a b =
    had_no_miss old new _ from a.0 (ap got_in (told ∙ sym re) ∙ miss_got true used _)
one_reply ledger old new other (TakeSlip dev) (Missed used) (HadSlip again like) event told re a b =
    had_no_miss old other _ again b.0 (ap got_in (re ∙ sym told) ∙ miss_got true used _)
one_reply ledger old new other (TakeSlip dev) (Missed used) (Missed too) event told re a b = ap Missed (a.0.1 ∙ sym b.0.1)
-- gives have one reply
one_reply ledger old new other (GiveBio bio) Did Did event told re a b = refl
one_reply ledger old new other (GiveVec vector) Did Did event told re a b = refl
one_reply ledger old new other (GiveSlip slip) Did Did event told re a b = refl
-- lists of rescuers: a bio that is popped is the first
one_reply ledger old new other (Punt dev moved) Did Did event told re a b = refl
one_reply ledger old new other (Pop dev) (Popped bio) (Popped like) event told re a b = ap Popped (ap (first_or bio) (sym a.0 ∙ b.0))
one_reply ledger old new other (Pop dev) (Popped bio) Nothing event told re a b = untold None event refl re
one_reply ledger old new other (Pop dev) Nothing second event told re a b = untold None event refl told
-- disks: the event says at which place a bio was, and how it ended
one_reply ledger old new other (Push bio) Did Did event told re a b = refl
one_reply ledger old new other (Complete disk) (Completed index bio ending) (Completed at like status_too) event told re a b =
    let same = ap place_in (told ∙ sym re) in
    let so = ap status_in (told ∙ sym re) in
    let is = ap (some_or bio) (sym a.0.taken ∙ ap (slice_get (old.disk disk.0).pending) same ∙ b.0.taken) in
    λ k. Completed (same k) (is k) (so k)
one_reply ledger old new other (Complete disk) (Completed index bio ending) Nothing event told re a b = untold None event refl re
one_reply ledger old new other (Complete disk) Nothing second event told re a b = untold None event refl told
-- books: the event says the place of a node, and how one closed
one_reply ledger old new other (Link writer opening) (LinkedTo answer) (LinkedTo again) event told re a b =
    ap LinkedTo (one_linked writer opening answer again event told re)
one_reply ledger old new other (Drop writer node ending part) (DroppedTo ended) (DroppedTo again) event told re a b =
    ap DroppedTo (one_end (old.book writer) writer node (node_at (old.book writer) node) ending part ended again _ _ (told ∙ sym re) a.0 b.0)
-- the tally and reserves have one reply, and a look is no event
one_reply ledger old new other (Done write ending) Did Did event told re a b = refl
one_reply ledger old new other (Resize pool min) (OutIs out) (OutIs count) event told re a b = ap OutIs (a.0 ∙ sym b.0)
one_reply ledger old new other (NextRound round) Did Did event told re a b = refl
one_reply ledger old new other LookRound (Present round) second event told re a b = untold None event refl told
one_reply ledger old new other LookLeft (LeftOver count) second event told re a b = untold None event refl told
-- a second reply of another kind is none to the request
one_reply ledger old new other (TakeBio set waits) (HadBio from bio) second event told re a b = absurd b
one_reply ledger old new other (TakeBio set waits) (Missed used) second event told re a b = absurd b
one_reply ledger old new other TakeVec (HadVec from vector) second event told re a b = absurd b
one_reply ledger old new other TakeVec (Missed used) second event told re a b = absurd b
one_reply ledger old new other (TakeSlip dev) (HadSlip from slip) second event told re a b = absurd b
one_reply ledger old new other (TakeSlip dev) (Missed used) second event told re a b = absurd b
one_reply ledger old new other (GiveBio bio) Did second event told re a b = absurd b
one_reply ledger old new other (GiveVec vector) Did second event told re a b = absurd b
one_reply ledger old new other (GiveSlip slip) Did second event told re a b = absurd b
one_reply ledger old new other (Punt dev moved) Did second event told re a b = absurd b
one_reply ledger old new other (Pop dev) (Popped bio) second event told re a b = absurd b
one_reply ledger old new other (Push bio) Did second event told re a b = absurd b
one_reply ledger old new other (Complete disk) (Completed index bio ending) second event told re a b = absurd b
one_reply ledger old new other (Link writer opening) (LinkedTo answer) second event told re a b = absurd b
one_reply ledger old new other (Drop writer node ending part) (DroppedTo ended) second event told re a b = absurd b
one_reply ledger old new other (Done write ending) Did second event told re a b = absurd b
one_reply ledger old new other (Resize pool min) (OutIs out) second event told re a b = absurd b
one_reply ledger old new other (NextRound round) Did second event told re a b = absurd b
-- nor is a first one
one_reply ledger old new other asked first second event told re a b = absurd a
