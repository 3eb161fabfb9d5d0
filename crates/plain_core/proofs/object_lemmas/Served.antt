-- Each call of plain objects answers a request of the machine, and where it can't, nothing does. Where it lacks memory, something does.
use Rattle.std.proofs.Common.{◌≡◌, ◌+◌, ◌<◌, ◌==◌, ◌∷◌, ◌++◌, ℕ, Bool, true, false, List, length, refl, sym, ap, ◌∙◌, subst, Option, None, Some, Result, Ok, Err, arith}
use Rattle.std.specs.Prelude.{slice_set}
use Rattle.std.proofs.lemmas.Bool.Decides.{nat_tests}
use Rattle.stack_base.specs.declared.ids.DevId.{DevId}
use Rattle.stack_base.specs.declared.ids.PoolId.{PoolId}
use Rattle.stack_base.specs.declared.ids.Status.{Status}
use Rattle.stack_base.specs.PoolId.{pool_number}
use Rattle.stack_base.specs.declared.ids.SetId.TheVariants.{Of}
use Rattle.bio_records.specs.declared.bio.Pad.{Pad}
use Rattle.bio_records.specs.declared.tasks.TaskLists.{TaskLists}
use Rattle.bio_records.specs.Items.{Item}
use Rattle.mempool_core.specs.Move.{gives, resizes, CanMove}
use Rattle.bio_lists.specs.Punt.{punted}
use Rattle.model_disks.specs.Disks.{DiskState}
use Rattle.model_disks.specs.Moves.{pushed, Completes}
use Rattle.bio_books.specs.Books.{BookState, VectorItem, SlipItem}
use Rattle.bio_books.specs.Drops.{Drops}
use Rattle.bio_books.specs.Drops as drop
use Rattle.bio_books.specs.Links.{Made, NoRoom, Stray}
use Rattle.run_machine.specs.declared.event.End.{End}
use Rattle.run_machine.specs.declared.event.End.TheVariants as ends
use Rattle.run_machine.specs.declared.event.What.{What}
use Rattle.run_machine.specs.declared.event.What.TheVariants as told
use Rattle.run_machine.specs.Requests.{Opening, GiveBio, GiveVec, GiveSlip, Punt, Pop, Push, Complete, Link, Drop, Done, Resize, NextRound, Did, Popped, Completed, LinkedTo, DroppedTo, OutIs, Nothing}
use Rattle.run_machine.specs.Events.{pool_of, how_of, drop_of, resize_of}
use Rattle.run_machine.specs.Maps.{upd}
use Rattle.run_machine.specs.Objects.{OpensNode}
use Rattle.run_machine.proofs.Frames.{upd_same}
use Rattle.plain_core.specs.objects.Books.{ended_of_plain, end_of, IsToldBy}
use Rattle.plain_core.specs.declared.objects.book.NodeOutcome.{NodeOutcome}
use Rattle.plain_core.specs.declared.objects.book.NodeOutcome.TheVariants as ended
use Rattle.plain_core.specs.objects.Plain.{CoreObjects, core_pool_at, core_rescue_at, kept_disk, core_disk_at, disk_or, core_book_at, objects_of_core}
use Rattle.run_machine.specs.Opened.{opened_disk}
use Rattle.plain_core.specs.objects.Told.{MovesAs, IsPunt, Punts, Pops, IsPush, PushesIn, Pushes, CompletesIn, CompletesBio, Links, LinksWithRoom, IsDrop, Finishes, StartsRound}
use Rattle.plain_core.specs.steps.Answers.{IsAnswer, Refuses, HasAnswer, AnswersRequest, Lacks}
use Rattle.plain_core.specs.declared.fault.CoreFault.{CoreFault}
use Rattle.plain_core.specs.declared.fault.CoreFault.TheVariants as fault
use Rattle.plain_core.proofs.object_lemmas.OneChanged.{moves, rescue_set, book_set, disk_set}

-- what is told is one thing
pub one : {X : Type 0} {x y : X} → Some x ≡ Some y → y ≡ x
one same = cc

-- gives
not_given_bio : (old : CoreObjects) (bio : Item Pad) (what : What) → (what ≡ told.Give (pool_of bio.share.no) → CanMove (core_pool_at old bio.share.no) gives → ⊥) → Refuses old (GiveBio bio) what
not_given_bio old bio what never Did new is serves = never (one is) serves.0
not_given_bio old bio what never _ new is serves = absurd serves

pub give_bio : (old new : CoreObjects) (bio : Item Pad) (what : What) (result : Result (Unit {0}) CoreFault)
    → MovesAs old bio.share.no gives (told.Give (pool_of bio.share.no)) what result new → AnswersRequest old (GiveBio bio) what (λ d. Did) result new
give_bio old new bio what (Ok d) t = record { stack = ap (λ (o : CoreObjects). o.stack) t.1.2; told = ap Some (sym t.0); serves = moves old new _ gives t.1 }
give_bio old new bio what (Err fault.NotEnabled) t = (t.0, not_given_bio old bio what t.1)
give_bio old new bio what (Err fault.Memory) t = absurd t

not_given_vec : (old : CoreObjects) (vector : VectorItem) (what : What) → (what ≡ told.Give (pool_of vector.share.no) → CanMove (core_pool_at old vector.share.no) gives → ⊥) → Refuses old (GiveVec vector) what
not_given_vec old vector what never Did new is serves = never (one is) serves.0
not_given_vec old vector what never _ new is serves = absurd serves

pub give_vec : (old new : CoreObjects) (vector : VectorItem) (what : What) (result : Result (Unit {0}) CoreFault)
    → MovesAs old vector.share.no gives (told.Give (pool_of vector.share.no)) what result new → AnswersRequest old (GiveVec vector) what (λ d. Did) result new
give_vec old new vector what (Ok d) t = record { stack = ap (λ (o : CoreObjects). o.stack) t.1.2; told = ap Some (sym t.0); serves = moves old new _ gives t.1 }
give_vec old new vector what (Err fault.NotEnabled) t = (t.0, not_given_vec old vector what t.1)
give_vec old new vector what (Err fault.Memory) t = absurd t

not_given_slip : (old : CoreObjects) (slip : SlipItem) (what : What) → (what ≡ told.Give (pool_of slip.share.no) → CanMove (core_pool_at old slip.share.no) gives → ⊥) → Refuses old (GiveSlip slip) what
not_given_slip old slip what never Did new is serves = never (one is) serves.0
not_given_slip old slip what never _ new is serves = absurd serves

pub give_slip : (old new : CoreObjects) (slip : SlipItem) (what : What) (result : Result (Unit {0}) CoreFault)
    → MovesAs old slip.share.no gives (told.Give (pool_of slip.share.no)) what result new → AnswersRequest old (GiveSlip slip) what (λ d. Did) result new
give_slip old new slip what (Ok d) t = record { stack = ap (λ (o : CoreObjects). o.stack) t.1.2; told = ap Some (sym t.0); serves = moves old new _ gives t.1 }
give_slip old new slip what (Err fault.NotEnabled) t = (t.0, not_given_slip old slip what t.1)
give_slip old new slip what (Err fault.Memory) t = absurd t

resized_by : (pool : PoolId) (min : ℕ) (what : What) (none : Bool) → resize_of none pool min ≡ Some what → (none ≡ true) × (what ≡ told.Resize pool min)
resized_by pool min what true is = (refl, one is)
resized_by pool min what false is = absurd cc

not_resized : (old : CoreObjects) (pool : PoolId) (min : ℕ) (what : What)
    → (what ≡ told.Resize pool min → CanMove (core_pool_at old (pool_number pool)) (resizes min) → ⊥) → Refuses old (Resize pool min) what
not_resized old pool min what never (OutIs out) new is serves =
    let t = resized_by pool min what (out == 0) is in
    let none : out ≡ 0 = grind (arith, nat_tests, t.0) in
    never t.1 (sym serves.0 ∙ none)
not_resized old pool min what never _ new is serves = absurd serves

pub resize : (old new : CoreObjects) (pool : PoolId) (min : ℕ) (what : What) (result : Result (Unit {0}) CoreFault)
    → MovesAs old (pool_number pool) (resizes min) (told.Resize pool min) what result new → AnswersRequest old (Resize pool min) what (λ d. OutIs 0) result new
resize old new pool min what (Ok d) t = record {
  stack = ap (λ (o : CoreObjects). o.stack) t.1.2;
  told = ap Some (sym t.0);
  serves = (sym t.1.0, (moves old new _ (resizes min) t.1).1);
}
resize old new pool min what (Err fault.NotEnabled) t = (t.0, not_resized old pool min what t.1)
resize old new pool min what (Err fault.Memory) t = absurd t

-- rescuers
pub punt_answer : (old new : CoreObjects) (dev : DevId) (lists : TaskLists) (what : What) → IsPunt lists dev what
    → core_rescue_at new dev.0 ≡ core_rescue_at old dev.0 ++ punted (Of dev) lists → new ≡ record old { rescues = slice_set old.rescues dev.0 (core_rescue_at new dev.0) }
    → IsAnswer old (Punt dev (punted (Of dev) lists)) what Did new
punt_answer old new dev lists what is added set = record {
  stack = ap (λ (o : CoreObjects). o.stack) set;
  told = ap Some (sym is);
  serves = rescue_set old new dev.0 set ∙ ap (λ bios. record (objects_of_core old) { rescue = upd (core_rescue_at old) dev.0 bios }) added;
}

pub not_punted : (old : CoreObjects) (dev : DevId) (lists : TaskLists) (what : What) → (IsPunt lists dev what → ⊥) → Refuses old (Punt dev (punted (Of dev) lists)) what
not_punted old dev lists what never Did new is serves = never (one is)
not_punted old dev lists what never _ new is serves = absurd serves

can_punt : (old : CoreObjects) (dev : DevId) (lists : TaskLists) (what : What) → IsPunt lists dev what → HasAnswer old (Punt dev (punted (Of dev) lists)) what
can_punt old dev lists what is = record {
  reply = Did;
  new = record (objects_of_core old) { rescue = upd (core_rescue_at old) dev.0 (core_rescue_at old dev.0 ++ punted (Of dev) lists) };
  told = ap Some (sym is);
  serves = refl;
}

pub punt_failed : (old new : CoreObjects) (dev other : DevId) (lists rest : TaskLists) (what : What) (e : CoreFault) → dev ≡ other → Punts old lists dev what (Err e) new rest
    → Lacks old (Punt other (punted (Of other) lists)) what e new × (rest ≡ lists)
punt_failed old new dev other lists rest what e is p = by e (subst (λ d. Punts old lists d what (Err e) new rest) is p)
  where
    by : (e : CoreFault) → Punts old lists other what (Err e) new rest → Lacks old (Punt other (punted (Of other) lists)) what e new × (rest ≡ lists)
    by fault.NotEnabled p = ((p.0, not_punted old other lists what p.2), p.1)
    by fault.Memory p = ((p.0, can_punt old other lists what p.2), p.1)

not_popped : (old : CoreObjects) (dev : DevId) (what : What)
    → ((part : Item Pad) (rest : List (Item Pad)) → what ≡ told.Pop dev → core_rescue_at old dev.0 ≡ part ∷ rest → ⊥) → Refuses old (Pop dev) what
not_popped old dev what never (Popped bio) new is serves = never bio (new.rescue dev.0) (one is) serves.0
not_popped old dev what never Nothing new is serves = absurd cc
not_popped old dev what never _ new is serves = absurd serves

pub pop : (old new : CoreObjects) (dev : DevId) (what : What) (result : Result (Item Pad) CoreFault) → Pops old dev what result new → AnswersRequest old (Pop dev) what Popped result new
pop old new dev what (Ok part) t = record { stack = ap (λ (o : CoreObjects). o.stack) t.2; told = ap Some (sym t.0); serves = (t.1, rescue_set old new dev.0 t.2) }
pop old new dev what (Err fault.NotEnabled) t = (t.0, not_popped old dev what t.1)
pop old new dev what (Err fault.Memory) t = absurd t

-- disks
pushed_at : (old new : CoreObjects) (part : Item Pad) → PushesIn (kept_disk old part.bio.dev.0) part (kept_disk new part.bio.dev.0)
    → core_disk_at new part.bio.dev.0 ≡ pushed part (core_disk_at old part.bio.dev.0)
pushed_at old new part is = at (kept_disk old part.bio.dev.0) (kept_disk new part.bio.dev.0) is
  where
    at : (before after : Option DiskState) → PushesIn before part after
        → disk_or after (opened_disk new.stack part.bio.dev.0) ≡ pushed part (disk_or before (opened_disk old.stack part.bio.dev.0))
    at None after is = absurd is
    at (Some disk) after is = rw is refl

pub not_pushed : (old : CoreObjects) (part : Item Pad) (what : What) → (IsPush part what → ⊥) → Refuses old (Push part) what
not_pushed old part what never Did new is serves = never (one is)
not_pushed old part what never _ new is serves = absurd serves

pub push : (old new : CoreObjects) (part : Item Pad) (what : What) → Pushes old part what (Ok (tt {0})) new → IsAnswer old (Push part) what Did new
push old new part what t = record {
  stack = ap (λ (o : CoreObjects). o.stack) t.2;
  told = ap Some (sym t.0);
  serves = disk_set old new part.bio.dev.0 t.2 ∙ ap (λ disk. record (objects_of_core old) { disk = upd (core_disk_at old) part.bio.dev.0 disk }) (pushed_at old new part t.1);
}

can_push : (old : CoreObjects) (part : Item Pad) (what : What) → IsPush part what → HasAnswer old (Push part) what
can_push old part what is = record {
  reply = Did;
  new = record (objects_of_core old) { disk = upd (core_disk_at old) part.bio.dev.0 (pushed part (core_disk_at old part.bio.dev.0)) };
  told = ap Some (sym is);
  serves = refl;
}

pub push_failed : (old new : CoreObjects) (part : Item Pad) (what : What) (e : CoreFault) → Pushes old part what (Err e) new → Lacks old (Push part) what e new
push_failed old new part what fault.NotEnabled p = (p.0, not_pushed old part what p.1)
push_failed old new part what fault.Memory p = (p.0, can_push old part what p.1)

completed_at : (old new : CoreObjects) (dev : ℕ) (index : ℕ) (part : Item Pad) (status : Status) → CompletesIn (kept_disk old dev) index part status (kept_disk new dev)
    → Completes (core_disk_at old dev) index part status (core_disk_at new dev)
completed_at old new dev index part status is = at (kept_disk old dev) (kept_disk new dev) is
  where
    at : (before after : Option DiskState) → CompletesIn before index part status after
        → Completes (disk_or before (opened_disk old.stack dev)) index part status (disk_or after (opened_disk new.stack dev))
    at (Some disk) (Some after) is = is
    at (Some disk) None is = absurd is
    at None after is = absurd is

-- a disk that completes a bio is kept, since in others none waits
kept_of : (old : CoreObjects) (dev index : ℕ) (part : Item Pad) (status : Status) (after : DiskState) → Completes (core_disk_at old dev) index part status after
    → CompletesIn (kept_disk old dev) index part status (Some after)
kept_of old dev index part status after is = at (kept_disk old dev) is
  where
    at : (before : Option DiskState) → Completes (disk_or before (opened_disk old.stack dev)) index part status after → CompletesIn before index part status (Some after)
    at (Some disk) is = is
    at None is = absurd (let none : None ≡ Some part = is.taken in cc)

not_completed : (old : CoreObjects) (disk : DevId) (what : What)
    → ((index : ℕ) (part : Item Pad) (status : Status) (after : Option DiskState) → what ≡ told.Complete disk index status
    → CompletesIn (kept_disk old disk.0) index part status after → ⊥) → Refuses old (Complete disk) what
not_completed old disk what never (Completed index bio status) new is serves =
    never index bio status (Some (new.disk disk.0)) (one is) (kept_of old disk.0 index bio status (new.disk disk.0) serves.0)
not_completed old disk what never Nothing new is serves = absurd cc
not_completed old disk what never _ new is serves = absurd serves

pub complete : (old new : CoreObjects) (disk : DevId) (what : What) (result : Result (ℕ × Item Pad × Status) CoreFault) → CompletesBio old disk what result new
    → AnswersRequest old (Complete disk) what (λ done. Completed done.0 done.1 done.2) result new
complete old new disk what (Ok done) t = record {
  stack = ap (λ (o : CoreObjects). o.stack) t.2;
  told = ap Some (sym t.0);
  serves = (completed_at old new disk.0 done.0 done.1 done.2 t.1, disk_set old new disk.0 t.2);
}
complete old new disk what (Err fault.NotEnabled) t = (t.0, not_completed old disk what t.1)
complete old new disk what (Err fault.Memory) t = absurd t

-- books
not_linked : (old : CoreObjects) (writer : ℕ) (opening : Opening) (what : What)
    → ((node : ℕ) (book : BookState) → what ≡ told.Link writer (how_of opening) node → OpensNode (core_book_at old writer) opening (Made node) book → ⊥)
    → Refuses old (Link writer opening) what
not_linked old writer opening what never (LinkedTo (Made node)) new is serves = never node (new.book writer) (one is) serves.0
not_linked old writer opening what never (LinkedTo (NoRoom back)) new is serves = absurd cc
not_linked old writer opening what never (LinkedTo (Stray back)) new is serves = absurd cc
not_linked old writer opening what never _ new is serves = absurd serves

pub link : (old new : CoreObjects) (writer : ℕ) (opening : Opening) (what : What) (result : Result ℕ CoreFault) → Links old writer opening what result new
    → AnswersRequest old (Link writer opening) what (λ node. LinkedTo (Made node)) result new
link old new writer opening what (Ok node) t = record {
  stack = ap (λ (o : CoreObjects). o.stack) t.2;
  told = ap Some (sym t.0);
  serves = (t.1, book_set old new writer t.2);
}
link old new writer opening what (Err fault.NotEnabled) t = (t.0, not_linked old writer opening what t.1)
link old new writer opening what (Err fault.Memory) t = absurd t

pub joined : (old new : CoreObjects) (writer node : ℕ) (opening : Opening) (what : What) → LinksWithRoom old writer opening what (Ok node) new
    → IsAnswer old (Link writer opening) what (LinkedTo (Made node)) new
joined old new writer node opening what t = link old new writer opening what (Ok node) t

can_link : (old : CoreObjects) (writer : ℕ) (opening : Opening) (what : What) (node : ℕ) (book : BookState) → what ≡ told.Link writer (how_of opening) node
    → OpensNode (core_book_at old writer) opening (Made node) book → HasAnswer old (Link writer opening) what
can_link old writer opening what node book is opened =
    let here = sym (upd_same (core_book_at old) writer book) in
    record {
      reply = LinkedTo (Made node);
      new = record (objects_of_core old) { book = upd (core_book_at old) writer book };
      told = ap Some (sym is);
      serves = (subst (OpensNode (core_book_at old writer) opening (Made node)) here opened, ap (λ b. record (objects_of_core old) { book = upd (core_book_at old) writer b }) here);
    }

pub join_failed : (old new : CoreObjects) (writer : ℕ) (opening : Opening) (what : What) (e : CoreFault) → LinksWithRoom old writer opening what (Err e) new
    → Lacks old (Link writer opening) what e new
join_failed old new writer opening what fault.NotEnabled t = link old new writer opening what (Err fault.NotEnabled) t
join_failed old new writer opening what fault.Memory t = (t.0, can_link old writer opening what t.1 t.2 t.3 t.4)

not_dropped : (old : CoreObjects) (writer place : ℕ) (status : Status) (part : Option (Item Pad)) (what : What)
    → ((end : End) (answer : drop.DropOutcome) (book : BookState) → what ≡ told.Drop writer place status end → IsToldBy end answer
    → Drops (core_book_at old writer) place status part answer book → ⊥) → Refuses old (Drop writer place status part) what
not_dropped old writer place status part what never (DroppedTo drop.Left) new is serves = never ends.Left drop.Left (new.book writer) (one is) tt serves.0
not_dropped old writer place status part what never (DroppedTo (drop.Up closed)) new is serves = never ends.Up (drop.Up closed) (new.book writer) (one is) tt serves.0
not_dropped old writer place status part what never (DroppedTo (drop.Top closed)) new is serves = never ends.Top (drop.Top closed) (new.book writer) (one is) tt serves.0
not_dropped old writer place status part what never (DroppedTo (drop.Stray back)) new is serves = absurd cc
not_dropped old writer place status part what never _ new is serves = absurd serves

told_drop : (writer place : ℕ) (status : Status) (e : NodeOutcome) → drop_of writer place status (ended_of_plain e) ≡ Some (told.Drop writer place status (end_of e))
told_drop writer place status ended.Left = refl
told_drop writer place status (ended.Up closed) = refl
told_drop writer place status (ended.Top closed) = refl

pub tell : (old new : CoreObjects) (writer place : ℕ) (status : Status) (part : Option (Item Pad)) (what : What) (result : Result NodeOutcome CoreFault)
    → IsDrop old writer place status part what result new → AnswersRequest old (Drop writer place status part) what (λ e. DroppedTo (ended_of_plain e)) result new
tell old new writer place status part what (Ok e) t = record {
  stack = ap (λ (o : CoreObjects). o.stack) t.2;
  told = told_drop writer place status e ∙ ap Some (sym t.0);
  serves = (t.1, book_set old new writer t.2);
}
tell old new writer place status part what (Err fault.NotEnabled) t = (t.0, not_dropped old writer place status part what t.1)
tell old new writer place status part what (Err fault.Memory) t = absurd t

-- the tally
not_done : (old : CoreObjects) (write : ℕ) (status : Status) (what : What) → (what ≡ told.Done write status → ⊥) → Refuses old (Done write status) what
not_done old write status what never Did new is serves = never (one is)
not_done old write status what never _ new is serves = absurd serves

pub done : (old new : CoreObjects) (write : ℕ) (status : Status) (what : What) (result : Result (Unit {0}) CoreFault)
    → Finishes old write status what result new
    → AnswersRequest old (Done write status) what (λ d. Did) result new
done old new write status what (Ok d) t = record { stack = ap (λ (o : CoreObjects). o.stack) t.1; told = ap Some (sym t.0); serves = ap objects_of_core t.1 }
done old new write status what (Err fault.NotEnabled) t = (t.0, not_done old write status what t.1)
done old new write status what (Err fault.Memory) t = absurd t

not_started : (old : CoreObjects) (round : ℕ) (what : What) → (what ≡ told.Round round → old.tally.round + 1 < length old.tally.left → ⊥) → Refuses old (NextRound round) what
not_started old round what never Did new is serves = never (one is) serves.0
not_started old round what never _ new is serves = absurd serves

pub next_round : (old new : CoreObjects) (round : ℕ) (what : What) (result : Result (Unit {0}) CoreFault)
    → StartsRound old round what result new
    → AnswersRequest old (NextRound round) what (λ d. Did) result new
next_round old new round what (Ok d) t = record { stack = ap (λ (o : CoreObjects). o.stack) t.2; told = ap Some (sym t.0); serves = (t.1, ap objects_of_core t.2) }
next_round old new round what (Err fault.NotEnabled) t = (t.0, not_started old round what t.1)
next_round old new round what (Err fault.Memory) t = absurd t
