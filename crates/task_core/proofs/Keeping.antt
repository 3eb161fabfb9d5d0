-- What a call makes of the objects of a stage are objects of this stage, and what it hands out is at home.
use Rattle.std.proofs.Common.{◌≡◌, ◌+◌, ◌-◌, ◌*◌, ◌/◌, ◌%◌, ◌<◌, ◌≤◌, ◌==◌, ◌&&◌, if◌then◌else◌, ℕ, Bool, true, false, List, length, take, drop, sum, set, get_or, Some, refl, sym, ap, subst, ◌∙◌, arith, suc}
use Rattle.std.specs.Prelude.{IsTrue, slice_get}
use Rattle.std.proofs.lemmas.Grind.{common_steps}
use Rattle.std.proofs.lemmas.List.{length-set}
use Rattle.std.proofs.lemmas.List.Elements.{All-append, All-drop, All-head, All-push, All-rest, All-take}
use Rattle.std.proofs.lemmas.List.Sums.{sum_by-set}
use Rattle.std.proofs.lemmas.Option.{get_or_from_slice_get, slice_get_within}
use Rattle.std.proofs.lemmas.Bool.{or_right}
use Rattle.elem_ledger.specs.Ledger.{LedgerId}
use Rattle.stack_base.specs.declared.ids.DevId.{DevId}
use Rattle.stack_base.specs.declared.ids.SetId.{SetId}
use Rattle.stack_base.specs.declared.ids.SetId.TheVariants.{Fs, Of}
use Rattle.stack_base.specs.declared.ids.PoolId.TheVariants.{Records}
use Rattle.stack_base.specs.declared.ids.Status.{Status}
use Rattle.stack_base.specs.declared.ids.Status.TheVariants.{Ok}
use Rattle.stack_base.specs.PoolId.{pool_number}
use Rattle.stack_base.specs.Fault.{status_eq}
use Rattle.stack_base.specs.Tree.{tree, size}
use Rattle.mempool_core.specs.Move.{PoolState}
use Rattle.bioset_pools.specs.Sets.{bios_of}
use Rattle.bio_records.specs.declared.bio.Pad.{Pad}
use Rattle.bio_records.specs.Items.{Item}
use Rattle.model_disks.specs.Disks.{DiskState}
use Rattle.model_disks.specs.Moves.{pushed, written, Completes}
use Rattle.model_disks.proofs.MoveLemmas.{bios_write_their_sectors}
use Rattle.bio_books.specs.Books.{VectorItem, SlipItem, BookState}
use Rattle.run_machine.specs.declared.event.Got.{Got}
use Rattle.run_machine.specs.declared.event.Got.TheVariants.{Ordinary, Spare}
use Rattle.run_machine.specs.declared.event.Got.TheVariants as got
use Rattle.run_machine.specs.Maps.{upd}
use Rattle.run_machine.specs.Scene.{has_set}
use Rattle.task_steps.specs.Routed.{routing_setup}
use Rattle.run_machine.specs.Requests.{Request, Reply, TakeBio, TakeVec, TakeSlip, GiveBio, GiveVec, GiveSlip, Punt, Pop, Push, Complete, Link, Drop, Done, Resize, NextRound, LookRound, LookLeft, HadBio, HadVec, HadSlip, Missed, Did, Popped, Completed, LinkedTo, DroppedTo, OutIs, Present, LeftOver, Nothing}
use Rattle.run_machine.specs.Objects.{TallyState, Objects, TakesElement, Serves, done_one}
use Rattle.run_machine.specs.Opened.{device_at}
use Rattle.task_steps.specs.Stage.{Stage, has_mirror, is_set, is_bios, is_vecs, is_slips, IsHomeInPool, IsServed, AreServed, RequestFits, Owes}
use Rattle.task_core.specs.ObjectsOf.{IsDiskOf, IsBookOf, IsTallyOf, AreObjectsOf, AreNumbered}
use Rattle.run_machine.proofs.Frames.{upd_keeps}
use Rattle.task_core.proofs.StageBooks.{node_is, links_is, drops_is}

-- the numbers of pools by their kinds
even_of : (d : ℕ) → ((2 * d) % 2 ≡ 0) × ((2 * d) / 2 ≡ d)
even_of d = (omega arith, omega arith)

odd_of : (d : ℕ) → ((2 * d + 1) % 2 ≡ 1) × ((2 * d + 1) / 2 ≡ d)
odd_of d = (omega arith, omega arith)

pub set_is_bios : (stage : Stage) (of : SetId) → IsTrue (is_set stage of) → IsTrue (is_bios stage (pool_number (bios_of of)))
set_is_bios stage Fs is = refl
set_is_bios stage (Of dev) is =
    let even = even_of dev.0 in
    let right : ((2 * dev.0) % 2 == 0 && has_set (routing_setup stage.routing) ((2 * dev.0) / 2)) ≡ true = rw (even.0, even.1) is in
    rw (right) (or_right (2 * dev.0 == 65) true refl)

pub mirror_is_slips : (stage : Stage) (dev : DevId) → IsTrue (has_mirror stage dev) → IsTrue (is_slips stage (pool_number (Records dev)))
mirror_is_slips stage dev is = let odd = odd_of dev.0 in rw (odd.0, odd.1) is

module _ (stage : Stage) where
  -- an element that is taken is of the ledger of its pool
  pub home_in_pool : (is_kind : Stage → ℕ → Bool) (number : ℕ) (share : LedgerId) → AreNumbered stage → IsTrue (is_kind stage number)
      → share ≡ stage.ledger number → IsHomeInPool stage is_kind number share
  home_in_pool is_kind number share numbered kind is =
      let same : share.no ≡ number = ap (λ (l : LedgerId). l.no) is ∙ numbered number in
      record {
        numbered = same;
        home = record { ledger = is ∙ ap stage.ledger (sym same); kind = subst (λ n. IsTrue (is_kind stage n)) (sym same) kind };
      }

  -- one object changes
  pools_change : (old : Objects) (pools : ℕ → PoolState) → AreObjectsOf stage old → AreObjectsOf stage (record old { pool = pools })
  pools_change old pools all = record { rescue = all.rescue; disk = all.disk; book = all.book; tally = all.tally }

  list_changes : (old : Objects) (dev : ℕ) (bios : List (Item Pad)) → AreServed stage bios → AreObjectsOf stage old
      → AreObjectsOf stage (record old { rescue = upd old.rescue dev bios })
  list_changes old dev bios are all = record {
    rescue = upd_keeps (λ n x. AreServed stage x) old.rescue dev bios all.rescue are;
    disk = all.disk;
    book = all.book;
    tally = all.tally;
  }

  disk_changes : (old : Objects) (dev : ℕ) (disk : DiskState) → IsDiskOf stage dev disk → AreObjectsOf stage old
      → AreObjectsOf stage (record old { disk = upd old.disk dev disk })
  disk_changes old dev disk is all = record {
    rescue = all.rescue;
    disk = upd_keeps (IsDiskOf stage) old.disk dev disk all.disk is;
    book = all.book;
    tally = all.tally;
  }

  book_changes : (old : Objects) (writer : ℕ) (book : BookState) → IsBookOf stage writer book → AreObjectsOf stage old
      → AreObjectsOf stage (record old { book = upd old.book writer book })
  book_changes old writer book is all = record {
    rescue = all.rescue;
    disk = all.disk;
    book = upd_keeps (IsBookOf stage) old.book writer book all.book is;
    tally = all.tally;
  }

  tally_changes : (old : Objects) (tally : TallyState) → IsTallyOf stage tally → AreObjectsOf stage old → AreObjectsOf stage (record old { tally = tally })
  tally_changes old tally is all = record { rescue = all.rescue; disk = all.disk; book = all.book; tally = is }

  -- disks
  abbrev pub IsAtDisk : ℕ → Item Pad → Type 0
  IsAtDisk dev item = IsServed stage item × (item.bio.dev ≡ device_at dev)

  pub pushed_is : (dev : ℕ) (item : Item Pad) (disk : DiskState) → IsAtDisk dev item → IsDiskOf stage dev disk → IsDiskOf stage dev (pushed item disk)
  pushed_is dev item disk is all = record {
    dev_is = all.dev_is;
    sectors = all.sectors;
    bads = all.bads;
    pending = All-push (IsAtDisk dev) disk.pending item all.pending is;
  }

  pub waits_there : (dev index : ℕ) (item : Item Pad) (disk : DiskState) → IsDiskOf stage dev disk → slice_get disk.pending index ≡ Some item → IsAtDisk dev item
  waits_there dev index item disk all taken =
      subst (IsAtDisk dev) (get_or_from_slice_get disk.pending index item item taken)
      (all.pending index item (slice_get_within disk.pending index item taken))

  image_keeps : (dev : ℕ) (item : Item Pad) (disk : DiskState) → IsDiskOf stage dev disk → IsAtDisk dev item → (b : Bool)
      → length (if b then written item.bio disk.image else disk.image) ≡ size (tree stage.routing.stack dev)
  image_keeps dev item disk all is false = all.sectors
  image_keeps dev item disk all is true =
      let inside = is.0.within.within in
      let here : size (tree stage.routing.stack item.bio.dev.0) ≡ size (tree stage.routing.stack dev) =
      ap (λ (d : DevId). size (tree stage.routing.stack d.0)) is.1 in
      let sectors = all.sectors in
      bios_write_their_sectors.size item.bio disk.image (omega (arith, inside, here, sectors)) ∙ sectors

  pub completed_is : (dev index : ℕ) (item : Item Pad) (ending : Status) (old new : DiskState) → IsDiskOf stage dev old → Completes old index item ending new
      → IsDiskOf stage dev new
  completed_is dev index item ending old new all is =
      let here = waits_there dev index item old all is.taken in
      subst (IsDiskOf stage dev) (sym is.after) (
      record {
        dev_is = all.dev_is;
        sectors = image_keeps dev item old all here (status_eq ending Ok);
        bads = all.bads;
        pending =
            All-append (IsAtDisk dev) (take index old.pending) (drop (suc index) old.pending)
            (All-take (IsAtDisk dev) index old.pending all.pending) (All-drop (IsAtDisk dev) (suc index) old.pending all.pending);
      }
      )

  -- the tally
  lower_sum : (left : List ℕ) (round : ℕ) → round < length left → sum (set left round (get_or left round 0 - 1)) ≤ sum left
  lower_sum left round lt = grind (arith, common_steps, sum_by-set)

  pub done_is : (write : ℕ) (status : Status) (tally : TallyState) → IsTallyOf stage tally → IsTallyOf stage (done_one write status tally)
  done_is write status tally is =
      let less = lower_sum tally.left tally.round is.round in
      let few = is.left in
      record {
        round = subst (λ n. tally.round < n) (sym (length-set tally.left _ _)) is.round;
        left = omega (arith, less, few);
        statuses = length-set tally.statuses write status ∙ is.statuses;
      }

  resized_is : (old new : Objects) (pools : ℕ → PoolState) (home : Bool) → AreObjectsOf stage old
      → new ≡ (if home then record old { pool = pools } else old) → AreObjectsOf stage new
  resized_is old new pools true all is = subst (AreObjectsOf stage) (sym is) (pools_change old pools all)
  resized_is old new pools false all is = subst (AreObjectsOf stage) (sym is) all

  moved_is : (old new : Objects) (pools : ℕ → PoolState) → AreObjectsOf stage old → new ≡ record old { pool = pools } → AreObjectsOf stage new
  moved_is old new pools all is = subst (AreObjectsOf stage) (sym is) (pools_change old pools all)

  had_is : (old new : Objects) (number : ℕ) (from : Got) → AreObjectsOf stage old → TakesElement old number from new → AreObjectsOf stage new
  had_is old new number Ordinary all has = moved_is old new _ all has.1
  had_is old new number Spare all has = moved_is old new _ all has.1
  had_is old new number got.Missed all has = absurd has

  pub objects_stay : (old new : Objects) (request : Request) (reply : Reply) → RequestFits stage request → AreObjectsOf stage old
      → Serves stage.ledger old request reply new → AreObjectsOf stage new
  -- takes and gives change pools alone
  objects_stay old new (TakeBio set waits) (HadBio from bio) fits all serves = had_is old new _ from all serves.0
  objects_stay old new (TakeBio set waits) (Missed used) fits all serves = moved_is old new _ all serves.1
  objects_stay old new TakeVec (HadVec from vector) fits all serves = had_is old new _ from all serves.0
  objects_stay old new TakeVec (Missed used) fits all serves = moved_is old new _ all serves.1
  objects_stay old new (TakeSlip dev) (HadSlip from slip) fits all serves = had_is old new _ from all serves.0
  objects_stay old new (TakeSlip dev) (Missed used) fits all serves = moved_is old new _ all serves.1
  objects_stay old new (GiveBio bio) Did fits all serves = moved_is old new _ all serves.1
  objects_stay old new (GiveVec vector) Did fits all serves = moved_is old new _ all serves.1
  objects_stay old new (GiveSlip slip) Did fits all serves = moved_is old new _ all serves.1
  -- punts add bios of the set to its rescuer, and a pop takes one from it
  objects_stay old new (Punt dev moved) Did fits all serves =
      subst (AreObjectsOf stage) (sym serves)
      (list_changes old dev.0 _ (All-append (IsServed stage) (old.rescue dev.0) moved (all.rescue dev.0) fits.1) all)
  objects_stay old new (Pop dev) (Popped bio) fits all serves =
      subst (AreObjectsOf stage) (sym serves.1)
      (list_changes old dev.0 _ (All-rest (IsServed stage) bio (new.rescue dev.0) (old.rescue dev.0) serves.0 (all.rescue dev.0)) all)
  objects_stay old new (Pop dev) Nothing fits all serves = subst (AreObjectsOf stage) (sym serves.1) all
  -- a push adds a bio of the disk, and a completion takes one from it
  objects_stay old new (Push bio) Did fits all serves =
      subst (AreObjectsOf stage) (sym serves) (disk_changes old _ _ (pushed_is _ bio (old.disk bio.bio.dev.0) (fits.0, refl) (all.disk bio.bio.dev.0)) all)
  objects_stay old new (Complete disk) (Completed index bio status) fits all serves =
      subst (AreObjectsOf stage) (sym serves.1)
      (disk_changes old disk.0 (new.disk disk.0) (completed_is disk.0 index bio status (old.disk disk.0) (new.disk disk.0) (all.disk disk.0) serves.0) all)
  objects_stay old new (Complete disk) Nothing fits all serves = subst (AreObjectsOf stage) (sym serves.1) all
  -- a node that is opened or told of an end changes one book
  objects_stay old new (Link writer opening) (LinkedTo answer) fits all serves =
      subst (AreObjectsOf stage) (sym serves.1)
      (book_changes old writer (new.book writer)
      (links_is stage writer opening answer (old.book writer) (new.book writer) (all.book writer) fits.1 serves.0).0 all)
  objects_stay old new (Drop writer node status part) (DroppedTo ended) fits all serves =
      subst (AreObjectsOf stage) (sym serves.1)
      (book_changes old writer (new.book writer)
      (drops_is stage writer node status part ended (old.book writer) (new.book writer) (all.book writer) fits.1 _
      (node_is stage writer node (old.book writer) (all.book writer)) serves.0).0 all)
  -- ends and rounds change the tally, looks nothing, and a resize a pool
  objects_stay old new (Done write status) Did fits all serves =
      subst (AreObjectsOf stage) (sym serves) (tally_changes old _ (done_is write status old.tally all.tally) all)
  objects_stay old new (NextRound round) Did fits all serves =
      subst (AreObjectsOf stage) (sym serves.1)
      (tally_changes old _ (record { round = serves.0; left = all.tally.left; statuses = all.tally.statuses }) all)
  objects_stay old new LookRound (Present round) fits all serves = subst (AreObjectsOf stage) (sym serves.1) all
  objects_stay old new LookLeft (LeftOver count) fits all serves = subst (AreObjectsOf stage) (sym serves.1) all
  objects_stay old new (Resize pool min) (OutIs out) fits all serves = resized_is old new _ (out == 0) all serves.1
  -- no other reply is one to the request
  objects_stay old new request reply fits all serves = absurd serves

  pub objects_owe : (old new : Objects) (request : Request) (reply : Reply) → AreNumbered stage → RequestFits stage request → AreObjectsOf stage old
      → Serves stage.ledger old request reply new → Owes stage request reply
  -- takes: the element is of the pool that was asked
  objects_owe old new (TakeBio set waits) (HadBio from bio) numbered fits all serves =
      home_in_pool is_bios _ bio.share numbered (set_is_bios stage set fits) (ap (λ (b : Item Pad). b.share) serves.1)
  objects_owe old new TakeVec (HadVec from vector) numbered fits all serves =
      home_in_pool is_vecs 64 vector.share numbered refl (ap (λ (v : VectorItem). v.share) serves.1)
  objects_owe old new (TakeSlip dev) (HadSlip from slip) numbered fits all serves =
      home_in_pool is_slips _ slip.share numbered (mirror_is_slips stage dev fits) (ap (λ (s : SlipItem). s.share) serves.1)
  -- a bio that is popped or completed waited there
  objects_owe old new (Pop dev) (Popped bio) numbered fits all serves =
      All-head (IsServed stage) bio (new.rescue dev.0) (subst (AreServed stage) serves.0 (all.rescue dev.0))
  objects_owe old new (Complete disk) (Completed index bio status) numbered fits all serves =
      waits_there disk.0 index bio (old.disk disk.0) (all.disk disk.0) serves.0.taken
  -- what a node hands back or held is served
  objects_owe old new (Link writer opening) (LinkedTo answer) numbered fits all serves =
      (links_is stage writer opening answer (old.book writer) (new.book writer) (all.book writer) fits.1 serves.0).1
  objects_owe old new (Drop writer node status part) (DroppedTo ended) numbered fits all serves =
      (drops_is stage writer node status part ended (old.book writer) (new.book writer) (all.book writer) fits.1 _
      (node_is stage writer node (old.book writer) (all.book writer)) serves.0).1
  -- nothing comes back
  objects_owe old new (TakeBio set waits) (Missed used) numbered fits all serves = tt
  objects_owe old new TakeVec (Missed used) numbered fits all serves = tt
  objects_owe old new (TakeSlip dev) (Missed used) numbered fits all serves = tt
  objects_owe old new (GiveBio bio) Did numbered fits all serves = tt
  objects_owe old new (GiveVec vector) Did numbered fits all serves = tt
  objects_owe old new (GiveSlip slip) Did numbered fits all serves = tt
  objects_owe old new (Punt dev moved) Did numbered fits all serves = tt
  objects_owe old new (Pop dev) Nothing numbered fits all serves = tt
  objects_owe old new (Push bio) Did numbered fits all serves = tt
  objects_owe old new (Complete disk) Nothing numbered fits all serves = tt
  objects_owe old new (Done write status) Did numbered fits all serves = tt
  objects_owe old new (Resize pool min) (OutIs out) numbered fits all serves = tt
  objects_owe old new (NextRound round) Did numbered fits all serves = tt
  objects_owe old new LookRound (Present round) numbered fits all serves = tt
  objects_owe old new LookLeft (LeftOver count) numbered fits all serves = tt
  -- no other reply is one to the request
  objects_owe old new request reply numbered fits all serves = absurd serves
