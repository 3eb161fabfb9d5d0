-- A submission: the bio that its driver has and what the driver asks for, and the task's two lists (`submit_bio_noacct`, block/blk-core.c).
use Rattle.std.specs.Prelude.{◌+◌, ◌-◌, ◌==◌, ◌++◌, if◌then◌else◌, min, ℕ, Bool, true, false, List, [], ◌∷◌, map, Option, None, Some, not}
use Rattle.stack_base.specs.declared.ids.DevId.{DevId}
use Rattle.stack_base.specs.declared.ids.Range.{Range}
use Rattle.stack_base.specs.declared.ids.SetId.TheVariants.{Of}
use Rattle.stack_base.specs.declared.stack.Kind.{Kind}
use Rattle.stack_base.specs.Cutting.{piece_end}
use Rattle.stack_base.specs.Mapping.{Slot, slot}
use Rattle.stack_base.specs.Tree.{Tree, Leaf, Split, Mirrored}
pub use Rattle.stack_base.specs.Tree.{legs_of}
use Rattle.bio_records.specs.declared.bio.Bio.{Bio}
use Rattle.bio_records.specs.declared.bio.Pad.{Pad}
use Rattle.bio_records.specs.declared.tasks.TaskLists.{TaskLists}
use Rattle.bio_records.specs.Items.{Item}
use Rattle.bio_split.specs.Split.{split_front, split_rest}
use Rattle.bioset_pools.specs.Sets.{waits_first}
use Rattle.bio_lists.specs.Submission.{no_lists, submitted, order}
use Rattle.bio_lists.specs.Punt.{punted, unpunted}
use Rattle.bio_books.specs.Books.{SlipItem}
use Rattle.bio_books.specs.Links.{Linked, Made, NoRoom, Stray}
use Rattle.run_machine.specs.declared.event.Breach.{Breach}
use Rattle.run_machine.specs.declared.event.Breach.TheVariants as breach
use Rattle.run_machine.specs.Scene.{Setup, tree_at, tree_number}
use Rattle.run_machine.specs.Kept.{Kept, KeptBio, KeptSlip, holding_kept}
use Rattle.run_machine.specs.Requests.{Request, Reply, TakeBio, TakeSlip, Punt, Push, Link, Rest, Chain, Master, Leg, HadBio, HadSlip, Missed, Did, LinkedTo, NoTicket}

-- what a driver does for a bio of its device's set: it takes one, waiting or not; where an attempt that did not wait missed, it punts; and
-- with the bio that it had it links a node. A type of its own, for a cut and for a leg alike, so that a copy can ask for nothing else
pub data Want : Type 0 where
  Takes : (waits : Bool) → Want
  WantsPunt : Want
  Links : (hand : Item Pad) → Want

-- what a driver does with the bio that it has: a disk's takes it, one that cuts wants a bio for the first piece, and a mirror's takes a
-- record and links a master that holds it
pub data Driving : Type 0 where
  ToPush : Driving
  ToCut : Want → Driving
  ToRecord : Driving
  ToMaster : (slip : SlipItem) → Driving

pub data Doing : Type 0 where
  Rests : Doing
  -- the driver of the bio's device has it
  Drives : (bio : Item Pad) → Driving → Doing
  -- a mirror copies a bio, which waits with its parent: the place of the master, and the leg that is made next
  Copies : (bio : Bio) (master leg : ℕ) → Want → Doing
  -- it cannot go on, and keeps what it had at hand and what came back
  Breaks : Breach → (kept : List Kept) → Doing

pub record Submission : Type 0 where
  pub doing : Doing
  pub lists : TaskLists

abbrev pub rests : Submission
rests = record { doing = Rests; lists = no_lists }

-- why a submission cannot go on, if it has broken off
abbrev pub doing_breach : Doing → Option Breach
doing_breach Rests = None
doing_breach (Drives bio ask) = None
doing_breach (Copies bio master leg want) = None
doing_breach (Breaks breach kept) = Some breach

-- how long the first piece of a run is
abbrev pub first_length : Kind → List ℕ → Range → ℕ
first_length kind sizes range = min (piece_end kind sizes range.start - range.start) range.len

-- whether a device cuts a run: the run is more than its first piece there
abbrev pub is_cut : Tree → Range → Bool
is_cut (Leaf number sectors) range = false
is_cut (Mirrored number sizes members) range = false
is_cut (Split number kind sizes members) range = not (first_length kind sizes range == range.len)

-- a bio as the member gets it that it goes to (`bio_set_dev` and `bi_sector`, drivers/md/raid0.c)
abbrev pub mapped : Slot → (ℕ → Tree) → Bio → Bio
mapped to members bio =
    record bio { dev = record { 0 = tree_number (members to.member) }; range = record bio.range { start = to.at } }

-- where a bio comes to that is submitted at a device: one that is a single piece is remapped in place, as often as that is so
abbrev pub landed : Tree → Bio → Bio
landed (Leaf number sectors) bio = bio
landed (Mirrored number sizes members) bio = bio
landed (Split number kind sizes members) bio =
    if first_length kind sizes bio.range == bio.range.len
    then landed (members (slot kind sizes bio.range.start).member) (mapped (slot kind sizes bio.range.start) members bio)
    else bio

-- what the driver of a device does with a bio that is not a single piece there
abbrev pub asks_at : Setup → TaskLists → Item Pad → Tree → Doing
asks_at setup lists item (Leaf number sectors) = Drives item ToPush
asks_at setup lists item (Mirrored number sizes members) = Drives item ToRecord
asks_at setup lists item (Split number kind sizes members) = Drives item (ToCut (Takes (waits_first (setup.rescuer item.bio.dev.0) lists)))

-- what the driver does that a submitted bio comes to, with the bio as it has landed there
abbrev pub landed_doing : Setup → TaskLists → Item Pad → Doing
landed_doing setup lists item =
    let at = landed (tree_at setup item.bio.dev) item.bio in
    asks_at setup lists (record item { bio = at }) (tree_at setup at.dev)

-- The submission goes on, as far as it asks no object: the first of these bios goes to its driver, and the others wait in list 1. With none
-- it is over.
abbrev pub settled : Setup → List (Item Pad) → Submission
settled setup [] = rests
settled setup (item ∷ waiting) = record {
  doing = landed_doing setup (record { list0 = []; list1 = waiting }) item;
  lists = record { list0 = []; list1 = waiting };
}

-- the driver of this device has returned
abbrev pub goes_on : Setup → DevId → TaskLists → Submission
goes_on setup dev lists = settled setup (order dev lists)

-- a bio is split: its first piece goes to its member, as a bio with a node of its own, and the rest comes again (`bio_split`, block/bio.c,
-- and `submit_bio_noacct` of both). The kernel submits the rest first. No order of service tells the two apart: the piece is for another device
-- than the rest, and those come first behind the call
abbrev pub cut_at : Setup → TaskLists → Item Pad → Item Pad → ℕ → Tree → Submission
cut_at setup lists item hand node (Split number kind sizes members) =
    let n = first_length kind sizes item.bio.range in
    let front = split_front item hand n (Of item.bio.dev) node in
    let child = record front { bio = mapped (slot kind sizes item.bio.range.start) members front.bio } in
    goes_on setup item.bio.dev (submitted (split_rest item n) (submitted child lists))
cut_at setup lists item hand node (Leaf number sectors) = rests
cut_at setup lists item hand node (Mirrored number sizes members) = rests

-- a leg of a mirror's bio, in an element of the mirror's set (`bio_alloc_clone`, drivers/md/raid1.c)
abbrev pub leg_at : Bio → Item Pad → ℕ → ℕ → Tree → Item Pad
leg_at bio hand leg node (Mirrored number sizes members) = record hand {
  pad = record { leg = leg };
  bio = record bio { dev = record { 0 = tree_number (members leg) }; set = Of bio.dev; node = node };
}
leg_at bio hand leg node (Leaf number sectors) = hand
leg_at bio hand leg node (Split number kind sizes members) = hand

-- the next leg, or what waits behind the last leg
abbrev pub copies : Setup → TaskLists → Bio → ℕ → ℕ → Submission
copies setup lists bio master leg =
    if leg == legs_of (tree_at setup bio.dev) then goes_on setup bio.dev lists
    else record { doing = Copies bio master leg (Takes (waits_first (setup.rescuer bio.dev.0) lists)); lists = lists }

-- what a submission asks for
abbrev pub submission_request : Setup → Doing → TaskLists → Request
submission_request setup Rests lists = Rest
submission_request setup (Breaks breach kept) lists = Rest
submission_request setup (Drives bio ToPush) lists = Push bio
submission_request setup (Drives bio (ToCut (Takes waits))) lists = TakeBio (Of bio.bio.dev) waits
submission_request setup (Drives bio (ToCut WantsPunt)) lists = Punt bio.bio.dev (punted (Of bio.bio.dev) lists)
submission_request setup (Drives bio (ToCut (Links hand))) lists = Link bio.bio.writer (Chain bio.bio.node)
submission_request setup (Drives bio ToRecord) lists = TakeSlip bio.bio.dev
submission_request setup (Drives bio (ToMaster slip)) lists =
    Link bio.bio.writer (Master bio.bio.node bio slip (legs_of (tree_at setup bio.bio.dev)))
submission_request setup (Copies bio master leg (Takes waits)) lists = TakeBio (Of bio.dev) waits
submission_request setup (Copies bio master leg WantsPunt) lists = Punt bio.dev (punted (Of bio.dev) lists)
submission_request setup (Copies bio master leg (Links hand)) lists = Link bio.writer (Leg master)

-- a link that was refused, where the named node is this one, and these elements were at hand besides
abbrev pub link_refused : Setup → ℕ → ℕ → List Kept → Linked → Doing
link_refused setup writer node besides (Made place) = Rests
link_refused setup writer node besides (NoRoom back) = Breaks (breach.NoRoom writer (setup.places writer)) (besides ++ holding_kept back)
link_refused setup writer node besides (Stray back) = Breaks (breach.Stray writer node) (besides ++ holding_kept back)

abbrev pub after_chain : Setup → TaskLists → Item Pad → Item Pad → Linked → Submission
after_chain setup lists bio hand (Made node) = cut_at setup lists bio hand node (tree_at setup bio.bio.dev)
after_chain setup lists bio hand (NoRoom back) =
    record { doing = link_refused setup bio.bio.writer bio.bio.node (KeptBio bio ∷ KeptBio hand ∷ []) (NoRoom back); lists = lists }
after_chain setup lists bio hand (Stray back) =
    record { doing = link_refused setup bio.bio.writer bio.bio.node (KeptBio bio ∷ KeptBio hand ∷ []) (Stray back); lists = lists }

abbrev pub after_master : Setup → TaskLists → Bio → Linked → Submission
after_master setup lists bio (Made node) = copies setup lists bio node 0
after_master setup lists bio (NoRoom back) = record { doing = link_refused setup bio.writer bio.node [] (NoRoom back); lists = lists }
after_master setup lists bio (Stray back) = record { doing = link_refused setup bio.writer bio.node [] (Stray back); lists = lists }

abbrev pub after_leg : Setup → TaskLists → Bio → ℕ → ℕ → Item Pad → Linked → Submission
after_leg setup lists bio master leg hand (Made node) =
    copies setup (submitted (leg_at bio hand leg node (tree_at setup bio.dev)) lists) bio master (leg + 1)
after_leg setup lists bio master leg hand (NoRoom back) =
    record { doing = link_refused setup bio.writer master (KeptBio hand ∷ []) (NoRoom back); lists = lists }
after_leg setup lists bio master leg hand (Stray back) =
    record { doing = link_refused setup bio.writer master (KeptBio hand ∷ []) (Stray back); lists = lists }

-- what a submission has at hand, besides its lists
abbrev pub want_kept : Want → List Kept
want_kept (Takes waits) = []
want_kept WantsPunt = []
want_kept (Links hand) = KeptBio hand ∷ []

abbrev pub ask_kept : Driving → List Kept
ask_kept ToPush = []
ask_kept (ToCut want) = want_kept want
ask_kept ToRecord = []
ask_kept (ToMaster slip) = KeptSlip slip ∷ []

abbrev pub at_hand : Doing → List Kept
at_hand Rests = []
at_hand (Drives bio ask) = KeptBio bio ∷ ask_kept ask
at_hand (Copies bio master leg want) = want_kept want
at_hand (Breaks breach kept) = kept

-- the device whose bios it hands to the rescuer, if that is what it asks for
abbrev pub want_punts : DevId → Want → Option DevId
want_punts dev (Takes waits) = None
want_punts dev WantsPunt = Some dev
want_punts dev (Links hand) = None

abbrev pub punts_of : Doing → Option DevId
punts_of Rests = None
punts_of (Drives bio ToPush) = None
punts_of (Drives bio (ToCut want)) = want_punts bio.bio.dev want
punts_of (Drives bio ToRecord) = None
punts_of (Drives bio (ToMaster slip)) = None
punts_of (Copies bio master leg want) = want_punts bio.dev want
punts_of (Breaks breach kept) = None

-- There was no ticket for its call: it keeps what it had at hand, and bios that were to go to a rescuer come back beside its lists.
abbrev pub spent : List Kept → TaskLists → Option DevId → Submission
spent kept lists None = record { doing = Breaks breach.Spent kept; lists = lists }
spent kept lists (Some dev) = record { doing = Breaks breach.Spent (kept ++ map KeptBio (punted (Of dev) lists)); lists = unpunted (Of dev) lists }

-- behind a miss: an attempt that waits is made again, and one that does not is followed by a punt
abbrev pub after_miss : Bool → Want
after_miss true = Takes true
after_miss false = WantsPunt

-- how a submission goes on with a reply; one that is no answer to what it asked for leaves it as it is
abbrev pub submission_answered : Setup → Doing → TaskLists → Reply → Submission
submission_answered setup doing lists NoTicket = spent (at_hand doing) lists (punts_of doing)
submission_answered setup (Drives bio ToPush) lists Did = goes_on setup bio.bio.dev lists
submission_answered setup (Drives bio (ToCut (Takes waits))) lists (HadBio got hand) = record { doing = Drives bio (ToCut (Links hand)); lists = lists }
submission_answered setup (Drives bio (ToCut (Takes waits))) lists (Missed used) = record { doing = Drives bio (ToCut (after_miss waits)); lists = lists }
submission_answered setup (Drives bio (ToCut WantsPunt)) lists Did =
    record { doing = Drives bio (ToCut (Takes true)); lists = unpunted (Of bio.bio.dev) lists }
submission_answered setup (Drives bio (ToCut (Links hand))) lists (LinkedTo answer) = after_chain setup lists bio hand answer
submission_answered setup (Drives bio ToRecord) lists (HadSlip got slip) = record { doing = Drives bio (ToMaster slip); lists = lists }
submission_answered setup (Drives bio (ToMaster slip)) lists (LinkedTo answer) = after_master setup lists bio.bio answer
submission_answered setup (Copies bio master leg (Takes waits)) lists (HadBio got hand) = record { doing = Copies bio master leg (Links hand); lists = lists }
submission_answered setup (Copies bio master leg (Takes waits)) lists (Missed used) =
    record { doing = Copies bio master leg (after_miss waits); lists = lists }
submission_answered setup (Copies bio master leg WantsPunt) lists Did = record { doing = Copies bio master leg (Takes true); lists = unpunted (Of bio.dev) lists }
submission_answered setup (Copies bio master leg (Links hand)) lists (LinkedTo answer) = after_leg setup lists bio master leg hand answer
submission_answered setup doing lists _ = record { doing = doing; lists = lists }
