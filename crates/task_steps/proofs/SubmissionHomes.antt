-- Submissions whose bios can all be served ask for what fits the objects, and stay such.
use Rattle.std.proofs.Common.{◌≡◌, ◌≢◌, ◌<◌, ◌≤◌, ◌==◌, ◌&&◌, ◌||◌, ℕ, Bool, true, false, IsTrue, All, List, [], ◌∷◌, length, Option, None, Some, true≢false, slice_get, ◌+◌, inl, inr, refl, sym, ap, ◌∙◌, subst, arith}
use Rattle.std.specs.Prelude.{not}
use Rattle.std.proofs.lemmas.Bool.{lt-ltb}
use Rattle.std.proofs.lemmas.List.Elements.{All-head, All-tail, All-nil}
use Rattle.std.proofs.lemmas.Option.{slice_get_cases}
use Rattle.stack_base.specs.declared.ids.DevId.{DevId}
use Rattle.stack_base.specs.declared.ids.Range.{Range}
use Rattle.stack_base.specs.declared.ids.SetId.TheVariants.{Of}
use Rattle.stack_base.specs.declared.stack.Device.{Device}
use Rattle.stack_base.specs.declared.stack.Kind.{Kind}
use Rattle.stack_base.specs.declared.stack.Kind.TheVariants as kind
use Rattle.stack_base.specs.declared.stack.Stack.{Stack}
use Rattle.stack_base.specs.Mapping.{slot}
use Rattle.stack_base.specs.Stack.{HasShape, IsStack}
use Rattle.stack_base.specs.Tree.{Tree, Leaf, Split, Mirrored, Shape, Keeps, Cuts, shape_of, tree}
use Rattle.stack_base.specs.Tree.{Copies as Copies'}
use Rattle.layout_model.proofs.ByShape.{cuts_is, keeps_is}
use Rattle.bio_records.specs.declared.bio.Bio.{Bio}
use Rattle.bio_records.specs.declared.bio.Pad.{Pad}
use Rattle.bio_records.specs.declared.tasks.TaskLists.{TaskLists}
use Rattle.bio_records.specs.Items.{Item}
use Rattle.bio_lists.specs.Submission.{submitted, order}
use Rattle.bio_split.specs.Split.{split_front, split_rest}
use Rattle.bio_books.specs.Links.{Linked, Made, NoRoom, Stray}
use Rattle.run_machine.specs.Scene.{is_device, has_set, keeps_data, is_mirror}
use Rattle.run_machine.specs.Requests.{Reply, HadBio, HadSlip, Missed, Did, LinkedTo, NoTicket}
use Rattle.run_machine.specs.Kept.{Kept}
use Rattle.bioset_pools.specs.Sets.{is_empty, waits_first}
use Rattle.run_machine.specs.Submissions.{Takes, WantsPunt, Links, ToPush, ToCut, ToRecord, ToMaster, Doing, Rests, Drives, Copies, Breaks, first_length, mapped, landed, asks_at, landed_doing, settled, goes_on, cut_at, legs_of, leg_at, copies, submission_request, after_chain, after_master, after_leg, at_hand, punts_of, spent, submission_answered, is_cut}
use Rattle.task_steps.specs.Routed.{routing_setup, places_at, sent}
use Rattle.task_steps.specs.Routed.{copies_bios as copies_shape}
use Rattle.task_steps.specs.Within.{IsWithinDevice, IsItemWithin, ListsAreWithin, DoingFits}
use Rattle.task_steps.specs.Stage.{Stage, has_book, is_bios, IsHome, IsServed, AreServed, RequestFits, Owes}
use Rattle.task_steps.specs.Homes.{IsOwned, WantFits, DoingIsHome, IsSubmissionOf, SubmissionsStayHome}
use Rattle.task_steps.proofs.Waiting.{BothHave, all_ordered, all_submitted, all_punted, all_unpunted}
use Rattle.task_steps.proofs.Devices.{cut_is, cut_not_none, mirror_legs}
use Rattle.task_steps.proofs.DevicesReached.{first_at, lands_within}
use Rattle.task_steps.proofs.StaysWithin.{settled_fits, parts_within, leg_within}

-- a bio keeps its writer wherever it lands
pub landed_writer : (t : Tree) (bio : Bio) → (landed t bio).writer ≡ bio.writer
landed_writer (Leaf number sectors) bio = refl
landed_writer (Mirrored number sizes members) bio = refl
landed_writer (Split number kind sizes members) bio =
    by_test (landed_writer (members (slot kind sizes bio.range.start).member) (mapped (slot kind sizes bio.range.start) members bio))
    (first_length kind sizes bio.range == bio.range.len) refl
  where
    by_test : (landed (members (slot kind sizes bio.range.start).member) (mapped (slot kind sizes bio.range.start) members bio)).writer ≡ bio.writer
        → (b : Bool) → (first_length kind sizes bio.range == bio.range.len) ≡ b → (landed (Split number kind sizes members) bio).writer ≡ bio.writer
    by_test below true e = rw e below
    by_test below false e = rw e refl

-- only a device that cuts has bios cut
cut_keeps_none : (t : Tree) (range : Range) → is_cut t range ≡ true → not (keeps_data t) ≡ true
cut_keeps_none (Leaf number sectors) range e = absurd (true≢false (sym e))
cut_keeps_none (Split number kind sizes members) range e = refl
cut_keeps_none (Mirrored number sizes members) range e = refl

legs_keep_none : (t : Tree) (leg : ℕ) → leg < legs_of t → not (keeps_data t) ≡ true
legs_keep_none (Leaf number sectors) leg lt = absurd (omega (arith, lt))
legs_keep_none (Split number kind sizes members) leg lt = refl
legs_keep_none (Mirrored number sizes members) leg lt = refl

both_true : (a b : Bool) → a ≡ true → b ≡ true → IsTrue (a && b)
both_true true true p q = refl
both_true true false p q = absurd (true≢false (sym q))
both_true false b p q = absurd (true≢false (sym p))

device_is : (stage : Stage) (bio : Bio) → IsWithinDevice stage.routing.stack bio → is_device (routing_setup stage.routing) bio.dev.0 ≡ true
device_is stage bio within = lt-ltb bio.dev.0 (length stage.routing.stack.devices.items) within.device

-- a device that keeps no data itself has a set
set_is : (stage : Stage) (bio : Bio) → IsWithinDevice stage.routing.stack bio → not (keeps_data (tree stage.routing.stack bio.dev.0)) ≡ true
    → IsTrue (has_set (routing_setup stage.routing) bio.dev.0)
set_is stage bio within none = both_true _ _ (device_is stage bio within) none

-- a mirror has a leg
some_members : (kind : Kind) (n : ℕ) → shape_of kind ≡ Copies' → HasShape kind n → 1 ≤ n
some_members (kind.Disk sectors bad) n e shape = absurd (true≢false (sym (ap copies_shape e)))
some_members kind.Linear n e shape = absurd (true≢false (sym (ap copies_shape e)))
some_members (kind.Stripe chunk) n e shape = absurd (true≢false (sym (ap copies_shape e)))
some_members (kind.Zoned chunk) n e shape = absurd (true≢false (sym (ap copies_shape e)))
some_members (kind.Limit longest chunk) n e shape = absurd (true≢false (sym (ap copies_shape e)))
some_members (kind.Mirror records) n e shape = shape.0

some_leg : (stack : Stack) → IsStack stack → (number : ℕ) → number < length stack.devices.items → is_mirror (tree stack number) ≡ true
    → 1 ≤ legs_of (tree stack number)
some_leg stack good number lt is =
    elim (slice_get_cases stack.devices.items number).1 [
      | inl there ↦ by_shape there.0 there.2 (shape_of there.0.kind) refl
      | inr past ↦ absurd (omega (arith, past.0, lt))
    ]
  where
    by_shape : (device : Device) → slice_get stack.devices.items number ≡ Some device → (shape : Shape) → shape_of device.kind ≡ shape
        → 1 ≤ legs_of (tree stack number)
    by_shape device found (Keeps sectors) e = absurd (true≢false (sym is ∙ ap is_mirror (keeps_is stack good number device found sectors e)))
    by_shape device found Cuts e = absurd (true≢false (sym is ∙ ap is_mirror (cuts_is stack good number device found e)))
    by_shape device found Copies' e =
        omega (arith, mirror_legs stack good number device found (ap copies_shape e), some_members device.kind (length device.members.items) e (good.each number device found).shape)

-- where the first attempt does not wait, the set has a rescuer
tries_with_rescuer : (rescuer idle : Bool) → (not rescuer || idle) ≡ false → rescuer ≡ true
tries_with_rescuer true idle e = refl
tries_with_rescuer false idle e = absurd (true≢false e)

first_fits : (stage : Stage) (bio : Bio) (lists : TaskLists) → IsWithinDevice stage.routing.stack bio
    → WantFits stage bio.dev (Takes (waits_first ((routing_setup stage.routing).rescuer bio.dev.0) lists))
first_fits stage bio lists within = by_test (waits_first ((routing_setup stage.routing).rescuer bio.dev.0) lists) refl
  where
    by_test : (b : Bool) → waits_first ((routing_setup stage.routing).rescuer bio.dev.0) lists ≡ b → WantFits stage bio.dev (Takes b)
    by_test true e = tt
    by_test false e =
        both_true _ _ (device_is stage bio within)
        (tries_with_rescuer ((routing_setup stage.routing).rescuer bio.dev.0) (is_empty lists.list0 && is_empty lists.list1) e)

-- bios that lie within their devices and are owned can be served
served_all : (stage : Stage) (items : List (Item Pad)) → All (IsItemWithin stage.routing.stack) items → All (IsOwned stage) items → AreServed stage items
served_all stage items within owned k d lt = record { within = within k d lt; writer = (owned k d lt).writer; home = (owned k d lt).home }

module _ (stage : Stage) (lists : TaskLists) (within : ListsAreWithin stage.routing.stack lists) (owned : BothHave (IsOwned stage) lists) where
  lists_served : BothHave (IsServed stage) lists
  lists_served = (served_all stage lists.list0 within.0 owned.0, served_all stage lists.list1 within.1 owned.1)

-- what a submission asks for fits the objects
pub submission_asks : (stage : Stage) → IsStack stage.routing.stack → (doing : Doing) (lists : TaskLists) → DoingFits stage.routing.stack doing → DoingIsHome stage doing
    → ListsAreWithin stage.routing.stack lists → BothHave (IsOwned stage) lists → RequestFits stage (submission_request (routing_setup stage.routing) doing lists)
-- at rest, or broken off: it asks for nothing
submission_asks stage good Rests lists fits home within owned = tt
submission_asks stage good (Breaks breach kept) lists fits home within owned = tt
-- a push: of a bio that can be served, at a disk
submission_asks stage good (Drives bio ToPush) lists fits home within owned =
    (record { within = fits.0; writer = home.0.writer; home = home.0.home }, both_true _ _ (device_is stage bio.bio fits.0) fits.1)
-- a cut: it takes, punts, and links
submission_asks stage good (Drives bio (ToCut (Takes waits))) lists fits home within owned =
    set_is stage bio.bio fits.0 (cut_keeps_none (tree stage.routing.stack bio.bio.dev.0) bio.bio.range fits.1)
submission_asks stage good (Drives bio (ToCut WantsPunt)) lists fits home within owned =
    (home.1, all_punted (IsServed stage) lists (lists_served stage lists within owned) bio.bio.dev)
submission_asks stage good (Drives bio (ToCut (Links hand))) lists fits home within owned = (home.0.writer, tt)
-- a mirror: it takes its record, and links its master
submission_asks stage good (Drives bio ToRecord) lists fits home within owned = both_true _ _ (device_is stage bio.bio fits.0) fits.1
submission_asks stage good (Drives bio (ToMaster slip)) lists fits home within owned =
    (home.0.writer, (some_leg stage.routing.stack good bio.bio.dev.0 fits.0.device fits.1, home.0.home, home.1))
-- a leg, as a cut
submission_asks stage good (Copies bio master leg (Takes waits)) lists fits home within owned =
    set_is stage bio fits.0 (legs_keep_none (tree stage.routing.stack bio.dev.0) leg fits.1)
submission_asks stage good (Copies bio master leg WantsPunt) lists fits home within owned =
    (home.1, all_punted (IsServed stage) lists (lists_served stage lists within owned) bio.dev)
submission_asks stage good (Copies bio master leg (Links hand)) lists fits home within owned = (home.0, tt)

module _ (stage : Stage) (good : IsStack stage.routing.stack) where
  -- a bio that is served is owned still where it lands
  landed_home : (lists : TaskLists) (item : Item Pad) → IsItemWithin stage.routing.stack item → IsOwned stage item
      → DoingIsHome stage (landed_doing (routing_setup stage.routing) lists item)
  landed_home lists item within owned =
      let stack = stage.routing.stack in
      let at : Bio = landed (tree stack item.bio.dev.0) item.bio in
      let inside : IsWithinDevice stack at = (lands_within stack good item.bio within).within in
      by_tree (record item { bio = at }) inside
      (record { writer = subst (λ writer. IsTrue (has_book stage writer)) (sym (landed_writer (tree stack item.bio.dev.0) item.bio)) owned.writer; home = owned.home })
      (tree stack at.dev.0)
    where
      by_tree : (item : Item Pad) → IsItemWithin stage.routing.stack item → IsOwned stage item → (t : Tree)
          → DoingIsHome stage (asks_at (routing_setup stage.routing) lists item t)
      by_tree item within owned (Leaf number sectors) = (owned, tt)
      by_tree item within owned (Mirrored number sizes members) = (owned, tt)
      by_tree item within owned (Split number kind sizes members) = (owned, first_fits stage item.bio lists within)

  pub settled_home : (items : List (Item Pad)) → All (IsItemWithin stage.routing.stack) items → All (IsOwned stage) items
      → IsSubmissionOf stage (settled (routing_setup stage.routing) items)
  settled_home [] within owned = record {
    fits = settled_fits stage.routing.stack good (places_at stage.routing.places) [] within;
    doing = tt;
    list0 = All-nil (IsOwned stage);
    list1 = All-nil (IsOwned stage);
  }
  settled_home (item ∷ waiting) within owned = record {
    fits = settled_fits stage.routing.stack good (places_at stage.routing.places) (item ∷ waiting) within;
    doing = landed_home (record { list0 = []; list1 = waiting }) item (All-head (IsItemWithin stage.routing.stack) item waiting within)
        (All-head (IsOwned stage) item waiting owned);
    list0 = All-nil (IsOwned stage);
    list1 = All-tail (IsOwned stage) item waiting owned;
  }

  goes_on_home : (dev : DevId) (lists : TaskLists) → ListsAreWithin stage.routing.stack lists → BothHave (IsOwned stage) lists
      → IsSubmissionOf stage (goes_on (routing_setup stage.routing) dev lists)
  goes_on_home dev lists within owned =
      settled_home (order dev lists) (all_ordered (IsItemWithin stage.routing.stack) lists within dev) (all_ordered (IsOwned stage) lists owned dev)

  -- both parts of a bio that is cut are owned
  cut_home : (lists : TaskLists) (item hand : Item Pad) (node : ℕ) → ListsAreWithin stage.routing.stack lists → BothHave (IsOwned stage) lists
      → IsWithinDevice stage.routing.stack item.bio → is_cut (tree stage.routing.stack item.bio.dev.0) item.bio.range ≡ true → IsOwned stage item
      → IsHome stage is_bios hand.share
      → IsSubmissionOf stage (cut_at (routing_setup stage.routing) lists item hand node (tree stage.routing.stack item.bio.dev.0))
  cut_home lists item hand node within owned inside more own home =
      let stack = stage.routing.stack in
      elim (first_at stack good item.bio inside) [
        | inl none ↦ absurd (cut_not_none stack item.bio none more)
        | inr first ↦
            let is = cut_is (routing_setup stage.routing) stack good item.bio inside first.0 first.1 more in
            let child : Item Pad = sent first.0 (split_front item hand first.0.sectors (Of item.bio.dev) node) in
            let rest : Item Pad = split_rest item first.0.sectors in
            subst (IsSubmissionOf stage) (sym (is.made lists item hand node refl refl))
            (goes_on_home item.bio.dev (submitted rest (submitted child lists))
            (parts_within stack good (places_at stage.routing.places) lists item hand node first.0 within is)
            (all_submitted (IsOwned stage) (submitted child lists)
            (all_submitted (IsOwned stage) lists owned child (record { writer = own.writer; home = home }))
            rest (record { writer = own.writer; home = own.home })))
      ]

  copies_home : (lists : TaskLists) (bio : Bio) (master leg : ℕ) → ListsAreWithin stage.routing.stack lists → BothHave (IsOwned stage) lists
      → IsWithinDevice stage.routing.stack bio → IsTrue (has_book stage bio.writer) → leg ≤ legs_of (tree stage.routing.stack bio.dev.0)
      → IsSubmissionOf stage (copies (routing_setup stage.routing) lists bio master leg)
  copies_home lists bio master leg within owned inside writer le = by_test (leg == legs_of (tree stage.routing.stack bio.dev.0)) refl
    where
      by_test : (b : Bool) → (leg == legs_of (tree stage.routing.stack bio.dev.0)) ≡ b → IsSubmissionOf stage (copies (routing_setup stage.routing) lists bio master leg)
      by_test true e = rw e (goes_on_home bio.dev lists within owned)
      by_test false e =
          let other : leg ≢ legs_of (tree stage.routing.stack bio.dev.0) = λ same. absurd (search (e, same, arith)) in
          rw e (record {
            fits = record { doing = (inside, omega (arith, le, other)); lists = within };
            doing = (writer, first_fits stage bio lists inside);
            list0 = owned.0;
            list1 = owned.1;
          })

  leg_home : (lists : TaskLists) (bio : Bio) (master leg node : ℕ) (hand : Item Pad) → ListsAreWithin stage.routing.stack lists
      → BothHave (IsOwned stage) lists → IsWithinDevice stage.routing.stack bio → leg < legs_of (tree stage.routing.stack bio.dev.0)
      → IsTrue (has_book stage bio.writer) → IsHome stage is_bios hand.share
      → IsSubmissionOf stage (copies (routing_setup stage.routing) (submitted (leg_at bio hand leg node (tree stage.routing.stack bio.dev.0)) lists) bio master (leg + 1))
  leg_home lists bio master leg node hand within owned inside lt writer home =
      let made : Item Pad = leg_at bio hand leg node (tree stage.routing.stack bio.dev.0) in
      copies_home (submitted made lists) bio master (leg + 1)
      (all_submitted (IsItemWithin stage.routing.stack) lists within made
      (leg_within stage.routing.stack good (places_at stage.routing.places) bio hand leg node inside lt))
      (all_submitted (IsOwned stage) lists owned made (by_tree (tree stage.routing.stack bio.dev.0) lt)) inside writer (omega arith)
    where
      by_tree : (t : Tree) → leg < legs_of t → IsOwned stage (leg_at bio hand leg node t)
      by_tree (Leaf number sectors) lt = absurd (omega (arith, lt))
      by_tree (Split number kind sizes members) lt = absurd (omega (arith, lt))
      by_tree (Mirrored number sizes members) lt = record { writer = writer; home = home }

  -- the same doing with these lists
  stays : (doing : Doing) (lists : TaskLists) → DoingFits stage.routing.stack doing → DoingIsHome stage doing
      → ListsAreWithin stage.routing.stack lists → BothHave (IsOwned stage) lists → IsSubmissionOf stage (record { doing = doing; lists = lists })
  stays doing lists fits home within owned =
      record { fits = record { doing = fits; lists = within }; doing = home; list0 = owned.0; list1 = owned.1 }

  chain_home : (lists : TaskLists) (item hand : Item Pad) (answer : Linked) → ListsAreWithin stage.routing.stack lists → BothHave (IsOwned stage) lists
      → IsWithinDevice stage.routing.stack item.bio → is_cut (tree stage.routing.stack item.bio.dev.0) item.bio.range ≡ true → IsOwned stage item
      → IsHome stage is_bios hand.share → IsSubmissionOf stage (after_chain (routing_setup stage.routing) lists item hand answer)
  chain_home lists item hand (Made node) within owned inside more own home = cut_home lists item hand node within owned inside more own home
  chain_home lists item hand (NoRoom back) within owned inside more own home = stays _ lists tt tt within owned
  chain_home lists item hand (Stray back) within owned inside more own home = stays _ lists tt tt within owned

  master_home : (lists : TaskLists) (bio : Bio) (answer : Linked) → ListsAreWithin stage.routing.stack lists → BothHave (IsOwned stage) lists
      → IsWithinDevice stage.routing.stack bio → IsTrue (has_book stage bio.writer) → IsSubmissionOf stage (after_master (routing_setup stage.routing) lists bio answer)
  master_home lists bio (Made node) within owned inside writer = copies_home lists bio node 0 within owned inside writer (omega arith)
  master_home lists bio (NoRoom back) within owned inside writer = stays _ lists tt tt within owned
  master_home lists bio (Stray back) within owned inside writer = stays _ lists tt tt within owned

  copied_home : (lists : TaskLists) (bio : Bio) (master leg : ℕ) (hand : Item Pad) (answer : Linked) → ListsAreWithin stage.routing.stack lists
      → BothHave (IsOwned stage) lists → IsWithinDevice stage.routing.stack bio → leg < legs_of (tree stage.routing.stack bio.dev.0)
      → IsTrue (has_book stage bio.writer) → IsHome stage is_bios hand.share
      → IsSubmissionOf stage (after_leg (routing_setup stage.routing) lists bio master leg hand answer)
  copied_home lists bio master leg hand (Made node) within owned inside lt writer home =
      leg_home lists bio master leg node hand within owned inside lt writer home
  copied_home lists bio master leg hand (NoRoom back) within owned inside lt writer home = stays _ lists tt tt within owned
  copied_home lists bio master leg hand (Stray back) within owned inside lt writer home = stays _ lists tt tt within owned

  -- where there was no ticket
  spent_home : (kept : List Kept) (lists : TaskLists) (punts : Option DevId) → ListsAreWithin stage.routing.stack lists → BothHave (IsOwned stage) lists
      → IsSubmissionOf stage (spent kept lists punts)
  spent_home kept lists None within owned = stays _ lists tt tt within owned
  spent_home kept lists (Some dev) within owned =
      stays _ _ tt tt (all_unpunted (IsItemWithin stage.routing.stack) lists within dev) (all_unpunted (IsOwned stage) lists owned dev)

  -- whatever is replied
  pub submission_home : (doing : Doing) (lists : TaskLists) (reply : Reply) → DoingFits stage.routing.stack doing → DoingIsHome stage doing
      → ListsAreWithin stage.routing.stack lists → BothHave (IsOwned stage) lists → Owes stage (submission_request (routing_setup stage.routing) doing lists) reply
      → IsSubmissionOf stage (submission_answered (routing_setup stage.routing) doing lists reply)
  -- without a ticket
  submission_home doing lists NoTicket fits home within owned owes = spent_home (at_hand doing) lists (punts_of doing) within owned
  -- a push
  submission_home (Drives bio ToPush) lists Did fits home within owned owes = goes_on_home bio.bio.dev lists within owned
  -- a cut: it takes, misses, punts, and has its node
  submission_home (Drives bio (ToCut (Takes waits))) lists (HadBio got hand) fits home within owned owes =
      stays _ lists fits (home.0, owes.home) within owned
  submission_home (Drives bio (ToCut (Takes true))) lists (Missed used) fits home within owned owes = stays _ lists fits (home.0, tt) within owned
  submission_home (Drives bio (ToCut (Takes false))) lists (Missed used) fits home within owned owes = stays _ lists fits (home.0, home.1) within owned
  submission_home (Drives bio (ToCut WantsPunt)) lists Did fits home within owned owes =
      stays _ _ fits (home.0, tt) (all_unpunted (IsItemWithin stage.routing.stack) lists within bio.bio.dev)
      (all_unpunted (IsOwned stage) lists owned bio.bio.dev)
  submission_home (Drives bio (ToCut (Links hand))) lists (LinkedTo answer) fits home within owned owes =
      chain_home lists bio hand answer within owned fits.0 fits.1 home.0 home.1
  -- a mirror: it has its record, and its node
  submission_home (Drives bio ToRecord) lists (HadSlip got slip) fits home within owned owes = stays _ lists fits (home.0, owes.home) within owned
  submission_home (Drives bio (ToMaster slip)) lists (LinkedTo answer) fits home within owned owes =
      master_home lists bio.bio answer within owned fits.0 home.0.writer
  -- a leg, as a cut
  submission_home (Copies bio master leg (Takes waits)) lists (HadBio got hand) fits home within owned owes =
      stays _ lists fits (home.0, owes.home) within owned
  submission_home (Copies bio master leg (Takes true)) lists (Missed used) fits home within owned owes = stays _ lists fits (home.0, tt) within owned
  submission_home (Copies bio master leg (Takes false)) lists (Missed used) fits home within owned owes = stays _ lists fits (home.0, home.1) within owned
  submission_home (Copies bio master leg WantsPunt) lists Did fits home within owned owes =
      stays _ _ fits (home.0, tt) (all_unpunted (IsItemWithin stage.routing.stack) lists within bio.dev)
      (all_unpunted (IsOwned stage) lists owned bio.dev)
  submission_home (Copies bio master leg (Links hand)) lists (LinkedTo answer) fits home within owned owes =
      copied_home lists bio master leg hand answer within owned fits.0 fits.1 home.0 home.1
  -- any other reply changes nothing
  submission_home doing lists _ fits home within owned owes = stays doing lists fits home within owned

pub submissions_stay_home : SubmissionsStayHome
submissions_stay_home = record {
  asks = λ stage submission good is. submission_asks stage good submission.doing submission.lists is.fits.doing is.doing is.fits.lists (is.list0, is.list1);
  goes_on = λ stage submission reply good is owes.
      submission_home stage good submission.doing submission.lists reply is.fits.doing is.doing is.fits.lists (is.list0, is.list1) owes;
}
