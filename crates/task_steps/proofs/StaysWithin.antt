-- Submissions of bios within their devices stay so.
use Rattle.std.proofs.Common.{◌≡◌, ◌≢◌, inl, inr, ℕ, ◌+◌, ◌<◌, ◌≤◌, ◌==◌, Bool, true, false, List, [], ◌∷◌, Option, None, Some, refl, sym, ap, ◌∙◌, subst, arith}
use Rattle.std.specs.Prelude.{not}
use Rattle.std.proofs.lemmas.List.Elements.{All-head, All-tail, All-nil}
use Rattle.stack_base.specs.declared.ids.DevId.{DevId}
use Rattle.stack_base.specs.declared.ids.SetId.TheVariants.{Of}
use Rattle.stack_base.specs.declared.stack.Stack.{Stack}
use Rattle.stack_base.specs.Stack.{IsStack}
use Rattle.stack_base.specs.Tree.{Tree, Leaf, Split, Mirrored, tree}
use Rattle.bio_records.specs.declared.bio.Bio.{Bio}
use Rattle.bio_records.specs.declared.bio.Pad.{Pad}
use Rattle.bio_records.specs.declared.tasks.TaskLists.{TaskLists}
use Rattle.bio_records.specs.Items.{Item}
use Rattle.bio_split.specs.Split.{split_front, split_rest}
use Rattle.bio_lists.specs.Submission.{submitted, order}
use Rattle.bio_books.specs.Links.{Linked, Made, NoRoom, Stray}
use Rattle.task_steps.specs.declared.routes.Cut.{Cut}
use Rattle.run_machine.specs.Scene.{Setup, setup_of, keeps_data, is_mirror}
use Rattle.run_machine.specs.Kept.{Kept}
use Rattle.run_machine.specs.Submissions.{Takes, WantsPunt, Links, ToPush, ToCut, ToRecord, ToMaster, Doing, Rests, Drives, Copies, Breaks, Submission, landed, asks_at, settled, goes_on, cut_at, legs_of, leg_at, copies, submission_request, after_chain, after_master, after_leg, at_hand, punts_of, spent, submission_answered, is_cut}
use Rattle.run_machine.specs.Requests.{Reply, HadBio, HadSlip, Missed, Did, LinkedTo, NoTicket}
use Rattle.task_steps.specs.Within.{IsWithinDevice, IsItemWithin, AreWithin, ListsAreWithin, is_handed_on, DoingFits, SubmissionIsWithin, AskedFits, SubmissionsStayWithin}
use Rattle.task_steps.specs.Routed.{sent, IsLanded, IsCutAt}
use Rattle.task_steps.proofs.DevicesReached.{first_at, lands_within}
use Rattle.task_steps.proofs.Devices.{cut_is, cut_not_none, leg_there}
use Rattle.task_steps.proofs.Waiting.{all_ordered, all_submitted, all_punted, all_unpunted}

-- the driver of a device is asked for what it does with a bio that it does not hand on
pub asks_fit : (stack : Stack) (setup : Setup) (lists : TaskLists) (item : Item Pad) → IsWithinDevice stack item.bio
    → (t : Tree) → t ≡ tree stack item.bio.dev.0 → is_handed_on t item.bio.range ≡ false → DoingFits stack (asks_at setup lists item t)
asks_fit stack setup lists item within (Leaf number sectors) e stays = (within, ap keeps_data (sym e))
asks_fit stack setup lists item within (Mirrored number sizes members) e stays = (within, ap is_mirror (sym e))
asks_fit stack setup lists item within (Split number kind sizes members) e stays =
    (within, ap (λ t. is_cut t item.bio.range) (sym e) ∙ ap (λ b. not b) stays)

module _ (stack : Stack) (good : IsStack stack) (places : ℕ → ℕ) where
  -- bios that wait are served one by one
  pub settled_fits : (items : List (Item Pad)) → AreWithin stack items → SubmissionIsWithin stack (settled (setup_of stack places) items)
  settled_fits [] all = record { doing = tt; lists = (All-nil (IsItemWithin stack), All-nil (IsItemWithin stack)) }
  settled_fits (item ∷ waiting) all =
      let first : IsWithinDevice stack item.bio = All-head (IsItemWithin stack) item waiting all in
      let at : Bio = landed (tree stack item.bio.dev.0) item.bio in
      let is : IsLanded stack item.bio at = lands_within stack good item.bio first in
      record {
        doing = asks_fit stack (setup_of stack places) (record { list0 = []; list1 = waiting }) (record item { bio = at }) is.within
            (tree stack at.dev.0) refl is.stays;
        lists = (All-nil (IsItemWithin stack), All-tail (IsItemWithin stack) item waiting all);
      }

  pub goes_on_fits : (dev : DevId) (lists : TaskLists) → ListsAreWithin stack lists → SubmissionIsWithin stack (goes_on (setup_of stack places) dev lists)
  goes_on_fits dev lists all = settled_fits (order dev lists) (all_ordered (IsItemWithin stack) lists all dev)

  -- both parts of a bio that is cut are submitted
  pub parts_within : (lists : TaskLists) (item hand : Item Pad) (node : ℕ) (cut : Cut) → ListsAreWithin stack lists
      → IsCutAt (setup_of stack places) stack item.bio cut
      → ListsAreWithin stack (submitted (split_rest item cut.sectors) (submitted (sent cut (split_front item hand cut.sectors (Of item.bio.dev) node)) lists))
  parts_within lists item hand node cut all is =
      let w = is.within in
      let r = is.rest in
      let P : Item Pad → Type 0 = IsItemWithin stack in
      let child = sent cut (split_front item hand cut.sectors (Of item.bio.dev) node) in
      all_submitted P (submitted child lists)
      (all_submitted P lists all child (record { device = w.device; some = w.some; within = w.within }))
      (split_rest item cut.sectors) (record { device = r.device; some = r.some; within = r.within })

  pub cut_fits : (lists : TaskLists) (item hand : Item Pad) (node : ℕ) → ListsAreWithin stack lists → IsWithinDevice stack item.bio
      → is_cut (tree stack item.bio.dev.0) item.bio.range ≡ true
      → SubmissionIsWithin stack (cut_at (setup_of stack places) lists item hand node (tree stack item.bio.dev.0))
  cut_fits lists item hand node all within more =
      elim (first_at stack good item.bio within) [
        | inl none ↦ absurd (cut_not_none stack item.bio none more)
        | inr first ↦
            let is = cut_is (setup_of stack places) stack good item.bio within first.0 first.1 more in
            let P : Submission → Type 0 = SubmissionIsWithin stack in
            subst P (sym (is.made lists item hand node refl refl))
            (goes_on_fits item.bio.dev _ (parts_within lists item hand node first.0 all is))
      ]

  -- a leg is submitted, and the next is made
  pub leg_within : (bio : Bio) (hand : Item Pad) (leg node : ℕ) → IsWithinDevice stack bio → leg < legs_of (tree stack bio.dev.0)
      → IsItemWithin stack (leg_at bio hand leg node (tree stack bio.dev.0))
  leg_within bio hand leg node within lt =
      let made = leg_there stack good bio within leg node lt in
      let w = made.1.within in
      let P : Item Pad → Type 0 = IsItemWithin stack in
      subst P (sym (made.1.made_is hand)) (record { device = w.device; some = w.some; within = w.within })

  pub copies_fit : (lists : TaskLists) (bio : Bio) (master leg : ℕ) → ListsAreWithin stack lists → IsWithinDevice stack bio
      → leg ≤ legs_of (tree stack bio.dev.0) → SubmissionIsWithin stack (copies (setup_of stack places) lists bio master leg)
  copies_fit lists bio master leg all within le = by_test (leg == legs_of (tree stack bio.dev.0)) refl
    where
      by_test : (b : Bool) → (leg == legs_of (tree stack bio.dev.0)) ≡ b → SubmissionIsWithin stack (copies (setup_of stack places) lists bio master leg)
      by_test true e =
          let P : Submission → Type 0 = SubmissionIsWithin stack in
          rw e (goes_on_fits bio.dev lists all)
      by_test false e =
          let other : leg ≢ legs_of (tree stack bio.dev.0) = λ same. absurd (search (e, same, arith)) in
          rw e (record { doing = (within, omega (arith, le, other)); lists = all })

  -- a node was made, or was not
  pub chain_fits : (lists : TaskLists) (item hand : Item Pad) (answer : Linked) → ListsAreWithin stack lists → IsWithinDevice stack item.bio
      → is_cut (tree stack item.bio.dev.0) item.bio.range ≡ true → SubmissionIsWithin stack (after_chain (setup_of stack places) lists item hand answer)
  chain_fits lists item hand (Made node) all within more = cut_fits lists item hand node all within more
  chain_fits lists item hand (NoRoom back) all within more = record { doing = tt; lists = all }
  chain_fits lists item hand (Stray back) all within more = record { doing = tt; lists = all }

  pub master_fits : (lists : TaskLists) (bio : Bio) (answer : Linked) → ListsAreWithin stack lists → IsWithinDevice stack bio
      → SubmissionIsWithin stack (after_master (setup_of stack places) lists bio answer)
  master_fits lists bio (Made node) all within = copies_fit lists bio node 0 all within (omega arith)
  master_fits lists bio (NoRoom back) all within = record { doing = tt; lists = all }
  master_fits lists bio (Stray back) all within = record { doing = tt; lists = all }

  pub leg_fits : (lists : TaskLists) (bio : Bio) (master leg : ℕ) (hand : Item Pad) (answer : Linked) → ListsAreWithin stack lists
      → IsWithinDevice stack bio → leg < legs_of (tree stack bio.dev.0)
      → SubmissionIsWithin stack (after_leg (setup_of stack places) lists bio master leg hand answer)
  leg_fits lists bio master leg hand (Made node) all within lt =
      let made : Item Pad = leg_at bio hand leg node (tree stack bio.dev.0) in
      copies_fit (submitted made lists) bio master (leg + 1)
      (all_submitted (IsItemWithin stack) lists all made (leg_within bio hand leg node within lt)) within (omega arith)
  leg_fits lists bio master leg hand (NoRoom back) all within lt = record { doing = tt; lists = all }
  leg_fits lists bio master leg hand (Stray back) all within lt = record { doing = tt; lists = all }

  -- where there was no ticket
  spent_fits : (kept : List Kept) (lists : TaskLists) (punts : Option DevId) → ListsAreWithin stack lists → SubmissionIsWithin stack (spent kept lists punts)
  spent_fits kept lists None all = record { doing = tt; lists = all }
  spent_fits kept lists (Some dev) all = record { doing = tt; lists = all_unpunted (IsItemWithin stack) lists all dev }

  -- so whatever is replied
  pub submission_fits : (doing : Doing) (lists : TaskLists) (reply : Reply) → DoingFits stack doing → ListsAreWithin stack lists
      → SubmissionIsWithin stack (submission_answered (setup_of stack places) doing lists reply)
  -- without a ticket
  submission_fits doing lists NoTicket fits all = spent_fits (at_hand doing) lists (punts_of doing) all
  -- a push
  submission_fits (Drives bio ToPush) lists Did fits all = goes_on_fits bio.bio.dev lists all
  -- a cut: it takes, misses, punts, and has its node
  submission_fits (Drives bio (ToCut (Takes waits))) lists (HadBio got hand) fits all = record { doing = fits; lists = all }
  submission_fits (Drives bio (ToCut (Takes true))) lists (Missed used) fits all = record { doing = fits; lists = all }
  submission_fits (Drives bio (ToCut (Takes false))) lists (Missed used) fits all = record { doing = fits; lists = all }
  submission_fits (Drives bio (ToCut WantsPunt)) lists Did fits all =
      record { doing = fits; lists = all_unpunted (IsItemWithin stack) lists all bio.bio.dev }
  submission_fits (Drives bio (ToCut (Links hand))) lists (LinkedTo answer) fits all = chain_fits lists bio hand answer all fits.0 fits.1
  -- a mirror: it has its record, and its node
  submission_fits (Drives bio ToRecord) lists (HadSlip got slip) fits all = record { doing = fits; lists = all }
  submission_fits (Drives bio (ToMaster slip)) lists (LinkedTo answer) fits all = master_fits lists bio.bio answer all fits.0
  -- a leg, as a cut
  submission_fits (Copies bio master leg (Takes waits)) lists (HadBio got hand) fits all = record { doing = fits; lists = all }
  submission_fits (Copies bio master leg (Takes waits)) lists (Missed used) fits all = record { doing = fits; lists = all }
  submission_fits (Copies bio master leg WantsPunt) lists Did fits all =
      record { doing = fits; lists = all_unpunted (IsItemWithin stack) lists all bio.dev }
  submission_fits (Copies bio master leg (Links hand)) lists (LinkedTo answer) fits all = leg_fits lists bio master leg hand answer all fits.0 fits.1
  -- any other reply changes nothing
  submission_fits doing lists _ fits all = record { doing = fits; lists = all }

-- what is handed to a rescuer waited
pub submission_asks : (stack : Stack) (places : ℕ → ℕ) (doing : Doing) (lists : TaskLists) → ListsAreWithin stack lists → AskedFits stack (submission_request (setup_of stack places) doing lists)
submission_asks stack places Rests lists all = tt
submission_asks stack places (Breaks breach kept) lists all = tt
submission_asks stack places (Drives bio ToPush) lists all = tt
submission_asks stack places (Drives bio (ToCut (Takes waits))) lists all = tt
submission_asks stack places (Drives bio (ToCut WantsPunt)) lists all = all_punted (IsItemWithin stack) lists all bio.bio.dev
submission_asks stack places (Drives bio (ToCut (Links hand))) lists all = tt
submission_asks stack places (Drives bio ToRecord) lists all = tt
submission_asks stack places (Drives bio (ToMaster slip)) lists all = tt
submission_asks stack places (Copies bio master leg (Takes waits)) lists all = tt
submission_asks stack places (Copies bio master leg WantsPunt) lists all = all_punted (IsItemWithin stack) lists all bio.dev
submission_asks stack places (Copies bio master leg (Links hand)) lists all = tt

pub submissions_stay_within : SubmissionsStayWithin
submissions_stay_within = record {
  settles = λ stack places items good all. settled_fits stack good places items all;
  goes_on = λ stack places submission reply good fits. submission_fits stack good places submission.doing submission.lists reply fits.doing fits.lists;
  asks = λ stack places submission fits. submission_asks stack places submission.doing submission.lists fits.lists;
}
