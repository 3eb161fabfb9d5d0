-- A submission that does not stand still has an event that needs no ordinary memory.
use Rattle.std.proofs.Common.{◌≡◌, ◌+◌, ◌*◌, ◌<◌, ◌≤◌, ◌⊎◌, ◌++◌, ℕ, Bool, true, false, Some, inl, inr, refl, sym, ap, subst, arith}
use Rattle.stack_base.specs.declared.ids.DevId.{DevId}
use Rattle.stack_base.specs.declared.ids.SetId.TheVariants.{Of}
use Rattle.stack_base.proofs.NumberLemmas.{zero_or}
use Rattle.mempool_core.specs.Move.{takes_spare, misses}
use Rattle.bio_records.specs.declared.tasks.TaskLists.{TaskLists}
use Rattle.bioset_pools.specs.Sets.{bios_of}
use Rattle.bio_lists.specs.Punt.{punted}
use Rattle.bio_books.specs.Books.{Node, node_at, with_node, child_node, master_node, leg_node, with_kept_part, raised}
use Rattle.model_disks.specs.Moves.{pushed}
use Rattle.run_machine.specs.Maps.{upd}
use Rattle.run_machine.specs.Scene.{Setup, Scene, tree_at}
use Rattle.run_machine.specs.Submissions.{Takes, WantsPunt, Links, ToPush, ToCut, ToRecord, ToMaster, Doing, Rests, Drives, Copies, Breaks, legs_of}
use Rattle.run_machine.specs.Tasks.{TaskState}
use Rattle.run_machine.specs.Objects.{clear_bio, clear_slip}
use Rattle.run_machine.specs.Runs.{State}
use Rattle.block_core.specs.Weights.{one_if_same, doing_weight, legs_left}
use Rattle.block_core.proofs.moves.References.{references}
use Rattle.block_core.proofs.moves.Moves.{limit_of, HasSubmission, with_pool, with_book}
use Rattle.block_core.proofs.moves.Sums.{one-same}
use Rattle.block_core.proofs.sound.Invariant.{DoingFits, Invariant}
use Rattle.block_core.proofs.sound.TaskSubmissions.{IsBusy}
use Rattle.block_core.proofs.sound.Orders.{DoingPlaced}
use Rattle.mempool_core.specs.Position.{uses_entry}
use Rattle.bio_books.specs.Links.{Made, ChainsAt, MastersAt, LegsAt}
use Rattle.run_machine.specs.declared.event.Got.TheVariants as got
use Rattle.run_machine.specs.declared.event.What.TheVariants as what
use Rattle.run_machine.specs.Requests as requests
use Rattle.run_machine.specs.Objects.{Serves}
use Rattle.run_machine.specs.Events.{what_of}
use Rattle.run_machine.specs.Submissions.{submission_request}
use Rattle.run_machine.specs.Runs.{HasFree}
use Rattle.block_core.specs.Rooms.{need_at, legs_need, room, HasRoomInBooks}
use Rattle.block_core.proofs.moves.Totals.{task_part, submission_part}
use Rattle.block_core.proofs.unrefused.NodeNeeds.{Needs, mirror_need, cut_need, legs_few}
use Rattle.block_core.proofs.unrefused.VacantPlaces.{HasVacant, has_vacant}
use Rattle.block_core.proofs.stuck.NothingWaits.{spares, StillWant, StillDoing}
use Rattle.block_core.proofs.stuck.Idle.{open_in_books, open_at}
use Rattle.block_core.proofs.stuck.FreeEvents.{HasNumbers, some_needs, free_submission, link_serves}

module _ (scene : Scene) (s : State) (n : Needs scene.setup) (k : Invariant scene s) (r : HasRoomInBooks scene s) (numbers : HasNumbers s) where
  abbrev setup : Setup
  setup = scene.setup

  -- a driver wants a bio of a set
  want_free : (place : ℕ) → place < scene.tasks → (x : TaskState) → s.task place ≡ x → (doing : Doing) (lists : TaskLists) → HasSubmission x doing lists → IsBusy doing → (dev : DevId) (waits : Bool)
      → submission_request setup doing lists ≡ requests.TakeBio (Of dev) waits → HasFree scene s ⊎ StillWant s dev.0 (Takes waits)
  want_free place here x at doing lists h busy dev waits asks = by_spare waits asks (zero_or (spares s (2 * dev.0)))
    where
      by_spare : (waits : Bool) → submission_request setup doing lists ≡ requests.TakeBio (Of dev) waits → (spares s (2 * dev.0) ≡ 0) ⊎ (1 ≤ spares s (2 * dev.0)) → HasFree scene s ⊎ StillWant s dev.0 (Takes waits)
      by_spare true asks (inl none) = inr none
      by_spare true asks (inr some) =
          inl (free_submission scene s place here x at doing lists h busy (requests.HadBio got.Spare (clear_bio (scene.ledger (2 * dev.0)))) (what.Take (bios_of (Of dev)) got.Spare)
          (ap (λ r. what_of r (requests.HadBio got.Spare (clear_bio (scene.ledger (2 * dev.0))))) asks) refl (with_pool s.objects (2 * dev.0) takes_spare)
          (subst (λ r. Serves scene.ledger s.objects r (requests.HadBio got.Spare (clear_bio (scene.ledger (2 * dev.0)))) (with_pool s.objects (2 * dev.0) takes_spare)) (sym asks)
          (((omega (arith, some), numbers.outs (2 * dev.0)), refl), refl)))
      by_spare false asks (inl none) =
          let used = uses_entry (s.objects.pool (2 * dev.0)).script (s.objects.pool (2 * dev.0)).facts.pos in
          inl (free_submission scene s place here x at doing lists h busy (requests.Missed used) (what.Try (bios_of (Of dev)) got.Missed)
          (ap (λ r. what_of r (requests.Missed used)) asks) refl (with_pool s.objects (2 * dev.0) (misses used))
          (subst (λ r. Serves scene.ledger s.objects r (requests.Missed used) (with_pool s.objects (2 * dev.0) (misses used))) (sym asks) ((inl none, refl), refl)))
      by_spare false asks (inr some) =
          inl (free_submission scene s place here x at doing lists h busy (requests.HadBio got.Spare (clear_bio (scene.ledger (2 * dev.0)))) (what.Try (bios_of (Of dev)) got.Spare)
          (ap (λ r. what_of r (requests.HadBio got.Spare (clear_bio (scene.ledger (2 * dev.0))))) asks) refl (with_pool s.objects (2 * dev.0) takes_spare)
          (subst (λ r. Serves scene.ledger s.objects r (requests.HadBio got.Spare (clear_bio (scene.ledger (2 * dev.0)))) (with_pool s.objects (2 * dev.0) takes_spare)) (sym asks)
          (((omega (arith, some), numbers.outs (2 * dev.0)), refl), refl)))

  -- the node that a submission names is open
  named : (place : ℕ) → place < scene.tasks → (x : TaskState) → s.task place ≡ x → (doing : Doing) (lists : TaskLists) → HasSubmission x doing lists → (w key : ℕ)
      → 1 ≤ doing_weight (references setup w key) (limit_of x) doing → (node : Node) × (node_at (s.objects.book w) key ≡ Some node) × (1 ≤ node.count)
  named place here x at doing lists h w key some = open_at scene s k w key (omega (arith, task_part scene (references setup w key) s place x here at, submission_part (references setup w key) place x doing lists h, some))

  -- and a place of its book is vacant where it still needs one
  opens : (place : ℕ) → place < scene.tasks → (x : TaskState) → s.task place ≡ x → (doing : Doing) (lists : TaskLists) → HasSubmission x doing lists → (w key : ℕ) (node : Node)
      → node_at (s.objects.book w) key ≡ Some node → 1 ≤ doing_weight (room setup w) (limit_of x) doing → HasVacant (s.objects.book w)
  opens place here x at doing lists h w key node is some =
      has_vacant scene s r place x w here at (open_in_books scene s k w key node is) (omega (arith, submission_part (room setup w) place x doing lists h, some))

  -- a submission that does not stand still
  pub submission_free : (place : ℕ) → place < scene.tasks → (x : TaskState) → s.task place ≡ x → (doing : Doing) (lists : TaskLists) → HasSubmission x doing lists → IsBusy doing
      → DoingFits setup doing lists → DoingPlaced setup (limit_of x) doing lists → HasFree scene s ⊎ StillDoing s doing
  -- one that rests has nothing to do, and none has broken off
  submission_free place here x at Rests lists h busy fits d = absurd busy
  submission_free place here x at (Breaks breach kept) lists h busy fits d = absurd fits
  -- pushes: a disk takes each bio
  submission_free place here x at (Drives bio ToPush) lists h busy fits d =
      inl (free_submission scene s place here x at (Drives bio ToPush) lists h busy requests.Did (what.Push bio.bio.dev bio.bio.range.start bio.bio.range.len bio.pad.leg) refl refl
      (record s.objects { disk = upd s.objects.disk bio.bio.dev.0 (pushed bio (s.objects.disk bio.bio.dev.0)) }) refl)
  -- pieces: one that takes goes on or waits, one that punts goes on, and one that links has a vacant place
  submission_free place here x at (Drives bio (ToCut (Takes waits))) lists h busy fits d =
      want_free place here x at (Drives bio (ToCut (Takes waits))) lists h busy bio.bio.dev waits refl
  submission_free place here x at (Drives bio (ToCut WantsPunt)) lists h busy fits d =
      inl (free_submission scene s place here x at (Drives bio (ToCut WantsPunt)) lists h busy requests.Did _ refl refl
      (record s.objects { rescue = upd s.objects.rescue bio.bio.dev.0 (s.objects.rescue bio.bio.dev.0 ++ punted (Of bio.bio.dev) lists) }) refl)
  submission_free place here x at (Drives bio (ToCut (Links hand))) lists h busy fits d =
      let doing : Doing = Drives bio (ToCut (Links hand)) in
      let w = bio.bio.writer in
      let names_it : one_if_same w w * one_if_same bio.bio.node bio.bio.node ≡ 1 = rw (one-same w, one-same bio.bio.node) refl in
      let o = named place here x at doing lists h w bio.bio.node (omega (arith, names_it)) in
      let need = cut_need setup n bio (Links hand) (tree_at setup bio.bio.dev) refl d.1.0.0 d.3 in
      let v = opens place here x at doing lists h w bio.bio.node o.0 o.1 (omega (arith, some_needs (one_if_same w w) (need_at setup bio.bio) (one-same w) need)) in
      let book = with_node (with_node (s.objects.book w) v.0 (Some (child_node o.0.write bio.bio.node))) bio.bio.node (Some (raised o.0)) in
      let opened : ChainsAt (s.objects.book w) bio.bio.node (Some o.0) (Made v.0) book = (numbers.ends w bio.bio.node o.0 o.1, v.1, refl) in
      inl (free_submission scene s place here x at doing lists h busy (requests.LinkedTo (Made v.0)) _ refl refl (with_book s.objects w book)
      (link_serves scene s w (requests.Chain bio.bio.node) (Made v.0) book (subst (λ found. ChainsAt (s.objects.book w) bio.bio.node found (Made v.0) book) (sym o.1) opened)))
  -- records: one is spare, or the submission waits
  submission_free place here x at (Drives bio ToRecord) lists h busy fits d = by_spare (zero_or (spares s (2 * bio.bio.dev.0 + 1)))
    where
      by_spare : (spares s (2 * bio.bio.dev.0 + 1) ≡ 0) ⊎ (1 ≤ spares s (2 * bio.bio.dev.0 + 1)) → HasFree scene s ⊎ StillDoing s (Drives bio ToRecord)
      by_spare (inl none) = inr none
      by_spare (inr some) =
          inl (free_submission scene s place here x at (Drives bio ToRecord) lists h busy (requests.HadSlip got.Spare (clear_slip (scene.ledger (2 * bio.bio.dev.0 + 1)))) _ refl refl
          (with_pool s.objects (2 * bio.bio.dev.0 + 1) takes_spare) (((omega (arith, some), numbers.outs (2 * bio.bio.dev.0 + 1)), refl), refl))
  -- links of masters: the book has a vacant place
  submission_free place here x at (Drives bio (ToMaster slip)) lists h busy fits d =
      let doing : Doing = Drives bio (ToMaster slip) in
      let w = bio.bio.writer in
      let tree = tree_at setup bio.bio.dev in
      let legs = legs_of tree in
      let names_it : one_if_same w w * one_if_same bio.bio.node bio.bio.node ≡ 1 = rw (one-same w, one-same bio.bio.node) refl in
      let o = named place here x at doing lists h w bio.bio.node (omega (arith, names_it)) in
      let need : 1 ≤ need_at setup bio.bio = omega (arith, mirror_need tree bio.bio.range bio.bio.dev.0 slip d.3 d.1.0.0.some) in
      let v = opens place here x at doing lists h w bio.bio.node o.0 o.1 (omega (arith, some_needs (one_if_same w w) (need_at setup bio.bio) (one-same w) need)) in
      let book = with_node (with_node (s.objects.book w) v.0 (Some (master_node o.0.write bio.bio.node slip legs))) bio.bio.node (Some (with_kept_part bio o.0)) in
      let opened : MastersAt (s.objects.book w) bio.bio.node (Some o.0) bio slip legs (Made v.0) book = (v.1, refl) in
      inl (free_submission scene s place here x at doing lists h busy (requests.LinkedTo (Made v.0)) _ refl refl (with_book s.objects w book)
      (link_serves scene s w (requests.Master bio.bio.node bio slip legs) (Made v.0) book
      (subst (λ found. MastersAt (s.objects.book w) bio.bio.node found bio slip legs (Made v.0) book) (sym o.1) opened)))
  -- legs: as pieces
  submission_free place here x at (Copies bio master leg (Takes waits)) lists h busy fits d =
      want_free place here x at (Copies bio master leg (Takes waits)) lists h busy bio.dev waits refl
  submission_free place here x at (Copies bio master leg WantsPunt) lists h busy fits d =
      inl (free_submission scene s place here x at (Copies bio master leg WantsPunt) lists h busy requests.Did _ refl refl
      (record s.objects { rescue = upd s.objects.rescue bio.dev.0 (s.objects.rescue bio.dev.0 ++ punted (Of bio.dev) lists) }) refl)
  submission_free place here x at (Copies bio master leg (Links hand)) lists h busy fits d =
      let doing : Doing = Copies bio master leg (Links hand) in
      let w = bio.writer in
      let left : 1 ≤ legs_left setup bio leg = omega (arith, fits) in
      let both_one : one_if_same w w * one_if_same master master ≡ 1 = rw (one-same w, one-same master) refl in
      let o = named place here x at doing lists h w master (omega (arith, some_needs (one_if_same w w * one_if_same master master) (legs_left setup bio leg) both_one left)) in
      let need : 1 ≤ legs_need setup bio leg = omega (arith, left, legs_few (tree_at setup bio.dev) bio.range leg) in
      let v = opens place here x at doing lists h w master o.0 o.1 (omega (arith, some_needs (one_if_same w w) (legs_need setup bio leg) (one-same w) need)) in
      let book = with_node (s.objects.book w) v.0 (Some (leg_node o.0.write master)) in
      let opened : LegsAt (s.objects.book w) master (Some o.0) (Made v.0) book = (v.1, refl) in
      inl (free_submission scene s place here x at doing lists h busy (requests.LinkedTo (Made v.0)) _ refl refl (with_book s.objects w book)
      (link_serves scene s w (requests.Leg master) (Made v.0) book (subst (λ found. LegsAt (s.objects.book w) master found (Made v.0) book) (sym o.1) opened)))
