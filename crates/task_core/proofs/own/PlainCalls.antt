-- Calls of the lists, disks and books of one thread.
use Rattle.std.proofs.Common.{◌≡◌, ◌+◌, ◌-◌, ◌^◌, ◌≤◌, ◌++◌, ℕ, List, [], ◌∷◌, length, min, get_or, Option, None, Some, refl, sym, ap, subst, ◌∙◌, arith}
use Rattle.std.specs.Prelude.{IsTrue, MatchOption, Ok, slice_index_or}
use Rattle.elem_ledger.specs.declared.element.Element.{Element}
use Rattle.stack_base.specs.declared.ids.DevId.{DevId}
use Rattle.stack_base.specs.declared.ids.Status.{Status}
use Rattle.stack_base.specs.Tree.{tree, size}
use Rattle.bio_records.specs.declared.bio.Pad.{Pad}
use Rattle.bio_records.specs.declared.body.BioBody.{BioBody}
use Rattle.bio_records.specs.Items.{Item, item_of, IsAlone}
use Rattle.bio_records.specs.Rescue.{Rescue}
use Rattle.bio_books.specs.Books.{BookState}
use Rattle.bio_books.specs.Links.{Linked}
use Rattle.bio_books.specs.Drops.{DropOutcome, Drops}
use Rattle.model_disks.specs.Disks.{DiskState, waiting_count}
use Rattle.model_disks.specs.Moves.{pushed, Completes}
use Rattle.task_core.specs.declared.plain.Plain.{Plain}
use Rattle.run_machine.specs.Maps.{upd}
use Rattle.run_machine.specs.Requests.{Opening, Punt, Pop, Push, Complete, Link, Drop, Did, Completed, LinkedTo, DroppedTo, Nothing}
use Rattle.run_machine.specs.Objects.{OpensNode, Serves}
use Rattle.task_steps.specs.Stage.{has_rescuer, has_disk, has_book, IsServed, AreServed, IsBioHome, OpeningFits, Owes}
use Rattle.task_steps.specs.Views.{popped_reply}
use Rattle.task_core.specs.Plains.{objects_of, stage_of, Holds}
use Rattle.run_machine.proofs.Frames.{upd_own}
use Rattle.task_core.proofs.own.PlainLemmas.{kept_by, owed_by, with_lists, with_disks, with_books, list_there, list_changes, list_now, lists_entered, disk_there, disk_changes, disk_now, disks_entered, book_there, book_changes, book_now, books_entered}

-- lists of rescuers
module _ (plain : Plain) (holds : Holds plain) (dev : DevId) (is : IsTrue (has_rescuer (stage_of plain) dev)) (i : ℕ)
    (place : i ≡ slice_index_or plain.index.lists dev.0 0) (entry : DevId × Rescue) (value : entry ≡ get_or plain.lists.items i entry) (x : Rescue) where
  module _ (moved : List (Item Pad)) (fits : AreServed (stage_of plain) moved) (add : x ≡ record entry.1 { bios = entry.1.bios ++ moved }) where
    pub punted : Serves (stage_of plain).ledger (objects_of plain) (Punt dev moved) Did (objects_of (with_lists plain i entry.0 x))
    punted =
        list_changes plain holds dev.0 i is place entry value x
        ∙ ap (λ bios. record (objects_of plain) { rescue = upd (objects_of plain).rescue dev.0 bios })
        (ap (λ (l : Rescue). l.bios) add ∙ ap (λ bios. bios ++ moved) (sym (list_there plain holds dev.0 i is place entry value)))

    pub punted_kept : Holds (with_lists plain i entry.0 x) × (stage_of (with_lists plain i entry.0 x) ≡ stage_of plain)
    punted_kept =
        kept_by plain (with_lists plain i entry.0 x) (Punt dev moved) Did holds (is, fits) refl (lists_entered plain holds dev.0 i is place entry value x) punted

  pops : (result : Option (Element (BioBody Pad)))
      → MatchOption result ((entry.1.bios ≡ []) × (x.bios ≡ [])) (λ element. (entry.1.bios ≡ item_of element ∷ x.bios) × IsAlone element)
      → Serves (stage_of plain).ledger (objects_of plain) (Pop dev) (popped_reply (Ok result)) (objects_of (with_lists plain i entry.0 x))
  pops None pop =
      let none : (objects_of plain).rescue dev.0 ≡ [] = list_there plain holds dev.0 i is place entry value ∙ pop.0 in (
        none,
        list_changes plain holds dev.0 i is place entry value x
            ∙ ap (λ bios. record (objects_of plain) { rescue = upd (objects_of plain).rescue dev.0 bios }) (pop.1 ∙ sym none)
            ∙ ap (λ rescue. record (objects_of plain) { rescue = rescue }) (upd_own (objects_of plain).rescue dev.0),
      )
  pops (Some element) pop =
      let now = list_now plain holds dev.0 i is place entry value x in (
        list_there plain holds dev.0 i is place entry value ∙ pop.0 ∙ ap (λ bios. item_of element ∷ bios) (sym now),
        list_changes plain holds dev.0 i is place entry value x
            ∙ ap (λ bios. record (objects_of plain) { rescue = upd (objects_of plain).rescue dev.0 bios }) (sym now),
      )

  module _ (result : Option (Element (BioBody Pad)))
      (pop : MatchOption result ((entry.1.bios ≡ []) × (x.bios ≡ [])) (λ element. (entry.1.bios ≡ item_of element ∷ x.bios) × IsAlone element)) where
    pub popped_served : Serves (stage_of plain).ledger (objects_of plain) (Pop dev) (popped_reply (Ok result)) (objects_of (with_lists plain i entry.0 x))
    popped_served = pops result pop

    pub popped_owed : Owes (stage_of plain) (Pop dev) (popped_reply (Ok result))
    popped_owed = owed_by plain (with_lists plain i entry.0 x) (Pop dev) (popped_reply (Ok result)) holds is popped_served

    pub popped_kept : Holds (with_lists plain i entry.0 x) × (stage_of (with_lists plain i entry.0 x) ≡ stage_of plain)
    popped_kept =
        kept_by plain (with_lists plain i entry.0 x) (Pop dev) (popped_reply (Ok result)) holds is refl
        (lists_entered plain holds dev.0 i is place entry value x) popped_served

-- disks
module _ (plain : Plain) (holds : Holds plain) (bio : Item Pad) (fits : IsServed (stage_of plain) bio × IsTrue (has_disk (stage_of plain) bio.bio.dev)) (i : ℕ)
    (place : i ≡ slice_index_or plain.index.disks bio.bio.dev.0 0) (entry : DiskState) (value : entry ≡ get_or plain.disks.items i entry) where
  there : (objects_of plain).disk bio.bio.dev.0 ≡ entry
  there = disk_there plain holds bio.bio.dev.0 i fits.1 place entry value

  -- the bio ends within the disk
  pub push_within : bio.bio.range.start + bio.bio.range.len ≤ length entry.image
  push_within =
      let long : length entry.image ≡ size (tree plain.stage.value.stack bio.bio.dev.0) =
      ap (λ (d : DiskState). length d.image) (sym there) ∙ (holds.objects.disk bio.bio.dev.0).sectors in
      subst (λ n. bio.bio.range.start + bio.bio.range.len ≤ n) (sym long) fits.0.within.within

  module _ (x : DiskState) (push : x ≡ pushed bio entry) where
    pub push_served : Serves (stage_of plain).ledger (objects_of plain) (Push bio) Did (objects_of (with_disks plain i x))
    push_served =
        disk_changes plain holds bio.bio.dev.0 i fits.1 place entry value x (ap (λ (d : DiskState). d.dev) push)
        ∙ ap (λ disk. record (objects_of plain) { disk = upd (objects_of plain).disk bio.bio.dev.0 disk }) (push ∙ ap (pushed bio) (sym there))

    pub push_kept : Holds (with_disks plain i x) × (stage_of (with_disks plain i x) ≡ stage_of plain)
    push_kept =
        kept_by plain (with_disks plain i x) (Push bio) Did holds fits refl
        (disks_entered plain holds bio.bio.dev.0 i fits.1 place entry value x (ap (λ (d : DiskState). d.dev) push)) push_served

no_least : (n : ℕ) → min n (2 ^ 64 - 1) ≡ 0 → n ≡ 0
no_least n e = omega (arith, e)

none_of : (items : List (Item Pad)) → length items ≡ 0 → items ≡ []
none_of [] e = refl
none_of (item ∷ items) e = absurd (omega (arith, e))

module _ (plain : Plain) (holds : Holds plain) (disk : DevId) (is : IsTrue (has_disk (stage_of plain) disk)) (i : ℕ)
    (place : i ≡ slice_index_or plain.index.disks disk.0 0) (entry : DiskState) (value : entry ≡ get_or plain.disks.items i entry) where
  pub waiting_in : (objects_of plain).disk disk.0 ≡ entry
  waiting_in = disk_there plain holds disk.0 i is place entry value

  pub nothing_waits : waiting_count entry ≡ 0
      → Serves (stage_of plain).ledger (objects_of plain) (Complete disk) Nothing (objects_of plain)
  nothing_waits none =
      (ap (λ (d : DiskState). d.pending) waiting_in ∙ none_of entry.pending (no_least (length entry.pending) none), refl)

  module _ (index : ℕ) (bio : Item Pad) (status : Status) (x : DiskState) (completes : Completes entry index bio status x) where
    same_disk : x.dev ≡ entry.dev
    same_disk = ap (λ (d : DiskState). d.dev) completes.after

    pub complete_served : Serves (stage_of plain).ledger (objects_of plain) (Complete disk) (Completed index bio status) (objects_of (with_disks plain i x))
    complete_served =
        let now = disk_now plain holds disk.0 i is place entry value x same_disk in (
          subst (λ d. Completes d index bio status ((objects_of (with_disks plain i x)).disk disk.0)) (sym waiting_in)
              (subst (Completes entry index bio status) (sym now) completes),
          disk_changes plain holds disk.0 i is place entry value x same_disk
              ∙ ap (λ d. record (objects_of plain) { disk = upd (objects_of plain).disk disk.0 d }) (sym now),
        )

    pub complete_owed : Owes (stage_of plain) (Complete disk) (Completed index bio status)
    complete_owed = owed_by plain (with_disks plain i x) (Complete disk) (Completed index bio status) holds is complete_served

    pub complete_kept : Holds (with_disks plain i x) × (stage_of (with_disks plain i x) ≡ stage_of plain)
    complete_kept =
        kept_by plain (with_disks plain i x) (Complete disk) (Completed index bio status) holds is refl
        (disks_entered plain holds disk.0 i is place entry value x same_disk) complete_served

-- books
module _ (plain : Plain) (holds : Holds plain) (writer : ℕ) (is : IsTrue (has_book (stage_of plain) writer)) (i : ℕ)
    (place : i ≡ slice_index_or plain.index.books writer 0) (entry : ℕ × BookState) (value : entry ≡ get_or plain.books.items i entry) (x : BookState) where
  book_was : entry.1 ≡ (objects_of plain).book writer
  book_was = sym (book_there plain holds writer i is place entry value)

  book_is : x ≡ (objects_of (with_books plain i entry.0 x)).book writer
  book_is = sym (book_now plain holds writer i is place entry value x)

  book_alone : objects_of (with_books plain i entry.0 x)
      ≡ record (objects_of plain) { book = upd (objects_of plain).book writer ((objects_of (with_books plain i entry.0 x)).book writer) }
  book_alone =
      book_changes plain holds writer i is place entry value x
      ∙ ap (λ b. record (objects_of plain) { book = upd (objects_of plain).book writer b }) book_is

  module _ (opening : Opening) (fits : OpeningFits (stage_of plain) opening) (answer : Linked) (opened : OpensNode entry.1 opening answer x) where
    pub link_served : Serves (stage_of plain).ledger (objects_of plain) (Link writer opening) (LinkedTo answer) (objects_of (with_books plain i entry.0 x))
    link_served = (
      subst (λ b. OpensNode b opening answer ((objects_of (with_books plain i entry.0 x)).book writer)) book_was (subst (OpensNode entry.1 opening answer) book_is opened),
      book_alone,
    )

    pub link_owed : Owes (stage_of plain) (Link writer opening) (LinkedTo answer)
    link_owed = owed_by plain (with_books plain i entry.0 x) (Link writer opening) (LinkedTo answer) holds (is, fits) link_served

    pub link_kept : Holds (with_books plain i entry.0 x) × (stage_of (with_books plain i entry.0 x) ≡ stage_of plain)
    link_kept =
        kept_by plain (with_books plain i entry.0 x) (Link writer opening) (LinkedTo answer) holds (is, fits) refl
        (books_entered plain holds writer i is place entry value x) link_served

  module _ (node : ℕ) (status : Status) (part : Option (Item Pad)) (fits : IsBioHome (stage_of plain) part) (ended : DropOutcome)
      (drops : Drops entry.1 node status part ended x) where
    pub drop_served : Serves (stage_of plain).ledger (objects_of plain) (Drop writer node status part) (DroppedTo ended) (objects_of (with_books plain i entry.0 x))
    drop_served = (
      subst (λ b. Drops b node status part ended ((objects_of (with_books plain i entry.0 x)).book writer)) book_was
          (subst (Drops entry.1 node status part ended) book_is drops),
      book_alone,
    )

    pub drop_owed : Owes (stage_of plain) (Drop writer node status part) (DroppedTo ended)
    drop_owed = owed_by plain (with_books plain i entry.0 x) (Drop writer node status part) (DroppedTo ended) holds (is, fits) drop_served

    pub drop_kept : Holds (with_books plain i entry.0 x) × (stage_of (with_books plain i entry.0 x) ≡ stage_of plain)
    drop_kept =
        kept_by plain (with_books plain i entry.0 x) (Drop writer node status part) (DroppedTo ended) holds (is, fits) refl
        (books_entered plain holds writer i is place entry value x) drop_served
