-- What tasks keep that cannot go on, case by case.
use Rattle.std.proofs.Common.{◌≡◌, ℕ, List, [], ◌∷◌, map, Option, Some, refl}
use Rattle.stack_base.specs.declared.ids.Status.{Status}
use Rattle.stack_base.specs.declared.ids.SetId.TheVariants.{Of}
use Rattle.bio_records.specs.declared.bio.Bio.{Bio}
use Rattle.bio_records.specs.declared.bio.Pad.{Pad}
use Rattle.bio_records.specs.declared.tasks.TaskLists.{TaskLists}
use Rattle.bio_records.specs.Items.{Item}
use Rattle.bio_lists.specs.Punt.{punted, unpunted}
use Rattle.bio_books.specs.Books.{VectorItem, SlipItem, nothing_held, holding_vector, unmastered}
use Rattle.bio_books.specs.Drops as end
use Rattle.bio_books.specs.Links.{NoRoom, Stray}
use Rattle.run_machine.specs.declared.event.Breach.TheVariants as breach
use Rattle.run_machine.specs.Scene.{Setup}
use Rattle.run_machine.specs.Requests.{LinkedTo, DroppedTo, NoTicket}
use Rattle.run_machine.specs.Kept.{KeptBio, KeptVec, KeptSlip}
use Rattle.run_machine.specs.Submissions.{WantsPunt, Links, ToPush, ToCut, ToMaster, Drives, Copies, Breaks, Submission, submission_answered}
use Rattle.run_machine.specs.Tasks.{Todo, HasBio, HasBoth, Writer, Brings, Carries, Fails, filled_vector, write_answered, carried_answered}

module _ (setup : Setup) (lists : TaskLists) where
  -- a disk had no ticket for a bio: the bio
  a_push : (bio : Item Pad) → submission_answered setup (Drives bio ToPush) lists NoTicket ≡ record { doing = Breaks breach.Spent (KeptBio bio ∷ []); lists = lists }
  a_push bio = refl

  -- a rescuer's list had none: the bio at the driver, and those that were handed over, which are in no list any more
  a_punt : (bio : Item Pad) → submission_answered setup (Drives bio (ToCut WantsPunt)) lists NoTicket
      ≡ record { doing = Breaks breach.Spent (KeptBio bio ∷ map KeptBio (punted (Of bio.bio.dev) lists)); lists = unpunted (Of bio.bio.dev) lists }
  a_punt bio = refl

  -- a mirror's: the parent has the bio that is copied
  a_punt_for_a_leg : (bio : Bio) (master leg : ℕ) → submission_answered setup (Copies bio master leg WantsPunt) lists NoTicket
      ≡ record { doing = Breaks breach.Spent (map KeptBio (punted (Of bio.dev) lists)); lists = unpunted (Of bio.dev) lists }
  a_punt_for_a_leg bio master leg = refl

  -- a book had no vacant place for the front of a bio: both bios
  a_split : (bio hand : Item Pad) → submission_answered setup (Drives bio (ToCut (Links hand))) lists (LinkedTo (NoRoom nothing_held))
      ≡ record { doing = Breaks (breach.NoRoom bio.bio.writer (setup.places bio.bio.writer)) (KeptBio bio ∷ KeptBio hand ∷ []); lists = lists }
  a_split bio hand = refl

  -- the node of a mirror's bio was not open: the bio and the record come back
  a_master : (bio : Item Pad) (slip : SlipItem) → submission_answered setup (Drives bio (ToMaster slip)) lists (LinkedTo (Stray (unmastered bio slip)))
      ≡ record { doing = Breaks (breach.Stray bio.bio.writer bio.bio.node) (KeptBio bio ∷ KeptSlip slip ∷ []); lists = lists }
  a_master bio slip = refl

  a_leg : (bio : Bio) (hand : Item Pad) (master leg : ℕ) → submission_answered setup (Copies bio master leg (Links hand)) lists NoTicket
      ≡ record { doing = Breaks breach.Spent (KeptBio hand ∷ []); lists = lists }
  a_leg bio hand master leg = refl

-- a writer that was refused the node of a write with a vector has its bio, and the vector with the segments of the write comes back
a_write : (setup : Setup) (writer : ℕ) (todo : Todo) (later : List Todo) (bio : Item Pad) (vector : VectorItem) (submission : Submission)
    → write_answered setup writer (todo ∷ later) (HasBoth bio vector) submission (LinkedTo (NoRoom (holding_vector (Some (filled_vector todo vector)))))
    ≡ Writer writer (todo ∷ later) (HasBio bio)
    (record submission { doing = Breaks (breach.NoRoom writer (setup.places writer)) (KeptVec (filled_vector todo vector) ∷ []) })
a_write setup writer todo later bio vector submission = refl

a_write_without_a_ticket : (setup : Setup) (writer : ℕ) (todo : Todo) (later : List Todo) (bio : Item Pad) (vector : VectorItem) (submission : Submission)
    → write_answered setup writer (todo ∷ later) (HasBoth bio vector) submission NoTicket
    ≡ Writer writer (todo ∷ later) (HasBio bio) (record submission { doing = Breaks breach.Spent (KeptVec (filled_vector todo vector) ∷ []) })
a_write_without_a_ticket setup writer todo later bio vector submission = refl

-- a completer: the bio that it brought to a node that is not open, and all that a closed node held where the first of it could not be given
an_end : (bio : Item Pad) (status : Status) → carried_answered (Brings bio status) (DroppedTo (end.Stray (Some bio)))
    ≡ Fails (breach.Stray bio.bio.writer bio.bio.node) (KeptBio bio ∷ [])
an_end bio status = refl

a_give : (writer write : ℕ) (parent : Option ℕ) (status : Status) (vector : VectorItem) (bio : Item Pad) (slip : SlipItem)
    → carried_answered (Carries writer (record { held = record { bio = Some bio; vector = Some vector; slip = Some slip }; parent = parent; write = write; status = status })) NoTicket
    ≡ Fails breach.Spent (KeptVec vector ∷ KeptBio bio ∷ KeptSlip slip ∷ [])
a_give writer write parent status vector bio slip = refl
