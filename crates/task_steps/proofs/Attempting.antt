-- An attempt at a bio for a piece or a leg is what its submission asks for.
use Rattle.std.proofs.Common.{◌≡◌, ◌≢◌, ℕ, [], Bool, Some, None, refl, sym, subst}
use Rattle.std.proofs.lemmas.Option.{none-some, same_Some}
use Rattle.stack_base.specs.declared.ids.DevId.{DevId}
use Rattle.stack_base.specs.declared.ids.SetId.TheVariants.{Of}
use Rattle.bio_records.specs.declared.tasks.TaskLists.{TaskLists}
use Rattle.run_machine.specs.declared.event.Breach.TheVariants as breach
use Rattle.run_machine.specs.declared.event.TaskId.{TaskId}
use Rattle.task_steps.specs.declared.step.Step.TheVariants.{Broken}
use Rattle.run_machine.specs.Scene.{Setup}
use Rattle.run_machine.specs.Requests.{TakeBio, NoTicket}
use Rattle.bio_records.specs.declared.bio.Bio.{Bio}
use Rattle.bio_records.specs.declared.bio.Pad.{Pad}
use Rattle.bio_records.specs.Items.{Item}
use Rattle.run_machine.specs.Submissions.{Want, Takes, WantsPunt, Links, Driving, ToPush, ToCut, ToRecord, ToMaster, Doing, Rests, Drives, Copies, Breaks, want_kept, ask_kept, at_hand}
use Rattle.task_steps.specs.Service.{Service, Owing}
use Rattle.task_steps.specs.SubmissionViews.{attempt_of}
use Rattle.task_steps.specs.Answers.{AnswersSubmission, IsSpent}

-- where a driver takes a bio, it has none at hand for a piece or a leg
pub cuts_for_none : (bio : Item Pad) (ask : Driving) → attempt_of (Drives bio ask) ≢ None → ask_kept ask ≡ []
cuts_for_none bio ToPush takes = absurd (takes refl)
cuts_for_none bio (ToCut (Takes waits)) takes = refl
cuts_for_none bio (ToCut WantsPunt) takes = absurd (takes refl)
cuts_for_none bio (ToCut (Links hand)) takes = absurd (takes refl)
cuts_for_none bio ToRecord takes = absurd (takes refl)
cuts_for_none bio (ToMaster slip) takes = absurd (takes refl)

pub copies_for_none : (bio : Bio) (master leg : ℕ) (want : Want) → attempt_of (Copies bio master leg want) ≢ None → want_kept want ≡ []
copies_for_none bio master leg (Takes waits) takes = refl
copies_for_none bio master leg WantsPunt takes = absurd (takes refl)
copies_for_none bio master leg (Links hand) takes = absurd (takes refl)

module _ {S : Type 0} (serves : Service S) (owes : Owing) (setup : Setup) (task : TaskId) where
  -- where there was no ticket for an attempt, the submission has broken off
  pub attempt_spent : (doing : Doing) (lists : TaskLists) (dev : DevId) (waits : Bool) (old new : S) → attempt_of doing ≡ Some (dev, waits)
      → IsSpent serves owes (TakeBio (Of dev) waits) old new
      → AnswersSubmission serves owes setup task doing lists old (record { doing = Breaks breach.Spent (at_hand doing); lists = lists }) new (Broken breach.Spent)
  attempt_spent (Drives bio (ToCut (Takes waiting))) lists dev waits old new attempts spent =
      let same = same_Some (bio.bio.dev, waiting) (dev, waits) attempts in
      record {
        reply = NoTicket;
        replied = subst (λ (p : DevId × Bool). serves old (TakeBio (Of p.0) p.1) NoTicket new) (sym same) spent.0;
        owed = subst (λ (p : DevId × Bool). owes (TakeBio (Of p.0) p.1) NoTicket) (sym same) spent.1;
        found = refl;
        goes_on = refl;
        tells = refl;
      }
  attempt_spent (Copies bio master leg (Takes waiting)) lists dev waits old new attempts spent =
      let same = same_Some (bio.dev, waiting) (dev, waits) attempts in
      record {
        reply = NoTicket;
        replied = subst (λ (p : DevId × Bool). serves old (TakeBio (Of p.0) p.1) NoTicket new) (sym same) spent.0;
        owed = subst (λ (p : DevId × Bool). owes (TakeBio (Of p.0) p.1) NoTicket) (sym same) spent.1;
        found = refl;
        goes_on = refl;
        tells = refl;
      }
  attempt_spent Rests lists dev waits old new attempts spent = absurd (none-some (dev, waits) attempts)
  attempt_spent (Breaks why kept) lists dev waits old new attempts spent = absurd (none-some (dev, waits) attempts)
  attempt_spent (Drives bio ToPush) lists dev waits old new attempts spent = absurd (none-some (dev, waits) attempts)
  attempt_spent (Drives bio (ToCut WantsPunt)) lists dev waits old new attempts spent = absurd (none-some (dev, waits) attempts)
  attempt_spent (Drives bio (ToCut (Links hand))) lists dev waits old new attempts spent = absurd (none-some (dev, waits) attempts)
  attempt_spent (Drives bio ToRecord) lists dev waits old new attempts spent = absurd (none-some (dev, waits) attempts)
  attempt_spent (Drives bio (ToMaster slip)) lists dev waits old new attempts spent = absurd (none-some (dev, waits) attempts)
  attempt_spent (Copies bio master leg WantsPunt) lists dev waits old new attempts spent = absurd (none-some (dev, waits) attempts)
  attempt_spent (Copies bio master leg (Links hand)) lists dev waits old new attempts spent = absurd (none-some (dev, waits) attempts)
