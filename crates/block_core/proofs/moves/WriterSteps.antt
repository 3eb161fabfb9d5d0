-- Each step of a writer is one of the events.
use Rattle.std.proofs.Common.{◌≡◌, ◌<◌, ◌≤◌, ℕ, Bool, true, false, List, [], ◌∷◌, None, Some, inr, refl, sym, ◌∙◌, ap, subst, arith}
use Rattle.std.proofs.lemmas.Option.{none-some}
use Rattle.stack_base.specs.declared.ids.PoolId.TheVariants.{FsBios, FsVecs}
use Rattle.stack_base.specs.declared.ids.SetId.TheVariants.{Fs}
use Rattle.mempool_core.specs.Move.{takes_ordinary, takes_spare}
use Rattle.bio_records.specs.declared.bio.Pad.{Pad}
use Rattle.bio_records.specs.declared.tasks.TaskLists.{TaskLists}
use Rattle.bio_records.specs.Items.{Item}
use Rattle.bio_lists.specs.Submission.{no_lists}
use Rattle.bio_books.specs.Books.{VectorItem, told}
use Rattle.run_machine.specs.Maps.{upd}
use Rattle.run_machine.specs.Scene.{Scene}
use Rattle.run_machine.specs.Submissions.{Doing, Rests, Drives, Copies, Breaks, rests}
use Rattle.run_machine.specs.Tasks.{Writer, Todo, Gathered, NoBio, HasBio, HasBoth}
use Rattle.run_machine.specs.Runs.{State}
use Rattle.block_core.proofs.moves.Moves.{IsTaking}
use Rattle.block_core.proofs.moves.Moves as moves
use Rattle.block_core.proofs.sound.Invariant.{TaskIsSound, LedgersAreNumbered, Invariant}
use Rattle.bio_books.specs.Links.{Made, NoRoom, Stray}
use Rattle.run_machine.specs.declared.event.Got.TheVariants as got
use Rattle.run_machine.specs.declared.event.What.{What}
use Rattle.run_machine.specs.Events.{what_of}
use Rattle.run_machine.specs.Requests as requests
use Rattle.run_machine.specs.Requests.{Reply}
use Rattle.run_machine.specs.Tasks.{request, answered, look_of, with_bio, needs_vector}
use Rattle.run_machine.specs.Objects.{Serves}
use Rattle.run_machine.specs.Runs.{IsLet}
use Rattle.block_core.proofs.moves.StepsTold.{IsMove, touch_in, paid_in, miss_passes, state_is, used_told, miss_pays, its_end, Goes, Moved}
use Rattle.block_core.proofs.moves.SubmissionSteps.{submits}

module _ (scene : Scene) (s : State) (f : LedgersAreNumbered scene) (i : Invariant scene s) (place : ℕ) (here : place < scene.tasks) (what : What) (new : State) where
  -- a writer at rest takes its bio
  takes_first : (number : ℕ) (todo : Todo) (later : List Todo) → s.task place ≡ Writer number (todo ∷ later) NoBio rests → todo.round ≤ s.objects.tally.round → (reply : Reply)
      → what_of (requests.TakeBio Fs true) reply ≡ Some what → Serves scene.ledger s.objects (requests.TakeBio Fs true) reply new.objects
      → Goes s place new (answered scene.setup (Writer number (todo ∷ later) NoBio rests) reply) → IsMove scene s place what new
  takes_first number todo later is now (requests.HadBio got.Ordinary hand) told serves goes =
      record {
        move = moves.TakesFirst place number todo later takes_ordinary;
        can = (here, is, tt, now, serves.0.0);
        is = state_is new _ _ serves.0.1 (goes ∙ ap (λ item. upd s.task place (Writer number (todo ∷ later) (HasBio item) rests)) serves.1);
        at = refl;
        touches = sym (ap touch_in told);
        pays = λ was_master. sym (ap (paid_in (its_end s place was_master)) told);
      }
  takes_first number todo later is now (requests.HadBio got.Spare hand) told serves goes =
      record {
        move = moves.TakesFirst place number todo later takes_spare;
        can = (here, is, tt, now, serves.0.0);
        is = state_is new _ _ serves.0.1 (goes ∙ ap (λ item. upd s.task place (Writer number (todo ∷ later) (HasBio item) rests)) serves.1);
        at = refl;
        touches = sym (ap touch_in told);
        pays = λ was_master. sym (ap (paid_in (its_end s place was_master)) told);
      }
  takes_first number todo later is now (requests.HadBio got.Missed hand) told serves goes = absurd serves.0
  takes_first number todo later is now (requests.Missed used) told serves goes =
      record { move = moves.MissesOne place (Writer number (todo ∷ later) NoBio rests) 65 used; can = (here, is, serves.0, tt, used_told used FsBios what told, inr (omega arith)); is = state_is new _ _ serves.1 goes; at = refl; touches = sym (ap touch_in told) ∙ miss_passes true used FsBios; pays = λ was_master. miss_pays (its_end s place was_master) used FsBios what told }
  takes_first number todo later is now _ told serves goes = absurd serves

  -- its vector, or the write's node
  goes_with : (b : Bool) (number : ℕ) (todo : Todo) (later : List Todo) (item : Item Pad) → needs_vector todo.write ≡ b → s.task place ≡ Writer number (todo ∷ later) (HasBio item) rests → number < scene.books → (reply : Reply)
      → what_of (with_bio number b todo) reply ≡ Some what
      → Serves scene.ledger s.objects (with_bio number b todo) reply new.objects
      → Goes s place new (answered scene.setup (Writer number (todo ∷ later) (HasBio item) rests) reply) → IsMove scene s place what new
  -- takes and misses of a vector
  goes_with true number todo later item needs is lt (requests.HadVec got.Ordinary vector) told serves goes =
      record {
        move = moves.TakesVector place number todo later item takes_ordinary;
        can = (here, is, tt, serves.0.0, needs);
        is = state_is new _ _ serves.0.1 (goes ∙ ap (λ v. upd s.task place (Writer number (todo ∷ later) (HasBoth item v) rests)) serves.1);
        at = refl;
        touches = sym (ap touch_in told);
        pays = λ was_master. sym (ap (paid_in (its_end s place was_master)) told);
      }
  goes_with true number todo later item needs is lt (requests.HadVec got.Spare vector) told serves goes =
      record {
        move = moves.TakesVector place number todo later item takes_spare;
        can = (here, is, tt, serves.0.0, needs);
        is = state_is new _ _ serves.0.1 (goes ∙ ap (λ v. upd s.task place (Writer number (todo ∷ later) (HasBoth item v) rests)) serves.1);
        at = refl;
        touches = sym (ap touch_in told);
        pays = λ was_master. sym (ap (paid_in (its_end s place was_master)) told);
      }
  goes_with true number todo later item needs is lt (requests.HadVec got.Missed vector) told serves goes = absurd serves.0
  goes_with true number todo later item needs is lt (requests.Missed used) told serves goes =
      record { move = moves.MissesOne place (Writer number (todo ∷ later) (HasBio item) rests) 64 used; can = (here, is, serves.0, subst (λ b. IsTaking (with_bio number b todo)) (sym needs) tt, used_told used FsVecs what told, inr (omega arith)); is = state_is new _ _ serves.1 goes; at = refl; touches = sym (ap touch_in told) ∙ miss_passes true used FsVecs; pays = λ was_master. miss_pays (its_end s place was_master) used FsVecs what told }
  goes_with true number todo later item needs is lt _ told serves goes = absurd serves
  -- links: a write without a vector begins
  goes_with false number todo later item needs is lt (requests.LinkedTo (Made key)) told serves goes =
      let objects = serves.1 ∙ ap (λ b. record s.objects { book = upd s.objects.book number b }) serves.0.1 in
      record { move = moves.Begins place number todo later item None key; can = (here, is, lt, serves.0.0, needs); is = state_is new _ _ objects goes; at = refl; touches = sym (ap touch_in told); pays = λ was_master. sym (ap (paid_in (its_end s place was_master)) told) }
  goes_with false number todo later item needs is lt (requests.LinkedTo (NoRoom back)) told serves goes = absurd (none-some what told)
  goes_with false number todo later item needs is lt (requests.LinkedTo (Stray back)) told serves goes = absurd (none-some what told)
  goes_with false number todo later item needs is lt _ told serves goes = absurd serves

  begins_both : (number : ℕ) (todo : Todo) (later : List Todo) (item : Item Pad) (vector : VectorItem) → s.task place ≡ Writer number (todo ∷ later) (HasBoth item vector) rests → number < scene.books → (reply : Reply)
      → what_of (request scene.setup (Writer number (todo ∷ later) (HasBoth item vector) rests)) reply ≡ Some what
      → Serves scene.ledger s.objects (request scene.setup (Writer number (todo ∷ later) (HasBoth item vector) rests)) reply new.objects
      → Goes s place new (answered scene.setup (Writer number (todo ∷ later) (HasBoth item vector) rests) reply) → IsMove scene s place what new
  begins_both number todo later item vector is lt (requests.LinkedTo (Made key)) told serves goes =
      let objects = serves.1 ∙ ap (λ b. record s.objects { book = upd s.objects.book number b }) serves.0.1 in
      record { move = moves.Begins place number todo later item (Some vector) key; can = (here, is, lt, serves.0.0, tt); is = state_is new _ _ objects goes; at = refl; touches = sym (ap touch_in told); pays = λ was_master. sym (ap (paid_in (its_end s place was_master)) told) }
  begins_both number todo later item vector is lt (requests.LinkedTo (NoRoom back)) told serves goes = absurd (none-some what told)
  begins_both number todo later item vector is lt (requests.LinkedTo (Stray back)) told serves goes = absurd (none-some what told)
  begins_both number todo later item vector is lt _ told serves goes = absurd serves

  -- a writer that saw its write's round begun
  seen_round : (number : ℕ) (todo : Todo) (later : List Todo) → IsLet scene.ledger s.objects (Writer number (todo ∷ later) NoBio rests) (Some requests.LookRound) → todo.round ≤ s.objects.tally.round
  seen_round number todo later (requests.Present round, served, lets_it) = let le = lets_it in let same = served.0 in search (le, same, arith)
  seen_round number todo later (_, served, lets_it) = absurd served

  writer_rests : (number : ℕ) (todos : List Todo) (taken : Gathered) → s.task place ≡ Writer number todos taken rests → number < scene.books
      → IsLet scene.ledger s.objects (Writer number todos taken rests) (look_of (Writer number todos taken rests)) → (reply : Reply)
      → what_of (request scene.setup (Writer number todos taken rests)) reply ≡ Some what
      → Serves scene.ledger s.objects (request scene.setup (Writer number todos taken rests)) reply new.objects
      → Goes s place new (answered scene.setup (Writer number todos taken rests) reply) → IsMove scene s place what new
  writer_rests number [] taken is lt see reply told serves goes = absurd serves
  writer_rests number (todo ∷ later) NoBio is lt see reply told serves goes = takes_first number todo later is (seen_round number todo later see) reply told serves goes
  writer_rests number (todo ∷ later) (HasBio item) is lt see reply told serves goes = goes_with (needs_vector todo.write) number todo later item refl is lt reply told serves goes
  writer_rests number (todo ∷ later) (HasBoth item vector) is lt see reply told serves goes = begins_both number todo later item vector is lt reply told serves goes

  pub writes : (number : ℕ) (todo : List Todo) (taken : Gathered) (doing : Doing) (lists : TaskLists) → s.task place ≡ Writer number todo taken (record { doing = doing; lists = lists })
      → TaskIsSound scene (Writer number todo taken (record { doing = doing; lists = lists }))
      → IsLet scene.ledger s.objects (Writer number todo taken (record { doing = doing; lists = lists })) (look_of (Writer number todo taken (record { doing = doing; lists = lists })))
      → (reply : Reply) → Moved scene s place what new (Writer number todo taken (record { doing = doing; lists = lists })) reply
  writes number todo taken Rests lists is fits see reply told serves goes =
      let same : lists ≡ no_lists = fits.1 in
      let Q : TaskLists → Type 0 = λ l. IsLet scene.ledger s.objects (Writer number todo taken (record { doing = Rests; lists = l })) (look_of (Writer number todo taken (record { doing = Rests; lists = l }))) in
      let G : TaskLists → Type 0 = λ l. Goes s place new (answered scene.setup (Writer number todo taken (record { doing = Rests; lists = l })) reply) in
      writer_rests number todo taken (is ∙ ap (λ l. Writer number todo taken (record { doing = Rests; lists = l })) same) fits.0 (subst Q same see) reply told serves (subst G same goes)
  writes number todo taken (Drives bio ask) lists is fits see reply told serves goes =
      submits scene s f i place here what new (Writer number todo taken (record { doing = Drives bio ask; lists = lists })) (Drives bio ask) lists is refl fits reply told serves goes
  writes number todo taken (Copies bio master leg want) lists is fits see reply told serves goes =
      submits scene s f i place here what new (Writer number todo taken (record { doing = Copies bio master leg want; lists = lists })) (Copies bio master leg want) lists is refl fits reply told serves goes
  writes number todo taken (Breaks breach kept) lists is fits see reply told serves goes = absurd fits.1
