-- A step of a state is a step of another that is alike but for the places of nodes, with the event at these places.
use Rattle.std.proofs.Common.{◌≡◌, ◌<◌, ℕ, Bool, true, false, List, [], ◌∷◌, Option, None, Some, inl, inr, refl, sym, ◌∙◌, ap, subst}
use Rattle.std.specs.Option.{option_map}
use Rattle.std.specs.Prelude.{sum}
use Rattle.elem_ledger.specs.Ledger.{LedgerId}
use Rattle.stack_base.specs.declared.ids.DevId.{DevId}
use Rattle.bio_records.specs.declared.bio.Pad.{Pad}
use Rattle.bio_records.specs.declared.tasks.TaskLists.{TaskLists}
use Rattle.bio_records.specs.Items.{Item}
use Rattle.bio_books.specs.Books.{VectorItem, SlipItem}
use Rattle.bio_books.specs.Drops.{Closed}
use Rattle.run_machine.specs.declared.event.Event.{Event}
use Rattle.run_machine.specs.Maps.{upd}
use Rattle.run_machine.specs.Scene.{Scene, Setup}
use Rattle.run_machine.specs.Submissions.{Takes, ToCut, Doing, Rests, Drives, Copies, Breaks, Submission, submission_request}
use Rattle.run_machine.specs.Tasks.{Todo, Gathered, NoBio, HasBio, HasBoth, Carried, Empty, Brings, Carries, Fails, Resizes, Starts, Keeping, Keeps, Stops, TaskState, Writer, Rescuer, Completer, Keeper, needs_vector, with_bio, write_request, writer_request, rescuer_request, closed_request, carried_request, keeper_request, request, look_of, answered}
use Rattle.run_machine.specs.Requests.{Request, Present, LeftOver}
use Rattle.run_machine.specs.Objects.{Objects, Serves}
use Rattle.run_machine.specs.Events.{id_of, what_of}
use Rattle.run_machine.specs.Runs.{State, IsLet, Steps}
use Rattle.block_core.proofs.moves.Sums.{upd-same, upd-other, same_or_not}
use Rattle.block_core.proofs.sound.Invariant.{DoingFits, TaskIsSound}
use Rattle.plain_core.specs.objects.Ledgers.{ledger_of}
use Rattle.trace_replay.specs.Names.{Names, names_after}
use Rattle.trace_replay.proofs.renaming.Renaming.{Places, task_to, request_to, writer_in, reply_to, what_to, event_to}
use Rattle.trace_replay.proofs.renaming.Requests.{asks, looks}
use Rattle.trace_replay.proofs.renaming.Replies.{HasLeg, TaskHasLeg, goes}
use Rattle.trace_replay.proofs.renaming.Told.{told_to}
use Rattle.trace_replay.proofs.renaming.Objects.{ObjectsAlike}
use Rattle.trace_replay.proofs.renaming.Serving.{IsWithin, IsNext, IsPlaced, serves_to}

-- objects are alike, and so are tasks, whatever their bios name that have no use for it
pub record StatesAlike (scene : Scene) (to : Places) (names : Names) (one other : State) : Type 0 where
  pub objects : ObjectsAlike scene.setup.count to names one.objects other.objects
  pub tasks : (place : ℕ) → place < scene.tasks → (gone : ℕ) × (other.task place ≡ task_to to gone (one.task place))

-- a bio that is copied has a leg left
doing_leg : (setup : Setup) (doing : Doing) (lists : TaskLists) → DoingFits setup doing lists → HasLeg setup doing
doing_leg setup Rests lists fits = tt
doing_leg setup (Drives bio ask) lists fits = tt
doing_leg setup (Copies bio master leg want) lists fits = fits
doing_leg setup (Breaks breach kept) lists fits = tt

pub has_leg : (scene : Scene) (x : TaskState) → TaskIsSound scene x → TaskHasLeg scene.setup x
has_leg scene (Writer number todo taken submission) fits = doing_leg scene.setup submission.doing submission.lists fits.1
has_leg scene (Rescuer dev submission) fits = doing_leg scene.setup submission.doing submission.lists fits.1
has_leg scene (Completer disk carried) fits = tt
has_leg scene (Keeper keeping) fits = tt

-- what is asked at a device is asked at one that there is
module _ (scene : Scene) where
  abbrev Within : Request → Type 0
  Within = IsWithin scene.setup.count

  submission_within : (doing : Doing) (lists : TaskLists) → Within (submission_request scene.setup doing lists)
  submission_within (Drives bio (ToCut (Takes waits))) lists = tt
  submission_within (Copies bio master leg (Takes waits)) lists = tt
  submission_within _ lists = tt

  bio_within : (writer : ℕ) (todo : Todo) (long : Bool) → Within (with_bio writer long todo)
  bio_within writer todo true = tt
  bio_within writer todo false = tt

  write_within : (writer : ℕ) (todo : List Todo) (taken : Gathered) → Within (write_request writer todo taken)
  write_within writer [] taken = tt
  write_within writer (todo ∷ later) NoBio = tt
  write_within writer (todo ∷ later) (HasBio bio) = bio_within writer todo (needs_vector todo.write)
  write_within writer (todo ∷ later) (HasBoth bio vector) = tt

  writer_within : (writer : ℕ) (todo : List Todo) (taken : Gathered) (doing : Doing) (submission : Submission) → Within (writer_request scene.setup writer todo taken doing submission)
  writer_within writer todo taken Rests submission = write_within writer todo taken
  writer_within writer todo taken (Drives bio ask) submission = submission_within (Drives bio ask) submission.lists
  writer_within writer todo taken (Copies bio master leg want) submission = submission_within (Copies bio master leg want) submission.lists
  writer_within writer todo taken (Breaks breach kept) submission = tt

  rescuer_within : (dev : DevId) (doing : Doing) (submission : Submission) → dev.0 < scene.setup.count → Within (rescuer_request scene.setup dev doing submission)
  rescuer_within dev Rests submission lt = lt
  rescuer_within dev (Drives bio ask) submission lt = submission_within (Drives bio ask) submission.lists
  rescuer_within dev (Copies bio master leg want) submission lt = submission_within (Copies bio master leg want) submission.lists
  rescuer_within dev (Breaks breach kept) submission lt = tt

  closed_within : (writer : ℕ) (closed : Closed) (vector : Option VectorItem) (bio : Option (Item Pad)) (slip : Option SlipItem) (parent : Option ℕ)
      → Within (closed_request writer closed vector bio slip parent)
  closed_within writer closed (Some vector) bio slip parent = tt
  closed_within writer closed None (Some bio) slip parent = tt
  closed_within writer closed None None (Some slip) parent = tt
  closed_within writer closed None None None (Some parent) = tt
  closed_within writer closed None None None None = tt

  carried_within : (disk : DevId) (carried : Carried) → disk.0 < scene.setup.count → Within (carried_request disk carried)
  carried_within disk Empty lt = lt
  carried_within disk (Brings bio status) lt = tt
  carried_within disk (Carries writer closed) lt = closed_within writer closed closed.held.vector closed.held.bio closed.held.slip closed.parent
  carried_within disk (Fails breach kept) lt = tt

  keeper_within : (keeping : Keeping) → Within (keeper_request keeping)
  keeper_within (Keeps []) = tt
  keeper_within (Keeps (Resizes pool min later ∷ duties)) = tt
  keeper_within (Keeps (Starts round later ∷ duties)) = tt
  keeper_within (Stops breach) = tt

  is_within : (x : TaskState) → TaskIsSound scene x → Within (request scene.setup x)
  is_within (Writer number todo taken submission) fits = writer_within number todo taken submission.doing submission
  is_within (Rescuer dev submission) fits = rescuer_within dev submission.doing submission fits.0
  is_within (Completer disk carried) fits = carried_within disk carried fits
  is_within (Keeper keeping) fits = keeper_within keeping

-- the tally lets it ask
module _ (ledger : ℕ → LedgerId) (one other : Objects) (tally : other.tally ≡ one.tally) (to : Places) (gone : ℕ) where
  writer_let : (number : ℕ) (todo : List Todo) (taken : Gathered) (doing : Doing) (lists : TaskLists)
      → IsLet ledger one (Writer number todo taken (record { doing = doing; lists = lists })) (look_of (Writer number todo taken (record { doing = doing; lists = lists })))
      → IsLet ledger_of other (task_to to gone (Writer number todo taken (record { doing = doing; lists = lists }))) (look_of (Writer number todo taken (record { doing = doing; lists = lists })))
  writer_let number [] taken doing lists is = tt
  writer_let number (todo ∷ later) NoBio Rests lists (Present round, serves, lets_it) = (Present round, (serves.0 ∙ ap (λ t. t.round) (sym tally), refl), lets_it)
  writer_let number (todo ∷ later) NoBio Rests lists (_, serves, lets_it) = absurd serves
  writer_let number (todo ∷ later) NoBio (Drives bio ask) lists is = tt
  writer_let number (todo ∷ later) NoBio (Copies bio master leg want) lists is = tt
  writer_let number (todo ∷ later) NoBio (Breaks breach kept) lists is = tt
  writer_let number (todo ∷ later) (HasBio bio) doing lists is = tt
  writer_let number (todo ∷ later) (HasBoth bio vector) doing lists is = tt

  keeper_let : (keeping : Keeping) → IsLet ledger one (Keeper keeping) (look_of (Keeper keeping)) → IsLet ledger_of other (Keeper keeping) (look_of (Keeper keeping))
  keeper_let (Keeps []) is = tt
  keeper_let (Keeps (duty ∷ duties)) (LeftOver count, serves, lets_it) = (LeftOver count, (serves.0 ∙ ap (λ t. sum t.left) (sym tally), refl), lets_it)
  keeper_let (Keeps (duty ∷ duties)) (_, serves, lets_it) = absurd serves
  keeper_let (Stops breach) is = tt

  is_let : (x : TaskState) → IsLet ledger one x (look_of x) → IsLet ledger_of other (task_to to gone x) (look_of x)
  is_let (Writer number todo taken submission) is = writer_let number todo taken submission.doing submission.lists is
  is_let (Rescuer dev submission) is = tt
  is_let (Completer disk carried) is = tt
  is_let (Keeper keeping) is = keeper_let keeping is

id_to : (to : Places) (gone : ℕ) (x : TaskState) → id_of (task_to to gone x) ≡ id_of x
id_to to gone (Writer number todo taken submission) = refl
id_to to gone (Rescuer dev submission) = refl
id_to to gone (Completer disk carried) = refl
id_to to gone (Keeper keeping) = refl

-- the same with plain elements
abbrev pub plain : Scene → Scene
plain scene = record scene { ledger = ledger_of }

-- a step, as the other state takes it
pub record TakenToo (scene : Scene) (to : Places) (names : Names) (other : State) (place : ℕ) (event : Event) (new : State) : Type 0 where
  pub like : State
  pub steps : Steps (plain scene) other place (event_to to event) like
  pub alike : StatesAlike scene to (names_after names event.what) new like
  pub placed : IsPlaced to names event.what

pub step_to : (scene : Scene) (to : Places) (names : Names) (one other new : State) (place : ℕ) (event : Event) → ((number : ℕ) → (scene.ledger number).no ≡ number) → TaskIsSound scene (one.task place) → StatesAlike scene to names one other
    → IsNext to names one.objects event.what → Steps scene one place event new → TakenToo scene to names other place event new
step_to scene to names one other new place event naming fits alike next steps =
    let setup = scene.setup in
    let x = one.task place in
    let asked = request setup x in
    let same = alike.tasks place steps.here in
    let gone = same.0 in
    let served = serves_to scene.ledger naming setup.count to gone names one.objects other.objects new.objects alike.objects asked steps.reply event.what steps.serves steps.told (is_within scene x fits) next in
    let reply = reply_to to (writer_in asked) served.1 steps.reply in
    let on = goes setup to gone served.1 scene.ledger one.objects new.objects event.what x steps.reply (has_leg scene x fits) (steps.serves, steps.told) in
    let asks_too : request setup (other.task place) ≡ request_to to gone asked = ap (request setup) same.1 ∙ asks setup to gone x in
    let like : State = record { objects = served.0; task = upd other.task place (answered setup (other.task place) reply) } in
    record {
      like = like;
      steps = record {
        here = steps.here;
        by = steps.by ∙ sym (id_to to gone x) ∙ ap id_of (sym same.1);
        is_let =
            subst (λ (y : TaskState). IsLet ledger_of other.objects y (look_of y)) (sym same.1)
            (subst (IsLet ledger_of other.objects (task_to to gone x)) (sym (looks setup to gone x)) (is_let scene.ledger one.objects other.objects alike.objects.tally to gone x steps.is_let));
        reply = reply;
        told =
            ap (λ q. what_of q reply) asks_too ∙ told_to to gone served.1 scene.ledger one.objects new.objects asked steps.reply steps.serves ∙ ap (option_map (what_to to)) steps.told;
        serves = subst (λ q. Serves ledger_of other.objects q reply served.0) (sym asks_too) served.2;
        goes_on = refl;
      };
      alike = record {
        objects = served.3;
        tasks = λ at lt. elim (same_or_not at place) [
          | inl e ↦
              let At : ℕ → Type 0 = λ p. (gone : ℕ) × (like.task p ≡ task_to to gone (new.task p)) in
              let was : new.task place ≡ answered setup x steps.reply = ap (λ f. f place) steps.goes_on ∙ upd-same one.task place (answered setup x steps.reply) in
              let here : At place = (
                on.0,
                upd-same other.task place (answered setup (other.task place) reply) ∙ ap (λ y. answered setup y reply) same.1 ∙ on.1 ∙ ap (task_to to on.0) (sym was),
              ) in
              subst At (sym e) here
          | inr ne ↦
              let stays = alike.tasks at lt in (
                stays.0,
                upd-other other.task place (answered setup (other.task place) reply) at ne ∙ stays.1
                    ∙ ap (task_to to stays.0) (sym (ap (λ f. f at) steps.goes_on ∙ upd-other one.task place (answered setup x steps.reply) at ne)),
              )
        ];
      };
      placed = served.4;
    }
