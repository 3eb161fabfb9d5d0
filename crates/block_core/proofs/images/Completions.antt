-- A step replies that a disk is done with a bio exactly where it is a completion, and of the same bio.
use Rattle.std.proofs.Common.{◌≡◌, ℕ, Bool, true, false, List, [], ◌∷◌, Option, None, Some, refl, sym, ◌∙◌, ap, subst}
use Rattle.std.specs.Prelude.{sum_by}
use Rattle.stack_base.specs.declared.ids.DevId.{DevId}
use Rattle.stack_base.specs.declared.ids.Status.{Status}
use Rattle.layout_model.specs.declared.fragment.Fragment.{Fragment}
use Rattle.bio_records.specs.declared.bio.Pad.{Pad}
use Rattle.bio_records.specs.declared.tasks.TaskLists.{TaskLists}
use Rattle.bio_records.specs.Items.{Item}
use Rattle.bio_books.specs.Books.{VectorItem, SlipItem}
use Rattle.bio_books.specs.Drops.{Closed}
use Rattle.run_machine.specs.declared.event.Event.{Event}
use Rattle.run_machine.specs.declared.event.What.{What}
use Rattle.run_machine.specs.Events.{what_of}
use Rattle.run_machine.specs.Maps.{upd}
use Rattle.run_machine.specs.Scene.{Setup, Scene}
use Rattle.run_machine.specs.Submissions.{Takes, WantsPunt, Links, ToPush, ToCut, ToRecord, ToMaster, Doing, Rests, Drives, Copies, Breaks, Submission, submission_request}
use Rattle.run_machine.specs.Tasks.{TaskState, Writer, Rescuer, Completer, Keeper, Keeping, Keeps, Stops, Resizes, Starts, Todo, Gathered, NoBio, HasBio, HasBoth, Carried, Empty, Brings, Carries, Fails, request, answered, closed_request, with_bio, needs_vector, write_request, writer_request}
use Rattle.run_machine.specs.Requests as requests
use Rattle.run_machine.specs.Requests.{Request, Reply}
use Rattle.run_machine.specs.Runs.{State, Steps}
use Rattle.block_core.specs.Fragments.{fragment_of, completed_by}
use Rattle.block_core.proofs.moves.Moves.{Move, place_of, Can, after, HasSubmission, TellsNode}
use Rattle.block_core.proofs.moves.Moves as moves
use Rattle.block_core.proofs.moves.Sums.{upd-same}
use Rattle.block_core.proofs.moves.StepsTold.{IsMove}
use Rattle.block_core.proofs.images.StillToCome.{ended, done}

-- a request that asks no disk for what it is done with
abbrev pub IsOther : Request → Type 0
IsOther (requests.Complete disk) = ⊥
IsOther request = Unit {0}

silent : (r : Request) → IsOther r → (index : ℕ) (bio : Item Pad) (status : Status) → what_of r (requests.Completed index bio status) ≡ None
silent (requests.Complete disk) h index bio status = absurd h
silent _ h index bio status = refl

submission_other : (setup : Setup) (doing : Doing) (lists : TaskLists) → IsOther (submission_request setup doing lists)
submission_other setup Rests lists = tt
submission_other setup (Breaks breach kept) lists = tt
submission_other setup (Drives bio ToPush) lists = tt
submission_other setup (Drives bio (ToCut (Takes waits))) lists = tt
submission_other setup (Drives bio (ToCut WantsPunt)) lists = tt
submission_other setup (Drives bio (ToCut (Links hand))) lists = tt
submission_other setup (Drives bio ToRecord) lists = tt
submission_other setup (Drives bio (ToMaster slip)) lists = tt
submission_other setup (Copies bio master leg (Takes waits)) lists = tt
submission_other setup (Copies bio master leg WantsPunt) lists = tt
submission_other setup (Copies bio master leg (Links hand)) lists = tt

write_other : (writer : ℕ) (todos : List Todo) (taken : Gathered) → IsOther (write_request writer todos taken)
write_other writer [] taken = tt
write_other writer (todo ∷ later) NoBio = tt
write_other writer (todo ∷ later) (HasBio bio) = by_need (needs_vector todo.write)
  where
    by_need : (b : Bool) → IsOther (with_bio writer b todo)
    by_need true = tt
    by_need false = tt
write_other writer (todo ∷ later) (HasBoth bio vector) = tt

writer_other : (setup : Setup) (writer : ℕ) (todos : List Todo) (taken : Gathered) (doing : Doing) (submission : Submission) → IsOther (writer_request setup writer todos taken doing submission)
writer_other setup writer todos taken Rests submission = write_other writer todos taken
writer_other setup writer todos taken (Drives bio ask) submission = submission_other setup (Drives bio ask) submission.lists
writer_other setup writer todos taken (Copies bio master leg want) submission = submission_other setup (Copies bio master leg want) submission.lists
writer_other setup writer todos taken (Breaks breach kept) submission = tt

rescuer_other : (setup : Setup) (dev : DevId) (doing : Doing) (lists : TaskLists) → IsOther (request setup (Rescuer dev (record { doing = doing; lists = lists })))
rescuer_other setup dev Rests lists = tt
rescuer_other setup dev (Drives bio ask) lists = submission_other setup (Drives bio ask) lists
rescuer_other setup dev (Copies bio master leg want) lists = submission_other setup (Copies bio master leg want) lists
rescuer_other setup dev (Breaks breach kept) lists = tt

closed_other : (writer : ℕ) (closed : Closed) (vector : Option VectorItem) (bio : Option (Item Pad)) (slip : Option SlipItem) (parent : Option ℕ)
    → IsOther (closed_request writer closed vector bio slip parent)
closed_other writer closed (Some vector) bio slip parent = tt
closed_other writer closed None (Some bio) slip parent = tt
closed_other writer closed None None (Some slip) parent = tt
closed_other writer closed None None None (Some parent) = tt
closed_other writer closed None None None None = tt

keeper_other : (setup : Setup) (keeping : Keeping) → IsOther (request setup (Keeper keeping))
keeper_other setup (Keeps []) = tt
keeper_other setup (Keeps (Resizes pool min later ∷ duties)) = tt
keeper_other setup (Keeps (Starts round later ∷ duties)) = tt
keeper_other setup (Stops breach) = tt

-- a completer that had nothing brings a bio
abbrev pub brought : TaskState → TaskState → List Fragment
brought (Completer disk Empty) (Completer other (Brings bio status)) = fragment_of bio.bio ∷ []
brought old new = []

nothing : (what : What) → {X : Type 0} → None ≡ Some what → X
nothing what is = absurd cc

module _ (setup : Setup) where
  other_brings : (x : TaskState) (reply : Reply) (what : What) → IsOther (request setup x) → ((y : TaskState) → brought x y ≡ [])
      → what_of (request setup x) reply ≡ Some what → completed_by reply ≡ brought x (answered setup x reply)
  other_brings x (requests.Completed index bio status) what other none told = nothing what (sym (silent (request setup x) other index bio status) ∙ told)
  other_brings x _ what other none told = sym (none _)

  -- what a task's reply brings
  pub reply_brings : (x : TaskState) (reply : Reply) (what : What) → what_of (request setup x) reply ≡ Some what
      → completed_by reply ≡ brought x (answered setup x reply)
  -- completers: one that had nothing comes to bring a bio, and no other does
  reply_brings (Completer disk Empty) (requests.Completed index bio status) what told = refl
  reply_brings (Completer disk Empty) _ what told = refl
  reply_brings (Completer disk (Brings bio status)) reply what told = other_brings (Completer disk (Brings bio status)) reply what tt (λ y. refl) told
  reply_brings (Completer disk (Carries writer closed)) reply what told =
      other_brings (Completer disk (Carries writer closed)) reply what (closed_other writer closed closed.held.vector closed.held.bio closed.held.slip closed.parent) (λ y. refl) told
  reply_brings (Completer disk (Fails breach kept)) reply what told = other_brings (Completer disk (Fails breach kept)) reply what tt (λ y. refl) told
  -- the other tasks: none brings a bio
  reply_brings (Writer number todos taken submission) reply what told =
      other_brings (Writer number todos taken submission) reply what (writer_other setup number todos taken submission.doing submission) (λ y. refl) told
  reply_brings (Rescuer dev submission) reply what told = other_brings (Rescuer dev submission) reply what (rescuer_other setup dev submission.doing submission.lists) (λ y. refl) told
  reply_brings (Keeper keeping) reply what told = other_brings (Keeper keeping) reply what (keeper_other setup keeping) (λ y. refl) told

submission_brings : (x : TaskState) (doing : Doing) (lists : TaskLists) (y : TaskState) → HasSubmission x doing lists → brought x y ≡ []
submission_brings (Writer number todos taken submission) doing lists y h = refl
submission_brings (Rescuer dev submission) doing lists y h = refl
submission_brings (Completer disk carried) doing lists y h = absurd h
submission_brings (Keeper keeping) doing lists y h = absurd h

same_brings : (x : TaskState) → brought x x ≡ []
same_brings (Writer number todos taken submission) = refl
same_brings (Rescuer dev submission) = refl
same_brings (Completer disk Empty) = refl
same_brings (Completer disk (Brings bio status)) = refl
same_brings (Completer disk (Carries writer closed)) = refl
same_brings (Completer disk (Fails breach kept)) = refl
same_brings (Keeper keeping) = refl

tells_brings : (disk : DevId) (carried : Carried) (writer key : ℕ) (status : Status) (part : Option (Item Pad)) (y : TaskState)
    → TellsNode carried writer key status part → brought (Completer disk carried) y ≡ []
tells_brings disk (Brings bio ending) writer key status part y t = refl
tells_brings disk (Carries of closed) writer key status part y t = refl
tells_brings disk Empty writer key status part y t = absurd t
tells_brings disk (Fails breach kept) writer key status part y t = absurd t

module _ (scene : Scene) (s : State) where
  here : (place : ℕ) (x y : TaskState) → s.task place ≡ x → brought (s.task place) (upd s.task place y place) ≡ brought x y
  here place x y is = ap (λ t. brought t (upd s.task place y place)) is ∙ ap (brought x) (upd-same s.task place y)

  -- what an event's task brings
  pub move_brings : (m : Move) → Can scene s m → brought (s.task (place_of m)) ((after scene s m).task (place_of m)) ≡ ended m
  -- takes, misses, punts, pops and pushes: no task comes to bring a bio
  move_brings (moves.TakesFirst place writer todo later move) c = here place _ _ c.1
  move_brings (moves.TakesVector place writer todo later item move) c = here place _ _ c.1
  move_brings (moves.TakesSub place x doing lists dev waits move) c = here place x _ c.1 ∙ submission_brings x doing lists _ c.2
  move_brings (moves.TakesSlip place x bio lists move) c = here place x _ c.1 ∙ submission_brings x (Drives bio ToRecord) lists _ c.2
  move_brings (moves.MissesOne place x number used) c = here place x x c.1 ∙ same_brings x
  move_brings (moves.MissesTry place x doing lists dev used) c = here place x _ c.1 ∙ submission_brings x doing lists _ c.2
  move_brings (moves.Punts place x doing lists dev) c = here place x _ c.1 ∙ submission_brings x doing lists _ c.2
  move_brings (moves.Pops place dev bio bios) c = here place _ _ c.1
  move_brings (moves.Pushes place x bio lists) c = here place x _ c.1 ∙ submission_brings x (Drives bio ToPush) lists _ c.2
  -- completions: the completer brings the bio that its disk completed
  move_brings (moves.Completed place disk index bio status new) c = here place _ _ c.1
  -- links: no task comes to bring a bio
  move_brings (moves.Begins place writer todo later item vector key) c = here place _ _ c.1
  move_brings (moves.Chained place x bio lists hand number kind sizes members key node) c = here place x _ c.1 ∙ submission_brings x (Drives bio (ToCut (Links hand))) lists _ c.2
  move_brings (moves.Mastered place x bio lists slip key node) c = here place x _ c.1 ∙ submission_brings x (Drives bio (ToMaster slip)) lists _ c.2
  move_brings (moves.Legged place x bio lists master leg hand key node) c = here place x _ c.1 ∙ submission_brings x (Copies bio master leg (Links hand)) lists _ c.2
  -- drops: the completer brought or carried something before, and brings no other bio
  move_brings (moves.Told place disk carried writer key status part node) c = here place _ _ c.1 ∙ tells_brings disk carried writer key status part _ c.2
  move_brings (moves.Closes place disk carried writer key status part node) c = here place _ _ c.1 ∙ tells_brings disk carried writer key status part _ c.2
  -- gives, ends of writes, resizes and rounds: no task comes to bring a bio
  move_brings (moves.Gives place disk writer number closed held) c = here place _ _ c.1
  move_brings (moves.Ends place disk writer closed) c = here place _ _ c.1
  move_brings (moves.Resized place pool min later duties) c = here place _ _ c.1
  move_brings (moves.Started place round later duties) c = here place _ _ c.1

  pub step_completes : (place : ℕ) (event : Event) (new : State) (steps : Steps scene s place event new) (moved : IsMove scene s place event.what new)
      → completed_by steps.reply ≡ ended moved.move
  step_completes place event new steps moved =
      let x = s.task place in
      let y = answered scene.setup x steps.reply in
      let a = reply_brings scene.setup x steps.reply event.what steps.told in
      let b : new.task place ≡ y = ap (λ (t : ℕ → TaskState). t place) steps.goes_on ∙ upd-same s.task place y in
      let c : new.task place ≡ (after scene s moved.move).task place = ap (λ (t : State). t.task place) moved.is in
      let d = move_brings moved.move moved.can in
      let P : ℕ → Type 0 = λ k. brought (s.task k) ((after scene s moved.move).task k) ≡ ended moved.move in
      a ∙ ap (brought x) (sym b ∙ c) ∙ subst P moved.at d

pub step_sum : (scene : Scene) (s : State) (value : Fragment → ℕ) (place : ℕ) (event : Event) (new : State) (steps : Steps scene s place event new) (moved : IsMove scene s place event.what new)
    → sum_by value (completed_by steps.reply) ≡ done value moved.move
step_sum scene s value place event new steps moved = ap (sum_by value) (step_completes scene s place event new steps moved)
