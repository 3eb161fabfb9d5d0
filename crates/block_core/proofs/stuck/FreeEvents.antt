-- When a task has an event that needs no ordinary memory: what it asks for is answered.
use Rattle.std.proofs.Common.{◌≡◌, ◌-◌, ◌*◌, ◌<◌, ◌≤◌, ℕ, IsTrue, List, [], ◌∷◌, Option, None, Some, refl, sym, ◌∙◌, ap, subst, arith}
use Rattle.stack_base.specs.declared.ids.Status.{Status}
use Rattle.bio_records.specs.declared.bio.Pad.{Pad}
use Rattle.bio_records.specs.declared.tasks.TaskLists.{TaskLists}
use Rattle.bio_records.specs.Items.{Item}
use Rattle.bio_books.specs.Books.{Node, BookState, node_at, told}
use Rattle.run_machine.specs.Maps.{upd}
use Rattle.run_machine.specs.Scene.{Setup, Scene}
use Rattle.run_machine.specs.Submissions.{Doing, Rests, Drives, Copies, Breaks, Submission}
use Rattle.run_machine.specs.Tasks.{TaskState, Writer, Rescuer, Completer, Keeper, Todo, Gathered, NoBio, HasBio, HasBoth}
use Rattle.run_machine.specs.Objects.{Objects}
use Rattle.run_machine.specs.Runs.{State}
use Rattle.block_core.proofs.moves.Moves.{HasSubmission, with_book}
use Rattle.block_core.proofs.moves.Sums.{upd-same}
use Rattle.block_core.proofs.sound.TaskSubmissions.{IsBusy}
use Rattle.std.specs.Prelude.{◌^◌}
use Rattle.bio_books.specs.Links.{Linked}
use Rattle.bio_books.specs.Drops.{DropOutcome, Drops}
use Rattle.run_machine.specs.declared.event.What.{What}
use Rattle.run_machine.specs.Requests as requests
use Rattle.run_machine.specs.Requests.{Reply, Opening}
use Rattle.run_machine.specs.Objects.{Serves, OpensNode}
use Rattle.run_machine.specs.Events.{what_of, is_free, id_of}
use Rattle.run_machine.specs.Tasks.{request, look_of, answered, writer_look}
use Rattle.run_machine.specs.Submissions.{submission_request}
use Rattle.run_machine.specs.Runs.{IsLet, HasFree}
use Rattle.block_core.proofs.moves.SubmissionSteps.{asks_submission}

-- a task that submits looks at nothing
writer_none : (todo : List Todo) (taken : Gathered) (doing : Doing) → IsBusy doing → writer_look todo taken doing ≡ None
writer_none [] taken doing busy = refl
writer_none (t ∷ todo) (HasBio item) doing busy = refl
writer_none (t ∷ todo) (HasBoth item vector) doing busy = refl
writer_none (t ∷ todo) NoBio Rests busy = absurd busy
writer_none (t ∷ todo) NoBio (Drives bio ask) busy = refl
writer_none (t ∷ todo) NoBio (Copies bio master leg want) busy = refl
writer_none (t ∷ todo) NoBio (Breaks breach kept) busy = refl

no_look : (x : TaskState) (doing : Doing) (lists : TaskLists) → HasSubmission x doing lists → IsBusy doing → look_of x ≡ None
no_look (Writer number todo taken submission) doing lists h busy = ap (λ (l : Submission). writer_look todo taken l.doing) h ∙ writer_none todo taken doing busy
no_look (Rescuer dev submission) doing lists h busy = refl
no_look (Completer disk carried) doing lists h busy = absurd h
no_look (Keeper keeping) doing lists h busy = absurd h

-- no counter has come to the largest number of 64 bits
pub record HasNumbers (s : State) : Type 0 where
  pub outs : (number : ℕ) → (s.objects.pool number).facts.out < 2 ^ 64 - 1
  pub ends : (w k : ℕ) (node : Node) → node_at (s.objects.book w) k ≡ Some node → node.count < 2 ^ 64 - 1

pub some_needs : (a n : ℕ) → a ≡ 1 → 1 ≤ n → 1 ≤ a * n
some_needs a n is le = let q : a * n ≡ n = ap (λ m. m * n) is ∙ omega arith in omega (arith, q, le)

module _ (scene : Scene) (s : State) where
  abbrev setup : Setup
  setup = scene.setup

  free_at : (place : ℕ) → place < scene.tasks → (reply : Reply) (told : What) → IsLet scene.ledger s.objects (s.task place) (look_of (s.task place))
      → what_of (request setup (s.task place)) reply ≡ Some told → IsTrue (is_free told) → (objects : Objects)
      → Serves scene.ledger s.objects (request setup (s.task place)) reply objects → HasFree scene s
  free_at place here reply told see is free objects serves =
      let new : State = record { objects = objects; task = upd s.task place (answered setup (s.task place) reply) } in (
        record { task = id_of (s.task place); what = told },
        (new, (place, record { here = here; by = refl; is_let = see; reply = reply; told = is; serves = serves; goes_on = refl })),
        free,
      )

  pub free_of : (place : ℕ) → place < scene.tasks → (x : TaskState) → s.task place ≡ x → (reply : Reply) (told : What) → IsLet scene.ledger s.objects x (look_of x)
      → what_of (request setup x) reply ≡ Some told → IsTrue (is_free told) → (objects : Objects) → Serves scene.ledger s.objects (request setup x) reply objects → HasFree scene s
  free_of place here x at reply told see is free objects serves =
      free_at place here reply told (subst (λ y. IsLet scene.ledger s.objects y (look_of y)) (sym at) see) (subst (λ y. what_of (request setup y) reply ≡ Some told) (sym at) is) free objects
      (subst (λ y. Serves scene.ledger s.objects (request setup y) reply objects) (sym at) serves)

  pub free_submission : (place : ℕ) → place < scene.tasks → (x : TaskState) → s.task place ≡ x → (doing : Doing) (lists : TaskLists) → HasSubmission x doing lists → IsBusy doing → (reply : Reply) (told : What)
      → what_of (submission_request setup doing lists) reply ≡ Some told → IsTrue (is_free told) → (objects : Objects) → Serves scene.ledger s.objects (submission_request setup doing lists) reply objects → HasFree scene s
  free_submission place here x at doing lists h busy reply told is free objects serves =
      let asks = asks_submission setup x doing lists h busy in
      free_of place here x at reply told (subst (IsLet scene.ledger s.objects x) (sym (no_look x doing lists h busy)) tt)
      (subst (λ r. what_of r reply ≡ Some told) (sym asks) is) free objects (subst (λ r. Serves scene.ledger s.objects r reply objects) (sym asks) serves)

  -- a link that is answered
  pub link_serves : (w : ℕ) (opening : Opening) (answer : Linked) (book : BookState) → OpensNode (s.objects.book w) opening answer book
      → Serves scene.ledger s.objects (requests.Link w opening) (requests.LinkedTo answer) (with_book s.objects w book)
  link_serves w opening answer book opened =
      let same = upd-same s.objects.book w book in
      (subst (OpensNode (s.objects.book w) opening answer) (sym same) opened, ap (with_book s.objects w) (sym same))

  pub drop_serves : (w key : ℕ) (status : Status) (part : Option (Item Pad)) (ended : DropOutcome) (book : BookState) → Drops (s.objects.book w) key status part ended book
      → Serves scene.ledger s.objects (requests.Drop w key status part) (requests.DroppedTo ended) (with_book s.objects w book)
  drop_serves w key status part ended book drops =
      let same = upd-same s.objects.book w book in
      (subst (Drops (s.objects.book w) key status part ended) (sym same) drops, ap (with_book s.objects w) (sym same))
