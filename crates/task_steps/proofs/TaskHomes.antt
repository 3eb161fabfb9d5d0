-- Tasks of a scenario ask for what fits its objects, and stay such.
use Rattle.std.proofs.Common.{◌==◌, ℕ, Bool, true, false, IsTrue, All, List, [], ◌∷◌, Option, None, Some, refl}
use Rattle.std.proofs.lemmas.List.Elements.{All-head, All-tail, All-nil, All-cons}
use Rattle.stack_base.specs.declared.ids.DevId.{DevId}
use Rattle.stack_base.specs.declared.ids.PoolId.{PoolId}
use Rattle.stack_base.specs.Stack.{IsStack}
use Rattle.bio_records.specs.declared.bio.Pad.{Pad}
use Rattle.bio_records.specs.Items.{Item}
use Rattle.bio_books.specs.Books.{VectorItem, SlipItem}
use Rattle.bio_books.specs.Drops.{Closed, DropOutcome}
use Rattle.bio_books.specs.Drops as end
use Rattle.bio_books.specs.Links.{Linked, Made, NoRoom, Stray}
use Rattle.run_machine.specs.declared.event.Breach.{Breach}
use Rattle.run_machine.specs.declared.event.Breach.TheVariants as breach
use Rattle.run_machine.specs.Kept.{Kept}
use Rattle.run_machine.specs.Requests.{Reply, HadBio, HadVec, Popped, Completed, LinkedTo, DroppedTo, OutIs, Did, NoTicket}
use Rattle.run_machine.specs.Submissions.{Doing, Rests, Breaks, Submission, settled, submission_request, submission_answered}
use Rattle.run_machine.specs.Tasks.{Todo, Gathered, NoBio, HasBio, HasBoth, besides, Carried, Empty, Brings, Carries, Fails, Duty, Resizes, Starts, Keeping, Keeps, Stops, TaskState, Writer, Rescuer, Completer, Keeper, needs_vector, filled, filled_short, with_bio, write_request, writer_request, rescuer_request, closed_request, carried_request, keeper_request, duty_request, request, begins, write_answered, writer_answered, rescuer_answered, given, after_drop, parent_or, carried_answered, after_resize, keeper_answered, answered}
use Rattle.task_steps.specs.Routed.{routing_setup}
use Rattle.task_steps.specs.Within.{IsItemWithin}
use Rattle.task_steps.specs.Stage.{Stage, has_book, is_vecs, IsHome, IsBioHome, IsVecHome, IsSlipHome, TopFits, DropFits, RequestFits, Owes, has_rescuer, has_disk}
use Rattle.task_steps.specs.Homes.{IsOwned, IsSubmissionOf, TodoFits, GatheredIsHome, CarriedFits, DutyFits, KeepingFits, IsTaskOf, TasksStayHome}
use Rattle.task_steps.proofs.SubmissionHomes.{settled_home, submission_asks, submission_home}

-- what a writer asks for outside of a submission
with_bio_asks : (stage : Stage) (writer : ℕ) (needs : Bool) (todo : Todo) → IsTrue (has_book stage writer) → TodoFits stage todo
    → RequestFits stage (with_bio writer needs todo)
with_bio_asks stage writer true todo book fits = tt
with_bio_asks stage writer false todo book fits = (book, (fits.number, tt))

write_asks : (stage : Stage) (writer : ℕ) (todos : List Todo) (taken : Gathered) → IsTrue (has_book stage writer) → All (TodoFits stage) todos
    → GatheredIsHome stage taken → RequestFits stage (write_request writer todos taken)
write_asks stage writer [] taken book all home = tt
write_asks stage writer (todo ∷ later) NoBio book all home = refl
write_asks stage writer (todo ∷ later) (HasBio bio) book all home =
    with_bio_asks stage writer (needs_vector todo.write) todo book (All-head (TodoFits stage) todo later all)
write_asks stage writer (todo ∷ later) (HasBoth bio vector) book all home =
    (book, ((All-head (TodoFits stage) todo later all).number, home.1))

writer_asks : (stage : Stage) → IsStack stage.routing.stack → (writer : ℕ) (todos : List Todo) (taken : Gathered) (doing : Doing) (submission : Submission)
    → IsTrue (has_book stage writer) → All (TodoFits stage) todos → GatheredIsHome stage taken
    → RequestFits stage (submission_request (routing_setup stage.routing) doing submission.lists)
    → RequestFits stage (writer_request (routing_setup stage.routing) writer todos taken doing submission)
writer_asks stage good writer todos taken Rests submission book all home asks = write_asks stage writer todos taken book all home
writer_asks stage good writer todos taken doing submission book all home asks = asks

rescuer_asks : (stage : Stage) (dev : DevId) (doing : Doing) (submission : Submission) → IsTrue (has_rescuer stage dev)
    → RequestFits stage (submission_request (routing_setup stage.routing) doing submission.lists) → RequestFits stage (rescuer_request (routing_setup stage.routing) dev doing submission)
rescuer_asks stage dev Rests submission rescuer asks = rescuer
rescuer_asks stage dev doing submission rescuer asks = asks

closed_asks : (stage : Stage) (writer : ℕ) (closed : Closed) (vector : Option VectorItem) (bio : Option (Item Pad)) (slip : Option SlipItem)
    (parent : Option ℕ) → IsTrue (has_book stage writer) → IsVecHome stage vector → IsBioHome stage bio → IsSlipHome stage slip
    → TopFits stage closed.write parent → RequestFits stage (closed_request writer closed vector bio slip parent)
closed_asks stage writer closed (Some vector) bio slip parent book v b s top = v
closed_asks stage writer closed None (Some bio) slip parent book v b s top = b
closed_asks stage writer closed None None (Some slip) parent book v b s top = s
closed_asks stage writer closed None None None (Some parent) book v b s top = (book, tt)
closed_asks stage writer closed None None None None book v b s top = top

carried_asks : (stage : Stage) (disk : DevId) (carried : Carried) → IsTrue (has_disk stage disk) → CarriedFits stage carried
    → RequestFits stage (carried_request disk carried)
carried_asks stage disk Empty there fits = there
carried_asks stage disk (Brings bio status) there fits = (fits.writer, fits.home)
carried_asks stage disk (Carries writer closed) there fits =
    closed_asks stage writer closed closed.held.vector closed.held.bio closed.held.slip closed.parent fits.0 fits.1.held.vector fits.1.held.bio fits.1.held.slip fits.1.top
carried_asks stage disk (Fails breach kept) there fits = tt

duty_asks : (stage : Stage) (duty : Duty) → DutyFits stage duty → RequestFits stage (duty_request duty)
duty_asks stage (Resizes pool min later) fits = fits
duty_asks stage (Starts round later) fits = tt

pub keeper_asks : (stage : Stage) (keeping : Keeping) → KeepingFits stage keeping → RequestFits stage (keeper_request keeping)
keeper_asks stage (Keeps []) fits = tt
keeper_asks stage (Keeps (duty ∷ duties)) fits = duty_asks stage duty (All-head (DutyFits stage) duty duties fits)
keeper_asks stage (Stops breach) fits = tt

task_asks : (stage : Stage) (task : TaskState) → IsStack stage.routing.stack → IsTaskOf stage task → RequestFits stage (request (routing_setup stage.routing) task)
task_asks stage (Writer number todo taken submission) good is =
    let l = is.3 in
    writer_asks stage good number todo taken submission.doing submission is.0 is.1 is.2
    (submission_asks stage good submission.doing submission.lists l.fits.doing l.doing l.fits.lists (l.list0, l.list1))
task_asks stage (Rescuer dev submission) good is =
    let l = is.1 in
    rescuer_asks stage dev submission.doing submission is.0 (submission_asks stage good submission.doing submission.lists l.fits.doing l.doing l.fits.lists (l.list0, l.list1))
task_asks stage (Completer disk carried) good is = carried_asks stage disk carried is.0 is.1
task_asks stage (Keeper keeping) good is = keeper_asks stage keeping is

module _ (stage : Stage) (good : IsStack stage.routing.stack) where
  -- with these lists a submission broke off
  broken : (submission : Submission) (breach : Breach) (kept : List Kept) → IsSubmissionOf stage submission → IsSubmissionOf stage (record submission { doing = Breaks breach kept })
  broken submission breach kept is = record { fits = record { doing = tt; lists = is.fits.lists }; doing = tt; list0 = is.list0; list1 = is.list1 }

  one : (item : Item Pad) → IsItemWithin stage.routing.stack item → IsOwned stage item → IsSubmissionOf stage (settled (routing_setup stage.routing) (item ∷ []))
  one item within owned =
      settled_home stage good (item ∷ [])
      (All-cons (IsItemWithin stage.routing.stack) item [] within (All-nil (IsItemWithin stage.routing.stack)))
      (All-cons (IsOwned stage) item [] owned (All-nil (IsOwned stage)))

  -- what is left of what was taken is at home
  besides_home : (taken : Gathered) → GatheredIsHome stage taken → GatheredIsHome stage (besides taken)
  besides_home NoBio home = tt
  besides_home (HasBio bio) home = home
  besides_home (HasBoth bio vector) home = home.0

  begins_home : (writer : ℕ) (later : List Todo) (bio : ℕ → Item Pad) (taken : Gathered) (todo : Todo) (submission : Submission) (answer : Linked)
      → IsTrue (has_book stage writer) → All (TodoFits stage) (todo ∷ later) → GatheredIsHome stage taken → IsSubmissionOf stage submission
      → ((node : ℕ) → IsItemWithin stage.routing.stack (bio node) × IsOwned stage (bio node))
      → IsTaskOf stage (begins (routing_setup stage.routing) writer later bio taken todo submission answer)
  begins_home writer later bio taken todo submission (Made node) book all home is bios =
      (book, All-tail (TodoFits stage) todo later all, tt, one (bio node) (bios node).0 (bios node).1)
  begins_home writer later bio taken todo submission (NoRoom back) book all home is bios = (book, all, besides_home taken home, broken submission _ _ is)
  begins_home writer later bio taken todo submission (Stray back) book all home is bios = (book, all, besides_home taken home, broken submission _ _ is)

  write_home : (writer : ℕ) (todos : List Todo) (taken : Gathered) (submission : Submission) (reply : Reply) → IsTrue (has_book stage writer)
      → All (TodoFits stage) todos → GatheredIsHome stage taken → IsSubmissionOf stage submission → Owes stage (write_request writer todos taken) reply
      → IsTaskOf stage (write_answered (routing_setup stage.routing) writer todos taken submission reply)
  write_home writer todos taken submission NoTicket book all home is owes = (book, all, besides_home taken home, broken submission breach.Spent _ is)
  write_home writer (todo ∷ later) NoBio submission (HadBio got bio) book all home is owes = (book, all, owes.home, is)
  write_home writer (todo ∷ later) (HasBio bio) submission (HadVec got vector) book all home is owes =
      (book, all, (home, vec_home (needs_vector todo.write) owes), is)
    where
      vec_home : (needs : Bool) → Owes stage (with_bio writer needs todo) (HadVec got vector) → IsHome stage is_vecs vector.share
      vec_home true owes = owes.home
      vec_home false owes = absurd owes
  write_home writer (todo ∷ later) (HasBio bio) submission (LinkedTo answer) book all home is owes =
      let w = (All-head (TodoFits stage) todo later all).write in
      begins_home writer later (λ node. filled_short writer todo node bio) (HasBio bio) todo submission answer book all home is
      (λ node. (record { device = w.known; some = w.some; within = w.within }, record { writer = book; home = home }))
  write_home writer (todo ∷ later) (HasBoth bio vector) submission (LinkedTo answer) book all home is owes =
      let w = (All-head (TodoFits stage) todo later all).write in
      begins_home writer later (λ node. filled writer todo node bio) (HasBoth bio vector) todo submission answer book all home is
      (λ node. (record { device = w.known; some = w.some; within = w.within }, record { writer = book; home = home.0 }))
  write_home writer todos taken submission _ book all home is owes = (book, all, home, is)

  writer_home : (writer : ℕ) (todos : List Todo) (taken : Gathered) (doing : Doing) (submission : Submission) (reply : Reply) → IsTrue (has_book stage writer)
      → All (TodoFits stage) todos → GatheredIsHome stage taken → IsSubmissionOf stage submission
      → (Owes stage (submission_request (routing_setup stage.routing) doing submission.lists) reply
      → IsSubmissionOf stage (submission_answered (routing_setup stage.routing) doing submission.lists reply))
      → Owes stage (writer_request (routing_setup stage.routing) writer todos taken doing submission) reply
      → IsTaskOf stage (writer_answered (routing_setup stage.routing) writer todos taken doing submission reply)
  writer_home writer todos taken Rests submission reply book all home is on owes = write_home writer todos taken submission reply book all home is owes
  writer_home writer todos taken doing submission reply book all home is on owes = (book, all, home, on owes)

  rescuer_home : (dev : DevId) (doing : Doing) (submission : Submission) (reply : Reply) → IsTrue (has_rescuer stage dev) → IsSubmissionOf stage submission
      → (Owes stage (submission_request (routing_setup stage.routing) doing submission.lists) reply
      → IsSubmissionOf stage (submission_answered (routing_setup stage.routing) doing submission.lists reply))
      → Owes stage (rescuer_request (routing_setup stage.routing) dev doing submission) reply
      → IsTaskOf stage (rescuer_answered (routing_setup stage.routing) dev doing submission reply)
  rescuer_home dev Rests submission (Popped bio) rescuer is on owes =
      (rescuer, one bio owes.within (record { writer = owes.writer; home = owes.home }))
  rescuer_home dev Rests submission NoTicket rescuer is on owes = (rescuer, broken submission breach.Spent [] is)
  rescuer_home dev Rests submission _ rescuer is on owes = (rescuer, is)
  rescuer_home dev doing submission reply rescuer is on owes = (rescuer, on owes)

  given_home : (writer : ℕ) (closed : Closed) (vector : Option VectorItem) (bio : Option (Item Pad)) (slip : Option SlipItem)
      → IsTrue (has_book stage writer) → IsBioHome stage bio → IsSlipHome stage slip → TopFits stage closed.write closed.parent
      → CarriedFits stage (given writer closed vector bio slip)
  given_home writer closed (Some vector) bio slip book b s top = (book, record { held = record { bio = b; vector = tt; slip = s }; top = top })
  given_home writer closed None (Some bio) slip book b s top = (book, record { held = record { bio = tt; vector = tt; slip = s }; top = top })
  given_home writer closed None None (Some slip) book b s top = (book, record { held = record { bio = tt; vector = tt; slip = tt }; top = top })
  given_home writer closed None None None book b s top = tt

  dropped_home : (writer node : ℕ) (ended : DropOutcome) → IsTrue (has_book stage writer) → DropFits stage ended → CarriedFits stage (after_drop writer node ended)
  dropped_home writer node end.Left book fits = tt
  dropped_home writer node (end.Up closed) book fits = (book, fits)
  dropped_home writer node (end.Top closed) book fits = (book, fits)
  dropped_home writer node (end.Stray part) book fits = tt

  -- what a completer carries of a closed node
  closed_home : (writer : ℕ) (closed : Closed) (vector : Option VectorItem) (bio : Option (Item Pad)) (slip : Option SlipItem) (parent : Option ℕ)
      (ended : DropOutcome) → IsTrue (has_book stage writer) → Owes stage (closed_request writer closed vector bio slip parent) (DroppedTo ended)
      → CarriedFits stage (after_drop writer (parent_or closed.parent) ended)
  closed_home writer closed (Some vector) bio slip parent ended book owes = absurd owes
  closed_home writer closed None (Some bio) slip parent ended book owes = absurd owes
  closed_home writer closed None None (Some slip) parent ended book owes = absurd owes
  closed_home writer closed None None None (Some parent) ended book owes = dropped_home writer (parent_or closed.parent) ended book owes
  closed_home writer closed None None None None ended book owes = absurd owes

  carried_home : (disk : DevId) (carried : Carried) (reply : Reply) → CarriedFits stage carried → Owes stage (carried_request disk carried) reply
      → CarriedFits stage (carried_answered carried reply)
  carried_home disk carried NoTicket fits owes = tt
  carried_home disk Empty (Completed index bio status) fits owes = record { writer = owes.0.writer; home = owes.0.home }
  carried_home disk (Brings bio status) (DroppedTo ended) fits owes = dropped_home bio.bio.writer bio.bio.node ended fits.writer owes
  carried_home disk (Carries writer closed) (DroppedTo ended) fits owes =
      closed_home writer closed closed.held.vector closed.held.bio closed.held.slip closed.parent ended fits.0 owes
  carried_home disk (Carries writer closed) Did fits owes =
      given_home writer closed closed.held.vector closed.held.bio closed.held.slip fits.0 fits.1.held.bio fits.1.held.slip fits.1.top
  carried_home disk carried _ fits owes = fits

  resized_home : (b : Bool) (pool : PoolId) (out : ℕ) (duties : List Duty) → All (DutyFits stage) duties → KeepingFits stage (after_resize b pool out duties)
  resized_home true pool out duties fits = fits
  resized_home false pool out duties fits = tt

  keeper_home : (keeping : Keeping) (reply : Reply) → KeepingFits stage keeping → KeepingFits stage (keeper_answered keeping reply)
  keeper_home (Keeps (Resizes pool min later ∷ duties)) (OutIs out) fits =
      resized_home (out == 0) pool out duties (All-tail (DutyFits stage) (Resizes pool min later) duties fits)
  keeper_home (Keeps (Starts round later ∷ duties)) Did fits = All-tail (DutyFits stage) (Starts round later) duties fits
  keeper_home (Keeps (duty ∷ duties)) NoTicket fits = tt
  keeper_home keeping _ fits = fits

  task_home : (task : TaskState) (reply : Reply) → IsTaskOf stage task → Owes stage (request (routing_setup stage.routing) task) reply
      → IsTaskOf stage (answered (routing_setup stage.routing) task reply)
  task_home (Writer number todo taken submission) reply is owes =
      let l = is.3 in
      writer_home number todo taken submission.doing submission reply is.0 is.1 is.2 l
      (λ owes. submission_home stage good submission.doing submission.lists reply l.fits.doing l.doing l.fits.lists (l.list0, l.list1) owes) owes
  task_home (Rescuer dev submission) reply is owes =
      let l = is.1 in
      rescuer_home dev submission.doing submission reply is.0 l
      (λ owes. submission_home stage good submission.doing submission.lists reply l.fits.doing l.doing l.fits.lists (l.list0, l.list1) owes) owes
  task_home (Completer disk carried) reply is owes = (is.0, carried_home disk carried reply is.1 owes)
  task_home (Keeper keeping) reply is owes = keeper_home keeping reply is

pub tasks_stay_home : TasksStayHome
tasks_stay_home = record {
  asks = λ stage task good is. task_asks stage task good is;
  goes_on = λ stage task reply good is owes. task_home stage good task reply is owes;
}
