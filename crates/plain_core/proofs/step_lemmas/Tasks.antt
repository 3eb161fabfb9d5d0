-- Steps of tasks, of what their requests were answered.
use Rattle.std.proofs.Common.{◌≡◌, ◌==◌, ◌≤◌, arith, ℕ, true, false, List, [], ◌∷◌, sum, refl, sym, ap, ◌∙◌, subst, Option, None, Some, Result, Ok, Err}
use Rattle.stack_base.specs.declared.ids.DevId.{DevId}
use Rattle.stack_base.specs.declared.ids.Status.{Status}
use Rattle.bio_records.specs.declared.bio.Bio.{Bio}
use Rattle.bio_records.specs.declared.bio.Pad.{Pad}
use Rattle.bio_records.specs.Items.{Item}
use Rattle.bio_books.specs.Books.{VectorItem, SlipItem, Holding}
use Rattle.bio_books.specs.Drops.{Closed}
use Rattle.bio_books.specs.Links.{Made}
use Rattle.run_machine.specs.declared.event.What.{What}
use Rattle.run_machine.specs.Requests.{Reply, GiveBio, GiveSlip, Complete, Drop, Done, Did, Completed, DroppedTo, LeftOver, LookRound, Present, HadBio, HadVec, Missed, Pop, Popped, Link, LinkedTo, Write}
use Rattle.run_machine.specs.Tasks as task
use Rattle.run_machine.specs.Submissions as submission
use Rattle.run_machine.specs.Runs.{IsLet}
use Rattle.std.specs.Prelude.{nat_le}
use Rattle.std.proofs.lemmas.Bool.Decides.{nat_tests}
use Rattle.stack_base.specs.declared.ids.SetId.TheVariants.{Fs}
use Rattle.bio_records.specs.declared.tasks.TaskLists.{TaskLists}
use Rattle.plain_core.specs.objects.Ledgers.{ledger_of}
use Rattle.plain_core.specs.declared.fault.CoreFault.{CoreFault}
use Rattle.plain_core.specs.declared.fault.CoreFault.TheVariants as fault
use Rattle.task_steps.specs.Routed.{Routing, routing_setup}
use Rattle.plain_core.specs.declared.objects.book.NodeOutcome.{NodeOutcome}
use Rattle.plain_core.specs.objects.Books.{ended_of_plain}
use Rattle.plain_core.specs.declared.steps.task.PlainCarried.{PlainCarried}
use Rattle.plain_core.specs.declared.steps.task.PlainCarried.TheVariants as carried
use Rattle.plain_core.specs.objects.Plain.{CoreObjects, objects_of_core}
use Rattle.plain_core.specs.steps.Views.{carried_of_plain}
use Rattle.plain_core.specs.steps.Answers.{IsAnswer, Refuses, HasAnswer}
use Rattle.plain_core.specs.steps.Submissions.{IsSubmitting, SubmissionMoves}
use Rattle.plain_core.specs.steps.Takes.{TakesPart, TakesVector}
use Rattle.plain_core.specs.steps.Moves.{TaskMoves, duty_reply}
use Rattle.plain_core.specs.steps.Closing.{CarriedMoves, GivesFirst, PassesOn, ClosedMoves, bare}

-- the keeper's duty is done
duty_done : (duty : task.Duty) (rest : List task.Duty) → task.Keeper (task.Keeps rest) ≡ task.Keeper (task.keeper_answered (task.Keeps (duty ∷ rest)) (duty_reply duty))
duty_done (task.Resizes pool min later) rest = refl
duty_done (task.Starts round later) rest = refl

duty_asked : (r : Routing) (old new : CoreObjects) (duty : task.Duty) (rest : List task.Duty) (what : What) → IsAnswer old (task.duty_request duty) what (duty_reply duty) new
    → IsAnswer old (task.request (routing_setup r) (task.Keeper (task.Keeps (duty ∷ rest)))) what (duty_reply duty) new
duty_asked r old new duty rest what answer = answer

pub keeper_done : (r : Routing) (old new : CoreObjects) (ds rest : List task.Duty) (duty : task.Duty) (what : What) → ds ≡ duty ∷ rest
    → (sum old.tally.left == task.later_of duty) ≡ true → IsAnswer old (task.duty_request duty) what (duty_reply duty) new
    → TaskMoves r old (task.Keeper (task.Keeps ds)) what (Ok (tt {0})) new (task.Keeper (task.Keeps rest))
keeper_done r old new ds rest duty what is ready answer =
    subst (λ l. TaskMoves r old (task.Keeper (task.Keeps l)) what (Ok (tt {0})) new (task.Keeper (task.Keeps rest))) (sym is)
    (duty_reply duty, (LeftOver (sum old.tally.left), (refl, refl), ready), duty_asked r old new duty rest what answer, duty_done duty rest)

-- a closed node that holds nothing is passed on
pub passed_done : (old new : CoreObjects) (writer : ℕ) (closed : Closed) (what : What) → closed.parent ≡ None
    → IsAnswer old (Done closed.write closed.status) what Did new → PassesOn old writer closed what (Ok carried.Empty) new
passed_done old new writer closed what is answer =
    (Did, subst (λ p. IsAnswer old (task.closed_request writer (bare closed) None None None p) what Did new) (sym is) answer, refl)

pub passed_told : (old new : CoreObjects) (writer parent : ℕ) (closed : Closed) (what : What) (e : NodeOutcome) (after : PlainCarried) → closed.parent ≡ Some parent
    → IsAnswer old (Drop writer parent closed.status None) what (DroppedTo (ended_of_plain e)) new → ((node : ℕ) → carried_of_plain after ≡ task.after_drop writer node (ended_of_plain e))
    → PassesOn old writer closed what (Ok after) new
passed_told old new writer parent closed what e after is answer carries = (
  DroppedTo (ended_of_plain e),
  subst (λ p. IsAnswer old (task.closed_request writer (bare closed) None None None p) what (DroppedTo (ended_of_plain e)) new) (sym is) answer,
  carries (task.parent_or closed.parent),
)

-- the first of what it holds went back
pub gave_slip : (old new : CoreObjects) (s : SlipItem) (slip : Option SlipItem) (what : What) → slip ≡ Some s → IsAnswer old (GiveSlip s) what Did new
    → GivesFirst old None None slip what (Ok true) new None None None
gave_slip old new s slip what is answer =
    subst (λ v. GivesFirst old None None v what (Ok true) new None None None) (sym is) (λ writer closed parent. (answer, refl))

pub gave_part : (old new : CoreObjects) (p : Item Pad) (part : Option (Item Pad)) (slip : Option SlipItem) (what : What) → part ≡ Some p → IsAnswer old (GiveBio p) what Did new
    → GivesFirst old None part slip what (Ok true) new None None slip
gave_part old new p part slip what is answer =
    subst (λ v. GivesFirst old None v slip what (Ok true) new None None slip) (sym is) (λ writer closed parent. (answer, refl))

-- it goes on
pub closed_gave : (old new : CoreObjects) (writer : ℕ) (closed : Closed) (held : Holding) (what : What)
    → GivesFirst old closed.held.vector closed.held.bio closed.held.slip what (Ok true) new held.vector held.bio held.slip
    → ClosedMoves old writer closed what (Ok None) new (record closed { held = held })
closed_gave old new writer closed held what gives = let gave = gives writer closed closed.parent in (Did, gave.0, gave.1)

-- a completer goes on
pub carried_completed : (old new : CoreObjects) (disk : DevId) (b : PlainCarried) (what : What) (index : ℕ) (part : Item Pad) (status : Status) → b ≡ carried.Empty
    → IsAnswer old (Complete disk) what (Completed index part status) new → CarriedMoves old disk (carried_of_plain b) what (Ok (tt {0})) new (task.Brings part status)
carried_completed old new disk b what index part status is answer =
    subst (λ v. CarriedMoves old disk (carried_of_plain v) what (Ok (tt {0})) new (task.Brings part status)) (sym is) (Completed index part status, answer, refl)

pub carried_told : (old new : CoreObjects) (disk : DevId) (b : PlainCarried) (what : What) (part again : Item Pad) (bio : Bio) (status : Status) (e : NodeOutcome) (after : PlainCarried)
    → b ≡ carried.Brings part status → bio ≡ part.bio → again ≡ part
    → IsAnswer old (Drop bio.writer bio.node status (Some again)) what (DroppedTo (ended_of_plain e)) new
    → ((node : ℕ) → carried_of_plain after ≡ task.after_drop bio.writer node (ended_of_plain e)) → CarriedMoves old disk (carried_of_plain b) what (Ok (tt {0})) new (carried_of_plain after)
carried_told old new disk b what part again bio status e after is is_bio is_again answer carries =
    subst (λ v. CarriedMoves old disk (carried_of_plain v) what (Ok (tt {0})) new (carried_of_plain after)) (sym is) (
      DroppedTo (ended_of_plain e),
      subst (λ (i : Bio). IsAnswer old (Drop i.writer i.node status (Some part)) what (DroppedTo (ended_of_plain e)) new) is_bio
          (subst (λ q. IsAnswer old (Drop bio.writer bio.node status (Some q)) what (DroppedTo (ended_of_plain e)) new) is_again answer),
      subst (λ (i : Bio). carried_of_plain after ≡ task.after_drop i.writer i.node (ended_of_plain e)) is_bio (carries bio.node),
    )

-- a rescuer's or a writer's submission goes on
pub rescuer_submission : (r : Routing) (old new : CoreObjects) (dev : DevId) (doing : submission.Doing) (lists : TaskLists) (after : submission.Submission) (what : What) (result : Result (Unit {0}) CoreFault)
    → IsSubmitting doing → SubmissionMoves r old (record { doing = doing; lists = lists }) what result new after
    → TaskMoves r old (task.Rescuer dev (record { doing = doing; lists = lists })) what result new (task.Rescuer dev after)
rescuer_submission r old new dev submission.Rests lists after what result busy m = absurd busy
rescuer_submission r old new dev (submission.Drives bio ask) lists after what (Ok d) busy m = (m.0, tt, m.1, ap (task.Rescuer dev) m.2)
rescuer_submission r old new dev (submission.Drives bio ask) lists after what (Err fault.NotEnabled) busy m = (m.0, ap (task.Rescuer dev) m.1, λ let_it. m.2)
rescuer_submission r old new dev (submission.Drives bio ask) lists after what (Err fault.Memory) busy m = (m.0, ap (task.Rescuer dev) m.1, busy, tt, m.2)
rescuer_submission r old new dev (submission.Copies bio master leg want) lists after what (Ok d) busy m = (m.0, tt, m.1, ap (task.Rescuer dev) m.2)
rescuer_submission r old new dev (submission.Copies bio master leg want) lists after what (Err fault.NotEnabled) busy m = (m.0, ap (task.Rescuer dev) m.1, λ let_it. m.2)
rescuer_submission r old new dev (submission.Copies bio master leg want) lists after what (Err fault.Memory) busy m = (m.0, ap (task.Rescuer dev) m.1, busy, tt, m.2)
rescuer_submission r old new dev (submission.Breaks breach kept) lists after what (Ok d) busy m = (m.0, tt, m.1, ap (task.Rescuer dev) m.2)
rescuer_submission r old new dev (submission.Breaks breach kept) lists after what (Err fault.NotEnabled) busy m = (m.0, ap (task.Rescuer dev) m.1, λ let_it. m.2)
rescuer_submission r old new dev (submission.Breaks breach kept) lists after what (Err fault.Memory) busy m = (m.0, ap (task.Rescuer dev) m.1, busy, tt, m.2)

-- a writer's submission: it looks at nothing
no_look : (todo : List task.Todo) (taken : task.Gathered) (doing : submission.Doing) → IsSubmitting doing → task.writer_look todo taken doing ≡ None
no_look [] taken doing busy = refl
no_look (t ∷ todo) task.NoBio submission.Rests busy = absurd busy
no_look (t ∷ todo) task.NoBio (submission.Drives bio ask) busy = refl
no_look (t ∷ todo) task.NoBio (submission.Copies bio master leg want) busy = refl
no_look (t ∷ todo) task.NoBio (submission.Breaks breach kept) busy = refl
no_look (t ∷ todo) (task.HasBio bio) doing busy = refl
no_look (t ∷ todo) (task.HasBoth bio vector) doing busy = refl

asks_submission : (r : Routing) (n : ℕ) (todo : List task.Todo) (taken : task.Gathered) (doing : submission.Doing) (lists : TaskLists) → IsSubmitting doing
    → task.request (routing_setup r) (task.Writer n todo taken (record { doing = doing; lists = lists })) ≡ submission.submission_request (routing_setup r) doing lists
asks_submission r n todo taken submission.Rests lists busy = absurd busy
asks_submission r n todo taken (submission.Drives bio ask) lists busy = refl
asks_submission r n todo taken (submission.Copies bio master leg want) lists busy = refl
asks_submission r n todo taken (submission.Breaks breach kept) lists busy = refl

answers_submission : (r : Routing) (n : ℕ) (todo : List task.Todo) (taken : task.Gathered) (doing : submission.Doing) (lists : TaskLists) (reply : Reply) → IsSubmitting doing
    → task.Writer n todo taken (submission.submission_answered (routing_setup r) doing lists reply) ≡ task.answered (routing_setup r) (task.Writer n todo taken (record { doing = doing; lists = lists })) reply
answers_submission r n todo taken submission.Rests lists reply busy = absurd busy
answers_submission r n todo taken (submission.Drives bio ask) lists reply busy = refl
answers_submission r n todo taken (submission.Copies bio master leg want) lists reply busy = refl
answers_submission r n todo taken (submission.Breaks breach kept) lists reply busy = refl

pub writer_submission : (r : Routing) (old new : CoreObjects) (n : ℕ) (todo : List task.Todo) (taken : task.Gathered) (before after : submission.Submission) (what : What) (result : Result (Unit {0}) CoreFault)
    → IsSubmitting before.doing → SubmissionMoves r old before what result new after
    → TaskMoves r old (task.Writer n todo taken before) what result new (task.Writer n todo taken after)
writer_submission r old new n todo taken before after what (Ok d) busy m = (
  m.0,
  subst (IsLet ledger_of (objects_of_core old) (task.Writer n todo taken before)) (sym (no_look todo taken before.doing busy)) tt,
  subst (λ q. IsAnswer old q what m.0 new) (sym (asks_submission r n todo taken before.doing before.lists busy)) m.1,
  ap (task.Writer n todo taken) m.2 ∙ answers_submission r n todo taken before.doing before.lists m.0 busy,
)
writer_submission r old new n todo taken before after what (Err fault.NotEnabled) busy m =
    (m.0, ap (task.Writer n todo taken) m.1, λ let_it. subst (λ q. Refuses old q what) (sym (asks_submission r n todo taken before.doing before.lists busy)) m.2)
writer_submission r old new n todo taken before after what (Err fault.Memory) busy m = (
  m.0,
  ap (task.Writer n todo taken) m.1,
  busy,
  subst (IsLet ledger_of (objects_of_core old) (task.Writer n todo taken before)) (sym (no_look todo taken before.doing busy)) tt,
  subst (λ q. HasAnswer old q what) (sym (asks_submission r n todo taken before.doing before.lists busy)) m.2,
)

-- a writer at rest
pub writer_ok : (r : Routing) (old new : CoreObjects) (n : ℕ) (tds : List task.Todo) (taken : task.Gathered) (before : submission.Submission) (what : What) (reply : Reply) (after : task.TaskState)
    → before.doing ≡ submission.Rests → IsLet ledger_of (objects_of_core old) (task.Writer n tds taken before) (task.writer_look tds taken submission.Rests)
    → IsAnswer old (task.write_request n tds taken) what reply new → after ≡ task.write_answered (routing_setup r) n tds taken before reply
    → TaskMoves r old (task.Writer n tds taken before) what (Ok (tt {0})) new after
writer_ok r old new n tds taken before what reply after rests is_let answer is_after = (
  reply,
  subst (IsLet ledger_of (objects_of_core old) (task.Writer n tds taken before)) (ap (task.writer_look tds taken) (sym rests)) is_let,
  subst (λ q. IsAnswer old q what reply new) (ap (λ d. task.writer_request (routing_setup r) n tds taken d before) (sym rests)) answer,
  is_after ∙ ap (λ d. task.writer_answered (routing_setup r) n tds taken d before reply) (sym rests),
)

-- the next write's round has come
pub round_come : (old : CoreObjects) (n : ℕ) (next : task.Todo) (later : List task.Todo) (before : submission.Submission) → nat_le next.round old.tally.round ≡ true
    → IsLet ledger_of (objects_of_core old) (task.Writer n (next ∷ later) task.NoBio before) (Some LookRound)
round_come old n next later before come = (Present old.tally.round, (refl, refl), come)

pub bio_taken : (r : Routing) (old new : CoreObjects) (n : ℕ) (tds later : List task.Todo) (next : task.Todo) (taken : task.Gathered) (before : submission.Submission) (what : What) (part : Item Pad)
    → before.doing ≡ submission.Rests → taken ≡ task.NoBio → tds ≡ next ∷ later → nat_le next.round old.tally.round ≡ true → TakesPart old Fs true what (Ok (Some part)) new
    → TaskMoves r old (task.Writer n tds taken before) what (Ok (tt {0})) new (task.Writer n tds (task.HasBio part) before)
bio_taken r old new n tds later next taken before what part rests none is come t =
    subst (λ k. TaskMoves r old (task.Writer n tds k before) what (Ok (tt {0})) new (task.Writer n tds (task.HasBio part) before)) (sym none)
    (subst (λ l. TaskMoves r old (task.Writer n l task.NoBio before) what (Ok (tt {0})) new (task.Writer n l (task.HasBio part) before)) (sym is)
    (writer_ok r old new n (next ∷ later) task.NoBio before what (HadBio t.0 part) (task.Writer n (next ∷ later) (task.HasBio part) before) rests (round_come old n next later before come) t.1 refl))

pub bio_missed : (r : Routing) (old new : CoreObjects) (n : ℕ) (tds later : List task.Todo) (next : task.Todo) (taken : task.Gathered) (before : submission.Submission) (what : What)
    → before.doing ≡ submission.Rests → taken ≡ task.NoBio → tds ≡ next ∷ later → nat_le next.round old.tally.round ≡ true → TakesPart old Fs true what (Ok None) new
    → TaskMoves r old (task.Writer n tds taken before) what (Ok (tt {0})) new (task.Writer n tds taken before)
bio_missed r old new n tds later next taken before what rests none is come t =
    subst (λ k. TaskMoves r old (task.Writer n tds k before) what (Ok (tt {0})) new (task.Writer n tds k before)) (sym none)
    (subst (λ l. TaskMoves r old (task.Writer n l task.NoBio before) what (Ok (tt {0})) new (task.Writer n l task.NoBio before)) (sym is)
    (writer_ok r old new n (next ∷ later) task.NoBio before what (Missed t.0) (task.Writer n (next ∷ later) task.NoBio before) rests (round_come old n next later before come) t.1 refl))

pub rescuer_popped : (r : Routing) (old new : CoreObjects) (dev : DevId) (before after : submission.Submission) (what : What) (part : Item Pad) → before.doing ≡ submission.Rests
    → IsAnswer old (Pop dev) what (Popped part) new → after ≡ submission.settled (routing_setup r) (part ∷ [])
    → TaskMoves r old (task.Rescuer dev before) what (Ok (tt {0})) new (task.Rescuer dev after)
rescuer_popped r old new dev before after what part rests answer is = (
  Popped part,
  tt,
  subst (λ q. IsAnswer old q what (Popped part) new) (ap (λ d. task.rescuer_request (routing_setup r) dev d before) (sym rests)) answer,
  ap (task.Rescuer dev) is ∙ ap (λ d. task.rescuer_answered (routing_setup r) dev d before (Popped part)) (sym rests),
)

module _ (r : Routing) (old new : CoreObjects) (n : ℕ) (tds later : List task.Todo) (next : task.Todo) (taken : task.Gathered) (before : submission.Submission) (what : What) (rests : before.doing ≡ submission.Rests) (is : tds ≡ next ∷ later) where
  -- with a bio, and with a vector too
  pub vector_taken : (part : Item Pad) (vector : VectorItem) → taken ≡ task.HasBio part → task.needs_vector next.write ≡ true → TakesVector old what (Ok (Some vector)) new
      → TaskMoves r old (task.Writer n tds taken before) what (Ok (tt {0})) new (task.Writer n tds (task.HasBoth part vector) before)
  vector_taken part vector has needs t =
      subst (λ k. TaskMoves r old (task.Writer n tds k before) what (Ok (tt {0})) new (task.Writer n tds (task.HasBoth part vector) before)) (sym has)
      (subst (λ l. TaskMoves r old (task.Writer n l (task.HasBio part) before) what (Ok (tt {0})) new (task.Writer n l (task.HasBoth part vector) before)) (sym is)
      (writer_ok r old new n (next ∷ later) (task.HasBio part) before what (HadVec t.0 vector) (task.Writer n (next ∷ later) (task.HasBoth part vector) before) rests tt
      (subst (λ b. IsAnswer old (task.with_bio n b next) what (HadVec t.0 vector) new) (sym needs) t.1) refl))

  pub vector_missed : (part : Item Pad) → taken ≡ task.HasBio part → task.needs_vector next.write ≡ true → TakesVector old what (Ok None) new
      → TaskMoves r old (task.Writer n tds taken before) what (Ok (tt {0})) new (task.Writer n tds taken before)
  vector_missed part has needs t =
      subst (λ k. TaskMoves r old (task.Writer n tds k before) what (Ok (tt {0})) new (task.Writer n tds k before)) (sym has)
      (subst (λ l. TaskMoves r old (task.Writer n l (task.HasBio part) before) what (Ok (tt {0})) new (task.Writer n l (task.HasBio part) before)) (sym is)
      (writer_ok r old new n (next ∷ later) (task.HasBio part) before what (Missed t.0) (task.Writer n (next ∷ later) (task.HasBio part) before) rests tt
      (subst (λ b. IsAnswer old (task.with_bio n b next) what (Missed t.0) new) (sym needs) t.1) refl))

  pub short_begun : (part filled : Item Pad) (node : ℕ) (after : task.TaskState) → taken ≡ task.HasBio part → task.needs_vector next.write ≡ false
      → filled ≡ task.filled_short n next node part → after ≡ task.Writer n later task.NoBio (submission.settled (routing_setup r) (filled ∷ []))
      → IsAnswer old (Link n (Write next.number None)) what (LinkedTo (Made node)) new
      → TaskMoves r old (task.Writer n tds taken before) what (Ok (tt {0})) new after
  short_begun part filled node after has needs is_filled is_after answer =
      subst (λ k. TaskMoves r old (task.Writer n tds k before) what (Ok (tt {0})) new after) (sym has)
      (subst (λ l. TaskMoves r old (task.Writer n l (task.HasBio part) before) what (Ok (tt {0})) new after) (sym is)
      (writer_ok r old new n (next ∷ later) (task.HasBio part) before what (LinkedTo (Made node)) after rests tt
      (subst (λ b. IsAnswer old (task.with_bio n b next) what (LinkedTo (Made node)) new) (sym needs) answer)
      (is_after ∙ ap (λ i. task.Writer n later task.NoBio (submission.settled (routing_setup r) (i ∷ []))) is_filled)))

  pub long_begun : (part filled : Item Pad) (vector full : VectorItem) (node : ℕ) (after : task.TaskState) → taken ≡ task.HasBoth part vector
      → full ≡ task.filled_vector next vector → filled ≡ task.filled n next node part → after ≡ task.Writer n later task.NoBio (submission.settled (routing_setup r) (filled ∷ []))
      → IsAnswer old (Link n (Write next.number (Some full))) what (LinkedTo (Made node)) new
      → TaskMoves r old (task.Writer n tds taken before) what (Ok (tt {0})) new after
  long_begun part filled vector full node after has is_full is_filled is_after answer =
      subst (λ k. TaskMoves r old (task.Writer n tds k before) what (Ok (tt {0})) new after) (sym has)
      (subst (λ l. TaskMoves r old (task.Writer n l (task.HasBoth part vector) before) what (Ok (tt {0})) new after) (sym is)
      (writer_ok r old new n (next ∷ later) (task.HasBoth part vector) before what (LinkedTo (Made node)) after rests tt
      (subst (λ v. IsAnswer old (Link n (Write next.number (Some v))) what (LinkedTo (Made node)) new) is_full answer)
      (is_after ∙ ap (λ i. task.Writer n later task.NoBio (submission.settled (routing_setup r) (i ∷ []))) is_filled)))

pub come_by : (mine wanted here present : ℕ) → mine ≡ wanted → here ≡ present → wanted ≤ here → nat_le mine present ≡ true
come_by mine wanted here present same is le = grind (arith, nat_tests)
