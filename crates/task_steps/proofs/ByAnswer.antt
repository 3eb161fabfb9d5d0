-- What a turn was, from the reply that the task had.
use Rattle.std.proofs.Common.{◌≡◌, ◌≢◌, ◌⊎◌, inl, inr, ℕ, ◌==◌, if◌then◌else◌, Bool, true, false, List, [], ◌∷◌, Option, None, Some, refl, sym, ap, ◌∙◌, subst, true≢false}
use Rattle.std.proofs.lemmas.Bool.{eqb-true}
use Rattle.stack_base.specs.declared.ids.DevId.{DevId}
use Rattle.stack_base.specs.declared.ids.PoolId.{PoolId}
use Rattle.stack_base.specs.declared.ids.PoolId.TheVariants.{FsBios, FsVecs, Bios, Records}
use Rattle.bio_records.specs.declared.bio.Pad.{Pad}
use Rattle.bio_records.specs.declared.tasks.TaskLists.{TaskLists}
use Rattle.bio_records.specs.Items.{Item}
use Rattle.bio_books.specs.Books.{VectorItem, SlipItem}
use Rattle.bio_books.specs.Drops.{Closed}
use Rattle.bio_books.specs.Drops as end
use Rattle.bio_books.specs.Links.{Made, NoRoom, Stray}
use Rattle.run_machine.specs.declared.event.Breach.{Breach}
use Rattle.run_machine.specs.declared.event.Breach.TheVariants as breach
use Rattle.run_machine.specs.declared.event.What.{What}
use Rattle.run_machine.specs.declared.event.What.TheVariants as what
use Rattle.run_machine.specs.Scene.{Setup}
use Rattle.run_machine.specs.Requests.{Request, Reply, TakeBio, Resize, HadBio, HadVec, HadSlip, Missed, Did, Popped, Completed, LinkedTo, DroppedTo, OutIs, Nothing, NoTicket, LookLeft, LeftOver, Rest}
use Rattle.run_machine.specs.Submissions.{Takes, WantsPunt, Links, ToPush, ToCut, ToRecord, ToMaster, Doing, Rests, Drives, Copies, Breaks, Submission, submission_request, submission_answered, doing_breach}
use Rattle.run_machine.specs.Tasks.{Todo, Gathered, NoBio, HasBio, HasBoth, Carried, Empty, Brings, Carries, Fails, Duty, Resizes, Starts, Keeping, Keeps, Stops, TaskState, Writer, Rescuer, Completer, Keeper, needs_vector, with_bio, write_request, writer_request, rescuer_request, closed_request, carried_request, keeper_request, write_answered, writer_answered, rescuer_answered, parent_or, carried_answered, after_resize, keeper_answered, carried_breach, keeping_breach, request, look_of, lets, answered, breach_of}
use Rattle.run_machine.specs.Events.{what_of, resize_of, id_of}
use Rattle.task_steps.specs.declared.objects.Objects.{Ghosts}
use Rattle.task_steps.specs.declared.step.Step.{Step}
use Rattle.task_steps.specs.declared.step.Step.TheVariants.{Stepped, Blocked, Waiting, Ended, Broken}
use Rattle.task_steps.specs.Service.{Service}
use Rattle.task_steps.specs.Stage.{Stage, Owes}
use Rattle.task_steps.specs.Turns.{silent_step, step_by, step_of, resting_step, idle_step, Asks, Turns, Rested, Waited, Asked, Saw}
use Rattle.task_steps.specs.TaskSteps.{TaskTurns}
use Rattle.task_steps.specs.ByAnswer.{MayAsk, HasReply, HasNothing, TurnWas, AnswersTellTurns, pool_waited_at}
use Rattle.task_steps.proofs.Asking.{asks_any}

-- What comes of a reply: an event; a miss that is none, and all is the same; a refusal, for the reason that the task keeps; or nothing, and all is
-- the same.
data Comes (setup : Setup) (asked : Request) (reply : Reply) (why : Option Breach) (Same : Type 0) : Type 0 where
  Tells : (told : What) → what_of asked reply ≡ Some told → Comes setup asked reply why Same
  Misses : (pool : PoolId) → reply ≡ Missed false → pool_waited_at asked ≡ Some pool → what_of asked reply ≡ None
      → silent_step setup asked reply ≡ Blocked pool → Same → Comes setup asked reply why Same
  Refuses : (b : Breach) → what_of asked reply ≡ None → silent_step setup asked reply ≡ Broken b → why ≡ Some b → Comes setup asked reply why Same
  Finds : reply ≡ Nothing → Same → Comes setup asked reply why Same

carry : {setup : Setup} {asked : Request} {reply : Reply} {why : Option Breach} {A B : Type 0} → (A → B) → Comes setup asked reply why A → Comes setup asked reply why B
carry f (Tells told e) = Tells told e
carry f (Misses pool missed taken untold silent same) = Misses pool missed taken untold silent (f same)
carry f (Refuses b untold silent is) = Refuses b untold silent is
carry f (Finds none same) = Finds none (f same)

module _ (stage : Stage) (setup : Setup) where
  -- submissions
  submission_comes : (doing : Doing) (lists : TaskLists) (reply : Reply) → asks_any (submission_request setup doing lists) ≡ true
      → Owes stage (submission_request setup doing lists) reply
      → Comes setup (submission_request setup doing lists) reply (doing_breach (submission_answered setup doing lists reply).doing)
      (submission_answered setup doing lists reply ≡ record { doing = doing; lists = lists })
  -- at rest, or broken off: it asks nothing
  submission_comes Rests lists reply any owed = absurd (true≢false (sym any))
  submission_comes (Breaks b kept) lists reply any owed = absurd (true≢false (sym any))
  -- a push
  submission_comes (Drives bio ToPush) lists Did any owed = Tells _ refl
  submission_comes (Drives bio ToPush) lists NoTicket any owed = Refuses breach.Spent refl refl refl
  submission_comes (Drives bio ToPush) lists reply any owed = absurd owed
  -- a take for a cut: where it waits, and the miss used up no entry, all is the same
  submission_comes (Drives bio (ToCut (Takes waits))) lists (HadBio got hand) any owed = Tells _ refl
  submission_comes (Drives bio (ToCut (Takes true))) lists (Missed true) any owed = Tells _ refl
  submission_comes (Drives bio (ToCut (Takes true))) lists (Missed false) any owed = Misses _ refl refl refl refl refl
  submission_comes (Drives bio (ToCut (Takes false))) lists (Missed used) any owed = Tells _ refl
  submission_comes (Drives bio (ToCut (Takes waits))) lists NoTicket any owed = Refuses breach.Spent refl refl refl
  submission_comes (Drives bio (ToCut (Takes waits))) lists reply any owed = absurd owed
  -- a punt
  submission_comes (Drives bio (ToCut WantsPunt)) lists Did any owed = Tells _ refl
  submission_comes (Drives bio (ToCut WantsPunt)) lists NoTicket any owed = Refuses breach.Spent refl refl refl
  submission_comes (Drives bio (ToCut WantsPunt)) lists reply any owed = absurd owed
  -- a node for the cut, which the book may refuse
  submission_comes (Drives bio (ToCut (Links hand))) lists (LinkedTo (Made node)) any owed = Tells _ refl
  submission_comes (Drives bio (ToCut (Links hand))) lists (LinkedTo (NoRoom back)) any owed = Refuses _ refl refl refl
  submission_comes (Drives bio (ToCut (Links hand))) lists (LinkedTo (Stray back)) any owed = Refuses _ refl refl refl
  submission_comes (Drives bio (ToCut (Links hand))) lists NoTicket any owed = Refuses breach.Spent refl refl refl
  submission_comes (Drives bio (ToCut (Links hand))) lists reply any owed = absurd owed
  -- a take of a record for a mirror
  submission_comes (Drives bio ToRecord) lists (HadSlip got slip) any owed = Tells _ refl
  submission_comes (Drives bio ToRecord) lists (Missed true) any owed = Tells _ refl
  submission_comes (Drives bio ToRecord) lists (Missed false) any owed = Misses _ refl refl refl refl refl
  submission_comes (Drives bio ToRecord) lists NoTicket any owed = Refuses breach.Spent refl refl refl
  submission_comes (Drives bio ToRecord) lists reply any owed = absurd owed
  -- a node for its master
  submission_comes (Drives bio (ToMaster slip)) lists (LinkedTo (Made node)) any owed = Tells _ refl
  submission_comes (Drives bio (ToMaster slip)) lists (LinkedTo (NoRoom back)) any owed = Refuses _ refl refl refl
  submission_comes (Drives bio (ToMaster slip)) lists (LinkedTo (Stray back)) any owed = Refuses _ refl refl refl
  submission_comes (Drives bio (ToMaster slip)) lists NoTicket any owed = Refuses breach.Spent refl refl refl
  submission_comes (Drives bio (ToMaster slip)) lists reply any owed = absurd owed
  -- takes, punts and nodes for a leg of it, as for a cut
  submission_comes (Copies bio master leg (Takes waits)) lists (HadBio got hand) any owed = Tells _ refl
  submission_comes (Copies bio master leg (Takes true)) lists (Missed true) any owed = Tells _ refl
  submission_comes (Copies bio master leg (Takes true)) lists (Missed false) any owed = Misses _ refl refl refl refl refl
  submission_comes (Copies bio master leg (Takes false)) lists (Missed used) any owed = Tells _ refl
  submission_comes (Copies bio master leg (Takes waits)) lists NoTicket any owed = Refuses breach.Spent refl refl refl
  submission_comes (Copies bio master leg (Takes waits)) lists reply any owed = absurd owed
  submission_comes (Copies bio master leg WantsPunt) lists Did any owed = Tells _ refl
  submission_comes (Copies bio master leg WantsPunt) lists NoTicket any owed = Refuses breach.Spent refl refl refl
  submission_comes (Copies bio master leg WantsPunt) lists reply any owed = absurd owed
  submission_comes (Copies bio master leg (Links hand)) lists (LinkedTo (Made node)) any owed = Tells _ refl
  submission_comes (Copies bio master leg (Links hand)) lists (LinkedTo (NoRoom back)) any owed = Refuses _ refl refl refl
  submission_comes (Copies bio master leg (Links hand)) lists (LinkedTo (Stray back)) any owed = Refuses _ refl refl refl
  submission_comes (Copies bio master leg (Links hand)) lists NoTicket any owed = Refuses breach.Spent refl refl refl
  submission_comes (Copies bio master leg (Links hand)) lists reply any owed = absurd owed

  -- a submission is what it is at, with its lists
  whole : (submission : Submission) (doing : Doing) → submission.doing ≡ doing → record { doing = doing; lists = submission.lists } ≡ submission
  whole submission doing is = ap (λ (d : Doing). record { doing = d; lists = submission.lists }) (sym is)

  -- writers outside of their submissions
  with_bio_comes : (needs : Bool) (number : ℕ) (todo : Todo) (later : List Todo) (bio : Item Pad) (submission : Submission) (reply : Reply)
      → Owes stage (with_bio number needs todo) reply
      → Comes setup (with_bio number needs todo) reply (breach_of (write_answered setup number (todo ∷ later) (HasBio bio) submission reply))
      (write_answered setup number (todo ∷ later) (HasBio bio) submission reply ≡ Writer number (todo ∷ later) (HasBio bio) submission)
  -- a vector, where the write needs one
  with_bio_comes true number todo later bio submission (HadVec got vector) owed = Tells _ refl
  with_bio_comes true number todo later bio submission (Missed true) owed = Tells _ refl
  with_bio_comes true number todo later bio submission (Missed false) owed = Misses _ refl refl refl refl refl
  with_bio_comes true number todo later bio submission NoTicket owed = Refuses breach.Spent refl refl refl
  with_bio_comes true number todo later bio submission reply owed = absurd owed
  -- and else its node
  with_bio_comes false number todo later bio submission (LinkedTo (Made node)) owed = Tells _ refl
  with_bio_comes false number todo later bio submission (LinkedTo (NoRoom back)) owed = Refuses _ refl refl refl
  with_bio_comes false number todo later bio submission (LinkedTo (Stray back)) owed = Refuses _ refl refl refl
  with_bio_comes false number todo later bio submission NoTicket owed = Refuses breach.Spent refl refl refl
  with_bio_comes false number todo later bio submission reply owed = absurd owed

  write_comes : (number : ℕ) (todos : List Todo) (taken : Gathered) (submission : Submission) (reply : Reply) → asks_any (write_request number todos taken) ≡ true
      → Owes stage (write_request number todos taken) reply
      → Comes setup (write_request number todos taken) reply (breach_of (write_answered setup number todos taken submission reply))
      (write_answered setup number todos taken submission reply ≡ Writer number todos taken submission)
  write_comes number [] taken submission reply any owed = absurd (true≢false (sym any))
  -- a bio for the next write
  write_comes number (todo ∷ later) NoBio submission (HadBio got bio) any owed = Tells _ refl
  write_comes number (todo ∷ later) NoBio submission (Missed true) any owed = Tells _ refl
  write_comes number (todo ∷ later) NoBio submission (Missed false) any owed = Misses _ refl refl refl refl refl
  write_comes number (todo ∷ later) NoBio submission NoTicket any owed = Refuses breach.Spent refl refl refl
  write_comes number (todo ∷ later) NoBio submission reply any owed = absurd owed
  -- what the bio wants
  write_comes number (todo ∷ later) (HasBio bio) submission reply any owed =
      with_bio_comes (needs_vector todo.write) number todo later bio submission reply owed
  -- its node, with the vector
  write_comes number (todo ∷ later) (HasBoth bio vector) submission (LinkedTo (Made node)) any owed = Tells _ refl
  write_comes number (todo ∷ later) (HasBoth bio vector) submission (LinkedTo (NoRoom back)) any owed = Refuses _ refl refl refl
  write_comes number (todo ∷ later) (HasBoth bio vector) submission (LinkedTo (Stray back)) any owed = Refuses _ refl refl refl
  write_comes number (todo ∷ later) (HasBoth bio vector) submission NoTicket any owed = Refuses breach.Spent refl refl refl
  write_comes number (todo ∷ later) (HasBoth bio vector) submission reply any owed = absurd owed

  writer_comes : (number : ℕ) (todos : List Todo) (taken : Gathered) (submission : Submission) (doing : Doing) → submission.doing ≡ doing → (reply : Reply)
      → asks_any (writer_request setup number todos taken doing submission) ≡ true → Owes stage (writer_request setup number todos taken doing submission) reply
      → Comes setup (writer_request setup number todos taken doing submission) reply (breach_of (writer_answered setup number todos taken doing submission reply))
      (writer_answered setup number todos taken doing submission reply ≡ Writer number todos taken submission)
  writer_comes number todos taken submission Rests is reply any owed = write_comes number todos taken submission reply any owed
  writer_comes number todos taken submission doing is reply any owed =
      carry (λ same. ap (λ (l : Submission). Writer number todos taken l) (same ∙ whole submission doing is)) (submission_comes doing submission.lists reply any owed)

  -- rescuers
  rescuer_comes : (dev : DevId) (submission : Submission) (doing : Doing) → submission.doing ≡ doing → (reply : Reply)
      → asks_any (rescuer_request setup dev doing submission) ≡ true → Owes stage (rescuer_request setup dev doing submission) reply
      → Comes setup (rescuer_request setup dev doing submission) reply (breach_of (rescuer_answered setup dev doing submission reply))
      (rescuer_answered setup dev doing submission reply ≡ Rescuer dev submission)
  rescuer_comes dev submission Rests is (Popped bio) any owed = Tells _ refl
  rescuer_comes dev submission Rests is Nothing any owed = Finds refl refl
  rescuer_comes dev submission Rests is NoTicket any owed = Refuses breach.Spent refl refl refl
  rescuer_comes dev submission Rests is reply any owed = absurd owed
  rescuer_comes dev submission doing is reply any owed =
      carry (λ same. ap (λ (l : Submission). Rescuer dev l) (same ∙ whole submission doing is)) (submission_comes doing submission.lists reply any owed)

  -- completers
  closed_comes : (writer : ℕ) (closed : Closed) (vector : Option VectorItem) (bio : Option (Item Pad)) (slip : Option SlipItem) (parent : Option ℕ)
      → closed.parent ≡ parent → (reply : Reply) → Owes stage (closed_request writer closed vector bio slip parent) reply
      → Comes setup (closed_request writer closed vector bio slip parent) reply (carried_breach (carried_answered (Carries writer closed) reply))
      (carried_answered (Carries writer closed) reply ≡ Carries writer closed)
  -- what the node held is given back: the vector, the bio, the record
  closed_comes writer closed (Some vector) bio slip parent is Did owed = Tells _ refl
  closed_comes writer closed (Some vector) bio slip parent is NoTicket owed = Refuses breach.Spent refl refl refl
  closed_comes writer closed (Some vector) bio slip parent is reply owed = absurd owed
  closed_comes writer closed None (Some bio) slip parent is Did owed = Tells _ refl
  closed_comes writer closed None (Some bio) slip parent is NoTicket owed = Refuses breach.Spent refl refl refl
  closed_comes writer closed None (Some bio) slip parent is reply owed = absurd owed
  closed_comes writer closed None None (Some slip) parent is Did owed = Tells _ refl
  closed_comes writer closed None None (Some slip) parent is NoTicket owed = Refuses breach.Spent refl refl refl
  closed_comes writer closed None None (Some slip) parent is reply owed = absurd owed
  -- then it is dropped at its parent, which the book may refuse
  closed_comes writer closed None None None (Some parent) is (DroppedTo end.Left) owed = Tells _ refl
  closed_comes writer closed None None None (Some parent) is (DroppedTo (end.Up above)) owed = Tells _ refl
  closed_comes writer closed None None None (Some parent) is (DroppedTo (end.Top above)) owed = Tells _ refl
  closed_comes writer closed None None None (Some parent) is (DroppedTo (end.Stray part)) owed =
      Refuses (breach.Stray writer parent) refl refl (ap (λ (p : Option ℕ). Some (breach.Stray writer (parent_or p))) is)
  closed_comes writer closed None None None (Some parent) is NoTicket owed = Refuses breach.Spent refl refl refl
  closed_comes writer closed None None None (Some parent) is reply owed = absurd owed
  -- and without a parent its write is done
  closed_comes writer closed None None None None is Did owed = Tells _ refl
  closed_comes writer closed None None None None is NoTicket owed = Refuses breach.Spent refl refl refl
  closed_comes writer closed None None None None is reply owed = absurd owed

  carried_comes : (disk : DevId) (carried : Carried) (reply : Reply) → asks_any (carried_request disk carried) ≡ true → Owes stage (carried_request disk carried) reply
      → Comes setup (carried_request disk carried) reply (carried_breach (carried_answered carried reply)) (carried_answered carried reply ≡ carried)
  -- a completion, or there is none
  carried_comes disk Empty (Completed index bio status) any owed = Tells _ refl
  carried_comes disk Empty Nothing any owed = Finds refl refl
  carried_comes disk Empty NoTicket any owed = Refuses breach.Spent refl refl refl
  carried_comes disk Empty reply any owed = absurd owed
  -- what completed is dropped at its node, which the book may refuse
  carried_comes disk (Brings bio status) (DroppedTo end.Left) any owed = Tells _ refl
  carried_comes disk (Brings bio status) (DroppedTo (end.Up closed)) any owed = Tells _ refl
  carried_comes disk (Brings bio status) (DroppedTo (end.Top closed)) any owed = Tells _ refl
  carried_comes disk (Brings bio status) (DroppedTo (end.Stray part)) any owed = Refuses _ refl refl refl
  carried_comes disk (Brings bio status) NoTicket any owed = Refuses breach.Spent refl refl refl
  carried_comes disk (Brings bio status) reply any owed = absurd owed
  -- what a closed node held
  carried_comes disk (Carries writer closed) reply any owed =
      closed_comes writer closed closed.held.vector closed.held.bio closed.held.slip closed.parent refl reply owed
  -- broken off: it asks nothing
  carried_comes disk (Fails b kept) reply any owed = absurd (true≢false (sym any))

  -- the keeper
  resize_comes : (pool : PoolId) (min later out : ℕ) (duties : List Duty) (b : Bool) → (out == 0) ≡ b
      → Comes setup (Resize pool min) (OutIs out) (keeping_breach (after_resize (out == 0) pool out duties))
      (after_resize (out == 0) pool out duties ≡ Keeps (Resizes pool min later ∷ duties))
  resize_comes pool min later out duties true e = Tells (what.Resize pool min) (ap (λ (b : Bool). resize_of b pool min) e)
  resize_comes pool min later out duties false e =
      Refuses (breach.Out pool out) (ap (λ (b : Bool). resize_of b pool min) e) refl (ap (λ (b : Bool). keeping_breach (after_resize b pool out duties)) e)

  keeper_comes : (keeping : Keeping) (reply : Reply) → asks_any (keeper_request keeping) ≡ true → Owes stage (keeper_request keeping) reply
      → Comes setup (keeper_request keeping) reply (keeping_breach (keeper_answered keeping reply)) (keeper_answered keeping reply ≡ keeping)
  keeper_comes (Keeps []) reply any owed = absurd (true≢false (sym any))
  keeper_comes (Keeps (Resizes pool min later ∷ duties)) (OutIs out) any owed = resize_comes pool min later out duties (out == 0) refl
  keeper_comes (Keeps (Resizes pool min later ∷ duties)) NoTicket any owed = Refuses breach.Spent refl refl refl
  keeper_comes (Keeps (Resizes pool min later ∷ duties)) reply any owed = absurd owed
  keeper_comes (Keeps (Starts round later ∷ duties)) Did any owed = Tells _ refl
  keeper_comes (Keeps (Starts round later ∷ duties)) NoTicket any owed = Refuses breach.Spent refl refl refl
  keeper_comes (Keeps (Starts round later ∷ duties)) reply any owed = absurd owed
  keeper_comes (Stops b) reply any owed = absurd (true≢false (sym any))

  task_comes : (task : TaskState) (reply : Reply) → asks_any (request setup task) ≡ true → Owes stage (request setup task) reply
      → Comes setup (request setup task) reply (breach_of (answered setup task reply)) (answered setup task reply ≡ task)
  task_comes (Writer number todos taken submission) reply any owed = writer_comes number todos taken submission submission.doing refl reply any owed
  task_comes (Rescuer dev submission) reply any owed = rescuer_comes dev submission submission.doing refl reply any owed
  task_comes (Completer disk carried) reply any owed = carry (λ same. ap (λ (k : Carried). Completer disk k) same) (carried_comes disk carried reply any owed)
  task_comes (Keeper keeping) reply any owed = carry (λ same. ap (λ (k : Keeping). Keeper k) same) (keeper_comes keeping reply any owed)

any_of : (asked : Request) → asked ≢ Rest → asks_any asked ≡ true
any_of Rest other = absurd (other refl)
any_of asked other = refl

-- nothing is told of what found nothing, and it is no refusal
nothing_told : (asked : Request) (told : What) → what_of asked Nothing ≡ Some told → ⊥
nothing_told (TakeBio set waits) told e = cc
nothing_told asked told e = cc

nothing_refused : (setup : Setup) (asked : Request) (b : Breach) → silent_step setup asked Nothing ≡ Broken b → ⊥
nothing_refused setup (TakeBio set waits) b e = cc
nothing_refused setup asked b e = cc

nothing_same : (setup : Setup) (asked : Request) (reply : Reply) (why : Option Breach) (Same : Type 0) → reply ≡ Nothing → Comes setup asked reply why Same → Same
nothing_same setup asked reply why Same none (Tells told e) = absurd (nothing_told asked told (ap (what_of asked) (sym none) ∙ e))
nothing_same setup asked reply why Same none (Misses pool missed taken untold silent same) = same
nothing_same setup asked reply why Same none (Refuses b untold silent is) = absurd (nothing_refused setup asked b (ap (silent_step setup asked) (sym none) ∙ silent))
nothing_same setup asked reply why Same none (Finds found same) = same

module _ {S : Type 0} (serves : Service S) (stage : Stage) (setup : Setup) (task : TaskState) (old : S) where
  abbrev Was : TaskState → S → Step → Type 0
  Was next new step = TurnWas serves setup task old next new step

  -- a reply that no look followed
  found_was : (next : TaskState) (now new : S) (step : Step) (reply : Reply) → MayAsk serves task old now → serves now (request setup task) reply new
      → next ≡ answered setup task reply → reply ≢ Nothing → step ≡ step_of setup (id_of task) (request setup task) reply
      → Comes setup (request setup task) reply (breach_of (answered setup task reply)) (answered setup task reply ≡ task) → Was next new step
  found_was next now new step reply may replied goes_on found tells (Tells told e) =
      subst (λ (s : Step). Was next new s)
      (sym (tells ∙ ap (λ (w : Option What). step_by (id_of task) w (silent_step setup (request setup task) reply)) e))
      (reply, (now, may, replied), e, refl, goes_on)
  found_was next now new step reply may replied goes_on found tells (Misses pool missed taken untold silent same) =
      subst (λ (s : Step). Was next new s)
      (sym (tells ∙ ap (λ (w : Option What). step_by (id_of task) w (silent_step setup (request setup task) reply)) untold ∙ silent))
      (goes_on ∙ same, taken, (now, may, subst (λ (r : Reply). serves now (request setup task) r new) missed replied))
  found_was next now new step reply may replied goes_on found tells (Refuses b untold silent is) =
      subst (λ (s : Step). Was next new s)
      (sym (tells ∙ ap (λ (w : Option What). step_by (id_of task) w (silent_step setup (request setup task) reply)) untold ∙ silent))
      (ap breach_of goes_on ∙ is, inr (reply, (now, may, replied), untold, silent, goes_on))
  found_was next now new step reply may replied goes_on found tells (Finds none same) = absurd (found none)

  -- one that was nothing
  idle_was : (next : TaskState) (new : S) (step : Step) (left : ℕ) (b : Bool) → (left == 0) ≡ b → next ≡ task → HasNothing serves setup task old left new
      → step ≡ idle_step left → Was next new step
  idle_was next new step left true e same nothing tells =
      subst (λ (s : Step). Was next new s) (sym (tells ∙ ap (λ (b : Bool). if b then Ended else Waiting) e))
      (same, inr (subst (λ (n : ℕ). HasNothing serves setup task old n new) (eqb-true left 0 e) nothing))
  idle_was next new step left false e same nothing tells =
      subst (λ (s : Step). Was next new s) (sym (tells ∙ ap (λ (b : Bool). if b then Ended else Waiting) e))
      (same, inr (left, (λ zero. true≢false (sym (ap (λ (n : ℕ). n == 0) zero) ∙ e)), nothing))

  asks_was : (next : TaskState) (now new : S) (step : Step) → MayAsk serves task old now → Asks serves (Owes stage) setup task now next new step → Was next new step
  asks_was next now new step may asks = by_case asks.follows
    where
      any : asks_any (request setup task) ≡ true
      any = any_of (request setup task) asks.any

      comes : Comes setup (request setup task) asks.reply (breach_of (answered setup task asks.reply)) (answered setup task asks.reply ≡ task)
      comes = task_comes stage setup task asks.reply any asks.owed

      by_case : ((asks.reply ≢ Nothing) × (new ≡ asks.middle) × (step ≡ step_of setup (id_of task) (request setup task) asks.reply))
          ⊎ ((asks.reply ≡ Nothing) × ((left : ℕ) × serves asks.middle LookLeft (LeftOver left) new × (step ≡ idle_step left))) → Was next new step
      by_case (inl found) =
          found_was next now new step asks.reply may (subst (λ (s : S). serves now (request setup task) asks.reply s) (sym found.1) asks.replied) asks.goes_on found.0
          found.2 comes
      by_case (inr none) =
          idle_was next new step none.1.0 (none.1.0 == 0) refl
          (asks.goes_on ∙ nothing_same setup (request setup task) asks.reply (breach_of (answered setup task asks.reply)) (answered setup task asks.reply ≡ task) none.0 comes)
          (asks.middle, (now, may, subst (λ (r : Reply). serves now (request setup task) r asks.middle) none.0 asks.replied), none.1.1)
          none.1.2

  resting_was : (next : TaskState) (new : S) (step : Step) (b : Option Breach) → breach_of task ≡ b → request setup task ≡ Rest → next ≡ task → new ≡ old
      → step ≡ resting_step (breach_of task) → Was next new step
  resting_was next new step None is rest same still tells =
      subst (λ (s : Step). Was next new s) (sym (tells ∙ ap resting_step is)) (same, inl (rest, is, still))
  resting_was next new step (Some b) is rest same still tells =
      subst (λ (s : Step). Was next new s) (sym (tells ∙ ap resting_step is)) (ap breach_of same ∙ is, inl (rest, same, still))

  turn_was : (next : TaskState) (new : S) (step : Step) → Turns serves (Owes stage) setup task old next new step → Was next new step
  turn_was next new step (Rested rest same still tells) = resting_was next new step (breach_of task) refl rest same still tells
  turn_was next new step (Waited look seen is served lets_not same tells) =
      subst (λ (s : Step). Was next new s) (sym tells) (same, inl (look, seen, is, served, lets_not))
  turn_was next new step (Asked none asks) = asks_was next old new step (inl (none, refl)) asks
  turn_was next new step (Saw look seen between is served lets_it asks) = asks_was next between new step (inr (look, seen, is, served, lets_it)) asks

-- so an answer tells what the turn was
pub answers_tell_turns : {S : Type 0} (words : Ghosts S) → AnswersTellTurns words
answers_tell_turns words setup task next old new step does = turn_was words.serves (words.stage old) setup task old next new step does.came
