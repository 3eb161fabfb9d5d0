-- A task whose call was a glance is as it was.
use Rattle.std.proofs.Common.{◌≡◌, ℕ, ◌==◌, ◌||◌, Bool, true, false, not, List, [], ◌∷◌, Option, None, Some, refl, sym, ◌∙◌, ap}
use Rattle.std.specs.Option.{is_some}
use Rattle.stack_base.specs.declared.ids.DevId.{DevId}
use Rattle.stack_base.specs.declared.ids.PoolId.{PoolId}
use Rattle.bio_records.specs.declared.bio.Pad.{Pad}
use Rattle.bio_records.specs.Items.{Item}
use Rattle.bio_books.specs.Books.{VectorItem, SlipItem}
use Rattle.bio_books.specs.Drops.{Closed}
use Rattle.bio_books.specs.Drops as end
use Rattle.bio_books.specs.Links.{Made, NoRoom, Stray}
use Rattle.run_machine.specs.Events.{what_of, resize_of}
use Rattle.run_machine.specs.Submissions.{Doing, Rests, Drives, Copies, Breaks, Driving, ToPush, ToCut, ToRecord, ToMaster, Want, Takes, WantsPunt, Links, Submission, submission_request, submission_answered}
use Rattle.run_machine.specs.Requests.{Request, Reply, GiveBio, GiveVec, GiveSlip, NextRound, HadBio, HadVec, HadSlip, Missed, Did, Popped, Completed, LinkedTo, DroppedTo, OutIs, Nothing, NoTicket}
use Rattle.run_machine.specs.Scene.{Setup}
use Rattle.run_machine.specs.Tasks.{Todo, Gathered, NoBio, HasBio, HasBoth, Carried, Empty, Brings, Carries, Fails, Duty, Resizes, Starts, Keeping, Keeps, Stops, TaskState, Writer, Rescuer, Completer, Keeper, needs_vector, with_bio, write_request, writer_request, rescuer_request, closed_request, carried_request, keeper_request, request, write_answered, writer_answered, rescuer_answered, carried_answered, after_resize, keeper_answered, answered}
use Rattle.task_steps.specs.Stage.{Stage, Owes}
use Rattle.shared_objects.specs.Calls.{struck}
use Rattle.shared_objects.specs.Logs.{is_event, is_stop, is_glance}

-- what is struck out of a request makes it no other kind of call
pub event_struck : (asked : Request) (reply : Reply) → is_event (struck asked) reply ≡ is_event asked reply
-- gives: the body is struck out
event_struck (GiveBio bio) Did = refl
event_struck (GiveBio bio) reply = refl
event_struck (GiveVec vector) Did = refl
event_struck (GiveVec vector) reply = refl
event_struck (GiveSlip slip) Did = refl
event_struck (GiveSlip slip) reply = refl
-- rounds: the number is struck out
event_struck (NextRound round) Did = refl
event_struck (NextRound round) reply = refl
-- from all others nothing is struck out
event_struck asked reply = refl

pub stop_struck : (asked : Request) (reply : Reply) → is_stop (struck asked) reply ≡ is_stop asked reply
stop_struck (GiveBio bio) reply = refl
stop_struck (GiveVec vector) reply = refl
stop_struck (GiveSlip slip) reply = refl
stop_struck (NextRound round) reply = refl
stop_struck asked reply = refl

pub glance_struck : (asked : Request) (reply : Reply) → is_glance (struck asked) reply ≡ is_glance asked reply
glance_struck asked reply =
    ap (λ b. not (b || is_stop (struck asked) reply)) (event_struck asked reply) ∙ ap (λ b. not (is_event asked reply || b)) (stop_struck asked reply)

-- a glance is no event, and stops no task
pub glance_kinds : (event stop : Bool) → not (event || stop) ≡ true → (event ≡ false) × (stop ≡ false)
glance_kinds true stop is = absurd (cc is)
glance_kinds false true is = absurd (cc is)
glance_kinds false false is = (refl, refl)

submission_stays : (stage : Stage) (setup : Setup) (doing : Doing) (submission : Submission) (reply : Reply) → is_glance (submission_request setup doing submission.lists) reply ≡ true
    → Owes stage (submission_request setup doing submission.lists) reply → submission_answered setup doing submission.lists reply ≡ record { doing = doing; lists = submission.lists }
-- no submission, or one that broke off: it asks for nothing
submission_stays stage setup Rests submission NoTicket is owed = absurd (cc is)
submission_stays stage setup Rests submission reply is owed = absurd owed
submission_stays stage setup (Breaks breach kept) submission NoTicket is owed = absurd (cc is)
submission_stays stage setup (Breaks breach kept) submission reply is owed = absurd owed
-- pushes: none is a glance
submission_stays stage setup (Drives bio ToPush) submission NoTicket is owed = absurd (cc is)
submission_stays stage setup (Drives bio ToPush) submission Did is owed = absurd (cc is)
submission_stays stage setup (Drives bio ToPush) submission reply is owed = absurd owed
-- takes of a second half: a miss is a glance where the take waits and no entry of the script was used up
submission_stays stage setup (Drives bio (ToCut (Takes true))) submission NoTicket is owed = absurd (cc is)
submission_stays stage setup (Drives bio (ToCut (Takes true))) submission (HadBio got hand) is owed = absurd (cc is)
submission_stays stage setup (Drives bio (ToCut (Takes true))) submission (Missed true) is owed = absurd (cc is)
submission_stays stage setup (Drives bio (ToCut (Takes true))) submission (Missed false) is owed = refl
submission_stays stage setup (Drives bio (ToCut (Takes true))) submission reply is owed = absurd owed
submission_stays stage setup (Drives bio (ToCut (Takes false))) submission NoTicket is owed = absurd (cc is)
submission_stays stage setup (Drives bio (ToCut (Takes false))) submission (HadBio got hand) is owed = absurd (cc is)
submission_stays stage setup (Drives bio (ToCut (Takes false))) submission (Missed used) is owed = absurd (cc is)
submission_stays stage setup (Drives bio (ToCut (Takes false))) submission reply is owed = absurd owed
-- punts: none is a glance
submission_stays stage setup (Drives bio (ToCut WantsPunt)) submission NoTicket is owed = absurd (cc is)
submission_stays stage setup (Drives bio (ToCut WantsPunt)) submission Did is owed = absurd (cc is)
submission_stays stage setup (Drives bio (ToCut WantsPunt)) submission reply is owed = absurd owed
-- takes of a record: a miss is a glance
submission_stays stage setup (Drives bio ToRecord) submission NoTicket is owed = absurd (cc is)
submission_stays stage setup (Drives bio ToRecord) submission (HadSlip got slip) is owed = absurd (cc is)
submission_stays stage setup (Drives bio ToRecord) submission (Missed used) is owed = refl
submission_stays stage setup (Drives bio ToRecord) submission reply is owed = absurd owed
-- takes of a copy for a leg: as those of a second half
submission_stays stage setup (Copies bio master leg (Takes true)) submission NoTicket is owed = absurd (cc is)
submission_stays stage setup (Copies bio master leg (Takes true)) submission (HadBio got hand) is owed = absurd (cc is)
submission_stays stage setup (Copies bio master leg (Takes true)) submission (Missed true) is owed = absurd (cc is)
submission_stays stage setup (Copies bio master leg (Takes true)) submission (Missed false) is owed = refl
submission_stays stage setup (Copies bio master leg (Takes true)) submission reply is owed = absurd owed
submission_stays stage setup (Copies bio master leg (Takes false)) submission NoTicket is owed = absurd (cc is)
submission_stays stage setup (Copies bio master leg (Takes false)) submission (HadBio got hand) is owed = absurd (cc is)
submission_stays stage setup (Copies bio master leg (Takes false)) submission (Missed used) is owed = absurd (cc is)
submission_stays stage setup (Copies bio master leg (Takes false)) submission reply is owed = absurd owed
-- punts before a copy: none is a glance
submission_stays stage setup (Copies bio master leg WantsPunt) submission NoTicket is owed = absurd (cc is)
submission_stays stage setup (Copies bio master leg WantsPunt) submission Did is owed = absurd (cc is)
submission_stays stage setup (Copies bio master leg WantsPunt) submission reply is owed = absurd owed
-- links of pieces, masters and legs: none is a glance
submission_stays stage setup (Drives bio (ToCut (Links hand))) submission NoTicket is owed = absurd (cc is)
submission_stays stage setup (Drives bio (ToCut (Links hand))) submission (LinkedTo (Made node)) is owed = absurd (cc is)
submission_stays stage setup (Drives bio (ToCut (Links hand))) submission (LinkedTo (NoRoom back)) is owed = absurd (cc is)
submission_stays stage setup (Drives bio (ToCut (Links hand))) submission (LinkedTo (Stray back)) is owed = absurd (cc is)
submission_stays stage setup (Drives bio (ToCut (Links hand))) submission reply is owed = absurd owed
submission_stays stage setup (Drives bio (ToMaster slip)) submission NoTicket is owed = absurd (cc is)
submission_stays stage setup (Drives bio (ToMaster slip)) submission (LinkedTo (Made node)) is owed = absurd (cc is)
submission_stays stage setup (Drives bio (ToMaster slip)) submission (LinkedTo (NoRoom back)) is owed = absurd (cc is)
submission_stays stage setup (Drives bio (ToMaster slip)) submission (LinkedTo (Stray back)) is owed = absurd (cc is)
submission_stays stage setup (Drives bio (ToMaster slip)) submission reply is owed = absurd owed
submission_stays stage setup (Copies bio master leg (Links hand)) submission NoTicket is owed = absurd (cc is)
submission_stays stage setup (Copies bio master leg (Links hand)) submission (LinkedTo (Made node)) is owed = absurd (cc is)
submission_stays stage setup (Copies bio master leg (Links hand)) submission (LinkedTo (NoRoom back)) is owed = absurd (cc is)
submission_stays stage setup (Copies bio master leg (Links hand)) submission (LinkedTo (Stray back)) is owed = absurd (cc is)
submission_stays stage setup (Copies bio master leg (Links hand)) submission reply is owed = absurd owed

with_stays : (stage : Stage) (setup : Setup) (writer : ℕ) (needs : Bool) (todo : Todo) (later : List Todo) (bio : Item Pad) (submission : Submission) (reply : Reply)
    → is_glance (with_bio writer needs todo) reply ≡ true → Owes stage (with_bio writer needs todo) reply
    → write_answered setup writer (todo ∷ later) (HasBio bio) submission reply ≡ Writer writer (todo ∷ later) (HasBio bio) submission
-- a write with data takes a vector: a miss is a glance
with_stays stage setup writer true todo later bio submission NoTicket is owed = absurd (cc is)
with_stays stage setup writer true todo later bio submission (HadVec got vector) is owed = absurd (cc is)
with_stays stage setup writer true todo later bio submission (Missed true) is owed = absurd (cc is)
with_stays stage setup writer true todo later bio submission (Missed false) is owed = refl
with_stays stage setup writer true todo later bio submission reply is owed = absurd owed
-- one without data is linked: that is no glance
with_stays stage setup writer false todo later bio submission NoTicket is owed = absurd (cc is)
with_stays stage setup writer false todo later bio submission (LinkedTo (Made node)) is owed = absurd (cc is)
with_stays stage setup writer false todo later bio submission (LinkedTo (NoRoom back)) is owed = absurd (cc is)
with_stays stage setup writer false todo later bio submission (LinkedTo (Stray back)) is owed = absurd (cc is)
with_stays stage setup writer false todo later bio submission reply is owed = absurd owed

write_stays : (stage : Stage) (setup : Setup) (writer : ℕ) (todo : List Todo) (taken : Gathered) (submission : Submission) (reply : Reply)
    → is_glance (write_request writer todo taken) reply ≡ true → Owes stage (write_request writer todo taken) reply
    → write_answered setup writer todo taken submission reply ≡ Writer writer todo taken submission
-- no write is left: nothing is asked
write_stays stage setup writer [] taken submission NoTicket is owed = absurd (cc is)
write_stays stage setup writer [] taken submission reply is owed = absurd owed
-- the first bio of a write: a miss is a glance
write_stays stage setup writer (todo ∷ later) NoBio submission NoTicket is owed = absurd (cc is)
write_stays stage setup writer (todo ∷ later) NoBio submission (HadBio got bio) is owed = absurd (cc is)
write_stays stage setup writer (todo ∷ later) NoBio submission (Missed true) is owed = absurd (cc is)
write_stays stage setup writer (todo ∷ later) NoBio submission (Missed false) is owed = refl
write_stays stage setup writer (todo ∷ later) NoBio submission reply is owed = absurd owed
-- a bio, and maybe no vector
write_stays stage setup writer (todo ∷ later) (HasBio bio) submission reply is owed = with_stays stage setup writer (needs_vector todo.write) todo later bio submission reply is owed
-- links of a write with data: none is a glance
write_stays stage setup writer (todo ∷ later) (HasBoth bio vector) submission NoTicket is owed = absurd (cc is)
write_stays stage setup writer (todo ∷ later) (HasBoth bio vector) submission (LinkedTo (Made node)) is owed = absurd (cc is)
write_stays stage setup writer (todo ∷ later) (HasBoth bio vector) submission (LinkedTo (NoRoom back)) is owed = absurd (cc is)
write_stays stage setup writer (todo ∷ later) (HasBoth bio vector) submission (LinkedTo (Stray back)) is owed = absurd (cc is)
write_stays stage setup writer (todo ∷ later) (HasBoth bio vector) submission reply is owed = absurd owed

writer_stays : (stage : Stage) (setup : Setup) (writer : ℕ) (todo : List Todo) (taken : Gathered) (doing : Doing) (submission : Submission) (reply : Reply) → submission.doing ≡ doing
    → is_glance (writer_request setup writer todo taken doing submission) reply ≡ true → Owes stage (writer_request setup writer todo taken doing submission) reply
    → writer_answered setup writer todo taken doing submission reply ≡ Writer writer todo taken submission
writer_stays stage setup writer todo taken Rests submission reply e is owed = write_stays stage setup writer todo taken submission reply is owed
writer_stays stage setup writer todo taken doing submission reply e is owed =
    ap (Writer writer todo taken) (submission_stays stage setup doing submission reply is owed ∙ ap (λ d. record { doing = d; lists = submission.lists }) (sym e))

rescuer_stays : (stage : Stage) (setup : Setup) (dev : DevId) (doing : Doing) (submission : Submission) (reply : Reply) → submission.doing ≡ doing
    → is_glance (rescuer_request setup dev doing submission) reply ≡ true → Owes stage (rescuer_request setup dev doing submission) reply
    → rescuer_answered setup dev doing submission reply ≡ Rescuer dev submission
rescuer_stays stage setup dev Rests submission NoTicket e is owed = absurd (cc is)
rescuer_stays stage setup dev Rests submission (Popped bio) e is owed = absurd (cc is)
rescuer_stays stage setup dev Rests submission Nothing e is owed = refl
rescuer_stays stage setup dev Rests submission reply e is owed = absurd owed
rescuer_stays stage setup dev doing submission reply e is owed =
    ap (Rescuer dev) (submission_stays stage setup doing submission reply is owed ∙ ap (λ d. record { doing = d; lists = submission.lists }) (sym e))

closed_stays : (stage : Stage) (writer : ℕ) (closed : Closed) (vector : Option VectorItem) (bio : Option (Item Pad)) (slip : Option SlipItem) (parent : Option ℕ) (reply : Reply)
    → is_glance (closed_request writer closed vector bio slip parent) reply ≡ true → Owes stage (closed_request writer closed vector bio slip parent) reply → ⊥
-- gives of a vector, a bio and a record: none is a glance
closed_stays stage writer closed (Some vector) bio slip parent NoTicket is owed = absurd (cc is)
closed_stays stage writer closed (Some vector) bio slip parent Did is owed = absurd (cc is)
closed_stays stage writer closed (Some vector) bio slip parent reply is owed = absurd owed
closed_stays stage writer closed None (Some bio) slip parent NoTicket is owed = absurd (cc is)
closed_stays stage writer closed None (Some bio) slip parent Did is owed = absurd (cc is)
closed_stays stage writer closed None (Some bio) slip parent reply is owed = absurd owed
closed_stays stage writer closed None None (Some slip) parent NoTicket is owed = absurd (cc is)
closed_stays stage writer closed None None (Some slip) parent Did is owed = absurd (cc is)
closed_stays stage writer closed None None (Some slip) parent reply is owed = absurd owed
-- drops at the parent: none is a glance
closed_stays stage writer closed None None None (Some parent) NoTicket is owed = absurd (cc is)
closed_stays stage writer closed None None None (Some parent) (DroppedTo end.Left) is owed = absurd (cc is)
closed_stays stage writer closed None None None (Some parent) (DroppedTo (end.Up up)) is owed = absurd (cc is)
closed_stays stage writer closed None None None (Some parent) (DroppedTo (end.Top up)) is owed = absurd (cc is)
closed_stays stage writer closed None None None (Some parent) (DroppedTo (end.Stray part)) is owed = absurd (cc is)
closed_stays stage writer closed None None None (Some parent) reply is owed = absurd owed
-- ends of writes: none is a glance
closed_stays stage writer closed None None None None NoTicket is owed = absurd (cc is)
closed_stays stage writer closed None None None None Did is owed = absurd (cc is)
closed_stays stage writer closed None None None None reply is owed = absurd owed

carried_stays : (stage : Stage) (disk : DevId) (carried : Carried) (reply : Reply) → is_glance (carried_request disk carried) reply ≡ true
    → Owes stage (carried_request disk carried) reply → carried_answered carried reply ≡ carried
-- completions: one that finds nothing is a glance
carried_stays stage disk Empty NoTicket is owed = absurd (cc is)
carried_stays stage disk Empty (Completed index bio status) is owed = absurd (cc is)
carried_stays stage disk Empty Nothing is owed = refl
carried_stays stage disk Empty reply is owed = absurd owed
-- drops of what was completed: none is a glance
carried_stays stage disk (Brings bio status) NoTicket is owed = absurd (cc is)
carried_stays stage disk (Brings bio status) (DroppedTo end.Left) is owed = absurd (cc is)
carried_stays stage disk (Brings bio status) (DroppedTo (end.Up up)) is owed = absurd (cc is)
carried_stays stage disk (Brings bio status) (DroppedTo (end.Top up)) is owed = absurd (cc is)
carried_stays stage disk (Brings bio status) (DroppedTo (end.Stray part)) is owed = absurd (cc is)
carried_stays stage disk (Brings bio status) reply is owed = absurd owed
-- what a closed node held goes home
carried_stays stage disk (Carries writer closed) reply is owed =
    absurd (closed_stays stage writer closed closed.held.vector closed.held.bio closed.held.slip closed.parent reply is owed)
-- one that broke off asks for nothing
carried_stays stage disk (Fails breach kept) NoTicket is owed = absurd (cc is)
carried_stays stage disk (Fails breach kept) reply is owed = absurd owed

resize_tells : (home : Bool) (pool : PoolId) (min : ℕ) → not (is_some (resize_of home pool min) || (not home || false)) ≡ true → ⊥
resize_tells true pool min is = absurd (cc is)
resize_tells false pool min is = absurd (cc is)

keeper_stays : (stage : Stage) (keeping : Keeping) (reply : Reply) → is_glance (keeper_request keeping) reply ≡ true
    → Owes stage (keeper_request keeping) reply → keeper_answered keeping reply ≡ keeping
-- no duty is left: nothing is asked
keeper_stays stage (Keeps []) NoTicket is owed = absurd (cc is)
keeper_stays stage (Keeps []) reply is owed = absurd owed
-- resizes: none is a glance
keeper_stays stage (Keeps (Resizes pool min later ∷ duties)) NoTicket is owed = absurd (cc is)
keeper_stays stage (Keeps (Resizes pool min later ∷ duties)) (OutIs out) is owed = absurd (resize_tells (out == 0) pool min is)
keeper_stays stage (Keeps (Resizes pool min later ∷ duties)) reply is owed = absurd owed
-- starts of rounds: none is a glance
keeper_stays stage (Keeps (Starts round later ∷ duties)) NoTicket is owed = absurd (cc is)
keeper_stays stage (Keeps (Starts round later ∷ duties)) Did is owed = absurd (cc is)
keeper_stays stage (Keeps (Starts round later ∷ duties)) reply is owed = absurd owed
-- one that broke off asks for nothing
keeper_stays stage (Stops breach) NoTicket is owed = absurd (cc is)
keeper_stays stage (Stops breach) reply is owed = absurd owed

pub glance_stays : (stage : Stage) (setup : Setup) (task : TaskState) (reply : Reply) → is_glance (request setup task) reply ≡ true
    → Owes stage (request setup task) reply → answered setup task reply ≡ task
glance_stays stage setup (Writer number todo taken submission) reply is owed = writer_stays stage setup number todo taken submission.doing submission reply refl is owed
glance_stays stage setup (Rescuer dev submission) reply is owed = rescuer_stays stage setup dev submission.doing submission reply refl is owed
glance_stays stage setup (Completer disk carried) reply is owed = ap (Completer disk) (carried_stays stage disk carried reply is owed)
glance_stays stage setup (Keeper keeping) reply is owed = ap Keeper (keeper_stays stage keeping reply is owed)
