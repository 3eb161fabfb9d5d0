-- A task that was refused, or found no ticket, asks for nothing more.
use Rattle.std.proofs.Common.{◌≡◌, ℕ, ◌==◌, ◌||◌, Bool, true, false, not, List, [], ◌∷◌, Option, None, Some, refl}
use Rattle.std.specs.Option.{is_some}
use Rattle.stack_base.specs.declared.ids.DevId.{DevId}
use Rattle.stack_base.specs.declared.ids.PoolId.{PoolId}
use Rattle.bio_records.specs.declared.bio.Pad.{Pad}
use Rattle.bio_records.specs.declared.tasks.TaskLists.{TaskLists}
use Rattle.bio_records.specs.Items.{Item}
use Rattle.bio_books.specs.Books.{VectorItem, SlipItem}
use Rattle.bio_books.specs.Drops.{Closed}
use Rattle.bio_books.specs.Drops as end
use Rattle.bio_books.specs.Links.{Made, NoRoom, Stray}
use Rattle.run_machine.specs.Kept.{Kept}
use Rattle.run_machine.specs.Submissions.{Doing, Rests, Drives, Copies, Breaks, Driving, ToPush, ToCut, ToRecord, ToMaster, Want, Takes, WantsPunt, Links, Submission, spent, at_hand, punts_of, submission_request, submission_answered, doing_breach}
use Rattle.run_machine.specs.Requests.{Request, Reply, Rest, LinkedTo, DroppedTo, OutIs, NoTicket}
use Rattle.run_machine.specs.Scene.{Setup}
use Rattle.run_machine.specs.Tasks.{Todo, Gathered, NoBio, HasBio, HasBoth, Carried, Empty, Brings, Carries, Fails, Duty, Resizes, Starts, Keeping, Keeps, Stops, TaskState, Writer, Rescuer, Completer, Keeper, needs_vector, with_bio, write_request, writer_request, rescuer_request, closed_request, carried_request, keeper_request, request, write_answered, writer_answered, rescuer_answered, carried_answered, after_resize, keeper_answered, answered, is_broken, carried_breach, keeping_breach}
use Rattle.shared_objects.specs.Logs.{is_stop}

-- a task that broke off asks for nothing more
pub broken_rests : (setup : Setup) (task : TaskState) → is_broken task ≡ true → request setup task ≡ Rest
-- writers: their submission broke off
broken_rests setup (Writer number todo taken submission) is = by_doing submission.doing is
  where
    by_doing : (doing : Doing) → is_some (doing_breach doing) ≡ true → request setup (Writer number todo taken (record submission { doing = doing })) ≡ Rest
    by_doing Rests is = absurd (cc is)
    by_doing (Drives bio ask) is = absurd (cc is)
    by_doing (Copies bio master leg want) is = absurd (cc is)
    by_doing (Breaks breach kept) is = refl
-- rescuers: so did theirs
broken_rests setup (Rescuer dev submission) is = by_doing submission.doing is
  where
    by_doing : (doing : Doing) → is_some (doing_breach doing) ≡ true → request setup (Rescuer dev (record submission { doing = doing })) ≡ Rest
    by_doing Rests is = absurd (cc is)
    by_doing (Drives bio ask) is = absurd (cc is)
    by_doing (Copies bio master leg want) is = absurd (cc is)
    by_doing (Breaks breach kept) is = refl
-- completers: what was carried failed
broken_rests setup (Completer disk (Fails breach kept)) is = refl
broken_rests setup (Completer disk carried) is = absurd (cc is)
-- keepers: they stopped
broken_rests setup (Keeper (Stops breach)) is = refl
broken_rests setup (Keeper keeping) is = absurd (cc is)

spent_breaks : (kept : List Kept) (lists : TaskLists) (dev : Option DevId) → is_some (doing_breach (spent kept lists dev).doing) ≡ true
spent_breaks kept lists None = refl
spent_breaks kept lists (Some dev) = refl

submission_breaks : (setup : Setup) (doing : Doing) (lists : TaskLists) (reply : Reply) → is_stop (submission_request setup doing lists) reply ≡ true
    → is_some (doing_breach (submission_answered setup doing lists reply).doing) ≡ true
-- no ticket: what is at hand is kept
submission_breaks setup doing lists NoTicket is = spent_breaks (at_hand doing) lists (punts_of doing)
-- links: one that was refused breaks the submission off, and one that was made stops nothing
submission_breaks setup (Drives bio (ToCut (Links hand))) lists (LinkedTo (Made node)) is = absurd (cc is)
submission_breaks setup (Drives bio (ToCut (Links hand))) lists (LinkedTo (NoRoom back)) is = refl
submission_breaks setup (Drives bio (ToCut (Links hand))) lists (LinkedTo (Stray back)) is = refl
submission_breaks setup (Drives bio (ToMaster slip)) lists (LinkedTo (Made node)) is = absurd (cc is)
submission_breaks setup (Drives bio (ToMaster slip)) lists (LinkedTo (NoRoom back)) is = refl
submission_breaks setup (Drives bio (ToMaster slip)) lists (LinkedTo (Stray back)) is = refl
submission_breaks setup (Copies bio master leg (Links hand)) lists (LinkedTo (Made node)) is = absurd (cc is)
submission_breaks setup (Copies bio master leg (Links hand)) lists (LinkedTo (NoRoom back)) is = refl
submission_breaks setup (Copies bio master leg (Links hand)) lists (LinkedTo (Stray back)) is = refl
-- no other reply stops a submission
submission_breaks setup Rests lists reply is = absurd (cc is)
submission_breaks setup (Drives bio ToPush) lists reply is = absurd (cc is)
submission_breaks setup (Drives bio (ToCut (Takes waits))) lists reply is = absurd (cc is)
submission_breaks setup (Drives bio (ToCut WantsPunt)) lists reply is = absurd (cc is)
submission_breaks setup (Drives bio (ToCut (Links hand))) lists reply is = absurd (cc is)
submission_breaks setup (Drives bio ToRecord) lists reply is = absurd (cc is)
submission_breaks setup (Drives bio (ToMaster slip)) lists reply is = absurd (cc is)
submission_breaks setup (Copies bio master leg (Takes waits)) lists reply is = absurd (cc is)
submission_breaks setup (Copies bio master leg WantsPunt) lists reply is = absurd (cc is)
submission_breaks setup (Copies bio master leg (Links hand)) lists reply is = absurd (cc is)
submission_breaks setup (Breaks breach kept) lists reply is = absurd (cc is)

with_breaks : (setup : Setup) (writer : ℕ) (needs : Bool) (todo : Todo) (later : List Todo) (bio : Item Pad) (submission : Submission) (reply : Reply)
    → is_stop (with_bio writer needs todo) reply ≡ true → is_broken (write_answered setup writer (todo ∷ later) (HasBio bio) submission reply) ≡ true
-- no ticket
with_breaks setup writer needs todo later bio submission NoTicket is = refl
-- links of a write without data
with_breaks setup writer false todo later bio submission (LinkedTo (Made node)) is = absurd (cc is)
with_breaks setup writer false todo later bio submission (LinkedTo (NoRoom back)) is = refl
with_breaks setup writer false todo later bio submission (LinkedTo (Stray back)) is = refl
-- no other reply stops it
with_breaks setup writer true todo later bio submission reply is = absurd (cc is)
with_breaks setup writer false todo later bio submission reply is = absurd (cc is)

write_breaks : (setup : Setup) (writer : ℕ) (todo : List Todo) (taken : Gathered) (submission : Submission) (reply : Reply) → is_stop (write_request writer todo taken) reply ≡ true
    → is_broken (write_answered setup writer todo taken submission reply) ≡ true
-- no ticket
write_breaks setup writer todo taken submission NoTicket is = refl
-- a bio, and maybe no vector
write_breaks setup writer (todo ∷ later) (HasBio bio) submission reply is = with_breaks setup writer (needs_vector todo.write) todo later bio submission reply is
-- links of a write with data
write_breaks setup writer (todo ∷ later) (HasBoth bio vector) submission (LinkedTo (Made node)) is = absurd (cc is)
write_breaks setup writer (todo ∷ later) (HasBoth bio vector) submission (LinkedTo (NoRoom back)) is = refl
write_breaks setup writer (todo ∷ later) (HasBoth bio vector) submission (LinkedTo (Stray back)) is = refl
-- no other reply stops it
write_breaks setup writer [] taken submission reply is = absurd (cc is)
write_breaks setup writer (todo ∷ later) NoBio submission reply is = absurd (cc is)
write_breaks setup writer (todo ∷ later) (HasBoth bio vector) submission reply is = absurd (cc is)

writer_breaks : (setup : Setup) (writer : ℕ) (todo : List Todo) (taken : Gathered) (doing : Doing) (submission : Submission) (reply : Reply)
    → is_stop (writer_request setup writer todo taken doing submission) reply ≡ true → is_broken (writer_answered setup writer todo taken doing submission reply) ≡ true
writer_breaks setup writer todo taken Rests submission reply is = write_breaks setup writer todo taken submission reply is
writer_breaks setup writer todo taken doing submission reply is = submission_breaks setup doing submission.lists reply is

rescuer_breaks : (setup : Setup) (dev : DevId) (doing : Doing) (submission : Submission) (reply : Reply)
    → is_stop (rescuer_request setup dev doing submission) reply ≡ true → is_broken (rescuer_answered setup dev doing submission reply) ≡ true
rescuer_breaks setup dev Rests submission NoTicket is = refl
rescuer_breaks setup dev Rests submission reply is = absurd (cc is)
rescuer_breaks setup dev doing submission reply is = submission_breaks setup doing submission.lists reply is

closed_breaks : (writer : ℕ) (closed : Closed) (vector : Option VectorItem) (bio : Option (Item Pad)) (slip : Option SlipItem) (parent : Option ℕ) (reply : Reply)
    → is_stop (closed_request writer closed vector bio slip parent) reply ≡ true → is_some (carried_breach (carried_answered (Carries writer closed) reply)) ≡ true
closed_breaks writer closed vector bio slip parent NoTicket is = refl
closed_breaks writer closed vector bio slip parent (DroppedTo (end.Stray part)) is = refl
closed_breaks writer closed (Some vector) bio slip parent reply is = absurd (cc is)
closed_breaks writer closed None (Some bio) slip parent reply is = absurd (cc is)
closed_breaks writer closed None None (Some slip) parent reply is = absurd (cc is)
closed_breaks writer closed None None None (Some parent) reply is = absurd (cc is)
closed_breaks writer closed None None None None reply is = absurd (cc is)

carried_breaks : (disk : DevId) (carried : Carried) (reply : Reply) → is_stop (carried_request disk carried) reply ≡ true
    → is_some (carried_breach (carried_answered carried reply)) ≡ true
carried_breaks disk carried NoTicket is = refl
carried_breaks disk (Brings bio status) (DroppedTo (end.Stray part)) is = refl
carried_breaks disk (Carries writer closed) reply is = closed_breaks writer closed closed.held.vector closed.held.bio closed.held.slip closed.parent reply is
carried_breaks disk Empty reply is = absurd (cc is)
carried_breaks disk (Brings bio status) reply is = absurd (cc is)
carried_breaks disk (Fails breach kept) reply is = absurd (cc is)

resize_breaks : (home : Bool) (pool : PoolId) (out : ℕ) (duties : List Duty) → (not home || false) ≡ true → is_some (keeping_breach (after_resize home pool out duties)) ≡ true
resize_breaks true pool out duties is = absurd (cc is)
resize_breaks false pool out duties is = refl

keeper_breaks : (keeping : Keeping) (reply : Reply) → (keeper_request keeping ≡ Rest → ⊥) → is_stop (keeper_request keeping) reply ≡ true
    → is_some (keeping_breach (keeper_answered keeping reply)) ≡ true
keeper_breaks (Keeps []) reply asks is = absurd (asks refl)
keeper_breaks (Keeps (Resizes pool min later ∷ duties)) NoTicket asks is = refl
keeper_breaks (Keeps (Resizes pool min later ∷ duties)) (OutIs out) asks is = resize_breaks (out == 0) pool out duties is
keeper_breaks (Keeps (Resizes pool min later ∷ duties)) reply asks is = absurd (cc is)
keeper_breaks (Keeps (Starts round later ∷ duties)) NoTicket asks is = refl
keeper_breaks (Keeps (Starts round later ∷ duties)) reply asks is = absurd (cc is)
keeper_breaks (Stops breach) reply asks is = refl

-- a task breaks off with a reply that stops it
pub stop_breaks : (setup : Setup) (task : TaskState) (reply : Reply) → (request setup task ≡ Rest → ⊥) → is_stop (request setup task) reply ≡ true
    → is_broken (answered setup task reply) ≡ true
stop_breaks setup (Writer number todo taken submission) reply asks is = writer_breaks setup number todo taken submission.doing submission reply is
stop_breaks setup (Rescuer dev submission) reply asks is = rescuer_breaks setup dev submission.doing submission reply is
stop_breaks setup (Completer disk carried) reply asks is = carried_breaks disk carried reply is
stop_breaks setup (Keeper keeping) reply asks is = keeper_breaks keeping reply asks is

-- and with none at all it does where there was no ticket
pub spent_breaks_off : (setup : Setup) (task : TaskState) → (request setup task ≡ Rest → ⊥) → is_broken (answered setup task NoTicket) ≡ true
spent_breaks_off setup (Writer number todo taken submission) asks = by_doing submission.doing
  where
    by_doing : (doing : Doing) → is_broken (writer_answered setup number todo taken doing submission NoTicket) ≡ true
    by_doing Rests = refl
    by_doing doing = spent_breaks (at_hand doing) submission.lists (punts_of doing)
spent_breaks_off setup (Rescuer dev submission) asks = by_doing submission.doing
  where
    by_doing : (doing : Doing) → is_broken (rescuer_answered setup dev doing submission NoTicket) ≡ true
    by_doing Rests = refl
    by_doing doing = spent_breaks (at_hand doing) submission.lists (punts_of doing)
spent_breaks_off setup (Completer disk carried) asks = refl
spent_breaks_off setup (Keeper (Keeps [])) asks = absurd (asks refl)
spent_breaks_off setup (Keeper (Keeps (Resizes pool min later ∷ duties))) asks = refl
spent_breaks_off setup (Keeper (Keeps (Starts round later ∷ duties))) asks = refl
spent_breaks_off setup (Keeper (Stops breach)) asks = refl
