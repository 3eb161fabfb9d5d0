-- An event leads to one state, and so do runs: it tells its reply, and a reply tells what the objects and the task become.
use Rattle.std.proofs.Common.{◌≡◌, ◌==◌, ℕ, Bool, true, false, List, [], ◌∷◌, refl, sym, ap, subst, ◌∙◌}
use Rattle.std.proofs.lemmas.Bool.{eqb-true, eqb-false}
use Rattle.bio_records.specs.declared.bio.Pad.{Pad}
use Rattle.bio_records.specs.Items.{Item}
use Rattle.bio_books.specs.Links.{Linked, Made, NoRoom, Stray}
use Rattle.run_machine.specs.declared.event.Event.{Event}
use Rattle.run_machine.specs.Maps.{upd}
use Rattle.run_machine.specs.Scene.{Scene, Setup}
use Rattle.run_machine.specs.Submissions.{Doing, Rests, Submission}
use Rattle.run_machine.specs.Tasks.{TaskState, Writer, Rescuer, Completer, Keeper, Todo, Gathered, NoBio, HasBio, HasBoth, request, begins, write_answered, writer_answered, rescuer_answered, answered}
use Rattle.run_machine.specs.Requests.{Reply, HadBio, HadVec, Popped, LinkedTo, NoTicket}
use Rattle.run_machine.specs.Objects.{Serves}
use Rattle.run_machine.specs.Events.{id_of}
use Rattle.run_machine.specs.declared.event.TaskId.TheVariants as id
use Rattle.stack_base.specs.declared.ids.DevId.{DevId}
use Rattle.run_machine.specs.Runs.{State, Steps, Happens, IsRun}
use Rattle.run_machine.specs.OneState.{TaskNamesDiffer, replies, EventsLeadToOneState}
use Rattle.run_machine.proofs.Frames.{upd_same, upd_other}
use Rattle.run_machine.proofs.Answered.{one_reply, one_served}

-- a task stays what it is
begins_id : (setup : Setup) (writer : ℕ) (later : List Todo) (bio : ℕ → Item Pad) (taken : Gathered) (todo : Todo) (submission : Submission) (answer : Linked)
    → id_of (begins setup writer later bio taken todo submission answer) ≡ id.Writer writer
begins_id setup writer later bio taken todo submission (Made node) = refl
begins_id setup writer later bio taken todo submission (NoRoom back) = refl
begins_id setup writer later bio taken todo submission (Stray back) = refl

write_id : (setup : Setup) (writer : ℕ) (todos : List Todo) (taken : Gathered) (submission : Submission) (reply : Reply)
    → id_of (write_answered setup writer todos taken submission reply) ≡ id.Writer writer
write_id setup writer todos taken submission NoTicket = refl
write_id setup writer (todo ∷ later) NoBio submission (HadBio from bio) = refl
write_id setup writer (todo ∷ later) (HasBio bio) submission (HadVec from vector) = refl
write_id setup writer (todo ∷ later) (HasBio bio) submission (LinkedTo answer) = begins_id setup writer later _ (HasBio bio) todo submission answer
write_id setup writer (todo ∷ later) (HasBoth bio vector) submission (LinkedTo answer) = begins_id setup writer later _ (HasBoth bio vector) todo submission answer
write_id setup writer todos taken submission _ = refl

writer_id : (setup : Setup) (writer : ℕ) (todos : List Todo) (taken : Gathered) (doing : Doing) (submission : Submission) (reply : Reply)
    → id_of (writer_answered setup writer todos taken doing submission reply) ≡ id.Writer writer
writer_id setup writer todos taken Rests submission reply = write_id setup writer todos taken submission reply
writer_id setup writer todos taken doing submission reply = refl

rescuer_id : (setup : Setup) (dev : DevId) (doing : Doing) (submission : Submission) (reply : Reply) → id_of (rescuer_answered setup dev doing submission reply) ≡ id.Rescuer dev
rescuer_id setup dev Rests submission (Popped bio) = refl
rescuer_id setup dev Rests submission NoTicket = refl
rescuer_id setup dev Rests submission _ = refl
rescuer_id setup dev doing submission reply = refl

pub id_stays : (setup : Setup) (task : TaskState) (reply : Reply) → id_of (answered setup task reply) ≡ id_of task
id_stays setup (Writer number todo taken submission) reply = writer_id setup number todo taken submission.doing submission reply
id_stays setup (Rescuer dev submission) reply = rescuer_id setup dev submission.doing submission reply
id_stays setup (Completer disk carried) reply = refl
id_stays setup (Keeper keeping) reply = refl

-- a step of one task leads to one state
pub steps_one : (scene : Scene) (old new other : State) (place : ℕ) (event : Event) → Steps scene old place event new → Steps scene old place event other → new ≡ other
steps_one scene old new other place event a b =
    let asked = request scene.setup (old.task place) in
    let is = one_reply scene.ledger old.objects new.objects other.objects asked a.reply b.reply event.what a.told b.told a.serves b.serves in
    let objects = one_served scene.ledger old.objects new.objects other.objects asked a.reply a.serves
    (subst (λ reply. Serves scene.ledger old.objects asked reply other.objects) (sym is) b.serves) in
    let tasks = a.goes_on ∙ ap (λ reply. upd old.task place (answered scene.setup (old.task place) reply)) is ∙ sym b.goes_on in
    λ k. record { objects = objects k; task = tasks k }

reply_one : (scene : Scene) (old new other : State) (place : ℕ) (event : Event) (a : Steps scene old place event new) (b : Steps scene old place event other) → a.reply ≡ b.reply
reply_one scene old new other place event a b =
    one_reply scene.ledger old.objects new.objects other.objects (request scene.setup (old.task place)) a.reply b.reply event.what a.told b.told a.serves b.serves

reply_at : (scene : Scene) (old new other : State) (place again : ℕ) (event : Event) → place ≡ again
    → (a : Steps scene old place event new) (b : Steps scene old again event other) → a.reply ≡ b.reply
reply_at scene old new other place again event is a =
    subst (λ at. (b : Steps scene old at event other) → a.reply ≡ b.reply) is (reply_one scene old new other place event a)

pub one : (scene : Scene) (old new other : State) (event : Event) → TaskNamesDiffer scene old → Happens scene old event new → Happens scene old event other → new ≡ other
one scene old new other event apart (place, a) (again, b) =
    let same = apart again place b.here a.here (sym b.by ∙ a.by) in
    steps_one scene old new other place event a (subst (λ at. Steps scene old at event other) same b)

-- names stay
names : (scene : Scene) (old new : State) (place : ℕ) (event : Event) → Steps scene old place event new → (at : ℕ) → id_of (new.task at) ≡ id_of (old.task at)
names scene old new place event a at = by_test (at == place) refl
  where
    by_test : (here : Bool) → (at == place) ≡ here → id_of (new.task at) ≡ id_of (old.task at)
    by_test true is =
        let e = eqb-true at place is in
        ap (λ i. id_of (new.task i)) e ∙ ap (λ f. id_of (f place)) a.goes_on ∙ ap id_of (upd_same old.task place _)
        ∙ id_stays scene.setup (old.task place) a.reply ∙ ap (λ i. id_of (old.task i)) (sym e)
    by_test false is = ap (λ f. id_of (f at)) a.goes_on ∙ ap id_of (upd_other old.task place _ at (eqb-false at place is))

stays_apart : (scene : Scene) (old new : State) (event : Event) → TaskNamesDiffer scene old → Happens scene old event new → TaskNamesDiffer scene new
stays_apart scene old new event apart (place, a) = λ i j here there is.
    apart i j here there (sym (names scene old new place event a i) ∙ is ∙ names scene old new place event a j)

pub runs : (scene : Scene) (old new other : State) (events : List Event) → TaskNamesDiffer scene old → IsRun scene old events new → IsRun scene old events other → new ≡ other
runs scene old new other [] apart a b = a ∙ sym b
runs scene old new other (event ∷ events) apart (next, first, rest) (again, second, others) =
    let same = one scene old again next event apart second first in
    runs scene next new other events (stays_apart scene old next event apart first) rest (subst (λ state. IsRun scene state events other) same others)

pub same_replies : (scene : Scene) (old new other : State) (events : List Event) → TaskNamesDiffer scene old
    → (run : IsRun scene old events new) (again : IsRun scene old events other) → replies scene old events new run ≡ replies scene old events other again
same_replies scene old new other [] apart run again = refl
same_replies scene old new other (event ∷ events) apart (next, (place, a), rest) (following, (at, b), others) =
    let here = apart place at a.here b.here (sym a.by ∙ b.by) in
    let first = reply_at scene old next following place at event here a b in
    let state = one scene old next following event apart (place, a) (at, b) in
    let later = subst (λ middle. (run : IsRun scene middle events other) → replies scene next events new rest ≡ replies scene middle events other run) state
    (same_replies scene next new other events (stays_apart scene old next event apart (place, a)) rest) others in
    λ k. first k ∷ later k

pub stay : (scene : Scene) (old new : State) (events : List Event) → TaskNamesDiffer scene old → IsRun scene old events new → TaskNamesDiffer scene new
stay scene old new [] apart run = subst (TaskNamesDiffer scene) (sym run) apart
stay scene old new (event ∷ events) apart (next, first, rest) = stay scene next new events (stays_apart scene old next event apart first) rest

pub events_lead_to_one_state : EventsLeadToOneState
events_lead_to_one_state = record { one = one; apart = stays_apart; runs = runs; same = same_replies; stay = stay }
