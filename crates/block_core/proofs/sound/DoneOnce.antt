-- Each write is told done at most once: it is to be begun, or its top node is open or carried, and then no more.
use Rattle.std.proofs.Common.{◌≡◌, ◌+◌, ◌==◌, ℕ, Bool, true, false, List, [], ◌∷◌, Option, None, Some, inl, inr, refl, ◌∙◌, ap, arith, set}
use Rattle.stack_base.specs.declared.ids.DevId.{DevId}
use Rattle.stack_base.specs.declared.ids.Status.{Status}
use Rattle.bio_records.specs.declared.bio.Pad.{Pad}
use Rattle.bio_records.specs.declared.tasks.TaskLists.{TaskLists}
use Rattle.bio_records.specs.Items.{Item}
use Rattle.bio_books.specs.Books.{VectorItem, Holding, told}
use Rattle.bio_books.specs.Drops.{Closed}
use Rattle.run_machine.specs.Scene.{Setup, Scene}
use Rattle.run_machine.specs.Submissions.{Takes, WantsPunt, Links, ToPush, ToCut, ToRecord, ToMaster, Doing, Rests, Drives, Copies, Breaks}
use Rattle.run_machine.specs.Tasks.{Completer, Todo, Carried, Empty, Brings, Carries, Fails}
use Rattle.run_machine.specs.Runs.{State}
use Rattle.block_core.specs.Weights.{Weight, total_weight, one_if_same}
use Rattle.block_core.proofs.sound.DoneAndRoundEvents.{none_told}
use Rattle.block_core.proofs.moves.Moves.{Move, IsTaking, place_of, Can, after, TellsNode, Releases}
use Rattle.block_core.proofs.moves.Moves as moves
use Rattle.run_machine.specs.declared.event.What.{What}
use Rattle.run_machine.specs.Events.{what_of, resize_of}
use Rattle.run_machine.specs.Submissions.{submission_request}
use Rattle.run_machine.specs.Requests as requests
use Rattle.run_machine.specs.Requests.{Request, Reply}
use Rattle.run_machine.specs.Tasks.{request, closed_request, with_bio, needs_vector}
use Rattle.bio_books.specs.Links.{Made}
use Rattle.bio_books.specs.Drops as end
use Rattle.block_core.specs.Dones.{done_in}
use Rattle.block_core.specs.Rounds.{by_stage}
use Rattle.block_core.proofs.sound.EventStages.{ended_worth, to_come_before, to_come_after, staged as worth_staged}
use Rattle.block_core.proofs.sound.TaskSubmissions.{wants_busy}
use Rattle.block_core.proofs.moves.SubmissionSteps.{asks_submission}

-- 1 where a request tells this write done
abbrev pub asked : ℕ → Request → ℕ
asked w (requests.Done write status) = one_if_same write w
asked w request = 0

abbrev pub done_by : ℕ → Move → ℕ
done_by w = ended_worth (λ n. one_if_same n w)

abbrev pub done_of : ℕ → Option What → ℕ
done_of w None = 0
done_of w (Some what) = done_in w what

-- an event tells a write done exactly where its request does
pub told_done : (w : ℕ) (request : Request) (reply : Reply) (what : What) → what_of request reply ≡ Some what → done_of w (what_of request reply) ≡ asked w request
-- takes: none tells a write done
told_done w (requests.TakeBio set true) (requests.HadBio from bio) what told = refl
told_done w (requests.TakeBio set false) (requests.HadBio from bio) what told = refl
told_done w (requests.TakeBio set true) (requests.Missed true) what told = refl
told_done w (requests.TakeBio set false) (requests.Missed used) what told = refl
told_done w requests.TakeVec (requests.HadVec from vector) what told = refl
told_done w requests.TakeVec (requests.Missed true) what told = refl
told_done w (requests.TakeSlip dev) (requests.HadSlip from slip) what told = refl
told_done w (requests.TakeSlip dev) (requests.Missed true) what told = refl
-- gives
told_done w (requests.GiveBio bio) requests.Did what told = refl
told_done w (requests.GiveVec vector) requests.Did what told = refl
told_done w (requests.GiveSlip slip) requests.Did what told = refl
-- lists of rescuers
told_done w (requests.Punt dev moved) requests.Did what told = refl
told_done w (requests.Pop dev) (requests.Popped bio) what told = refl
-- disks
told_done w (requests.Push bio) requests.Did what told = refl
told_done w (requests.Complete disk) (requests.Completed index bio status) what told = refl
-- books
told_done w (requests.Link writer opening) (requests.LinkedTo (Made node)) what told = refl
told_done w (requests.Drop writer node status part) (requests.DroppedTo end.Left) what told = refl
told_done w (requests.Drop writer node status part) (requests.DroppedTo (end.Up closed)) what told = refl
told_done w (requests.Drop writer node status part) (requests.DroppedTo (end.Top closed)) what told = refl
-- ends of writes: the event is of the write that was asked
told_done w (requests.Done write status) requests.Did what told = refl
-- resizes: none tells a write done
told_done w (requests.Resize pool min) (requests.OutIs out) what told = by_test (out == 0)
  where
    by_test : (v : Bool) → done_of w (resize_of v pool min) ≡ 0
    by_test true = refl
    by_test false = refl
-- starts of rounds
told_done w (requests.NextRound round) requests.Did what told = refl
-- all other answers, and all to looks and rests, are no events
told_done w _ _ what told = none_told what told

-- no submission tells a write done
submission_asks_none : (w : ℕ) (setup : Setup) (doing : Doing) (lists : TaskLists) → asked w (submission_request setup doing lists) ≡ 0
-- one that rests or broke off
submission_asks_none w setup Rests lists = refl
submission_asks_none w setup (Breaks breach kept) lists = refl
-- a bio that is driven
submission_asks_none w setup (Drives bio ToPush) lists = refl
submission_asks_none w setup (Drives bio (ToCut (Takes waits))) lists = refl
submission_asks_none w setup (Drives bio (ToCut WantsPunt)) lists = refl
submission_asks_none w setup (Drives bio (ToCut (Links hand))) lists = refl
submission_asks_none w setup (Drives bio ToRecord) lists = refl
submission_asks_none w setup (Drives bio (ToMaster slip)) lists = refl
-- copies for the legs of a mirror
submission_asks_none w setup (Copies bio master leg (Takes waits)) lists = refl
submission_asks_none w setup (Copies bio master leg WantsPunt) lists = refl
submission_asks_none w setup (Copies bio master leg (Links hand)) lists = refl

taking_asks_none : (w : ℕ) (request : Request) → IsTaking request → asked w request ≡ 0
taking_asks_none w (requests.TakeBio set waits) h = refl
taking_asks_none w requests.TakeVec h = refl
taking_asks_none w (requests.TakeSlip dev) h = refl
taking_asks_none w request h = absurd h

tells_asks_none : (w : ℕ) (disk : DevId) (carried : Carried) (writer key : ℕ) (status : Status) (part : Option (Item Pad)) (setup : Setup) → TellsNode carried writer key status part
    → asked w (request setup (Completer disk carried)) ≡ 0
tells_asks_none w disk (Brings bio ending) writer key status part setup t = refl
tells_asks_none w disk (Carries of closed) writer key status part setup t =
    ap (λ (held : Holding). asked w (closed_request of closed held.vector held.bio held.slip closed.parent)) t.4
    ∙ ap (λ parent. asked w (closed_request of closed None None None parent)) t.1
tells_asks_none w disk Empty writer key status part setup t = absurd t
tells_asks_none w disk (Fails breach kept) writer key status part setup t = absurd t

release_asks_none : (w : ℕ) (disk : DevId) (writer number : ℕ) (closed : Closed) (held : Holding) (setup : Setup) → Releases closed.held number held
    → asked w (request setup (Completer disk (Carries writer closed))) ≡ 0
release_asks_none w disk writer number closed held setup (inl h) =
    ap (λ vector. asked w (closed_request writer closed vector closed.held.bio closed.held.slip closed.parent)) h.1
release_asks_none w disk writer number closed held setup (inr (inl h)) = by_vector closed.held.vector
  where
    by_vector : (vector : Option VectorItem) → asked w (closed_request writer closed vector closed.held.bio closed.held.slip closed.parent) ≡ 0
    by_vector None = ap (λ bio. asked w (closed_request writer closed None bio closed.held.slip closed.parent)) h.1
    by_vector (Some vector) = refl
release_asks_none w disk writer number closed held setup (inr (inr h)) = by_two closed.held.vector closed.held.bio
  where
    by_two : (vector : Option VectorItem) (bio : Option (Item Pad)) → asked w (closed_request writer closed vector bio closed.held.slip closed.parent) ≡ 0
    by_two None None = ap (λ slip. asked w (closed_request writer closed None None slip closed.parent)) h.1
    by_two None (Some bio) = refl
    by_two (Some vector) bio = refl

-- what the task asks for tells a write done exactly where the event is its end
pub asked_by : (scene : Scene) (s : State) (w : ℕ) (m : Move) → Can scene s m → asked w (request scene.setup (s.task (place_of m))) ≡ done_by w m
-- takes of a write, and of a submission
asked_by scene s w (moves.TakesFirst place writer todo later move) c = ap (λ x. asked w (request scene.setup x)) c.1
asked_by scene s w (moves.TakesVector place writer todo later item move) c = ap (λ x. asked w (request scene.setup x)) c.1 ∙ with_vector (needs_vector todo.write)
  where
    with_vector : (b : Bool) → asked w (with_bio writer b todo) ≡ 0
    with_vector true = refl
    with_vector false = refl
asked_by scene s w (moves.TakesSub place x doing lists dev waits move) c =
    ap (λ x. asked w (request scene.setup x)) c.1 ∙ ap (asked w) (asks_submission scene.setup x doing lists c.2 (wants_busy doing dev (Takes waits) c.3)) ∙ submission_asks_none w scene.setup doing lists
asked_by scene s w (moves.TakesSlip place x bio lists move) c =
    ap (λ x. asked w (request scene.setup x)) c.1 ∙ ap (asked w) (asks_submission scene.setup x (Drives bio ToRecord) lists c.2 tt)
-- takes that miss
asked_by scene s w (moves.MissesOne place x number used) c = ap (λ x. asked w (request scene.setup x)) c.1 ∙ taking_asks_none w (request scene.setup x) c.3
asked_by scene s w (moves.MissesTry place x doing lists dev used) c =
    ap (λ x. asked w (request scene.setup x)) c.1 ∙ ap (asked w) (asks_submission scene.setup x doing lists c.2 (wants_busy doing dev (Takes false) c.3)) ∙ submission_asks_none w scene.setup doing lists
-- bios go to a rescuer and come from it, and go to a disk and come from it
asked_by scene s w (moves.Punts place x doing lists dev) c =
    ap (λ x. asked w (request scene.setup x)) c.1 ∙ ap (asked w) (asks_submission scene.setup x doing lists c.2 (wants_busy doing dev WantsPunt c.3)) ∙ submission_asks_none w scene.setup doing lists
asked_by scene s w (moves.Pops place dev bio bios) c = ap (λ x. asked w (request scene.setup x)) c.1
asked_by scene s w (moves.Pushes place x bio lists) c =
    ap (λ x. asked w (request scene.setup x)) c.1 ∙ ap (asked w) (asks_submission scene.setup x (Drives bio ToPush) lists c.2 tt)
asked_by scene s w (moves.Completed place disk index bio status new) c = ap (λ x. asked w (request scene.setup x)) c.1
-- a write begins: with a vector, or without one
asked_by scene s w (moves.Begins place writer todo later item None key) c = ap (λ x. asked w (request scene.setup x)) c.1 ∙ with_none (needs_vector todo.write)
  where
    with_none : (b : Bool) → asked w (with_bio writer b todo) ≡ 0
    with_none true = refl
    with_none false = refl
asked_by scene s w (moves.Begins place writer todo later item (Some vector) key) c = ap (λ x. asked w (request scene.setup x)) c.1
-- nodes are opened: of a front, a master and a leg
asked_by scene s w (moves.Chained place x bio lists hand number kind sizes members key node) c =
    ap (λ x. asked w (request scene.setup x)) c.1 ∙ ap (asked w) (asks_submission scene.setup x (Drives bio (ToCut (Links hand))) lists c.2 tt)
asked_by scene s w (moves.Mastered place x bio lists slip key node) c =
    ap (λ x. asked w (request scene.setup x)) c.1 ∙ ap (asked w) (asks_submission scene.setup x (Drives bio (ToMaster slip)) lists c.2 tt)
asked_by scene s w (moves.Legged place x bio lists master leg hand key node) c =
    ap (λ x. asked w (request scene.setup x)) c.1 ∙ ap (asked w) (asks_submission scene.setup x (Copies bio master leg (Links hand)) lists c.2 tt)
-- a node is told of an end: it waits for others, or closes
asked_by scene s w (moves.Told place disk carried writer key status part node) c =
    ap (λ x. asked w (request scene.setup x)) c.1 ∙ tells_asks_none w disk carried writer key status part scene.setup c.2
asked_by scene s w (moves.Closes place disk carried writer key status part node) c =
    ap (λ x. asked w (request scene.setup x)) c.1 ∙ tells_asks_none w disk carried writer key status part scene.setup c.2
-- what a closed node held goes back, and its write is done
asked_by scene s w (moves.Gives place disk writer number closed held) c =
    ap (λ x. asked w (request scene.setup x)) c.1 ∙ release_asks_none w disk writer number closed held scene.setup c.2
asked_by scene s w (moves.Ends place disk writer closed) c =
    ap (λ x. asked w (request scene.setup x)) c.1
    ∙ ap (λ (held : Holding). asked w (closed_request writer closed held.vector held.bio held.slip closed.parent)) c.2
    ∙ ap (λ parent. asked w (closed_request writer closed None None None parent)) c.3
-- the keeper
asked_by scene s w (moves.Resized place pool min later duties) c = ap (λ x. asked w (request scene.setup x)) c.1
asked_by scene s w (moves.Started place round later duties) c = ap (λ x. asked w (request scene.setup x)) c.1

-- how often a write is to be begun
abbrev pub to_begin : ℕ → List Todo → ℕ
to_begin w [] = 0
to_begin w (todo ∷ todos) = one_if_same todo.number w + to_begin w todos

-- a write is to be begun, or its top node is open, or what is left of it is carried
abbrev pub stage : ℕ → Weight
stage w = by_stage (λ todos taken. to_begin w todos) (λ n. one_if_same n w)

-- what is to come of it is as before, but where it begins
to_come_kept : (scene : Scene) (w : ℕ) (m : Move) → to_come_before (λ todos taken. to_begin w todos) m ≡ to_come_after scene (λ todos taken. to_begin w todos) (λ n. one_if_same n w) m
to_come_kept scene w (moves.Begins place writer todo later item vector key) = omega arith
to_come_kept scene w _ = refl

-- an event takes a write's stage away exactly where it tells it done
pub staged : (scene : Scene) (s : State) (w : ℕ) (m : Move) → Can scene s m → total_weight scene (stage w) (after scene s m) + done_by w m ≡ total_weight scene (stage w) s
staged scene s w m c = omega (arith, worth_staged (λ todos taken. to_begin w todos) (λ n. one_if_same n w) scene s m c, to_come_kept scene w m)
