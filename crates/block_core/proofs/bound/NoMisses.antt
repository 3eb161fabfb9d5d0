-- Where no take missed, no task punts and no rescuer has anything to do.
use Rattle.std.proofs.Common.{◌≡◌, ◌+◌, ◌*◌, ◌==◌, if◌then◌else◌, ℕ, Bool, true, false, List, [], ◌∷◌, Some, refl, sym, ◌∙◌, ap, subst, arith, true≢false}
use Rattle.elem_ledger.specs.Ledger.{LedgerId}
use Rattle.mempool_core.specs.Move.{takes_ordinary, takes_spare}
use Rattle.stack_base.specs.declared.ids.DevId.{DevId}
use Rattle.stack_base.specs.Tree.{Tree, Leaf, Split, Mirrored}
use Rattle.bio_records.specs.declared.bio.Bio.{Bio}
use Rattle.bio_records.specs.declared.bio.Pad.{Pad}
use Rattle.bio_records.specs.declared.tasks.TaskLists.{TaskLists}
use Rattle.bio_records.specs.Items.{Item}
use Rattle.bio_lists.specs.Submission.{order, submitted}
use Rattle.bioset_pools.specs.Sets.{bios_of, waits_first}
use Rattle.stack_base.specs.PoolId.{pool_number}
use Rattle.run_machine.specs.declared.event.Event.{Event}
use Rattle.run_machine.specs.declared.event.Got.{Got}
use Rattle.run_machine.specs.declared.event.Got.TheVariants as got
use Rattle.run_machine.specs.declared.event.What.{What}
use Rattle.run_machine.specs.Events.{what_of}
use Rattle.run_machine.specs.Maps.{upd}
use Rattle.run_machine.specs.Objects.{Objects, Serves, TakesElement}
use Rattle.run_machine.specs.Requests as requests
use Rattle.run_machine.specs.Requests.{Request, Reply}
use Rattle.run_machine.specs.Scene.{Setup, Scene, tree_at}
use Rattle.run_machine.specs.Submissions.{Want, Takes, WantsPunt, Links, ToPush, ToCut, ToRecord, ToMaster, Doing, Rests, Drives, Copies, Breaks, Submission, settled, goes_on, copies, asks_at, first_length, landed, legs_of, leg_at, submission_request}
use Rattle.run_machine.specs.Tasks.{TaskState, Writer, Rescuer, Completer, Keeper, request}
use Rattle.run_machine.specs.Runs.{State, Steps}
use Rattle.block_core.specs.Exact.{is_miss}
use Rattle.block_core.proofs.moves.Moves.{Move, IsTaking, place_of, Can, after, with_submission, HasSubmission, Wants, with_want, filled_of, cut_lists}
use Rattle.block_core.proofs.moves.Moves as moves
use Rattle.block_core.proofs.bound.EventsDue.{IsHad}
use Rattle.block_core.proofs.sound.TaskSubmissions.{all-upd, wants_busy}
use Rattle.block_core.proofs.sound.SumParts.{out_more, out_same}
use Rattle.block_core.proofs.moves.SubmissionSteps.{asks_submission}
use Rattle.block_core.proofs.moves.Sums.{one-same}

-- no task wants to punt
abbrev pub NoPunt : Doing → Type 0
NoPunt Rests = Unit {0}
NoPunt (Drives bio ToPush) = Unit {0}
NoPunt (Drives bio (ToCut (Takes waits))) = Unit {0}
NoPunt (Drives bio (ToCut WantsPunt)) = ⊥
NoPunt (Drives bio (ToCut (Links hand))) = Unit {0}
NoPunt (Drives bio ToRecord) = Unit {0}
NoPunt (Drives bio (ToMaster slip)) = Unit {0}
NoPunt (Copies bio master leg (Takes waits)) = Unit {0}
NoPunt (Copies bio master leg WantsPunt) = ⊥
NoPunt (Copies bio master leg (Links hand)) = Unit {0}
NoPunt (Breaks breach kept) = Unit {0}

abbrev pub TaskNoPunt : TaskState → Type 0
TaskNoPunt (Writer number todo taken submission) = NoPunt submission.doing
TaskNoPunt (Rescuer dev submission) = NoPunt submission.doing
TaskNoPunt (Completer disk carried) = Unit {0}
TaskNoPunt (Keeper keeping) = Unit {0}

pub record NonePunts (s : State) : Type 0 where
  pub tasks : (place : ℕ) → TaskNoPunt (s.task place)
  pub rescued : (dev : ℕ) → s.objects.rescue dev ≡ []

relined : (x : TaskState) (new : Submission) → NoPunt new.doing → TaskNoPunt (with_submission x new)
relined (Writer number todo taken submission) new n = n
relined (Rescuer dev submission) new n = n
relined (Completer disk carried) new n = tt
relined (Keeper keeping) new n = tt

submission_none : (x : TaskState) (doing : Doing) (lists : TaskLists) → TaskNoPunt x → HasSubmission x doing lists → NoPunt doing
submission_none (Writer number todo taken submission) doing lists t h = subst (λ (l : Submission). NoPunt l.doing) h t
submission_none (Rescuer dev submission) doing lists t h = subst (λ (l : Submission). NoPunt l.doing) h t
submission_none (Completer disk carried) doing lists t h = absurd h
submission_none (Keeper keeping) doing lists t h = absurd h

asks_none : (setup : Setup) (lists : TaskLists) (item : Item Pad) (t : Tree) → NoPunt (asks_at setup lists item t)
asks_none setup lists item (Leaf number sectors) = tt
asks_none setup lists item (Mirrored number sizes members) = tt
asks_none setup lists item (Split number kind sizes members) = tt

settled_none : (setup : Setup) (items : List (Item Pad)) → NoPunt (settled setup items).doing
settled_none setup [] = tt
settled_none setup (item ∷ waiting) =
    let at : Bio = landed (tree_at setup item.bio.dev) item.bio in
    asks_none setup (record { list0 = []; list1 = waiting }) (record item { bio = at }) (tree_at setup at.dev)

copies_none : (setup : Setup) (lists : TaskLists) (bio : Bio) (master leg : ℕ) → NoPunt (copies setup lists bio master leg).doing
copies_none setup lists bio master leg = by_test (leg == legs_of (tree_at setup bio.dev))
  where
    by_test : (v : Bool) → let submission : Submission = if v then goes_on setup bio.dev lists else record { doing = Copies bio master leg (Takes (waits_first (setup.rescuer bio.dev.0) lists)); lists = lists } in
        NoPunt submission.doing
    by_test true = settled_none setup (order bio.dev lists)
    by_test false = tt

links_none : (doing : Doing) (dev : DevId) (old : Want) (hand : Item Pad) → Wants doing dev old → NoPunt (with_want doing (Links hand))
links_none (Drives bio (ToCut has)) dev old hand h = tt
links_none (Copies bio master leg has) dev old hand h = tt
links_none (Drives bio ToPush) dev old hand h = absurd h
links_none (Drives bio ToRecord) dev old hand h = absurd h
links_none (Drives bio (ToMaster slip)) dev old hand h = absurd h
links_none Rests dev old hand h = absurd h
links_none (Breaks breach kept) dev old hand h = absurd h

no_punt : (doing : Doing) (dev : DevId) → Wants doing dev WantsPunt → NoPunt doing → ⊥
no_punt (Drives bio (ToCut has)) dev h n = subst (λ want. NoPunt (Drives bio (ToCut want))) h.1 n
no_punt (Copies bio master leg has) dev h n = subst (λ want. NoPunt (Copies bio master leg want)) h.1 n
no_punt (Drives bio ToPush) dev h n = h
no_punt (Drives bio ToRecord) dev h n = h
no_punt (Drives bio (ToMaster slip)) dev h n = h
no_punt Rests dev h n = h
no_punt (Breaks breach kept) dev h n = h

module _ (scene : Scene) (s : State) (i : NonePunts s) where
  goes : (place : ℕ) (y : TaskState) → TaskNoPunt y → (j : ℕ) → TaskNoPunt (upd s.task place y j)
  goes place y fits = all-upd TaskNoPunt s.task place y i.tasks fits

  at : (place : ℕ) (x : TaskState) → s.task place ≡ x → TaskNoPunt x
  at place x is = subst TaskNoPunt is (i.tasks place)

  pub still_none : (m : Move) → Can scene s m → IsHad m → NonePunts (after scene s m)
  -- takes: the writer's submission rests on, or the submission links next
  still_none (moves.TakesFirst place writer todo later move) c h = record { tasks = goes place _ (at place _ c.1); rescued = i.rescued }
  still_none (moves.TakesVector place writer todo later item move) c h = record { tasks = goes place _ (at place _ c.1); rescued = i.rescued }
  still_none (moves.TakesSub place x doing lists dev waits move) c h = record { tasks = goes place _ (relined x _ (links_none doing dev (Takes waits) _ c.3)); rescued = i.rescued }
  still_none (moves.TakesSlip place x bio lists move) c h = record { tasks = goes place _ (relined x _ tt); rescued = i.rescued }
  -- misses, punts and pops: none of them comes
  still_none (moves.MissesOne place x number used) c h = absurd h
  still_none (moves.MissesTry place x doing lists dev used) c h = absurd h
  still_none (moves.Punts place x doing lists dev) c h = absurd h
  still_none (moves.Pops place dev bio bios) c h = absurd h
  -- pushes: the submission rests, or its next bio is to be pushed or asks for an element
  still_none (moves.Pushes place x bio lists) c h = record { tasks = goes place _ (relined x _ (settled_none scene.setup (order bio.bio.dev lists))); rescued = i.rescued }
  -- completions: the completer brings a bio
  still_none (moves.Completed place disk index bio status new) c h = record { tasks = goes place _ tt; rescued = i.rescued }
  -- links: the submission rests, or its next bio is to be pushed or asks for an element, as its next leg does
  still_none (moves.Begins place writer todo later item vector key) c h = record { tasks = goes place _ (settled_none scene.setup (filled_of writer todo item vector key ∷ [])); rescued = i.rescued }
  still_none (moves.Chained place x bio lists hand number kind sizes members key node) c h =
      record {
        tasks = goes place _ (relined x _ (settled_none scene.setup (order bio.bio.dev (cut_lists bio lists hand (first_length kind sizes bio.bio.range) key kind sizes members))));
        rescued = i.rescued;
      }
  still_none (moves.Mastered place x bio lists slip key node) c h = record { tasks = goes place _ (relined x _ (copies_none scene.setup lists bio.bio key 0)); rescued = i.rescued }
  still_none (moves.Legged place x bio lists master leg hand key node) c h =
      record {
        tasks = goes place _ (relined x _ (copies_none scene.setup (submitted (leg_at bio hand leg key (tree_at scene.setup bio.dev)) lists) bio master (leg + 1)));
        rescued = i.rescued;
      }
  -- drops, gives, ends of writes, resizes and rounds: by completers and the keeper, which never punt
  still_none (moves.Told place disk carried writer key status part node) c h = record { tasks = goes place _ tt; rescued = i.rescued }
  still_none (moves.Closes place disk carried writer key status part node) c h = record { tasks = goes place _ tt; rescued = i.rescued }
  still_none (moves.Gives place disk writer number closed held) c h = record { tasks = goes place _ tt; rescued = i.rescued }
  still_none (moves.Ends place disk writer closed) c h = record { tasks = goes place _ tt; rescued = i.rescued }
  still_none (moves.Resized place pool min later duties) c h = record { tasks = goes place _ tt; rescued = i.rescued }
  still_none (moves.Started place round later duties) c h = record { tasks = goes place _ tt; rescued = i.rescued }

-- a take that had an element has one more out
has_out : (old new : Objects) (number : ℕ) (from : Got) → TakesElement old number from new → (new.pool number).facts.out ≡ (old.pool number).facts.out + 1
has_out old new number got.Ordinary has =
    ap (λ (o : Objects). (o.pool number).facts.out) has.1 ∙ (omega (arith, out_more old.pool number takes_ordinary number tt, one-same number))
has_out old new number got.Spare has =
    ap (λ (o : Objects). (o.pool number).facts.out) has.1 ∙ (omega (arith, out_more old.pool number takes_spare number tt, one-same number))
has_out old new number got.Missed has = absurd has

missed_told : {X : Type 0} (first what : What) → Some first ≡ Some what → is_miss first ≡ true → is_miss what ≡ false → X
missed_told first what told miss no_miss = absurd (let same : first ≡ what = cc in true≢false (sym miss ∙ ap is_miss same ∙ no_miss))

-- so where an event is no miss, some pool has more out
taken_out : (ledger : ℕ → LedgerId) (old new : Objects) (request : Request) (reply : Reply) (what : What) → IsTaking request → what_of request reply ≡ Some what → is_miss what ≡ false
    → Serves ledger old request reply new → (number : ℕ) × ((new.pool number).facts.out ≡ (old.pool number).facts.out + 1)
-- takes of bios
taken_out ledger old new (requests.TakeBio set waits) (requests.HadBio from bio) what t told none serves = (pool_number (bios_of set), has_out old new (pool_number (bios_of set)) from serves.0)
taken_out ledger old new (requests.TakeBio set true) (requests.Missed true) what t told none serves = missed_told _ what told refl none
taken_out ledger old new (requests.TakeBio set true) (requests.Missed false) what t told none serves = absurd cc
taken_out ledger old new (requests.TakeBio set false) (requests.Missed used) what t told none serves = missed_told _ what told refl none
taken_out ledger old new (requests.TakeBio set waits) reply what t told none serves = absurd serves
-- takes of vectors
taken_out ledger old new requests.TakeVec (requests.HadVec from vector) what t told none serves = (64, has_out old new 64 from serves.0)
taken_out ledger old new requests.TakeVec (requests.Missed true) what t told none serves = missed_told _ what told refl none
taken_out ledger old new requests.TakeVec (requests.Missed false) what t told none serves = absurd cc
taken_out ledger old new requests.TakeVec reply what t told none serves = absurd serves
-- takes of records
taken_out ledger old new (requests.TakeSlip dev) (requests.HadSlip from slip) what t told none serves = (2 * dev.0 + 1, has_out old new (2 * dev.0 + 1) from serves.0)
taken_out ledger old new (requests.TakeSlip dev) (requests.Missed true) what t told none serves = missed_told _ what told refl none
taken_out ledger old new (requests.TakeSlip dev) (requests.Missed false) what t told none serves = absurd cc
taken_out ledger old new (requests.TakeSlip dev) reply what t told none serves = absurd serves
-- nothing else takes
taken_out ledger old new _ reply what t told none serves = absurd t

wants_taking : (setup : Setup) (doing : Doing) (dev : DevId) (lists : TaskLists) → Wants doing dev (Takes false) → IsTaking (submission_request setup doing lists)
wants_taking setup (Drives bio (ToCut has)) dev lists h = subst (λ want. IsTaking (submission_request setup (Drives bio (ToCut want)) lists)) (sym h.1) tt
wants_taking setup (Copies bio master leg has) dev lists h = subst (λ want. IsTaking (submission_request setup (Copies bio master leg want) lists)) (sym h.1) tt
wants_taking setup (Drives bio ToPush) dev lists h = absurd h
wants_taking setup (Drives bio ToRecord) dev lists h = absurd h
wants_taking setup (Drives bio (ToMaster slip)) dev lists h = absurd h
wants_taking setup Rests dev lists h = absurd h
wants_taking setup (Breaks breach kept) dev lists h = absurd h

-- so it is no miss, nor a punt or a pop
module _ (scene : Scene) (s : State) (i : NonePunts s) (place : ℕ) (event : Event) (new : State) (steps : Steps scene s place event new) (no_miss : is_miss event.what ≡ false) where
  more : IsTaking (request scene.setup (s.task place)) → (number : ℕ) × ((new.objects.pool number).facts.out ≡ (s.objects.pool number).facts.out + 1)
  more taking = taken_out scene.ledger s.objects new.objects (request scene.setup (s.task place)) steps.reply event.what taking steps.told no_miss steps.serves

  pub had : (m : Move) → Can scene s m → new ≡ after scene s m → place_of m ≡ place → IsHad m
  -- misses: no pool has one more out
  had (moves.MissesOne at x number used) c is same =
      let taking : IsTaking (request scene.setup (s.task place)) = subst (λ p. IsTaking (request scene.setup (s.task p))) same (subst (λ t. IsTaking (request scene.setup t)) (sym c.1) c.3) in
      let one_more = more taking in
      let stays : (new.objects.pool one_more.0).facts.out ≡ (s.objects.pool one_more.0).facts.out =
      ap (λ (t : State). (t.objects.pool one_more.0).facts.out) is ∙ out_same s.objects.pool number used one_more.0 in
      absurd (omega (arith, one_more.1, stays))
  had (moves.MissesTry at x doing lists dev used) c is same =
      let asks = asks_submission scene.setup x doing lists c.2 (wants_busy doing dev (Takes false) c.3) in
      let taking : IsTaking (request scene.setup (s.task place)) =
      subst (λ p. IsTaking (request scene.setup (s.task p))) same (subst (λ t. IsTaking (request scene.setup t)) (sym c.1) (subst IsTaking (sym asks) (wants_taking scene.setup doing dev lists c.3))) in
      let one_more = more taking in
      let stays : (new.objects.pool one_more.0).facts.out ≡ (s.objects.pool one_more.0).facts.out =
      ap (λ (t : State). (t.objects.pool one_more.0).facts.out) is ∙ out_same s.objects.pool (2 * dev.0) used one_more.0 in
      absurd (omega (arith, one_more.1, stays))
  -- punts: no task is to punt
  had (moves.Punts at x doing lists dev) c is same = no_punt doing dev c.3 (submission_none x doing lists (subst TaskNoPunt c.1 (i.tasks at)) c.2)
  -- pops: no rescue list has a bio
  had (moves.Pops at dev bio bios) c is same = let e : bio ∷ bios ≡ [] = sym c.3 ∙ i.rescued dev.0 in absurd cc
  -- all others are of those that come
  had _ c is same = tt
