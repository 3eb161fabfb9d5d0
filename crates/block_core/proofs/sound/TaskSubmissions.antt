-- What each task has stays in order.
use Rattle.std.proofs.Common.{◌≡◌, ◌⊎◌, ◌+◌, ◌*◌, ◌≤◌, ◌==◌, if◌then◌else◌, ℕ, Bool, true, false, List, [], ◌∷◌, inl, inr, refl, sym, ◌∙◌, ap, subst, arith}
use Rattle.stack_base.specs.declared.ids.DevId.{DevId}
use Rattle.stack_base.specs.Tree.{Tree, Leaf, Split, Mirrored}
use Rattle.stack_base.specs.declared.ids.SetId.TheVariants.{Of}
use Rattle.bio_records.specs.declared.bio.Bio.{Bio}
use Rattle.bio_records.specs.declared.bio.Pad.{Pad}
use Rattle.bio_records.specs.declared.tasks.TaskLists.{TaskLists}
use Rattle.bio_records.specs.Items.{Item}
use Rattle.bio_lists.specs.Submission.{order, submitted}
use Rattle.bio_lists.specs.Punt.{unpunted}
use Rattle.run_machine.specs.Maps.{upd}
use Rattle.run_machine.specs.Scene.{Setup, Scene, tree_at}
use Rattle.bioset_pools.specs.Sets.{waits_first}
use Rattle.run_machine.specs.Submissions.{Want, Takes, WantsPunt, Links, ToPush, ToCut, ToRecord, ToMaster, Doing, Rests, Drives, Copies, Breaks, Submission, rests, settled, goes_on, copies, asks_at, first_length, landed, legs_of, leg_at}
use Rattle.run_machine.specs.Tasks.{TaskState, Writer, Rescuer, Completer, Keeper, Gathered, NoBio, HasBio, HasBoth}
use Rattle.run_machine.specs.Objects.{clear_slip}
use Rattle.run_machine.specs.Runs.{State}
use Rattle.block_core.proofs.moves.Moves.{Move, Can, after, with_submission, HasSubmission, Wants, with_want, filled_of, cut_lists}
use Rattle.block_core.proofs.moves.Moves as moves
use Rattle.block_core.proofs.moves.Sums.{upd-same, upd-other, same_or_not}
use Rattle.block_core.proofs.sound.Invariant.{Suits, DoingFits, SubmissionFits, HandFits, TaskIsSound, LedgersAreNumbered, Invariant}
use Rattle.std.proofs.lemmas.Bool.{eqb-false}

-- what is so at all places is so when one of them changes
pub all-upd : {X : Type 0} (P : X → Type 0) (f : ℕ → X) (i : ℕ) (v : X) → ((j : ℕ) → P (f j)) → P v → (j : ℕ) → P (upd f i v j)
all-upd P f i v all here j = elim (same_or_not j i) [
  | inl e ↦ subst P (sym (ap (upd f i v) e ∙ upd-same f i v)) here
  | inr ne ↦ subst P (sym (upd-other f i v j ne)) (all j)
]

module _ (setup : Setup) where
  asks_fit : (lists : TaskLists) (item : Item Pad) (t : Tree) → tree_at setup item.bio.dev ≡ t → DoingFits setup (asks_at setup lists item t) lists
  asks_fit lists item (Leaf number sectors) is = subst (λ t. Suits t ToPush) (sym is) tt
  asks_fit lists item (Mirrored number sizes members) is = subst (λ t. Suits t ToRecord) (sym is) tt
  asks_fit lists item (Split number kind sizes members) is = subst (λ t. Suits t (ToCut (Takes (waits_first (setup.rescuer item.bio.dev.0) lists)))) (sym is) tt

  pub settled_fits : (items : List (Item Pad)) → SubmissionFits setup (settled setup items)
  settled_fits [] = refl
  settled_fits (item ∷ waiting) =
      let at : Bio = landed (tree_at setup item.bio.dev) item.bio in
      asks_fit (record { list0 = []; list1 = waiting }) (record item { bio = at }) (tree_at setup at.dev) refl

  pub copies_fit : (lists : TaskLists) (bio : Bio) (master leg : ℕ) → leg ≤ legs_of (tree_at setup bio.dev) → SubmissionFits setup (copies setup lists bio master leg)
  copies_fit lists bio master leg le = by_test (leg == legs_of (tree_at setup bio.dev)) refl
    where
      by_test : (v : Bool) → (leg == legs_of (tree_at setup bio.dev)) ≡ v
          → SubmissionFits setup (if v then goes_on setup bio.dev lists else record { doing = Copies bio master leg (Takes (waits_first (setup.rescuer bio.dev.0) lists)); lists = lists })
      by_test true is = settled_fits (order bio.dev lists)
      by_test false is = let ne = eqb-false leg (legs_of (tree_at setup bio.dev)) is in omega (arith, ne, le)

  -- what is wanted does not matter
  pub wants_fit : (doing : Doing) (dev : DevId) (old new : Want) (lists more : TaskLists) → Wants doing dev old → DoingFits setup doing lists → DoingFits setup (with_want doing new) more
  wants_fit (Drives bio (ToCut has)) dev old new lists more h fits = by_tree (tree_at setup bio.bio.dev) fits
    where
      by_tree : (t : Tree) → Suits t (ToCut has) → Suits t (ToCut new)
      by_tree (Leaf number sectors) fits = fits
      by_tree (Split number kind sizes members) fits = tt
      by_tree (Mirrored number sizes members) fits = fits
  wants_fit (Copies bio master leg has) dev old new lists more h fits = fits
  wants_fit (Drives bio ToPush) dev old new lists more h fits = absurd h
  wants_fit (Drives bio ToRecord) dev old new lists more h fits = absurd h
  wants_fit (Drives bio (ToMaster slip)) dev old new lists more h fits = absurd h
  wants_fit Rests dev old new lists more h fits = absurd h
  wants_fit (Breaks breach kept) dev old new lists more h fits = absurd h

-- something is done
abbrev pub IsBusy : Doing → Type 0
IsBusy Rests = ⊥
IsBusy doing = Unit {0}

pub rests_or_busy : (doing : Doing) → (doing ≡ Rests) ⊎ IsBusy doing
rests_or_busy Rests = inl refl
rests_or_busy (Drives bio ask) = inr tt
rests_or_busy (Copies bio master leg want) = inr tt
rests_or_busy (Breaks breach kept) = inr tt

pub wants_busy : (doing : Doing) (dev : DevId) (want : Want) → Wants doing dev want → IsBusy doing
wants_busy (Drives bio (ToCut has)) dev want h = tt
wants_busy (Copies bio master leg has) dev want h = tt
wants_busy (Drives bio ToPush) dev want h = tt
wants_busy (Drives bio ToRecord) dev want h = tt
wants_busy (Drives bio (ToMaster slip)) dev want h = tt
wants_busy Rests dev want h = h
wants_busy (Breaks breach kept) dev want h = tt

-- the submission of a task is in order
pub submission_fits : (scene : Scene) (x : TaskState) (doing : Doing) (lists : TaskLists) → TaskIsSound scene x → HasSubmission x doing lists → DoingFits scene.setup doing lists
submission_fits scene (Writer number todo taken submission) doing lists fits h = subst (SubmissionFits scene.setup) h fits.1
submission_fits scene (Rescuer dev submission) doing lists fits h = subst (SubmissionFits scene.setup) h fits.1
submission_fits scene (Completer disk carried) doing lists fits h = absurd h
submission_fits scene (Keeper keeping) doing lists fits h = absurd h

-- a task that submits has nothing in hand, so it goes on with any submission in order
pub submission_keeps : (scene : Scene) (x : TaskState) (doing : Doing) (lists : TaskLists) (new : Submission) → TaskIsSound scene x → HasSubmission x doing lists → IsBusy doing
    → SubmissionFits scene.setup new → TaskIsSound scene (with_submission x new)
submission_keeps scene (Writer number todo taken submission) doing lists new fits h busy to = (fits.0, to, no_hand taken fits.2)
  where
    not_resting : (l : Submission) → l ≡ record { doing = doing; lists = lists } → l ≡ rests → ⊥
    not_resting l is at_rest = subst (λ (other : Submission). IsBusy other.doing) (sym is ∙ at_rest) busy

    no_hand : (taken : Gathered) → HandFits taken submission → HandFits taken new
    no_hand NoBio hand = tt
    no_hand (HasBio item) hand = absurd (not_resting submission h hand)
    no_hand (HasBoth item vector) hand = absurd (not_resting submission h hand)
submission_keeps scene (Rescuer dev submission) doing lists new fits h busy to = (fits.0, to)
submission_keeps scene (Completer disk carried) doing lists new fits h busy to = absurd h
submission_keeps scene (Keeper keeping) doing lists new fits h busy to = absurd h

module _ (scene : Scene) (s : State) (f : LedgersAreNumbered scene) (i : Invariant scene s) where
  at_place : (place : ℕ) (x : TaskState) → s.task place ≡ x → TaskIsSound scene x
  at_place place x is = subst (TaskIsSound scene) is (i.tasks place)

  goes : (place : ℕ) (y : TaskState) → TaskIsSound scene y → (other : ℕ) → TaskIsSound scene (upd s.task place y other)
  goes place y fits = all-upd (TaskIsSound scene) s.task place y i.tasks fits

  on_submission : (place : ℕ) (x : TaskState) (doing : Doing) (lists : TaskLists) (new : Submission) → s.task place ≡ x → HasSubmission x doing lists → IsBusy doing → SubmissionFits scene.setup new
      → (other : ℕ) → TaskIsSound scene (upd s.task place (with_submission x new) other)
  on_submission place x doing lists new is h busy to = goes place (with_submission x new) (submission_keeps scene x doing lists new (at_place place x is) h busy to)

  wants_on : (place : ℕ) (x : TaskState) (doing : Doing) (lists more : TaskLists) (dev : DevId) (old new : Want) → s.task place ≡ x → HasSubmission x doing lists → Wants doing dev old
      → (other : ℕ) → TaskIsSound scene (upd s.task place (with_submission x (record { doing = with_want doing new; lists = more })) other)
  wants_on place x doing lists more dev old new is h wants =
      on_submission place x doing lists (record { doing = with_want doing new; lists = more }) is h (wants_busy doing dev old wants)
      (wants_fit scene.setup doing dev old new lists more wants (submission_fits scene x doing lists (at_place place x is) h))

  pub tasks : (m : Move) → Can scene s m → (other : ℕ) → TaskIsSound scene ((after scene s m).task other)
  -- takes of writers: a writer that has something in hand has nothing submitted
  tasks (moves.TakesFirst place writer todo later move) c = let fits = at_place place _ c.1 in goes place _ (fits.0, refl, refl)
  tasks (moves.TakesVector place writer todo later item move) c = let fits = at_place place _ c.1 in goes place _ (fits.0, refl, refl)
  -- takes of bios by submissions: only what is wanted changes
  tasks (moves.TakesSub place x doing lists dev waits move) c = wants_on place x doing lists lists dev (Takes waits) _ c.1 c.2 c.3
  -- takes of records: where a record was asked for, the device is a mirror
  tasks (moves.TakesSlip place x bio lists move) c =
      on_submission place x (Drives bio ToRecord) lists _ c.1 c.2 tt (by_tree (tree_at scene.setup bio.bio.dev) (submission_fits scene x (Drives bio ToRecord) lists (at_place place x c.1) c.2))
    where
      by_tree : (t : Tree) → Suits t ToRecord → Suits t (ToMaster (clear_slip (scene.ledger (2 * bio.bio.dev.0 + 1))))
      by_tree (Leaf number sectors) fits = fits
      by_tree (Split number kind sizes members) fits = fits
      by_tree (Mirrored number sizes members) fits = tt
  -- misses and punts: the task stays as it is, or what it wants changes
  tasks (moves.MissesOne place x number used) c = goes place x (at_place place x c.1)
  tasks (moves.MissesTry place x doing lists dev used) c = wants_on place x doing lists lists dev (Takes false) WantsPunt c.1 c.2 c.3
  tasks (moves.Punts place x doing lists dev) c = wants_on place x doing lists (unpunted (Of dev) lists) dev WantsPunt (Takes true) c.1 c.2 c.3
  -- pops and pushes: what the submission does next suits its device
  tasks (moves.Pops place dev bio bios) c = goes place _ (c.2, settled_fits scene.setup (bio ∷ []))
  tasks (moves.Pushes place x bio lists) c = on_submission place x (Drives bio ToPush) lists _ c.1 c.2 tt (settled_fits scene.setup (order bio.bio.dev lists))
  -- completions: the completer stays at its disk
  tasks (moves.Completed place disk index bio status new) c = goes place _ c.2
  -- links of writes and of pieces: what the submission does next suits its device
  tasks (moves.Begins place writer todo later item vector key) c = goes place _ (c.2, settled_fits scene.setup (filled_of writer todo item vector key ∷ []), tt)
  tasks (moves.Chained place x bio lists hand number kind sizes members key node) c =
      on_submission place x (Drives bio (ToCut (Links hand))) lists _ c.1 c.2 tt
      (settled_fits scene.setup (order bio.bio.dev (cut_lists bio lists hand (first_length kind sizes bio.bio.range) key kind sizes members)))
  -- links of masters: the first leg is one of the mirror, or none is copied
  tasks (moves.Mastered place x bio lists slip key node) c =
      on_submission place x (Drives bio (ToMaster slip)) lists _ c.1 c.2 tt (copies_fit scene.setup lists bio.bio key 0 (omega arith))
  -- links of legs: the next leg is one of the mirror, or all are copied
  tasks (moves.Legged place x bio lists master leg hand key node) c =
      let lt = submission_fits scene x (Copies bio master leg (Links hand)) lists (at_place place x c.1) c.2 in
      on_submission place x (Copies bio master leg (Links hand)) lists _ c.1 c.2 tt
      (copies_fit scene.setup (submitted (leg_at bio hand leg key (tree_at scene.setup bio.dev)) lists) bio master (leg + 1) (omega (arith, lt)))
  -- drops, gives and ends of writes: the completer stays at its disk
  tasks (moves.Told place disk carried writer key status part node) c = goes place _ (at_place place _ c.1)
  tasks (moves.Closes place disk carried writer key status part node) c = goes place _ (at_place place _ c.1)
  tasks (moves.Gives place disk writer number closed held) c = goes place _ (at_place place _ c.1)
  tasks (moves.Ends place disk writer closed) c = goes place _ (at_place place _ c.1)
  -- resizes and rounds: the keeper goes on
  tasks (moves.Resized place pool min later duties) c = goes place _ tt
  tasks (moves.Started place round later duties) c = goes place _ tt
