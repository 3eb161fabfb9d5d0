-- Where no task has anything to do that needs no ordinary memory, nothing waits: no node is open, and every element is at home.
use Rattle.std.proofs.Common.{◌≡◌, ◌+◌, ◌*◌, ◌<◌, ◌≤◌, ◌⊎◌, ℕ, zero, suc, true, false, List, [], ◌∷◌, inl, inr, refl, ap, arith}
use Rattle.std.specs.Prelude.{sum_by}
use Rattle.std.proofs.lemmas.List.Sums.{sum_by-cons}
use Rattle.stack_base.specs.Tree.{Tree, Leaf, Split, Mirrored}
use Rattle.stack_base.proofs.ListLemmas.{Each}
use Rattle.stack_base.proofs.NumberLemmas.{zero_or}
use Rattle.bio_records.specs.declared.bio.Bio.{Bio}
use Rattle.bio_records.specs.declared.bio.Pad.{Pad}
use Rattle.bio_records.specs.declared.tasks.TaskLists.{TaskLists}
use Rattle.bio_records.specs.Items.{Item}
use Rattle.run_machine.specs.Scene.{Setup, Scene, tree_at}
use Rattle.run_machine.specs.Submissions.{Want, Takes, WantsPunt, Links, ToPush, ToCut, ToRecord, ToMaster, Doing, Rests, Drives, Copies, Breaks, Submission, legs_of}
use Rattle.run_machine.specs.Tasks.{TaskState, Writer, Rescuer, Completer, Keeper, Todo, Gathered, NoBio, HasBio, HasBoth, Empty, Brings, Carries, Fails}
use Rattle.run_machine.specs.Runs.{State}
use Rattle.block_core.specs.Weights.{Weight, Lined, sum_at, one_if_same, submission_weight}
use Rattle.block_core.proofs.moves.Sums.{one-other, same_or_not}
use Rattle.block_core.proofs.sound.Invariant.{Suits, DoingFits}
use Rattle.block_core.proofs.sound.TaskSubmissions.{IsBusy}
use Rattle.block_core.proofs.sound.Orders.{Above, DoingPlaced, DeviceGeometry}
use Rattle.std.specs.Prelude.{min}
use Rattle.run_machine.specs.Scene.{keeps_data, is_mirror}
use Rattle.block_core.proofs.stuck.Waits.{DoingWaits}

-- the pools at which a task can wait: the two of writes, those of bios of devices that cut or copy, and those of mirrors' records
abbrev pub IsPool : Setup → ℕ → Type 0
IsPool setup number =
    (number ≡ 65) ⊎ (number ≡ 64)
    ⊎ ((dev : ℕ) × (dev < setup.count) × (keeps_data (setup.tree dev) ≡ false) × (number ≡ 2 * dev))
    ⊎ ((dev : ℕ) × (dev < setup.count) × (is_mirror (setup.tree dev) ≡ true) × (number ≡ 2 * dev + 1))

abbrev pub spares : State → ℕ → ℕ
spares s number = (s.objects.pool number).facts.spares

-- A task has nothing to do that needs no ordinary memory: it waits at a pool without a spare, for its round, or for a bio, or is through.
abbrev pub StillWant : State → ℕ → Want → Type 0
StillWant s dev (Takes true) = spares s (2 * dev) ≡ 0
StillWant s dev (Takes false) = ⊥
StillWant s dev WantsPunt = ⊥
StillWant s dev (Links hand) = ⊥

abbrev pub StillDoing : State → Doing → Type 0
StillDoing s Rests = Unit {0}
StillDoing s (Drives bio ToPush) = ⊥
StillDoing s (Drives bio (ToCut want)) = StillWant s bio.bio.dev.0 want
StillDoing s (Drives bio ToRecord) = spares s (2 * bio.bio.dev.0 + 1) ≡ 0
StillDoing s (Drives bio (ToMaster slip)) = ⊥
StillDoing s (Copies bio master leg want) = StillWant s bio.dev.0 want
StillDoing s (Breaks breach kept) = ⊥

abbrev pub StillFirst : State → List Todo → Type 0
StillFirst s [] = Unit {0}
StillFirst s (todo ∷ later) = (s.objects.tally.round < todo.round) ⊎ (spares s 65 ≡ 0)

abbrev pub StillTaken : State → List Todo → Gathered → Type 0
StillTaken s todo NoBio = StillFirst s todo
StillTaken s todo (HasBio item) = spares s 64 ≡ 0
StillTaken s todo (HasBoth item vector) = ⊥

abbrev pub StillWriter : State → List Todo → Gathered → Doing → Type 0
StillWriter s todo taken Rests = StillTaken s todo taken
StillWriter s todo taken doing = StillDoing s doing

abbrev pub StillRescuer : State → ℕ → Doing → Type 0
StillRescuer s dev Rests = s.objects.rescue dev ≡ []
StillRescuer s dev doing = StillDoing s doing

abbrev pub IsStill : State → TaskState → Type 0
IsStill s (Writer number todo taken submission) = StillWriter s todo taken submission.doing
IsStill s (Rescuer dev submission) = StillRescuer s dev.0 submission.doing
IsStill s (Completer disk Empty) = (s.objects.disk disk.0).pending ≡ []
IsStill s (Completer disk (Brings bio status)) = ⊥
IsStill s (Completer disk (Carries writer closed)) = ⊥
IsStill s (Completer disk (Fails breach kept)) = ⊥
IsStill s (Keeper keeping) = Unit {0}

pub record AllStill (scene : Scene) (s : State) : Type 0 where
  pub still : (place : ℕ) → place < scene.tasks → IsStill s (s.task place)
  -- each set that has a rescuer has its task
  pub rescuers : (dev : ℕ) → dev < scene.setup.count → scene.setup.rescuer dev ≡ true
      → (place : ℕ) × (submission : Submission) × (place < scene.tasks) × (s.task place ≡ Rescuer (record { 0 = dev }) submission)
  -- no disk has a bio
  pub disks : (dev : ℕ) → dev < scene.setup.count → (s.objects.disk dev).pending ≡ []

-- some task waits at a pool below this number
pub record Below (setup : Setup) (s : State) (level : ℕ) : Type 0 where
  pub pool : ℕ
  pub low : pool < level
  pub empty : spares s pool ≡ 0
  pub is : IsPool setup pool

pub lower : (setup : Setup) (s : State) (a b : ℕ) → a ≤ b → Below setup s a → Below setup s b
lower setup s a b le below = let lt = below.low in record { pool = below.pool; low = omega (arith, lt, le); empty = below.empty; is = below.is }

-- a sum that is not 0 has a place that is not 0
pub some_place : {X : Type 0} (w : ℕ → X → ℕ) (n : ℕ) (f : ℕ → X) → 1 ≤ sum_at w n f → (i : ℕ) × (i < n) × (1 ≤ w i (f i))
unfolding sum_at
some_place w zero f h = absurd (omega (arith, h))
some_place w (suc n) f h = elim (zero_or (w n (f n))) [
  | inl z ↦ let r = some_place w n f (omega (arith, h, z)) in (r.0, let lt = r.1 in omega (arith, lt), r.2)
  | inr some ↦ (n, omega arith, some)
]

-- a list that weighs has an element that does, and what is 0 of the list is 0 of it
pub some_one : (u v : Item Pad → ℕ) (P : Item Pad → Type 0) (items : List (Item Pad)) → 1 ≤ sum_by u items → sum_by v items ≡ 0 → Each P items
    → (item : Item Pad) × P item × (1 ≤ u item) × (v item ≡ 0)
some_one u v P [] h z all = absurd (omega (arith, h))
some_one u v P (item ∷ items) h z all =
    let a = sum_by-cons u item items in
    let b = sum_by-cons v item items in
    elim (zero_or (u item)) [
      | inl none ↦ some_one u v P items (omega (arith, h, a, none)) (omega (arith, z, b)) all.1
      | inr some ↦ (item, all.0, some, omega (arith, z, b))
    ]

pub one-eq : (i j : ℕ) → 1 ≤ one_if_same i j → i ≡ j
one-eq i j h = elim (same_or_not i j) [ inl e ↦ e | inr ne ↦ absurd (omega (arith, h, one-other i j ne)) ]

pub both : (a b : ℕ) → 1 ≤ a * b → (1 ≤ a) × (1 ≤ b)
both zero b h = absurd (omega (arith, h))
both (suc a) zero h = absurd (grind (arith, h))
both (suc a) (suc b) h = (omega arith, omega arith)

module _ (scene : Scene) (s : State) (g : DeviceGeometry scene.setup) (u v : Weight) where
  abbrev setup : Setup
  setup = scene.setup

  -- a bio of a submission that waits, whose set is above the pool; or the mirror's run itself
  abbrev pub Found : ℕ → Type 0
  Found limit =
      ((item : Item Pad) × Below setup s (min item.share.no 64) × (1 ≤ u.bio (Lined limit) item) × (v.bio (Lined limit) item ≡ 0))
      ⊎ ((bio : Bio) × (master : ℕ) × (leg : ℕ) × Below setup s (2 * bio.dev.0 + 1) × (1 ≤ u.copy bio master leg) × (v.copy bio master leg ≡ 0))

  above_waits : (limit dev : ℕ) (pool : ℕ) → dev < setup.count → pool ≤ 2 * dev + 1 → spares s pool ≡ 0 → IsPool setup pool → (items : List (Item Pad))
      → 1 ≤ sum_by (u.bio (Lined limit)) items → sum_by (v.bio (Lined limit)) items ≡ 0 → Above dev items → Found limit
  above_waits limit dev pool known le empty is items some none above =
      let o = some_one (u.bio (Lined limit)) (v.bio (Lined limit)) (λ (item : Item Pad). 2 * dev + 1 < item.share.no) items some none above in
      let up = o.1 in
      let few = g.few in
      inl (o.0, record { pool = pool; low = omega (arith, le, up, known, few); empty = empty; is = is }, o.2, o.3)

  cuts_there : (t : Tree) (want : Want) → Suits t (ToCut want) → keeps_data t ≡ false
  cuts_there (Leaf number sectors) want suits = absurd suits
  cuts_there (Split number kind sizes members) want suits = refl
  cuts_there (Mirrored number sizes members) want suits = absurd suits

  copies_there : (t : Tree) → Suits t ToRecord → is_mirror t ≡ true
  copies_there (Leaf number sectors) suits = absurd suits
  copies_there (Split number kind sizes members) suits = absurd suits
  copies_there (Mirrored number sizes members) suits = refl

  legs_there : (t : Tree) (leg : ℕ) → leg < legs_of t → keeps_data t ≡ false
  legs_there (Leaf number sectors) leg lt = absurd (omega (arith, lt))
  legs_there (Split number kind sizes members) leg lt = absurd (omega (arith, lt))
  legs_there (Mirrored number sizes members) leg lt = refl

  pub submission_found : (limit : ℕ) (doing : Doing) (lists : TaskLists) → DoingFits setup doing lists → DoingPlaced setup limit doing lists → DoingWaits setup doing lists → StillDoing s doing
      → 1 ≤ submission_weight u limit (record { doing = doing; lists = lists }) → submission_weight v limit (record { doing = doing; lists = lists }) ≡ 0 → Found limit
  -- at rest it has its lists alone
  submission_found limit Rests lists fits d w still some none =
      let e : submission_weight u limit (record { doing = Rests; lists = lists }) ≡ 0 = ap (λ (l : TaskLists). submission_weight u limit (record { doing = Rests; lists = l })) fits in
      absurd (omega (arith, some, e))
  -- of what a bio wants, only a take that waits, and that of a record, stand still
  submission_found limit (Drives bio ToPush) lists fits d w still some none = absurd still
  submission_found limit (Drives bio (ToCut (Takes true))) lists fits d w still some none =
      let no0 : sum_by (u.bio (Lined limit)) lists.list0 ≡ 0 = ap (sum_by (u.bio (Lined limit))) d.0 in
      let a = sum_by-cons (u.bio (Lined limit)) bio lists.list1 in
      let b = sum_by-cons (v.bio (Lined limit)) bio lists.list1 in
      above_waits limit bio.bio.dev.0 (2 * bio.bio.dev.0) d.1.0.0.device (omega arith) still
      (inr (inr (inl (bio.bio.dev.0, d.1.0.0.device, cuts_there (tree_at setup bio.bio.dev) (Takes true) fits, refl))))
      (bio ∷ lists.list1) (omega (arith, some, no0, a)) (omega (arith, none, b)) (d.1.0.1, d.2.0)
  submission_found limit (Drives bio (ToCut (Takes false))) lists fits d w still some none = absurd still
  submission_found limit (Drives bio (ToCut WantsPunt)) lists fits d w still some none = absurd still
  submission_found limit (Drives bio (ToCut (Links hand))) lists fits d w still some none = absurd still
  submission_found limit (Drives bio ToRecord) lists fits d w still some none =
      let no0 : sum_by (u.bio (Lined limit)) lists.list0 ≡ 0 = ap (sum_by (u.bio (Lined limit))) d.0 in
      let a = sum_by-cons (u.bio (Lined limit)) bio lists.list1 in
      let b = sum_by-cons (v.bio (Lined limit)) bio lists.list1 in
      above_waits limit bio.bio.dev.0 (2 * bio.bio.dev.0 + 1) d.1.0.0.device (omega arith) still
      (inr (inr (inr (bio.bio.dev.0, d.1.0.0.device, copies_there (tree_at setup bio.bio.dev) fits, refl))))
      (bio ∷ lists.list1) (omega (arith, some, no0, a)) (omega (arith, none, b)) (d.1.0.1, d.2.0)
  submission_found limit (Drives bio (ToMaster slip)) lists fits d w still some none = absurd still
  -- of what a leg wants, only a take that waits
  submission_found limit (Copies bio master leg (Takes true)) lists fits d w still some none =
      let no0 : sum_by (u.bio (Lined limit)) lists.list0 ≡ 0 = ap (sum_by (u.bio (Lined limit))) w in
      let is : IsPool setup (2 * bio.dev.0) = inr (inr (inl (bio.dev.0, d.0.device, legs_there (tree_at setup bio.dev) leg fits, refl))) in
      elim (zero_or (sum_by (u.bio (Lined limit)) lists.list1)) [
        | inl no1 ↦ inr (bio, master, leg, record { pool = 2 * bio.dev.0; low = omega arith; empty = still; is = is }, omega (arith, some, no0, no1), omega (arith, none))
        | inr more ↦ above_waits limit bio.dev.0 (2 * bio.dev.0) d.0.device (omega arith) still is lists.list1 more (omega (arith, none)) d.4
      ]
  submission_found limit (Copies bio master leg (Takes false)) lists fits d w still some none = absurd still
  submission_found limit (Copies bio master leg WantsPunt) lists fits d w still some none = absurd still
  submission_found limit (Copies bio master leg (Links hand)) lists fits d w still some none = absurd still
  submission_found limit (Breaks breach kept) lists fits d w still some none = absurd still

  -- a task that submits waits below its limit, where it has something
  pub submission_below : (limit : ℕ) (doing : Doing) (lists : TaskLists) → DoingFits setup doing lists → DoingPlaced setup limit doing lists → IsBusy doing → StillDoing s doing
      → (pool : ℕ) × (pool < 2 * limit) × (pool < 64) × (spares s pool ≡ 0) × IsPool setup pool
  -- at rest it is not busy
  submission_below limit Rests lists fits d busy still = absurd busy
  -- of what a bio wants, only a take that waits, and that of a record, stand still
  submission_below limit (Drives bio ToPush) lists fits d busy still = absurd still
  submission_below limit (Drives bio (ToCut (Takes true))) lists fits d busy still =
      let low = d.1.0.2 in
      let known = d.1.0.0.device in
      let few = g.few in
      (2 * bio.bio.dev.0, omega (arith, low), omega (arith, known, few), still, inr (inr (inl (bio.bio.dev.0, known, cuts_there (tree_at setup bio.bio.dev) (Takes true) fits, refl))))
  submission_below limit (Drives bio (ToCut (Takes false))) lists fits d busy still = absurd still
  submission_below limit (Drives bio (ToCut WantsPunt)) lists fits d busy still = absurd still
  submission_below limit (Drives bio (ToCut (Links hand))) lists fits d busy still = absurd still
  submission_below limit (Drives bio ToRecord) lists fits d busy still =
      let low = d.1.0.2 in
      let known = d.1.0.0.device in
      let few = g.few in
      (2 * bio.bio.dev.0 + 1, omega (arith, low), omega (arith, known, few), still, inr (inr (inr (bio.bio.dev.0, known, copies_there (tree_at setup bio.bio.dev) fits, refl))))
  submission_below limit (Drives bio (ToMaster slip)) lists fits d busy still = absurd still
  -- of what a leg wants, only a take that waits
  submission_below limit (Copies bio master leg (Takes true)) lists fits d busy still =
      let low = d.1 in
      let known = d.0.device in
      let few = g.few in
      (2 * bio.dev.0, omega (arith, low), omega (arith, known, few), still, inr (inr (inl (bio.dev.0, known, legs_there (tree_at setup bio.dev) leg fits, refl))))
  submission_below limit (Copies bio master leg (Takes false)) lists fits d busy still = absurd still
  submission_below limit (Copies bio master leg WantsPunt) lists fits d busy still = absurd still
  submission_below limit (Copies bio master leg (Links hand)) lists fits d busy still = absurd still
  submission_below limit (Breaks breach kept) lists fits d busy still = absurd still
