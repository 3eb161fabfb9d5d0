-- A task that waits for a bio of a device's set has none of that set in its lists.
use Rattle.std.proofs.Common.{◌≡◌, ◌+◌, ◌*◌, ◌≤◌, ◌==◌, ◌⊎◌, ◌++◌, ◌&&◌, not, if◌then◌else◌, ℕ, Bool, true, false, List, [], ◌∷◌, filter, inl, inr, refl, sym, ◌∙◌, ap, subst, arith, true≢false}
use Rattle.std.proofs.lemmas.Bool.{eq-eqb, eqb-false, not-false, or_parts}
use Rattle.stack_base.specs.declared.ids.DevId.{DevId}
use Rattle.stack_base.specs.declared.ids.SetId.{SetId}
use Rattle.stack_base.specs.declared.ids.SetId.TheVariants.{Fs, Of}
use Rattle.stack_base.specs.PoolId.{pool_number}
use Rattle.stack_base.specs.Tree.{Tree, Leaf, Split, Mirrored}
use Rattle.stack_base.proofs.ListLemmas.{Each}
use Rattle.bio_records.specs.declared.bio.Bio.{Bio}
use Rattle.bio_records.specs.declared.bio.Pad.{Pad}
use Rattle.bio_records.specs.declared.tasks.TaskLists.{TaskLists}
use Rattle.bio_records.specs.Items.{Item}
use Rattle.bio_records.specs.Sorting.{is_of, is_of_other}
use Rattle.bio_lists.specs.Submission.{order, submitted}
use Rattle.bio_lists.specs.Punt.{punted, unpunted}
use Rattle.bioset_pools.specs.Sets.{bios_of, waits_first}
use Rattle.run_machine.specs.Maps.{upd}
use Rattle.run_machine.specs.Scene.{Setup, Scene, tree_at}
use Rattle.run_machine.specs.Submissions.{Want, Takes, WantsPunt, Links, ToPush, ToCut, ToRecord, ToMaster, Doing, Rests, Drives, Copies, Breaks, Submission, settled, goes_on, copies, asks_at, first_length, landed, legs_of, leg_at}
use Rattle.run_machine.specs.Tasks.{TaskState, Writer, Rescuer, Completer, Keeper}
use Rattle.run_machine.specs.Objects.{clear_bio}
use Rattle.run_machine.specs.Runs.{State}
use Rattle.run_machine.proofs.Frames.{upd_keeps}
use Rattle.block_core.proofs.moves.Moves.{Move, Can, after, limit_of, with_submission, HasSubmission, Wants, with_want, filled_of, cut_lists}
use Rattle.block_core.proofs.moves.Moves as moves
use Rattle.block_core.proofs.sound.Invariant.{TaskIsSound, Invariant}
use Rattle.block_core.proofs.moves.Geometry.{IsThere}
use Rattle.block_core.proofs.sound.TaskSubmissions.{all-upd, submission_fits}
use Rattle.block_core.proofs.sound.Orders.{Above, IsPlaced, IsOwn, DoingPlaced, TaskPlaced, Placed, DeviceGeometry, of_set}
use Rattle.std.specs.Prelude.{All}
use Rattle.std.proofs.lemmas.List.Elements.{All-nil, All-cons}
use Rattle.bioset_pools.specs.Sets.{is_empty}
use Rattle.block_core.proofs.sound.OrdersKept.{placed_at}
use Rattle.block_core.specs.Waits.{NoneBehind, DoesNotWaitForItself, TaskDoesNotWaitForItself, NoneWaitsForItself}

-- where it waits, list 0 is empty
abbrev pub WantWaits : Bool → Want → TaskLists → Type 0
WantWaits rescuer (Takes true) lists = lists.list0 ≡ []
WantWaits rescuer (Takes false) lists = rescuer ≡ true
WantWaits rescuer WantsPunt lists = rescuer ≡ true
WantWaits rescuer (Links hand) lists = Unit {0}

abbrev pub DoingWaits : Setup → Doing → TaskLists → Type 0
DoingWaits setup Rests lists = Unit {0}
DoingWaits setup (Drives bio ToPush) lists = Unit {0}
DoingWaits setup (Drives bio (ToCut want)) lists = WantWaits (setup.rescuer bio.bio.dev.0) want lists
DoingWaits setup (Drives bio ToRecord) lists = Unit {0}
DoingWaits setup (Drives bio (ToMaster slip)) lists = Unit {0}
DoingWaits setup (Copies bio master leg want) lists = WantWaits (setup.rescuer bio.dev.0) want lists
DoingWaits setup (Breaks breach kept) lists = Unit {0}

abbrev pub TaskWaits : Setup → TaskState → Type 0
TaskWaits setup (Writer number todo taken submission) = DoingWaits setup submission.doing submission.lists
TaskWaits setup (Rescuer dev submission) = DoingWaits setup submission.doing submission.lists
TaskWaits setup (Completer disk carried) = Unit {0}
TaskWaits setup (Keeper keeping) = Unit {0}

pub record Waits (setup : Setup) (s : State) : Type 0 where
  pub tasks : (place : ℕ) → TaskWaits setup (s.task place)
  pub rescued : (dev : ℕ) → (s.objects.rescue dev ≡ []) ⊎ (setup.rescuer dev ≡ true)

-- a bio that is copied twice or more is at a device with a rescuer
abbrev pub AreRescued : Setup → Type 0
AreRescued setup = (bio : Bio) → IsThere setup bio → 2 ≤ legs_of (tree_at setup bio.dev) → setup.rescuer bio.dev.0 ≡ true

waits_or_tries : (setup : Setup) (dev : DevId) (lists : TaskLists) → lists.list0 ≡ [] → WantWaits (setup.rescuer dev.0) (Takes (waits_first (setup.rescuer dev.0) lists)) lists
waits_or_tries setup dev lists none = by_test (waits_first (setup.rescuer dev.0) lists) refl
  where
    by_test : (v : Bool) → waits_first (setup.rescuer dev.0) lists ≡ v → WantWaits (setup.rescuer dev.0) (Takes v) lists
    by_test true is = none
    by_test false is = not-false (setup.rescuer dev.0) (or_parts (not (setup.rescuer dev.0)) (is_empty lists.list0 && is_empty lists.list1) is).0

tries : (setup : Setup) (dev : DevId) (lists : TaskLists) → setup.rescuer dev.0 ≡ true → is_empty lists.list0 ≡ false → WantWaits (setup.rescuer dev.0) (Takes (waits_first (setup.rescuer dev.0) lists)) lists
tries setup dev lists rescuer some =
    let is : waits_first (setup.rescuer dev.0) lists ≡ false = rw (rescuer, some) refl in
    subst (λ v. WantWaits (setup.rescuer dev.0) (Takes v) lists) (sym is) rescuer

one_more : (items : List (Item Pad)) (item : Item Pad) → is_empty (items ++ item ∷ []) ≡ false
one_more [] item = refl
one_more (other ∷ items) item = refl

module _ (setup : Setup) (r : AreRescued setup) where
  pub settled_waits : (items : List (Item Pad)) → DoingWaits setup (settled setup items).doing (settled setup items).lists
  settled_waits [] = tt
  settled_waits (item ∷ waiting) =
      let at : Bio = landed (tree_at setup item.bio.dev) item.bio in
      by_tree (record item { bio = at }) (record { list0 = []; list1 = waiting }) refl (tree_at setup at.dev)
    where
      by_tree : (it : Item Pad) (lists : TaskLists) → lists.list0 ≡ [] → (t : Tree) → DoingWaits setup (asks_at setup lists it t) lists
      by_tree it lists none (Leaf number sectors) = tt
      by_tree it lists none (Mirrored number sizes members) = tt
      by_tree it lists none (Split number kind sizes members) = waits_or_tries setup it.bio.dev lists none

  pub copies_wait : (lists : TaskLists) (bio : Bio) (master leg : ℕ)
      → ((leg == legs_of (tree_at setup bio.dev)) ≡ false → WantWaits (setup.rescuer bio.dev.0) (Takes (waits_first (setup.rescuer bio.dev.0) lists)) lists)
      → DoingWaits setup (copies setup lists bio master leg).doing (copies setup lists bio master leg).lists
  copies_wait lists bio master leg next = by_test (leg == legs_of (tree_at setup bio.dev)) refl
    where
      by_test : (v : Bool) → (leg == legs_of (tree_at setup bio.dev)) ≡ v
          → let submission : Submission = (if v then goes_on setup bio.dev lists else record { doing = Copies bio master leg (Takes (waits_first (setup.rescuer bio.dev.0) lists)); lists = lists }) in
          DoingWaits setup submission.doing submission.lists
      by_test true is = settled_waits (order bio.dev lists)
      by_test false is = next is

  -- an element is had
  links_wait : (doing : Doing) (dev : DevId) (old : Want) (hand : Item Pad) (lists : TaskLists) → Wants doing dev old → DoingWaits setup (with_want doing (Links hand)) lists
  links_wait (Drives bio (ToCut has)) dev old hand lists h = tt
  links_wait (Copies bio master leg has) dev old hand lists h = tt
  links_wait (Drives bio ToPush) dev old hand lists h = absurd h
  links_wait (Drives bio ToRecord) dev old hand lists h = absurd h
  links_wait (Drives bio (ToMaster slip)) dev old hand lists h = absurd h
  links_wait Rests dev old hand lists h = absurd h
  links_wait (Breaks breach kept) dev old hand lists h = absurd h

  -- an attempt missed
  punts_wait : (doing : Doing) (dev : DevId) (lists : TaskLists) → Wants doing dev (Takes false) → DoingWaits setup doing lists → DoingWaits setup (with_want doing WantsPunt) lists
  punts_wait (Drives bio (ToCut has)) dev lists h d = subst (λ want. WantWaits (setup.rescuer bio.bio.dev.0) want lists) h.1 d
  punts_wait (Copies bio master leg has) dev lists h d = subst (λ want. WantWaits (setup.rescuer bio.dev.0) want lists) h.1 d
  punts_wait (Drives bio ToPush) dev lists h d = absurd h
  punts_wait (Drives bio ToRecord) dev lists h d = absurd h
  punts_wait (Drives bio (ToMaster slip)) dev lists h d = absurd h
  punts_wait Rests dev lists h d = absurd h
  punts_wait (Breaks breach kept) dev lists h d = absurd h

  -- one that punts is at a device with a rescuer
  punts_rescued : (doing : Doing) (dev : DevId) (lists : TaskLists) → Wants doing dev WantsPunt → DoingWaits setup doing lists → setup.rescuer dev.0 ≡ true
  punts_rescued (Drives bio (ToCut has)) dev lists h d =
      ap (λ (e : DevId). setup.rescuer e.0) h.0 ∙ subst (λ want. WantWaits (setup.rescuer bio.bio.dev.0) want lists) h.1 d
  punts_rescued (Copies bio master leg has) dev lists h d =
      ap (λ (e : DevId). setup.rescuer e.0) h.0 ∙ subst (λ want. WantWaits (setup.rescuer bio.dev.0) want lists) h.1 d
  punts_rescued (Drives bio ToPush) dev lists h d = absurd h
  punts_rescued (Drives bio ToRecord) dev lists h d = absurd h
  punts_rescued (Drives bio (ToMaster slip)) dev lists h d = absurd h
  punts_rescued Rests dev lists h d = absurd h
  punts_rescued (Breaks breach kept) dev lists h d = absurd h

-- all bios of a device's own set go to its rescuer
own_is : (setup : Setup) (dev : DevId) (limit : ℕ) (item : Item Pad) → IsOwn setup dev.0 limit item → is_of (Of dev) item ≡ true
own_is setup dev limit item own = by_set item.bio.set (sym (own.0.3) ∙ own.1)
  where
    by_set : (set : SetId) → pool_number (bios_of set) ≡ 2 * dev.0 → is_of (Of dev) (record item { bio = record item.bio { set = set } }) ≡ true
    by_set Fs is = absurd (omega (arith, is))
    by_set (Of other) is = eq-eqb other.0 dev.0 (omega (arith, is))

none_left : (setup : Setup) (dev : DevId) (limit : ℕ) (items : List (Item Pad)) → Each (IsOwn setup dev.0 limit) items → filter (is_of_other (Of dev)) items ≡ []
none_left setup dev limit [] own = refl
none_left setup dev limit (item ∷ items) own = by_test (is_of (Of dev) item) (own_is setup dev limit item own.0) (none_left setup dev limit items own.1)
  where
    by_test : (v : Bool) → v ≡ true → filter (is_of_other (Of dev)) items ≡ []
        → (if not v then item ∷ filter (is_of_other (Of dev)) items else filter (is_of_other (Of dev)) items) ≡ []
    by_test true is rest = rest
    by_test false is rest = absurd (true≢false (sym is))

-- behind a punt it waits
punted_wait : (setup : Setup) (limit : ℕ) (doing : Doing) (dev : DevId) (lists : TaskLists) → Wants doing dev WantsPunt → DoingPlaced setup limit doing lists
    → DoingWaits setup (with_want doing (Takes true)) (unpunted (Of dev) lists)
punted_wait setup limit (Drives bio (ToCut has)) dev lists h d = ap (filter (is_of_other (Of dev))) d.0
punted_wait setup limit (Copies bio master leg has) dev lists h d =
    none_left setup dev limit lists.list0 (subst (λ (e : DevId). Each (IsOwn setup e.0 limit) lists.list0) (sym (h.0)) d.2)
punted_wait setup limit (Drives bio ToPush) dev lists h d = absurd h
punted_wait setup limit (Drives bio ToRecord) dev lists h d = absurd h
punted_wait setup limit (Drives bio (ToMaster slip)) dev lists h d = absurd h
punted_wait setup limit Rests dev lists h d = absurd h
punted_wait setup limit (Breaks breach kept) dev lists h d = absurd h

pub submission_waits : (setup : Setup) (x : TaskState) (doing : Doing) (lists : TaskLists) → TaskWaits setup x → HasSubmission x doing lists → DoingWaits setup doing lists
submission_waits setup (Writer number todo taken submission) doing lists t h = subst (λ (l : Submission). DoingWaits setup l.doing l.lists) h t
submission_waits setup (Rescuer dev submission) doing lists t h = subst (λ (l : Submission). DoingWaits setup l.doing l.lists) h t
submission_waits setup (Completer disk carried) doing lists t h = absurd h
submission_waits setup (Keeper keeping) doing lists t h = absurd h

relined : (setup : Setup) (x : TaskState) (new : Submission) → DoingWaits setup new.doing new.lists → TaskWaits setup (with_submission x new)
relined setup (Writer number todo taken submission) new n = n
relined setup (Rescuer dev submission) new n = n
relined setup (Completer disk carried) new n = tt
relined setup (Keeper keeping) new n = tt

module _ (scene : Scene) (s : State) (g : DeviceGeometry scene.setup) (r : AreRescued scene.setup) (k : Invariant scene s) (p : Placed scene.setup s) (i : Waits scene.setup s) where
  goes : (place : ℕ) (y : TaskState) → TaskWaits scene.setup y → (j : ℕ) → TaskWaits scene.setup (upd s.task place y j)
  goes place y fits = all-upd (TaskWaits scene.setup) s.task place y i.tasks fits

  on_submission : (place : ℕ) (x : TaskState) (new : Submission) → DoingWaits scene.setup new.doing new.lists → (j : ℕ) → TaskWaits scene.setup (upd s.task place (with_submission x new) j)
  on_submission place x new fits = goes place (with_submission x new) (relined scene.setup x new fits)

  has : (place : ℕ) (x : TaskState) (doing : Doing) (lists : TaskLists) → s.task place ≡ x → HasSubmission x doing lists → DoingWaits scene.setup doing lists
  has place x doing lists is h = submission_waits scene.setup x doing lists (subst (TaskWaits scene.setup) is (i.tasks place)) h

  tasks : (m : Move) → Can scene s m → (j : ℕ) → TaskWaits scene.setup ((after scene s m).task j)
  -- takes
  tasks (moves.TakesFirst place writer todo later move) c = goes place _ tt
  tasks (moves.TakesVector place writer todo later item move) c = goes place _ tt
  tasks (moves.TakesSub place x doing lists dev waits move) c = on_submission place x _ (links_wait scene.setup r doing dev (Takes waits) (clear_bio (scene.ledger (2 * dev.0))) lists c.3)
  tasks (moves.TakesSlip place x bio lists move) c = on_submission place x _ tt
  -- misses
  tasks (moves.MissesOne place x number used) c = goes place x (subst (TaskWaits scene.setup) c.1 (i.tasks place))
  tasks (moves.MissesTry place x doing lists dev used) c = on_submission place x _ (punts_wait scene.setup r doing dev lists c.3 (has place x doing lists c.1 c.2))
  -- punts
  tasks (moves.Punts place x doing lists dev) c = on_submission place x _ (punted_wait scene.setup (limit_of x) doing dev lists c.3 (placed_at scene.setup s p place x doing lists c.1 c.2))
  -- pops, pushes and completions
  tasks (moves.Pops place dev bio bios) c = goes place _ (settled_waits scene.setup r (bio ∷ []))
  tasks (moves.Pushes place x bio lists) c = on_submission place x _ (settled_waits scene.setup r (order bio.bio.dev lists))
  tasks (moves.Completed place disk index bio status new) c = goes place _ tt
  -- links of writes
  tasks (moves.Begins place writer todo later item vector key) c = goes place _ (settled_waits scene.setup r (filled_of writer todo item vector key ∷ []))
  -- links of pieces
  tasks (moves.Chained place x bio lists hand number kind sizes members key node) c =
      on_submission place x _ (settled_waits scene.setup r (order bio.bio.dev (cut_lists bio lists hand (first_length kind sizes bio.bio.range) key kind sizes members)))
  -- links of masters
  tasks (moves.Mastered place x bio lists slip key node) c =
      let d = placed_at scene.setup s p place x (Drives bio (ToMaster slip)) lists c.1 c.2 in
      on_submission place x _ (copies_wait scene.setup r lists bio.bio key 0 (λ is. waits_or_tries scene.setup bio.bio.dev lists d.0))
  -- links of legs
  tasks (moves.Legged place x bio lists master leg hand key node) c =
      let d = placed_at scene.setup s p place x (Copies bio master leg (Links hand)) lists c.1 c.2 in
      let lt = submission_fits scene x (Copies bio master leg (Links hand)) lists (subst (TaskIsSound scene) c.1 (k.tasks place)) c.2 in
      let item = leg_at bio hand leg key (tree_at scene.setup bio.dev) in
      on_submission place x _ (copies_wait scene.setup r (submitted item lists) bio master (leg + 1)
      (λ is.
      let ne = eqb-false (leg + 1) (legs_of (tree_at scene.setup bio.dev)) is in
      tries scene.setup bio.dev (submitted item lists) (r bio d.0 (omega (arith, lt, ne))) (one_more lists.list0 item)))
  -- drops, gives, ends of writes, resizes and rounds: by tasks without a submission
  tasks (moves.Told place disk carried writer key status part node) c = goes place _ tt
  tasks (moves.Closes place disk carried writer key status part node) c = goes place _ tt
  tasks (moves.Gives place disk writer number closed held) c = goes place _ tt
  tasks (moves.Ends place disk writer closed) c = goes place _ tt
  tasks (moves.Resized place pool min later duties) c = goes place _ tt
  tasks (moves.Started place round later duties) c = goes place _ tt

  rescued : (m : Move) → Can scene s m → (dev : ℕ) → ((after scene s m).objects.rescue dev ≡ []) ⊎ (scene.setup.rescuer dev ≡ true)
  -- punts
  rescued (moves.Punts place x doing lists dev) c =
      upd_keeps (λ d (bios : List (Item Pad)). (bios ≡ []) ⊎ (scene.setup.rescuer d ≡ true)) s.objects.rescue dev.0 (s.objects.rescue dev.0 ++ punted (Of dev) lists) i.rescued
      (inr (punts_rescued scene.setup r doing dev lists c.3 (has place x doing lists c.1 c.2)))
  -- pops
  rescued (moves.Pops place dev bio bios) c =
      upd_keeps (λ d (bios : List (Item Pad)). (bios ≡ []) ⊎ (scene.setup.rescuer d ≡ true)) s.objects.rescue dev.0 bios i.rescued (by_old (i.rescued dev.0))
    where
      by_old : (s.objects.rescue dev.0 ≡ []) ⊎ (scene.setup.rescuer dev.0 ≡ true) → (bios ≡ []) ⊎ (scene.setup.rescuer dev.0 ≡ true)
      by_old (inl none) = let e : bio ∷ bios ≡ [] = sym c.3 ∙ none in absurd cc
      by_old (inr is) = inr is
  -- all others: rescue lists stay as they are
  rescued _ c = i.rescued

  pub stays_waiting : (m : Move) → Can scene s m → Waits scene.setup (after scene s m)
  stays_waiting m c = record { tasks = tasks m c; rescued = rescued m c }

-- what stands behind one that waits is of other sets
above_other : (dev : DevId) (limit : ℕ) (setup : Setup) (items : List (Item Pad)) → Above dev.0 items → Each (IsPlaced setup limit) items → All (λ item. is_of (Of dev) item ≡ false) items
above_other dev limit setup [] above placed = All-nil (λ item. is_of (Of dev) item ≡ false)
above_other dev limit setup (item ∷ items) above placed =
    All-cons (λ item. is_of (Of dev) item ≡ false) item items (by_test (is_of (Of dev) item) refl) (above_other dev limit setup items above.1 placed.1)
  where
    by_test : (v : Bool) → is_of (Of dev) item ≡ v → v ≡ false
    by_test true is =
        let set : pool_number (bios_of item.bio.set) ≡ 2 * dev.0 = of_set dev item.bio.set item is in
        let own : item.share.no ≡ pool_number (bios_of item.bio.set) = placed.0.3 in
        let up = above.0 in
        absurd (omega (arith, set, own, up))
    by_test false is = refl

module _ (setup : Setup) (limit : ℕ) where
  waits_behind : (dev : DevId) (want : Want) (lists : TaskLists) → WantWaits (setup.rescuer dev.0) want lists → Above dev.0 lists.list1 → Each (IsPlaced setup limit) lists.list1
      → NoneBehind setup dev want lists
  waits_behind dev (Takes true) lists none above placed =
      (subst (All (λ item. is_of (Of dev) item ≡ false)) (sym none) (All-nil (λ item. is_of (Of dev) item ≡ false)), above_other dev limit setup lists.list1 above placed)
  waits_behind dev (Takes false) lists is above placed = is
  waits_behind dev WantsPunt lists is above placed = is
  waits_behind dev (Links hand) lists is above placed = tt

  doing_behind : (doing : Doing) (lists : TaskLists) → DoingWaits setup doing lists → DoingPlaced setup limit doing lists → DoesNotWaitForItself setup doing lists
  doing_behind Rests lists w d = tt
  doing_behind (Drives bio ToPush) lists w d = tt
  doing_behind (Drives bio (ToCut want)) lists w d = waits_behind bio.bio.dev want lists w d.2.0 d.1.1
  doing_behind (Drives bio ToRecord) lists w d = tt
  doing_behind (Drives bio (ToMaster slip)) lists w d = tt
  doing_behind (Copies bio master leg want) lists w d = waits_behind bio.dev want lists w d.4 d.3
  doing_behind (Breaks breach kept) lists w d = tt

task_behind : (setup : Setup) (x : TaskState) → TaskWaits setup x → TaskPlaced setup x → TaskDoesNotWaitForItself setup x
task_behind setup (Writer number todo taken submission) w t = doing_behind setup 32 submission.doing submission.lists w t.1
task_behind setup (Rescuer dev submission) w t = doing_behind setup dev.0 submission.doing submission.lists w t
task_behind setup (Completer disk carried) w t = tt
task_behind setup (Keeper keeping) w t = tt

pub none_waits : (scene : Scene) (s : State) → Placed scene.setup s → Waits scene.setup s → NoneWaitsForItself scene s
none_waits scene s p w = record { tasks = λ place. task_behind scene.setup (s.task place) (w.tasks place) (p.tasks place); rescued = w.rescued }
