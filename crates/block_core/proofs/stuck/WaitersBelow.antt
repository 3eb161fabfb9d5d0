-- Where no task has anything to do that needs no ordinary memory, each open node and each element that is out has a task that waits below it.
-- So there is none.
use Rattle.std.proofs.Common.{◌≡◌, ◌+◌, ◌*◌, ◌<◌, ◌≤◌, ◌⊎◌, ℕ, zero, suc, true, List, [], length, Option, None, Some, inl, inr, refl, ◌∙◌, ap, subst, arith}
use Rattle.std.specs.Prelude.{sum_by}
use Rattle.bio_records.specs.declared.bio.Bio.{Bio}
use Rattle.bio_records.specs.declared.bio.Pad.{Pad}
use Rattle.bio_records.specs.declared.tasks.TaskLists.{TaskLists}
use Rattle.bio_records.specs.Items.{Item}
use Rattle.bio_lists.specs.Submission.{no_lists}
use Rattle.bio_books.specs.Books.{Node, VectorItem, SlipItem, Holding, node_at, parent_of}
use Rattle.model_disks.specs.Disks.{DiskState}
use Rattle.run_machine.specs.Scene.{Setup, Scene}
use Rattle.run_machine.specs.Submissions.{Doing, Rests, Drives, Copies, Breaks, Submission, rests}
use Rattle.run_machine.specs.Tasks.{TaskState, Writer, Rescuer, Completer, Keeper, Todo, Gathered, NoBio, HasBio, HasBoth, Empty, Brings, Carries, Fails}
use Rattle.run_machine.specs.Runs.{State}
use Rattle.block_core.specs.Weights.{Weight, Pending, Rescued, Lined, total_weight, sum_at, one_if_same, weigh_option, doing_weight, task_weight, submission_weight, book_weight, elements_of_pool, holding_elements, names_node, under, legs_left}
use Rattle.block_core.proofs.moves.References.{references, awaited_ends}
use Rattle.block_core.proofs.moves.Sums.{apart}
use Rattle.block_core.proofs.sound.Invariant.{DoingFits, SubmissionFits, TaskIsSound, Invariant}
use Rattle.block_core.proofs.sound.TaskSubmissions.{IsBusy, rests_or_busy}
use Rattle.block_core.proofs.sound.Orders.{IsOwn, DoingPlaced, TaskPlaced, Placed, DeviceGeometry}
use Rattle.std.specs.Prelude.{min}
use Rattle.stack_base.proofs.NumberLemmas.{zero_or}
use Rattle.block_core.proofs.sound.NodesWait.{IsAlive}
use Rattle.block_core.proofs.moves.Totals.{part_of}
use Rattle.block_core.proofs.sound.OffLevels.{bio_off, parent_off, held_off, off_levels}
use Rattle.block_core.proofs.stuck.Waits.{DoingWaits, TaskWaits, Waits}
use Rattle.block_core.proofs.stuck.NothingWaits.{IsPool, spares, StillDoing, StillWriter, StillRescuer, IsStill, AllStill, Below, lower, some_place, some_one, one-eq, both, Found, submission_found, submission_below}

-- what holds of a state of a run, so far as no task waits for itself
pub record WaitInvariant (scene : Scene) (s : State) (level : ℕ → ℕ → ℕ) : Type 0 where
  pub ground : DeviceGeometry scene.setup
  pub kept : Invariant scene s
  pub placed : Placed scene.setup s
  pub waits : Waits scene.setup s
  pub alive : (w k : ℕ) → IsAlive (node_at (s.objects.book w) k)
  pub levels : total_weight scene (off_levels level) s ≡ 0
  -- each pool that a task can wait at keeps an element
  pub mins : (number : ℕ) → IsPool scene.setup number → 1 ≤ (s.objects.pool number).facts.min

module _ (scene : Scene) (s : State) (level : ℕ → ℕ → ℕ) (known : WaitInvariant scene s level) (c : AllStill scene s) where
  abbrev setup : Setup
  setup = scene.setup

  abbrev off : Weight
  off = off_levels level

  -- a busy submission of a task
  still_submission : (s : State) (todo : List Todo) (taken : Gathered) (doing : Doing) → IsBusy doing → StillWriter s todo taken doing → StillDoing s doing
  still_submission s todo taken Rests busy still = absurd busy
  still_submission s todo taken (Drives bio ask) busy still = still
  still_submission s todo taken (Copies bio master leg want) busy still = still
  still_submission s todo taken (Breaks breach kept) busy still = still

  still_rescuer : (s : State) (dev : ℕ) (doing : Doing) → IsBusy doing → StillRescuer s dev doing → StillDoing s doing
  still_rescuer s dev Rests busy still = absurd busy
  still_rescuer s dev (Drives bio ask) busy still = still
  still_rescuer s dev (Copies bio master leg want) busy still = still
  still_rescuer s dev (Breaks breach kept) busy still = still

  -- at rest the lists are empty
  rests_zero : (u : Weight) (limit : ℕ) (submission : Submission) → submission.doing ≡ Rests → SubmissionFits setup submission → submission_weight u limit submission ≡ 0
  rests_zero u limit submission is fits =
      let none : submission.lists ≡ no_lists = subst (λ (d : Doing). DoingFits setup d submission.lists) is fits in
      ap (λ (d : Doing). doing_weight u limit d + sum_by (u.bio (Lined limit)) submission.lists.list0 + sum_by (u.bio (Lined limit)) submission.lists.list1) is
      ∙ ap (λ (l : TaskLists). 0 + sum_by (u.bio (Lined limit)) l.list0 + sum_by (u.bio (Lined limit)) l.list1) none

  submission_any : (u : Weight) (limit : ℕ) (submission : Submission) → SubmissionFits setup submission → DoingPlaced setup limit submission.doing submission.lists → DoingWaits setup submission.doing submission.lists
      → (IsBusy submission.doing → StillDoing s submission.doing) → 1 ≤ submission_weight u limit submission → submission_weight off limit submission ≡ 0 → Found scene s known.ground u off limit
  submission_any u limit submission fits d w still some none = elim (rests_or_busy submission.doing) [
    | inl is ↦ absurd (omega (arith, some, rests_zero u limit submission is fits))
    | inr busy ↦ submission_found scene s known.ground u off limit submission.doing submission.lists fits d w (still busy) some none
  ]

  -- what a task has that weighs: a bio or a run of its submission, or a bio in its hand with which it waits for a vector
  abbrev Has : Weight → Type 0
  Has u = ((limit : ℕ) × Found scene s known.ground u off limit) ⊎ ((item : Item Pad) × (1 ≤ u.hand item) × (item.share.no ≡ 65) × (spares s 64 ≡ 0))

  task_found : (u : Weight) → ((n : ℕ) (todos : List Todo) (taken : Gathered) → u.todo n todos taken ≡ 0) → (place : ℕ) (x : TaskState) → TaskIsSound scene x → TaskPlaced setup x → TaskWaits setup x → IsStill s x
      → 1 ≤ task_weight u place x → task_weight off place x ≡ 0 → Has u
  -- writers: one without a bio has its submission, one with a bio waits for a vector, and one with both does not stand still
  task_found u todos place (Writer number todo NoBio submission) fits t w still some none =
      let z = todos number todo NoBio in
      inl (32, submission_any u 32 submission fits.1 t.1 w (λ busy. still_submission s todo NoBio submission.doing busy still) (omega (arith, some, z)) (omega (arith, none)))
  task_found u todos place (Writer number todo (HasBio item) submission) fits t w still some none =
      let z = todos number todo (HasBio item) in
      let at_rest : submission ≡ rests = fits.2 in
      let empty : spares s 64 ≡ 0 = subst (λ (l : Submission). StillWriter s todo (HasBio item) l.doing) at_rest still in
      let nothing : submission_weight u 32 submission ≡ 0 = ap (submission_weight u 32) at_rest in
      inr (item, omega (arith, some, z, nothing), t.2, empty)
  task_found u todos place (Writer number todo (HasBoth item vector) submission) fits t w still some none =
      let at_rest : submission ≡ rests = fits.2 in
      absurd (subst (λ (l : Submission). StillWriter s todo (HasBoth item vector) l.doing) at_rest still)
  -- rescuers: what weighs is the submission
  task_found u todos place (Rescuer dev submission) fits t w still some none =
      inl (dev.0, submission_any u dev.0 submission fits.1 t w (λ busy. still_rescuer s dev.0 submission.doing busy still) some none)
  -- completers: one that is empty has no weight, and no other stands still
  task_found u todos place (Completer disk Empty) fits t w still some none = absurd (omega (arith, some))
  task_found u todos place (Completer disk (Brings bio status)) fits t w still some none = absurd still
  task_found u todos place (Completer disk (Carries writer closed)) fits t w still some none = absurd still
  task_found u todos place (Completer disk (Fails breach kept)) fits t w still some none = absurd still
  -- the keeper has no weight
  task_found u todos place (Keeper keeping) fits t w still some none = absurd (omega (arith, some))

  -- the rescuer of a list that is not empty waits below its set
  rescuer_waits : (dev : ℕ) → dev < setup.count → (s.objects.rescue dev ≡ [] → ⊥) → (pool : ℕ) × (pool < 2 * dev) × (pool < 64) × (spares s pool ≡ 0) × IsPool setup pool
  rescuer_waits dev lt some =
      let r = c.rescuers dev lt (by_rescuer (known.waits.rescued dev)) in
      let fits : TaskIsSound scene (Rescuer (record { 0 = dev }) r.1) = subst (TaskIsSound scene) r.3 (known.kept.tasks r.0) in
      let t : TaskPlaced setup (Rescuer (record { 0 = dev }) r.1) = subst (TaskPlaced setup) r.3 (known.placed.tasks r.0) in
      let still : IsStill s (Rescuer (record { 0 = dev }) r.1) = subst (IsStill s) r.3 (c.still r.0 r.2) in
      elim (rests_or_busy r.1.doing) [
        | inl is ↦ absurd (some (subst (StillRescuer s dev) is still))
        | inr busy ↦ submission_below scene s known.ground off off dev r.1.doing r.1.lists fits.1 t busy (still_rescuer s dev r.1.doing busy still)
      ]
    where
      by_rescuer : (s.objects.rescue dev ≡ []) ⊎ (setup.rescuer dev ≡ true) → setup.rescuer dev ≡ true
      by_rescuer (inl none) = absurd (some none)
      by_rescuer (inr is) = is

  rescue_found : (u : Weight) (dev : ℕ) → dev < setup.count → 1 ≤ sum_by (u.bio Rescued) (s.objects.rescue dev) → sum_by (off.bio Rescued) (s.objects.rescue dev) ≡ 0
      → (item : Item Pad) × Below setup s (min item.share.no 64) × (1 ≤ u.bio Rescued item) × (off.bio Rescued item ≡ 0)
  rescue_found u dev lt some none =
      let r = rescuer_waits dev lt (λ e. let z : sum_by (u.bio Rescued) (s.objects.rescue dev) ≡ 0 = ap (sum_by (u.bio Rescued)) e in omega (arith, some, z)) in
      let o = some_one (u.bio Rescued) (off.bio Rescued) (IsOwn setup dev dev) (s.objects.rescue dev) some none (known.placed.rescued dev) in
      let own : o.0.share.no ≡ 2 * dev = o.1.1 in
      let low = r.1 in
      let few = r.2 in
      (o.0, record { pool = r.0; low = omega (arith, own, low, few); empty = r.3; is = r.4 }, o.2, o.3)

  -- parts of the levels' sum
  off_task : (place : ℕ) → place < scene.tasks → task_weight off place (s.task place) ≡ 0
  off_task place lt = let le = part_of (task_weight off) scene.tasks s.task place lt in let z = known.levels in omega (arith, le, z)

  off_rescue : (dev : ℕ) → dev < setup.count → sum_by (off.bio Rescued) (s.objects.rescue dev) ≡ 0
  off_rescue dev lt = let le = part_of (λ dev bios. sum_by (off.bio Rescued) bios) setup.count s.objects.rescue dev lt in let z = known.levels in omega (arith, le, z)

  off_node : (w k : ℕ) (node : Node) → w < scene.books → k < length (s.objects.book w).nodes → node_at (s.objects.book w) k ≡ Some node
      → (parent_off level w k (parent_of node.role) ≡ 0) × (held_off (level w k) node.held ≡ 0)
  off_node w k node lt few at =
      let a = part_of (book_weight off) scene.books s.objects.book w lt in
      let b = part_of (λ place. weigh_option (off.node w place)) (length (s.objects.book w).nodes) (node_at (s.objects.book w)) k few in
      let e : weigh_option (off.node w k) (node_at (s.objects.book w) k) ≡ parent_off level w k (parent_of node.role) + held_off (level w k) node.held = ap (weigh_option (off.node w k)) at in
      let z = known.levels in
      (omega (arith, a, b, e, z), omega (arith, a, b, e, z))

  -- no disk has a bio that weighs
  no_pending : (u : Weight) → sum_at (λ dev (disk : DiskState). sum_by (u.bio Pending) disk.pending) setup.count s.objects.disk ≡ 0
  no_pending u = elim (zero_or (sum_at (λ dev (disk : DiskState). sum_by (u.bio Pending) disk.pending) setup.count s.objects.disk)) [
    | inl z ↦ z
    | inr some ↦
        let d = some_place (λ dev (disk : DiskState). sum_by (u.bio Pending) disk.pending) setup.count s.objects.disk some in
        let none : sum_by (u.bio Pending) (s.objects.disk d.0).pending ≡ 0 = ap (sum_by (u.bio Pending)) (c.disks d.0 d.1) in
        let more = d.2 in
        absurd (omega (arith, none, more))
  ]

  -- a bio that names a node is of the node's level
  named_below : (w k : ℕ) (item : Item Pad) → Below setup s (min item.share.no 64) → 1 ≤ names_node w k item → bio_off level item ≡ 0 → Below setup s (level w k)
  named_below w k item below some none =
      let b = both (one_if_same item.bio.writer w) (one_if_same item.bio.node k) some in
      let a : level item.bio.writer item.bio.node ≡ level w k = ap (level item.bio.writer) (one-eq item.bio.node k b.1) ∙ ap (λ v. level v k) (one-eq item.bio.writer w b.0) in
      lower setup s (min item.share.no 64) (level w k) (omega (arith, a, none)) below

  copied_below : (w k : ℕ) (bio : Bio) (master leg : ℕ) → Below setup s (2 * bio.dev.0 + 1) → 1 ≤ one_if_same bio.writer w * one_if_same master k * legs_left setup bio leg
      → apart (level bio.writer master) (2 * bio.dev.0 + 1) ≡ 0 → Below setup s (level w k)
  copied_below w k bio master leg below some none =
      let b = both (one_if_same bio.writer w) (one_if_same master k) (both (one_if_same bio.writer w * one_if_same master k) (legs_left setup bio leg) some).0 in
      let a : level bio.writer master ≡ level w k = ap (level bio.writer) (one-eq master k b.1) ∙ ap (λ v. level v k) (one-eq bio.writer w b.0) in
      lower setup s (2 * bio.dev.0 + 1) (level w k) (omega (arith, a, none)) below

  -- what weighs something weighs it in a task, in a rescuer's list or in a node
  found_at : {X : Type 0} (u : Weight) → ((n : ℕ) (todos : List Todo) (taken : Gathered) → u.todo n todos taken ≡ 0) → 1 ≤ total_weight scene u s → (Has u → X)
      → ((item : Item Pad) → Below setup s (min item.share.no 64) → 1 ≤ u.bio Rescued item → off.bio Rescued item ≡ 0 → X)
      → ((v j : ℕ) → v < scene.books → j < length (s.objects.book v).nodes → 1 ≤ weigh_option (u.node v j) (node_at (s.objects.book v) j) → X) → X
  found_at u todos some by_task by_rescue by_node =
      let pending = no_pending u in
      elim (zero_or (sum_at (task_weight u) scene.tasks s.task)) [
        | inr h ↦
            let t = some_place (task_weight u) scene.tasks s.task h in
            by_task (task_found u todos t.0 (s.task t.0) (known.kept.tasks t.0) (known.placed.tasks t.0) (known.waits.tasks t.0) (c.still t.0 t.1) t.2 (off_task t.0 t.1))
        | inl no_task ↦ elim (zero_or (sum_at (λ dev bios. sum_by (u.bio Rescued) bios) setup.count s.objects.rescue)) [
          | inr h ↦
              let d = some_place (λ dev bios. sum_by (u.bio Rescued) bios) setup.count s.objects.rescue h in
              let r = rescue_found u d.0 d.1 d.2 (off_rescue d.0 d.1) in
              by_rescue r.0 r.1 r.2 r.3
          | inl no_rescue ↦
              let books : 1 ≤ sum_at (book_weight u) scene.books s.objects.book = omega (arith, some, no_task, no_rescue, pending) in
              let v = some_place (book_weight u) scene.books s.objects.book books in
              let j = some_place (λ place. weigh_option (u.node v.0 place)) (length (s.objects.book v.0).nodes) (node_at (s.objects.book v.0)) v.2 in
              by_node v.0 j.0 v.1 j.1 j.2
        ]
      ]

  -- each open node has a task that waits below its level
  pub node_waits : (fuel w k : ℕ) (node : Node) → node_at (s.objects.book w) k ≡ Some node → level w k < fuel → Below setup s (level w k)
  node_waits zero w k node at lt = absurd (omega (arith, lt))
  node_waits (suc fuel) w k node at lt =
      let u = references setup w k in
      let alive : 1 ≤ node.count = subst IsAlive at (known.alive w k) in
      let counted : awaited_ends (node_at (s.objects.book w) k) ≡ node.count = ap awaited_ends at in
      let some : 1 ≤ total_weight scene u s = let all = known.kept.counts w k in omega (arith, alive, counted, all) in
      found_at u (λ n todos taken. refl) some by_task (λ item below some none. named_below w k item below some none)
      (λ v j known_book inside h. by_node v j known_book inside (node_at (s.objects.book v) j) refl h (λ w2 k2 node2 at2 lt2. node_waits fuel w2 k2 node2 at2 lt2))
    where
      by_task : Has (references setup w k) → Below setup s (level w k)
      by_task (inl (limit, inl (item, below, some, none))) = named_below w k item below some none
      by_task (inl (limit, inr (bio, master, leg, below, some, none))) = copied_below w k bio master leg below some none
      by_task (inr (item, some, home, empty)) = absurd (omega (arith, some))

      by_node : (v j : ℕ) → v < scene.books → j < length (s.objects.book v).nodes → (found : Option Node) → node_at (s.objects.book v) j ≡ found
          → 1 ≤ weigh_option ((references setup w k).node v j) found → ((w2 k2 : ℕ) (node2 : Node) → node_at (s.objects.book w2) k2 ≡ Some node2 → level w2 k2 < fuel → Below setup s (level w2 k2))
          → Below setup s (level w k)
      by_node v j known_book inside None is h again = absurd (omega (arith, h))
      by_node v j known_book inside (Some child) is h again = by_parent (parent_of child.role) h (off_node v j child known_book inside is).0
        where
          by_parent : (parent : Option ℕ) → 1 ≤ under w k v parent → parent_off level v j parent ≡ 0 → Below setup s (level w k)
          by_parent None h none = absurd (omega (arith, h))
          by_parent (Some parent) h none =
              let b = both (one_if_same v w) (one_if_same parent k) h in
              let a : level v parent ≡ level w k = ap (level v) (one-eq parent k b.1) ∙ ap (λ x. level x k) (one-eq v w b.0) in
              lower setup s (level v j) (level w k) (omega (arith, a, none)) (again v j child is (omega (arith, a, none, lt)))

  -- what a node holds is of pools of its level
  held_above : (q l : ℕ) (held : Holding) → 1 ≤ holding_elements q held → held_off l held ≡ 0 → l ≤ q
  held_above q l held some none = by_three held.bio held.vector held.slip some none
    where
      by_three : (bio : Option (Item Pad)) (vector : Option VectorItem) (slip : Option SlipItem)
          → 1 ≤ weigh_option (λ (bio : Item Pad). one_if_same bio.share.no q) bio + weigh_option (λ (vector : VectorItem). one_if_same vector.share.no q) vector + weigh_option (λ (slip : SlipItem). one_if_same slip.share.no q) slip
          → weigh_option (λ (bio : Item Pad). apart l (min bio.share.no 64)) bio + weigh_option (λ (vector : VectorItem). apart l (min vector.share.no 64)) vector + weigh_option (λ (slip : SlipItem). apart l (min slip.share.no 64)) slip ≡ 0
          → l ≤ q
      by_three bio vector slip some none = elim (zero_or (weigh_option (λ (bio : Item Pad). one_if_same bio.share.no q) bio)) [
        | inr h ↦ by_bio bio h (omega (arith, none))
        | inl no_bio ↦ elim (zero_or (weigh_option (λ (vector : VectorItem). one_if_same vector.share.no q) vector)) [
          | inr h ↦ by_vector vector h (omega (arith, none))
          | inl no_vector ↦ by_slip slip (omega (arith, some, no_bio, no_vector)) (omega (arith, none))
        ]
      ]
        where
          by_bio : (bio : Option (Item Pad)) → 1 ≤ weigh_option (λ (bio : Item Pad). one_if_same bio.share.no q) bio → weigh_option (λ (bio : Item Pad). apart l (min bio.share.no 64)) bio ≡ 0 → l ≤ q
          by_bio None h z = absurd (omega (arith, h))
          by_bio (Some bio) h z = omega (arith, one-eq bio.share.no q h, z)

          by_vector : (vector : Option VectorItem) → 1 ≤ weigh_option (λ (vector : VectorItem). one_if_same vector.share.no q) vector → weigh_option (λ (vector : VectorItem). apart l (min vector.share.no 64)) vector ≡ 0 → l ≤ q
          by_vector None h z = absurd (omega (arith, h))
          by_vector (Some vector) h z = omega (arith, one-eq vector.share.no q h, z)

          by_slip : (slip : Option SlipItem) → 1 ≤ weigh_option (λ (slip : SlipItem). one_if_same slip.share.no q) slip → weigh_option (λ (slip : SlipItem). apart l (min slip.share.no 64)) slip ≡ 0 → l ≤ q
          by_slip None h z = absurd (omega (arith, h))
          by_slip (Some slip) h z = omega (arith, one-eq slip.share.no q h, z)

  -- a pool with an element out has a task that waits below it
  pub out_below : (q : ℕ) → 1 ≤ (s.objects.pool q).facts.out → Below setup s q
  out_below q out =
      let u = elements_of_pool q in
      let some : 1 ≤ total_weight scene u s = let all = known.kept.outs q in omega (arith, out, all) in
      found_at u (λ n todos taken. refl) some by_task
      (λ item below some none. let same = one-eq item.share.no q some in lower setup s (min item.share.no 64) q (omega (arith, same)) below)
      (λ v j known_book inside h. by_node v j known_book inside (node_at (s.objects.book v) j) refl h)
    where
      by_task : Has (elements_of_pool q) → Below setup s q
      by_task (inl (limit, inl (item, below, some, none))) = let same = one-eq item.share.no q some in lower setup s (min item.share.no 64) q (omega (arith, same)) below
      by_task (inl (limit, inr (bio, master, leg, below, some, none))) = absurd (omega (arith, some))
      by_task (inr (item, some, home, empty)) =
          let same = one-eq item.share.no q some in
          record { pool = 64; low = omega (arith, same, home); empty = empty; is = inr (inl refl) }

      by_node : (v j : ℕ) → v < scene.books → j < length (s.objects.book v).nodes → (found : Option Node) → node_at (s.objects.book v) j ≡ found
          → 1 ≤ weigh_option ((elements_of_pool q).node v j) found → Below setup s q
      by_node v j known_book inside None is h = absurd (omega (arith, h))
      by_node v j known_book inside (Some node) is h =
          lower setup s (level v j) q (held_above q (level v j) node.held h (off_node v j node known_book inside is).1) (node_waits (level v j + 1) v j node is (omega arith))

  -- so no task waits at any pool
  pub none_below : (fuel l : ℕ) → l < fuel → Below setup s l → ⊥
  none_below zero l lt below = omega (arith, lt)
  none_below (suc fuel) l lt below =
      let q = below.pool in
      let low = below.low in
      let empty = below.empty in
      let adds = (known.kept.pools q).elements in
      let min_one = known.mins q below.is in
      none_below fuel q (omega (arith, low, lt)) (out_below q (omega (arith, adds, min_one, empty)))

  -- no node is open
  pub none_open : (w k : ℕ) (node : Node) → node_at (s.objects.book w) k ≡ Some node → ⊥
  none_open w k node at = none_below (level w k + 1) (level w k) (omega arith) (node_waits (level w k + 1) w k node at (omega arith))

  -- and every element is at home
  pub all_home : (q : ℕ) → (s.objects.pool q).facts.out ≡ 0
  all_home q = elim (zero_or (s.objects.pool q).facts.out) [
    | inl z ↦ z
    | inr some ↦ absurd (none_below (q + 1) q (omega arith) (out_below q some))
  ]

  -- no pool at which a task can wait is without a spare
  pub has_spare : (q : ℕ) → IsPool setup q → spares s q ≡ 0 → ⊥
  has_spare q is empty = none_below (q + 2) (q + 1) (omega arith) (record { pool = q; low = omega arith; empty = empty; is = is })
