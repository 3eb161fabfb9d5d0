-- Where no element is out and each write was begun, nothing is left to come.
use Rattle.std.proofs.Common.{◌≡◌, ◌*◌, ◌<◌, ◌≤◌, ℕ, List, [], ◌∷◌, length, Option, None, Some, inl, inr, refl, sym, ◌∙◌, ap, subst, arith}
use Rattle.std.specs.Prelude.{sum_by}
use Rattle.std.proofs.lemmas.List.Sums.{sum_by-cons}
use Rattle.bio_records.specs.declared.bio.Pad.{Pad}
use Rattle.bio_records.specs.Items.{Item}
use Rattle.bio_books.specs.declared.node.Role.{Role}
use Rattle.bio_books.specs.declared.node.Role.TheVariants as role
use Rattle.bio_books.specs.Books.{Node, SlipItem, node_at}
use Rattle.model_disks.specs.Disks.{DiskState}
use Rattle.run_machine.specs.Scene.{Scene, tree_at}
use Rattle.run_machine.specs.Submissions.{Takes, WantsPunt, Links, Doing, Rests, Drives, Copies, Breaks, Submission, rests, legs_of}
use Rattle.run_machine.specs.Tasks.{TaskState, Writer, Rescuer, Completer, Keeper, Gathered, NoBio, HasBio, HasBoth, Empty, Brings, Carries, Fails}
use Rattle.run_machine.specs.Runs.{State}
use Rattle.block_core.specs.Weights.{Weight, Pending, Rescued, Lined, total_weight, one_if_same, weigh_option, doing_weight, task_weight, submission_weight, gathered_weight, book_weight, elements_of_pool, holding_elements, legs_left}
use Rattle.block_core.proofs.moves.References.{references, awaited_ends}
use Rattle.block_core.specs.Fragments.{SubmitsNothing, NothingComes, HasBegunAll, AllIsHomeAndBegun, NothingComesWhereAllIsHome}
use Rattle.block_core.proofs.stuck.Idle.{sum_none}
use Rattle.block_core.proofs.moves.Sums.{one-same, within_book, below_or}
use Rattle.block_core.proofs.moves.Totals.{part_of}
use Rattle.block_core.specs.Roles.{named}
use Rattle.block_core.proofs.sound.Invariant.{away, own_part, own_of, TaskIsSound, SubmissionFits, DoingFits, Invariant}
use Rattle.block_core.proofs.images.PlannedOnce.{node_none}
use Rattle.block_core.proofs.images.MasterRecords.{bare_slip, bare_node, bare, no_bare}
use Rattle.layout_model.proofs.RangeSums.{sum_of_zero}
use Rattle.run_machine.specs.declared.event.Event.{Event}
use Rattle.run_machine.specs.Opened.{scene as opened_scene, start, todos, setup_in}
use Rattle.run_machine.specs.Runs.{IsRun}
use Rattle.block_core.proofs.sound.Invariant.{LedgersAreNumbered}
use Rattle.block_core.proofs.sound.Orders.{DeviceGeometry}
use Rattle.block_core.proofs.moves.Devices.{ground}
use Rattle.block_core.proofs.moves.StepMoves.{step_is_move}
use Rattle.block_core.proofs.sound.EveryRun.{IsReachedWhole, runs_whole, start_whole}
use Rattle.block_core.proofs.start.StartTotals.{opened_total}

-- no bio is in a list that has an element of no pool
no_items : (xs : List (Item Pad)) → ((p : ℕ) → sum_by (λ (bio : Item Pad). one_if_same bio.share.no p) xs ≡ 0) → xs ≡ []
no_items [] none = refl
no_items (x ∷ xs) none = absurd (omega (arith, none x.share.no, sum_by-cons (λ (bio : Item Pad). one_if_same bio.share.no x.share.no) x xs, one-same x.share.no))

want_named : (w k : ℕ) (limit : ℕ) (doing : Doing) → ((p : ℕ) → doing_weight (elements_of_pool p) limit doing ≡ 0) → doing_weight (named w k) limit doing ≡ 0
want_named w k limit Rests none = refl
want_named w k limit (Breaks breach kept) none = refl
want_named w k limit (Copies bio master leg (Takes waits)) none = refl
want_named w k limit (Copies bio master leg WantsPunt) none = refl
want_named w k limit (Copies bio master leg (Links hand)) none = refl
want_named w k limit (Drives bio ask) none = absurd (let h = none bio.share.no in let e = one-same bio.share.no in omega (arith, h, e))

submission_named : (w k limit : ℕ) (submission : Submission) → ((p : ℕ) → submission_weight (elements_of_pool p) limit submission ≡ 0) → submission_weight (named w k) limit submission ≡ 0
submission_named w k limit submission none =
    let l0 = no_items submission.lists.list0 (λ p. omega (arith, none p)) in
    let l1 = no_items submission.lists.list1 (λ p. omega (arith, none p)) in
    let d = want_named w k limit submission.doing (λ p. omega (arith, none p)) in
    omega (arith, d, ap (sum_by ((named w k).bio (Lined limit))) l0, ap (sum_by ((named w k).bio (Lined limit))) l1)

task_named : (w k place : ℕ) (x : TaskState) → ((p : ℕ) → task_weight (elements_of_pool p) place x ≡ 0) → task_weight (named w k) place x ≡ 0
task_named w k place (Writer number todos taken submission) none = omega (arith, taken_named taken, submission_named w k 32 submission (λ p. omega (arith, none p)))
  where
    taken_named : (taken : Gathered) → gathered_weight (named w k) taken ≡ 0
    taken_named NoBio = refl
    taken_named (HasBio bio) = refl
    taken_named (HasBoth bio vector) = refl
task_named w k place (Rescuer dev submission) none = submission_named w k dev.0 submission none
task_named w k place (Completer disk Empty) none = refl
task_named w k place (Completer disk (Brings bio status)) none = absurd (omega (arith, none bio.share.no, one-same bio.share.no))
task_named w k place (Completer disk (Carries writer closed)) none = refl
task_named w k place (Completer disk (Fails breach kept)) none = refl
task_named w k place (Keeper keeping) none = refl

held_some : (node : Node) → bare_node node.role node.held.slip ≡ 0 → own_part node.role node.held.bio ≡ 0 → ((p : ℕ) → holding_elements p node.held ≡ 0) → ⊥
held_some node slipped owned none = by_role node.role node.held.bio node.held.slip refl refl slipped owned
  where
    by_bio : (bio : Option (Item Pad)) → node.held.bio ≡ bio → away bio ≡ 0 → ⊥
    by_bio None is h = omega (arith, h)
    by_bio (Some bio) is h =
        let e : weigh_option (λ (b : Item Pad). one_if_same b.share.no bio.share.no) node.held.bio ≡ one_if_same bio.share.no bio.share.no = ap (weigh_option (λ (b : Item Pad). one_if_same b.share.no bio.share.no)) is in
        omega (arith, e, one-same bio.share.no, none bio.share.no)

    by_slip : (slip : Option SlipItem) → node.held.slip ≡ slip → bare_slip slip ≡ 0 → ⊥
    by_slip None is h = omega (arith, h)
    by_slip (Some slip) is h =
        let e : weigh_option (λ (x : SlipItem). one_if_same x.share.no slip.share.no) node.held.slip ≡ one_if_same slip.share.no slip.share.no = ap (weigh_option (λ (x : SlipItem). one_if_same x.share.no slip.share.no)) is in
        omega (arith, e, one-same slip.share.no, none slip.share.no)

    by_role : (r : Role) (bio : Option (Item Pad)) (slip : Option SlipItem) → node.held.bio ≡ bio → node.held.slip ≡ slip → bare_node r slip ≡ 0 → own_part r bio ≡ 0 → ⊥
    by_role role.Top bio slip b s h o = by_bio bio b o
    by_role (role.Chain parent) bio slip b s h o = by_bio bio b o
    by_role (role.Master parent) bio slip b s h o = by_slip slip s h
    by_role (role.Leg parent) bio slip b s h o = by_bio bio b o

module _ (scene : Scene) (s : State) (i : Invariant scene s) (slips : total_weight scene bare s ≡ 0) (out : (p : ℕ) → (s.objects.pool p).facts.out ≡ 0) where
  all_home : (p : ℕ) → total_weight scene (elements_of_pool p) s ≡ 0
  all_home p = sym (i.outs p) ∙ out p

  task_home : (p place : ℕ) → place < scene.tasks → task_weight (elements_of_pool p) place (s.task place) ≡ 0
  task_home p place lt = omega (arith, all_home p, part_of (task_weight (elements_of_pool p)) scene.tasks s.task place lt)

  rescue_home : (dev : ℕ) → dev < scene.setup.count → s.objects.rescue dev ≡ []
  rescue_home dev lt = no_items (s.objects.rescue dev) (λ p. omega (arith, all_home p, part_of (λ dev bios. sum_by ((elements_of_pool p).bio Rescued) bios) scene.setup.count s.objects.rescue dev lt))

  disk_home : (dev : ℕ) → dev < scene.setup.count → (s.objects.disk dev).pending ≡ []
  disk_home dev lt =
      no_items (s.objects.disk dev).pending (λ p. omega (arith, all_home p, part_of (λ dev (disk : DiskState). sum_by ((elements_of_pool p).bio Pending) disk.pending) scene.setup.count s.objects.disk dev lt))

  -- no bio names a node
  none_named : (w k : ℕ) → total_weight scene (named w k) s ≡ 0
  none_named w k =
      omega (
        arith,
        sum_none (task_weight (named w k)) scene.tasks s.task (λ place lt. task_named w k place (s.task place) (λ p. task_home p place lt)),
        sum_none (λ dev bios. sum_by ((named w k).bio Rescued) bios) scene.setup.count s.objects.rescue (λ dev lt. ap (sum_by ((named w k).bio Rescued)) (rescue_home dev lt)),
        sum_none (λ dev (disk : DiskState). sum_by ((named w k).bio Pending) disk.pending) scene.setup.count s.objects.disk (λ dev lt. ap (sum_by ((named w k).bio Pending)) (disk_home dev lt)),
        sum_none (book_weight (named w k)) scene.books s.objects.book (λ writer lt. sum_none (λ place. weigh_option ((named w k).node writer place)) _ _ (λ place below. node_none _)),
      )

  node_weighs : (w : Weight) (writer k : ℕ) (node : Node) → writer < scene.books → node_at (s.objects.book writer) k ≡ Some node → w.node writer k node ≤ total_weight scene w s
  node_weighs w writer k node lt at =
      let within = within_book (s.objects.book writer) k node at in
      let a = part_of (book_weight w) scene.books s.objects.book writer lt in
      let b = part_of (λ place. weigh_option (w.node writer place)) (length (s.objects.book writer).nodes) (node_at (s.objects.book writer)) k within in
      let c : weigh_option (w.node writer k) (node_at (s.objects.book writer) k) ≡ w.node writer k node = ap (weigh_option (w.node writer k)) at in
      omega (arith, a, b, c)

  -- so no node is open
  pub none_open : (writer k : ℕ) (node : Node) → node_at (s.objects.book writer) k ≡ Some node → ⊥
  none_open writer k node at = elim (below_or writer scene.books) [
    | inl lt ↦
        let owned : own_of (node_at (s.objects.book writer) k) ≡ own_part node.role node.held.bio = ap own_of at in
        held_some node (omega (arith, slips, node_weighs bare writer k node lt at)) (omega (arith, owned, i.owns writer k, none_named writer k))
        (λ p. omega (arith, all_home p, node_weighs (elements_of_pool p) writer k node lt at))
    | inr ge ↦
        let none : node_at (s.objects.book writer) k ≡ None = ap (λ nodes. node_at (record { writer = (s.objects.book writer).writer; nodes = nodes }) k) (i.inside writer ge) in
        absurd (let e : None ≡ Some node = sym none ∙ at in cc)
  ]

  no_refs : (writer k : ℕ) → total_weight scene (references scene.setup writer k) s ≡ 0
  no_refs writer k = by_node (node_at (s.objects.book writer) k) refl
    where
      by_node : (found : Option Node) → node_at (s.objects.book writer) k ≡ found → total_weight scene (references scene.setup writer k) s ≡ 0
      by_node None at = sym (i.counts writer k) ∙ ap awaited_ends at
      by_node (Some node) at = absurd (none_open writer k node at)

  -- and no submission is at work
  submission_rests : (place limit : ℕ) (x : TaskState) (submission : Submission) → place < scene.tasks → s.task place ≡ x → SubmissionFits scene.setup submission
      → ((w : Weight) → submission_weight w limit submission ≤ task_weight w place x) → submission ≡ rests
  submission_rests place limit x submission lt is fits part = by_doing submission.doing refl fits
    where
      weighs : (w : Weight) → doing_weight w limit submission.doing ≤ total_weight scene w s
      weighs w =
          let a = part_of (task_weight w) scene.tasks s.task place lt in
          let b : task_weight w place (s.task place) ≡ task_weight w place x = ap (task_weight w place) is in
          omega (arith, a, b, part w)

      by_doing : (doing : Doing) → submission.doing ≡ doing → DoingFits scene.setup submission.doing submission.lists → submission ≡ rests
      by_doing Rests q f = let lists = subst (λ d. DoingFits scene.setup d submission.lists) q f in λ j. record { doing = q j; lists = lists j }
      by_doing (Breaks breach kept) q f = absurd (subst (λ d. DoingFits scene.setup d submission.lists) q f)
      by_doing (Drives bio ask) q f =
          let a = weighs (elements_of_pool bio.share.no) in
          let b : doing_weight (elements_of_pool bio.share.no) limit submission.doing ≡ doing_weight (elements_of_pool bio.share.no) limit (Drives bio ask) = ap (doing_weight (elements_of_pool bio.share.no) limit) q in
          absurd (omega (arith, a, b, one-same bio.share.no, all_home bio.share.no))
      by_doing (Copies bio master leg want) q f =
          let lt : leg < legs_of (tree_at scene.setup bio.dev) = subst (λ d. DoingFits scene.setup d submission.lists) q f in
          let w = references scene.setup bio.writer master in
          let a = weighs w in
          let b : doing_weight w limit submission.doing ≡ doing_weight w limit (Copies bio master leg want) = ap (doing_weight w limit) q in
          let c : one_if_same bio.writer bio.writer * one_if_same master master * legs_left scene.setup bio leg ≡ legs_left scene.setup bio leg = rw (one-same bio.writer, one-same master) (omega arith) in
          absurd (omega (arith, a, b, c, lt, no_refs bio.writer master))

  has_none : (place : ℕ) (x : TaskState) → place < scene.tasks → s.task place ≡ x → TaskIsSound scene x → HasBegunAll x → SubmitsNothing x
  has_none place (Writer number todos taken submission) lt is fits begun = (begun, submission_rests place 32 (Writer number todos taken submission) submission lt is fits.1 (λ w. omega arith))
  has_none place (Rescuer dev submission) lt is fits begun = submission_rests place dev.0 (Rescuer dev submission) submission lt is fits.1 (λ w. omega arith)
  has_none place (Completer disk carried) lt is fits begun = tt
  has_none place (Keeper keeping) lt is fits begun = tt

  pub home_comes : AllIsHomeAndBegun scene s → NothingComes scene s
  home_comes home = record {
    tasks = λ place lt. has_none place (s.task place) lt refl (i.tasks place) (home.tasks place lt);
    rescued = rescue_home;
    pending = disk_home;
  }

module _ (scene : Scene) (f : LedgersAreNumbered scene) (g : DeviceGeometry scene.setup) where
  runs_hold_slips : (s : State) (events : List Event) (new : State) → IsReachedWhole scene s → total_weight scene bare s ≡ 0 → IsRun scene s events new → total_weight scene bare new ≡ 0
  runs_hold_slips s [] new i none run = ap (total_weight scene bare) run ∙ none
  runs_hold_slips s (event ∷ events) new i none (next, (place, steps), run) =
      let moved = step_is_move scene s f i.kept place event next steps in
      let j = runs_whole scene f g s (event ∷ []) next i (next, (place, steps), refl) in
      runs_hold_slips next events new j (ap (total_weight scene bare) moved.is ∙ no_bare scene s none moved.move moved.can) run

pub nothing_comes_where_all_is_home : NothingComesWhereAllIsHome
nothing_comes_where_all_is_home s ledger events state good naming run home =
    let f : LedgersAreNumbered (opened_scene s ledger) = record { named = naming } in
    let g = ground s.stack good.stack (setup_in s).places in
    let i = start_whole s ledger good naming in
    let opened = opened_total s good ledger bare (λ todo. 0) (λ n ts. sym (sum_of_zero ts)) ∙ sum_of_zero (todos s) in
    let kept = (runs_whole (opened_scene s ledger) f g (start s) events state i run).kept in
    home_comes (opened_scene s ledger) state kept (runs_hold_slips (opened_scene s ledger) f g (start s) events state i opened run) home.pools home
