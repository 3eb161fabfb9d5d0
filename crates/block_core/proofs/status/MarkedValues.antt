-- What marks say of nodes, in the words of runs and ends.
use Rattle.std.proofs.Common.{◌≡◌, ◌≢◌, ◌+◌, ◌-◌, ◌*◌, ◌<◌, ◌≤◌, ◌⊎◌, ℕ, Bool, true, false, IsTrue, List, [], ◌∷◌, Option, None, Some, inl, inr, refl, sym, ◌∙◌, ap, subst, arith}
use Rattle.std.specs.Prelude.{sum_by, slice_get, All}
use Rattle.std.specs.List.{range_with_len}
use Rattle.std.specs.Option.{option_map_or}
use Rattle.std.proofs.lemmas.List.Elements.{All-nil, All-cons}
use Rattle.std.proofs.lemmas.List.Sums.{sum_by-cons}
use Rattle.stack_base.specs.declared.ids.DevId.{DevId}
use Rattle.stack_base.specs.declared.ids.Status.{Status}
use Rattle.stack_base.specs.declared.ids.Status.TheVariants.{Ok, Io, Medium, NoSpace}
use Rattle.stack_base.specs.Tree.{Tree, Leaf, Split, Mirrored, tree}
use Rattle.stack_base.proofs.NumberLemmas.{zero_or}
use Rattle.layout_model.specs.declared.fragment.Fragment.{Fragment}
use Rattle.layout_model.specs.declared.write.Write.{Write}
use Rattle.layout_model.specs.Plan.{plan}
use Rattle.layout_model.specs.May.{may_end, fault_of}
use Rattle.bio_records.specs.declared.bio.Bio.{Bio}
use Rattle.bio_records.specs.declared.bio.Pad.{Pad}
use Rattle.bio_records.specs.Items.{Item}
use Rattle.bio_books.specs.declared.node.Role.TheVariants as role
use Rattle.bio_books.specs.Books.{Node, node_at, parent_of}
use Rattle.bio_books.specs.Drops.{Closed}
use Rattle.run_machine.specs.Scene.{Setup, Scene, tree_at}
use Rattle.run_machine.specs.Submissions.{Copies, Submission}
use Rattle.run_machine.specs.Tasks.{Todo, Gathered, Writer, Completer, Carries}
use Rattle.run_machine.specs.Opened.{Scenario}
use Rattle.run_machine.specs.Runs.{State}
use Rattle.block_core.specs.DoneWrites.{WriteMayEnd}
use Rattle.block_core.specs.Fragments.{fragment_of}
use Rattle.block_core.specs.Touches.{is_master}
use Rattle.block_core.specs.AtWork.{IsBrought, IsInDisk}
use Rattle.block_core.specs.Values.{BioMayEnd, LegMayEnd, TodoMayEnd, IsAllowed, Decides, BioComes, LegComes, NodeComes, ClosedComes, Comes, NodeIsValued, EndsAsItsFragment, IsValued}
use Rattle.block_core.specs.Weights.{Weight, one_if_same, names_node, under, legs_left, doing_weight, total_weight}
use Rattle.block_core.proofs.moves.Sums.{apart, yes}
use Rattle.block_core.proofs.moves.Totals.{task_part}
use Rattle.block_core.proofs.sound.Invariant.{Invariant}
use Rattle.block_core.proofs.stuck.Idle.{node_part}
use Rattle.block_core.proofs.stuck.NothingWaits.{both, one-eq}
use Rattle.block_core.proofs.status.PartsWeigh.{in_range, some_in_range, in_disk, is_brought, submission_within, at_work, Weighs, IsOfWork, some_weighs}
use Rattle.block_core.proofs.status.Marks.{is, may, bio_may, leg_may, todo_may, write_may, Mark, allowed_by, allowed, decides, lack, mismatch, kind_is, above, unallowed, deciding, IsMarked}
use Rattle.block_core.proofs.status.NodeBios.{AreOfBios}
use Rattle.block_core.proofs.status.NodeValues.{is_itself}

-- numbers that are 1 for yes
so : (b : Bool) → 1 ≤ yes b → IsTrue b
so true le = refl
so false le = absurd (omega (arith, le))

as_one : (b : Bool) → IsTrue b → yes b ≡ 1
as_one true is = refl
as_one false is = absurd (let e = is in cc)

-- such an end of a write
pub may_given : (s : Scenario) (number : ℕ) (end : Status) → 1 ≤ write_may s number end → WriteMayEnd s number end
may_given s number end may_come = by_write (slice_get s.writes number) refl may_come
  where
    by_write : (found : Option Write) → slice_get s.writes number ≡ found
        → 1 ≤ option_map_or (λ (write : Write). may (fault_of s.stack) (plan (tree s.stack write.dev.0) number 0 write.start write.count) end) found 0 → WriteMayEnd s number end
    by_write None at le = absurd (omega (arith, le))
    by_write (Some write) at le = (write, at, so (may_end (fault_of s.stack) (plan (tree s.stack write.dev.0) number 0 write.start write.count) end) le)

is_same : (end other : Status) → 1 ≤ is end other → end ≡ other
is_same Ok Ok le = refl
is_same Io Io le = refl
is_same Medium Medium le = refl
is_same NoSpace NoSpace le = refl
is_same end other le = absurd (omega (arith, le))

-- one of a leg that a mirror makes
leg_so : (ends : Fragment → Status) (t : Tree) (bio : Bio) (leg : ℕ) (end : Status) → 1 ≤ leg_may ends t bio leg end → LegMayEnd ends t bio leg end
leg_so ends (Leaf number sectors) bio leg end le = absurd (omega (arith, le))
leg_so ends (Split number kind sizes members) bio leg end le = absurd (omega (arith, le))
leg_so ends (Mirrored number sizes members) bio leg end le = so _ le

leg_one : (ends : Fragment → Status) (t : Tree) (bio : Bio) (leg : ℕ) (end : Status) → LegMayEnd ends t bio leg end → leg_may ends t bio leg end ≡ 1
leg_one ends (Leaf number sectors) bio leg end is = absurd is
leg_one ends (Split number kind sizes members) bio leg end is = absurd is
leg_one ends (Mirrored number sizes members) bio leg end is = as_one _ is

-- what is allowed and what decides, as numbers of these facts
module _ (f : Status → ℕ) (MayEnd : Status → Type 0) (fact : (end : Status) → 1 ≤ f end → MayEnd end) (one_for : (end : Status) → MayEnd end → f end ≡ 1) where
  is_allowed : (master : Bool) (end : Status) → 1 ≤ allowed_by master f end → IsAllowed master MayEnd end
  is_allowed false Ok le = λ ne. absurd (ne refl)
  is_allowed false Io le = λ ne. fact Io le
  is_allowed false Medium le = λ ne. fact Medium le
  is_allowed false NoSpace le = λ ne. fact NoSpace le
  is_allowed true Ok le = λ same. fact Ok le
  is_allowed true Io le = λ same. absurd cc
  is_allowed true Medium le = λ same. absurd cc
  is_allowed true NoSpace le = λ same. absurd cc

  it_decides : (master : Bool) → 1 ≤ decides master (f Ok) → Decides master MayEnd
  it_decides false le = λ well. let e = one_for Ok well in absurd (omega (arith, le, e))
  it_decides true le = fact Ok le

  decides_one : (master : Bool) → Decides master MayEnd → 1 ≤ decides master (f Ok)
  decides_one false none = elim (zero_or (f Ok)) [
    | inl zero_well ↦ omega (arith, zero_well)
    | inr some ↦ absurd (none (fact Ok some))
  ]
  decides_one true well = let e = one_for Ok well in omega (arith, e)

status_fact : (status end : Status) → 1 ≤ is end status → status ≡ end
status_fact status end le = sym (is_same end status le)

status_one : (status end : Status) → status ≡ end → is end status ≡ 1
status_one status end same = ap (is end) same ∙ is_itself end

module _ (s : Scenario) (scene : Scene) (bios : ℕ → ℕ → Bio) (state : State) (i : Invariant scene state) (mark : ℕ → ℕ → Mark)
    (tied : AreOfBios scene.setup (fault_of s.stack) mark bios) (h : IsMarked scene (fault_of s.stack) (write_may s) mark state) where
  abbrev ends : Fragment → Status
  ends = fault_of s.stack

  abbrev setup : Setup
  setup = scene.setup

  abbrev off : Status → Weight
  off end = unallowed setup ends (write_may s) mark end

  abbrev MayEnd : Bio → Status → Type 0
  MayEnd bio = BioMayEnd setup ends bio

  bio_so : (bio : Bio) (end : Status) → 1 ≤ bio_may setup ends bio end → MayEnd bio end
  bio_so bio end le = so _ le

  bio_one : (bio : Bio) (end : Status) → MayEnd bio end → bio_may setup ends bio end ≡ 1
  bio_one bio end is = as_one _ is

  -- bios of disks end as their fragments
  like : (item : Item Pad) → ((end : Status) → apart (bio_may setup ends item.bio end) (is end (ends (fragment_of item.bio))) ≡ 0) → EndsAsItsFragment setup ends item
  like item none end = (
    λ may_come.
        let a = none end in let b = bio_one item.bio end may_come in
        is_same end (ends (fragment_of item.bio)) (omega (arith, a, b)),
    λ same.
        let a = none end in let b : is end (ends (fragment_of item.bio)) ≡ 1 = ap (is end) (sym same) ∙ is_itself end in
        bio_so item.bio end (omega (arith, a, b)),
  )

  brought_ends : (item : Item Pad) → IsBrought scene state item → EndsAsItsFragment setup ends item
  brought_ends item at = like item (λ end. omega (arith, h.fits end, is_brought scene state (off end) item at))

  pending_ends : (item : Item Pad) → IsInDisk scene state item → EndsAsItsFragment setup ends item
  pending_ends item at = like item (λ end. omega (arith, h.fits end, in_disk scene state (off end) item at))

  -- a carried top, and writes that are to begin
  carried_top : (place : ℕ) (disk : DevId) (writer : ℕ) (closed : Closed) → place < scene.tasks → state.task place ≡ Completer disk (Carries writer closed)
      → closed.parent ≡ None → WriteMayEnd s closed.write closed.status
  carried_top place disk writer closed lt at none =
      let is_off : is closed.status closed.status - write_may s closed.write closed.status ≡ 0 =
      ap (above (write_may s) mark closed.status (is closed.status closed.status) writer closed.write) (sym none)
      ∙ omega (arith, h.fits closed.status, task_part scene (off closed.status) state place (Completer disk (Carries writer closed)) lt at) in
      may_given s closed.write closed.status (omega (arith, is_off, is_itself closed.status))

  abbrev Begins : Todo → Type 0
  Begins todo = (end : Status) → TodoMayEnd setup ends todo end → WriteMayEnd s todo.number end

  todos_begin : (todos : List Todo) → ((end : Status) → sum_by (λ todo. todo_may setup ends todo end - write_may s todo.number end) todos ≡ 0) → All Begins todos
  todos_begin [] none = All-nil Begins
  todos_begin (todo ∷ todos) none =
      All-cons Begins todo todos
      (λ end may_come.
      let may_one : todo_may setup ends todo end ≡ 1 = as_one _ may_come in
      may_given s todo.number end (omega (arith, may_one, none end, sum_by-cons (λ todo. todo_may setup ends todo end - write_may s todo.number end) todo todos)))
      (todos_begin todos (λ end. omega (arith, none end, sum_by-cons (λ todo. todo_may setup ends todo end - write_may s todo.number end) todo todos)))

  writer_begins : (place writer : ℕ) (todos : List Todo) (taken : Gathered) (submission : Submission) → place < scene.tasks → state.task place ≡ Writer writer todos taken submission → All Begins todos
  writer_begins place writer todos taken submission lt at =
      todos_begin todos (λ end. omega (arith, h.fits end, task_part scene (off end) state place (Writer writer todos taken submission) lt at))

  module _ (w k : ℕ) (node : Node) (at : node_at (state.objects.book w) k ≡ Some node) where
    abbrev own : Status → ℕ
    own = bio_may setup ends (bios w k)

    part : (end : Status) → mismatch node.role (mark w k).master + (is end node.status - allowed (mark w k) end)
        + above (write_may s) mark end ((mark w k).ends end) w node.write (parent_of node.role) ≡ 0
    part end = omega (arith, h.fits end, node_part scene state i (off end) w k node at)

    kind : (mark w k).master ≡ is_master node.role
    kind = sym (kind_is node.role (mark w k).master (omega (arith, part Ok)))

    -- what the mark allows
    by_mark : (end : Status) → 1 ≤ allowed (mark w k) end → IsAllowed (is_master node.role) (MayEnd (bios w k)) end
    by_mark end le =
        is_allowed own (MayEnd (bios w k)) (bio_so (bios w k)) (bio_one (bios w k)) (is_master node.role) end
        (subst (λ m. 1 ≤ allowed_by m own end) kind (subst (λ (f : Status → ℕ). 1 ≤ allowed_by (mark w k).master f end) (tied w k) le))

    keeps : IsAllowed (is_master node.role) (MayEnd (bios w k)) node.status
    keeps = by_mark node.status (omega (arith, part node.status, is_itself node.status))

    -- only that comes
    bio_comes : (end : Status) → BioComes scene ends state w k (λ MayEnd. MayEnd end) → 1 ≤ allowed (mark w k) end
    bio_comes end (item, there, of_writer, of_node, may_come) =
        let r = at_work scene state (off end) item there in
        let le = r.1 in
        let one_end = bio_one item.bio end may_come in
        let P : ℕ → ℕ → Type 0 = λ v j. 1 ≤ allowed (mark v j) end in
        subst (λ v. P v k) of_writer (subst (P item.bio.writer) of_node (omega (arith, h.fits end, le, one_end)))

    leg_comes : (end : Status) → LegComes scene ends state w k (λ MayEnd. MayEnd end) → 1 ≤ allowed (mark w k) end
    leg_comes end (place, submission, bio, next, want, leg, lt, is_submission, copies, of_writer, ge, below, may_come) =
        let r = submission_within scene state (off end) place submission lt is_submission in
        let le = r.1 in
        let t = tree_at setup bio.dev in
        let f : ℕ → ℕ = λ j. leg_may ends t bio j end - allowed (mark bio.writer k) end in
        let d : doing_weight (off end) r.0 submission.doing ≡ doing_weight (off end) r.0 (Copies bio k next want) = ap (doing_weight (off end) r.0) copies in
        let within : leg < next + legs_left setup bio next = omega (arith, ge, below) in
        let one_end = leg_one ends t bio leg end may_come in
        let here : 1 ≤ allowed (mark bio.writer k) end = omega (arith, h.fits end, le, d, in_range f (legs_left setup bio next) next leg ge within, one_end) in
        subst (λ v. 1 ≤ allowed (mark v k) end) of_writer here

    node_comes : (end : Status) → NodeComes scene ends bios state w k (λ MayEnd. MayEnd end) → 1 ≤ allowed (mark w k) end
    node_comes end (place, other, there, is_under, may_come) =
        let up : above (write_may s) mark end ((mark w place).ends end) w other.write (parent_of other.role) ≡ (mark w place).ends end - allowed (mark w k) end =
        ap (above (write_may s) mark end ((mark w place).ends end) w other.write) is_under in
        let same : (mark w place).ends end ≡ bio_may setup ends (bios w place) end = ap (λ (f : Status → ℕ). f end) (tied w place) in
        omega (arith, h.fits end, node_part scene state i (off end) w place other there, up, same, bio_one (bios w place) end may_come)

    closed_comes : (end : Status) → ClosedComes scene state w k (λ MayEnd. MayEnd end) → 1 ≤ allowed (mark w k) end
    closed_comes end (place, disk, closed, lt, carries, is_under, same) =
        let up : above (write_may s) mark end (is end closed.status) w closed.write closed.parent ≡ is end closed.status - allowed (mark w k) end =
        ap (above (write_may s) mark end (is end closed.status) w closed.write) is_under in
        omega (arith, h.fits end, task_part scene (off end) state place (Completer disk (Carries w closed)) lt carries, up, status_one closed.status end same)

    all_comes : (end : Status) → Comes scene ends bios state w k (λ MayEnd. MayEnd end) → IsAllowed (is_master node.role) (MayEnd (bios w k)) end
    all_comes end (inl bio) = by_mark end (bio_comes end bio)
    all_comes end (inr (inl leg)) = by_mark end (leg_comes end leg)
    all_comes end (inr (inr (inl below))) = by_mark end (node_comes end below)
    all_comes end (inr (inr (inr closed))) = by_mark end (closed_comes end closed)

    -- what decides the node comes
    abbrev to_come : Bool → Weight
    to_come master = deciding setup ends mark master w k

    of_work : (master : Bool) → IsOfWork scene state (to_come master)
    of_work master = record { todo = λ writer todos taken. refl; hand = λ item. refl; vector = λ vector. refl; slip = λ slip. refl }

    under_is : (writer : ℕ) (parent : Option ℕ) (n : ℕ) → 1 ≤ under w k writer parent * n → (writer ≡ w) × (parent ≡ Some k) × (1 ≤ n)
    under_is writer None n some = absurd (omega (arith, some))
    under_is writer (Some parent) n some =
        let a = both (one_if_same writer w * one_if_same parent k) n some in
        let b = both (one_if_same writer w) (one_if_same parent k) a.0 in
        (one-eq writer w b.0, ap Some (one-eq parent k b.1), a.1)

    still_comes : (master : Bool) → 1 ≤ total_weight scene (to_come master) state → Comes scene ends bios state w k (Decides master)
    still_comes master some = by_found (some_weighs scene state (to_come master) (of_work master) some)
      where
        by_found : Weighs scene state (to_come master) → Comes scene ends bios state w k (Decides master)
        by_found (inl (item, spot, there, weighs)) =
            let a = both (names_node w k item) (decides master (bio_may setup ends item.bio Ok)) weighs in
            let b = both (one_if_same item.bio.writer w) (one_if_same item.bio.node k) a.0 in
            inl (
              item,
              there,
              one-eq item.bio.writer w b.0,
              one-eq item.bio.node k b.1,
              it_decides (bio_may setup ends item.bio) (MayEnd item.bio) (bio_so item.bio) (bio_one item.bio) master a.1,
            )
        by_found (inr (inl (place, submission, bio, m, next, want, lt, is_submission, copies, weighs))) =
            let t = tree_at setup bio.dev in
            let f : ℕ → ℕ = λ j. decides master (leg_may ends t bio j Ok) in
            let a = both (one_if_same bio.writer w * one_if_same m k) (sum_by f (range_with_len next (legs_left setup bio next))) weighs in
            let b = both (one_if_same bio.writer w) (one_if_same m k) a.0 in
            let r = some_in_range f (legs_left setup bio next) next a.1 in
            let ge = r.1 in
            let within = r.2 in
            inr (inl (
              place,
              submission,
              bio,
              next,
              want,
              r.0,
              lt,
              is_submission,
              copies ∙ ap (λ n. Copies bio n next want) (one-eq m k b.1),
              one-eq bio.writer w b.0,
              ge,
              omega (arith, ge, within),
              it_decides (leg_may ends t bio r.0) (LegMayEnd ends t bio r.0) (leg_so ends t bio r.0) (leg_one ends t bio r.0) master r.3,
            ))
        by_found (inr (inr (inl (writer, place, other, there, weighs)))) =
            let a = under_is writer (parent_of other.role) (decides master ((mark writer place).ends Ok)) weighs in
            let same : (mark writer place).ends Ok ≡ bio_may setup ends (bios writer place) Ok = ap (λ (f : Status → ℕ). f Ok) (tied writer place) in
            let some_end : 1 ≤ decides master (bio_may setup ends (bios writer place) Ok) = subst (λ n. 1 ≤ decides master n) same a.2 in
            let so_it = it_decides (bio_may setup ends (bios writer place)) (MayEnd (bios writer place)) (bio_so (bios writer place)) (bio_one (bios writer place)) master some_end in
            inr (inr (inl (
              place,
              other,
              subst (λ v. node_at (state.objects.book v) place ≡ Some other) a.0 there,
              a.1,
              subst (λ v. Decides master (MayEnd (bios v place))) a.0 so_it,
            )))
        by_found (inr (inr (inr (place, disk, writer, closed, lt, carries, weighs)))) =
            let a = under_is writer closed.parent (decides master (is Ok closed.status)) weighs in
            inr (inr (inr (
              place,
              disk,
              closed,
              lt,
              subst (λ v. state.task place ≡ Completer disk (Carries v closed)) a.0 carries,
              a.1,
              it_decides (λ end. is end closed.status) (λ end. closed.status ≡ end) (status_fact closed.status) (status_one closed.status) master a.2,
            )))

    decided_so : Decides (is_master node.role) (MayEnd (bios w k))
        → Decides (is_master node.role) (λ end. node.status ≡ end) ⊎ Comes scene ends bios state w k (Decides (is_master node.role))
    decided_so is_decided =
        let m = is_master node.role in
        let some : 1 ≤ decides m (own Ok) = decides_one own (MayEnd (bios w k)) (bio_so (bios w k)) (bio_one (bios w k)) m is_decided in
        let lacks : lack (mark w k) (Some node) ≤ total_weight scene (to_come (mark w k).master) state =
        subst (λ found. lack (mark w k) found ≤ total_weight scene (to_come (mark w k).master) state) at (h.decided w k) in
        let by_own : decides (mark w k).master (own Ok) - decides (mark w k).master (is Ok node.status) ≤ total_weight scene (to_come (mark w k).master) state =
        subst (λ (f : Status → ℕ). decides (mark w k).master (f Ok) - decides (mark w k).master (is Ok node.status) ≤ total_weight scene (to_come (mark w k).master) state) (tied w k) lacks in
        let by_role : decides m (own Ok) - decides m (is Ok node.status) ≤ total_weight scene (to_come m) state =
        subst (λ b. decides b (own Ok) - decides b (is Ok node.status) ≤ total_weight scene (to_come b) state) kind by_own in
        elim (zero_or (decides m (is Ok node.status))) [
          | inr kept ↦ inl (it_decides (λ end. is end node.status) (λ end. node.status ≡ end) (status_fact node.status) (status_one node.status) m kept)
          | inl none ↦ inr (still_comes m (omega (arith, some, by_role, none)))
        ]

    -- the run by itself
    runs_alone : (end : Status) → (end ≢ Ok) → MayEnd (bios w k) end → MayEnd (bios w k) Ok → ⊥
    runs_alone end ne may_come well =
        let few : own end + own Ok ≤ 1 = subst (λ (f : Status → ℕ). f end + f Ok ≤ 1) (tied w k) ((h.fair w k).alone end ne) in
        omega (arith, few, bio_one (bios w k) end may_come, bio_one (bios w k) Ok well)

    is_copied : is_master node.role ≡ true → MayEnd (bios w k) Ok ⊎ MayEnd (bios w k) Io
    is_copied master =
        let some : 1 ≤ own Ok + own Io = subst (λ (f : Status → ℕ). 1 ≤ f Ok + f Io) (tied w k) ((h.fair w k).failed (kind ∙ master)) in
        elim (zero_or (own Ok)) [
          | inr well ↦ inl (bio_so (bios w k) Ok well)
          | inl none ↦ inr (bio_so (bios w k) Io (omega (arith, some, none)))
        ]

    top_given : node.role ≡ role.Top → (end : Status) → MayEnd (bios w k) end → WriteMayEnd s node.write end
    top_given is_top end may_come =
        let up : above (write_may s) mark end ((mark w k).ends end) w node.write (parent_of node.role) ≡ (mark w k).ends end - write_may s node.write end =
        ap (λ r. above (write_may s) mark end ((mark w k).ends end) w node.write (parent_of r)) is_top in
        let same : (mark w k).ends end ≡ own end = ap (λ (f : Status → ℕ). f end) (tied w k) in
        may_given s node.write end (omega (arith, part end, up, same, bio_one (bios w k) end may_come))

    node_valued : NodeIsValued s scene bios state w k node
    node_valued = record { kept = keeps; comes = all_comes; decided = decided_so; alone = runs_alone; copied = is_copied; top = top_given }

  pub are_valued : IsValued s scene bios state
  are_valued = record {
    nodes = node_valued;
    brought = brought_ends;
    pending = pending_ends;
    carried = carried_top;
    begins = writer_begins;
  }
