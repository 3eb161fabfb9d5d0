-- No event lets an end come where it must not.
use Rattle.std.proofs.Common.{◌≡◌, ◌+◌, ◌-◌, ◌<◌, ◌≤◌, ◌==◌, ℕ, Bool, true, false, [], ◌∷◌, None, Some, refl, ◌∙◌, ap, subst, arith}
use Rattle.std.specs.Prelude.{sum_by}
use Rattle.std.specs.List.{range_with_len}
use Rattle.std.proofs.lemmas.List.Sums.{sum_by-cons, sum_by_push}
use Rattle.layout_model.proofs.RangeSums.{sum_same}
use Rattle.stack_base.specs.declared.ids.Status.{Status}
use Rattle.stack_base.specs.declared.ids.Status.TheVariants.{Ok, Io}
use Rattle.stack_base.specs.declared.ids.SetId.TheVariants.{Of}
use Rattle.stack_base.proofs.ListLemmas.{Each}
use Rattle.layout_model.specs.declared.fragment.Fragment.{Fragment}
use Rattle.bio_records.specs.declared.bio.Bio.{Bio}
use Rattle.bio_records.specs.declared.bio.Pad.{Pad}
use Rattle.bio_records.specs.declared.tasks.TaskLists.{TaskLists}
use Rattle.bio_records.specs.Items.{Item}
use Rattle.bio_lists.specs.Submission.{submitted}
use Rattle.bio_lists.specs.Punt.{punted}
use Rattle.bio_split.specs.Split.{split_rest}
use Rattle.bio_books.specs.declared.node.Role.{Role}
use Rattle.bio_books.specs.declared.node.Role.TheVariants as role
use Rattle.bio_books.specs.Books.{Node, node_at, parent_of, kept_with, closing}
use Rattle.bio_books.specs.Links.{IsVacant}
use Rattle.run_machine.specs.Scene.{Setup, Scene, tree_at}
use Rattle.run_machine.specs.Submissions.{Links, ToPush, ToCut, ToMaster, Doing, Drives, Copies, rests, first_length, legs_of, leg_at}
use Rattle.run_machine.specs.Tasks.{TaskState, Writer, HasBio, HasBoth}
use Rattle.run_machine.specs.Runs.{State}
use Rattle.block_core.specs.Weights.{Weight, Lined, Rescued, total_weight, names_node}
use Rattle.block_core.proofs.status.Marks.{is, bio_may, leg_may, todo_may, Mark, allowed, allowed_by, mismatch, above, unallowed, IsMarked}
use Rattle.block_core.proofs.moves.Moves.{Move, Can, after, lost, gained, limit_of, HasSubmission, filled_of, cut_lists, piece}
use Rattle.block_core.proofs.moves.Moves as moves
use Rattle.block_core.proofs.sound.Invariant.{TaskIsSound, own_part, Invariant}
use Rattle.block_core.specs.Roles.{named}
use Rattle.block_core.proofs.sound.TaskSubmissions.{submission_fits}
use Rattle.block_core.proofs.moves.Deltas.{delta}
use Rattle.block_core.proofs.sound.SumParts.{cut_weight, submission_part, named_away, unless_less}
use Rattle.block_core.proofs.moves.SubmissionWeights.{landed_same}
use Rattle.block_core.proofs.sound.Orders.{IsOwn, TaskPlaced, Placed, DeviceGeometry}
use Rattle.block_core.proofs.sound.OrdersKept.{placed_at}
use Rattle.block_core.proofs.moves.Misfits.{misfits, cut_fits}
use Rattle.block_core.proofs.images.StillToCome.{over}
use Rattle.block_core.proofs.images.FragmentCounts.{legs_next}
use Rattle.block_core.proofs.moves.Landings.{IsLanding, settled_there, goes_there, copies_there, all_there, none_there, cut_there, leg_there}
use Rattle.block_core.proofs.moves.VacantMarks.{with_mark, mark_here, mark_other, elsewhere, none_moves}
use Rattle.block_core.proofs.status.RunEndings.{few_yes, EndingsByParts, mirror_may}
use Rattle.block_core.proofs.status.NodeValues.{is_given, own_allowed, well_allowed, failed_allowed, less_allowed, leg_allowed, told_allowed, unallowed_unmoved}
use Rattle.block_core.proofs.status.AtOneNode.{above_less, range_none, leg_named_by, leg_few}
use Rattle.block_core.proofs.status.MarksBehind.{new_mark, marks_by}
use Rattle.block_core.proofs.status.ToldEnds.{HasEnding, by_role, kept_allowed, told_may, closes}

-- a node that a bio names is no master
not_master : (r : Role) (master : Bool) → own_part r None ≡ 1 → mismatch r master ≡ 0 → master ≡ false
not_master r false own same = refl
not_master role.Top true own same = absurd (omega (arith, same))
not_master (role.Chain parent) true own same = absurd (omega (arith, same))
not_master (role.Master parent) true own same = absurd (omega (arith, own))
not_master (role.Leg parent) true own same = absurd (omega (arith, same))

module _ (scene : Scene) (ends : Fragment → Status) (written : ℕ → Status → ℕ) (v : EndingsByParts scene.setup ends) where
  abbrev setup : Setup
  setup = scene.setup

  abbrev off_by : (ℕ → ℕ → Mark) → Status → Weight
  off_by mark end = unallowed setup ends written mark end

  landing_off : (mark : ℕ → ℕ → Mark) (end : Status) → IsLanding setup (off_by mark end)
  landing_off mark end limit item there =
      omega (
        arith,
        landed_same (λ (bio : Bio). allowed (mark bio.writer bio.node) end) (λ to members bio. refl) (tree_at setup item.bio.dev) item.bio,
        v.lands item.bio end there,
      )

  module _ (s : State) (g : DeviceGeometry setup) (i : Invariant scene s) (a : Placed setup s) (counted : total_weight scene (misfits over) s ≡ 0) (endings : (place : ℕ) → HasEnding ends (s.task place))
      (mark : ℕ → ℕ → Mark) (h : IsMarked scene ends written mark s) where
    -- a node that a driven bio names is no master
    driven_node : (place : ℕ) (x : TaskState) (bio : Item Pad) (doing : Doing) (lists : TaskLists) (node : Node) → place < scene.tasks → s.task place ≡ x → HasSubmission x doing lists
        → names_node bio.bio.writer bio.bio.node bio ≤ total_weight scene (named bio.bio.writer bio.bio.node) s
        → node_at (s.objects.book bio.bio.writer) bio.bio.node ≡ Some node → (mark bio.bio.writer bio.bio.node).master ≡ false
    driven_node place x bio doing lists node here at submission part open_there =
        not_master node.role (mark bio.bio.writer bio.bio.node).master (named_away scene s bio node i open_there part).1 (by_role scene ends written s i endings mark h bio.bio.writer bio.bio.node node open_there)

    -- no end comes where it must not
    same_off : (end : Status) (m : Move) → Can scene s m → gained scene (off_by mark end) s m ≤ lost scene (off_by mark end) s m → total_weight scene (off_by mark end) (after scene s m) ≡ 0
    same_off end m c le = omega (arith, h.fits end, delta scene (off_by mark end) s m c, le)

    more_off : (end : Status) (m : Move) → Can scene s m → (writer key : ℕ) (new : Mark) → IsVacant (s.objects.book writer) key
        → gained scene (off_by (with_mark mark writer key new) end) s m ≤ lost scene (off_by (with_mark mark writer key new) end) s m
        → total_weight scene (off_by (with_mark mark writer key new) end) (after scene s m) ≡ 0
    more_off end m c writer key new vacant le =
        let marks = with_mark mark writer key new in
        omega (
          arith,
          h.fits end,
          none_moves scene s i writer key vacant (off_by marks end) (off_by mark end) (unallowed_unmoved setup ends written mark writer key new end),
          delta scene (off_by marks end) s m c,
          le,
        )

    -- a new node keeps nothing that it must not
    new_node_off : (end : Status) (writer key : ℕ) (new : Mark) (r : Role) (write : ℕ) (status : Status) → mismatch r new.master ≡ 0 → is end status ≤ allowed new end
        → let marks = with_mark mark writer key new in
        mismatch r (marks writer key).master + (is end status - allowed (marks writer key) end) + above written marks end ((marks writer key).ends end) writer write (parent_of r)
        ≡ above written marks end (new.ends end) writer write (parent_of r)
    new_node_off end writer key new r write status same le =
        let marks = with_mark mark writer key new in
        omega (
          arith,
          ap (λ (m : Mark). mismatch r m.master + (is end status - allowed m end) + above written marks end (m.ends end) writer write (parent_of r)) (mark_here mark writer key new),
          same,
          le,
        )

    pub off_after : (end : Status) (m : Move) → Can scene s m → total_weight scene (off_by (marks_by setup ends mark m) end) (after scene s m) ≡ 0
    -- takes, misses and punts
    off_after end (moves.TakesFirst place writer todo later move) c = same_off end (moves.TakesFirst place writer todo later move) c (omega arith)
    off_after end (moves.TakesVector place writer todo later item move) c = same_off end (moves.TakesVector place writer todo later item move) c (omega arith)
    off_after end (moves.TakesSub place x doing lists dev waits move) c = same_off end (moves.TakesSub place x doing lists dev waits move) c (omega arith)
    off_after end (moves.TakesSlip place x bio lists move) c = same_off end (moves.TakesSlip place x bio lists move) c (omega arith)
    off_after end (moves.MissesOne place x number used) c = same_off end (moves.MissesOne place x number used) c (omega arith)
    off_after end (moves.MissesTry place x doing lists dev used) c = same_off end (moves.MissesTry place x doing lists dev used) c (omega arith)
    off_after end (moves.Punts place x doing lists dev) c =
        same_off end (moves.Punts place x doing lists dev) c
        (omega (arith, sum_same ((off_by mark end).bio Rescued) ((off_by mark end).bio (Lined (limit_of x))) (punted (Of dev) lists) (λ item. refl)))
    -- pops
    off_after end (moves.Pops place dev bio bios) c =
        let r : Each (IsOwn setup dev.0 dev.0) (bio ∷ bios) = subst (Each (IsOwn setup dev.0 dev.0)) c.3 (a.rescued dev.0) in
        same_off end (moves.Pops place dev bio bios) c
        (omega (
          arith,
          settled_there setup (off_by mark end) (landing_off mark end) dev.0 (bio ∷ []) (r.0.0.0, tt),
          sum_by-cons ((off_by mark end).bio (Lined dev.0)) bio [],
        ))
    -- pushes
    off_after end (moves.Pushes place x bio lists) c =
        let d = placed_at setup s a place x (Drives bio ToPush) lists c.1 c.2 in
        same_off end (moves.Pushes place x bio lists) c
        (omega (
          arith,
          goes_there setup (off_by mark end) (landing_off mark end) (limit_of x) bio.bio.dev lists (none_there setup (limit_of x) lists d.0) (all_there setup (limit_of x) lists.list1 d.1.1),
          v.disk bio.bio end d.1.0.0 d.3,
        ))
    -- completions
    off_after end (moves.Completed place disk index bio status new) c = same_off end (moves.Completed place disk index bio status new) c (omega arith)
    -- links of writes
    off_after end (moves.Begins place writer todo later item None key) c =
        let t : TaskPlaced setup (Writer writer (todo ∷ later) (HasBio item) rests) = subst (TaskPlaced setup) c.1 (a.tasks place) in
        let new = new_mark false (todo_may setup ends todo) in
        let marks = with_mark mark writer key new in
        let filled : Item Pad = filled_of writer todo item None key in
        more_off end (moves.Begins place writer todo later item None key) c writer key new c.3
        (omega (
          arith,
          settled_there setup (off_by marks end) (landing_off marks end) 32 (filled ∷ []) (t.0.0 key, tt),
          sum_by-cons ((off_by marks end).bio (Lined 32)) filled [],
          ap (λ m. todo_may setup ends todo end - allowed m end) (mark_here mark writer key new),
          own_allowed (todo_may setup ends todo) end (few_yes _),
          new_node_off end writer key new role.Top todo.number Ok refl (well_allowed new.ends end),
          sum_by-cons (λ todo. todo_may setup ends todo end - written todo.number end) todo later,
        ))
    off_after end (moves.Begins place writer todo later item (Some vector) key) c =
        let t : TaskPlaced setup (Writer writer (todo ∷ later) (HasBoth item vector) rests) = subst (TaskPlaced setup) c.1 (a.tasks place) in
        let new = new_mark false (todo_may setup ends todo) in
        let marks = with_mark mark writer key new in
        let filled : Item Pad = filled_of writer todo item (Some vector) key in
        more_off end (moves.Begins place writer todo later item (Some vector) key) c writer key new c.3
        (omega (
          arith,
          settled_there setup (off_by marks end) (landing_off marks end) 32 (filled ∷ []) (t.0.0 key, tt),
          sum_by-cons ((off_by marks end).bio (Lined 32)) filled [],
          ap (λ m. todo_may setup ends todo end - allowed m end) (mark_here mark writer key new),
          own_allowed (todo_may setup ends todo) end (few_yes _),
          new_node_off end writer key new role.Top todo.number Ok refl (well_allowed new.ends end),
          sum_by-cons (λ todo. todo_may setup ends todo end - written todo.number end) todo later,
        ))
    -- links of pieces
    off_after end (moves.Chained place x bio lists hand number kind sizes members key node) c =
        let n = first_length kind sizes bio.bio.range in
        let child = piece bio hand n key kind sizes members in
        let rest = split_rest bio n in
        let new = new_mark false (bio_may setup ends child.bio) in
        let marks = with_mark mark bio.bio.writer key new in
        let d = placed_at setup s a place x (Drives bio (ToCut (Links hand))) lists c.1 c.2 in
        let there = cut_there setup (limit_of x) g bio hand lists key number kind sizes members d c.3 in
        let fits : over bio.bio ≡ 0 = cut_fits over scene s counted place x bio hand lists c.0 c.1 c.2 in
        let parts = v.cut bio hand key number kind sizes members d.1.0.0 (omega (arith, fits)) c.3 there.0 in
        let part = submission_part scene (off_by mark end) s place x (Drives bio (ToCut (Links hand))) lists c.0 c.1 c.2 in
        let names_part = submission_part scene (named bio.bio.writer bio.bio.node) s place x (Drives bio (ToCut (Links hand))) lists c.0 c.1 c.2 in
        let own = driven_node place x bio (Drives bio (ToCut (Links hand))) lists node c.0 c.1 c.2 (omega (arith, names_part)) c.5 in
        let parent = mark_other mark bio.bio.writer key new bio.bio.writer bio.bio.node (elsewhere scene s i bio.bio.writer key c.6 bio.bio.writer bio.bio.node node c.5) in
        let up : Mark = mark bio.bio.writer bio.bio.node in
        let before : bio_may setup ends bio.bio end - allowed_by false up.ends end ≡ 0 =
        omega (arith, h.fits end, part, ap (λ m. bio_may setup ends bio.bio end - allowed_by m up.ends end) own) in
        let child_fits = less_allowed up.ends end (bio_may setup ends child.bio) (bio_may setup ends bio.bio) (λ e ne. (parts.other e ne).0) (few_yes _) before in
        let rest_fits = less_allowed up.ends end (bio_may setup ends rest.bio) (bio_may setup ends bio.bio) (λ e ne. (parts.other e ne).1) (few_yes _) before in
        let at_parent : (x : ℕ) → x - allowed (marks bio.bio.writer bio.bio.node) end ≡ x - allowed_by false up.ends end =
        λ x. ap (λ m. x - allowed m end) parent ∙ ap (λ m. x - allowed_by m up.ends end) own in
        more_off end (moves.Chained place x bio lists hand number kind sizes members key node) c bio.bio.writer key new c.6
        (omega (
          arith,
          goes_there setup (off_by marks end) (landing_off marks end) (limit_of x) bio.bio.dev (cut_lists bio lists hand n key kind sizes members) there.1 (all_there setup (limit_of x) lists.list1 d.1.1),
          cut_weight ((off_by marks end).bio (Lined (limit_of x))) bio lists hand n key kind sizes members,
          ap (λ m. bio_may setup ends child.bio end - allowed m end) (mark_here mark bio.bio.writer key new),
          own_allowed (bio_may setup ends child.bio) end (few_yes _),
          at_parent (bio_may setup ends rest.bio end),
          rest_fits,
          new_node_off end bio.bio.writer key new (role.Chain bio.bio.node) node.write Ok refl (well_allowed new.ends end),
          at_parent (bio_may setup ends child.bio end),
          child_fits,
        ))
    -- links of masters
    off_after end (moves.Mastered place x bio lists slip key node) c =
        let legs = legs_of (tree_at setup bio.bio.dev) in
        let new = new_mark true (bio_may setup ends bio.bio) in
        let marks = with_mark mark bio.bio.writer key new in
        let d = placed_at setup s a place x (Drives bio (ToMaster slip)) lists c.1 c.2 in
        let mirror = mirror_may ends (tree_at setup bio.bio.dev) bio.bio bio.bio.range bio.bio.dev.0 slip d.3 in
        let f : ℕ → ℕ = λ k. leg_may ends (tree_at setup bio.bio.dev) bio.bio k end - allowed (marks bio.bio.writer key) end in
        let none : sum_by f (range_with_len 0 (legs - 0)) ≡ 0 =
        range_none f (legs - 0) 0 (λ k ge lt.
        ap (λ m. leg_may ends (tree_at setup bio.bio.dev) bio.bio k end - allowed m end) (mark_here mark bio.bio.writer key new)
        ∙ leg_allowed (bio_may setup ends bio.bio) end (leg_may ends (tree_at setup bio.bio.dev) bio.bio k) (leg_few ends (tree_at setup bio.bio.dev) bio.bio k) (mirror.any k (omega (arith, lt)))) in
        more_off end (moves.Mastered place x bio lists slip key node) c bio.bio.writer key new c.5
        (omega (
          arith,
          copies_there setup (off_by marks end) (landing_off marks end) (limit_of x) lists bio.bio key 0 (none_there setup (limit_of x) lists d.0) (all_there setup (limit_of x) lists.list1 d.1.1),
          unless_less (0 == legs) (sum_by f (range_with_len 0 (legs - 0))),
          none,
          new_node_off end bio.bio.writer key new (role.Master bio.bio.node) node.write Io refl (failed_allowed new.ends end),
        ))
    -- links of legs
    off_after end (moves.Legged place x bio lists master leg hand key node) c =
        let t = tree_at setup bio.dev in
        let legs = legs_of t in
        let item = leg_at bio hand leg key t in
        let new = new_mark false (bio_may setup ends item.bio) in
        let marks = with_mark mark bio.writer key new in
        let d = placed_at setup s a place x (Copies bio master leg (Links hand)) lists c.1 c.2 in
        let lt = submission_fits scene x (Copies bio master leg (Links hand)) lists (subst (TaskIsSound scene) c.1 (i.tasks place)) c.2 in
        let f : ℕ → ℕ = λ k. leg_may ends t bio k end - allowed (marks bio.writer master) end in
        more_off end (moves.Legged place x bio lists master leg hand key node) c bio.writer key new c.5
        (omega (
          arith,
          copies_there setup (off_by marks end) (landing_off marks end) (limit_of x) (submitted item lists) bio master (leg + 1) (leg_there setup (limit_of x) g bio hand lists master leg key d lt)
              (all_there setup (limit_of x) lists.list1 d.3),
          unless_less (leg + 1 == legs) (sum_by f (range_with_len (leg + 1) (legs - (leg + 1)))),
          legs_next f legs leg lt,
          sum_by_push ((off_by marks end).bio (Lined (limit_of x))) lists.list0 item,
          leg_named_by (λ w k. bio_may setup ends item.bio end - allowed (marks w k) end) bio hand leg key t lt,
          ap (λ m. bio_may setup ends item.bio end - allowed m end) (mark_here mark bio.writer key new),
          own_allowed (bio_may setup ends item.bio) end (few_yes _),
          new_node_off end bio.writer key new (role.Leg master) node.write Ok refl (well_allowed new.ends end),
          ap (λ n. n - allowed (marks bio.writer master) end) (v.leg bio hand leg key end d.0 lt),
        ))
    -- drops that leave a node open
    off_after end (moves.Told place disk carried writer key status part node) c =
        let own = told_allowed node.role (mark writer key).ends (mark writer key).master node.status status (kept_allowed scene ends written s i endings mark h writer key node c.4)
        (told_may scene ends written s i endings mark h place disk carried writer key status part c.0 c.1 c.2) in
        same_off end (moves.Told place disk carried writer key status part node) c
        (omega (arith, is_given (allowed (mark writer key)) end (kept_with node.role node.status status) own))
    -- drops that close a node
    off_after end (moves.Closes place disk carried writer key status part node) c =
        let ending = closing node.role (kept_with node.role node.status status) in
        same_off end (moves.Closes place disk carried writer key status part node) c
        (omega (
          arith,
          above_less written mark end (is end ending) ((mark writer key).ends end) writer node.write (parent_of node.role)
              (is_given (mark writer key).ends end ending (closes scene ends written s i endings mark h place disk carried writer key status part node c)),
        ))
    -- gives, ends of writes, resizes and rounds
    off_after end (moves.Gives place disk writer number closed held) c = same_off end (moves.Gives place disk writer number closed held) c (omega arith)
    off_after end (moves.Ends place disk writer closed) c = same_off end (moves.Ends place disk writer closed) c (omega arith)
    off_after end (moves.Resized place pool min later duties) c = same_off end (moves.Resized place pool min later duties) c (omega arith)
    off_after end (moves.Started place round later duties) c = same_off end (moves.Started place round later duties) c (omega arith)
