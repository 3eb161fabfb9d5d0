-- Another place for a node that is to be opened: nothing names a vacant place, so all stays alike.
use Rattle.std.proofs.Common.{◌≡◌, ◌*◌, ◌≤◌, ℕ, List, [], ◌∷◌, Option, None, Some, refl, sym, ◌∙◌, ap, arith}
use Rattle.std.specs.Prelude.{map, sum_by}
use Rattle.std.specs.Option.{option_map}
use Rattle.std.proofs.lemmas.List.Sums.{sum_by-cons}
use Rattle.bio_records.specs.declared.bio.Pad.{Pad}
use Rattle.bio_records.specs.Items.{Item}
use Rattle.bio_books.specs.declared.node.Role.{Role}
use Rattle.bio_books.specs.declared.node.Role.TheVariants as role
use Rattle.bio_books.specs.Books.{Node, BookState, node_at, parent_of}
use Rattle.bio_books.specs.Links.{IsVacant}
use Rattle.model_disks.specs.Disks.{DiskState}
use Rattle.run_machine.specs.Scene.{Scene, Setup}
use Rattle.run_machine.specs.Submissions.{Doing, Rests, Drives, Copies, Breaks, Submission}
use Rattle.run_machine.specs.Tasks.{Carried, Empty, Brings, Carries, Fails, TaskState, Writer, Rescuer, Completer, Keeper}
use Rattle.run_machine.specs.Runs.{State}
use Rattle.block_core.specs.Weights.{Weight, Rescued, Pending, total_weight, one_if_same, names_node as refers, under, legs_left, doing_weight, submission_weight, carried_weight, task_weight}
use Rattle.block_core.proofs.moves.References.{references}
use Rattle.block_core.proofs.moves.VacantMarks.{with_mark, mark_still, mark_other, no_ref, elsewhere, no_factor}
use Rattle.block_core.proofs.moves.Totals.{part_of}
use Rattle.block_core.proofs.stuck.Idle.{node_part}
use Rattle.block_core.proofs.sound.Invariant.{Invariant}
use Rattle.trace_replay.specs.Names.{Names}
use Rattle.trace_replay.proofs.renaming.Renaming.{Places, share_to, item_to, want_to, ask_to, taken_to, holding_to, doing_to, submission_to, carried_to, task_to, role_to, node_to}
use Rattle.trace_replay.proofs.renaming.Replies.{HasLeg, TaskHasLeg}
use Rattle.trace_replay.proofs.renaming.Books.{BookAlike}
use Rattle.trace_replay.proofs.renaming.Stepping.{StatesAlike, has_leg}

-- a product that is nothing, of which one part is something
module _ (setup : Setup) (to : Places) (writer key place : ℕ) where
  abbrev new : Places
  new = with_mark to writer key place

  still : (v k : ℕ) → one_if_same v writer * one_if_same k key ≡ 0 → new v k ≡ to v k
  still = mark_still to writer key place

  item_still : (item : Item Pad) → refers writer key item ≡ 0 → item_to new item ≡ item_to to item
  item_still item none = ap (λ node. record item { bio = record item.bio { node = node }; share = share_to item.share }) (still item.bio.writer item.bio.node none)

  items_still : (items : List (Item Pad)) → sum_by (refers writer key) items ≡ 0 → map (item_to new) items ≡ map (item_to to) items
  items_still [] none = refl
  items_still (item ∷ items) none =
      let first = item_still item (omega (arith, none, sum_by-cons (refers writer key) item items)) in
      let rest = items_still items (omega (arith, none, sum_by-cons (refers writer key) item items)) in
      λ k. first k ∷ rest k

  doing_still : (limit gone : ℕ) (doing : Doing) → HasLeg setup doing → doing_weight (references setup writer key) limit doing ≡ 0 → doing_to new gone doing ≡ doing_to to gone doing
  doing_still limit gone Rests has none = refl
  doing_still limit gone (Breaks breach kept) has none = refl
  doing_still limit gone (Drives bio ask) has none = ap (λ item. Drives item (ask_to ask)) (item_still bio (omega (arith, none)))
  doing_still limit gone (Copies bio master leg want) has none =
      let left : 1 ≤ legs_left setup bio leg = omega (arith, has) in
      let part : one_if_same bio.writer writer * one_if_same master key * legs_left setup bio leg ≡ 0 = omega (arith, none) in
      ap (λ m. Copies (record bio { node = gone }) m leg (want_to want)) (still bio.writer master (no_factor (one_if_same bio.writer writer * one_if_same master key) (legs_left setup bio leg) left part))

  submission_still : (limit gone : ℕ) (submission : Submission) → HasLeg setup submission.doing → submission_weight (references setup writer key) limit submission ≡ 0 → submission_to new gone submission ≡ submission_to to gone submission
  submission_still limit gone submission has none =
      let doing = doing_still limit gone submission.doing has (omega (arith, none)) in
      let first = items_still submission.lists.list0 (omega (arith, none)) in
      let second = items_still submission.lists.list1 (omega (arith, none)) in
      λ k. record { doing = doing k; lists = record { list0 = first k; list1 = second k } }

  parent_still : (v : ℕ) (parent : Option ℕ) → under writer key v parent ≡ 0 → option_map (new v) parent ≡ option_map (to v) parent
  parent_still v None none = refl
  parent_still v (Some parent) none = ap Some (still v parent none)

  carried_still : (task gone : ℕ) (carried : Carried) → carried_weight (references setup writer key) task carried ≡ 0 → carried_to new gone carried ≡ carried_to to gone carried
  carried_still task gone Empty none = refl
  carried_still task gone (Brings bio status) none = ap (λ item. Brings item status) (item_still bio none)
  carried_still task gone (Carries v closed) none =
      ap (λ p. Carries v (record closed { held = holding_to gone closed.held; parent = p })) (parent_still v closed.parent none)
  carried_still task gone (Fails breach kept) none = refl

  task_still : (at gone : ℕ) (x : TaskState) → TaskHasLeg setup x → task_weight (references setup writer key) at x ≡ 0 → task_to new gone x ≡ task_to to gone x
  task_still at gone (Writer number todo taken submission) has none = ap (Writer number todo (taken_to taken)) (submission_still 32 gone submission has (omega (arith, none)))
  task_still at gone (Rescuer dev submission) has none = ap (Rescuer dev) (submission_still dev.0 gone submission has none)
  task_still at gone (Completer disk carried) has none = ap (Completer disk) (carried_still at gone carried none)
  task_still at gone (Keeper keeping) has none = refl

  role_still : (v : ℕ) (role : Role) → under writer key v (parent_of role) ≡ 0 → role_to (new v) role ≡ role_to (to v) role
  role_still v role.Top none = refl
  role_still v (role.Chain parent) none = ap role.Chain (still v parent none)
  role_still v (role.Master parent) none = ap role.Master (still v parent none)
  role_still v (role.Leg parent) none = ap role.Leg (still v parent none)

  node_still : (v gone : ℕ) (node : Node) → under writer key v (parent_of node.role) ≡ 0 → node_to (new v) gone node ≡ node_to (to v) gone node
  node_still v gone node none =
      ap (λ r. record node { role = r; held = holding_to gone node.held }) (role_still v node.role none)

-- a book whose open nodes have the same places stays alike
book_still : (to new : ℕ → ℕ) (named : ℕ → Option ℕ) (opened : ℕ) (book other : BookState) → BookAlike to named opened book other
    → ((k : ℕ) (node : Node) → node_at book k ≡ Some node → new k ≡ to k) → ((k gone : ℕ) (node : Node) → node_at book k ≡ Some node → node_to new gone node ≡ node_to to gone node)
    → BookAlike new named opened book other
book_still to new named opened book other alike same like = record {
  long = alike.long;
  nodes = λ k node at.
      let had = alike.nodes k node at in
      (had.0, ap (node_at other) (same k node at) ∙ had.1 ∙ ap Some (sym (like k had.0 node at)));
  apart = λ k again node second at too e. alike.apart k again node second at too (sym (same k node at) ∙ e ∙ same again second too);
  below = λ k node at. let lt = alike.below k node at in let e = same k node at in omega (arith, lt, e);
  free = alike.free;
  names = λ k node at. alike.names k node at ∙ ap Some (sym (same k node at));
  none = alike.none;
}

module _ (scene : Scene) (s other : State) (i : Invariant scene s) (to : Places) (names : Names) (alike : StatesAlike scene to names s other)
    (writer key : ℕ) (vacant : IsVacant (s.objects.book writer) key) (place : ℕ) where
  abbrev none : total_weight scene (references scene.setup writer key) s ≡ 0
  none = no_ref scene s i writer key vacant

  abbrev r : Weight
  r = references scene.setup writer key

  under_none : (v k : ℕ) (node : Node) → node_at (s.objects.book v) k ≡ Some node → under writer key v (parent_of node.role) ≡ 0
  under_none v k node at = omega (arith, none, node_part scene s i r v k node at)

  pub marked : StatesAlike scene (with_mark to writer key place) names s other
  marked = record {
    objects = record {
      pools = alike.objects.pools;
      tally = alike.objects.tally;
      rescued = λ dev lt.
          let part = part_of (λ dev bios. sum_by (r.bio Rescued) bios) scene.setup.count s.objects.rescue dev lt in
          alike.objects.rescued dev lt ∙ sym (items_still scene.setup to writer key place (s.objects.rescue dev) (omega (arith, none, part)));
      disks = λ dev lt.
          let part = part_of (λ dev (disk : DiskState). sum_by (r.bio Pending) disk.pending) scene.setup.count s.objects.disk dev lt in
          alike.objects.disks dev lt
          ∙ ap (λ bios. record (s.objects.disk dev) { pending = bios }) (sym (items_still scene.setup to writer key place (s.objects.disk dev).pending (omega (arith, none, part))));
      books = λ v.
          book_still (to v) (with_mark to writer key place v) (names.place v) (names.opened v) (s.objects.book v) (other.objects.book v) (alike.objects.books v)
          (λ k node at. mark_other to writer key place v k (elsewhere scene s i writer key vacant v k node at))
          (λ k gone node at. node_still scene.setup to writer key place v gone node (under_none v k node at));
    };
    tasks = λ at lt.
        let had = alike.tasks at lt in
        let part = part_of (task_weight r) scene.tasks s.task at lt in
        (had.0, had.1 ∙ sym (task_still scene.setup to writer key place at had.0 (s.task at) (has_leg scene (s.task at) (i.tasks at)) (omega (arith, none, part))));
  }
