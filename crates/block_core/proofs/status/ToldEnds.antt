-- What a completer tells a node may be told, and a node that closes ends as its run may.
use Rattle.std.proofs.Common.{◌≡◌, ◌+◌, ◌-◌, ◌*◌, ◌<◌, ◌≤◌, ℕ, Bool, Option, Some, refl, sym, ◌∙◌, ap, subst, arith}
use Rattle.std.specs.Prelude.{sum_by}
use Rattle.std.specs.List.{range_with_len}
use Rattle.stack_base.specs.declared.ids.DevId.{DevId}
use Rattle.stack_base.specs.declared.ids.Status.{Status}
use Rattle.stack_base.specs.declared.ids.Status.TheVariants.{Ok}
use Rattle.layout_model.specs.declared.fragment.Fragment.{Fragment}
use Rattle.bio_records.specs.declared.bio.Pad.{Pad}
use Rattle.bio_records.specs.Items.{Item}
use Rattle.bio_books.specs.Books.{Node, node_at, told, parent_of, kept_with, closing}
use Rattle.bio_books.specs.Drops.{Closed, closed_of}
use Rattle.run_machine.specs.Scene.{Setup, Scene, tree_at}
use Rattle.run_machine.specs.Tasks.{TaskState, Writer, Rescuer, Completer, Keeper, Carried, Empty, Brings, Carries, Fails}
use Rattle.run_machine.specs.Runs.{State}
use Rattle.block_core.specs.Weights.{Weight, total_weight, one_if_same, carried_weight, names_node, under, legs_left}
use Rattle.block_core.proofs.moves.References.{references, awaited_ends}
use Rattle.block_core.specs.Fragments.{fragment_of}
use Rattle.block_core.proofs.status.Marks.{is, bio_may, leg_may, Mark, IsMark, allowed, decides, lack, mismatch, above, unallowed, deciding, IsMarked}
use Rattle.block_core.proofs.moves.Moves.{Can, after, TellsNode}
use Rattle.block_core.proofs.moves.Moves as moves
use Rattle.block_core.proofs.moves.Sums.{upd-same, one-same}
use Rattle.block_core.proofs.sound.Invariant.{Invariant}
use Rattle.block_core.proofs.moves.Deltas.{delta}
use Rattle.block_core.proofs.moves.Totals.{IsWithin, within, task_part}
use Rattle.block_core.proofs.stuck.Idle.{node_part}
use Rattle.block_core.proofs.sound.ReferencesCounted.{tells_refs}
use Rattle.block_core.proofs.status.RunEndings.{few_yes}
use Rattle.block_core.proofs.status.NodeValues.{is_itself, few_is, few_well, closes_given}
use Rattle.block_core.proofs.status.AtOneNode.{leg_few, decides_few, times_less, times_few, sum_few}

-- what a completer brings has ended as its fragment ends
abbrev pub BringsRight : (Fragment → Status) → DevId → Carried → Type 0
BringsRight ends disk Empty = Unit {0}
BringsRight ends disk (Brings bio status) = (bio.bio.dev.0 ≡ disk.0) × (status ≡ ends (fragment_of bio.bio))
BringsRight ends disk (Carries writer closed) = Unit {0}
BringsRight ends disk (Fails breach kept) = ⊥

abbrev pub HasEnding : (Fragment → Status) → TaskState → Type 0
HasEnding ends (Writer number todo taken submission) = Unit {0}
HasEnding ends (Rescuer dev submission) = Unit {0}
HasEnding ends (Completer disk carried) = BringsRight ends disk carried
HasEnding ends (Keeper keeping) = Unit {0}

module _ (scene : Scene) (ends : Fragment → Status) (written : ℕ → Status → ℕ) (s : State) (i : Invariant scene s) (endings : (place : ℕ) → HasEnding ends (s.task place))
    (mark : ℕ → ℕ → Mark) (h : IsMarked scene ends written mark s) where
  abbrev setup : Setup
  setup = scene.setup

  abbrev off_by : (ℕ → ℕ → Mark) → Status → Weight
  off_by mark end = unallowed setup ends written mark end

  abbrev to_decide : (ℕ → ℕ → Mark) → ℕ → ℕ → Weight
  to_decide mark w k = deciding setup ends mark (mark w k).master w k

  -- what decides a node refers to it
  deciding_within : (mark : ℕ → ℕ → Mark) → ((w k : ℕ) → IsMark (mark w k)) → (master : Bool) (w k : ℕ) → IsWithin (deciding setup ends mark master w k) (references setup w k) (references setup w k) (references setup w k)
  deciding_within mark fair master w k = record {
    todo = λ writer todos taken. omega arith;
    bio = λ spot item. omega (arith, times_few (names_node w k item) (decides master (bio_may setup ends item.bio Ok)) (decides_few master (bio_may setup ends item.bio Ok) (few_yes _)));
    copy = λ bio m leg.
        omega (
          arith,
          times_less (one_if_same bio.writer w * one_if_same m k) (sum_by (λ j. decides master (leg_may ends (tree_at setup bio.dev) bio j Ok)) (range_with_len leg (legs_left setup bio leg))) (legs_left setup bio leg)
              (sum_few (λ j. decides master (leg_may ends (tree_at setup bio.dev) bio j Ok)) (legs_left setup bio leg) leg
              (λ j. decides_few master (leg_may ends (tree_at setup bio.dev) bio j Ok) (leg_few ends (tree_at setup bio.dev) bio j Ok))),
        );
    hand = λ item. omega arith;
    vector = λ vector. omega arith;
    slip = λ slip. omega arith;
    node = λ writer place node.
        omega (
          arith,
          times_few (under w k writer (parent_of node.role)) (decides master ((mark writer place).ends Ok))
              (decides_few master ((mark writer place).ends Ok) (few_well (mark writer place) (fair writer place))),
        );
    closed = λ task writer closed.
        omega (arith, times_few (under w k writer closed.parent) (decides master (is Ok closed.status)) (decides_few master (is Ok closed.status) (few_is Ok closed.status)));
  }

  -- what a node keeps may be told, and it is marked by its role
  node_off : (end : Status) (writer key : ℕ) (node : Node) → node_at (s.objects.book writer) key ≡ Some node
      → mismatch node.role (mark writer key).master + (is end node.status - allowed (mark writer key) end)
      + above written mark end ((mark writer key).ends end) writer node.write (parent_of node.role) ≡ 0
  node_off end writer key node at = omega (arith, h.fits end, node_part scene s i (off_by mark end) writer key node at)

  pub by_role : (writer key : ℕ) (node : Node) → node_at (s.objects.book writer) key ≡ Some node → mismatch node.role (mark writer key).master ≡ 0
  by_role writer key node at = omega (arith, node_off Ok writer key node at)

  pub kept_allowed : (writer key : ℕ) (node : Node) → node_at (s.objects.book writer) key ≡ Some node → 1 ≤ allowed (mark writer key) node.status
  kept_allowed writer key node at = omega (arith, node_off node.status writer key node at, is_itself node.status)

  -- what a completer tells a node may be told,
  teller_off : (end : Status) (place : ℕ) (disk : DevId) (carried : Carried) → place < scene.tasks → s.task place ≡ Completer disk carried → carried_weight (off_by mark end) place carried ≡ 0
  teller_off end place disk carried here at = omega (arith, h.fits end, task_part scene (off_by mark end) s place (Completer disk carried) here at)

  pub told_may : (place : ℕ) (disk : DevId) (carried : Carried) (writer key : ℕ) (status : Status) (part : Option (Item Pad)) → place < scene.tasks → s.task place ≡ Completer disk carried
      → TellsNode carried writer key status part → 1 ≤ allowed (mark writer key) status
  told_may place disk (Brings bio ending) writer key status part here at t =
      let e = (subst (HasEnding ends) at (endings place)).1 in
      let own : is ending (ends (fragment_of bio.bio)) ≡ 1 = ap (is ending) (sym e) ∙ is_itself ending in
      let may_come : 1 ≤ allowed (mark bio.bio.writer bio.bio.node) ending = omega (arith, own, teller_off ending place disk (Brings bio ending) here at) in
      let P : ℕ → ℕ → Status → Type 0 = λ w k end. 1 ≤ allowed (mark w k) end in
      subst (λ w. P w key status) (sym t.0) (subst (λ k. P bio.bio.writer k status) (sym t.1) (subst (P bio.bio.writer bio.bio.node) (sym t.2) may_come))
  told_may place disk (Carries of closed) writer key status part here at t =
      let off : above written mark closed.status (is closed.status closed.status) of closed.write (Some key) ≡ 0 =
      ap (above written mark closed.status (is closed.status closed.status) of closed.write) (sym t.1) ∙ teller_off closed.status place disk (Carries of closed) here at in
      let may_come : 1 ≤ allowed (mark of key) closed.status = omega (arith, off, is_itself closed.status) in
      subst (λ w. 1 ≤ allowed (mark w key) status) (sym t.0) (subst (λ end. 1 ≤ allowed (mark of key) end) (sym t.2) may_come)
  told_may place disk Empty writer key status part here at t = absurd t
  told_may place disk (Fails breach kept) writer key status part here at t = absurd t

  -- and decides as what it is
  pub told_weight : (master : Bool) (w k : ℕ) (place : ℕ) (disk : DevId) (carried : Carried) (writer key : ℕ) (status : Status) (part : Option (Item Pad)) → place < scene.tasks
      → s.task place ≡ Completer disk carried → TellsNode carried writer key status part
      → carried_weight (deciding setup ends mark master w k) place carried ≡ one_if_same writer w * one_if_same key k * decides master (is Ok status)
  told_weight master w k place disk (Brings bio ending) writer key status part here at t =
      let e = (subst (HasEnding ends) at (endings place)).1 in
      let like : bio_may setup ends bio.bio Ok ≡ is Ok (ends (fragment_of bio.bio)) = omega (arith, teller_off Ok place disk (Brings bio ending) here at) in
      let same : bio_may setup ends bio.bio Ok ≡ is Ok status = like ∙ ap (is Ok) (sym e ∙ sym t.2) in
      ap (λ n. names_node w k bio * decides master n) same ∙ ap (λ n. one_if_same n w * one_if_same bio.bio.node k * decides master (is Ok status)) (sym t.0)
      ∙ ap (λ n. one_if_same writer w * one_if_same n k * decides master (is Ok status)) (sym t.1)
  told_weight master w k place disk (Carries of closed) writer key status part here at t =
      ap (λ p. under w k of p * decides master (is Ok closed.status)) t.1 ∙ ap (λ n. one_if_same n w * one_if_same key k * decides master (is Ok closed.status)) (sym t.0)
      ∙ ap (λ end. one_if_same writer w * one_if_same key k * decides master (is Ok end)) (sym t.2)
  told_weight master w k place disk Empty writer key status part here at t = absurd t
  told_weight master w k place disk (Fails breach kept) writer key status part here at t = absurd t

  -- a node that is told of its last end ends as its run may
  pub closes : (place : ℕ) (disk : DevId) (carried : Carried) (writer key : ℕ) (status : Status) (part : Option (Item Pad)) (node : Node)
      → Can scene s (moves.Closes place disk carried writer key status part node) → 1 ≤ (mark writer key).ends (closing node.role (kept_with node.role node.status status))
  closes place disk carried writer key status part node c =
      let m = moves.Closes place disk carried writer key status part node in
      let w : Weight = to_decide mark writer key in
      let r : Weight = references setup writer key in
      let same : one_if_same writer writer * one_if_same key key ≡ 1 = rw (one-same writer, one-same key) refl in
      let waits : total_weight scene r s ≡ 1 = sym (i.counts writer key) ∙ ap awaited_ends c.4 ∙ c.5 in
      let refers = tells_refs setup writer key writer key status part carried c.2 in
      let closed : Closed = closed_of (told node status part) in
      -- nothing refers to it behind the event, so nothing decides it then
      let none : total_weight scene r (after scene s m) ≡ 0 = omega (arith, delta scene r s m c, waits, refers, same) in
      let nothing : total_weight scene w (after scene s m) ≡ 0 =
      omega (arith, none, within w r r r (deciding_within mark h.fair (mark writer key).master writer key) scene (after scene s m)) in
      let up : under writer key writer (parent_of node.role) ≡ 0 =
      omega (arith, none, task_part scene r (after scene s m) place (Completer disk (Carries writer closed)) c.0 (upd-same s.task place (Completer disk (Carries writer closed)))) in
      let own : under writer key writer (parent_of node.role) * decides (mark writer key).master ((mark writer key).ends Ok) ≡ 0 =
      ap (λ n. n * decides (mark writer key).master ((mark writer key).ends Ok)) up ∙ omega arith in
      let teller = told_weight (mark writer key).master writer key place disk carried writer key status part c.0 c.1 c.2 in
      let one_end : one_if_same writer writer * one_if_same key key * decides (mark writer key).master (is Ok status) ≡ decides (mark writer key).master (is Ok status) =
      ap (λ n. n * decides (mark writer key).master (is Ok status)) same ∙ omega arith in
      let lacks : lack (mark writer key) (Some node) ≤ total_weight scene w s = subst (λ found. lack (mark writer key) found ≤ total_weight scene w s) c.4 (h.decided writer key) in
      closes_given (mark writer key) (h.fair writer key) node.role (by_role writer key node c.4) node.status status (kept_allowed writer key node c.4)
      (told_may place disk carried writer key status part c.0 c.1 c.2)
      (omega (arith, lacks, teller, one_end, own, nothing, delta scene w s m c))
