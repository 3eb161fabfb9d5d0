-- What is so of the writes of all top nodes is so of those of all open nodes, and of all bios.
use Rattle.std.proofs.Common.{◌≡◌, ◌+◌, ◌*◌, ◌<◌, ◌≤◌, ℕ, zero, suc, length, Option, None, Some, refl, sym, ◌∙◌, ap, subst, arith}
use Rattle.stack_base.specs.declared.ids.DevId.{DevId}
use Rattle.bio_records.specs.declared.bio.Bio.{Bio}
use Rattle.bio_records.specs.declared.bio.Pad.{Pad}
use Rattle.bio_records.specs.Items.{Item}
use Rattle.bio_books.specs.Books.{Node, node_at, parent_of}
use Rattle.bio_books.specs.Drops.{Closed}
use Rattle.run_machine.specs.Scene.{Setup, Scene, tree_at}
use Rattle.run_machine.specs.Submissions.{legs_of}
use Rattle.run_machine.specs.Tasks.{Completer, Carries}
use Rattle.run_machine.specs.Runs.{State}
use Rattle.block_core.specs.Weights.{total_weight, sum_at, one_if_same, names_node, under, legs_left}
use Rattle.block_core.proofs.moves.References.{references}
use Rattle.block_core.proofs.sound.EachBio.{each_part, each_copied_part}
use Rattle.block_core.proofs.moves.SumsCompared.{IsPart}
use Rattle.block_core.proofs.sound.Strays.{bio_strays, parent_strays, strays}
use Rattle.block_core.specs.Present.{AllAtWork}
use Rattle.block_core.proofs.moves.Sums.{apart, one-same, within_book}
use Rattle.block_core.proofs.sound.Invariant.{Invariant}
use Rattle.block_core.proofs.moves.Totals.{part_of, task_part}
use Rattle.block_core.proofs.stuck.Idle.{GoesDown, open_in_books, open_at, node_part, names_one}
use Rattle.block_core.proofs.sound.OfOneWrite.{node_write, child_of_write}

-- a bio that a mirror copies refers, once for each leg that is left, to its master
pub copied_times : (setup : Setup) (bio : Bio) (master leg : ℕ) → one_if_same bio.writer bio.writer * one_if_same master master * legs_left setup bio leg ≡ legs_left setup bio leg
copied_times setup bio master leg =
    ap (λ k. k * one_if_same master master * legs_left setup bio leg) (one-same bio.writer) ∙ (ap (λ k. 1 * k * legs_left setup bio leg) (one-same master) ∙ omega arith)

module _ (scene : Scene) (s : State) (i : Invariant scene s) (level : ℕ → ℕ → ℕ) (down : GoesDown s level) (write_of : ℕ → ℕ → ℕ) (none : total_weight scene (strays write_of) s ≡ 0)
    (P : ℕ → Type 0) (tops : (writer key : ℕ) (node : Node) → writer < scene.books → node_at (s.objects.book writer) key ≡ Some node → parent_of node.role ≡ None → P node.write) where
  -- the levels of all nodes of a book together
  abbrev all_levels : ℕ → ℕ
  all_levels writer = sum_at (λ place (found : Option Node). level writer place) (length (s.objects.book writer).nodes) (node_at (s.objects.book writer))

  -- the way up from node to node comes to a top, since no level is above all of them together
  way_up : (fuel writer key : ℕ) (node : Node) → node_at (s.objects.book writer) key ≡ Some node → all_levels writer < level writer key + fuel → P node.write
  way_up zero writer key node at lt =
      absurd (omega (
        arith,
        lt,
        part_of (λ place (found : Option Node). level writer place) (length (s.objects.book writer).nodes) (node_at (s.objects.book writer)) key
            (within_book (s.objects.book writer) key node at),
      ))
  way_up (suc fuel) writer key node at lt = by_parent (λ k found is more. way_up fuel writer k found is more) (parent_of node.role) refl
    where
      by_parent : ((k : ℕ) (found : Node) → node_at (s.objects.book writer) k ≡ Some found → all_levels writer < level writer k + fuel → P found.write)
          → (parent : Option ℕ) → parent_of node.role ≡ parent → P node.write
      by_parent on None is = tops writer key node (open_in_books scene s i writer key node at) at is
      by_parent on (Some parent) is =
          let refers : under writer parent writer (parent_of node.role) ≡ 1 =
          ap (under writer parent writer) is ∙ (ap (λ n. n * one_if_same parent parent) (one-same writer) ∙ ap (λ n. 1 * n) (one-same parent)) in
          let up = open_at scene s i writer parent (omega (arith, refers, node_part scene s i (references scene.setup writer parent) writer key node at)) in
          let above = down writer key node parent at is in
          let same : node.write ≡ up.0.write = child_of_write scene s i write_of none writer key parent node up.0 at is up.1 in
          subst P (sym same) (on parent up.0 up.1 (omega (arith, lt, above)))

  -- so of each open node,
  pub of_node : (writer key : ℕ) (node : Node) → node_at (s.objects.book writer) key ≡ Some node → P node.write
  of_node writer key node at = way_up (all_levels writer + 1) writer key node at (omega arith)

  -- and of each bio that names one
  pub of_named : (item : Item Pad) → names_node item.bio.writer item.bio.node item ≤ total_weight scene (references scene.setup item.bio.writer item.bio.node) s → bio_strays write_of item ≤ total_weight scene (strays write_of) s
      → P item.bio.write
  of_named item part own =
      let up = open_at scene s i item.bio.writer item.bio.node (omega (arith, part, names_one item)) in
      let same : up.0.write ≡ item.bio.write = omega (arith, own, none, node_write scene s i write_of none item.bio.writer item.bio.node up.0 up.1) in
      subst P same (of_node item.bio.writer item.bio.node up.0 up.1)

  -- of each bio that a mirror copies,
  of_copied : (bio : Bio) (master leg : ℕ) → leg < legs_of (tree_at scene.setup bio.dev) → IsPart scene s (λ w. w.copy bio master leg) → P bio.write
  of_copied bio master leg lt part =
      let up = open_at scene s i bio.writer master (omega (arith, copied_times scene.setup bio master leg, lt, part (references scene.setup bio.writer master))) in
      let same : up.0.write ≡ bio.write = omega (arith, none, part (strays write_of), node_write scene s i write_of none bio.writer master up.0 up.1) in
      subst P same (of_node bio.writer master up.0 up.1)

  -- and what is carried of a closed node, where this is so of closed top nodes
  module _ (tops_carried : (place : ℕ) (disk : DevId) (writer : ℕ) (closed : Closed) → place < scene.tasks → s.task place ≡ Completer disk (Carries writer closed) → closed.parent ≡ None
      → P closed.write) where
    of_closed : (place : ℕ) (disk : DevId) (writer : ℕ) (closed : Closed) → place < scene.tasks → s.task place ≡ Completer disk (Carries writer closed) → P closed.write
    of_closed place disk writer closed here is = by_parent closed.parent refl
      where
        by_parent : (parent : Option ℕ) → closed.parent ≡ parent → P closed.write
        by_parent None same = tops_carried place disk writer closed here is same
        by_parent (Some parent) same =
            let refers : under writer parent writer closed.parent ≡ 1 =
            ap (under writer parent writer) same ∙ (ap (λ n. n * one_if_same parent parent) (one-same writer) ∙ ap (λ n. 1 * n) (one-same parent)) in
            let up = open_at scene s i writer parent
            (omega (arith, refers, task_part scene (references scene.setup writer parent) s place (Completer disk (Carries writer closed)) here is)) in
            let own : parent_strays write_of writer closed.parent closed.write ≡ apart (write_of writer parent) closed.write = ap (λ p. parent_strays write_of writer p closed.write) same in
            let write : up.0.write ≡ closed.write =
            omega (
              arith,
              none,
              own,
              node_write scene s i write_of none writer parent up.0 up.1,
              task_part scene (strays write_of) s place (Completer disk (Carries writer closed)) here is,
            ) in
            subst P write (of_node writer parent up.0 up.1)

    -- so all that is at work is of such writes
    pub all_at_work : AllAtWork P scene s
    all_at_work = record {
      nodes = of_node;
      carried = of_closed;
      bios =
          each_part scene s (λ item. P item.bio.write)
          (λ spot item part. of_named item (part (references scene.setup item.bio.writer item.bio.node)) (part (strays write_of)));
      copied = each_copied_part scene s i (λ bio master. P bio.write) of_copied;
    }
