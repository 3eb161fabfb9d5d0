-- A completer that has something to do has an event that needs no ordinary memory.
use Rattle.std.proofs.Common.{◌≡◌, ◌*◌, ◌<◌, ◌≤◌, ◌⊎◌, if◌then◌else◌, ℕ, IsTrue, List, [], ◌∷◌, Option, None, Some, inl, inr, refl, sym, ◌∙◌, ap, subst, arith, remove}
use Rattle.std.specs.Prelude.{slice_get}
use Rattle.stack_base.specs.declared.ids.DevId.{DevId}
use Rattle.stack_base.specs.declared.ids.Status.{Status}
use Rattle.mempool_core.specs.Move.{gives}
use Rattle.bio_records.specs.declared.bio.Pad.{Pad}
use Rattle.bio_records.specs.Items.{Item}
use Rattle.bio_books.specs.Books.{Node, BookState, VectorItem, SlipItem, node_at, with_node, lowered, told, parent_of}
use Rattle.bio_books.specs.Drops.{Closed, closed_of}
use Rattle.run_machine.specs.Maps.{upd}
use Rattle.run_machine.specs.Scene.{Setup, Scene}
use Rattle.run_machine.specs.Tasks.{Completer, Carried, Empty, Carries}
use Rattle.run_machine.specs.Objects.{done_one}
use Rattle.run_machine.specs.Runs.{State}
use Rattle.block_core.specs.Weights.{total_weight, one_if_same, elements_of_pool, holding_elements}
use Rattle.block_core.proofs.moves.References.{references}
use Rattle.block_core.proofs.moves.Moves.{with_pool, with_book}
use Rattle.block_core.proofs.moves.Totals.{task_part}
use Rattle.block_core.proofs.moves.Sums.{upd-same, one-same, below_or}
use Rattle.block_core.proofs.sound.Invariant.{Invariant}
use Rattle.std.specs.Prelude.{IsSome}
use Rattle.stack_base.specs.Fault.{status_eq, fault}
use Rattle.stack_base.specs.declared.ids.Status.TheVariants.{Ok}
use Rattle.model_disks.specs.Moves.{Completes, written}
use Rattle.bio_books.specs.Drops.{DropOutcome, Drops, DropsAt}
use Rattle.bio_books.specs.Drops as end
use Rattle.run_machine.specs.declared.event.What.{What}
use Rattle.run_machine.specs.Requests as requests
use Rattle.run_machine.specs.Objects.{Serves}
use Rattle.run_machine.specs.Events.{what_of, is_free}
use Rattle.run_machine.specs.Tasks.{request}
use Rattle.run_machine.specs.Runs.{HasFree}
use Rattle.block_core.proofs.stuck.Idle.{open_at}
use Rattle.block_core.proofs.stuck.FreeEvents.{free_of, drop_serves}

module _ (scene : Scene) (s : State) (k : Invariant scene s) where
  abbrev setup : Setup
  setup = scene.setup

  -- a completer whose disk has a bio
  pub complete_free : (place : ℕ) → place < scene.tasks → (disk : DevId) → s.task place ≡ Completer disk Empty → HasFree scene s ⊎ ((s.objects.disk disk.0).pending ≡ [])
  complete_free place here disk at = by_list (s.objects.disk disk.0).pending refl
    where
      by_list : (items : List (Item Pad)) → (s.objects.disk disk.0).pending ≡ items → HasFree scene s ⊎ ((s.objects.disk disk.0).pending ≡ [])
      by_list [] is = inr is
      by_list (item ∷ items) is =
          let old = s.objects.disk disk.0 in
          let status = fault old.bad item.bio.range in
          let new = record old { image = if status_eq status Ok then written item.bio old.image else old.image; pending = remove old.pending 0 } in
          let taken : slice_get old.pending 0 ≡ Some item = ap (λ l. slice_get l 0) is in
          let done : Completes old 0 item status new = record { taken = taken; status = refl; after = refl } in
          let same = upd-same s.objects.disk disk.0 new in
          inl (free_of scene s place here (Completer disk Empty) at (requests.Completed 0 item status) _ tt refl refl (record s.objects { disk = upd s.objects.disk disk.0 new })
          (subst (Completes old 0 item status) (sym same) done, ap (λ d. record s.objects { disk = upd s.objects.disk disk.0 d }) (sym same)))

  -- a node is told of an end
  pub drop_free : (place : ℕ) → place < scene.tasks → (disk : DevId) (carried : Carried) → s.task place ≡ Completer disk carried → (w key : ℕ) (status : Status) (part : Option (Item Pad))
      → request setup (Completer disk carried) ≡ requests.Drop w key status part → 1 ≤ total_weight scene (references setup w key) s → HasFree scene s
  drop_free place here disk carried at w key status part asks some =
      let o = open_at scene s k w key some in by_count o.0 o.1 (below_or 1 o.0.count) o.2
    where
      tell : (ended : DropOutcome) (book : BookState) (told_it : What) → what_of (requests.Drop w key status part) (requests.DroppedTo ended) ≡ Some told_it → IsTrue (is_free told_it)
          → Drops (s.objects.book w) key status part ended book → HasFree scene s
      tell ended book told_it is free drops =
          free_of scene s place here (Completer disk carried) at (requests.DroppedTo ended) told_it tt (ap (λ r. what_of r (requests.DroppedTo ended)) asks ∙ is) free (with_book s.objects w book)
          (subst (λ r. Serves scene.ledger s.objects r (requests.DroppedTo ended) (with_book s.objects w book)) (sym asks) (drop_serves scene s w key status part ended book drops))

      by_count : (node : Node) → node_at (s.objects.book w) key ≡ Some node → (1 < node.count) ⊎ (node.count ≤ 1) → 1 ≤ node.count → HasFree scene s
      by_count node is (inl more) alive =
          let book = with_node (s.objects.book w) key (Some (lowered (told node status part))) in
          tell end.Left book _ refl refl (subst (λ found. DropsAt (s.objects.book w) key found status part end.Left book) (sym is) (more, refl))
      by_count node is (inr few) alive = by_parent (parent_of node.role) refl (omega (arith, few, alive))
        where
          closed : Closed
          closed = closed_of (told node status part)

          by_parent : (parent : Option ℕ) → parent_of node.role ≡ parent → node.count ≡ 1 → HasFree scene s
          by_parent None top last =
              let book = with_node (s.objects.book w) key None in
              tell (end.Top closed) book _ refl refl (subst (λ found. DropsAt (s.objects.book w) key found status part (end.Top closed) book) (sym is) (last, top, refl, refl))
          by_parent (Some parent) up last =
              let book = with_node (s.objects.book w) key None in
              let has : IsSome (parent_of node.role) = subst (λ (o : Option ℕ). IsSome o) (sym up) refl in
              tell (end.Up closed) book _ refl refl (subst (λ found. DropsAt (s.objects.book w) key found status part (end.Up closed) book) (sym is) (last, has, refl, refl))

  -- an element is out whose completer has it
  held_out : (place : ℕ) → place < scene.tasks → (disk : DevId) (w : ℕ) (closed : Closed) → s.task place ≡ Completer disk (Carries w closed) → (q : ℕ) → 1 ≤ holding_elements q closed.held → 0 < (s.objects.pool q).facts.out
  held_out place here disk w closed at q some =
      let part = task_part scene (elements_of_pool q) s place (Completer disk (Carries w closed)) here at in
      let all = k.outs q in
      omega (arith, part, all, some)

  pub carries_free : (place : ℕ) → place < scene.tasks → (disk : DevId) (w : ℕ) (vector : Option VectorItem) (bio : Option (Item Pad)) (slip : Option SlipItem) (parent : Option ℕ) (write : ℕ) (status : Status)
      → s.task place ≡ Completer disk (Carries w (record { held = record { bio = bio; vector = vector; slip = slip }; parent = parent; write = write; status = status })) → HasFree scene s
  carries_free place here disk w (Some v) bio slip parent write status at =
      let out = held_out place here disk w _ at v.share.no (omega (arith, one-same v.share.no)) in
      free_of scene s place here _ at requests.Did _ tt refl refl (with_pool s.objects v.share.no gives) (out, refl)
  carries_free place here disk w None (Some b) slip parent write status at =
      let out = held_out place here disk w _ at b.share.no (omega (arith, one-same b.share.no)) in
      free_of scene s place here _ at requests.Did _ tt refl refl (with_pool s.objects b.share.no gives) (out, refl)
  carries_free place here disk w None None (Some r) parent write status at =
      let out = held_out place here disk w _ at r.share.no (omega (arith, one-same r.share.no)) in
      free_of scene s place here _ at requests.Did _ tt refl refl (with_pool s.objects r.share.no gives) (out, refl)
  carries_free place here disk w None None None (Some parent) write status at =
      let part = task_part scene (references setup w parent) s place _ here at in
      let both_one : one_if_same w w * one_if_same parent parent ≡ 1 = rw (one-same w, one-same parent) refl in
      drop_free place here disk _ at w parent status None refl (omega (arith, part, both_one))
  carries_free place here disk w None None None None write status at =
      free_of scene s place here _ at requests.Did _ tt refl refl (record s.objects { tally = done_one write status s.objects.tally }) refl
