-- Where a write is told done, nothing of it is left to come.
use Rattle.std.proofs.Common.{◌≡◌, ◌≢◌, ◌*◌, ◌<◌, ◌≤◌, ◌++◌, ℕ, List, [], ◌∷◌, length, None, Some, refl, sym, ◌∙◌, ap, subst, arith}
use Rattle.std.specs.Prelude.{sum_by}
use Rattle.std.specs.List.{range_with_len, flat_map}
use Rattle.std.proofs.lemmas.List.Sums.{sum_by-cons, sum_by-append}
use Rattle.elem_ledger.specs.Ledger.{LedgerId}
use Rattle.stack_base.specs.Mapping.{slot}
use Rattle.stack_base.specs.Cutting.{piece_end}
use Rattle.stack_base.specs.Tree.{Tree, Leaf, Split, Mirrored}
use Rattle.layout_model.specs.declared.fragment.Fragment.{Fragment}
use Rattle.layout_model.specs.Plan.{cuts, frags, leaves, plan}
use Rattle.layout_model.proofs.Planned.{leaves_plan}
use Rattle.bio_records.specs.declared.bio.Bio.{Bio}
use Rattle.bio_records.specs.declared.bio.Pad.{Pad}
use Rattle.bio_records.specs.Items.{Item}
use Rattle.bio_books.specs.Books.{Node, node_at, parent_of}
use Rattle.run_machine.specs.declared.event.Event.{Event}
use Rattle.run_machine.specs.declared.event.What.TheVariants as what
use Rattle.run_machine.specs.Events.{what_of}
use Rattle.run_machine.specs.Scene.{Setup, Scene, tree_at}
use Rattle.run_machine.specs.Tasks.{Todo}
use Rattle.run_machine.specs.Opened.{Scenario, scene, start, setup_in}
use Rattle.run_machine.specs.Requests as requests
use Rattle.run_machine.specs.Requests.{Request, Reply}
use Rattle.run_machine.specs.Runs.{State, IsRun, Happens}
use Rattle.stack_base.specs.declared.ids.Status.{Status}
use Rattle.block_core.specs.Weights.{Spot, Lined, Rescued, Pending, Brought, total_weight, one_if_same, legs_left}
use Rattle.block_core.proofs.moves.References.{references}
use Rattle.block_core.specs.Scenarios.{IsScenario, IsNaming}
use Rattle.block_core.specs.Dones.{done_in}
use Rattle.block_core.specs.Fragments.{offset_of, fragment_of, leg_fragments, todo_fragments, bio_comes, legs_come, to_come, completed_by, completed, is_it}
use Rattle.block_core.proofs.sound.Strays.{strays}
use Rattle.block_core.specs.DoneWrites.{DoneIsCompleted}
use Rattle.block_core.proofs.moves.Sums.{one-same, yes}
use Rattle.block_core.proofs.sound.Invariant.{LedgersAreNumbered, Invariant}
use Rattle.block_core.proofs.moves.SumsCompared.{under_in_all}
use Rattle.block_core.proofs.stuck.Idle.{GoesDown, open_at, node_part}
use Rattle.block_core.proofs.unrefused.Resizes.{goes_down}
use Rattle.block_core.proofs.moves.Devices.{ground}
use Rattle.block_core.proofs.sound.DoneOnce.{to_begin, stage}
use Rattle.block_core.proofs.sound.EventStages.{top_is}
use Rattle.block_core.specs.Rounds.{tops}
use Rattle.block_core.proofs.sound.EveryRun.{IsReachedWhole, runs_whole, start_whole, runs_leveled, start_leveled, runs_done, stage_once}
use Rattle.block_core.proofs.sound.OfOneWrite.{runs_of_one_write, start_of_one_write, node_write}
use Rattle.block_core.proofs.images.Ancestors.{of_node, of_named}
use Rattle.block_core.proofs.images.FragmentCounts.{divided}
use Rattle.block_core.proofs.sound.Orders.{DeviceGeometry}
use Rattle.block_core.proofs.moves.StepMoves.{step_is_move}
use Rattle.block_core.proofs.moves.Misfits.{Follows, misfits, no_misfits}
use Rattle.block_core.proofs.images.StillToCome.{over}
use Rattle.block_core.proofs.images.Completed.{over_follows, fragments_add_up, runs_come, start_counted}
use Rattle.block_core.proofs.images.PlannedOnce.{is_planned, no_other_is_completed, not_same}

flat_none : {X Y : Type 0} (value : Y → ℕ) (f : X → List Y) (xs : List X) → ((x : X) → sum_by value (f x) ≡ 0) → sum_by value (flat_map f xs) ≡ 0
flat_none value f [] none = refl
flat_none value f (x ∷ xs) none = omega (arith, sum_by-append value (f x) (flat_map f xs), none x, flat_none value f xs none)

one_of : (i j : ℕ) → i ≡ j → one_if_same i j ≡ 1
one_of i j e = ap (λ k. one_if_same i k) (sym e) ∙ one-same i

-- fragments of one write alone count
module _ (w : ℕ) (value : Fragment → ℕ) (other : (f : Fragment) → f.write ≢ w → value f ≡ 0) where
  -- so those of another one are nothing
  frags_none : (t : Tree) (write offset r len : ℕ) → write ≢ w → sum_by value (frags t write offset r len) ≡ 0
  unfolding frags
  frags_none (Leaf number sectors) write offset r len ne =
      let f : Fragment = record { write = write; offset = offset; len = len; disk = record { 0 = number }; at = r } in
      omega (arith, sum_by-cons value f [], other f ne)
  frags_none (Split number kind sizes members) write offset r len ne =
      flat_none value (λ p. frags (members (slot kind sizes p.start).member) write p.offset (slot kind sizes p.start).at p.len) (cuts (piece_end kind sizes) offset r len)
      (λ p. frags_none (members (slot kind sizes p.start).member) write p.offset (slot kind sizes p.start).at p.len ne)
  frags_none (Mirrored number sizes members) write offset r len ne =
      flat_none value (λ k. frags (members k) write offset r len) (range_with_len 0 (length sizes)) (λ k. frags_none (members k) write offset r len ne)

  leaves_none : (t : Tree) (write offset r len : ℕ) → write ≢ w → sum_by value (leaves (plan t write offset r len)) ≡ 0
  leaves_none t write offset r len ne = ap (sum_by value) (leaves_plan t write offset r len) ∙ frags_none t write offset r len ne

  leg_none : (t : Tree) (bio : Bio) (leg : ℕ) → bio.write ≢ w → sum_by value (leg_fragments t bio leg) ≡ 0
  leg_none (Leaf number sectors) bio leg ne = refl
  leg_none (Split number kind sizes members) bio leg ne = refl
  leg_none (Mirrored number sizes members) bio leg ne = leaves_none (members leg) bio.write (offset_of bio) bio.range.start bio.range.len ne

  legs_none : (setup : Setup) (bio : Bio) (legs : List ℕ) → bio.write ≢ w → sum_by (λ k. sum_by value (leg_fragments (tree_at setup bio.dev) bio k)) legs ≡ 0
  legs_none setup bio [] ne = refl
  legs_none setup bio (k ∷ legs) ne =
      omega (
        arith,
        sum_by-cons (λ k. sum_by value (leg_fragments (tree_at setup bio.dev) bio k)) k legs,
        leg_none (tree_at setup bio.dev) bio k ne,
        legs_none setup bio legs ne,
      )

  bio_none : (setup : Setup) (spot : Spot) (item : Item Pad) → item.bio.write ≢ w → bio_comes setup value spot item ≡ 0
  bio_none setup (Lined limit) item ne = leaves_none (tree_at setup item.bio.dev) item.bio.write (offset_of item.bio) item.bio.range.start item.bio.range.len ne
  bio_none setup Rescued item ne = leaves_none (tree_at setup item.bio.dev) item.bio.write (offset_of item.bio) item.bio.range.start item.bio.range.len ne
  bio_none setup Pending item ne = other (fragment_of item.bio) ne
  bio_none setup Brought item ne = refl

  todos_none : (setup : Setup) (todos : List Todo) → to_begin w todos ≡ 0 → sum_by (λ todo. sum_by value (todo_fragments setup todo)) todos ≡ 0
  todos_none setup [] none = refl
  todos_none setup (todo ∷ todos) none =
      let ne : todo.number ≢ w = λ e. omega (arith, none, one_of todo.number w e) in
      omega (
        arith,
        sum_by-cons (λ todo. sum_by value (todo_fragments setup todo)) todo todos,
        leaves_none (tree_at setup todo.write.dev) todo.number 0 todo.write.start todo.write.count ne,
        todos_none setup todos (omega (arith, none)),
      )

  -- where a write is to be begun by no writer, and its top is neither open nor carried, no node and no bio is of it, and nothing of it comes
  module _ (scene : Scene) (s : State) (i : Invariant scene s) (level : ℕ → ℕ → ℕ) (down : GoesDown s level) (write_of : ℕ → ℕ → ℕ) (one_write : total_weight scene (strays write_of) s ≡ 0)
      (done : total_weight scene (stage w) s ≡ 0) where
    no_top : (writer key : ℕ) (node : Node) → writer < scene.books → node_at (s.objects.book writer) key ≡ Some node → parent_of node.role ≡ None → node.write ≢ w
    no_top writer key node lt at is e =
        let worth : tops node.role * one_if_same node.write w ≡ 1 = ap (λ n. n * one_if_same node.write w) (top_is node.role is) ∙ ap (λ n. 1 * n) (one_of node.write w e) in
        omega (arith, done, worth, node_part scene s i (stage w) writer key node at)

    pub nothing_comes_of : total_weight scene (to_come scene.setup value) s ≡ 0
    nothing_comes_of =
        let P : ℕ → Type 0 = λ n. n ≢ w in
        let nothing = under_in_all scene s i (to_come scene.setup value) (stage w) (record {
          todo = λ writer todos taken part. omega (arith, todos_none scene.setup todos (omega (arith, done, part (stage w))));
          bio = λ spot item part.
              omega (
                arith,
                bio_none scene.setup spot item (of_named scene s i level down write_of one_write P no_top item (part (references scene.setup item.bio.writer item.bio.node)) (part (strays write_of))),
              );
          copy = λ bio master leg left part. omega (arith, copied bio master leg (omega (arith, left)) (part (references scene.setup bio.writer master)) (part (strays write_of)));
          hand = λ item. omega arith;
          vector = λ vector. omega arith;
          slip = λ slip. omega arith;
          node = λ writer place node at part. omega arith;
          closed = λ task writer closed part. omega arith;
        }) in
        omega (arith, done, nothing)
      where
        copied : (bio : Bio) (master leg : ℕ) → 1 ≤ legs_left scene.setup bio leg
            → one_if_same bio.writer bio.writer * one_if_same master master * legs_left scene.setup bio leg ≤ total_weight scene (references scene.setup bio.writer master) s
            → (strays write_of).copy bio master leg ≤ total_weight scene (strays write_of) s → legs_come scene.setup value bio leg ≡ 0
        copied bio master leg left refers own =
            let all : one_if_same bio.writer bio.writer * one_if_same master master * legs_left scene.setup bio leg ≡ legs_left scene.setup bio leg = rw (one-same bio.writer, one-same master) (omega arith) in
            let up = open_at scene s i bio.writer master (omega (arith, left, refers, all)) in
            let same : up.0.write ≡ bio.write = omega (arith, own, one_write, node_write scene s i write_of one_write bio.writer master up.0 up.1) in
            let ne : bio.write ≢ w = subst (λ n. n ≢ w) same (of_node scene s i level down write_of one_write (λ n. n ≢ w) no_top bio.writer master up.0 up.1) in
            legs_none scene.setup bio (range_with_len leg (legs_left scene.setup bio leg)) ne

-- no bio of a run becomes a misfit
module _ (scene : Scene) (f : LedgersAreNumbered scene) (g : DeviceGeometry scene.setup) (bad : Bio → ℕ) (follows : Follows bad) where
  pub runs_fit : (s : State) (events : List Event) (new : State) → IsReachedWhole scene s → total_weight scene (misfits bad) s ≡ 0 → IsRun scene s events new → total_weight scene (misfits bad) new ≡ 0
  runs_fit s [] new i none run = ap (total_weight scene (misfits bad)) run ∙ none
  runs_fit s (event ∷ events) new i none (next, (place, steps), run) =
      let moved = step_is_move scene s f i.kept place event next steps in
      runs_fit next events new (runs_whole scene f g s (event ∷ []) next i (next, (place, steps), refl))
      (ap (total_weight scene (misfits bad)) moved.is ∙ no_misfits bad follows scene s i.kept none moved.move moved.can) run

-- what tells a write done completes nothing
told_none : (w : ℕ) (status : Status) (request : Request) (reply : Reply) → what_of request reply ≡ Some (what.Done w status) → completed_by reply ≡ []
told_none w status (requests.Complete disk) (requests.Completed index bio ending) told = absurd cc
told_none w status _ (requests.Completed index bio ending) told = absurd cc
told_none w status request _ told = refl

module _ (s : Scenario) (ledger : ℕ → LedgerId) (events : List Event) (state : State) (good : IsScenario s) (naming : IsNaming ledger) (run : IsRun (scene s ledger) (start s) events state)
    (event : Event) (new : State) (happens : Happens (scene s ledger) state event new) (w : ℕ) (status : Status) (tells : event.what ≡ what.Done w status) where
  abbrev sc : Scene
  sc = scene s ledger

  -- behind the event the write is done
  all_done : total_weight sc (stage w) new ≡ 0
  all_done =
      let f : LedgersAreNumbered sc = record { named = naming } in
      let g = ground s.stack good.stack (setup_in s).places in
      let begun = start_whole s ledger good naming in
      let i = runs_whole sc f g (start s) events state begun run in
      let told : done_in w event.what ≡ 1 = ap (done_in w) tells ∙ one-same w in
      omega (
        arith,
        told,
        stage_once s ledger good naming w,
        runs_done sc f g w (start s) events state begun run,
        runs_done sc f g w state (event ∷ []) new i (new, happens, refl),
      )

  -- and nothing of it came with it
  pub none_left : (value : Fragment → ℕ) → ((f : Fragment) → f.write ≢ w → value f ≡ 0) → total_weight sc (to_come sc.setup value) state ≡ 0
  none_left value other =
      let places = (setup_in s).places in
      let f : LedgersAreNumbered sc = record { named = naming } in
      let g = ground s.stack good.stack places in
      let v = divided s.stack good.stack places value in
      let begun = start_whole s ledger good naming in
      let i = runs_whole sc f g (start s) events state begun run in
      let one_event : IsRun sc state (event ∷ []) new = (new, happens, refl) in
      let j = runs_whole sc f g state (event ∷ []) new i one_event in
      let l0 = runs_leveled sc f g (start s) events state begun (start_leveled s ledger good naming) run in
      let l = runs_leveled sc f g state (event ∷ []) new i l0 one_event in
      let o0 = runs_of_one_write sc f g (start s) events state begun (start_of_one_write s good ledger) run in
      let o = runs_of_one_write sc f g state (event ∷ []) new i o0 one_event in
      let none : completed sc state (event ∷ []) new one_event ≡ [] = ap (λ fs. fs ++ []) (told_none w status _ happens.1.reply (happens.1.told ∙ ap Some tells)) in
      omega (
        arith,
        ap (sum_by value) none,
        runs_come sc f g value v state (event ∷ []) new i (runs_fit sc f g over over_follows (start s) events state begun (start_counted s good ledger) run) one_event,
        nothing_comes_of w value other sc new j.kept l.0 (goes_down sc new j.kept l.0 l.1) o.0 o.1 all_done,
      )

pub done_is_completed : DoneIsCompleted
done_is_completed s ledger events state good naming run event new happens w status tells = record {
  each = λ f of is.
      omega (
        arith,
        fragments_add_up s ledger events state good naming run (is_it f),
        is_planned s good ledger f is,
        none_left s ledger events state good naming run event new happens w status tells (is_it f)
            (λ g ne. ap yes (not_same f g (λ e. ne (ap (λ (x : Fragment). x.write) (sym e) ∙ of)))),
      );
  only = λ f of lt. no_other_is_completed s ledger events state good naming run f lt;
}
