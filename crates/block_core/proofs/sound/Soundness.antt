-- Every run of every scenario is sound.
use Rattle.std.proofs.Common.{◌≡◌, ◌+◌, ◌-◌, ◌*◌, ℕ, false, refl, sym, ◌∙◌, ap, subst, arith}
use Rattle.std.specs.Prelude.{min}
use Rattle.layout_model.specs.May.{fault_of}
use Rattle.bio_books.specs.Books.{node_at, parent_of}
use Rattle.run_machine.specs.Scene.{Scene}
use Rattle.run_machine.specs.Submissions.{Submission}
use Rattle.run_machine.specs.Tasks.{TaskState, Writer, Rescuer, Completer, Carries, Keeper}
use Rattle.run_machine.specs.Opened.{scene, start, setup_in}
use Rattle.run_machine.specs.Runs.{State}
use Rattle.block_core.specs.Weights.{total_weight}
use Rattle.block_core.specs.Fragments.{is_it}
use Rattle.block_core.proofs.sound.CarriedLevels.{on_level, TaskOne, begins_one, stays_one}
use Rattle.block_core.proofs.sound.LevelsKept.{stays_leveled}
use Rattle.block_core.proofs.sound.OffLevels.{parent_off, held_level, below_off, closed_off, off_levels, AreLeveled}
use Rattle.block_core.specs.Levels.{HasLevels}
use Rattle.block_core.specs.Images.{HasItsWord}
use Rattle.block_core.specs.Sound.{EveryRunIsSound}
use Rattle.block_core.proofs.sound.Invariant.{own_of, LedgersAreNumbered, Invariant}
use Rattle.block_core.proofs.start.InvariantAtStart.{Begins, IsStartState, total_zero, start_opened}
use Rattle.block_core.proofs.moves.Devices.{ground}
use Rattle.block_core.proofs.sound.EveryRun.{runs_whole, run_tallied, start_whole, start_leveled, none_waits_for_itself}
use Rattle.block_core.proofs.sound.RunInduction.{runs_keep}
use Rattle.block_core.proofs.sound.EachBio.{each_bio, each_copied}
use Rattle.block_core.proofs.stuck.Idle.{node_part}
use Rattle.block_core.proofs.sound.Misplaced.{misplaced}
use Rattle.block_core.proofs.sound.Roles.{has_roles}
use Rattle.block_core.proofs.sound.StoodFor.{MastersStand, runs_stand}
use Rattle.block_core.proofs.sound.LegLists.{TaskHasLegs, HasLegs, Legged, stays_legged}
use Rattle.block_core.proofs.sound.ListOrder.{hands_right, in_list_order}
use Rattle.block_core.proofs.status.KeptEnds.{ends_are_kept}
use Rattle.block_core.proofs.sound.Positions.{IsWithin, stays_within}
use Rattle.block_core.proofs.sound.NodesWait.{IsAlive}
use Rattle.block_core.proofs.unrefused.RoomKept.{run_roomy}
use Rattle.block_core.proofs.images.Completed.{fragments_add_up}
use Rattle.block_core.proofs.images.PlannedOnce.{planned_is, is_planned}
use Rattle.block_core.proofs.moves.Misfits.{misfits, no_misfits}
use Rattle.block_core.proofs.moves.Totals.{task_part}
use Rattle.block_core.proofs.images.BioData.{unfit, tied, unfit_follows}
use Rattle.block_core.proofs.images.ImageData.{start_fits, images_are_of_completed}
use Rattle.block_core.proofs.status.Statuses.{completers_are_right, nodes_are_valued}
use Rattle.block_core.specs.Roles.{masters}
use Rattle.block_core.specs.Touches.{were_masters, none_was}

-- the levels that all is on, as facts
module _ (scene : Scene) (s : State) (i : Invariant scene s) (level : ℕ → ℕ → ℕ) (off : total_weight scene (off_levels level) s ≡ 0) where
  pools_rise : HasLevels scene s
  pools_rise = record {
    level = level;
    held = λ writer place node at. on_level (level writer place) node.held (omega (arith, off, node_part scene s i (off_levels level) writer place node at));
    named = each_bio (λ item. min item.share.no 64 ≡ level item.bio.writer item.bio.node) (off_levels level) (λ spot item none. omega (arith, none)) scene s off;
    under = λ writer place node parent at is.
        let here : parent_off level writer place (parent_of node.role) ≡ (level writer place + 1) - level writer parent = ap (parent_off level writer place) is in
        omega (arith, off, here, node_part scene s i (off_levels level) writer place node at);
    carried = λ place disk writer closed lt is.
        let none : closed_off (level writer) closed ≡ 0 = omega (arith, off, task_part scene (off_levels level) s place (Completer disk (Carries writer closed)) lt is) in (
          held_level closed.held,
          on_level (held_level closed.held) closed.held (omega (arith, none)),
          λ parent is_under.
              let up : below_off (level writer) (held_level closed.held) closed.parent ≡ (held_level closed.held + 1) - level writer parent =
              ap (below_off (level writer) (held_level closed.held)) is_under in
              omega (arith, none, up),
        );
    masters =
        each_copied (λ bio master. level bio.writer master ≡ 2 * bio.dev.0 + 1) (off_levels level) (λ bio master leg none. omega (arith, none)) scene s i off;
  }

-- a task that did nothing yet copies no bio
begins_legless : (scene : Scene) (s : State) (x : TaskState) → Begins scene x → TaskHasLegs s x
begins_legless scene s (Writer number todo taken submission) h = subst (λ (l : Submission). HasLegs s l.doing l.lists) (sym h.2) tt
begins_legless scene s (Rescuer dev submission) h = subst (λ (l : Submission). HasLegs s l.doing l.lists) (sym h.1) tt
begins_legless scene s (Completer disk carried) h = tt
begins_legless scene s (Keeper keeping) h = tt

opened_stands : (scene : Scene) (s : State) → IsStartState scene s → MastersStand scene none_was s
opened_stands scene s o = record {
  right = (λ w k. false, total_zero scene s (misplaced (λ w k. false) none_was) (λ n todos. refl) o);
  all = λ w k.
      let own : own_of (node_at (s.objects.book w) k) ≡ 0 = ap own_of (o.books w k) in
      omega (arith, own, total_zero scene s (masters none_was w k) (λ n todos. refl) o);
}

pub every_run_is_sound : EveryRunIsSound
every_run_is_sound s ledger events state good naming run =
    let sc = scene s ledger in
    let f : LedgersAreNumbered sc = record { named = naming } in
    let g = ground s.stack good.stack (setup_in s).places in
    let o = start_opened s good ledger in
    let first = start_whole s ledger good naming in
    let i = runs_whole sc f g (start s) events state first run in
    let l =
    runs_keep sc f g (λ st. AreLeveled sc st × ((place : ℕ) → TaskOne (st.task place)))
    (λ old m before after can held. (
      stays_leveled sc old g before.kept before.placed held.0.0 held.0.1 m can,
      stays_one sc old before.kept held.0.0 held.0.1 held.1 m can,
    ))
    (start s) events state first (start_leveled s ledger good naming, λ place. begins_one sc ((start s).task place) (o.tasks place)) run in
    let legs =
    runs_keep sc f g (Legged sc) (λ old m before after can held. stays_legged sc old before.kept before.placed held m can after.kept) (start s) events state first
    (record { tasks = λ place lt. begins_legless sc (start s) ((start s).task place) (o.tasks place) }) run in
    let fits =
    runs_keep sc f g (λ st. total_weight sc (misfits (unfit s)) st ≡ 0) (λ old m before after can none. no_misfits (unfit s) (unfit_follows s) sc old before.kept none m can) (start s) events state first
    (start_fits s ledger good) run in
    let all = fragments_add_up s ledger events state good naming run in
    record {
      pools = i.kept.pools;
      positions =
          runs_keep sc f g (λ st. (p : ℕ) → IsWithin (st.objects.pool p)) (λ old m before after can within. stays_within sc old within m) (start s) events state first (λ p. omega arith) run;
      outs = i.kept.outs;
      alive = λ writer place node at. subst IsAlive at (i.alive writer place);
      roles =
          has_roles sc state (were_masters sc (start s) events state run none_was) i.kept (runs_stand sc f g (start s) events state none_was first (opened_stands sc (start s) o) run);
      kept = ends_are_kept sc (start s) events state o.books run;
      valued = nodes_are_valued s ledger events state good naming run;
      levels = pools_rise sc state i.kept l.0.0 l.0.1;
      lists = in_list_order sc state i.kept i.placed legs;
      waits = λ rescuers. none_waits_for_itself s ledger events state good rescuers naming run;
      fragments = λ fragment is. all (is_it fragment) ∙ is_planned s good ledger fragment is;
      others = λ fragment some. planned_is s good ledger fragment (omega (arith, some, all (is_it fragment)));
      words = each_bio (λ item. HasItsWord s item.bio) (misfits (unfit s)) (λ spot item none. tied s item.bio (omega (arith, none))) sc state fits;
      copied = each_copied (λ bio master. HasItsWord s bio) (misfits (unfit s)) (λ bio master leg none. tied s bio (omega (arith, none))) sc state i.kept fits;
      images = λ disk at lt. images_are_of_completed s ledger events state good naming run disk at lt;
      tally = run_tallied s ledger good naming events state run;
      places = run_roomy s ledger good naming events state run;
      hands = hands_right sc state i.kept i.placed (fault_of s.stack) (completers_are_right s ledger events state good naming run) l.1;
    }
