-- With what a write to a mirror of two may end whose first disk is bad, and what still decides it behind each event up to the link of the first leg.
use Rattle.std.proofs.Common.{◌≡◌, ◌==◌, if◌then◌else◌, ℕ, Bool, true, false, List, [], ◌∷◌, map, refl}
use Rattle.elem_ledger.specs.Ledger.{LedgerId}
use Rattle.stack_base.specs.declared.ids.Status.{Status}
use Rattle.stack_base.specs.declared.ids.Status.TheVariants.{Ok, Io, Medium, NoSpace}
use Rattle.layout_model.specs.declared.fragment.Fragment.{Fragment}
use Rattle.layout_model.specs.May.{may_end, some_may_end}
use Rattle.layout_model.specs.Plan.{plans_of, plan}
use Rattle.run_machine.specs.declared.event.How.TheVariants as how
use Rattle.run_machine.specs.declared.event.What.TheVariants as what
use Rattle.run_machine.specs.Maps.{upd}
use Rattle.run_machine.specs.Scene.{Scene}
use Rattle.run_machine.specs.Tasks.{first_bio}
use Rattle.run_machine.specs.Runs.{State}
use Rattle.run_machine.proofs.Turns.{Turn, behind}
use Rattle.run_machine.proofs.cases.MirrorRun.{setup, mirror, todo, start, ledger, begun}
use Rattle.block_core.specs.Touches.{touch_of}
use Rattle.block_core.specs.NodeBios.{bios_after, no_bios}
use Rattle.block_core.specs.Values.{BioMayEnd, IsAllowed, Decides}
use Rattle.block_core.specs.Weights.{Weight, sum_at, one_if_same, total_weight}
use Rattle.block_core.proofs.status.Marks.{leg_may, todo_may, Mark, unallowed, deciding}

-- the first disk is bad, and the second ends so
abbrev ends : Status → Fragment → Status
ends second f = if f.disk.0 == 0 then Medium else second

abbrev all : List Status
all = Ok ∷ Io ∷ Medium ∷ NoSpace ∷ []

-- well where the second disk is, and else with an error of no kind
where_one_is_well : map (todo_may (setup true) (ends Ok) todo) all ≡ 1 ∷ 0 ∷ 0 ∷ 0 ∷ []
unfolding plans_of plan may_end some_may_end
where_one_is_well = refl

where_none_is_well : map (todo_may (setup true) (ends NoSpace) todo) all ≡ 0 ∷ 1 ∷ 0 ∷ 0 ∷ []
unfolding plans_of plan may_end some_may_end
where_none_is_well = refl

-- the run of a master of that write's bio, where the second disk ends so
abbrev OfBio : Status → Status → Type 0
OfBio second end = BioMayEnd (setup true) (ends second) (first_bio 0 todo 0) end

-- it may be marked where one disk is well, and is decided then; with both bad it may not
may_mark : IsAllowed true (OfBio Ok) Ok
unfolding plans_of plan may_end some_may_end
may_mark = λ same. refl

is_marked : Decides true (OfBio Ok)
unfolding plans_of plan may_end some_may_end
is_marked = refl

no_mark : IsAllowed true (OfBio NoSpace) Ok → ⊥
unfolding plans_of plan may_end some_may_end
no_mark allowed = let well = allowed refl in absurd cc

-- and a node that is no master keeps no failure with which the run cannot end
no_failure : IsAllowed false (OfBio Ok) Medium → ⊥
unfolding plans_of plan may_end some_may_end
no_failure allowed = let fails = allowed (λ same. absurd cc) in absurd cc

-- the marks of the top node, of the master and of the first leg
abbrev mark : Status → ℕ → ℕ → Mark
mark second w k =
    if k == 1 then record { master = true; ends = todo_may (setup true) (ends second) todo }
    else if k == 2 then record { master = false; ends = leg_may (ends second) mirror (first_bio 0 todo 0) 0 }
    else record { master = false; ends = todo_may (setup true) (ends second) todo }

module _ (some : LedgerId) where
  abbrev scene : Scene
  scene = record { setup = setup true; tasks = 4; books = 1; writes = 1; ledger = ledger some }

  abbrev totals : Weight → State → List Turn → List ℕ
  totals w s [] = total_weight scene w s ∷ []
  totals w s (turn ∷ turns) = total_weight scene w s ∷ totals w (behind scene.setup s turn) turns

  abbrev fits : Status → Status → List ℕ
  fits second end = totals (unallowed (setup true) (ends second) (λ number. todo_may (setup true) (ends second) todo) (mark second) end) start (begun some)

  abbrev decide : Status → Bool → ℕ → List ℕ
  decide second master k = totals (deciding (setup true) (ends second) (mark second) master 0 k) start (begun some)

  -- no end comes where it must not, behind each event
  well_fits : fits Ok Ok ≡ 0 ∷ 0 ∷ 0 ∷ 0 ∷ 0 ∷ 0 ∷ 0 ∷ []
  unfolding sum_at one_if_same upd plans_of plan may_end some_may_end
  well_fits = refl

  medium_fits : fits Ok Medium ≡ 0 ∷ 0 ∷ 0 ∷ 0 ∷ 0 ∷ 0 ∷ 0 ∷ []
  unfolding sum_at one_if_same upd plans_of plan may_end some_may_end
  medium_fits = refl

  -- the second leg will mark the master, once this is there, and nothing makes the top node fail
  master_is_marked : decide Ok true 1 ≡ 0 ∷ 0 ∷ 0 ∷ 0 ∷ 1 ∷ 1 ∷ 1 ∷ []
  unfolding sum_at one_if_same upd plans_of plan may_end some_may_end
  master_is_marked = refl

  top_is_well : decide Ok false 0 ≡ 0 ∷ 0 ∷ 0 ∷ 0 ∷ 0 ∷ 0 ∷ 0 ∷ []
  unfolding sum_at one_if_same upd plans_of plan may_end some_may_end
  top_is_well = refl

  -- with both disks bad no leg will, and the top node is told of a failure, by its bio and then by the master
  master_is_not : decide NoSpace true 1 ≡ 0 ∷ 0 ∷ 0 ∷ 0 ∷ 0 ∷ 0 ∷ 0 ∷ []
  unfolding sum_at one_if_same upd plans_of plan may_end some_may_end
  master_is_not = refl

  top_fails : decide NoSpace false 0 ≡ 0 ∷ 0 ∷ 1 ∷ 1 ∷ 1 ∷ 1 ∷ 1 ∷ []
  unfolding sum_at one_if_same upd plans_of plan may_end some_may_end
  top_fails = refl

-- the writer opens the top node for the bio of the whole write
for_the_write : bios_after (setup true) (start.task 0) (touch_of (what.Link 0 how.Write 0)) no_bios 0 0 ≡ first_bio 0 todo 0
unfolding upd
for_the_write = refl

and_no_other : bios_after (setup true) (start.task 0) (touch_of (what.Link 0 how.Write 0)) no_bios 0 1 ≡ no_bios 0 1
unfolding upd
and_no_other = refl
