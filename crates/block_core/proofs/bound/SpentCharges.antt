-- No more is spent than is charged: what a task has spent of a charge, it or what it holds was charged.
use Rattle.std.proofs.Common.{◌≤◌, ℕ, zero, suc, Bool, true, false, refl, arith}
use Rattle.bio_records.specs.declared.tasks.TaskLists.{TaskLists}
use Rattle.run_machine.specs.Scene.{Scene, tree_at}
use Rattle.run_machine.specs.Submissions.{Want, Takes, WantsPunt, Links, ToPush, ToCut, ToRecord, ToMaster, Doing, Rests, Drives, Copies, Breaks}
use Rattle.run_machine.specs.Tasks.{TaskState, Writer, Rescuer, Completer, Keeper}
use Rattle.run_machine.specs.Runs.{State}
use Rattle.block_core.specs.Weights.{Weight, sum_at, doing_weight, task_weight}
use Rattle.block_core.specs.Charges.{charge, want_spent, doing_spent, task_spent, charged, spent_charges}
use Rattle.block_core.specs.Payers.{Paid, PieceBio, cost}
use Rattle.block_core.proofs.sound.Invariant.{TaskIsSound, DoingFits, Invariant}
use Rattle.block_core.proofs.sound.Orders.{DoingPlaced, TaskPlaced, Placed}
use Rattle.block_core.proofs.bound.DeviceCharges.{Priced, mirror_charge, cut_needs, legs_next, leg_some}

module _ (price : Paid → ℕ) (was_master : ℕ → Bool) (scene : Scene) (s : State) (p : Priced price scene.setup) (i : Invariant scene s) (a : Placed scene.setup s) where
  abbrev w : Weight
  w = charge price was_master scene.setup

  want_covers : (want : Want) → want_spent price want ≤ cost price PieceBio
  want_covers (Takes true) = omega arith
  want_covers (Takes false) = omega arith
  want_covers WantsPunt = omega arith
  want_covers (Links hand) = omega arith

  doing_covers : (limit : ℕ) (doing : Doing) (lists : TaskLists) → DoingPlaced scene.setup limit doing lists → DoingFits scene.setup doing lists → doing_spent price doing ≤ doing_weight w limit doing
  doing_covers limit Rests lists d f = omega arith
  doing_covers limit (Breaks breach kept) lists d f = omega arith
  doing_covers limit (Drives bio ToPush) lists d f = omega arith
  doing_covers limit (Drives bio (ToCut want)) lists d f =
      omega (arith, want_covers want, cut_needs price scene.setup p bio want (tree_at scene.setup bio.bio.dev) refl d.1.0.0 d.3)
  doing_covers limit (Drives bio ToRecord) lists d f = omega arith
  doing_covers limit (Drives bio (ToMaster slip)) lists d f = omega (arith, mirror_charge price (tree_at scene.setup bio.bio.dev) bio.bio.range bio.bio.dev.0 slip d.3 d.1.0.0.some)
  doing_covers limit (Copies bio master leg want) lists d f =
      omega (arith, want_covers want, legs_next price (tree_at scene.setup bio.dev) bio.range leg f, leg_some price (tree_at scene.setup bio.dev) bio.range leg f)

  task_covers : (place : ℕ) (x : TaskState) → TaskPlaced scene.setup x → TaskIsSound scene x → task_spent price x ≤ task_weight w place x
  task_covers place (Writer number todo taken submission) t f = let b = doing_covers 32 submission.doing submission.lists t.1 f.1 in omega arith
  task_covers place (Rescuer dev submission) t f = let b = doing_covers dev.0 submission.doing submission.lists t f.1 in omega arith
  task_covers place (Completer disk carried) t f = omega arith
  task_covers place (Keeper keeping) t f = omega arith

  tasks_cover : (n : ℕ) → sum_at (λ place task. task_spent price task) n s.task ≤ sum_at (task_weight w) n s.task
  unfolding sum_at
  tasks_cover zero = omega arith
  tasks_cover (suc n) = omega (arith, tasks_cover n, task_covers n (s.task n) (a.tasks n) (i.tasks n))

  pub covers : spent_charges price scene s ≤ charged price was_master scene s
  covers = omega (arith, tasks_cover scene.tasks)
