use denote.Param.Send.{sendable, param_sync, arg_sync}
use denote.Exit.{no}
use Rattle.std.proofs.Common.{◌≡◌, ◌∙◌, All, map, arith, sym, ap, subst}
use Rattle.shared_objects.specs.Rans.{RanKey, ran_key}
use Rattle.shared_objects.specs.declared.locks.Locks.{Locks}
use Rattle.shared_objects.proofs.SentTasks.{ran_send}
use Rattle.bio_workers.proofs.Sent.{crew_sync}
use Rattle.bio_workers.proofs.Hands.{of_the_locks, reordered}
use Rattle.bio_workers.proofs.workers.run_workers.Goals as goal

pub run_tasks-tasks-requires-send-T : goal.run_tasks-tasks-requires-send-T
run_tasks-tasks-requires-send-T g c κs within = search (sendable, ran_send) depth 40

pub run_tasks-tasks-requires-sync-W : goal.run_tasks-tasks-requires-sync-W
run_tasks-tasks-requires-sync-W g c κs within = param_sync 2 _ (arg_sync _ no _ (crew_sync _ _ c.type_bounds.sync-G))

pub run_tasks-tasks-requires-after_bounds : goal.run_tasks-tasks-requires-after_bounds
run_tasks-tasks-requires-after_bounds g c κs within =
    let keys = map ran_key c.take_all-tasks.result in (
      omega arith,
      (
        c.requires.workers,
        (
          subst (λ (locks : Locks). All (λ (key : RanKey). key.home ≡ locks) keys) (sym c.locks.ensures) (of_the_locks c.take_all-tasks.new.shared keys c.take_all-tasks.ensures.out),
          (omega arith, omega arith),
        ),
      ),
    )

pub put_all-requires-clause-out : goal.put_all-requires-clause-out
put_all-requires-clause-out g c =
    reordered c.take_all-tasks.new.shared (map ran_key c.take_all-tasks.result) (map ran_key c.run_tasks-tasks.result) c.run_tasks-tasks.ensures.tasks c.take_all-tasks.ensures.out

pub returns-clause-trace : goal.returns-clause-trace
returns-clause-trace g c = c.close.ensures.trace ∙ ap (λ (l : Locks). l.trace) (c.put_all.ensures.same.locks ∙ c.take_all-tasks.ensures.same.locks)
