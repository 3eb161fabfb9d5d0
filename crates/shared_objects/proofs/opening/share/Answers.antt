use Rattle.std.proofs.Common.{rules, ◌≡◌, ◌≤◌, All, length, refl, sym, ap, subst, ◌∙◌}
use Rattle.object_things.specs.Stamps.{CommonState}
use Rattle.shared_objects.specs.Opening.{AreFirst, AreTasksAt, CanShare, IsRoomWith, IsTaskFor}
use Rattle.shared_objects.specs.Sharing.{AreOfOpened}
use Rattle.shared_objects.specs.Rans.{most_tasks}
use Rattle.shared_objects.proofs.sharing.FewTasks.{few_tasks}
use Rattle.shared_objects.proofs.sharing.JustShared.{shared_holds, tasks_for}
use Rattle.shared_objects.proofs.sharing.LocksOfOpened.{locks_hold}
use Rattle.shared_objects.proofs.sharing.OpenedRows.{can_share}
use Rattle.shared_objects.proofs.opening.share.Goals as goal

pub lock_objects-requires-clause-can : goal.lock_objects-requires-clause-can
lock_objects-requires-clause-can c = subst CanShare (sym (ap (λ p. p.0) c.parts-objects.ensures)) (can_share c.args.opened c.requires.opened)

pub lock_objects-requires-clause-opened : goal.lock_objects-requires-clause-opened
lock_objects-requires-clause-opened c = ap (λ (m : CommonState). m.opened) (c.in_ok-common.ensures.ok ∙ c.new-2.ensures) ∙ c.of.ensures

pub share_tasks-requires-clause-locks : goal.share_tasks-requires-clause-locks
share_tasks-requires-clause-locks c =
    locks_hold c.in_ok-locks.locks c.args.opened.objects (can_share c.args.opened c.requires.opened)
    (subst (λ p. AreOfOpened p c.in_ok-locks.locks) (ap (λ p. p.0) c.parts-objects.ensures) c.in_ok-locks.ensures.round)

pub share_tasks-requires-clause-tasks : goal.share_tasks-requires-clause-tasks
share_tasks-requires-clause-tasks c =
    subst (λ tasks. All (IsTaskFor c.in_ok-locks.locks) tasks.items) (sym (ap (λ p. p.1) c.parts-objects.ensures))
    (tasks_for c.args.opened c.requires.opened c.in_ok-locks.locks (subst (λ p. AreOfOpened p c.in_ok-locks.locks) (ap (λ p. p.0) c.parts-objects.ensures) c.in_ok-locks.ensures.round))

pub share_tasks-requires-clause-few : goal.share_tasks-requires-clause-few
share_tasks-requires-clause-few c = subst (λ tasks. length tasks.items ≤ most_tasks) (sym (ap (λ p. p.1) c.parts-objects.ensures)) (few_tasks c.args.opened c.requires.opened)

pub returns-clause-shared : goal.returns-clause-shared
returns-clause-shared c =
    let many : c.len.result ≡ length c.parts-objects.result.1.items = search rules in
    let tasks_are = ap (λ p. p.1) c.parts-objects.ensures in
    shared_holds c.args.opened c.requires.opened
    (record { locks = c.in_ok-locks.locks; firsts = c.share_tasks.new.firsts; tasks = c.in_ok-tasks.tasks; next = 0; room = c.in_ok-room.room; told = c.of-told.result }) c.of-told.ensures
    (subst (λ p. AreOfOpened p c.in_ok-locks.locks) (ap (λ p. p.0) c.parts-objects.ensures) c.in_ok-locks.ensures.round)
    (subst (λ tasks. AreFirst (length tasks.items) c.in_ok-locks.locks c.share_tasks.new.firsts) tasks_are c.in_ok-tasks.ensures.firsts)
    (subst (λ tasks. AreTasksAt c.in_ok-locks.locks tasks.items c.in_ok-tasks.tasks.items) tasks_are c.in_ok-tasks.ensures.tasks)
    refl
    (subst (λ n. IsRoomWith c.in_ok-locks.locks n c.args.opened.room c.in_ok-room.room) (many ∙ ap (λ tasks. length tasks.items) tasks_are)
    (subst (λ ended. IsRoomWith c.in_ok-locks.locks c.len.result ended c.in_ok-room.room) (ap (λ p. p.2) c.parts-objects.ensures) c.in_ok-room.ensures))
