use Rattle.std.proofs.Common.{get_or, sym, subst}
use Rattle.object_things.specs.Pools.{IsPoolOf}
use Rattle.task_core.specs.ObjectsOf.{IsBookOf}
use Rattle.task_core.specs.Plains.{stage_of}
use Rattle.task_steps.specs.Stage.{AreServed}
use Rattle.shared_objects.proofs.opening.locking.lock_objects.Goals as goal

pub lock_pools-requires : goal.lock_pools-requires
lock_pools-requires c = λ k d lt. subst (λ p. IsPoolOf (stage_of p) (get_or c.args.objects.bios.items k d).1) (sym c.requires.opened) (c.requires.can.bios k d lt).0

pub lock_pools-requires-2 : goal.lock_pools-requires-2
lock_pools-requires-2 c = λ k d lt. subst (λ p. IsPoolOf (stage_of p) (get_or c.args.objects.records.items k d).1) (sym c.requires.opened) (c.requires.can.records k d lt).0

pub lock_lists-requires : goal.lock_lists-requires
lock_lists-requires c = λ k d lt. subst (λ p. AreServed (stage_of p) (get_or c.args.objects.lists.items k d).1.bios) (sym c.requires.opened) (c.requires.can.lists k d lt).0

pub lock_books-requires : goal.lock_books-requires
lock_books-requires c = λ k d lt.
    subst (λ p. IsBookOf (stage_of p) (get_or c.args.objects.books.items k d).1.writer (get_or c.args.objects.books.items k d).1) (sym c.requires.opened) (c.requires.can.books k d lt).0
