use Rattle.task_core.proofs.opened.NewObjects.{opened_of}
use Rattle.task_core.proofs.opening.objects.open_objects.Goals as goal

pub returns : goal.returns
returns c =
    opened_of c.args.routes.now c.args.stack.now _ c.args.scripts.now c.args.reserves.now c.of.ensures c.requires.same c.requires.stack c.requires.no_other
    c.requires.places c.known.ensures c.in_ok-vecs.ensures c.in_ok-bios.ensures c.in_ok-records.ensures
    c.in_ok-lists.ensures c.in_ok-disks.ensures c.in_ok-books.ensures
