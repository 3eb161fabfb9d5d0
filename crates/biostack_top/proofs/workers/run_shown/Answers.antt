-- The gate was shown the histories whose merge this is.
use Rattle.bio_workers.specs.Gates.{showing}
use Rattle.biostack_top.proofs.RunningLemmas.{has_outcome}
use Rattle.biostack_top.proofs.workers.run_shown.Goals as goal

pub returns : goal.returns
returns g c =
    let closed = c.run_workers-closed.result in
    let done = c.run_workers-closed.ensures in
    let comes = has_outcome closed done.closed c.args.shared.told.value c.args.shared.locks.trace c.merge.result done.told done.trace
    c.merge.ensures.merged c.merge.ensures.untraced in
    (showing closed, c.closed.ensures, comes.0, comes.1)
