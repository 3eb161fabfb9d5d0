-- What was said is the text, which is not refused.
use Rattle.std.proofs.Common.{true}
use Rattle.biostack_top.proofs.ServeLemmas.{shown_is}
use Rattle.biostack_top.proofs.serve.tell_text.Goals as goal

pub returns-in-Ok : goal.returns-in-Ok
returns-in-Ok g c =
    let shown = shown_is c.args.order c.args.text.now c.requires.shown c.requires.made in
    (c.in-Ok.ensures.cause.quiet, shown.0, (c.args.text.now, shown.1, c.in-Ok.ensures.whole))

pub returns-in-Err : goal.returns-in-Err
returns-in-Err g c =
    let shown = shown_is c.args.order c.args.text.now c.requires.shown c.requires.made in
    (c.in-Err.ensures.cause.failed, c.in-Err.ensures.stops, shown.0, (c.args.text.now, true, shown.1, c.in-Err.ensures.front))
