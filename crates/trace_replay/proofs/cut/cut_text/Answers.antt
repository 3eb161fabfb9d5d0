-- It is cut where the first such line stands.
use Rattle.trace_replay.proofs.CutLemmas.{are_parts}
use Rattle.trace_replay.proofs.cut.cut_text.Goals as goal

pub returns : goal.returns
returns c =
    let at = c.first_told-place.result in
    rw (c.split_at.ensures.front, c.split_at.ensures.back) (are_parts c.args.text.now at.0 at.1 c.first_told-place.ensures)
