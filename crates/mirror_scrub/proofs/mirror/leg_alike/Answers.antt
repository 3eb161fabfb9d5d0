-- None is unlike where the first that is has the place behind the last sector.
use Rattle.std.proofs.Common.{◌≡◌, ◌==◌, Bool, List, subst}
use Rattle.std.specs.List.{count_by}
use Rattle.mirror_scrub.proofs.PairLemmas.{flags_long, none_set}
use Rattle.mirror_scrub.proofs.mirror.leg_alike.Goals as goal

pub returns : goal.returns
returns c =
    let p = c.pair-pair.result in
    subst (λ (flags : List Bool). (c.first.result == p.size) ≡ (count_by (λ (unlike : Bool). unlike) flags == 0)) c.pair-pair.ensures.flags
    (none_set _ p.size c.first.result (flags_long p) c.first.ensures)
