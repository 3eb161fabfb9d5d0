use Rattle.std.proofs.Common.{◌≡◌, length, ap, arith}
use Rattle.bio_records.specs.Items.{items}
use Rattle.bio_records.proofs.chain.count_of.Goals as goal

pub returns : goal.returns
returns g c =
    let none : length (items c.counting.rest.now) ≡ 0 = ap (λ link. length (items link)) c.in_default.is in
    omega arith
