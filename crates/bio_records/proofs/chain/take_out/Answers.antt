use Rattle.std.proofs.Common.{◌++◌, length, reverse, ◌∙◌, ap, arith}
use Rattle.bio_records.specs.Items.{items, item_of}
use Rattle.bio_records.proofs.Places.{near_rest, near_counted}
use Rattle.bio_records.proofs.chain.take_out.Goals as goal

pub returns-in-Some-clause-rest : goal.returns-in-Some-clause-rest
returns-in-Some-clause-rest g c =
    ap (λ l. l ++ reverse (items c.args.back.now)) c.in-Some.ensures.1
    ∙ near_rest (items c.args.front.now) (reverse (items c.args.back.now)) c.args.index (item_of c.in-Some.element) c.in-Some.ensures.0

pub returns-in-Some-clause-counted : goal.returns-in-Some-clause-counted
returns-in-Some-clause-counted g c =
    omega (arith, ap length c.in-Some.ensures.1, near_counted (items c.args.front.now) c.args.index (item_of c.in-Some.element) c.in-Some.ensures.0)
