use Rattle.std.proofs.Common.{◌≡◌, true, false, ap}
use Rattle.std.specs.Prelude.{is_some}
use Rattle.bio_records.proofs.ChainLemmas.{items_none}
use Rattle.bio_records.proofs.chain.bring_round.Goals as goal

pub returns-else-is_none-clause-emptied : goal.returns-else-is_none-clause-emptied
returns-else-is_none-clause-emptied g c none =
    let some : is_some c.args.front.now ≡ true = c.if-is_none.ensures in
    let gone : is_some c.args.front.now ≡ false = ap is_some (items_none c.args.front.now none) in
    cc

pub returns-else-is_none-clause-brought : goal.returns-else-is_none-clause-brought
returns-else-is_none-clause-brought g c none =
    let some : is_some c.args.front.now ≡ true = c.if-is_none.ensures in
    let gone : is_some c.args.front.now ≡ false = ap is_some (items_none c.args.front.now none) in
    cc
