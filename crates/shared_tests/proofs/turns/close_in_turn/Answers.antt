use Rattle.std.proofs.Common.{◌∙◌}
use Rattle.bio_workers.proofs.Hands.{all_are_back}
use Rattle.shared_tests.proofs.Turned.{since}
use Rattle.shared_tests.proofs.turns.close_in_turn.Goals as goal

pub turn_all-requires : goal.turn_all-requires
turn_all-requires g c = since c.args.shared.told.value c.take_all.new.shared c.in_ok-out.out.items c.in_ok-out.ensures

pub close-requires-clause-over : goal.close-requires-clause-over
close-requires-clause-over g c =
    let are = c.in_ok-turn_all.ensures in
    all_are_back c.turn_all.new.shared are.all are.out

pub returns-clause-told : goal.returns-clause-told
returns-clause-told g c = c.close.ensures.told ∙ c.in_ok-turn_all.ensures.told ∙ c.in_ok-out.ensures.told
