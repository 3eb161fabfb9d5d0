use Rattle.std.proofs.Common.{◌++◌, ◌∷◌, List, option_to_list, ap, subst, ◌∙◌}
use Rattle.shared_objects.specs.Rans.{RanState}
use Rattle.shared_tests.specs.StillOut.{AreStillOut}
use Rattle.shared_tests.proofs.Turned.{none_out, since, then_still}
use Rattle.shared_tests.proofs.turns.turn_all.Goals as goal

pub turn-requires : goal.turn-requires
turn-requires g c =
    let opened = c.args.shared.now.told.value in
    let shared = c.loop.shared in
    let rest = c.pop_front.new.self.items in
    since opened shared (c.in-Some-pop_front.ran ∷ rest)
    (subst (λ (rans : List RanState). AreStillOut opened shared rans) (c.pop_front.ensures.items ∙ ap (λ o. option_to_list o ++ rest) c.in-Some-pop_front.is) c.loop.invariant)

pub loop-preserved : goal.loop-preserved
loop-preserved g c =
    then_still c.args.shared.now.told.value c.loop.shared c.turn.new.shared c.turn.new.out.items c.loop.invariant.told c.in_ok-turn.ensures

pub returns-in_default : goal.returns-in_default
returns-in_default g c =
    let rest = c.pop_front.new.self.items in
    none_out c.args.shared.now.told.value c.loop.shared c.loop.out.items rest (c.pop_front.ensures.items ∙ ap (λ o. option_to_list o ++ rest) c.in_default.is)
    c.pop_front.ensures.rest c.loop.invariant
