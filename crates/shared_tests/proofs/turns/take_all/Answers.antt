use Rattle.std.proofs.Common.{◌∷◌, [], List, refl, map, sym, subst, ◌∙◌}
use Rattle.std.proofs.lemmas.List.{map-append}
use Rattle.shared_objects.specs.Rans.{RanState, ran_key}
use Rattle.bio_workers.specs.Hands.{AreOut}
use Rattle.bio_workers.proofs.Hands.{none_is_out, takes_one}
use Rattle.shared_tests.proofs.Turned.{all_taken}
use Rattle.shared_tests.proofs.turns.take_all.Goals as goal

pub loop-ran-init : goal.loop-ran-init
loop-ran-init c = (
  c.requires.holds,
  subst (λ (rans : List RanState). AreOut c.args.shared.now (map ran_key rans)) (sym c.new-out.ensures.items) (none_is_out c.args.shared.now c.requires.untaken),
  refl,
)

pub loop-ran-preserved : goal.loop-ran-preserved
loop-ran-preserved c =
    let new = c.take_task.new.self in
    let ran = c.in-Some.ran in
    let out = c.in-Some.ensures.task in
    let rans = c.loop-ran.out.items in (
      c.take_task.ensures.holds,
      subst (λ (l : List RanState). AreOut new (map ran_key l)) (sym c.in_ok-push_back.ensures.items)
          (subst (AreOut new) (sym (map-append ran_key rans (ran ∷ []))) (takes_one c.loop-ran.shared new ran out (map ran_key rans) c.loop-ran.invariant.1)),
      out.same.told ∙ c.loop-ran.invariant.2,
    )

pub returns : goal.returns
returns c =
    all_taken c.args.shared.now.told.value c.loop-ran.shared c.take_task.new.self c.take_task.result c.loop-ran.out.items c.in_default.is
    c.take_task.ensures.none c.take_task.ensures.same c.loop-ran.invariant
