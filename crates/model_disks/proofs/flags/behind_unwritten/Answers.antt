-- 64 more sectors, of which none is written.
use Rattle.std.proofs.Common.{◌≡◌, ◌+◌, ◌-◌, true, take, drop, subst, inl, inr, arith}
use Rattle.std.specs.Bool.{beq}
use Rattle.std.specs.List.{IsAnyAnswer}
use Rattle.std.proofs.lemmas.Bool.{cases_lt}
use Rattle.model_disks.proofs.WrittenLemmas.{unset_span}
use Rattle.model_disks.proofs.flags.behind_unwritten.Goals as goal

pub passing-preserved : goal.passing-preserved
passing-preserved c =
    let kept = c.passing.invariant in
    let place = c.passing.place in
    let part = take (place + 64 - place) (drop place c.args.flags.now) in
    let none = subst (IsAnyAnswer (λ f b. beq f true ≡ b) part) c.if-contains.false c.contains.ensures.cases in
    let size : place + 64 - place ≡ 64 = omega arith in
    record {
      behind = omega (arith, kept.behind);
      within = omega (arith, c.passing-test.true, kept.within);
      none = λ x le lt. elim (cases_lt x place) [
        | inl before ↦ kept.none x le before
        | inr past ↦ unset_span c.args.flags.now place 64 _ (omega (arith, c.passing-test.true, kept.within)) size none x past lt
      ];
    }
