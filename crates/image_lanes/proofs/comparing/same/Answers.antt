-- A front of the lists is the same, group by group.
use Rattle.std.proofs.Common.{◌-◌, List, ℕ, length, take, drop, refl, sym, ap, ◌∙◌, arith}
use Rattle.std.proofs.lemmas.Slice.Eq.{slice_eq-Decides}
use Rattle.std.proofs.lemmas.Bool.Decides.{Decides-like, Decides-eqb}
use Rattle.image_lanes.proofs.WholeLemmas.{more_same, all_same}
use Rattle.image_lanes.proofs.comparing.same.Goals as goal

pub comparing-preserved : goal.comparing-preserved
comparing-preserved c =
    let groups = sym c.group.ensures ∙ c.if-not-same_group.ensures.0 refl ∙ c.group-in-comparing.ensures in
    record {
      within = omega arith;
      front = more_same c.args.a.now c.args.b.now c.comparing.at c.comparing.invariant.front groups;
    }

pub returns : goal.returns
returns c =
    Decides-like c.eq.result
    (λ rest. all_same c.args.a.now c.args.b.now c.comparing.at _ _ refl refl c.comparing.invariant.front rest)
    (λ is. ap (λ (words : List ℕ). take (length words - c.comparing.at) (drop c.comparing.at words)) is)
    (slice_eq-Decides Decides-eqb _ _ c.eq.result c.eq.ensures)
