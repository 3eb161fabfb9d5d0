use Rattle.std.proofs.Common.{◌≡◌, ◌+◌, ◌++◌, ◌-◌, ℕ, ap, sym, take, ◌∙◌, arith}
use Rattle.std.proofs.lemmas.List.{append_assoc}
use Rattle.decl_text.specs.Known.{Declared}
use Rattle.decl_text.specs.Accepting.{device_pools}
use Rattle.stack_check.proofs.PoolLemmas.{falling, falling_more}
use Rattle.stack_check.proofs.shared.pools_of.Goals as goal

pub loop-number-preserved : goal.loop-number-preserved
loop-number-preserved c =
    let placed = c.args.placed.now in
    let n : ℕ = c.loop-number.number - 1 in
    let next = c.index-placed-number.result in
    let same : n + 1 ≡ c.loop-number.number = omega arith in
    record {
      within = omega (arith, c.loop-number.invariant.within);
      rest =
          ap (λ xs. xs ++ falling (take n placed))
          (c.in_ok-push_pools.ensures ∙ ap (λ does. c.loop-number.pools.items ++ device_pools n does) (ap (λ (d : Declared). d.what) c.next.view_is))
          ∙ append_assoc c.loop-number.pools.items (device_pools n next.what) (falling (take n placed))
          ∙ ap (λ xs. c.loop-number.pools.items ++ xs)
          (sym (falling_more placed n next (omega (arith, c.loop-number.invariant.within)) c.index-placed-number.is) ∙ ap (λ m. falling (take m placed)) same)
          ∙ c.loop-number.invariant.rest;
    }
