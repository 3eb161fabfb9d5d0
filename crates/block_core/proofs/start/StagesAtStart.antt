-- At the start each write is to be begun once at most.
use Rattle.std.proofs.Common.{◌≡◌, ◌+◌, ◌<◌, ◌≤◌, ℕ, zero, suc, List, [], ◌∷◌, length, map, inl, inr, refl, sym, subst, arith}
use Rattle.std.specs.Prelude.{sum_by}
use Rattle.std.proofs.lemmas.List.Sums.{sum_by-cons}
use Rattle.run_machine.specs.Tasks.{Todo}
use Rattle.block_core.specs.Weights.{total_weight, one_if_same}
use Rattle.block_core.proofs.moves.Sums.{one-same, one-other, same_or_not}
use Rattle.std.specs.Prelude.{zip}
use Rattle.std.specs.List.{range_with_len}
use Rattle.layout_model.specs.declared.write.Write.{Write}
use Rattle.run_machine.specs.Opened.{Scenario, scene, start, todos}
use Rattle.block_core.specs.Scenarios.{IsScenario}
use Rattle.block_core.proofs.sound.DoneOnce.{stage, to_begin}
use Rattle.block_core.proofs.start.StartTotals.{opened_total}
use Rattle.elem_ledger.specs.Ledger.{LedgerId}

one-small : (i j : ℕ) → one_if_same i j ≤ 1
one-small i j = elim (same_or_not i j) [
  | inl e ↦ omega (arith, subst (λ k. one_if_same i k ≡ 1) e (one-same i))
  | inr ne ↦ omega (arith, one-other i j ne)
]

-- the numbers of writes rise, so each is once among what is to begin
numbered : (w a n : ℕ) (xs : List (ℕ × Write)) → w < a → to_begin w (map (λ x. record { number = x.0; round = x.1.0; write = x.1.1 }) (zip (range_with_len a n) xs)) ≡ 0
numbered w a zero xs lt = refl
numbered w a (suc n) [] lt = refl
numbered w a (suc n) (x ∷ xs) lt = omega (arith, one-other a w (λ e. omega (arith, e, lt)), numbered w (a + 1) n xs (omega (arith, lt)))

pub once : (w a n : ℕ) (xs : List (ℕ × Write)) → to_begin w (map (λ x. record { number = x.0; round = x.1.0; write = x.1.1 }) (zip (range_with_len a n) xs)) ≤ 1
once w a zero xs = omega arith
once w a (suc n) [] = omega arith
once w a (suc n) (x ∷ xs) = elim (same_or_not a w) [
  | inl e ↦ omega (arith, one-small a w, numbered w (a + 1) n xs (omega (arith, e)))
  | inr ne ↦ omega (arith, one-other a w ne, once w (a + 1) n xs)
]

pub begins_sum : (w : ℕ) (ts : List Todo) → sum_by (λ (todo : Todo). one_if_same todo.number w) ts ≡ to_begin w ts
begins_sum w [] = refl
begins_sum w (todo ∷ ts) = omega (arith, sum_by-cons (λ (todo : Todo). one_if_same todo.number w) todo ts, begins_sum w ts)

-- each write is in stage once at most
pub stage_at_start : (s : Scenario) (good : IsScenario s) (ledger : ℕ → LedgerId) (w : ℕ) → total_weight (scene s ledger) (stage w) (start s) ≤ 1
stage_at_start s good ledger w =
    omega (
      arith,
      opened_total s good ledger (stage w) (λ (todo : Todo). one_if_same todo.number w) (λ n ts. sym (begins_sum w ts)),
      begins_sum w (todos s),
      once w 0 (length s.writes) (zip s.rounds s.writes),
    )
