-- Each write of a scenario is in stage once at the start, and no other: it is to be begun.
use Rattle.std.proofs.Common.{◌≡◌, ◌≢◌, ◌+◌, ◌*◌, ◌<◌, ◌≤◌, ◌⊎◌, ℕ, zero, suc, List, [], ◌∷◌, length, map, inl, inr, refl, ◌∙◌, ap, arith, mul-le-mul_left}
use Rattle.std.specs.Prelude.{zip}
use Rattle.std.specs.List.{range_with_len}
use Rattle.stack_base.proofs.NumberLemmas.{zero_or}
use Rattle.elem_ledger.specs.Ledger.{LedgerId}
use Rattle.layout_model.specs.declared.write.Write.{Write}
use Rattle.run_machine.specs.Scene.{Scene}
use Rattle.run_machine.specs.Tasks.{Todo}
use Rattle.run_machine.specs.Opened.{Scenario, scene, start}
use Rattle.run_machine.specs.Runs.{State}
use Rattle.block_core.specs.Rounds.{tops, tops_left, all_worth, unfinished_of}
use Rattle.block_core.specs.Scenarios.{IsScenario}
use Rattle.block_core.specs.Weights.{total_weight, one_if_same}
use Rattle.block_core.proofs.sound.DoneOnce.{to_begin, stage}
use Rattle.block_core.proofs.sound.WritesToldDone.{stage_is}
use Rattle.block_core.proofs.sound.Invariant.{Invariant}
use Rattle.block_core.proofs.moves.SumsCompared.{under_in_all}
use Rattle.block_core.proofs.start.TallyAtStart.{todo_numbered, unfinished_at_start}
use Rattle.block_core.proofs.moves.Sums.{one-same, one-other, same_or_not}

-- at the start
none_numbered : (w a n : ℕ) (rs : List ℕ) (ws : List Write) → a + n ≤ w → all_worth (λ k. one_if_same k w) (map todo_numbered (zip (range_with_len a n) (zip rs ws))) ≡ 0
none_numbered w a zero rs ws le = refl
none_numbered w a (suc n) [] ws le = refl
none_numbered w a (suc n) (r ∷ rs) [] le = refl
none_numbered w a (suc n) (r ∷ rs) (x ∷ ws) le =
    omega (arith, one-other a w (λ e. omega (arith, e, le)), none_numbered w (a + 1) n rs ws (omega (arith, le)))

some_numbered : (w a n : ℕ) (rs : List ℕ) (ws : List Write) → a ≤ w → w < a + n → n ≤ length rs → n ≤ length ws
    → 1 ≤ all_worth (λ k. one_if_same k w) (map todo_numbered (zip (range_with_len a n) (zip rs ws)))
some_numbered w a zero rs ws ge lt few fewer = absurd (omega (arith, ge, lt))
some_numbered w a (suc n) [] ws ge lt few fewer = absurd (omega (arith, few))
some_numbered w a (suc n) (r ∷ rs) [] ge lt few fewer = absurd (omega (arith, fewer))
some_numbered w a (suc n) (r ∷ rs) (x ∷ ws) ge lt few fewer =
    by_two (same_or_not a w) (λ ne. some_numbered w (a + 1) n rs ws (omega (arith, ne, ge)) (omega (arith, lt)) (omega (arith, few)) (omega (arith, fewer)))
  where
    rest : ℕ
    rest = all_worth (λ k. one_if_same k w) (map todo_numbered (zip (range_with_len (a + 1) n) (zip rs ws)))

    by_two : (a ≡ w) ⊎ (a ≢ w) → (a ≢ w → 1 ≤ rest) → 1 ≤ one_if_same a w + rest
    by_two (inl e) more = let here : one_if_same a w ≡ 1 = ap (λ k. one_if_same k w) e ∙ one-same w in omega (arith, here)
    by_two (inr ne) more = omega (arith, more ne)

module _ (s : Scenario) (good : IsScenario s) (ledger : ℕ → LedgerId) where
  pub some_at_start : (w : ℕ) → w < length s.writes → 1 ≤ total_weight (scene s ledger) (stage w) (start s)
  some_at_start w lt =
      let is = ap (λ u. total_weight (scene s ledger) u (start s)) (stage_is w) in
      let same = good.rounds in
      let some = some_numbered w 0 (length s.writes) s.rounds s.writes (omega arith) (omega (arith, lt)) (omega (arith, same)) (omega arith) in
      omega (arith, is, unfinished_at_start s good ledger (λ n. one_if_same n w), some)

  pub none_at_start : (w : ℕ) → length s.writes ≤ w → total_weight (scene s ledger) (stage w) (start s) ≡ 0
  none_at_start w le =
      ap (λ u. total_weight (scene s ledger) u (start s)) (stage_is w) ∙ unfinished_at_start s good ledger (λ n. one_if_same n w)
      ∙ none_numbered w 0 (length s.writes) s.rounds s.writes (omega (arith, le))

-- A write in stage is worth no more than all unfinished ones, where it is worth one or more;
todos_within : (g h : ℕ → ℕ) → ((n : ℕ) → g n ≤ h n) → (ts : List Todo) → all_worth g ts ≤ all_worth h ts
todos_within g h le [] = omega arith
todos_within g h le (todo ∷ ts) = omega (arith, le todo.number, todos_within g h le ts)

pub stage_within : (scene : Scene) (s : State) (i : Invariant scene s) (f : ℕ → ℕ) (w : ℕ) → ((n : ℕ) → one_if_same n w ≤ f n) → total_weight scene (stage w) s ≤ total_weight scene (unfinished_of f) s
stage_within scene s i f w le =
    let is = ap (λ u. total_weight scene u s) (stage_is w) in
    omega (
      arith,
      is,
      under_in_all scene s i (unfinished_of (λ n. one_if_same n w)) (unfinished_of f) (record {
        todo = λ writer ts taken part. todos_within (λ n. one_if_same n w) f le ts;
        bio = λ spot item part. omega arith;
        copy = λ bio master leg lt part. omega arith;
        hand = λ item. omega arith;
        vector = λ vector. omega arith;
        slip = λ slip. omega arith;
        node = λ writer place node at part. mul-le-mul_left (tops node.role) (le node.write);
        closed = λ task writer closed part. mul-le-mul_left (tops_left closed.parent) (le closed.write);
      }),
    )

-- and where no write that is worth something is in stage, all unfinished ones are worth nothing, no more than one that is none of them.
none_to_begin : (f : ℕ → ℕ) (ts : List Todo) → ((n : ℕ) → 1 ≤ f n → to_begin n ts ≡ 0) → all_worth f ts ≡ 0
none_to_begin f [] none = refl
none_to_begin f (todo ∷ ts) none = by_two (zero_or (f todo.number)) (none_to_begin f ts (λ n some. let z = none n some in omega (arith, z)))
  where
    by_two : (f todo.number ≡ 0) ⊎ (1 ≤ f todo.number) → all_worth f ts ≡ 0 → f todo.number + all_worth f ts ≡ 0
    by_two (inl z) rest = omega (arith, z, rest)
    by_two (inr some) rest = let z = none todo.number some in absurd (omega (arith, z, one-same todo.number))

none_on_top : (worth top : ℕ) → (worth ≡ 0) ⊎ (1 ≤ worth) → (1 ≤ worth → top ≡ 0) → top * worth ≡ 0
none_on_top worth top (inl z) none = let a = ap (λ n. top * n) z in omega (arith, a)
none_on_top worth top (inr some) none = let a = ap (λ n. n * worth) (none some) in omega (arith, a)

pub worth_nothing : (scene : Scene) (s : State) (i : Invariant scene s) (f : ℕ → ℕ) (w : ℕ) → ((n : ℕ) → 1 ≤ f n → total_weight scene (stage n) s ≡ 0)
    → total_weight scene (unfinished_of f) s ≤ total_weight scene (stage w) s
worth_nothing scene s i f w none = under_in_all scene s i (unfinished_of f) (stage w) (record {
  todo = λ writer ts taken part.
      let z = none_to_begin f ts (λ n some. let a = part (stage n) in let b = none n some in omega (arith, a, b)) in omega (arith, z);
  bio = λ spot item part. omega arith;
  copy = λ bio master leg lt part. omega arith;
  hand = λ item. omega arith;
  vector = λ vector. omega arith;
  slip = λ slip. omega arith;
  node = λ writer place node at part.
      let z = none_on_top (f node.write) (tops node.role) (zero_or (f node.write)) (λ some.
      let a = part (stage node.write) in let b = none node.write some in
      let c = ap (λ n. tops node.role * n) (one-same node.write) in omega (arith, a, b, c)) in omega (arith, z);
  closed = λ task writer closed part.
      let z = none_on_top (f closed.write) (tops_left closed.parent) (zero_or (f closed.write)) (λ some.
      let a = part (stage closed.write) in let b = none closed.write some in
      let c = ap (λ n. tops_left closed.parent * n) (one-same closed.write) in omega (arith, a, b, c)) in omega (arith, z);
})
