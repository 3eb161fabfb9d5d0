-- Whether every element of all pools is at home.
use Rattle.std.proofs.Common.{◌≡◌, ◌&&◌, ℕ, zero, suc, Bool, true, false, true≢false, List, [], ◌∷◌, refl, sym, ap, ◌∙◌}
use Rattle.std.specs.Prelude.{slice_index_or, MatchBool}
use Rattle.std.proofs.lemmas.Bool.{and_parts, eq-eqb, eqb-true}
use Rattle.std.specs.List.{list_all}
use Rattle.mempool_core.specs.Move.{PoolState}
use Rattle.run_machine.specs.Runs.{HasEnded, unfinished}
use Rattle.plain_core.specs.Cores.{CoreState, state_of_core}
use Rattle.plain_core.specs.objects.Plain.{is_home, no_core_pool}

-- nothing is out of any pool
all_home : (pools : List PoolState) → list_all is_home pools ≡ true → (n : ℕ) → (slice_index_or pools n no_core_pool).facts.out ≡ 0
all_home [] all n = refl
all_home (pool ∷ pools) all zero = eqb-true pool.facts.out 0 (and_parts (is_home pool) (list_all is_home pools) all).0
all_home (pool ∷ pools) all (suc n) = all_home pools (and_parts (is_home pool) (list_all is_home pools) all).1 n

home_all : (pools : List PoolState) → ((n : ℕ) → (slice_index_or pools n no_core_pool).facts.out ≡ 0) → list_all is_home pools ≡ true
home_all [] home = refl
home_all (pool ∷ pools) home =
    ap (λ b. b && list_all is_home pools) (eq-eqb pool.facts.out 0 (home 0)) ∙ home_all pools (λ n. home (suc n))

-- where every write is done, a run has ended exactly where all is home
pub ended_told : (c : CoreState) (b : Bool) → b ≡ list_all is_home c.objects.pools → unfinished (state_of_core c) ≡ 0
    → MatchBool b (HasEnded (state_of_core c)) (HasEnded (state_of_core c) → ⊥)
ended_told c true is done = record { writes = done; pools = all_home c.objects.pools (sym is) }
ended_told c false is done = λ ended. true≢false (sym (is ∙ home_all c.objects.pools ended.pools))
