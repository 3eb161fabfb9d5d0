-- The writes of a round and of later ones, counted.
use Rattle.std.proofs.Common.{◌≡◌, ◌+◌, ◌==◌, if◌then◌else◌, ℕ, Bool, true, false, List, [], ◌∷◌, length, filter, refl, arith}
use Rattle.std.specs.Prelude.{nat_le}
use Rattle.std.proofs.lemmas.Bool.Decides.{nat_tests}
use Rattle.run_machine.specs.Opened.{in_round, from_round}

-- the writes of a round or later ones are those of the round, and those of the next or later ones
pub from_next : (rounds : List ℕ) (r : ℕ) → from_round rounds r ≡ in_round rounds r + from_round rounds (r + 1)
from_next [] r = refl
from_next (x ∷ rounds) r = by_test (nat_le r x) (x == r) (nat_le (r + 1) x) refl refl refl (from_next rounds r)
  where
    by_test : (a b c : Bool) → nat_le r x ≡ a → (x == r) ≡ b → nat_le (r + 1) x ≡ c → from_round rounds r ≡ in_round rounds r + from_round rounds (r + 1)
        → length (if a then x ∷ filter (λ x. nat_le r x) rounds else filter (λ x. nat_le r x) rounds)
        ≡ length (if b then x ∷ filter (λ x. x == r) rounds else filter (λ x. x == r) rounds)
        + length (if c then x ∷ filter (λ x. nat_le (r + 1) x) rounds else filter (λ x. nat_le (r + 1) x) rounds)
    by_test true true false p q u rest = omega (arith, rest)
    by_test true false true p q u rest = omega (arith, rest)
    by_test false false false p q u rest = rest
    by_test true true true p q u rest = absurd (grind (arith, nat_tests))
    by_test true false false p q u rest = absurd (grind (arith, nat_tests))
    by_test false true true p q u rest = absurd (grind (arith, nat_tests))
    by_test false true false p q u rest = absurd (grind (arith, nat_tests))
    by_test false false true p q u rest = absurd (grind (arith, nat_tests))
