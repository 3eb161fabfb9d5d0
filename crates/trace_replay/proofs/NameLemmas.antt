-- Names that come and go.
use Rattle.std.proofs.Common.{◌≡◌, ◌==◌, ◌&&◌, ◌<◌, if◌then◌else◌, ℕ, Bool, true, false, List, Option, Some, refl, ap, ◌∙◌, arith, cond}
use Rattle.std.specs.declared.cmp.Ordering.{Ordering}
use Rattle.std.specs.declared.cmp.Ordering.TheVariants.{Less, Equal, Greater}
use Rattle.std.specs.Ordering.{ordering_then, nat_cmp, is_eq, MatchOrdering}
use Rattle.std.specs.BTreeMap.{is_at}
use Rattle.std.specs.Map.{lookup}
use Rattle.std.specs.Option.{unwrap_or}
use Rattle.std.proofs.lemmas.Cmp.{ranked}
use Rattle.std.proofs.lemmas.Bool.Decides.{nat_tests}
use Rattle.std.proofs.lemmas.Bool.{eqb-true}
use Rattle.run_machine.specs.Maps.{upd}
use Rattle.trace_replay.specs.declared.names.Name.{Name}
use Rattle.trace_replay.specs.KeptNames.{opened_by, name_cmp, place_in}

told_same : (r : Ordering) (w v : ℕ) → MatchOrdering r (w < v) (w ≡ v) (v < w) → is_eq r ≡ (v == w)
told_same Less w v is = grind (arith, nat_tests)
told_same Equal w v is = grind (arith, nat_tests)
told_same Greater w v is = grind (arith, nat_tests)

same_number : (w v : ℕ) → is_eq (nat_cmp w v) ≡ (v == w)
same_number w v = told_same (nat_cmp w v) w v (ranked w v (nat_cmp w v) refl)

then_same : (r s : Ordering) → is_eq (ordering_then r s) ≡ is_eq r && is_eq s
then_same Less s = refl
then_same Equal s = refl
then_same Greater s = refl

same_name : (w n v m : ℕ) → is_eq (ordering_then (nat_cmp w v) (nat_cmp n m)) ≡ (v == w) && (m == n)
same_name w n v m =
    then_same (nat_cmp w v) (nat_cmp n m) ∙ ap (λ b. b && is_eq (nat_cmp n m)) (same_number w v) ∙ ap (λ b. (v == w) && b) (same_number n m)

counted : (b : Bool) (n : ℕ) (found : Option ℕ) → unwrap_or (cond b (Some n) found) 0 ≡ cond b n (unwrap_or found 0)
counted true n found = refl
counted false n found = refl

-- one more count
pub count_on : (old new : List (ℕ × ℕ)) (w n : ℕ) → ((v : ℕ) → lookup (is_at (nat_cmp v)) new ≡ cond (is_at (nat_cmp w) v) (Some n) (lookup (is_at (nat_cmp v)) old))
    → opened_by new ≡ upd (opened_by old) w n
unfolding upd
count_on old new w n is = λ k v.
    (ap (λ (found : Option ℕ). unwrap_or found 0) (is v)
    ∙ counted (is_at (nat_cmp w) v) n (lookup (is_at (nat_cmp v)) old)
    ∙ ap (λ b. cond b n (opened_by old v)) (same_number w v)) k

picked : (old : ℕ → ℕ → Option ℕ) (w n v m : ℕ) (value : Option ℕ) (b : Bool) → (v == w) ≡ b
    → cond (b && (m == n)) value (old v m) ≡ (if b then upd (old w) n value else old v) m
unfolding upd
picked old w n v m value true is = ap (λ u. cond (m == n) value (old u m)) (eqb-true v w is)
picked old w n v m value false is = refl

-- one name
pub place_on : (old new : List (Name × ℕ)) (w n : ℕ) (value : Option ℕ)
    → ((q : Name) → lookup (is_at (name_cmp q)) new ≡ cond (is_at (name_cmp (record { writer = w; node = n })) q) value (lookup (is_at (name_cmp q)) old))
    → place_in new ≡ upd (place_in old) w (upd (place_in old w) n value)
unfolding upd
place_on old new w n value is = λ k v m.
    (is (record { writer = v; node = m })
    ∙ ap (λ b. cond b value (place_in old v m)) (same_name w n v m)
    ∙ picked (place_in old) w n v m value (v == w) refl) k
