-- What is known of pools by their numbers, where one of a kind changes; and a pool of the objects of one thread moves.
use Rattle.std.proofs.Common.{◌≡◌, ◌≢◌, ◌%◌, ◌==◌, ◌&&◌, ◌||◌, if◌then◌else◌, ℕ, Bool, true, false, refl, sym, ap, subst, ◌∙◌, arith}
use Rattle.std.specs.Prelude.{IsTrue}
use Rattle.std.proofs.lemmas.Bool.Decides.{nat_tests}
use Rattle.std.proofs.lemmas.Bool.{eqb-true}
use Rattle.elem_ledger.specs.Ledger.{LedgerId}
use Rattle.mempool_core.specs.Move.{PoolState, PoolMove}
use Rattle.mempool_core.specs.Pool.{LedgerPool}
use Rattle.mempool_core.specs.Pool as pool
use Rattle.task_steps.specs.Stage.{is_bios, is_slips}
use Rattle.task_core.specs.declared.plain.Plain.{Plain}
use Rattle.run_machine.specs.Maps.{upd}
use Rattle.run_machine.specs.Objects.{MovesPool}
use Rattle.task_core.specs.Plains.{Holds, is_bios_number, pool_at, objects_of, stage_of, by_kind}

not_64 : (m n : ℕ) → m ≡ n → n ≢ 64 → (m == 64) ≡ false
not_64 m n e apart = grind (arith, nat_tests)

pub stands_for_bios : {X : Type 0} (vecs : X) (bios records : ℕ → X) (n : ℕ) → n ≢ 64 → is_bios_number n ≡ true → by_kind vecs bios records n ≡ bios n
stands_for_bios vecs bios records n apart kind = let other : (n == 64) ≡ false = not_64 n n refl apart in rw (other, kind) refl

pub stands_for_records : {X : Type 0} (vecs : X) (bios records : ℕ → X) (n : ℕ) → n ≢ 64 → is_bios_number n ≡ false → by_kind vecs bios records n ≡ records n
stands_for_records vecs bios records n apart kind = let other : (n == 64) ≡ false = not_64 n n refl apart in rw (other, kind) refl

-- one of each kind changes
module _ {X : Type 0} (vecs : X) (bios records : ℕ → X) (n : ℕ) (x : X) where
  bios_at : n ≢ 64 → is_bios_number n ≡ true → (m : ℕ) (b : Bool) → (m == n) ≡ b → by_kind vecs (upd bios n x) records m ≡ upd (by_kind vecs bios records) n x m
  unfolding upd
  bios_at apart kind m true q =
      let other : (m == 64) ≡ false = not_64 m n (eqb-true m n q) apart in
      let of_set : is_bios_number m ≡ true = ap is_bios_number (eqb-true m n q) ∙ kind in
      rw (q, other, of_set) refl
  bios_at apart kind m false q = rw (q) refl

  pub bios_change : n ≢ 64 → is_bios_number n ≡ true → by_kind vecs (upd bios n x) records ≡ upd (by_kind vecs bios records) n x
  bios_change apart kind = λ k m. bios_at apart kind m (m == n) refl k

  records_at : n ≢ 64 → is_bios_number n ≡ false → (m : ℕ) (b : Bool) → (m == n) ≡ b
      → by_kind vecs bios (upd records n x) m ≡ upd (by_kind vecs bios records) n x m
  unfolding upd
  records_at apart kind m true q =
      let other : (m == 64) ≡ false = not_64 m n (eqb-true m n q) apart in
      let of_set : is_bios_number m ≡ false = ap is_bios_number (eqb-true m n q) ∙ kind in
      rw (q, other, of_set) refl
  records_at apart kind m false q = rw (q) refl

  pub records_change : n ≢ 64 → is_bios_number n ≡ false → by_kind vecs bios (upd records n x) ≡ upd (by_kind vecs bios records) n x
  records_change apart kind = λ k m. records_at apart kind m (m == n) refl k

module _ {X : Type 0} (vecs : X) (bios records : ℕ → X) (x : X) where
  vecs_at : (m : ℕ) (b : Bool) → (m == 64) ≡ b → by_kind x bios records m ≡ upd (by_kind vecs bios records) 64 x m
  unfolding upd
  vecs_at m true q = rw (q) refl
  vecs_at m false q = rw (q) refl

  pub vecs_change : by_kind x bios records ≡ upd (by_kind vecs bios records) 64 x
  vecs_change = λ k m. vecs_at m (m == 64) refl k

-- the numbers of pools by their kinds, where there are 32 devices at most
pub bios_not_64 : (plain : Plain) (n : ℕ) → Holds plain → IsTrue (is_bios (stage_of plain) n) → n ≢ 64
bios_not_64 plain n holds is e =
    let few = holds.stack_is.few in
    let at_64 : IsTrue (is_bios (stage_of plain) 64) = subst (λ k. IsTrue (is_bios (stage_of plain) k)) e is in
    absurd (grind (at_64, few, arith, nat_tests))

pub bios_of_set : (plain : Plain) (n : ℕ) → IsTrue (is_bios (stage_of plain) n) → is_bios_number n ≡ true
bios_of_set plain n is = by_cases (n == 65) (n % 2 == 0) _ is
  where
    by_cases : (a b c : Bool) → (a || b && c) ≡ true → (a || b) ≡ true
    by_cases true b c e = refl
    by_cases false true c e = refl
    by_cases false false c e = e

slips_odd : (plain : Plain) (n : ℕ) → IsTrue (is_slips (stage_of plain) n) → n % 2 ≡ 1
slips_odd plain n is = by_cases (n % 2 == 1) _ refl is
  where
    by_cases : (a b : Bool) → (n % 2 == 1) ≡ a → (a && b) ≡ true → n % 2 ≡ 1
    by_cases true b q e = grind (q, arith, nat_tests)
    by_cases false b q e = absurd cc

odd_not_64 : (n : ℕ) → n % 2 ≡ 1 → n ≢ 64
odd_not_64 n odd e = absurd (omega (arith, odd, e))

pub slips_not_64 : (plain : Plain) (n : ℕ) → IsTrue (is_slips (stage_of plain) n) → n ≢ 64
slips_not_64 plain n is = odd_not_64 n (slips_odd plain n is)

slips_not_65 : (plain : Plain) (n : ℕ) → Holds plain → IsTrue (is_slips (stage_of plain) n) → n ≢ 65
slips_not_65 plain n holds is e =
    let few = holds.stack_is.few in
    let at_65 : IsTrue (is_slips (stage_of plain) 65) = subst (λ k. IsTrue (is_slips (stage_of plain) k)) e is in
    absurd (grind (at_65, few, arith, nat_tests))

-- an odd number other than 65 is of no pool of bios
pub neither : (n : ℕ) → n % 2 ≡ 1 → n ≢ 65 → (n == 65 || n % 2 == 0) ≡ false
neither n odd apart = grind (odd, apart, arith, nat_tests)

pub slips_of_set : (plain : Plain) (n : ℕ) → Holds plain → IsTrue (is_slips (stage_of plain) n) → is_bios_number n ≡ false
slips_of_set plain n holds is = neither n (slips_odd plain n is) (slips_not_65 plain n holds is)

-- a pool moves, and all else is as before
module _ (old new : Plain) (n : ℕ) (x : LedgerPool) (is : pool_at new ≡ upd (pool_at old) n x)
    (others : objects_of new ≡ record (objects_of old) { pool = (objects_of new).pool })
    (setting : stage_of new ≡ record (stage_of old) { ledger = (stage_of new).ledger; most = (stage_of new).most }) where
  state_at : (m : ℕ) (b : Bool) → (m == n) ≡ b → (upd (pool_at old) n x m).state ≡ upd (λ j. (pool_at old j).state) n x.state m
  unfolding upd
  state_at m true q = rw (q) refl
  state_at m false q = rw (q) refl

  states : (objects_of new).pool ≡ upd (objects_of old).pool n x.state
  states =
      let project : (ℕ → LedgerPool) → ℕ → PoolState = λ f m. (f m).state in
      let each : project (upd (pool_at old) n x) ≡ upd (project (pool_at old)) n x.state = λ k m. state_at m (m == n) refl k in ap project is ∙ each

  ledger_at : x.ledger ≡ (pool_at old n).ledger → (m : ℕ) (b : Bool) → (m == n) ≡ b → (upd (pool_at old) n x m).ledger ≡ (pool_at old m).ledger
  unfolding upd
  ledger_at e m true q = let same : m ≡ n = eqb-true m n q in rw (q) (e ∙ ap (λ j. (pool_at old j).ledger) (sym same))
  ledger_at e m false q = rw (q) refl

  most_at : x.most ≡ (pool_at old n).most → (m : ℕ) (b : Bool) → (m == n) ≡ b → (upd (pool_at old) n x m).most ≡ (pool_at old m).most
  unfolding upd
  most_at e m true q = let same : m ≡ n = eqb-true m n q in rw (q) (e ∙ ap (λ j. (pool_at old j).most) (sym same))
  most_at e m false q = rw (q) refl

  module _ (move : PoolMove) (moves : pool.PoolMoves (pool_at old n) move x) where
    pub moves_pool : MovesPool (objects_of old) n move (objects_of new)
    moves_pool = (
      moves.moves.can,
      others ∙ ap (λ f. record (objects_of old) { pool = f }) (states ∙ ap (upd (objects_of old).pool n) moves.moves.after),
    )

    ledgers : (stage_of new).ledger ≡ (stage_of old).ledger
    ledgers =
        let project : (ℕ → LedgerPool) → ℕ → LedgerId = λ f m. (f m).ledger in
        let each : project (upd (pool_at old) n x) ≡ project (pool_at old) = λ k m. ledger_at moves.ledger m (m == n) refl k in ap project is ∙ each

    mosts : (stage_of new).most ≡ (stage_of old).most
    mosts =
        let project : (ℕ → LedgerPool) → ℕ → ℕ = λ f m. (f m).most in
        let each : project (upd (pool_at old) n x) ≡ project (pool_at old) = λ k m. most_at moves.most m (m == n) refl k in ap project is ∙ each

    pub stage_kept : stage_of new ≡ stage_of old
    stage_kept =
        setting ∙ ap (λ f. record (stage_of old) { ledger = f; most = (stage_of new).most }) ledgers ∙ ap (λ f. record (stage_of old) { most = f }) mosts
