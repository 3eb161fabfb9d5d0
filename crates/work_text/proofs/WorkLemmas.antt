-- The work of all lines, from what was known behind them.
use Rattle.std.proofs.Common.{◌≡◌, ℕ, ◌+◌, ◌-◌, ◌≤◌, Bool, true, false, cond, List, [], ◌∷◌, length, map, refl, ap, sym, ◌∙◌, subst, nat_le, arith}
use Rattle.std.specs.Prelude.{All, filter}
use Rattle.fail_script.specs.Script.{Answers}
use Rattle.stack_base.specs.declared.ids.PoolId.{PoolId}
use Rattle.stack_base.specs.declared.stack.Stack.{Stack}
use Rattle.layout_model.specs.declared.write.Write.{Write}
use Rattle.layout_model.specs.declared.totals.Bounds.{Bounds}
use Rattle.layout_model.specs.Bound.{IsBound}
use Rattle.decl_text.specs.Known.{Declarations, Change}
use Rattle.work_text.specs.Work.{IsWork, all_entries, kept_resizes, last_round, change_of, as_written}
use Rattle.work_text.specs.Draft.{IsLeftOf, known_with}
use Rattle.work_text.specs.declared.Resize.{Resize}
use Rattle.work_text.specs.declared.Work.{Work}

kept_first : (b : Bool) (x : Resize) (xs : List Resize) (ys : List Change) → map change_of xs ≡ ys → map change_of (cond b (x ∷ xs) xs) ≡ cond b (change_of x ∷ ys) ys
kept_first true x xs ys is = ap (λ zs. change_of x ∷ zs) is
kept_first false x xs ys is = is

kept_shown : (last : ℕ) (resizes : List Resize) → map change_of (filter (λ (r : Resize). nat_le r.round last) resizes) ≡ kept_resizes last (map change_of resizes)
kept_shown last [] = refl
kept_shown last (x ∷ xs) = kept_first (nat_le x.round last) x (filter (λ (r : Resize). nat_le r.round last) xs) (kept_resizes last (map change_of xs)) (kept_shown last xs)

-- what is left of a draft is the work
pub finished : (stack : Stack) (scripts : List (PoolId × Answers)) (known : Declarations) (work left : Work) (syncs : ℕ) → known_with stack work syncs ≡ known
    → IsBound stack work.writes.items work.bound.z work.bound → work.bound.z ≡ all_entries scripts
    → IsLeftOf work left
    → IsWork stack scripts known left
finished stack scripts known work left syncs is bound entries of = record {
  writes = ap (map as_written) of.writes ∙ ap (λ (k : Declarations). k.writes) is;
  rounds = of.rounds ∙ ap (λ (k : Declarations). k.rounds) is;
  resizes = ap (map change_of) of.resizes ∙ kept_shown (last_round work.rounds.items) work.resizes.items
      ∙ ap (λ (k : Declarations). kept_resizes (last_round k.rounds) k.resizes) is;
  bound = subst (λ (ws : List Write). IsBound stack ws (all_entries scripts + last_round left.rounds.items + length left.resizes.items) left.bound) (sym of.writes)
      (subst (λ (b : Bounds). IsBound stack work.writes.items (all_entries scripts + last_round left.rounds.items + length left.resizes.items) b) (sym of.bound)
      (record {
        allowed = bound.allowed;
        elements = bound.elements;
        fragments = bound.fragments;
        entries = omega (arith, entries);
        fewer = bound.fewer;
      }));
}

-- no more of them are left, and the last round is one of the rounds
few_by : (b : Bool) (x : Resize) (xs ys : List Resize) → length xs ≤ length ys → length (cond b (x ∷ xs) xs) ≤ length (x ∷ ys)
few_by true x xs ys few = omega (arith, few)
few_by false x xs ys few = omega (arith, few)

pub few_left : (last : ℕ) (resizes : List Resize) → length (filter (λ (r : Resize). nat_le r.round last) resizes) ≤ length resizes
few_left last [] = omega arith
few_left last (x ∷ xs) = few_by (nat_le x.round last) x (filter (λ (r : Resize). nat_le r.round last) xs) xs (few_left last xs)

pub last_few : (rounds : List ℕ) → All (λ round. round ≤ 1024) rounds → last_round rounds ≤ 1024
last_few [] few = omega arith
last_few (round ∷ rounds) few = few (length (round ∷ rounds) - 1) 0 (omega arith)
