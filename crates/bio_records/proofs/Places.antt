-- What stands at a place of a list that is kept as a front and a back.
use Rattle.std.proofs.Common.{◌≡◌, ℕ, zero, suc, ◌+◌, ◌<◌, List, [], ◌∷◌, ◌++◌, length, reverse, refl, sym, ◌∙◌, ap, arith, append_assoc, subst}
use Rattle.std.specs.Prelude.{Option, Some, None, MatchOption, ◌≤◌, ◌-◌, remove, slice_get}
use Rattle.std.proofs.lemmas.List.{length-append, length-reverse}

-- the element behind those before it, and the list without it
slice_get-seam : {X : Type 0} (before : List X) (x : X) (behind : List X) (index : ℕ) → length before ≡ index → slice_get (before ++ x ∷ behind) index ≡ Some x
slice_get-seam [] x behind zero e = refl
slice_get-seam [] x behind (suc index) e = absurd (omega arith)
slice_get-seam (y ∷ before) x behind zero e = absurd (omega arith)
slice_get-seam (y ∷ before) x behind (suc index) e = slice_get-seam before x behind index (omega arith)

remove-seam : {X : Type 0} (before : List X) (x : X) (behind : List X) (index : ℕ) → length before ≡ index → remove (before ++ x ∷ behind) index ≡ before ++ behind
remove-seam [] x behind zero e = refl
remove-seam [] x behind (suc index) e = absurd (omega arith)
remove-seam (y ∷ before) x behind zero e = absurd (omega arith)
remove-seam (y ∷ before) x behind (suc index) e = ap (λ rest. y ∷ rest) (remove-seam before x behind index (omega arith))

-- a list of `front` and `ends`, after `passed` was moved off its front, last one first, the rest of the front was perhaps brought round,
-- more was moved off, and x stood first then
pub record TakenOut {X : Type 0} (whole : List X) (passed : List X) (x : X) (front ends : List X) (index : ℕ) : Type 0 where
  pub taken : slice_get whole index ≡ Some x
  pub rest : (reverse passed ++ front) ++ ends ≡ remove whole index
  pub counted : length (reverse passed ++ front) + length ends + 1 ≡ length whole

pub taken_out : {X : Type 0} (front ends first_passed first_left brought ends_left passed left more : List X) (x : X) (index lacking none : ℕ)
    → reverse first_passed ++ first_left ≡ front → brought ++ ends_left ≡ first_left ++ ends → reverse passed ++ left ≡ reverse first_passed ++ brought
    → left ≡ x ∷ more → length first_passed + lacking ≡ index → length passed + none ≡ length first_passed + lacking → (0 < none → left ≡ [])
    → TakenOut (front ++ ends) passed x more ends_left index
taken_out front ends first_passed first_left brought ends_left passed left more x index lacking none one two three found counted passing lacked =
    let whole : front ++ ends ≡ reverse passed ++ x ∷ (more ++ ends_left) =
    ap (λ l. l ++ ends) (sym one) ∙ append_assoc (reverse first_passed) first_left ends ∙ ap (λ l. reverse first_passed ++ l) (sym two)
    ∙ sym (append_assoc (reverse first_passed) brought ends_left) ∙ ap (λ l. l ++ ends_left) (sym three)
    ∙ ap (λ l. (reverse passed ++ l) ++ ends_left) found ∙ append_assoc (reverse passed) (x ∷ more) ends_left in
    let reached : none ≡ 0 = none_lacking none left x more found lacked in
    let at : length (reverse passed) ≡ index = omega (arith, length-reverse passed) in
    let before : List _ = reverse passed in
    record {
      taken = ap (λ l. slice_get l index) whole ∙ slice_get-seam (reverse passed) x (more ++ ends_left) index at;
      rest = append_assoc (reverse passed) more ends_left ∙ sym (remove-seam (reverse passed) x (more ++ ends_left) index at)
          ∙ ap (λ l. remove l index) (sym whole);
      counted = omega (
        arith,
        ap length whole,
        length-append (reverse passed) more,
        length-append (reverse passed) (x ∷ (more ++ ends_left)),
        length-append more ends_left,
      );
    }
  where
    none_lacking : {X : Type 0} (none : ℕ) (left : List X) (x : X) (more : List X) → left ≡ x ∷ more → (0 < none → left ≡ []) → none ≡ 0
    none_lacking zero left x more found lacked = refl
    none_lacking (suc none) left x more found lacked = let gone : left ≡ [] = lacked (omega arith) in absurd (cc)

-- the element at a place of a list, or none where the list ends before
abbrev pub DetachedAt : {E X : Type 0} (item : E → X) (IsFree : E → Type 0) → List X → ℕ → Option E → List X → Type 0
DetachedAt item IsFree old index answer new =
    MatchOption answer ((length old ≤ index) × (new ≡ old)) (λ e. (slice_get old index ≡ Some (item e)) × (new ≡ remove old index) × IsFree e)

-- what is behind the first element is one place nearer there
behind : {E X : Type 0} (item : E → X) (IsFree : E → Type 0) (first : X) (old new : List X) (index : ℕ) (answer : Option E)
    → DetachedAt item IsFree old index answer new → DetachedAt item IsFree (first ∷ old) (suc index) answer (first ∷ new)
behind item IsFree first old new index None detached = (omega (arith, detached.0), ap (λ l. first ∷ l) detached.1)
behind item IsFree first old new index (Some e) detached = (detached.0, ap (λ l. first ∷ l) detached.1, detached.2)

pub behind_one : {E X : Type 0} (item : E → X) (IsFree : E → Type 0) (first : X) (old new : List X) (index : ℕ) (answer : Option E) → (index ≡ 0 → ⊥)
    → DetachedAt item IsFree old (index - 1) answer new → DetachedAt item IsFree (first ∷ old) index answer (first ∷ new)
behind_one item IsFree first old new zero answer some detached = absurd (some refl)
behind_one item IsFree first old new (suc index) answer some detached =
    let less : suc index - 1 ≡ index = omega arith in
    behind item IsFree first old new index answer (subst (λ (i : ℕ). DetachedAt item IsFree old i answer new) less detached)

-- what is taken out of the front of a list is taken out of the list
pub near_rest : {X : Type 0} (front ends : List X) (index : ℕ) (x : X) → slice_get front index ≡ Some x → remove front index ++ ends ≡ remove (front ++ ends) index
near_rest [] ends index x found = absurd (cc)
near_rest (y ∷ front) ends zero x found = refl
near_rest (y ∷ front) ends (suc index) x found = ap (λ l. y ∷ l) (near_rest front ends index x found)

pub near_counted : {X : Type 0} (front : List X) (index : ℕ) (x : X) → slice_get front index ≡ Some x → length (remove front index) + 1 ≡ length front
near_counted [] index x found = absurd (cc)
near_counted (y ∷ front) zero x found = omega arith
near_counted (y ∷ front) (suc index) x found = let behind : length (remove front index) + 1 ≡ length front = near_counted front index x found in omega (arith, behind)
