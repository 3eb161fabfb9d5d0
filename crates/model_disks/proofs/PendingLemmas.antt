-- Bios side by side in a front, a window or a ring, and those behind them, of which one is taken out.
use Rattle.std.proofs.Common.{◌≡◌, ℕ, zero, suc, ◌+◌, ◌-◌, ◌<◌, ◌≤◌, List, [], ◌∷◌, ◌++◌, length, map, slice_index_or, refl, sym, ap, ◌∙◌, append_assoc, arith}
use Rattle.std.specs.Prelude.{Some, remove, slice_get}
use Rattle.std.proofs.lemmas.List.{length-append, map-append}
use Rattle.std.proofs.lemmas.List.Elements.{All-push, All-same}
use Rattle.elem_ledger.specs.declared.element.Element.{Element}
use Rattle.bio_records.specs.declared.bio.Pad.{Pad}
use Rattle.bio_records.specs.declared.body.BioBody.{BioBody}
use Rattle.bio_records.specs.Items.{Item, item_of, IsAlone}
use Rattle.model_disks.specs.Kept.{IsFront}
use Rattle.model_disks.proofs.KeptLemmas.{all_but_one}

-- what is taken out behind the front is taken out of the whole
pub taken_far : {E X : Type 0} (f : E → X) (front : List E) (rest : List X) (index : ℕ) → length front ≤ index
    → map f front ++ remove rest (index - length front) ≡ remove (map f front ++ rest) index
taken_far f [] rest index far = let same : index - 0 ≡ index = omega arith in ap (remove rest) same
taken_far f (x ∷ front) rest zero far = absurd (omega (arith, far))
taken_far f (x ∷ front) rest (suc index) far =
    let same : suc index - suc (length front) ≡ index - length front = omega arith in
    ap (λ (i : ℕ). f x ∷ (map f front ++ remove rest i)) same ∙ ap (λ l. f x ∷ l) (taken_far f front rest index (omega (arith, far)))

-- what stands in the front stands there in the whole
pub stands_near : {E X : Type 0} (f : E → X) (front : List E) (rest : List X) (index : ℕ) (e : E) → index < length front
    → e ≡ slice_index_or front index e → slice_get (map f front ++ rest) index ≡ Some (f e)
stands_near f [] rest index e near is = absurd (omega (arith, near))
stands_near f (x ∷ front) rest zero e near is = ap (λ (y : _). Some (f y)) (sym is)
stands_near f (x ∷ front) rest (suc index) e near is = stands_near f front rest index e (omega (arith, near)) is

-- what is taken out of the front is taken out of the whole
pub taken_near : {E X : Type 0} (f : E → X) (front : List E) (rest : List X) (index : ℕ) → index < length front
    → map f (remove front index) ++ rest ≡ remove (map f front ++ rest) index
taken_near f [] rest index near = absurd (omega (arith, near))
taken_near f (x ∷ front) rest zero near = refl
taken_near f (x ∷ front) rest (suc index) near = ap (λ l. f x ∷ l) (taken_near f front rest index (omega (arith, near)))

-- and where the front of the list comes in behind the front, the others keep their order
pub moved_up : {E X : Type 0} (f : E → X) (front left now : List E) (rest behind : List X) (index : ℕ) (next : E) → index < length front
    → left ≡ remove front index → now ≡ left ++ next ∷ [] → rest ≡ f next ∷ behind → map f now ++ behind ≡ remove (map f front ++ rest) index
moved_up f front left now rest behind index next near less more first =
    ap (λ l. map f l ++ behind) more ∙ ap (λ l. l ++ behind) (map-append f left (next ∷ [])) ∙ append_assoc (map f left) (f next ∷ []) behind
    ∙ ap (λ l. map f left ++ l) (sym first) ∙ ap (λ l. map f l ++ rest) less ∙ taken_near f front rest index near

length_removed : {X : Type 0} (xs : List X) (index : ℕ) → index < length xs → length (remove xs index) + 1 ≡ length xs
length_removed [] index near = absurd (omega (arith, near))
length_removed (x ∷ xs) zero near = omega arith
length_removed (x ∷ xs) (suc index) near = let rest = length_removed xs index (omega (arith, near)) in omega (arith, rest)

-- the front is as full as before
pub front_moved_up : (size room size_now room_now : ℕ) (front left now : List (Element (BioBody Pad))) (rest behind : List (Item Pad)) (index : ℕ)
    (next : Element (BioBody Pad)) → IsFront size room front rest → index < length front → left ≡ remove front index → now ≡ left ++ next ∷ []
    → rest ≡ item_of next ∷ behind → IsAlone next → size_now ≡ size → size ≤ room_now → IsFront size_now room_now now behind
front_moved_up size room size_now room_now front left now rest behind index next was near less comes first alone stays fits =
    let same : length now ≡ length front =
    omega (arith, ap length comes, length-append left (next ∷ []), ap length less, length_removed front index near) in
    record {
      alone = All-same IsAlone now (left ++ next ∷ []) comes
          (All-push IsAlone left next (All-same IsAlone left (remove front index) less (all_but_one IsAlone front index was.alone)) alone);
      few = omega (arith, same, stays, was.few);
      fits = omega (arith, stays, fits);
      full = λ less. absurd (some (was.full (omega (arith, same, stays, less))) first);
    }
  where
    some : {X : Type 0} {xs : List X} {x : X} {ys : List X} → xs ≡ [] → xs ≡ x ∷ ys → ⊥
    some none is = cc
