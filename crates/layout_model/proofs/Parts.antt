-- A run that is cut: its first piece, and the rest behind it. A class of sectors that come to a disk together lies in one of the two, and
-- is a class there.
use Rattle.std.proofs.Common.{◌≡◌, ◌↔◌, ℕ, zero, suc, ◌+◌, ◌-◌, ◌<◌, ◌≤◌, min, List, ◌∷◌, sym, ap, ◌∙◌, subst, inl, inr, arith}
use Rattle.std.proofs.lemmas.Bool.{cases_lt}
use Rattle.stack_base.specs.declared.stack.Kind.{Kind}
use Rattle.stack_base.specs.Mapping.{Slot, slot, head}
use Rattle.stack_base.specs.Cutting.{piece_end, IsCut}
use Rattle.stack_base.specs.Tree.{Tree, Split}
use Rattle.layout_model.specs.declared.fragment.Fragment.{Fragment}
use Rattle.layout_model.specs.Way.{FitsWay, place, heads}
use Rattle.layout_model.specs.Fragments.{Together, IsFragmentOf}

-- sectors that are equal as numbers are together alike
pub together_same : (t : Tree) (choices : List ℕ) (a b c d e f : ℕ) → a ≡ b → c ≡ d → e ≡ f → Together t a choices c e → Together t b choices d f
together_same t choices a b c d e f p q u h = rw (← p, ← q, ← u) h

module _ (number : ℕ) (kind : Kind) (sizes : List ℕ) (members : ℕ → Tree) (cut : IsCut (head kind sizes) (piece_end kind sizes) (slot kind sizes)) where
  -- no sector has its head before the run
  head_from : (bound r s : ℕ) → s ≤ r + bound → r ≤ s → r ≤ head kind sizes r s
  head_from zero r s far from = omega (arith, cut.here r s from (omega (arith, cut.ahead r)))
  head_from (suc bound) r s far from = elim (cases_lt s (piece_end kind sizes r)) [
    | inl before ↦ omega (arith, cut.here r s from before)
    | inr behind ↦ omega (arith, cut.ahead r, cut.later r s behind, head_from bound (piece_end kind sizes r) s (omega (arith, cut.ahead r)) behind)
  ]

  -- the sectors of the first piece lie one behind the other in one member
  slot_here : (r j : ℕ) → r + j < piece_end kind sizes r → slot kind sizes (r + j) ≡ record { member = (slot kind sizes r).member; at = (slot kind sizes r).at + j }
  slot_here r j before =
      let back : r + j - r ≡ j = omega arith in
      cut.along r (r + j) (omega arith) before ∙ ap (λ i. record { member = (slot kind sizes r).member; at = (slot kind sizes r).at + i }) back

  -- the heads of a sector of the first piece: the run's start, and those in the member
  pub heads_here : (r j : ℕ) (choices : List ℕ) → r + j < piece_end kind sizes r
      → heads (Split number kind sizes members) r (r + j) choices
      ≡ r ∷ heads (members (slot kind sizes r).member) (slot kind sizes r).at ((slot kind sizes r).at + j) choices
  unfolding heads
  heads_here r j choices before =
      ap (λ h. h ∷ heads (members (slot kind sizes (r + j)).member) (slot kind sizes h).at (slot kind sizes (r + j)).at choices)
      (cut.here r (r + j) (omega arith) before)
      ∙ ap (λ (to : Slot). r ∷ heads (members to.member) (slot kind sizes r).at to.at choices) (slot_here r j before)

  -- the choices lead a sector of the first piece where they lead it in the member
  pub fits_here : (r j : ℕ) (choices : List ℕ) → r + j < piece_end kind sizes r
      → FitsWay (Split number kind sizes members) (r + j) choices ≡ FitsWay (members (slot kind sizes r).member) ((slot kind sizes r).at + j) choices
  unfolding FitsWay
  fits_here r j choices before = ap (λ (to : Slot). FitsWay (members to.member) to.at choices) (slot_here r j before)

  -- and they lead it to the same place
  pub place_here : (r j : ℕ) (choices : List ℕ) → r + j < piece_end kind sizes r
      → place (Split number kind sizes members) (r + j) choices ≡ place (members (slot kind sizes r).member) ((slot kind sizes r).at + j) choices
  unfolding place
  place_here r j choices before = ap (λ (to : Slot). place (members to.member) to.at choices) (slot_here r j before)

  -- a sector behind the first piece has its heads as in a run that begins there
  pub heads_later : (r s : ℕ) (choices : List ℕ) → piece_end kind sizes r ≤ s
      → heads (Split number kind sizes members) r s choices ≡ heads (Split number kind sizes members) (piece_end kind sizes r) s choices
  unfolding heads
  heads_later r s choices behind =
      ap (λ h. h ∷ heads (members (slot kind sizes s).member) (slot kind sizes h).at (slot kind sizes s).at choices) (cut.later r s behind)

  -- a sector of the first piece and one behind it have different heads
  pub heads_apart : (r s other : ℕ) (choices : List ℕ) → r ≤ s → s < piece_end kind sizes r → piece_end kind sizes r ≤ other
      → heads (Split number kind sizes members) r s choices ≡ heads (Split number kind sizes members) r other choices → ⊥
  unfolding heads
  heads_apart r s other choices from before behind same =
      let top : head kind sizes r s ≡ head kind sizes r other = cc in
      absurd (omega (arith, cut.ahead r, cut.here r s from before, cut.later r other behind, head_from other (piece_end kind sizes r) other (omega arith) behind))

  -- two sectors of the first piece are together where they are so in the member
  pub together_here : (r i j : ℕ) (choices : List ℕ) → r + i < piece_end kind sizes r → r + j < piece_end kind sizes r
      → Together (Split number kind sizes members) r choices (r + i) (r + j)
      ↔ Together (members (slot kind sizes r).member) (slot kind sizes r).at choices ((slot kind sizes r).at + i) ((slot kind sizes r).at + j)
  together_here r i j choices before also = (
    λ h. record {
      fits = subst (λ (X : Type 0). X) (fits_here r j choices also) h.fits;
      same = cc (heads_here r i choices before, heads_here r j choices also);
    },
    λ h. record {
      fits = subst (λ (X : Type 0). X) (sym (fits_here r j choices also)) h.fits;
      same = cc (heads_here r i choices before, heads_here r j choices also);
    },
  )

  -- two sectors behind the first piece are together where they are so in a run that begins there
  pub together_later : (r s other : ℕ) (choices : List ℕ) → piece_end kind sizes r ≤ s → piece_end kind sizes r ≤ other
      → Together (Split number kind sizes members) r choices s other ↔ Together (Split number kind sizes members) (piece_end kind sizes r) choices s other
  together_later r s other choices behind also = (
    λ h. record { fits = h.fits; same = cc (heads_later r s choices behind, heads_later r other choices also) },
    λ h. record { fits = h.fits; same = cc (heads_later r s choices behind, heads_later r other choices also) },
  )

  -- a sector of the first piece and one behind it are not together, from either side
  pub apart_behind : (r s other : ℕ) (choices : List ℕ) → r ≤ s → s < piece_end kind sizes r → piece_end kind sizes r ≤ other
      → Together (Split number kind sizes members) r choices s other → ⊥
  apart_behind r s other choices from before behind h = heads_apart r s other choices from before behind (sym h.same)

  pub apart_before : (r s other : ℕ) (choices : List ℕ) → r ≤ other → other < piece_end kind sizes r → piece_end kind sizes r ≤ s
      → Together (Split number kind sizes members) r choices s other → ⊥
  apart_before r s other choices from before behind h = heads_apart r other s choices from before behind h.same

  module _ (write offset r len n : ℕ) (f : Fragment) (is : n ≡ min (piece_end kind sizes r - r) len) where
    -- a fragment of the first piece is one of the run
    unfoldable pub from_piece : IsFragmentOf (members (slot kind sizes r).member) write offset (slot kind sizes r).at n f
        → IsFragmentOf (Split number kind sizes members) write offset r len f
    from_piece h =
        let inside : r + h.from < piece_end kind sizes r = omega (arith, h.some, h.within) in
        record {
          from = h.from;
          choices = h.choices;
          of_write = h.of_write;
          begins = h.begins;
          some = h.some;
          within = omega (arith, h.within);
          fits = subst (λ (X : Type 0). X) (sym (fits_here r h.from h.choices inside)) h.fits;
          lies = place_here r h.from h.choices inside ∙ h.lies;
          whole = λ j lt. elim (cases_lt j n) [
            | inl before ↦
                let also : r + j < piece_end kind sizes r = omega arith in
                let both = together_here r h.from j h.choices inside also in
                (λ t. (h.whole j before).0 (both.0 t), λ w. both.1 ((h.whole j before).1 w))
            | inr behind ↦ (
              λ t. absurd (apart_behind r (r + h.from) (r + j) h.choices (omega arith) inside (omega arith) t),
              λ w. absurd (omega (arith, h.within, w.1)),
            )
          ];
        }

    -- a fragment of the run that begins in the first piece is one of that piece
    pub in_piece : (h : IsFragmentOf (Split number kind sizes members) write offset r len f) → h.from < n
        → IsFragmentOf (members (slot kind sizes r).member) write offset (slot kind sizes r).at n f
    in_piece h early =
        let inside : r + h.from < piece_end kind sizes r = omega arith in
        record {
          from = h.from;
          choices = h.choices;
          of_write = h.of_write;
          begins = h.begins;
          some = h.some;
          within = elim (cases_lt n (h.from + f.len)) [
            | inl over ↦ absurd (apart_behind r (r + h.from) (r + n) h.choices (omega arith) inside (omega (arith, h.within))
                ((h.whole n (omega (arith, h.within))).1 (omega arith, over)))
            | inr within ↦ within
          ];
          fits = subst (λ (X : Type 0). X) (fits_here r h.from h.choices inside) h.fits;
          lies = sym (place_here r h.from h.choices inside) ∙ h.lies;
          whole = λ j lt.
              let also : r + j < piece_end kind sizes r = omega arith in
              let both = together_here r h.from j h.choices inside also in
              (λ t. (h.whole j (omega arith)).0 (both.1 t), λ w. both.0 ((h.whole j (omega arith)).1 w));
        }

    -- a fragment of the rest is one of the run
    unfoldable pub from_rest : IsFragmentOf (Split number kind sizes members) write (offset + n) (r + n) (len - n) f
        → IsFragmentOf (Split number kind sizes members) write offset r len f
    from_rest h =
        let over : r + n ≡ piece_end kind sizes r = omega (arith, h.some, h.within) in
        let first : r + n + h.from ≡ r + (n + h.from) = omega arith in
        record {
          from = n + h.from;
          choices = h.choices;
          of_write = h.of_write;
          begins = omega (arith, h.begins);
          some = h.some;
          within = omega (arith, h.within, h.some);
          fits = subst (λ s. FitsWay (Split number kind sizes members) s h.choices) first h.fits;
          lies = ap (λ s. place (Split number kind sizes members) s h.choices) (sym first) ∙ h.lies;
          whole = λ j lt. elim (cases_lt j n) [
            | inl before ↦ (
              λ t. absurd (apart_before r (r + (n + h.from)) (r + j) h.choices (omega arith) (omega arith) (omega arith) t),
              λ w. absurd (omega (arith, w.0)),
            )
            | inr behind ↦
                let there : r + n + (j - n) ≡ r + j = omega arith in
                let both = together_later r (r + (n + h.from)) (r + j) h.choices (omega arith) (omega arith) in
                let class = h.whole (j - n) (omega arith) in (
                  λ t.
                      let w = class.0 (together_same _ _ _ _ _ _ _ _ (sym over) (sym first) (sym there) (both.0 t)) in
                      (omega (arith, w.0), omega (arith, w.1)),
                  λ w. both.1 (together_same _ _ _ _ _ _ _ _ over first there (class.1 (omega (arith, w.0), omega (arith, w.1)))),
                )
          ];
        }

    -- a fragment of the run that begins behind the first piece is one of the rest
    pub in_rest : (h : IsFragmentOf (Split number kind sizes members) write offset r len f) → n ≤ h.from
        → IsFragmentOf (Split number kind sizes members) write (offset + n) (r + n) (len - n) f
    in_rest h late =
        let over : r + n ≡ piece_end kind sizes r = omega (arith, h.some, h.within) in
        let first : r + n + (h.from - n) ≡ r + h.from = omega arith in
        record {
          from = h.from - n;
          choices = h.choices;
          of_write = h.of_write;
          begins = omega (arith, h.begins);
          some = h.some;
          within = omega (arith, h.within);
          fits = subst (λ s. FitsWay (Split number kind sizes members) s h.choices) (sym first) h.fits;
          lies = ap (λ s. place (Split number kind sizes members) s h.choices) first ∙ h.lies;
          whole = λ j lt.
              let there : r + n + j ≡ r + (n + j) = omega arith in
              let both = together_later r (r + h.from) (r + (n + j)) h.choices (omega arith) (omega arith) in
              let class = h.whole (n + j) (omega arith) in (
                λ t.
                    let w = class.0 (both.1 (together_same _ _ _ _ _ _ _ _ over first there t)) in
                    (omega (arith, w.0), omega (arith, w.1)),
                λ w. together_same _ _ _ _ _ _ _ _ (sym over) (sym first) (sym there) (both.0 (class.1 (omega (arith, w.0), omega (arith, w.1)))),
              );
        }
