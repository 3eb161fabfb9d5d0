-- A sector of a run is in one fragment by the same choices.
use Rattle.std.proofs.Common.{◌≡◌, ℕ, ◌+◌, ◌-◌, ◌<◌, ◌≤◌, sym, ◌∙◌, ap, subst, arith}
use Rattle.stack_base.specs.Tree.{Tree}
use Rattle.layout_model.specs.declared.fragment.Fragment.{Fragment}
use Rattle.layout_model.specs.Way.{FitsWay, Place, heads, place}
use Rattle.layout_model.specs.Fragments.{IsFragmentOf, Together}

module _ (t : Tree) (write offset r len : ℕ) (f g : Fragment) (h : IsFragmentOf t write offset r len f) (k : IsFragmentOf t write offset r len g) (same : h.choices ≡ k.choices)
    (j : ℕ) (low : h.from ≤ j) (high : j < h.from + f.len) (low2 : k.from ≤ j) (high2 : j < k.from + g.len) where
  within : j < len
  within = let w = h.within in omega (arith, high, w)

  -- the first sectors of both are together with this one
  heads_same : heads t r (r + k.from) k.choices ≡ heads t r (r + h.from) h.choices
  heads_same =
      let here = ((h.whole j within).1 (low, high)).same in
      let there = ((k.whole j within).1 (low2, high2)).same in
      sym there ∙ ap (heads t r (r + j)) (sym same) ∙ here

  -- so what is together with one's is with the other's
  moves : (n : ℕ) → Together t r k.choices (r + k.from) (r + n) → Together t r h.choices (r + h.from) (r + n)
  moves n both = record { fits = subst (FitsWay t (r + n)) (sym same) both.fits; same = ap (heads t r (r + n)) same ∙ both.same ∙ heads_same }

  -- and each sector of one is one of the other
  pub covered : (n : ℕ) → k.from ≤ n → n < k.from + g.len → (h.from ≤ n) × (n < h.from + f.len)
  covered n from before = let w = k.within in (h.whole n (omega (arith, before, w))).0 (moves n ((k.whole n (omega (arith, before, w))).1 (from, before)))

pub one_fragment : (t : Tree) (write offset r len : ℕ) (f g : Fragment) (h : IsFragmentOf t write offset r len f) (k : IsFragmentOf t write offset r len g) → h.choices ≡ k.choices
    → (j : ℕ) → h.from ≤ j → j < h.from + f.len → k.from ≤ j → j < k.from + g.len → f ≡ g
one_fragment t write offset r len f g h k same j low high low2 high2 =
    let some = h.some in
    let also = k.some in
    let in_f = covered t write offset r len f g h k same j low high low2 high2 in
    let in_g = covered t write offset r len g f k h (sym same) j low2 high2 low high in
    let first = in_f k.from (omega arith) (omega (arith, also)) in
    let other = in_g h.from (omega arith) (omega (arith, some)) in
    let from : h.from ≡ k.from = omega (arith, first.0, other.0) in
    let last = in_f (k.from + g.len - 1) (omega (arith, also)) (omega (arith, also)) in
    let end = in_g (h.from + f.len - 1) (omega (arith, some)) (omega (arith, some)) in
    let long : f.len ≡ g.len = omega (arith, from, last.1, end.1, some, also) in
    let begins : f.offset ≡ g.offset = omega (arith, h.begins, k.begins, from) in
    let lies : ◌≡◌ {A = Place} (record { disk = f.disk.0; at = f.at }) (record { disk = g.disk.0; at = g.at }) =
    sym h.lies ∙ ap (λ n. place t (r + n) h.choices) from ∙ ap (place t (r + k.from)) same ∙ k.lies in
    let disk : f.disk.0 ≡ g.disk.0 = ap (λ (p : Place). p.disk) lies in
    let at : f.at ≡ g.at = ap (λ (p : Place). p.at) lies in
    let of_write : f.write ≡ g.write = h.of_write ∙ sym k.of_write in
    λ i. record { write = of_write i; offset = begins i; len = long i; disk = record { 0 = disk i }; at = at i }
