-- Cutting piece by piece gives exactly the fragments.
use Rattle.std.proofs.Common.{◌≡◌, ◌↔◌, ℕ, zero, suc, ◌+◌, ◌-◌, ◌<◌, ◌≤◌, min, List, [], ◌∷◌, length, refl, sym, ap, ◌∙◌, subst, inl, inr, arith}
use Rattle.std.specs.Prelude.{Contains}
use Rattle.std.proofs.lemmas.Bool.{cases_lt}
use Rattle.std.proofs.lemmas.List.Elements.{Contains-append_left, Contains-append_right, Contains-append_cases}
use Rattle.stack_base.specs.declared.stack.Kind.{Kind}
use Rattle.stack_base.specs.Mapping.{slot}
use Rattle.stack_base.specs.Cutting.{piece_end}
use Rattle.stack_base.specs.Tree.{Tree, Leaf, Split, Mirrored}
use Rattle.layout_model.specs.declared.fragment.Fragment.{Fragment}
use Rattle.layout_model.specs.Way.{FitsWay, Place, place, heads}
use Rattle.layout_model.specs.Fragments.{Together, IsFragmentOf}
use Rattle.layout_model.specs.Plan.{frags}
use Rattle.layout_model.proofs.Sound.{Sound, cut_of_split, sound_piece, sound_leg}
use Rattle.layout_model.proofs.Lists.{contains_one, contains_some, contains_each}
use Rattle.layout_model.proofs.Cutting.{frags_none, frags_first}
use Rattle.layout_model.proofs.Parts.{from_piece, in_piece, from_rest, in_rest}

-- cutting gives exactly the fragments of each run that has a sector
AreExact : Tree → Type 0
AreExact t = (write offset r len : ℕ) → 0 < len → (f : Fragment) → Contains (frags t write offset r len) f ↔ IsFragmentOf t write offset r len f

module _ (number sectors write offset r len : ℕ) (f : Fragment) where
  -- a run at a disk is one fragment
  unfoldable pub from_disk : 0 < len → Contains (frags (Leaf number sectors) write offset r len) f → IsFragmentOf (Leaf number sectors) write offset r len f
  unfolding frags FitsWay heads place
  from_disk some c =
      let is = contains_one _ f c in
      let disk : number ≡ f.disk.0 = sym (ap (λ (f : Fragment). f.disk.0) is) in
      let sector : r + 0 ≡ f.at = omega (arith, ap (λ (f : Fragment). f.at) is) in
      record {
        from = 0;
        choices = [];
        of_write = ap (λ (f : Fragment). f.write) is;
        begins = ap (λ (f : Fragment). f.offset) is ∙ omega arith;
        some = omega (arith, ap (λ (f : Fragment). f.len) is);
        within = omega (arith, ap (λ (f : Fragment). f.len) is);
        fits = refl;
        lies = λ i. record { disk = disk i; at = sector i };
        whole = λ j lt. (λ t. (omega arith, omega (arith, ap (λ (f : Fragment). f.len) is)), λ w. record { fits = refl; same = refl });
      }

  -- and it is that fragment
  in_disk : 0 < len → IsFragmentOf (Leaf number sectors) write offset r len f → Contains (frags (Leaf number sectors) write offset r len) f
  unfolding frags FitsWay heads place
  in_disk some h =
      let all : (j : ℕ) → j < len → (h.from ≤ j) × (j < h.from + f.len) = λ j lt. (h.whole j lt).0 (record { fits = h.fits; same = refl }) in
      let first : h.from ≡ 0 = omega (arith, all 0 some) in
      let long : f.len ≡ len = omega (arith, all (len - 1) (omega arith), h.within) in
      let starts : offset ≡ f.offset = omega (arith, h.begins) in
      let disk : number ≡ f.disk.0 = ap (λ (p : Place). p.disk) h.lies in
      let sector : r ≡ f.at = omega (arith, ap (λ (p : Place). p.at) h.lies) in
      (0, omega arith, λ i. record { write = sym h.of_write i; offset = starts i; len = sym long i; disk = record { 0 = disk i }; at = sector i })

module _ (number : ℕ) (sizes : List ℕ) (members : ℕ → Tree) (write offset r len : ℕ) (f : Fragment) where
  -- a fragment of a leg is one of the run
  unfoldable pub from_leg : (k : ℕ) → k < length sizes → IsFragmentOf (members k) write offset r len f → IsFragmentOf (Mirrored number sizes members) write offset r len f
  unfolding FitsWay heads place
  from_leg k lt h = record {
    from = h.from;
    choices = k ∷ h.choices;
    of_write = h.of_write;
    begins = h.begins;
    some = h.some;
    within = h.within;
    fits = (lt, h.fits);
    lies = h.lies;
    whole = λ j within. (
      λ t. (h.whole j within).0 (record { fits = t.fits.1; same = cc (t.same) }),
      λ w. let t = (h.whole j within).1 w in record { fits = (lt, t.fits); same = ap (λ hs. r ∷ hs) t.same },
    );
  }

  -- a fragment of the run is one of the leg that the first choice names
  in_leg_of : (from : ℕ) (choices : List ℕ) → f.write ≡ write → f.offset ≡ offset + from → 0 < f.len → from + f.len ≤ len
      → FitsWay (Mirrored number sizes members) (r + from) choices
      → place (Mirrored number sizes members) (r + from) choices ≡ record { disk = f.disk.0; at = f.at }
      → ((j : ℕ) → j < len → Together (Mirrored number sizes members) r choices (r + from) (r + j) ↔ ((from ≤ j) × (j < from + f.len)))
      → (k : ℕ) × (k < length sizes) × IsFragmentOf (members k) write offset r len f
  unfolding FitsWay heads place
  in_leg_of from [] of_write begins some within fits lies whole = absurd fits
  in_leg_of from (k ∷ choices) of_write begins some within fits lies whole = (
    k,
    fits.0,
    record {
      from = from;
      choices = choices;
      of_write = of_write;
      begins = begins;
      some = some;
      within = within;
      fits = fits.1;
      lies = lies;
      whole = λ j lt. (
        λ t. (whole j lt).0 (record { fits = (fits.0, t.fits); same = ap (λ hs. r ∷ hs) t.same }),
        λ w. let t = (whole j lt).1 w in record { fits = t.fits.1; same = cc (t.same) },
      );
    },
  )

  in_leg : IsFragmentOf (Mirrored number sizes members) write offset r len f → (k : ℕ) × (k < length sizes) × IsFragmentOf (members k) write offset r len f
  in_leg h = in_leg_of h.from h.choices h.of_write h.begins h.some h.within h.fits h.lies h.whole

-- where it is cut: the first piece, and the rest
module _ (number : ℕ) (kind : Kind) (sizes : List ℕ) (members : ℕ → Tree) (sound : Sound (Split number kind sizes members)) (below : (k : ℕ) → AreExact (members k)) where
  cut_exact : (bound write offset r len : ℕ) → len ≤ bound → (f : Fragment)
      → Contains (frags (Split number kind sizes members) write offset r len) f ↔ IsFragmentOf (Split number kind sizes members) write offset r len f
  unfolding AreExact
  cut_exact bound write offset r zero enough f = (
    λ c. absurd (omega (arith, subst (λ fs. Contains fs f) (frags_none number kind sizes members write offset r) c)),
    λ h. absurd (omega (arith, h.some, h.within)),
  )
  cut_exact zero write offset r (suc more) enough f = absurd (omega arith)
  cut_exact (suc bound) write offset r (suc more) enough f =
      let len : ℕ = suc more in
      let n : ℕ = min (piece_end kind sizes r - r) len in
      let cut = cut_of_split number kind sizes members sound in
      let first = frags_first number kind sizes members sound write offset r len n (omega arith) refl in
      let piece = below (slot kind sizes r).member write offset (slot kind sizes r).at n (omega (arith, cut.ahead r)) f in
      let rest = cut_exact bound write (offset + n) (r + n) (len - n) (omega (arith, cut.ahead r)) f in (
        λ c. elim (Contains-append_cases _ _ f (subst (λ fs. Contains fs f) first c)) [
          | inl now ↦ from_piece number kind sizes members cut write offset r len n f refl (piece.0 now)
          | inr later ↦ from_rest number kind sizes members cut write offset r len n f refl (rest.0 later)
        ],
        λ h. subst (λ fs. Contains fs f) (sym first) (elim (cases_lt h.from n) [
          | inl early ↦ Contains-append_left _ _ f (piece.1 (in_piece number kind sizes members cut write offset r len n f refl h early))
          | inr late ↦ Contains-append_right _ _ f (rest.1 (in_rest number kind sizes members cut write offset r len n f refl h late))
        ]),
      )

-- by the tree
exact : (t : Tree) → Sound t → AreExact t
unfolding AreExact frags
exact (Leaf number sectors) sound write offset r len some f = (from_disk number sectors write offset r len f some, in_disk number sectors write offset r len f some)
exact (Split number kind sizes members) sound write offset r len some f =
    cut_exact number kind sizes members sound (λ k. exact (members k) (sound_piece number kind sizes members sound k)) len write offset r len (omega arith) f
exact (Mirrored number sizes members) sound write offset r len some f =
    let below : (k : ℕ) → Contains (frags (members k) write offset r len) f ↔ IsFragmentOf (members k) write offset r len f =
    λ k. exact (members k) (sound_leg number sizes members sound k) write offset r len some f in (
      λ c.
          let leg = contains_some (λ k. frags (members k) write offset r len) 0 (length sizes) f c in
          from_leg number sizes members write offset r len f leg.0 (omega (arith, leg.2)) ((below leg.0).0 leg.3),
      λ h.
          let leg = in_leg number sizes members write offset r len f h in
          contains_each (λ k. frags (members k) write offset r len) 0 (length sizes) leg.0 f (omega arith) (omega (arith, leg.1)) ((below leg.0).1 leg.2),
    )

-- cutting piece by piece gives exactly the fragments of the run
pub frags_are : (t : Tree) → Sound t → (write offset r len : ℕ) → 0 < len → (f : Fragment) → Contains (frags t write offset r len) f ↔ IsFragmentOf t write offset r len f
unfolding AreExact
frags_are t sound = exact t sound
