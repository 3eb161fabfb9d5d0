-- The sectors of a fragment follow one another on its disk.
use Rattle.std.proofs.Common.{◌≡◌, ◌+◌, ◌-◌, ◌<◌, ◌≤◌, ℕ, zero, suc, List, [], ◌∷◌, refl, sym, ap, ◌∙◌, subst, inl, inr, arith}
use Rattle.std.proofs.lemmas.Bool.{cases_lt}
use Rattle.stack_base.specs.Mapping.{Slot, slot, head}
use Rattle.stack_base.specs.Cutting.{piece_end, IsCut}
use Rattle.stack_base.specs.Tree.{Tree, Leaf, Split, Mirrored}
use Rattle.stack_base.proofs.ListLemmas.{first_or, behind_first}
use Rattle.layout_model.specs.Way.{Place, heads, place}
use Rattle.layout_model.specs.Laws.{FragmentsFollow}
use Rattle.layout_model.proofs.Sound.{Sound, cut_of_split, sound_leg, sound_piece}

-- the head of a sector is in the run and not behind the sector, which is in its piece
record IsHeadOf (next : ℕ → ℕ) (r s h : ℕ) : Type 0 where
  from : r ≤ h
  before : h ≤ s
  inside : s < next h

module _ (head_of : ℕ → ℕ → ℕ) (next_of : ℕ → ℕ) (slot_of : ℕ → Slot) (cut : IsCut head_of next_of slot_of) where
  head_within : (bound r s : ℕ) → r ≤ s → s ≤ r + bound → IsHeadOf next_of r s (head_of r s)
  head_within zero r s le most =
      let inside : s < next_of r = omega (arith, cut.ahead r) in
      subst (IsHeadOf next_of r s) (sym (cut.here r s le inside)) (record { from = omega arith; before = le; inside = inside })
  head_within (suc bound) r s le most = elim (cases_lt s (next_of r)) [
    | inl inside ↦ subst (IsHeadOf next_of r s) (sym (cut.here r s le inside)) (record { from = omega arith; before = le; inside = inside })
    | inr behind ↦
        let rest = head_within bound (next_of r) s behind (omega (arith, cut.ahead r)) in
        subst (IsHeadOf next_of r s) (sym (cut.later r s behind))
        (record { from = omega (arith, rest.from, cut.ahead r); before = rest.before; inside = rest.inside })
  ]

  -- two sectors of one piece lie in one member, as far apart as they are
  pub along_piece : (r s : ℕ) → r ≤ s → slot_of s ≡ record { member = (slot_of (head_of r s)).member; at = (slot_of (head_of r s)).at + (s - head_of r s) }
  along_piece r s le =
      let is = head_within (s - r) r s le (omega arith) in
      cut.along (head_of r s) s is.before is.inside

  pub head_before : (r s : ℕ) → r ≤ s → head_of r s ≤ s
  head_before r s le = (head_within (s - r) r s le (omega arith)).before

-- so many sectors further
abbrev further : Place → ℕ → Place
further p n = record { disk = p.disk; at = p.at + n }

-- sectors whose heads agree at every device of the way
follow : (t : Tree) → Sound t → (r s n : ℕ) (choices : List ℕ) → r ≤ s → heads t r (s + n) choices ≡ heads t r s choices
    → place t (s + n) choices ≡ further (place t s choices) n
unfolding heads place
follow (Leaf number sectors) sound r s n choices le same = refl
follow (Split number kind sizes members) sound r s n choices le same =
    let cut = cut_of_split number kind sizes members sound in
    let h = head kind sizes r s in
    let top : head kind sizes r (s + n) ≡ h = ap (first_or 0) same in
    let at_s : slot kind sizes s ≡ record { member = (slot kind sizes h).member; at = (slot kind sizes h).at + (s - h) } = along_piece (head kind sizes) (piece_end kind sizes) (slot kind sizes) cut r s le in
    let le_n : r ≤ s + n = omega arith in
    let behind : h ≤ s = head_before (head kind sizes) (piece_end kind sizes) (slot kind sizes) cut r s le in
    let at_n : slot kind sizes (s + n) ≡ record { member = (slot kind sizes h).member; at = (slot kind sizes h).at + (s - h) + n } =
    along_piece (head kind sizes) (piece_end kind sizes) (slot kind sizes) cut r (s + n) le_n
    ∙ ap (λ g. record { member = (slot kind sizes g).member; at = (slot kind sizes g).at + (s + n - g) }) top
    ∙ ap (λ m. record { member = (slot kind sizes h).member; at = m }) (omega arith) in
    let below = members (slot kind sizes h).member in
    let start = (slot kind sizes h).at in
    let lower : heads below start (start + (s - h) + n) choices ≡ heads below start (start + (s - h)) choices =
    sym (ap (λ (x : Slot). heads (members x.member) start x.at choices) at_n)
    ∙ sym (ap (λ g. heads (members (slot kind sizes (s + n)).member) (slot kind sizes g).at (slot kind sizes (s + n)).at choices) top)
    ∙ ap behind_first same
    ∙ ap (λ (x : Slot). heads (members x.member) start x.at choices) at_s in
    ap (λ (x : Slot). place (members x.member) x.at choices) at_n
    ∙ follow (members (slot kind sizes h).member) (sound_piece number kind sizes members sound (slot kind sizes h).member) start (start + (s - h)) n choices (omega arith) lower
    ∙ sym (ap (λ (x : Slot). further (place (members x.member) x.at choices) n) at_s)
follow (Mirrored number sizes members) sound r s n [] le same = refl
follow (Mirrored number sizes members) sound r s n (choice ∷ choices) le same =
    follow (members choice) (sound_leg number sizes members sound choice) r s n choices le (ap behind_first same)

pub fragments_follow : FragmentsFollow
fragments_follow t write offset r len f sound is j lt =
    let there = (is.whole (is.from + j) (omega (arith, is.within))).1 (omega arith, omega arith) in
    let place_is : r + (is.from + j) ≡ r + is.from + j = omega arith in
    ap (λ s. place t s is.choices) place_is
    ∙ follow t sound r (r + is.from) j is.choices (omega arith) (ap (λ s. heads t r s is.choices) (sym place_is) ∙ there.same)
    ∙ ap (λ (p : Place). further p j) is.lies
