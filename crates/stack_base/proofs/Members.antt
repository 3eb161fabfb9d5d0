-- Members that stand one behind the other: which of them holds a sector, and where it ends.
use Rattle.std.proofs.Common.{◌≡◌, ℕ, ◌+◌, ◌-◌, ◌<◌, ◌≤◌, List, [], ◌∷◌, inl, inr, ap, arith}
use Rattle.std.proofs.lemmas.Bool.{cases_lt, lt-ltb, le-ltb}
use Rattle.stack_base.specs.Mapping.{among}
use Rattle.stack_base.specs.Cutting.{next_member}

-- a sector of the first member
pub among-in : (size : ℕ) (sizes : List ℕ) (s : ℕ) → s < size → among (size ∷ sizes) s ≡ record { member = 0; at = s }
unfolding among
among-in size sizes s lt = rw (lt-ltb s size lt)

-- a sector behind the first member
pub among-behind : (size : ℕ) (sizes : List ℕ) (s : ℕ) → size ≤ s → among (size ∷ sizes) s ≡ record { member = (among sizes (s - size)).member + 1; at = (among sizes (s - size)).at }
unfolding among
among-behind size sizes s ge = rw (le-ltb s size ge)

-- the first member ends at its size
pub next_member-in : (size : ℕ) (sizes : List ℕ) (r : ℕ) → r < size → next_member (size ∷ sizes) r ≡ size
unfolding next_member
next_member-in size sizes r lt = rw (lt-ltb r size lt)

-- a later member ends where it does among the rest
pub next_member-behind : (size : ℕ) (sizes : List ℕ) (r : ℕ) → size ≤ r → next_member (size ∷ sizes) r ≡ size + next_member sizes (r - size)
unfolding next_member
next_member-behind size sizes r ge = rw (le-ltb r size ge)

-- the member's first sector is not behind the sector
pub among_at_le : (sizes : List ℕ) (s : ℕ) → (among sizes s).at ≤ s
unfolding among
among_at_le [] s = omega arith
among_at_le (size ∷ sizes) s =
    elim (cases_lt s size) [
      | inl lt ↦ rw (among-in size sizes s lt) (omega arith)
      | inr ge ↦ rw (among-behind size sizes s ge) (omega (arith, among_at_le sizes (s - size)))
    ]

-- a member ends behind each of its sectors
pub next_member_ahead : (sizes : List ℕ) (r : ℕ) → r < next_member sizes r
unfolding next_member
next_member_ahead [] r = omega arith
next_member_ahead (size ∷ sizes) r =
    elim (cases_lt r size) [
      | inl lt ↦ rw (next_member-in size sizes r lt) lt
      | inr ge ↦ rw (next_member-behind size sizes r ge) (omega (arith, next_member_ahead sizes (r - size)))
    ]

-- sectors of the first member are as far apart in it
first_along : (size : ℕ) (sizes : List ℕ) (r s : ℕ) → r ≤ s → s < size → among (size ∷ sizes) s ≡ record { member = (among (size ∷ sizes) r).member; at = (among (size ∷ sizes) r).at + (s - r) }
first_along size sizes r s le lt =
    let first : r < size = omega arith in
    let far : s ≡ r + (s - r) = omega arith in
    rw (among-in size sizes s lt, among-in size sizes r first) (ap (λ to. record { member = 0; at = to }) far)

-- and of a later member, where they are so among the rest
later_along :
    (size : ℕ) (sizes : List ℕ) (r s : ℕ) → size ≤ r → r ≤ s
    → among sizes (s - size) ≡ record { member = (among sizes (r - size)).member; at = (among sizes (r - size)).at + ((s - size) - (r - size)) }
    → among (size ∷ sizes) s ≡ record { member = (among (size ∷ sizes) r).member; at = (among (size ∷ sizes) r).at + (s - r) }
later_along size sizes r s behind le rest =
    let later : size ≤ s = omega arith in
    let far : (s - size) - (r - size) ≡ s - r = omega arith in
    rw (among-behind size sizes s later, among-behind size sizes r behind, rest)
    (ap (λ more. record { member = (among sizes (r - size)).member + 1; at = (among sizes (r - size)).at + more }) far)

-- sectors of one member are as far apart in it
pub among_along : (sizes : List ℕ) (r s : ℕ) → r ≤ s → s < next_member sizes r → among sizes s ≡ record { member = (among sizes r).member; at = (among sizes r).at + (s - r) }
unfolding among next_member
among_along [] r s le lt =
    let far : (among [] s).at ≡ (among [] r).at + (s - r) = omega arith in
    ap (λ to. record { member = 0; at = to }) far
among_along (size ∷ sizes) r s le lt =
    elim (cases_lt r size) [
      | inl first ↦ first_along size sizes r s le (rw (next_member-in size sizes r first) at lt)
      | inr behind ↦
          let ends : next_member (size ∷ sizes) r ≡ size + next_member sizes (r - size) = next_member-behind size sizes r behind in
          later_along size sizes r s behind le (among_along sizes (r - size) (s - size) (omega arith) (omega arith))
    ]

-- a sector behind a member is in one that begins behind it
pub among_apart : (sizes : List ℕ) (r s : ℕ) → next_member sizes r ≤ s → next_member sizes r ≤ s - (among sizes s).at
unfolding among next_member
among_apart [] r s le = omega arith
among_apart (size ∷ sizes) r s le =
    elim (cases_lt r size) [
      | inl first ↦
          let ends : next_member (size ∷ sizes) r ≡ size = next_member-in size sizes r first in
          let later : size ≤ s = omega arith in
          rw (next_member-in size sizes r first, among-behind size sizes s later) (omega (arith, among_at_le sizes (s - size)))
      | inr behind ↦
          let ends : next_member (size ∷ sizes) r ≡ size + next_member sizes (r - size) = next_member-behind size sizes r behind in
          let later : size ≤ s = omega arith in
          rw (next_member-behind size sizes r behind, among-behind size sizes s later)
          (omega (arith, among_apart sizes (r - size) (s - size) (omega arith), among_at_le sizes (s - size)))
    ]
