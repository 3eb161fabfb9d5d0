-- What decides how a run ends on a disk.
use Rattle.std.proofs.Common.{◌≡◌, ◌⊎◌, ◌↔◌, ◌<◌, ◌≤◌, ◌+◌, ◌&&◌, ℕ, zero, suc, true, false, List, [], ◌∷◌, ◌++◌, Option, None, Some, refl, sym, ap, ◌∙◌, subst, inl, inr, arith}
use Rattle.std.specs.Prelude.{fold, max, min, slice_get, IsTrue}
use Rattle.std.specs.Option.{option_map_or}
use Rattle.std.proofs.lemmas.Bool.{cases_Bool, and_from, and_left, and_right, cases_lt, lt-ltb, ltb-true, le-ltb, cond-true, cond-false, both_ways}
use Rattle.std.proofs.lemmas.List.Sums.{fold_push}
use Rattle.std.proofs.lemmas.Option.{same_Some}
use Rattle.stack_base.specs.declared.ids.Range.{Range}
use Rattle.stack_base.specs.declared.ids.Bad.{Bad}
use Rattle.stack_base.specs.declared.ids.Status.{Status}
use Rattle.stack_base.specs.declared.ids.Status.TheVariants as status
use Rattle.stack_base.specs.Fault.{status_eq, touches, starts_before, better, deciding, fault, AreUntouched, DecidesAt, IsInRange, FaultsAreDecided}

-- the test of two statuses tells whether they are one
same_status : (one other : Status) → status_eq one other ≡ true → one ≡ other
same_status one other same = grind arith

status_eq_self : (one : Status) → status_eq one one ≡ true
status_eq_self status.Ok = refl
status_eq_self status.Io = refl
status_eq_self status.Medium = refl
status_eq_self status.NoSpace = refl

pub status_eq_is : (one other : Status) → (status_eq one other ≡ true) ↔ (one ≡ other)
status_eq_is one other = (same_status one other, λ same. subst (λ o. status_eq one o ≡ true) same (status_eq_self one))

module _ (range : Range) where
  -- a bad range that the run does not touch changes nothing
  better_untouched : (found : Option Bad) (bad : Bad) → touches bad.range range ≡ false → better range found bad ≡ found
  better_untouched found bad apart =
      cond-false (touches bad.range range && starts_before bad found) (Some bad) found (and_left (touches bad.range range) (starts_before bad found) apart)

  -- nor does one that starts with what is found, or behind it
  better_behind : (found bad : Bad) → found.range.start ≤ bad.range.start → better range (Some found) bad ≡ Some found
  better_behind found bad behind =
      cond-false (touches bad.range range && starts_before bad (Some found)) (Some bad) (Some found)
      (and_right (touches bad.range range) (starts_before bad (Some found)) (le-ltb bad.range.start found.range.start behind))

  -- one that the run touches is taken where nothing is found yet
  better_first : (bad : Bad) → touches bad.range range ≡ true → better range None bad ≡ Some bad
  better_first bad touched =
      cond-true (touches bad.range range && true) (Some bad) None (and_from (touches bad.range range) true touched refl)

  -- and where it starts before what is found
  better_before : (found bad : Bad) → touches bad.range range ≡ true → bad.range.start < found.range.start → better range (Some found) bad ≡ Some bad
  better_before found bad touched before =
      cond-true (touches bad.range range && starts_before bad (Some found)) (Some bad) (Some found)
      (and_from (touches bad.range range) (starts_before bad (Some found)) touched (lt-ltb bad.range.start found.range.start before))

  -- all that the run touches start with this one or behind it
  NoneBefore : List Bad → Bad → Type 0
  NoneBefore bads found = (place : ℕ) (bad : Bad) → slice_get bads place ≡ Some bad → touches bad.range range ≡ true → found.range.start ≤ bad.range.start

  -- what is left of a list behind its first range
  none_before_more : (found bad : Bad) (bads : List Bad) → (touches bad.range range ≡ true → found.range.start ≤ bad.range.start)
      → NoneBefore bads found → NoneBefore (bad ∷ bads) found
  unfolding NoneBefore
  none_before_more found bad bads here later zero other at touched =
      subst (λ (o : Bad). found.range.start ≤ o.range.start) (same_Some bad other at)
      (here (ap (λ (o : Bad). touches o.range range) (same_Some bad other at) ∙ touched))
  none_before_more found bad bads here later (suc place) other at touched = later place other at touched

  untouched_more : (bad : Bad) (bads : List Bad) → touches bad.range range ≡ false → AreUntouched bads range → AreUntouched (bad ∷ bads) range
  untouched_more bad bads here later zero other at = ap (λ (o : Bad). touches o.range range) (sym (same_Some bad other at)) ∙ here
  untouched_more bad bads here later (suc place) other at = later place other at

  -- the first range decides where none behind it starts before it
  first_here : (bad : Bad) (bads : List Bad) → NoneBefore bads bad → (place : ℕ) (other : Bad) → slice_get (bad ∷ bads) place ≡ Some other
      → IsTrue (touches other.range range) → (bad.range.start < other.range.start) ⊎ ((bad.range.start ≡ other.range.start) × (0 ≤ place))
  unfolding NoneBefore
  first_here bad bads later zero other at touched = inr (ap (λ (o : Bad). o.range.start) (same_Some bad other at), omega arith)
  first_here bad bads later (suc place) other at touched =
      let behind : bad.range.start ≤ other.range.start = later place other at touched in
      elim (cases_lt bad.range.start other.range.start) [
        | inl before ↦ inl before
        | inr same ↦ inr (omega arith, omega arith)
      ]

  decides_here : (bad : Bad) (bads : List Bad) → touches bad.range range ≡ true → NoneBefore bads bad → DecidesAt (bad ∷ bads) range 0 bad
  decides_here bad bads touched later = record { there = refl; touched = touched; first = first_here bad bads later }

  -- one behind it decides where the first is not touched, or starts behind that one
  first_later : (bad : Bad) (bads : List Bad) (place : ℕ) (found : Bad) → DecidesAt bads range place found
      → (touches bad.range range ≡ true → found.range.start < bad.range.start) → (other_place : ℕ) (other : Bad)
      → slice_get (bad ∷ bads) other_place ≡ Some other → IsTrue (touches other.range range)
      → (found.range.start < other.range.start) ⊎ ((found.range.start ≡ other.range.start) × (suc place ≤ other_place))
  first_later bad bads place found decides here zero other at touched =
      inl (subst (λ (o : Bad). found.range.start < o.range.start) (same_Some bad other at)
      (here (ap (λ (o : Bad). touches o.range range) (same_Some bad other at) ∙ touched)))
  first_later bad bads place found decides here (suc other_place) other at touched = elim (decides.first other_place other at touched) [
    | inl before ↦ inl before
    | inr same ↦ inr (same.0, omega (arith, same.1))
  ]

  decides_later : (bad : Bad) (bads : List Bad) (place : ℕ) (found : Bad) → DecidesAt bads range place found
      → (touches bad.range range ≡ true → found.range.start < bad.range.start) → DecidesAt (bad ∷ bads) range (suc place) found
  decides_later bad bads place found decides here =
      record { there = decides.there; touched = decides.touched; first = first_later bad bads place found decides here }

  -- what becomes of what is found: it stays where no range starts before it, or else a range of the list decides
  FromFound : List Bad → Bad → Type 0
  FromFound bads found =
      (NoneBefore bads found × (fold (better range) (Some found) bads ≡ Some found))
      ⊎ ((place : ℕ) × (bad : Bad) × DecidesAt bads range place bad × (bad.range.start < found.range.start) × (fold (better range) (Some found) bads ≡ Some bad))

  from_kept : (found bad : Bad) (bads : List Bad) → (touches bad.range range ≡ true → found.range.start ≤ bad.range.start)
      → better range (Some found) bad ≡ Some found → FromFound bads found → FromFound (bad ∷ bads) found
  unfolding FromFound
  from_kept found bad bads here stays (inl kept) =
      inl (none_before_more found bad bads here kept.0, ap (λ o. fold (better range) o bads) stays ∙ kept.1)
  from_kept found bad bads here stays (inr (place, decider, decides, before, is)) =
      inr (
        suc place,
        decider,
        decides_later bad bads place decider decides (λ touched. omega (arith, here touched)),
        before,
        ap (λ o. fold (better range) o bads) stays ∙ is,
      )

  from_taken : (found bad : Bad) (bads : List Bad) → touches bad.range range ≡ true → bad.range.start < found.range.start
      → better range (Some found) bad ≡ Some bad → FromFound bads bad → FromFound (bad ∷ bads) found
  unfolding FromFound
  from_taken found bad bads touched before takes (inl kept) =
      inr (0, bad, decides_here bad bads touched kept.0, before, ap (λ o. fold (better range) o bads) takes ∙ kept.1)
  from_taken found bad bads touched before takes (inr (place, decider, decides, earlier, is)) =
      inr (
        suc place,
        decider,
        decides_later bad bads place decider decides (λ touched. earlier),
        omega arith,
        ap (λ o. fold (better range) o bads) takes ∙ is,
      )

  from_found : (bads : List Bad) (found : Bad) → FromFound bads found
  unfolding FromFound NoneBefore
  from_found [] found = inl (λ place bad at. cc, refl)
  from_found (bad ∷ bads) found = elim (cases_Bool (touches bad.range range)) [
    | inl touched ↦ elim (cases_lt bad.range.start found.range.start) [
      | inl before ↦ from_taken found bad bads touched before (better_before found bad touched before) (from_found bads bad)
      | inr behind ↦ from_kept found bad bads (λ touched. behind) (better_behind found bad behind) (from_found bads found)
    ]
    | inr apart ↦ from_kept found bad bads (λ touched. absurd (both_ways (touches bad.range range) apart touched)) (better_untouched (Some found) bad apart) (from_found bads found)
  ]

  -- what decides, from the start
  IsFaultTold : List Bad → Type 0
  IsFaultTold bads =
      (AreUntouched bads range × (deciding range bads ≡ None))
      ⊎ ((place : ℕ) × (bad : Bad) × DecidesAt bads range place bad × (deciding range bads ≡ Some bad))

  told_first : (bad : Bad) (bads : List Bad) → touches bad.range range ≡ true → FromFound bads bad → IsFaultTold (bad ∷ bads)
  unfolding FromFound IsFaultTold
  told_first bad bads touched (inl kept) =
      inr (0, bad, decides_here bad bads touched kept.0, ap (λ o. fold (better range) o bads) (better_first bad touched) ∙ kept.1)
  told_first bad bads touched (inr (place, decider, decides, before, is)) =
      inr (
        suc place,
        decider,
        decides_later bad bads place decider decides (λ touched. before),
        ap (λ o. fold (better range) o bads) (better_first bad touched) ∙ is,
      )

  told_later : (bad : Bad) (bads : List Bad) → touches bad.range range ≡ false → IsFaultTold bads → IsFaultTold (bad ∷ bads)
  unfolding IsFaultTold
  told_later bad bads apart (inl none) =
      inl (untouched_more bad bads apart none.0, ap (λ o. fold (better range) o bads) (better_untouched None bad apart) ∙ none.1)
  told_later bad bads apart (inr (place, decider, decides, is)) =
      inr (
        suc place,
        decider,
        decides_later bad bads place decider decides (λ touched. absurd (both_ways (touches bad.range range) apart touched)),
        ap (λ o. fold (better range) o bads) (better_untouched None bad apart) ∙ is,
      )

  told : (bads : List Bad) → IsFaultTold bads
  unfolding IsFaultTold
  told [] = inl (λ place bad at. cc, refl)
  told (bad ∷ bads) = elim (cases_Bool (touches bad.range range)) [
    | inl touched ↦ told_first bad bads touched (from_found bads bad)
    | inr apart ↦ told_later bad bads apart (told bads)
  ]

-- no bad range is touched, or one decides and is the one that is found
pub deciding_is : (bads : List Bad) (range : Range)
    → (AreUntouched bads range × (deciding range bads ≡ None))
    ⊎ ((place : ℕ) × (bad : Bad) × DecidesAt bads range place bad × (deciding range bads ≡ Some bad))
unfolding IsFaultTold
deciding_is bads range = told range bads

fault_found : (bads : List Bad) (range : Range) (found : Option Bad) → deciding range bads ≡ found
    → fault bads range ≡ option_map_or (λ (bad : Bad). bad.kind) found status.Ok
fault_found bads range found is = ap (λ (o : Option Bad). option_map_or (λ (bad : Bad). bad.kind) o status.Ok) is

decided : (bads : List Bad) (range : Range)
    → (AreUntouched bads range × (fault bads range ≡ status.Ok))
    ⊎ ((place : ℕ) × (bad : Bad) × DecidesAt bads range place bad × (fault bads range ≡ bad.kind))
decided bads range = elim (deciding_is bads range) [
  | inl none ↦ inl (none.0, fault_found bads range None none.1)
  | inr one ↦ inr (one.0, one.1, one.2, fault_found bads range (Some one.1) one.3)
]

-- of two that decide, neither starts before the other, and neither is declared before the other
same_place : (bads : List Bad) (range : Range) (p q : ℕ) (a b : Bad) → DecidesAt bads range p a → DecidesAt bads range q b → p ≡ q
same_place bads range p q a b at_p at_q = elim (at_p.first q b at_q.there at_q.touched) [
  | inl before ↦ elim (at_q.first p a at_p.there at_p.touched) [
    | inl after ↦ absurd (omega arith)
    | inr same ↦ absurd (omega (arith, same.0))
  ]
  | inr same ↦ elim (at_q.first p a at_p.there at_p.touched) [
    | inl after ↦ absurd (omega (arith, same.0))
    | inr also ↦ omega (arith, same.1, also.1)
  ]
]

once : (bads : List Bad) (range : Range) (p q : ℕ) (a b : Bad) → DecidesAt bads range p a → DecidesAt bads range q b → (p ≡ q) × (a ≡ b)
once bads range p q a b at_p at_q =
    let same = same_place bads range p q a b at_p at_q in
    (same, same_Some a b (sym at_p.there ∙ ap (slice_get bads) same ∙ at_q.there))

-- ranges that touch share the later of their first sectors
shared : (one other : Range) → IsTrue (touches one other) → (x : ℕ) × IsInRange x one × IsInRange x other
shared one other touched =
    let lt : max one.start other.start < min (one.start + one.len) (other.start + other.len) = ltb-true _ _ touched in
    (max one.start other.start, (omega arith, omega (arith, lt)), (omega arith, omega (arith, lt)))

touched : (one other : Range) (x : ℕ) → IsInRange x one → IsInRange x other → IsTrue (touches one other)
touched one other x in_one in_other =
    lt-ltb (max one.start other.start) (min (one.start + one.len) (other.start + other.len)) (omega (arith, in_one.0, in_one.1, in_other.0, in_other.1))

pub faults_are_decided : FaultsAreDecided
faults_are_decided = record { shared = shared; touched = touched; decided = decided; once = once }
