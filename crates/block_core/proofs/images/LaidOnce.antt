-- What is laid out in a sector is one thing, so all runs of a scenario that have ended leave the same images.
use Rattle.std.proofs.Common.{◌≡◌, ◌<◌, ◌≤◌, ◌⊎◌, ℕ, zero, suc, Bool, true, false, List, [], ◌∷◌, length, Option, None, Some, inl, inr, refl, sym, ◌∙◌, ap, subst, arith}
use Rattle.std.specs.Prelude.{All, Contains, slice_get, slice_index_or}
use Rattle.std.proofs.lemmas.Bool.{both_ways}
use Rattle.std.proofs.lemmas.List.{ext_get_or}
use Rattle.std.proofs.lemmas.List.Elements.{All-cons, All-contains, All-get_or, All-nil, Contains-append_right}
use Rattle.std.proofs.lemmas.Option.{get_or_from_slice_get, slice_get_within, same_Some}
use Rattle.stack_base.specs.Tree.{tree, size}
use Rattle.layout_model.specs.declared.fragment.Fragment.{Fragment}
use Rattle.layout_model.specs.declared.write.Write.{Write}
use Rattle.layout_model.specs.Laid.{Lands, round_of}
use Rattle.layout_model.specs.Plan.{plan, leaves}
use Rattle.layout_model.specs.Writes.{IsWrite}
use Rattle.layout_model.proofs.PlanLaws.{plan_gives_fragments, trees_are_sound}
use Rattle.run_machine.specs.Opened.{Scenario}
use Rattle.block_core.specs.Scenarios.{IsScenario}
use Rattle.block_core.specs.Images.{writes_at, LaidIsOne, EndedRunsLeaveTheSame}
use Rattle.block_core.proofs.moves.Sums.{same_or_not, below_or}
use Rattle.block_core.proofs.images.LaidOut.{lands_there, way_writes}
use Rattle.block_core.proofs.images.ImagesLaid.{images_are_laid_out}

module _ (s : Scenario) (good : IsScenario s) (disk at : ℕ) where
  is_write : (number : ℕ) (write : Write) → slice_get s.writes number ≡ Some write → IsWrite s.stack write
  is_write number write found =
      subst (IsWrite s.stack) (get_or_from_slice_get s.writes number write write found) (All-get_or (IsWrite s.stack) s.writes number write (slice_get_within s.writes number write found) good.writes)

  abbrev LandsHere : ℕ → Write → Type 0
  LandsHere number write = Lands s.stack write number disk at

  -- one of some fragments writes the sector, or none does
  some_or_none : (fs : List Fragment) → ((f : Fragment) × Contains fs f × (writes_at s f disk at ≡ true)) ⊎ All (λ f. writes_at s f disk at ≡ false) fs
  some_or_none [] = inr (All-nil (λ f. writes_at s f disk at ≡ false))
  some_or_none (f ∷ fs) = by_test (writes_at s f disk at) refl (some_or_none fs)
    where
      by_test : (v : Bool) → writes_at s f disk at ≡ v → ((g : Fragment) × Contains fs g × (writes_at s g disk at ≡ true)) ⊎ All (λ g. writes_at s g disk at ≡ false) fs
          → ((g : Fragment) × Contains (f ∷ fs) g × (writes_at s g disk at ≡ true)) ⊎ All (λ g. writes_at s g disk at ≡ false) (f ∷ fs)
      by_test true is rest = inl (f, (0, omega arith, refl), is)
      by_test false is (inl later) = inl (later.0, Contains-append_right (f ∷ []) fs later.0 later.1, later.2)
      by_test false is (inr none) = inr (All-cons (λ g. writes_at s g disk at ≡ false) f fs is none)

  -- so a write lands there or it does not
  lands_or_not : (number : ℕ) (write : Write) → slice_get s.writes number ≡ Some write → LandsHere number write ⊎ (LandsHere number write → ⊥)
  lands_or_not number write found =
      let is = is_write number write found in
      let t = tree s.stack write.dev.0 in
      let some = is.some in
      let fs = leaves (plan t number 0 write.start write.count) in
      let gives = plan_gives_fragments t number 0 write.start write.count (trees_are_sound s.stack write.dev.0 good.stack is.known) (omega (arith, some)) in
      elim (some_or_none fs) [
        | inl one ↦ inl (lands_there s good disk at one.0 number write is ((gives one.0).0 one.1) one.2)
        | inr none ↦ inr (λ there.
            let f = there.way.fragment in
            let inside = there.way.inside in
            both_ways (writes_at s f disk at) (All-contains (λ g. writes_at s g disk at ≡ false) fs f none ((gives f).1 inside.fragment)) (way_writes s good disk at number write found is there).0)
      ]

  -- of the writes before some number none lands there, or one does such that none of a later round does
  abbrev NoneLands : ℕ → Type 0
  NoneLands n = (number : ℕ) (write : Write) → number < n → slice_get s.writes number ≡ Some write → LandsHere number write → ⊥

  record IsLast (n : ℕ) : Type 0 where
    number : ℕ
    write : Write
    found : slice_get s.writes number ≡ Some write
    there : LandsHere number write
    latest : (other : ℕ) (later : Write) → other < n → slice_get s.writes other ≡ Some later → LandsHere other later → round_of s.rounds other ≤ round_of s.rounds number

  last_or_none : (n : ℕ) → NoneLands n ⊎ IsLast n
  last_or_none zero = inl (λ number write lt found there. absurd (omega (arith, lt)))
  last_or_none (suc n) = by_write (slice_get s.writes n) refl (last_or_none n)
    where
      same_write : (write other : Write) → slice_get s.writes n ≡ Some write → (number : ℕ) → number ≡ n → slice_get s.writes number ≡ Some other → LandsHere number other → LandsHere n other
      same_write write other is number e found there = subst (λ k. LandsHere k other) e there

      -- a write that does not land changes nothing
      stays : ((other : Write) → slice_get s.writes n ≡ Some other → LandsHere n other → ⊥) → NoneLands n ⊎ IsLast n → NoneLands (suc n) ⊎ IsLast (suc n)
      stays never (inl none) = inl (λ number write lt found there. elim (same_or_not number n) [
        | inl e ↦ never write (ap (slice_get s.writes) (sym e) ∙ found) (subst (λ k. LandsHere k write) e there)
        | inr ne ↦ none number write (omega (arith, lt, ne)) found there
      ])
      stays never (inr last) = inr (record {
        number = last.number;
        write = last.write;
        found = last.found;
        there = last.there;
        latest = λ other later lt found there. elim (same_or_not other n) [
          | inl e ↦ absurd (never later (ap (slice_get s.writes) (sym e) ∙ found) (subst (λ k. LandsHere k later) e there))
          | inr ne ↦ last.latest other later (omega (arith, lt, ne)) found there
        ];
      })

      -- one that lands is the last one, or the last one stays
      lands : (write : Write) → slice_get s.writes n ≡ Some write → LandsHere n write → NoneLands n ⊎ IsLast n → IsLast (suc n)
      lands write is there (inl none) = record {
        number = n;
        write = write;
        found = is;
        there = there;
        latest = λ other later lt found also. elim (same_or_not other n) [
          | inl e ↦ let same = ap (round_of s.rounds) e in omega (arith, same)
          | inr ne ↦ absurd (none other later (omega (arith, lt, ne)) found also)
        ];
      }
      lands write is there (inr last) = elim (below_or (round_of s.rounds n) (round_of s.rounds last.number)) [
        | inl before ↦ record {
          number = last.number;
          write = last.write;
          found = last.found;
          there = last.there;
          latest = λ other later lt found also. elim (same_or_not other n) [
            | inl e ↦ let same = ap (round_of s.rounds) e in omega (arith, same, before)
            | inr ne ↦ last.latest other later (omega (arith, lt, ne)) found also
          ];
        }
        | inr behind ↦ record {
          number = n;
          write = write;
          found = is;
          there = there;
          latest = λ other later lt found also. elim (same_or_not other n) [
            | inl e ↦ let same = ap (round_of s.rounds) e in omega (arith, same)
            | inr ne ↦ let le = last.latest other later (omega (arith, lt, ne)) found also in omega (arith, le, behind)
          ];
        }
      ]

      by_write : (o : Option Write) → slice_get s.writes n ≡ o → NoneLands n ⊎ IsLast n → NoneLands (suc n) ⊎ IsLast (suc n)
      by_write None is rest = stays (λ other found there. absurd (let no : None ≡ Some other = sym is ∙ found in cc)) rest
      by_write (Some write) is rest = elim (lands_or_not n write is) [
        | inl there ↦ inr (lands write is there rest)
        | inr never ↦ stays (λ other found there. never (subst (LandsHere n) (same_Some other write (sym found ∙ is)) there)) rest
      ]

pub laid_is_one : LaidIsOne
laid_is_one s good disk at one other a b = elim (last_or_none s good disk at (length s.writes)) [
  | inl none ↦
      let never = λ (number : ℕ) (write : Write) (found : slice_get s.writes number ≡ Some write) (there : Lands s.stack write number disk at).
      none number write (slice_get_within s.writes number write found) found there in
      a.empty never ∙ sym (b.empty never)
  | inr last ↦
      let latest = λ (number : ℕ) (write : Write) (found : slice_get s.writes number ≡ Some write) (there : Lands s.stack write number disk at).
      last.latest number write (slice_get_within s.writes number write found) found there in
      a.written last.number last.write last.found last.there latest ∙ sym (b.written last.number last.write last.found last.there latest)
]

pub ended_runs_leave_the_same : EndedRunsLeaveTheSame
ended_runs_leave_the_same s ledger other events others state end good apart naming also run too ended over disk =
    let here = images_are_laid_out s ledger events state good apart naming run ended in
    let there = images_are_laid_out s other others end good apart also too over in
    ext_get_or [] (state.objects.disk disk).image (end.objects.disk disk).image (here.sized disk ∙ sym (there.sized disk))
    (λ at lt.
    let sized = here.sized disk in
    let within : at < size (tree s.stack disk) = omega (arith, lt, sized) in
    laid_is_one s good disk at (slice_index_or (state.objects.disk disk).image at []) (slice_index_or (end.objects.disk disk).image at []) (here.laid disk at within) (there.laid disk at within))
