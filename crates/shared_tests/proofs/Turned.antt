-- Tasks that are out, of which the first one steps.
use Rattle.std.proofs.Common.{◌≡◌, ◌↔◌, ◌++◌, List, [], ◌∷◌, Option, None, drop, length, length-drop, map, true, arith, refl, ap, sym, subst, ◌∙◌}
use Rattle.std.specs.Option.{is_some, IsNone}
use Rattle.std.proofs.lemmas.List.{map-append}
use Rattle.std.proofs.lemmas.List.Sorted.{IsPermutation-sym, IsPermutation-to_front}
use Rattle.task_core.specs.declared.opening.Opened.{Opened}
use Rattle.shared_objects.specs.Rans.{RanKey, RanState, ran_key}
use Rattle.shared_objects.specs.Shared.{IsOut, SharedHolds, TakesBack}
use Rattle.shared_objects.specs.declared.shared.Shared.{Shared}
use Rattle.bio_workers.specs.Hands.{AreOut}
use Rattle.bio_workers.proofs.Hands.{last_is_out, of_the_locks, puts_one, reordered}
use Rattle.shared_tests.specs.StillOut.{AreStillOut}

module _ (opened : Opened) (shared : Shared) (ran : RanState) (rest : List RanState) (are : AreStillOut opened shared (ran ∷ rest)) where
  -- its seats are of the locks
  pub its_home : ran.home ≡ shared.locks
  its_home = of_the_locks shared (ran_key ran ∷ map ran_key rest) are.out 0 (ran_key ran) (omega arith)

  module _ (next : RanState) (same : ran_key next ≡ ran_key ran) where
    behind : AreOut shared (map ran_key rest ++ ran_key next ∷ [])
    behind =
        let keys = map ran_key rest in
        subst (λ (key : RanKey). AreOut shared (keys ++ key ∷ [])) (sym same)
        (reordered shared (ran_key ran ∷ keys) (keys ++ ran_key ran ∷ []) (IsPermutation-sym (keys ++ ran_key ran ∷ []) (ran_key ran ∷ keys) (IsPermutation-to_front keys (ran_key ran))) are.out)

    -- it goes behind the others
    pub goes_behind : (rans : List RanState) → rans ≡ rest ++ next ∷ [] → AreStillOut opened shared rans
    goes_behind rans is = record {
      told = are.told;
      holds = are.holds;
      all = are.all;
      out = subst (λ (l : List RanState). AreOut shared (map ran_key l)) (sym is) (subst (AreOut shared) (sym (map-append ran_key rest (next ∷ []))) behind);
    }

    -- or back
    pub may_go_back : IsOut shared (ran_key next)
    may_go_back = last_is_out shared (map ran_key rest) next behind

    pub goes_back : (after : Shared) → next.stopped ≡ true → SharedHolds after → TakesBack shared next after → AreStillOut opened after rest
    goes_back after stopped holds back = record {
      told = back.same.told ∙ are.told;
      holds = holds;
      all = back.next ∙ are.all ∙ sym back.same.many;
      out = puts_one shared after next back (map ran_key rest) are.holds.next stopped behind;
    }

-- what was opened stays
pub since : (opened : Opened) (shared : Shared) (rans : List RanState) → AreStillOut opened shared rans → AreStillOut shared.told.value shared rans
since opened shared rans are = record { told = refl; holds = are.holds; all = are.all; out = are.out }

pub then_still : (opened : Opened) (old new : Shared) (rans : List RanState) → old.told.value ≡ opened → AreStillOut old.told.value new rans → AreStillOut opened new rans
then_still opened old new rans same are = record { told = are.told ∙ same; holds = are.holds; all = are.all; out = are.out }

-- none is out where there was none to take from a list
pub none_out : (opened : Opened) (shared : Shared) (rans rest : List RanState) → rans ≡ rest → rest ≡ drop 1 rans → AreStillOut opened shared rans → AreStillOut opened shared []
none_out opened shared [] rest same less are = are
none_out opened shared (ran ∷ rans) rest same less are = absurd (let shorter = ap length (same ∙ less) in omega (arith, shorter, length-drop 1 (ran ∷ rans)))

-- those that were taken so far are all, where there is no other
pub all_taken : (opened : Opened) (old new : Shared) (result : Option RanState) (rans : List RanState) → result ≡ None
    → (IsNone result ↔ (old.next ≡ length old.tasks.items)) → (result ≡ None → new ≡ old)
    → SharedHolds old × AreOut old (map ran_key rans) × (old.told.value ≡ opened) → AreStillOut opened new rans
all_taken opened old new result rans none every same are =
    subst (λ (s : Shared). AreStillOut opened s rans) (sym (same none))
    (record { told = are.2; holds = are.0; all = every.0 (ap is_some none); out = are.1 })
