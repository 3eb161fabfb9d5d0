-- Tasks of shared objects that are in hand: one is taken, all are stepped, one is put back.
use Rattle.std.proofs.Common.{◌≡◌, ◌≢◌, ◌<◌, ◌≤◌, ◌++◌, ◌⊎◌, inl, inr, ℕ, List, [], ◌∷◌, length, slice_index_or, All, Contains, IsPermutation, Option, None, Some, true, false, eqb, refl, arith, ap, sym, subst, ◌∙◌}
use Rattle.std.specs.List.{AllByRecursion, IsDistinct}
use Rattle.std.proofs.lemmas.Bool.{ne_eqb, eqb-false}
use Rattle.std.proofs.lemmas.Bool.Decides.{eqb_tells}
use Rattle.std.proofs.lemmas.List.{map-append, get_or-set_other, get_or-set_same}
use Rattle.std.proofs.lemmas.List.Elements.{All-from_recursion, All-map, All-pop, All-push, recursion_from_All, Contains-append_left, Contains-push, Contains-push_cases}
use Rattle.std.proofs.lemmas.List.Sorted.{All-permutation, Contains-permutation, IsPermutation-map, IsPermutation-sym, IsPermutation-to_front}
use Rattle.std.proofs.lemmas.Map.Keys.{IsDistinct-cons, IsDistinct-head, IsDistinct-tail, IsDistinct-IsPermutation}
use Rattle.stack_base.proofs.NumberLemmas.{eqb_flips}
use Rattle.shared_objects.specs.Rans.{RanKey, RanState, ran_key}
use Rattle.shared_objects.specs.Shared.{HandsOut, HaveStopped, IsBackStopped, IsOut, SameShared, TakesBack, ran_key_at}
use Rattle.shared_objects.specs.declared.locks.Locks.{Locks}
use Rattle.shared_objects.specs.declared.shared.Shared.{Shared}
use Rattle.task_core.specs.declared.Opened.{Opened}
use Rattle.bio_workers.specs.Hands.{AreOut, numbers}

-- one more number, which is none of them
one_more : (xs : List ℕ) (n : ℕ) → IsDistinct eqb xs → All (λ x. eqb n x ≡ false) xs → IsDistinct eqb (xs ++ n ∷ [])
one_more xs n apart others =
    IsDistinct-IsPermutation eqb eqb_flips (n ∷ xs) (xs ++ n ∷ []) (IsPermutation-sym (xs ++ n ∷ []) (n ∷ xs) (IsPermutation-to_front xs n))
    (IsDistinct-cons eqb n xs (recursion_from_All (λ x. eqb n x ≡ false) xs others) apart)

at_front : (xs : List ℕ) (n : ℕ) → IsDistinct eqb (xs ++ n ∷ []) → IsDistinct eqb (n ∷ xs)
at_front xs n apart = IsDistinct-IsPermutation eqb eqb_flips (xs ++ n ∷ []) (n ∷ xs) (IsPermutation-to_front xs n) apart

by_key : (n : ℕ) (keys : List RanKey) → AllByRecursion (λ x. eqb n x ≡ false) (numbers keys) → AllByRecursion (λ (key : RanKey). eqb n key.number ≡ false) keys
by_key n [] a = tt
by_key n (key ∷ keys) a = (a.0, by_key n keys a.1)

-- nothing was taken or put back
pub same_shared : (shared : Shared) → SameShared shared shared
same_shared shared = record { told = refl; locks = refl; many = refl }

pub then_same : (old mid new : Shared) → SameShared old mid → SameShared mid new → SameShared old new
then_same old mid new first next = record { told = next.told ∙ first.told; locks = next.locks ∙ first.locks; many = next.many ∙ first.many }

-- what stays out while another task is taken or put back
still_out : (old new : Shared) (key : RanKey) → IsOut old key → old.next ≤ new.next → SameShared old new
    → ((slot : Option RanState) → slice_index_or new.tasks.items key.number slot ≡ slice_index_or old.tasks.items key.number slot) → IsOut new key
still_out old new key out next same slots = record {
  taken = let below = out.taken in omega (arith, below, next);
  own = λ first. subst (λ (locks : Locks). key ≡ ran_key_at locks key.number (slice_index_or new.told.value.tasks.items key.number first)) (sym same.locks)
      (subst (λ (o : Opened). key ≡ ran_key_at old.locks key.number (slice_index_or o.tasks.items key.number first)) (sym same.told) (out.own first));
  vacant = λ slot. slots slot ∙ out.vacant slot;
}

module _ (old new : Shared) (ran : RanState) (out : HandsOut old ran new) where
  its_number : ran.seats.number ≡ old.next
  its_number = ap (λ (k : RanKey). k.number) (out.key ran.first)

  other_slots : (place : ℕ) (slot : Option RanState) → place ≢ old.next → slice_index_or new.tasks.items place slot ≡ slice_index_or old.tasks.items place slot
  other_slots place slot other = ap (λ l. slice_index_or l place slot) out.tasks ∙ get_or-set_other old.tasks.items old.next place None slot other

  is_own : (first : _) → ran_key ran ≡ ran_key_at new.locks old.next (slice_index_or new.told.value.tasks.items old.next first)
  is_own first = subst (λ (locks : Locks). ran_key ran ≡ ran_key_at locks old.next (slice_index_or new.told.value.tasks.items old.next first)) (sym out.same.locks)
      (subst (λ (o : Opened). ran_key ran ≡ ran_key_at old.locks old.next (slice_index_or o.tasks.items old.next first)) (sym out.same.told) (out.key first))

  new_out : IsOut new (ran_key ran)
  new_out = record {
    taken = let next = out.next in let same = its_number in omega (arith, next, same);
    own = λ first. subst (λ (n : ℕ). ran_key ran ≡ ran_key_at new.locks n (slice_index_or new.told.value.tasks.items n first)) (sym its_number) (is_own first);
    vacant = λ slot. subst (λ (n : ℕ). slice_index_or new.tasks.items n slot ≡ None) (sym its_number)
        (ap (λ l. slice_index_or l old.next slot) out.tasks ∙ get_or-set_same old.tasks.items old.next None slot out.some);
  }

  others_too : (keys : List RanKey) (are : AreOut old keys) (place : ℕ) (slot : Option RanState) → place < new.next
      → ((eqb place old.next ≡ true) × (place ≡ old.next)) ⊎ ((eqb place old.next ≡ false) × (place ≢ old.next))
      → IsBackStopped (slice_index_or new.tasks.items place slot) ⊎ Contains (numbers keys ++ ran.seats.number ∷ []) place
  others_too keys are place slot below (inl t) = inr (subst (λ (n : ℕ). Contains (numbers keys ++ ran.seats.number ∷ []) n) (its_number ∙ sym t.1) (Contains-push (numbers keys) ran.seats.number))
  others_too keys are place slot below (inr t) =
      let next = out.next in
      let other = t.1 in
      elim (are.others place slot (omega (arith, below, next, other))) [
        | inl stopped ↦ inl (subst IsBackStopped (sym (other_slots place slot other)) stopped)
        | inr held ↦ inr (Contains-append_left (numbers keys) (ran.seats.number ∷ []) place held)
      ]

  -- one more task is out
  pub takes_one : (keys : List RanKey) → AreOut old keys → AreOut new (keys ++ ran_key ran ∷ [])
  takes_one keys are =
      let same = map-append (λ (key : RanKey). key.number) keys (ran_key ran ∷ []) in
      let next = out.next in
      let own = its_number in record {
        out = All-push (IsOut new) keys (ran_key ran)
            (λ k d within. let held = are.out k d within in let below = held.taken in still_out old new (slice_index_or keys k d) held (omega (arith, next)) out.same (λ slot. other_slots (slice_index_or keys k d).number slot (omega (arith, below))))
            new_out;
        apart = subst (IsDistinct eqb) (sym same) (one_more (numbers keys) ran.seats.number are.apart
            (All-map (λ (x : ℕ). eqb ran.seats.number x ≡ false) (λ (key : RanKey). key.number) keys
            (λ k d within. let below = (are.out k d within).taken in ne_eqb ran.seats.number (slice_index_or keys k d).number (λ e. absurd (omega (arith, below, own, e))))));
        others = λ place slot below. subst (λ (l : List ℕ). IsBackStopped (slice_index_or new.tasks.items place slot) ⊎ Contains l place) (sym same) (others_too keys are place slot below (eqb_tells place old.next));
      }

module _ (old new : Shared) (ran : RanState) (back : TakesBack old ran new) where
  slots_beside : (place : ℕ) (slot : Option RanState) → place ≢ ran.seats.number → slice_index_or new.tasks.items place slot ≡ slice_index_or old.tasks.items place slot
  slots_beside place slot other = ap (λ l. slice_index_or l place slot) back.tasks ∙ get_or-set_other old.tasks.items ran.seats.number place (Some ran) slot other

  others_then : (keys : List RanKey) (place : ℕ) (slot : Option RanState) → ran.stopped ≡ true → ran.seats.number < length old.tasks.items
      → IsBackStopped (slice_index_or old.tasks.items place slot) ⊎ Contains (numbers keys ++ ran.seats.number ∷ []) place
      → ((eqb place ran.seats.number ≡ true) × (place ≡ ran.seats.number)) ⊎ ((eqb place ran.seats.number ≡ false) × (place ≢ ran.seats.number))
      → IsBackStopped (slice_index_or new.tasks.items place slot) ⊎ Contains (numbers keys) place
  others_then keys place slot stopped within before (inl t) =
      inl (subst (λ (n : ℕ). IsBackStopped (slice_index_or new.tasks.items n slot)) (sym t.1)
      (subst IsBackStopped (sym (ap (λ l. slice_index_or l ran.seats.number slot) back.tasks ∙ get_or-set_same old.tasks.items ran.seats.number (Some ran) slot within)) stopped))
  others_then keys place slot stopped within (inl there) (inr t) = inl (subst IsBackStopped (sym (slots_beside place slot t.1)) there)
  others_then keys place slot stopped within (inr held) (inr t) =
      elim (Contains-push_cases (numbers keys) ran.seats.number place held) [ inl still ↦ inr still | inr it ↦ absurd (t.1 (sym it)) ]

  -- one task less is out
  pub puts_one : (keys : List RanKey) → old.next ≤ length old.tasks.items → ran.stopped ≡ true → AreOut old (keys ++ ran_key ran ∷ []) → AreOut new keys
  puts_one keys many stopped are =
      let same = map-append (λ (key : RanKey). key.number) keys (ran_key ran ∷ []) in
      let next = back.next in
      let parts = All-pop (IsOut old) (keys ++ ran_key ran ∷ []) keys (Some (ran_key ran)) refl are.out in
      let below = parts.1.taken in
      let front = at_front (numbers keys) ran.seats.number (subst (IsDistinct eqb) same are.apart) in
      let differ = All-from_recursion (λ (key : RanKey). eqb ran.seats.number key.number ≡ false) keys (by_key ran.seats.number keys (IsDistinct-head eqb ran.seats.number (numbers keys) front)) in record {
        out = λ k d within. still_out old new (slice_index_or keys k d) (parts.0 k d within) (omega (arith, next)) back.same (λ slot. slots_beside (slice_index_or keys k d).number slot (λ e. eqb-false ran.seats.number (slice_index_or keys k d).number (differ k d within) (sym e)));
        apart = IsDistinct-tail eqb ran.seats.number (numbers keys) front;
        others = λ place slot within. others_then keys place slot stopped (omega (arith, below, many))
            (subst (λ (l : List ℕ). IsBackStopped (slice_index_or old.tasks.items place slot) ⊎ Contains l place) same (are.others place slot (omega (arith, within, next)))) (eqb_tells place ran.seats.number);
      }

-- each task that is out may be put back
pub last_is_out : (shared : Shared) (keys : List RanKey) (ran : RanState) → AreOut shared (keys ++ ran_key ran ∷ []) → IsOut shared (ran_key ran)
last_is_out shared keys ran are = (All-pop (IsOut shared) (keys ++ ran_key ran ∷ []) keys (Some (ran_key ran)) refl are.out).1

-- the seats of each task that is out are of the locks
pub of_the_locks : (shared : Shared) (keys : List RanKey) → AreOut shared keys → All (λ (key : RanKey). key.home ≡ shared.locks) keys
of_the_locks shared keys are = λ k d within. ap (λ (key : RanKey). key.home) ((are.out k d within).own (slice_index_or keys k d).first)

-- in another order
pub reordered : (shared : Shared) (keys others : List RanKey) → IsPermutation keys others → AreOut shared keys → AreOut shared others
reordered shared keys others moved are =
    let numbered = IsPermutation-map (λ (key : RanKey). key.number) keys others moved in record {
      out = All-permutation (IsOut shared) keys others moved are.out;
      apart = IsDistinct-IsPermutation eqb eqb_flips (numbers keys) (numbers others) numbered are.apart;
      others = λ place slot within. elim (are.others place slot within) [ inl there ↦ inl there | inr held ↦ inr (Contains-permutation (numbers keys) (numbers others) place numbered held) ];
    }

-- all are back
pub all_are_back : (shared : Shared) → shared.next ≡ length shared.tasks.items → AreOut shared [] → HaveStopped shared
all_are_back shared all are = λ place slot within. elim (are.others place slot (omega (arith, within, all))) [ inl there ↦ there | inr held ↦ absurd (let below = held.1 in omega (arith, below)) ]

-- nothing is out yet
pub none_is_out : (shared : Shared) → shared.next ≡ 0 → AreOut shared []
unfolding IsDistinct
none_is_out shared none = record { out = λ k d within. absurd (omega (arith, within)); apart = tt; others = λ place slot within. absurd (omega (arith, within, none)) }
