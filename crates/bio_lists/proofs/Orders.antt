-- What is in the order of two lists.
use Rattle.std.proofs.Common.{◌≡◌, List, [], ◌∷◌, ◌++◌, Bool, true, false, Option, None, Some, filter, not, cond, refl, sym, ◌∙◌, arith}
use Rattle.std.specs.Prelude.{MatchOption}
use Rattle.std.specs.Option.{option_map}
use Rattle.std.proofs.lemmas.List.Sums.{sum_by-append}
use Rattle.std.proofs.lemmas.List.Filters.{sum_by-filter_both}
use Rattle.stack_base.specs.declared.ids.DevId.{DevId}
use Rattle.bio_records.specs.declared.bio.Pad.{Pad}
use Rattle.bio_records.specs.declared.tasks.TaskLists.{TaskLists}
use Rattle.bio_records.specs.declared.body.BioBody.{BioBody}
use Rattle.elem_ledger.specs.declared.element.Element.{Element}
use Rattle.bio_records.specs.Items.{Item, item_of, IsAlone}
use Rattle.bio_records.specs.Sorting.{is_for_device, is_lower}
use Rattle.bio_lists.specs.Submission.{order, GoesOn, NoneIsLost}

pub none_is_lost : NoneIsLost
none_is_lost dev lists which =
    let lower : List (Item Pad) = filter (is_lower dev) lists.list0 in
    let same : List (Item Pad) = filter (is_for_device dev) lists.list0 in
    omega (
      arith,
      sum_by-append (λ x. cond (which x) 1 0) lower (same ++ lists.list1),
      sum_by-append (λ x. cond (which x) 1 0) same lists.list1,
      sum_by-filter_both (is_for_device dev) (is_lower dev) (λ x. refl) (λ x. cond (which x) 1 0) lists.list0,
    )

-- nothing joined of nothing
none_joined : {X : Type 0} (one two : List X) → one ++ two ≡ [] → (one ≡ []) × (two ≡ [])
none_joined [] two none = (refl, none)
none_joined (x ∷ one) two none = absurd cc

-- a list all of whose elements are sorted away is empty
none_sorted : {X : Type 0} (p : X → Bool) (xs : List X) → filter (λ x. not (p x)) xs ≡ [] → filter p xs ≡ [] → xs ≡ []
none_sorted p [] others those = refl
none_sorted p (x ∷ xs) others those = absurd (by_case p x xs (p x) refl others those)
  where
    by_case : {X : Type 0} (p : X → Bool) (x : X) (xs : List X) (b : Bool) → p x ≡ b → filter (λ x. not (p x)) (x ∷ xs) ≡ [] → filter p (x ∷ xs) ≡ [] → ⊥
    by_case p x xs true e others those = let wrong : x ∷ filter p xs ≡ [] = rw e at those in cc
    by_case p x xs false e others those = let wrong : x ∷ filter (λ x. not (p x)) xs ≡ [] = rw e at others in cc

-- where nothing is in order, nothing waited
pub none_waited : (served : DevId) (lists : TaskLists) → order served lists ≡ [] → (lists.list0 ≡ []) × (lists.list1 ≡ [])
none_waited served lists none =
    let outer = none_joined (filter (is_lower served) lists.list0) (filter (is_for_device served) lists.list0 ++ lists.list1) none in
    let inner = none_joined (filter (is_for_device served) lists.list0) lists.list1 outer.1 in
    (none_sorted (is_for_device served) lists.list0 outer.0 inner.0, inner.1)

-- what was taken off the order is served next
pub goes_on : (served : DevId) (old : TaskLists) (ordered list0 left : List (Item Pad)) (answer : Option (Element (BioBody Pad)))
    → ordered ≡ order served old → list0 ≡ [] → MatchOption answer ((ordered ≡ []) × (left ≡ [])) (λ e. (ordered ≡ item_of e ∷ left) × IsAlone e)
    → GoesOn served old (option_map item_of answer) (record { list0 = list0; list1 = left })
goes_on served old ordered list0 left None by_order gone taken =
    let waited = none_waited served old (sym by_order ∙ taken.0) in
    (λ k. record { list0 = waited.0 k; list1 = waited.1 k }, λ k. record { list0 = gone k; list1 = taken.1 k })
goes_on served old ordered list0 left (Some e) by_order gone taken = (sym by_order ∙ taken.0, gone)
