-- Each kind of step keeps the rule of a ledger's table.
use Rattle.std.proofs.Common.{◌≡◌, ℕ, zero, suc, ◌≤◌, List, [], ◌∷◌, set, arith, ap, sym, refl, ◌∙◌}
use Rattle.std.specs.Prelude.{sum_by}
use Rattle.std.proofs.lemmas.List.Sums.{sum_by-cons, sum_by_push}
use mathlib.Core.Option.{some, some-injective, some-ne-none}
use lib.ListN.{get_elem?}
use Rattle.atomic_table.specs.Table.{Splits, Joins, Allows, keeps}
use Rattle.atomic_table.proofs.Lists.{set_again, set_else}
use Rattle.elem_ledger.specs.declared.balance.View.{View}
use Rattle.elem_ledger.specs.declared.balance.View.TheVariants.{Keeper, Out, Spent}
use Rattle.elem_ledger.specs.Balance.{keeper_count, issued_by, redeemed_by, out_by, one_more_issued, one_more_redeemed, IsBalanced}
use Rattle.elem_ledger.proofs.Sums.{sum_by-put}

-- an issue: the keeper has issued one more, and one more share is out
pub issue_keeps : (id issued redeemed : ℕ) → Splits IsBalanced id (Keeper issued redeemed) (one_more_issued (Keeper issued redeemed)) Out
issue_keeps id issued redeemed s rule at =
    let now : List View = set s.views id (one_more_issued (Keeper issued redeemed)) in
    record {
      one_keeper = omega (arith, rule.one_keeper, sum_by_push keeper_count now Out, sum_by-put keeper_count s.views id (Keeper issued redeemed) (one_more_issued (Keeper issued redeemed)) at);
      balanced = omega (
        arith,
        rule.balanced,
        sum_by_push issued_by now Out,
        sum_by_push redeemed_by now Out,
        sum_by_push out_by now Out,
        sum_by-put issued_by s.views id (Keeper issued redeemed) (one_more_issued (Keeper issued redeemed)) at,
        sum_by-put redeemed_by s.views id (Keeper issued redeemed) (one_more_issued (Keeper issued redeemed)) at,
        sum_by-put out_by s.views id (Keeper issued redeemed) (one_more_issued (Keeper issued redeemed)) at,
      );
    }

-- a redeem: the keeper has redeemed one more, and one share less is out
pub redeem_keeps : (id other issued redeemed : ℕ) → Joins IsBalanced id (Keeper issued redeemed) other Out (one_more_redeemed (Keeper issued redeemed)) Spent
redeem_keeps id other issued redeemed s rule at apart out =
    let keeper : View = Keeper issued redeemed in
    let more : View = one_more_redeemed keeper in
    let now : List View = set s.views id more in
    record {
      one_keeper = omega (arith, rule.one_keeper, sum_by-put keeper_count s.views id keeper more at, sum_by-put keeper_count now other Out Spent out);
      balanced = omega (
        arith,
        rule.balanced,
        sum_by-put issued_by s.views id keeper more at,
        sum_by-put issued_by now other Out Spent out,
        sum_by-put redeemed_by s.views id keeper more at,
        sum_by-put redeemed_by now other Out Spent out,
        sum_by-put out_by s.views id keeper more at,
        sum_by-put out_by now other Out Spent out,
      );
    }

-- where there is no keeper nothing was issued or redeemed
none_issued : (views : List View) → sum_by keeper_count views ≡ 0 → sum_by issued_by views ≡ 0
none_issued [] e = refl
none_issued (Keeper issued redeemed ∷ views) e = absurd (omega (arith, e, sum_by-cons keeper_count (Keeper issued redeemed) views))
none_issued (Out ∷ views) e = omega (arith, none_issued views (omega (arith, e, sum_by-cons keeper_count Out views)), sum_by-cons issued_by Out views)
none_issued (Spent ∷ views) e = omega (arith, none_issued views (omega (arith, e, sum_by-cons keeper_count Spent views)), sum_by-cons issued_by Spent views)

-- a keeper among the views is part of their sum
no_keeper : (views : List View) (id issued redeemed : ℕ) → sum_by keeper_count views ≡ 0 → get_elem? views id ≡ some (Keeper issued redeemed) → ⊥
no_keeper [] id issued redeemed none at = some-ne-none (Keeper issued redeemed) (sym at)
no_keeper (v ∷ views) zero issued redeemed none at =
    let kept : keeper_count v ≡ 1 = ap keeper_count (some-injective v (Keeper issued redeemed) at) in
    absurd (omega (arith, none, kept, sum_by-cons keeper_count v views))
no_keeper (v ∷ views) (suc id) issued redeemed none at =
    no_keeper views id issued redeemed (omega (arith, none, sum_by-cons keeper_count v views)) at

-- a second keeper is taken in: there is none
pub merge_keeps : (id other issued redeemed issued_there redeemed_there : ℕ)
    → Joins IsBalanced id (Keeper issued redeemed) other (Keeper issued_there redeemed_there) (Keeper 0 1) Spent
merge_keeps id other issued redeemed issued_there redeemed_there s rule at apart there =
    let gone : List View = set s.views id Spent in
    let none : sum_by keeper_count gone ≡ 0 = omega (arith, rule.one_keeper, sum_by-put keeper_count s.views id (Keeper issued redeemed) Spent at) in
    let still = set_else s.views id other Spent apart ∙ sym (set_else s.views id other (Keeper 0 1) apart) ∙ there in
    absurd (no_keeper gone other issued_there redeemed_there none still)

-- all that was issued was issued by the one keeper, who has redeemed no more than that
pub keeper_tells : (views : List View) (id issued redeemed : ℕ) → sum_by keeper_count views ≡ 1 → get_elem? views id ≡ some (Keeper issued redeemed)
    → (sum_by issued_by views ≡ issued) × (redeemed ≤ sum_by redeemed_by views)
keeper_tells [] id issued redeemed one at = absurd (some-ne-none (Keeper issued redeemed) (sym at))
keeper_tells (v ∷ views) zero issued redeemed one at =
    let same : v ≡ Keeper issued redeemed = some-injective v (Keeper issued redeemed) at in
    let one_kept : keeper_count v ≡ 1 = ap keeper_count same in
    let was_issued : issued_by v ≡ issued = ap issued_by same in
    let was_redeemed : redeemed_by v ≡ redeemed = ap redeemed_by same in
    let others : sum_by issued_by views ≡ 0 = none_issued views (omega (arith, one, one_kept, sum_by-cons keeper_count v views)) in
    (omega (arith, others, was_issued, sum_by-cons issued_by v views), omega (arith, was_redeemed, sum_by-cons redeemed_by v views))
keeper_tells (Keeper i r ∷ views) (suc id) issued redeemed one at =
    let none : sum_by keeper_count views ≡ 0 = omega (arith, one, sum_by-cons keeper_count (Keeper i r) views) in
    absurd (no_keeper views id issued redeemed none at)
keeper_tells (Out ∷ views) (suc id) issued redeemed one at =
    let told = keeper_tells views id issued redeemed (omega (arith, one, sum_by-cons keeper_count Out views)) at in
    (omega (arith, told.0, sum_by-cons issued_by Out views), omega (arith, told.1, sum_by-cons redeemed_by Out views))
keeper_tells (Spent ∷ views) (suc id) issued redeemed one at =
    let told = keeper_tells views id issued redeemed (omega (arith, one, sum_by-cons keeper_count Spent views)) at in
    (omega (arith, told.0, sum_by-cons issued_by Spent views), omega (arith, told.1, sum_by-cons redeemed_by Spent views))

-- a look changes nothing, and tells the keeper that it has redeemed no more than it issued
pub look_tells : (slots id issued redeemed : ℕ) → Allows {V = View} IsBalanced slots id (Keeper issued redeemed, []) 0 (λ n. n)
    (λ _ after. (after ≡ (Keeper issued redeemed, [])) × (redeemed ≤ issued))
look_tells slots id issued redeemed s rule homes at word =
    let keeper : View = Keeper issued redeemed in
    let same : set s.views id keeper ≡ s.views = set_again s.views id keeper at in
    let told = keeper_tells s.views id issued redeemed rule.one_keeper at in (
      keeper,
      keeps,
      tt,
      record { one_keeper = rw same rule.one_keeper; balanced = rw same rule.balanced },
      (refl, omega (arith, told.0, told.1, rule.balanced)),
    )
