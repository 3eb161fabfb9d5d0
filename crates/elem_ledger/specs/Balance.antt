-- The rule of a ledger's table: what its keeper has issued and not redeemed is what is out.
use Rattle.std.specs.Prelude.{◌≡◌, ℕ, ◌+◌, [], sum_by}
use Rattle.atomic_table.specs.Table.{State, Me}
use Rattle.atomic_table.specs.Seated.{TableId}
use Rattle.elem_ledger.specs.declared.balance.View.{View}
use Rattle.elem_ledger.specs.declared.balance.View.TheVariants.{Keeper, Out, Spent}

abbrev pub keeper_count : View → ℕ
keeper_count (Keeper issued redeemed) = 1
keeper_count Out = 0
keeper_count Spent = 0

abbrev pub issued_by : View → ℕ
issued_by (Keeper issued redeemed) = issued
issued_by Out = 0
issued_by Spent = 0

abbrev pub redeemed_by : View → ℕ
redeemed_by (Keeper issued redeemed) = redeemed
redeemed_by Out = 0
redeemed_by Spent = 0

abbrev pub out_by : View → ℕ
out_by (Keeper issued redeemed) = 0
out_by Out = 1
out_by Spent = 0

abbrev pub one_more_issued : View → View
one_more_issued view = Keeper (issued_by view + 1) (redeemed_by view)

abbrev pub one_more_redeemed : View → View
one_more_redeemed view = Keeper (issued_by view) (redeemed_by view + 1)

-- exactly one view is a keeper's, and the difference of its numbers is how many views are shares that are out
pub record IsBalanced (s : State (Unit {0}) View) : Type 0 where
  pub one_keeper : sum_by keeper_count s.views ≡ 1
  pub balanced : sum_by issued_by s.views ≡ sum_by redeemed_by s.views + sum_by out_by s.views

-- how a ledger keeps its table: its seat is the keeper's, and its total is the difference of the keeper's numbers
pub record IsLedgerTable (table seat : TableId) (me : Me (Unit {0}) View) (total : ℕ) : Type 0 where
  pub seated : seat ≡ table
  pub word : table.words ≡ 1
  pub empty : me.1 ≡ []
  pub keeper : me.0 ≡ Keeper (redeemed_by me.0 + total) (redeemed_by me.0)
