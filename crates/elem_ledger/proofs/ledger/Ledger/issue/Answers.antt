use Rattle.std.proofs.Common.{ℕ, ◌+◌, arith, subst, sym}
use Rattle.atomic_table.specs.Table.{Splits}
use Rattle.elem_ledger.specs.declared.balance.View.{View}
use Rattle.elem_ledger.specs.declared.balance.View.TheVariants.{Out}
use Rattle.elem_ledger.specs.Balance.{IsBalanced, one_more_issued, redeemed_by}
use Rattle.elem_ledger.proofs.Steps.{issue_keeps}
use Rattle.elem_ledger.proofs.ledger.Ledger.issue.Goals as goal

pub split_seat-seat-requires : goal.split_seat-seat-requires
split_seat-seat-requires g c =
    let kept = c.self.invariant in
    let redeemed : ℕ = redeemed_by c.self.inside.keeper.me.0 in
    let keeps : (view : View) → Type 0 = λ view. Splits IsBalanced c.self.inside.keeper.id view (one_more_issued view) Out in
    (kept.seated, omega (arith, kept.word), subst keeps (sym kept.keeper) (issue_keeps c.self.inside.keeper.id (redeemed + c.self.inside.total) redeemed))
