use Rattle.std.proofs.Common.{◌≡◌, ℕ, ◌+◌, ◌≤◌, [], arith, subst, sym, ap, ◌∙◌}
use Rattle.atomic_table.specs.Table.{Me, Joins, Allows}
use Rattle.elem_ledger.specs.declared.balance.View.{View}
use Rattle.elem_ledger.specs.declared.balance.View.TheVariants.{Keeper, Out, Spent}
use Rattle.elem_ledger.specs.Balance.{IsBalanced, one_more_redeemed, redeemed_by, issued_by}
use Rattle.elem_ledger.proofs.Steps.{redeem_keeps, look_tells}
use Rattle.elem_ledger.proofs.ledger.Ledger.redeem.Goals as goal

pub join_seat-requires : goal.join_seat-requires
join_seat-requires g c =
    let kept = c.self.invariant in
    let seat = c.into_seat-seat.result in
    let id : ℕ = c.self.inside.keeper.id in
    let redeemed : ℕ = redeemed_by c.self.inside.keeper.me.0 in
    let issued : ℕ = redeemed + c.self.inside.total in
    let of_share = c.into_badge.ensures.table ∙ ap (λ s. s.table) (ap (λ p. p.1) c.parts-body.ensures) ∙ ap (λ s. s.table) c.requires ∙ sym (ap (λ l. l.id.table) c.self.view_is) in
    let out : Out ≡ seat.me.0 = cc in
    let keeper_first : (view : View) → Type 0 = λ view. Joins IsBalanced id view seat.id Out (one_more_redeemed view) Spent in
    let out_second : (view : View) → Type 0 = λ view. Joins IsBalanced id c.self.inside.keeper.me.0 seat.id view (one_more_redeemed c.self.inside.keeper.me.0) Spent in (
      kept.seated,
      c.into_seat-seat.ensures.0 ∙ of_share,
      c.into_seat-seat.ensures.3,
      omega (arith, kept.word),
      subst out_second out (subst keeper_first (sym kept.keeper) (redeem_keeps id seat.id issued redeemed)),
    )

pub load-word-requires : goal.load-word-requires
load-word-requires g c =
    let kept = c.self.invariant in
    let redeemed : ℕ = redeemed_by c.self.inside.keeper.me.0 in
    let issued : ℕ = redeemed + c.self.inside.total in
    let seat = c.join_seat.new.seat in
    let issued_is : issued_by c.self.inside.keeper.me.0 ≡ issued = ap issued_by kept.keeper in
    let me : (Keeper issued (redeemed + 1), []) ≡ seat.me = sym (c.join_seat.ensures.2 ∙ (λ k. (Keeper (issued_is k) (redeemed + 1), kept.empty k))) in
    let tells : (me : Me (Unit {0}) View) → Type 0 = λ me. Allows IsBalanced c.self.inside.table.shared.table_id.slots seat.id me 0 (λ n. n) (λ _ after. (after ≡ me) × (redeemed_by me.0 ≤ issued_by me.0)) in (
      c.join_seat.ensures.0 ∙ kept.seated,
      omega (arith, kept.word),
      subst tells me (look_tells c.self.inside.table.shared.table_id.slots seat.id issued (redeemed + 1)),
    )
