use Rattle.std.proofs.Common.{◌≡◌, ℕ, ◌+◌, ◌≤◌, [], arith, subst, sym, ap, ◌∙◌}
use Rattle.atomic_table.specs.Table.{Me, Joins, Allows}
use Rattle.elem_ledger.specs.declared.balance.View.{View}
use Rattle.elem_ledger.specs.declared.balance.View.TheVariants.{Keeper, Spent}
use Rattle.elem_ledger.specs.Balance.{IsBalanced, redeemed_by, issued_by}
use Rattle.elem_ledger.proofs.Steps.{merge_keeps, look_tells}
use Rattle.elem_ledger.proofs.ledger.Ledger.clash.Goals as goal

pub join_seat-requires : goal.join_seat-requires
join_seat-requires c =
    let mine = c.self.invariant in
    let theirs = c.other.invariant in
    let own : View = c.self.inside.keeper.me.0 in
    let id : ℕ = c.self.inside.keeper.id in
    let other : ℕ = c.other.inside.keeper.id in
    let one_table = ap (λ l. l.id.table) c.other.view_is ∙ sym c.requires ∙ sym (ap (λ l. l.id.table) c.self.view_is) in
    let first : (view : View) → Type 0 = λ view. Joins IsBalanced id view other c.other.inside.keeper.me.0 (Keeper 0 1) Spent in
    let second : (view : View) → Type 0 = λ view. Joins IsBalanced id (Keeper (redeemed_by own + c.self.inside.total) (redeemed_by own)) other view (Keeper 0 1) Spent in (
      mine.seated,
      theirs.seated ∙ one_table,
      theirs.empty,
      omega (arith, mine.word),
      subst first (sym mine.keeper) (subst second (sym theirs.keeper) (merge_keeps id other _ _ _ _)),
    )

pub load-word-requires : goal.load-word-requires
load-word-requires c =
    let seat = c.join_seat.new.seat in
    let slots = c.self.inside.table.shared.table_id.slots in
    let me : (Keeper 0 1, []) ≡ seat.me = sym (c.join_seat.ensures.2 ∙ (λ k. (Keeper 0 1, c.self.invariant.empty k))) in
    let tells : (me : Me (Unit {0}) View) → Type 0 = λ me. Allows IsBalanced slots seat.id me 0 (λ n. n) (λ _ after. (after ≡ me) × (redeemed_by me.0 ≤ issued_by me.0)) in (
      c.join_seat.ensures.0 ∙ c.self.invariant.seated,
      omega (arith, c.self.invariant.word),
      subst tells me (look_tells slots seat.id 0 1),
    )
