use Rattle.std.proofs.Common.{◌≡◌, sym, ◌∙◌, ap, subst}
use mathlib.Core.Option.{some-injective}
use lib.ListN.{get_elem?}
use Rattle.seat_lock.specs.declared.view.Rank.TheVariants.{First}
use Rattle.seat_lock.specs.History.{HistoryLeaves}
use Rattle.seat_lock.specs.Seats.{own}
use Rattle.seat_lock.proofs.Closing.{ends}
use Rattle.seat_lock.proofs.lock.SeatLock.close.Goals as goal

pub returns-clause-thing : goal.returns-clause-thing
returns-clause-thing g c =
    let i = c.into_inner-inner.ensures in
    let t = g.T.Thing in
    let f = c.close_with-closed.ensures.values.2 in
    let e = ends t.plain t.mark t.answers c.self.inside.table.shared.key f.0 _ c.into_inner-inner.result.me.0 (subst (λ v. v.rank ≡ First v.joined) (sym i.1) c.requires.whole) i.2.1 f.1.0 f.1.1 in
    let same = some-injective _ _ (sym (f.4 0 e.1.0 (ap (λ hs. get_elem? hs 0) e.1.1)) ∙ c.take-thing.ensures.value) in
    subst (λ l. HistoryLeaves t.plain t.mark t.answers l.key.value c.args.seat.known.seen c.take-thing.result) c.self.view_is
    (subst (λ v. HistoryLeaves t.plain t.mark t.answers c.self.inside.table.shared.key.value v.seen c.take-thing.result) i.1
    (subst (λ k. HistoryLeaves t.plain t.mark t.answers c.self.inside.table.shared.key.value c.into_inner-inner.result.me.0.known.seen k) same e.1.2))

pub returns-clause-all : goal.returns-clause-all
returns-clause-all g c =
    let i = c.into_inner-inner.ensures in
    let t = g.T.Thing in
    let f = c.close_with-closed.ensures.values.2 in
    subst (λ v. own v ≡ v.seen) i.1 (ends t.plain t.mark t.answers c.self.inside.table.shared.key f.0 _ c.into_inner-inner.result.me.0 (subst (λ v. v.rank ≡ First v.joined) (sym i.1) c.requires.whole) i.2.1 f.1.0 f.1.1).0
