use Rattle.std.proofs.Common.{sym, ◌∙◌, ap, subst, refl}
use Rattle.seat_lock.proofs.Histories.{leads_snoc}
use Rattle.seat_lock.proofs.Keeping.{now_is, only_it, served}
use Rattle.seat_lock.proofs.lock.SeatLock.serve_in_turn.Goals as goal

pub slot_mut-kept-requires : goal.slot_mut-kept-requires
slot_mut-kept-requires g c =
    let h = c.requires.turn in
    (c.requires.of ∙ sym (ap (λ x. x.table) c.self.view_is), (h.1, rw h.3 refl))

pub pass_on-requires-clause-turn : goal.pass_on-requires-clause-turn
pass_on-requires-clause-turn g c =
    let h = c.requires.turn in
    let t = g.T.Thing in
    let left = served t.plain t.mark t.answers c.args.self.now.key.value c.args.inner.now.me.0.known.seen c.args.inner.now.me.0.known.number h.1 c.slot_mut-kept.result.now c.serve-reply.new.self _ _
    (now_is _ h.1 _ h.3 c.slot_mut-kept.ensures.value) h.5 c.serve-reply.ensures.step c.serve-reply.ensures.mark in
    (h.0, c.serve-reply.new.self, h.2, only_it _ h.1 _ h.3, h.6, rw (c.of-asked.ensures, c.of-told.ensures) left)

pub returns-clause-run : goal.returns-clause-run
returns-clause-run g c =
    let h = c.requires.turn in
    let t = g.T.Thing in
    let same = now_is _ h.1 c.slot_mut-kept.result.now h.3 c.slot_mut-kept.ensures.value in
    (t.plain c.serve-reply.new.self, leads_snoc t.answers _ _ _ _ _ h.5.0 (rw (sym same) c.serve-reply.ensures.step))

pub returns-clause-owed : goal.returns-clause-owed
returns-clause-owed g c =
    let h = c.requires.turn in
    let t = g.T.Thing in
    let same = now_is _ h.1 c.slot_mut-kept.result.now h.3 c.slot_mut-kept.ensures.value in
    subst (λ m. t.owes m c.args.request c.serve-reply.result) (ap t.mark same ∙ h.5.1) c.serve-reply.ensures.owed
