use Rattle.std.proofs.Common.{◌≡◌, ◌<◌, length, None, arith, refl, sym, ap, subst}
use Rattle.std.specs.Prelude.{slice_index_or, slice_set}
use Rattle.std.proofs.lemmas.List.{length-set}
use Rattle.shared_objects.proofs.sharing.HandedOut.{hands_out, slot_holds}
use Rattle.shared_objects.proofs.shared.Shared.take_task.Goals as goal

-- src/shared.rt
pub returns-clause-holds : goal.returns-clause-holds
returns-clause-holds c =
    let old = c.args.self.now in
    let more : old.next < length old.tasks.items = omega (arith, c.requires.next, c.len.ensures, c.if-at-len.false) in
    let emptied = ap (slice_set old.tasks.items old.next) c.take.ensures.after in
    slot_holds old c.requires _ refl old.next None emptied (omega arith) (omega arith) (omega (arith, more)) (λ first. tt)

pub returns-clause-task : goal.returns-clause-task
returns-clause-task c =
    let old = c.args.self.now in
    let more : old.next < length old.tasks.items = omega (arith, c.requires.next, c.len.ensures, c.if-at-len.false) in
    let found = subst (λ slot. slice_index_or old.tasks.items old.next slot ≡ slot) (sym c.take.ensures.value) (sym c.index_mut.ensures.value) in
    hands_out old c.requires _ c.take.result more found refl (ap (slice_set old.tasks.items old.next) c.take.ensures.after)
    (record { told = refl; locks = refl; many = length-set old.tasks.items old.next c.take.new.self })
