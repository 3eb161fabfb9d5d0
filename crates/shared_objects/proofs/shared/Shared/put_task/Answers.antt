use Rattle.std.proofs.Common.{◌≡◌, ◌<◌, Some, arith, refl, sym, ap, subst}
use Rattle.std.specs.Prelude.{slice_index_or, slice_set}
use Rattle.shared_objects.specs.Rans.{ran_key}
use Rattle.shared_objects.specs.Shared.{ran_key_at}
use Rattle.shared_objects.proofs.sharing.HandedOut.{slot_holds}
use Rattle.shared_objects.proofs.shared.Shared.put_task.Goals as goal

-- src/shared.rt
pub returns-clause-holds : goal.returns-clause-holds
returns-clause-holds c =
    let old = c.args.self.now in
    let ran = c.args.ran in
    let place = c.number-at.result in
    slot_holds old c.requires.holds _ refl place (Some ran) (ap (slice_set old.tasks.items place) c.replace.ensures.after)
    (omega (arith, c.number-at.ensures, c.requires.out.taken)) (omega arith) c.requires.holds.next
    (λ first. subst (λ n. ran_key ran ≡ ran_key_at old.locks n (slice_index_or old.told.value.tasks.items n first)) (sym c.number-at.ensures) (c.requires.out.own first))
