use Rattle.std.proofs.Common.{rules, arith, ◌≡◌, ◌<◌, ◌++◌, ◌∷◌, [], length, vec_capacity, Some, sym, ◌∙◌, ap, subst}
use Rattle.shared_objects.specs.Joining.{ArePutAway, IsHereOf}
use Rattle.shared_objects.proofs.leaving.JoinedSeats.{none_put_away, one_fits, one_listed, one_put_away, as_many, fits, fits_still}
use Rattle.shared_objects.proofs.row_lemmas.GrowingRows.{in_list, next_is, part_more}
use Rattle.shared_objects.proofs.closing.join_tasks.Goals as goal

pub joining-init : goal.joining-init
joining-init c =
    let room = c.requires.room.1 in (
      omega (arith, room),
      fits c.args.locks.now.trace (length c.args.tasks.items) c.args.trace.now c.requires.trace,
      (
        [],
        search rules,
        subst (λ closed. ArePutAway (length c.args.tasks.items) c.args.locks.now [] c.args.firsts.now closed c.args.trace.now) (sym c.requires.room.0)
            (none_put_away (length c.args.tasks.items) c.args.locks.now c.args.firsts.now (length c.args.tasks.items) c.args.trace.now c.requires.taken c.requires.firsts c.requires.trace),
      ),
    )

pub unwrap-requires : goal.unwrap-requires
unwrap-requires c =
    let part = c.joining.invariant.2 in
    let now : c.args.tasks.items ≡ part.0 ++ c.in-Some.slot ∷ c.next.new.self.rest.items = part.1 ∙ ap (λ l. part.0 ++ l) c.in-Some.ensures.steps.0 in
    let inside = in_list c.args.tasks.items part.0 c.next.new.self.rest.items c.in-Some.slot now in
    let many = (as_many (length c.args.tasks.items) c.args.locks.now part.0 c.joining.firsts c.joining.closed.items c.joining.trace part.2).1 in
    let room = c.joining.invariant.0 in
    let lt : length c.joining.closed.items < vec_capacity c.joining.closed = omega (arith, inside, many, room) in
    search (rules, lt)

pub keep_noted-requires : goal.keep_noted-requires
keep_noted-requires c =
    let part = c.joining.invariant.2 in
    let now : c.args.tasks.items ≡ part.0 ++ c.in-Some.slot ∷ c.next.new.self.rest.items = part.1 ∙ ap (λ l. part.0 ++ l) c.in-Some.ensures.steps.0 in
    let inside = in_list c.args.tasks.items part.0 c.next.new.self.rest.items c.in-Some.slot now in
    let slot : c.in-Some.slot ≡ Some c.in-Some-slot.ran = c.in-Some-slot.is in
    let here : IsHereOf c.args.locks.now (length part.0) (Some c.in-Some-slot.ran) =
    subst (IsHereOf c.args.locks.now (length part.0)) (next_is c.args.tasks.items part.0 c.next.new.self.rest.items c.in-Some.slot now c.in-Some.slot ∙ slot)
    (c.requires.here (length part.0) c.in-Some.slot inside) in
    record {
      listed = one_listed (length c.args.tasks.items) c.args.locks.now part.0 c.joining.firsts c.joining.closed.items c.joining.trace part.2
          c.in-Some-slot.ran c.join-task.result.1 c.join-task.ensures.holds here.0 c.join-task.ensures.noted;
      room = one_fits (length c.args.tasks.items) c.args.locks.now part.0 c.joining.firsts c.joining.closed.items c.joining.trace part.2
          (length c.args.tasks.items) c.joining.invariant.1 inside;
    }

pub joining-preserved : goal.joining-preserved
joining-preserved c =
    let pushed : c.push.new.self.items ≡ c.joining.closed.items ++ c.join-task.result.0 ∷ [] = search rules in
    let slot : c.in-Some.slot ≡ Some c.in-Some-slot.ran = c.in-Some-slot.is in (
      search rules,
      fits_still (length c.args.tasks.items) c.joining.trace c.join-task.result.1 c.keep_noted.new.trace c.keep_noted.ensures c.joining.invariant.1,
      part_more c.args.tasks.items c.joining.slot-iterator.rest.items c.next.new.self.rest.items c.in-Some.slot
          (λ done. ArePutAway (length c.args.tasks.items) c.args.locks.now done c.joining.firsts c.joining.closed.items c.joining.trace)
          (λ done. ArePutAway (length c.args.tasks.items) c.args.locks.now done c.join-task.new.firsts c.push.new.self.items c.keep_noted.new.trace)
          c.joining.invariant.2 c.in-Some.ensures.steps.0
          (λ done whole are.
          let here : IsHereOf c.args.locks.now (length done) (Some c.in-Some-slot.ran) =
          subst (IsHereOf c.args.locks.now (length done)) (next_is c.args.tasks.items done c.next.new.self.rest.items c.in-Some.slot whole c.in-Some.slot ∙ slot)
          (c.requires.here (length done) c.in-Some.slot (in_list c.args.tasks.items done c.next.new.self.rest.items c.in-Some.slot whole)) in
          subst (λ more. ArePutAway (length c.args.tasks.items) c.args.locks.now (done ++ more ∷ []) c.join-task.new.firsts c.push.new.self.items c.keep_noted.new.trace) (sym slot)
          (subst (λ closed. ArePutAway (length c.args.tasks.items) c.args.locks.now (done ++ Some c.in-Some-slot.ran ∷ []) c.join-task.new.firsts closed c.keep_noted.new.trace) (sym pushed)
          (one_put_away (length c.args.tasks.items) c.args.locks.now done c.joining.firsts c.joining.closed.items c.joining.trace are c.join-task.new.firsts c.in-Some-slot.ran
          c.join-task.result.0 c.join-task.result.1 c.keep_noted.new.trace c.join-task.ensures.holds here.0 here.1 c.join-task.ensures.away c.join-task.ensures.joined
          c.join-task.ensures.of c.join-task.ensures.noted c.keep_noted.ensures))),
    )
