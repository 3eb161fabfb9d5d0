use Rattle.std.proofs.Common.{arith, ◌≡◌, ◌+◌, ◌++◌, ◌∷◌, [], length, ap, ◌∙◌}
use Rattle.std.proofs.lemmas.List.{length-append}
use Rattle.shared_objects.specs.Rows.{AreChanged, IsAt, IsOther, IsJoined}
use Rattle.shared_objects.proofs.row_lemmas.GrowingRows.{was_abreast, changes_here, news_are, next_so, next_abreast, in_rows, part_more, part_all}
use Rattle.shared_objects.proofs.rows.join_row.Goals as goal

pub join_one-requires-clause-of : goal.join_one-requires-clause-of
join_one-requires-clause-of g c =
    let part = c.joining.invariant in
    let rest = c.in-Some.entry ∷ c.next.new.self.rest.items in
    let now : c.args.seats.items ≡ part.0 ++ rest = part.1 ∙ ap (λ l. part.0 ++ l) c.in-Some.ensures.steps.0 in
    let lies = in_rows c.args.seats.items part.0 c.next.new.self.rest.items c.in-Some.entry now c.args.locks.now c.args.firsts.now.items c.joining.at part.2.0 c.requires.of.1.lens c.requires.of.0.lens in (
      was_abreast IsJoined c.args.locks.now c.args.firsts.now.items part.0 c.joining.firsts.items part.2.1 c.joining.at part.2.0 lies
          c.index-locks-at.result c.index-locks-at.is c.index_mut.result.now c.index_mut.ensures.value IsAt c.requires.of.0,
      next_abreast c.args.seats.items part.0 c.next.new.self.rest.items c.in-Some.entry now IsAt c.args.locks.now c.joining.at c.index-locks-at.result part.2.0 c.requires.of.1 c.index-locks-at.is,
    )

pub join_one-requires-clause-other : goal.join_one-requires-clause-other
join_one-requires-clause-other g c =
    let part = c.joining.invariant in
    let rest = c.in-Some.entry ∷ c.next.new.self.rest.items in
    let now : c.args.seats.items ≡ part.0 ++ rest = part.1 ∙ ap (λ l. part.0 ++ l) c.in-Some.ensures.steps.0 in
    next_so c.args.seats.items part.0 c.next.new.self.rest.items c.in-Some.entry now IsOther c.requires.others

pub joining-preserved : goal.joining-preserved
joining-preserved g c =
    part_more c.args.seats.items c.joining.entry-iterator.rest.items c.next.new.self.rest.items c.in-Some.entry
    (λ done. (length done ≡ c.joining.at) × AreChanged IsJoined c.args.locks.now c.args.firsts.now.items done c.joining.firsts.items)
    (λ done. (length done ≡ c.joining.at + 1) × AreChanged IsJoined c.args.locks.now c.args.firsts.now.items done _)
    c.joining.invariant c.in-Some.ensures.steps.0
    (λ done whole so. let lies = in_rows c.args.seats.items done c.next.new.self.rest.items c.in-Some.entry whole c.args.locks.now c.args.firsts.now.items c.joining.at so.0 c.requires.of.1.lens c.requires.of.0.lens in (
      (let long = length-append done (c.in-Some.entry ∷ []) in let is = so.0 in omega (arith, long, is)),
      changes_here IsJoined c.args.locks.now c.args.firsts.now.items done c.joining.firsts.items so.1 c.joining.at so.0 lies
          c.index-locks-at.result c.index-locks-at.is c.index_mut.result.now c.index_mut.ensures.value c.in-Some.entry c.join_one.new.first c.join_one.ensures,
    ))

pub returns-clause-joined : goal.returns-clause-joined
returns-clause-joined g c =
    (part_all c.args.seats.items c.joining.entry-iterator.rest.items
    (λ done. (length done ≡ c.joining.at) × AreChanged IsJoined c.args.locks.now c.args.firsts.now.items done c.joining.firsts.items) c.joining.invariant
    (let none = c.in-None.ensures.steps.0 in let long = c.joining.entry-iterator.rest.ok.0 in omega (arith, none, long))).1

pub returns-clause-of : goal.returns-clause-of
returns-clause-of g c =
    news_are IsJoined c.args.locks.now c.args.firsts.now.items c.args.seats.items c.joining.firsts.items
    (part_all c.args.seats.items c.joining.entry-iterator.rest.items
    (λ done. (length done ≡ c.joining.at) × AreChanged IsJoined c.args.locks.now c.args.firsts.now.items done c.joining.firsts.items) c.joining.invariant
    (let none = c.in-None.ensures.steps.0 in let long = c.joining.entry-iterator.rest.ok.0 in omega (arith, none, long))).1
    (c.requires.of.0.lens, c.requires.of.1.lens) IsAt (λ lock old other new is. is.at)
