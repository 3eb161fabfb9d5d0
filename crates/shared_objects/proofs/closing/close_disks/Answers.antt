use Rattle.std.proofs.Common.{rules, arith, ◌≡◌, ◌<◌, ◌++◌, ◌∷◌, [], length, vec_capacity}
use Rattle.shared_objects.specs.Rows.{IsAt, CanClose}
use Rattle.shared_objects.proofs.row_lemmas.PairedRows.{none_taken, pair_abreast, other_so, has_room, one_taken, all_taken}
use Rattle.shared_objects.proofs.closing.close_disks.Goals as goal

pub closing-init : goal.closing-init
closing-init c = (
  omega arith,
  none_taken _ c.args.locks.items c.args.firsts.items c.args.shut.now.items c.into_iter-lock-iterator.result.rest.items c.into_iter-rest.result.rest.items (search rules) (search rules),
)

pub close_one-left-requires-clause-of : goal.close_one-left-requires-clause-of
close_one-left-requires-clause-of c =
    pair_abreast _ c.args.locks.items c.args.firsts.items c.args.shut.now.items c.closing.lock-iterator.rest.items c.closing.rest.rest.items c.closing.shut.items c.closing.invariant.1
    c.next.new.self.rest.items c.next-in-closing.new.self.rest.items c.in-Some.lock c.in-Some-next.first c.in-Some.ensures.steps.0 (search rules) IsAt c.requires.of

pub close_one-left-requires-clause-whole : goal.close_one-left-requires-clause-whole
close_one-left-requires-clause-whole c =
    other_so _ c.args.locks.items c.args.firsts.items c.args.shut.now.items c.closing.lock-iterator.rest.items c.closing.rest.rest.items c.closing.shut.items c.closing.invariant.1
    c.next.new.self.rest.items c.next-in-closing.new.self.rest.items c.in-Some.lock c.in-Some-next.first c.in-Some.ensures.steps.0 (search rules) CanClose c.requires.whole

pub unwrap-requires : goal.unwrap-requires
unwrap-requires c =
    let room = c.requires.room in let more = c.closing.invariant.0 in
    let lt : length c.closing.shut.items < vec_capacity c.closing.shut =
    has_room _ c.args.locks.items c.args.firsts.items c.args.shut.now.items c.closing.lock-iterator.rest.items c.closing.rest.rest.items c.closing.shut.items c.closing.invariant.1
    c.next.new.self.rest.items c.next-in-closing.new.self.rest.items c.in-Some.lock c.in-Some-next.first c.in-Some.ensures.steps.0 (search rules) (vec_capacity c.closing.shut) (omega (arith, room, more)) in
    search (rules, lt)

pub closing-preserved : goal.closing-preserved
closing-preserved c =
    let pushed : c.push.new.self.items ≡ c.closing.shut.items ++ c.close_one-left.result.1 ∷ [] = search rules in (
      search rules,
      one_taken _ c.args.locks.items c.args.firsts.items c.args.shut.now.items c.closing.lock-iterator.rest.items c.closing.rest.rest.items c.closing.shut.items c.closing.invariant.1
          c.next.new.self.rest.items c.next-in-closing.new.self.rest.items c.in-Some.lock c.in-Some-next.first c.in-Some.ensures.steps.0 (search rules) c.close_one-left.result.1 c.push.new.self.items pushed c.close_one-left.ensures.1,
    )

pub returns : goal.returns
returns c =
    all_taken _ c.args.locks.items c.args.firsts.items c.args.shut.now.items c.closing.lock-iterator.rest.items c.closing.rest.rest.items c.closing.shut.items c.closing.invariant.1
    (let none = c.in-None.ensures.steps.0 in let long = c.closing.lock-iterator.rest.ok.0 in omega (arith, none, long)) c.requires.of.lens
