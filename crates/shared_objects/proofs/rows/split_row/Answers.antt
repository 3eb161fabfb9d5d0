use Rattle.std.proofs.Common.{rules, arith, ◌≡◌, ◌++◌, ◌∷◌, [], sym, subst, set}
use Rattle.shared_objects.specs.Rows.{AreChanged, IsAt, CanSplit, IsSplit}
use Rattle.shared_objects.proofs.row_lemmas.GrowingRows.{was_abreast, was_so, changes_here, news_are, others_are}
use Rattle.shared_objects.proofs.rows.split_row.Goals as goal

pub split_one-seat-requires-clause-of : goal.split_one-seat-requires-clause-of
split_one-seat-requires-clause-of g c =
    let lens = c.requires.of.lens in let lt = c.splitting-test.true in
    was_abreast IsSplit c.args.locks.now c.args.firsts.now.items c.splitting.seats.items c.splitting.firsts.items c.splitting.invariant.2 c.splitting.at c.splitting.invariant.0
    (omega (arith, lt), omega (arith, lt, lens)) c.index-locks-at.result c.index-locks-at.is c.index_mut.result.now c.index_mut.ensures.value IsAt c.requires.of

pub split_one-seat-requires-clause-few : goal.split_one-seat-requires-clause-few
split_one-seat-requires-clause-few g c =
    let lens = c.requires.of.lens in let lt = c.splitting-test.true in
    was_so IsSplit c.args.locks.now c.args.firsts.now.items c.splitting.seats.items c.splitting.firsts.items c.splitting.invariant.2 c.splitting.at c.splitting.invariant.0
    (omega (arith, lt), omega (arith, lt, lens)) c.index-locks-at.result c.index-locks-at.is c.index_mut.result.now c.index_mut.ensures.value CanSplit c.requires.few

pub splitting-preserved : goal.splitting-preserved
splitting-preserved g c =
    let lens = c.requires.of.lens in let lt = c.splitting-test.true in
    let pushed : c.push.new.self.items ≡ c.splitting.seats.items ++ c.split_one-seat.result ∷ [] = search rules in (
      search rules,
      search rules,
      subst (λ seats. AreChanged IsSplit c.args.locks.now c.args.firsts.now.items seats (set c.splitting.firsts.items c.splitting.at c.split_one-seat.new.first)) (sym pushed)
          (changes_here IsSplit c.args.locks.now c.args.firsts.now.items c.splitting.seats.items c.splitting.firsts.items c.splitting.invariant.2 c.splitting.at c.splitting.invariant.0
          (omega (arith, lt), omega (arith, lt, lens)) c.index-locks-at.result c.index-locks-at.is c.index_mut.result.now c.index_mut.ensures.value c.split_one-seat.result c.split_one-seat.new.first c.split_one-seat.ensures),
    )

pub returns-clause-of : goal.returns-clause-of
returns-clause-of g c =
    news_are IsSplit c.args.locks.now c.args.firsts.now.items c.splitting.seats.items c.splitting.firsts.items c.splitting.invariant.2
    (c.requires.of.lens, search rules) IsAt (λ lock old other new is. is.at.0)

pub returns-clause-seats : goal.returns-clause-seats
returns-clause-seats g c =
    others_are IsSplit c.args.locks.now c.args.firsts.now.items c.splitting.seats.items c.splitting.firsts.items c.splitting.invariant.2
    (c.requires.of.lens, search rules) IsAt (λ lock old other new is. is.at.1)
