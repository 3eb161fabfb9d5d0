-- The words that both disks keep, or one sector of which one disk keeps none.
use Rattle.std.proofs.Common.{length, ◌∙◌, sym, arith}
use Rattle.std.proofs.lemmas.Bool.{eqb-false}
use Rattle.image_lanes.proofs.SectorLemmas.{byte_is}
use Rattle.mirror_scrub.specs.Stretches.{differ_at}
use Rattle.mirror_scrub.proofs.StretchLemmas.{count_one, words_count}
use Rattle.mirror_scrub.proofs.stretch.Stretch.count_some.Goals as goal

pub returns-clause-some : goal.returns-clause-some
returns-clause-some c =
    let words = c.words.result.0.now in
    omega (arith, eqb-false (length words) 0 (sym c.is_empty.ensures ∙ c.if-is_empty.false), c.words.ensures.whole)

pub returns-then-is_empty-clause-count : goal.returns-then-is_empty-clause-count
returns-then-is_empty-clause-count c =
    c.from.ensures ∙ (byte_is c.differ_at.result _ c.differ_at.ensures).0 ∙ sym (count_one (differ_at c.args.self.now) c.args.place)

pub returns-clause-count : goal.returns-clause-count
returns-clause-count c =
    c.count_unlike.ensures ∙ words_count c.args.self.now c.args.place c.words.result.0.now c.words.result.1.now c.words.ensures
