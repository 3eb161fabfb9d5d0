use Rattle.std.proofs.Common.{◌≡◌, ◌+◌, ◌∙◌, cond, ap, length, arith}
use Rattle.work_text.specs.Marks.{mark_in}
use Rattle.work_text.proofs.MarkLemmas.{inside}
use Rattle.work_text.proofs.MarkPages.{length_marks, set_more, marked_run}
use Rattle.work_text.proofs.marks.Marks.set.Goals as goal

pub overflow_add-at-end : goal.overflow_add-at-end
overflow_add-at-end c =
    omega (arith, c.requires, c.self.invariant.small, ap length c.self.view_is, length_marks c.self.inside.count c.self.inside.pages.items)

pub set_in-requires : goal.set_in-requires
set_in-requires c =
    omega (
      arith,
      c.requires,
      c.setting-test.true,
      c.self.invariant.there,
      c.setting.invariant.long,
      ap length c.self.view_is,
      length_marks c.self.inside.count c.self.inside.pages.items,
    )

pub setting-preserved : goal.setting-preserved
setting-preserved c = record {
  long = c.set_in.ensures.long ∙ c.setting.invariant.long;
  marked = set_more c.args.start c.setting.at c.args.mark (mark_in c.self.inside.pages.items) (mark_in c.setting.pages.items) (mark_in c.set_in.new.pages.items)
      c.setting.auto.at c.setting.invariant.marked c.set_in.ensures.set;
}

pub returns-clause-marked : goal.returns-clause-marked
returns-clause-marked c =
    let end : c.setting.at ≡ c.args.start + c.args.count = omega (arith, c.setting-test.false, c.setting.auto.at-end) in
    marked_run c.self.inside.count c.self.inside.pages.items c.setting.pages.items c.args.self.now c.args.start (c.args.start + c.args.count) c.args.mark
    c.self.view_is (omega (arith, c.requires, ap length c.self.view_is, length_marks c.self.inside.count c.self.inside.pages.items))
    (λ at. c.setting.invariant.marked at ∙ ap (λ e. cond (inside c.args.start e at) c.args.mark (mark_in c.self.inside.pages.items at)) end)
