use Rattle.std.proofs.Common.{rules, ◌++◌, option_to_list, ap, ◌∙◌}
use Rattle.run_merge.proofs.rows.add_last.Goals as goal

-- src/rows.rt
pub returns-clause-moved : goal.returns-clause-moved
returns-clause-moved g c = record {
  last = (c.in-Some.field-0-0, c.in-Some.shut);
  was = c.pop.ensures.items ∙ ap (λ r. c.pop.new.self.items ++ option_to_list r) c.in-Some.is;
  added = search rules;
}
