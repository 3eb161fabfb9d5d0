use Rattle.std.proofs.Common.{List, ap, arith}
use Rattle.std.specs.Prelude.{sum_by}
use Rattle.std.proofs.lemmas.List.Sums.{sum_by_more_le}
use Rattle.fail_script.specs.Script.{Answers, entries_of}
use Rattle.stack_base.specs.declared.ids.PoolId.{PoolId}
use Rattle.decl_text.proofs.FewEntries.{entries_fit}
use Rattle.work_text.proofs.all_entries.Goals as goal

pub overflow_add-entries : goal.overflow_add-entries
overflow_add-entries c =
    let accepted = c.args.accepted.now in
    let scripts = c.deref-script-items.result.now in
    let count = λ (script : PoolId × Answers). entries_of script.1 in
    omega (
      arith,
      c.loop-script.invariant,
      c.entries-entries.ensures,
      ap (λ (script : PoolId × Answers). entries_of script.1) c.loop-script-item.is,
      sum_by_more_le count scripts c.loop-script.script-index c.loop-script-item.result c.loop-script-test.true,
      ap (λ (ss : List (PoolId × Answers)). sum_by count ss) c.deref-script-items.ensures.value,
      entries_fit accepted.stack accepted.scripts.items accepted.is_stack accepted.declared,
    )
