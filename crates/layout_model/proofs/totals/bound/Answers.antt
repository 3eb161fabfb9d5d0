use Rattle.std.proofs.Common.{◌<◌, length, get_or, arith}
use Rattle.std.proofs.lemmas.List.Elements.{Contains-get_or}
use Rattle.std.proofs.lemmas.List.Sums.{sum_by_more}
use Rattle.layout_model.specs.declared.write.Write.{Write}
use Rattle.layout_model.specs.NeedCounts.{elements, write_fragments}
use Rattle.layout_model.specs.Writes.{IsWrite}
use Rattle.layout_model.proofs.WriteSizes.{elements_small, fragments_le_elements, no_write}
use Rattle.layout_model.proofs.totals.bound.Goals as goal

-- each write needs little
pub overflow_add-e : goal.overflow_add-e
overflow_add-e c =
    let write : Write = get_or c.args.writes.now c.loop-number.number no_write in
    let served : IsWrite c.args.stack.now write = c.requires.served write (Contains-get_or c.args.writes.now c.loop-number.number no_write c.loop-number-test.true) in
    omega (arith, c.need-needs.ensures.elements, elements_small c.args.stack.now c.requires.stack write served)

-- and has no more fragments than it needs elements
pub overflow_add-g : goal.overflow_add-g
overflow_add-g c =
    let write : Write = get_or c.args.writes.now c.loop-number.number no_write in
    let served : IsWrite c.args.stack.now write = c.requires.served write (Contains-get_or c.args.writes.now c.loop-number.number no_write c.loop-number-test.true) in
    omega (
      arith,
      c.need-needs.ensures.elements,
      c.need-needs.ensures.fragments,
      fragments_le_elements c.args.stack.now c.requires.stack write served,
    )

pub loop-number-preserved : goal.loop-number-preserved
loop-number-preserved c =
    let writes = c.args.writes.now in
    let number = c.loop-number.number in
    let inside : number < length writes = c.loop-number-test.true in
    let write : Write = get_or writes number no_write in
    let served : IsWrite c.args.stack.now write = c.requires.served write (Contains-get_or writes number no_write inside) in
    record {
      elements = omega (
        arith,
        c.need-needs.ensures.elements,
        c.loop-number.invariant.elements,
        sum_by_more (λ (w : Write). elements c.args.stack.now w) writes number no_write inside,
      );
      allowed = omega arith;
      fragments = omega (
        arith,
        c.need-needs.ensures.fragments,
        c.loop-number.invariant.fragments,
        sum_by_more (λ (w : Write). write_fragments c.args.stack.now w) writes number no_write inside,
      );
      fewer = omega (
        arith,
        c.need-needs.ensures.elements,
        c.need-needs.ensures.fragments,
        fragments_le_elements c.args.stack.now c.requires.stack write served,
      );
      counted = omega (arith, c.need-needs.ensures.elements, c.loop-number.invariant.counted);
    }
