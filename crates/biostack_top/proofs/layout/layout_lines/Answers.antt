-- The fragments of one more write stand behind those of the writes before it.
use Rattle.std.proofs.Common.{◌≡◌, ◌+◌, ◌++◌, [], ◌∷◌, take, get_or, length, subst, sym, arith}
use Rattle.std.proofs.lemmas.List.{take_more, take_all, length-take-le}
use Rattle.std.proofs.lemmas.List.Elements.{Contains-get_or}
use Rattle.stack_base.specs.Tree.{tree}
use Rattle.layout_model.specs.declared.write.Write.{Write}
use Rattle.layout_model.specs.Fragments.{AreFragments}
use Rattle.layout_model.proofs.WriteSizes.{no_write}
use Rattle.biostack_top.specs.LayoutText.{AreLaid}
use Rattle.biostack_top.proofs.LayoutLemmas.{laid_more, laid_known}
use Rattle.biostack_top.proofs.layout.layout_lines.Goals as goal

pub add_fragments-requires-clause-write : goal.add_fragments-requires-clause-write
add_fragments-requires-clause-write c = c.requires.served _ (Contains-get_or c.args.writes.now c.laying.number no_write c.laying-test.true)

pub laying-preserved : goal.laying-preserved
laying-preserved c =
    let stack = c.args.stack.now in
    let writes = c.args.writes.now in
    let number = c.laying.number in
    let before = take number writes in
    let write : Write = get_or writes number no_write in
    let added = c.in_ok-add_fragments.ensures in
    let place : number ≡ 0 + length before = omega (arith, length-take-le number writes (omega arith)) in
    let own = subst (λ n. AreFragments (tree stack write.dev.0) n write.start write.count added.0) place added.1 in
    subst (λ ws. AreLaid stack 0 ws c.add_fragments.new.all.items) (sym (take_more writes number no_write c.laying-test.true))
    (subst (AreLaid stack 0 (before ++ write ∷ [])) (sym added.2) (laid_more stack 0 before write c.laying.all.items added.0 c.laying.invariant own))

pub returns-clause-known : goal.returns-clause-known
returns-clause-known c =
    laid_known c.args.stack.now c.requires.stack 0 c.args.writes.now c.requires.served c.laying.all.items
    (rw (take_all c.laying.number c.args.writes.now (omega arith)) at c.laying.invariant)
