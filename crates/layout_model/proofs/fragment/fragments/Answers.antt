use Rattle.std.proofs.Common.{rules, ◌++◌, ◌∙◌, subst, ap, arith}
use Rattle.std.specs.List.Sorted.{IsPermutation}
use Rattle.std.proofs.lemmas.List.Sorted.{IsNonDecreasingBy-from_sort_by_key}
use Rattle.stack_base.specs.Tree.{tree}
use Rattle.layout_model.specs.Fragments.{fragment_order}
use Rattle.layout_model.specs.Plan.{frags}
use Rattle.layout_model.proofs.Stacks.{element, tree_fragments}
use Rattle.layout_model.proofs.fragment.fragments.Goals as goal

-- no device is larger
pub cut-requires-clause-fits : goal.cut-requires-clause-fits
cut-requires-clause-fits c =
    let at = element c.args.stack.now.devices.items c.args.write.now.dev.0 c.requires.write.known in
    omega (arith, c.requires.write.within, (c.requires.stack.each c.args.write.now.dev.0 at.0 at.1).small)

pub returns : goal.returns
returns c =
    let write = c.args.write.now in
    let gathered = c.in_ok-cut.ensures ∙ ap (λ before. before ++ frags (tree c.args.stack.now write.dev.0) c.args.number 0 write.start write.count) c.new-found.ensures.items in
    tree_fragments c.args.stack.now c.requires.stack write.dev.0 c.requires.write.known c.args.number write.start write.count c.requires.write.some
    c.sort_by_key.new.self.items
    (subst (λ xs. IsPermutation xs c.sort_by_key.new.self.items) gathered c.in_ok-sort_by_key.ensures.permutation)
    (IsNonDecreasingBy-from_sort_by_key fragment_order _ c.in_ok-sort_by_key.ensures.sorted (λ a r q k. search rules))
