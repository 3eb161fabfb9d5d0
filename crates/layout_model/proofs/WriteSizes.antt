-- What a write needs, by the bounds on its run.
use Rattle.std.proofs.Common.{◌+◌, ◌≤◌, ◌/◌, ltb, arith}
use Rattle.stack_base.proofs.NumberLemmas.{one_or_none}
use Rattle.stack_base.specs.declared.stack.Stack.{Stack}
use Rattle.stack_base.specs.Stack.{IsStack}
use Rattle.stack_base.specs.Tree.{tree}
use Rattle.layout_model.specs.declared.write.Write.{Write}
use Rattle.layout_model.specs.NeedCounts.{elements, write_fragments}
use Rattle.layout_model.specs.Writes.{IsWrite}
use Rattle.layout_model.proofs.AtMost.{fragments_le_needed}
use Rattle.layout_model.proofs.SmallCounts.{needed_small}
use Rattle.layout_model.proofs.Stacks.{tree_sound}

-- what stands for a write where there is none
abbrev pub no_write : Write
no_write = record { task = 0; dev = record { 0 = 0 }; start = 0; count = 0; tag = 0 }

module _ (stack : Stack) (good : IsStack stack) (write : Write) (served : IsWrite stack write) where
  -- a write needs its own bio and a vector besides what its run needs
  pub elements_small : elements stack write ≤ 75497474
  elements_small =
      omega (arith, one_or_none (ltb 4 ((write.count + 7) / 8)), needed_small stack good write.dev.0 write.start write.count served.known served.within)

  -- it has no more fragments than it needs elements
  pub fragments_le_elements : write_fragments stack write ≤ elements stack write
  fragments_le_elements =
      omega (arith, fragments_le_needed (tree stack write.dev.0) write.start write.count (tree_sound stack good write.dev.0 served.known) served.some)
