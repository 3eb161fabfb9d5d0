use Rattle.std.proofs.Common.{subst, sym}
use Rattle.std.proofs.Math.Logic.{∥∥₁_elim, ∥∥₁_prop}
use Rattle.std.proofs.lemmas.Grind.{merely}
use Rattle.decl_text.specs.Known.{Declarations}
use Rattle.decl_text.specs.Accepting.{MeansStack}
use Rattle.stack_check.proofs.finish.finish.Goals as goal

pub invariant_of-result : goal.invariant_of-result
invariant_of-result c = record {
  is_stack = c.in_ok-stack.ensures.1;
  declared = ∥∥₁_elim c.requires ∥∥₁_prop (λ by.
      merely (by.0, by.1, by.2, subst (λ (k : Declarations). MeansStack k c.in_ok-stack.stack c.in_ok-stack.scripts.items) (sym by.3) c.in_ok-stack.ensures.0));
}
