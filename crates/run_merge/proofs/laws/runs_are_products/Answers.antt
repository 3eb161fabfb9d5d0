use Rattle.run_merge.proofs.products.RunIsProduct.{runs_are_products}
use Rattle.run_merge.proofs.laws.runs_are_products.Goals as goal

-- src/laws.rt
pub returns : goal.returns
returns c = runs_are_products
