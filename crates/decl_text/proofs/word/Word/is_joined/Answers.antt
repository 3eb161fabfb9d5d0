use Rattle.std.proofs.Common.{arith}
use Rattle.std.proofs.lemmas.Grind.{common_steps}
use Rattle.decl_text.proofs.WordLemmas.{bytes_eq_at}
use Rattle.decl_text.proofs.word.Word.is_joined.Goals as goal

pub returns-then-eq : goal.returns-then-eq
returns-then-eq c = grind (arith, common_steps, bytes_eq_at c.args.front.now c.args.back.now c.args.self.now c.split_at.result.0.now c.split_at.result.1.now)

pub returns-else-eq : goal.returns-else-eq
returns-else-eq c = grind (arith, common_steps, bytes_eq_at c.args.front.now c.args.back.now c.args.self.now c.split_at.result.0.now c.split_at.result.1.now)
