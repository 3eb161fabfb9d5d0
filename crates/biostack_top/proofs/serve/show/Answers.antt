use Rattle.std.proofs.Common.{ℕ, List, subst}
use Rattle.std.proofs.lemmas.List.{append-nil}
use Rattle.outside_io.specs.Saying.{Says}
use Rattle.outside_io.proofs.SaysLemmas.{finished}
use Rattle.biostack_top.proofs.serve.show.Goals as goal

pub returns : goal.returns
returns g c =
    let said = subst
    (λ (text : List ℕ). Says g.K.Sink c.args.out.now c.new-pen.result c.put.new.sink c.put.new.self text)
    (append-nil c.args.text.now) c.put.ensures in
    finished c.finish.result c.new-pen.ensures said c.finish.ensures.says c.finish.ensures.handed c.finish.ensures.failed
