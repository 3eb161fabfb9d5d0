-- What is told by the next turn stands behind what was told before it.
use Rattle.std.proofs.Common.{◌≡◌, ◌++◌, take, drop, subst, arith}
use Rattle.outside_io.proofs.SaysLemmas.{says_then, says_kept, says_next, says_silence}
use Rattle.outside_io.proofs.pen.Pen.say.Goals as goal

pub saying-init : goal.saying-init
saying-init g c = record { within = omega arith; said = says_silence g.K.Sink c.args.sink.now c.args.self.now }

pub saying-preserved : goal.saying-preserved
saying-preserved g c =
    let n = c.fill-at.result in
    let rest = drop c.saying.at c.args.text.now in
    let kept = says_kept g.K.Sink c.make_room.new.sink c.make_room.new.self c.fill-at.new.self (take n rest) c.fill-at.ensures.failed
    (subst (λ xs. c.fill-at.new.self.pending ≡ c.make_room.new.self.pending ++ take n xs) c.split_at.ensures.back c.fill-at.ensures.pending) in
    record {
      within = omega (arith, c.fill-at.ensures.count);
      said = says_next c.args.text.now c.saying.at n c.saying.invariant.said (says_then c.make_room.ensures.says kept);
    }
