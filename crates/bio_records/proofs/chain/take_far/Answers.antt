-- What was moved off the front, and put back, stands before the element that was taken out.
use Rattle.std.proofs.Common.{◌++◌, length, reverse, ◌∙◌, ap, arith}
use Rattle.std.proofs.lemmas.List.{length-reverse, length-append}
use Rattle.bio_records.specs.Items.{items, item_of}
use Rattle.bio_records.proofs.Places.{TakenOut, taken_out}
use Rattle.bio_records.proofs.chain.take_far.Given
use Rattle.bio_records.proofs.chain.take_far.Goals as goal

out : (g : Given.Over) (c : goal.After-put g)
    → TakenOut (items c.args.front.now ++ reverse (items c.args.back.now)) (items c.pass-none.new.passed) (item_of c.unwrap-element.result)
    (items c.detach.new.link) (reverse (items c.bring_round.new.back)) c.args.index
out g c =
    taken_out (items c.args.front.now) (reverse (items c.args.back.now)) (items c.pass-lacking.new.passed) (items c.pass-lacking.new.from)
    (items c.bring_round.new.front) (reverse (items c.bring_round.new.back)) (items c.pass-none.new.passed) (items c.pass-none.new.from)
    (items c.detach.new.link) (item_of c.unwrap-element.result) c.args.index c.pass-lacking.result c.pass-none.result
    c.pass-lacking.ensures.same c.bring_round.ensures.same c.pass-none.ensures.same (rw c.unwrap-element.ensures at c.detach.ensures).0
    (omega (arith, c.pass-lacking.ensures.counted)) c.pass-none.ensures.counted c.pass-none.ensures.lacked

pub returns-clause-taken : goal.returns-clause-taken
returns-clause-taken g c = (out g c).taken

pub returns-clause-rest : goal.returns-clause-rest
returns-clause-rest g c =
    let end = out g c in
    ap (λ l. l ++ reverse (items c.bring_round.new.back)) (ap items c.put.ensures ∙ c.reverse_onto.ensures ∙ ap (λ link. reverse (items c.pass-none.new.passed) ++ items link) c.take-rest.ensures.value)
    ∙ end.rest

pub returns-clause-counted : goal.returns-clause-counted
returns-clause-counted g c =
    let end = out g c in
    let front = ap items c.put.ensures ∙ c.reverse_onto.ensures ∙ ap (λ link. reverse (items c.pass-none.new.passed) ++ items link) c.take-rest.ensures.value in
    omega (
      arith,
      end.counted,
      ap length front,
      length-reverse (items c.args.back.now),
      length-reverse (items c.bring_round.new.back),
      length-append (items c.args.front.now) (reverse (items c.args.back.now)),
    )
