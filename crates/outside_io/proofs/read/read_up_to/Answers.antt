-- What was taken before an error: the text so far, and where there was no memory for it the last piece too.
use Rattle.std.proofs.Common.{rules, arith, ℕ, ◌++◌, take, length-append}
use Rattle.std.proofs.lemmas.List.{length-take}
use Rattle.std.proofs.KnownBytes.{Consumes-kept, Consumes-trans}
use Rattle.outside_io.specs.Reading.{TakesWithin}
use Rattle.outside_io.proofs.read.read_up_to.Goals as goal

pub returns-in_err-count-clause-err : goal.returns-in_err-count-clause-err
returns-in_err-count-clause-err g c =
    let left = g.S.Source.left in
    let text = c.reading.text in
    let within : TakesWithin c.args.limit (left c.args.source.now) (left c.take.new.self) =
    (text.items, omega (arith, text.ok.0), Consumes-kept (left c.args.source.now) (left c.reading.source) (left c.take.new.self) text.items c.reading.invariant.taken c.in_err-count.ensures.err) in
    search rules

pub returns-in_err-extend_from_slice-clause-err : goal.returns-in_err-extend_from_slice-clause-err
returns-in_err-extend_from_slice-clause-err g c =
    let left = g.S.Source.left in
    let text = c.reading.text in
    let piece = take c.in_ok-count.count c.take.new.into in
    let within : TakesWithin c.args.limit (left c.args.source.now) (left c.take.new.self) =
    (text.items ++ piece, omega (arith, text.ok.0, length-append {A = ℕ}, length-take {A = ℕ}), Consumes-trans (left c.args.source.now) (left c.reading.source) (left c.take.new.self) text.items piece c.reading.invariant.taken c.in_ok-count.ensures.taken) in
    search rules
