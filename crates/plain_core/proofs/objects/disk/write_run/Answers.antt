use Rattle.std.proofs.Common.{◌+◌, ◌*◌, ◌%◌, ◌^◌, None, Some, length, arith}
use Rattle.std.proofs.lemmas.List.FromFn.{fill_by_all}
use Rattle.plain_core.proofs.objects.disk.write_run.Goals as goal

-- at the end each sector is written
pub returns : goal.returns
returns c =
    fill_by_all (λ k. Some ((c.args.word + 64 * k) % 2 ^ 64)) c.loop-place.firsts (length c.args.firsts.now) None (omega arith)
    (λ k within. c.loop-place.invariant k None (omega arith))
