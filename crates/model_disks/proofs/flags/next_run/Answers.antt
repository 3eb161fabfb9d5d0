-- From the first written sector to the first that is not: the first run; and none where nothing is written.
use Rattle.std.proofs.Common.{◌≡◌, ◌+◌, ◌-◌, ◌<◌, ◌∷◌, length, ap, ◌∙◌, arith}
use Rattle.model_disks.specs.Runs.{runs_from}
use Rattle.model_disks.proofs.WrittenLemmas.{no_runs, no_runs_past, next_run_is, run_has_sectors, unset_at}
use Rattle.model_disks.proofs.flags.next_run.Goals as goal

pub returns-then-from-flags-clause-runs : goal.returns-then-from-flags-clause-runs
returns-then-from-flags-clause-runs c = no_runs_past c.args.flags.now c.args.from (omega arith)

pub returns-then-start-flags-clause-runs : goal.returns-then-start-flags-clause-runs
returns-then-start-flags-clause-runs c =
    no_runs c.args.flags.now c.args.from (omega arith) (λ x le lt. c.first_written-start.ensures.others x le (omega arith))

pub returns-clause-runs : goal.returns-clause-runs
returns-clause-runs c =
    let flags = c.args.flags.now in
    let start = c.first_written-start.result in
    let stop = c.first_place-end.result in
    let past : stop ≡ start + (stop - start) = omega arith in
    let within : start < length flags = omega (arith, c.if-start-flags.false) in
    let some = run_has_sectors flags c.args.from start stop c.first_written-start.ensures c.first_place-end.ensures within in
    next_run_is flags c.args.from start stop c.first_written-start.ensures.behind some c.first_place-end.ensures.within c.requires
    c.first_written-start.ensures.others c.first_place-end.ensures.others (unset_at flags start stop c.first_place-end.ensures)
    ∙ ap (λ x. record { start = start; len = stop - start } ∷ runs_from flags x) past
