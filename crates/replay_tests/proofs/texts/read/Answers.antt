use Rattle.std.proofs.Common.{◌∙◌, drop, ap, true}
use Rattle.decl_text.specs.Text.{lines}
use Rattle.decl_text.specs.Reading.{declarations}
use Rattle.work_text.proofs.WholeRefusals.{rest_decides}
use Rattle.replay_tests.proofs.texts.read.Goals as goal

-- the declarations end at the first write or `sync` line
pub read_work-requires-clause-work : goal.read_work-requires-clause-work
read_work-requires-clause-work c =
    let read = c.in_ok-decl.ensures in
    let accepted = c.in_ok-accepted.ensures in
    ap (λ n. declarations (lines (drop n c.args.text.now))) accepted.3
    ∙ (rest_decides {loose = true} (record { short = read.0; is = read.1; none = accepted.0; means = accepted.1 })).begins

pub returns : goal.returns
returns c =
    let read = c.in_ok-decl.ensures in
    let accepted = c.in_ok-accepted.ensures in
    record {
      text = c.args.text.now;
      begins = ap (λ n. declarations (lines (drop n c.args.text.now))) accepted.3
          ∙ (rest_decides {loose = true} (record { short = read.0; is = read.1; none = accepted.0; means = accepted.1 })).begins;
      reads = c.in_ok-work.ensures.read;
      served = c.in_ok-work.ensures.served;
    }
