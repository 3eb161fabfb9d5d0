-- The first run of the flags is the first stretch; and there is none where no sector is unlike.
use Rattle.std.proofs.Common.{◌≡◌, Bool, List, length, sym, ap, ◌∙◌, subst, arith}
use Rattle.stack_base.specs.Tree.{tree}
use Rattle.model_disks.proofs.WrittenLemmas.{no_runs_past}
use Rattle.mirror_scrub.specs.Seen.{held, unlikes}
use Rattle.mirror_scrub.specs.Stretches.{IsFirstRunOf}
use Rattle.mirror_scrub.proofs.PairLemmas.{apart_first, flags_long, place_first, runs_first}
use Rattle.mirror_scrub.proofs.mirror.next_unlike.Goals as goal

pub returns-then-from-pair-clause-stretches : goal.returns-then-from-pair-clause-stretches
returns-then-from-pair-clause-stretches c =
    no_runs_past _ c.args.from (omega (arith, c.if-from-pair.true, ap length c.pair-pair.ensures.flags, flags_long c.pair-pair.result))

pub returns-clause-stretches : goal.returns-clause-stretches
returns-clause-stretches c =
    let flags = unlikes (held c.args.disks.now) (tree c.args.stack.now c.args.mirror.0) c.args.leg in
    let long : length flags ≡ c.pair-pair.result.size = sym (ap length c.pair-pair.ensures.flags) ∙ flags_long c.pair-pair.result in
    let first = subst (λ (flags : List Bool). IsFirstRunOf flags c.args.from c.next_differing.result) c.pair-pair.ensures.flags c.next_differing.ensures in
    runs_first flags c.args.from c.next_differing.result (omega (arith, long, c.if-from-pair.false)) c.requires.apart first

pub returns-clause-place : goal.returns-clause-place
returns-clause-place c =
    let flags = unlikes (held c.args.disks.now) (tree c.args.stack.now c.args.mirror.0) c.args.leg in
    let long : length flags ≡ c.pair-pair.result.size = sym (ap length c.pair-pair.ensures.flags) ∙ flags_long c.pair-pair.result in
    let first = subst (λ (flags : List Bool). IsFirstRunOf flags c.args.from c.next_differing.result) c.pair-pair.ensures.flags c.next_differing.ensures in
    place_first flags c.args.from c.next_differing.result _ (long ∙ c.pair-pair.ensures.size) first

pub returns-clause-apart : goal.returns-clause-apart
returns-clause-apart c =
    let flags = unlikes (held c.args.disks.now) (tree c.args.stack.now c.args.mirror.0) c.args.leg in
    let first = subst (λ (flags : List Bool). IsFirstRunOf flags c.args.from c.next_differing.result) c.pair-pair.ensures.flags c.next_differing.ensures in
    apart_first flags c.args.from c.next_differing.result first
