-- The flags that have grown are set in the range.
use Rattle.std.proofs.Common.{◌+◌, false, length, sym, ap, ◌∙◌, arith}
use Rattle.model_disks.specs.Kept.{grown, marked}
use Rattle.model_disks.proofs.GrownLemmas.{length_grown, kept_whole}
use Rattle.model_disks.proofs.ImageLemmas.{length_marked}
use Rattle.model_disks.proofs.flags.note.Goals as goal

pub set-requires : goal.set-requires
set-requires c =
    let end = c.args.range.start + c.args.range.len in
    omega (arith, ap length c.deref_mut.ensures.value, ap length c.grow.ensures.flags, length_grown false end c.args.flags.now.items)

pub returns-clause-flags : goal.returns-clause-flags
returns-clause-flags c =
    let end = c.args.range.start + c.args.range.len in
    let made = c.set.ensures ∙ ap (marked c.args.range) (c.deref_mut.ensures.value ∙ c.grow.ensures.flags) in
    kept_whole c.grow.new.flags.items c.set.new.flags _ c.grow.new.flags.ok.0
    (ap length made
    ∙ length_marked c.args.range (grown false end c.args.flags.now.items) (omega (arith, length_grown false end c.args.flags.now.items))
    ∙ ap length (sym c.grow.ensures.flags))
    ∙ made
