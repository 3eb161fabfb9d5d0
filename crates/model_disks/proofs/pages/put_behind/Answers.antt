-- The words of the range stand behind zeros, and before zeros.
use Rattle.std.proofs.Common.{◌+◌, ◌*◌, ◌++◌, ◌∙◌, length, ap, arith}
use Rattle.image_lanes.specs.Lanes.{counting}
use Rattle.model_disks.specs.Kept.{grown}
use Rattle.model_disks.proofs.AppendLemmas.{put_in_grown}
use Rattle.model_disks.proofs.GrownLemmas.{length_grown}
use Rattle.model_disks.proofs.pages.put_behind.Goals as goal

pub append_sectors-requires : goal.append_sectors-requires
append_sectors-requires c =
    omega (
      arith,
      ap length c.grow.ensures.words,
      length_grown 0 (1024 * c.args.slot + 64 * c.args.start) c.args.words.now.items,
      c.grow.ensures.room,
      c.requires.behind,
      c.requires.short,
      c.requires.room,
    )

pub returns-clause-words : goal.returns-clause-words
returns-clause-words c =
    let size = 1024 * (c.args.slot + 1) in
    let from = 1024 * c.args.slot + 64 * c.args.start in
    let count = 64 * c.args.sectors in
    c.grow-2.ensures.words
    ∙ ap (grown 0 size) (c.append_sectors.ensures.words ∙ ap (λ ws. ws ++ counting c.args.first count) c.grow.ensures.words)
    ∙ put_in_grown from count size c.args.first c.args.words.now.items (omega (arith, c.requires.behind)) (omega (arith, c.requires.short))
