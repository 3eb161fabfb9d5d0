-- A sector more.
use Rattle.std.proofs.Common.{◌*◌, ◌+◌, ◌%◌, ◌^◌, ◌++◌, ◌∙◌, length, refl, ap, arith, length-append}
use Rattle.image_lanes.specs.Lanes.{counting}
use Rattle.image_lanes.proofs.CountingLemmas.{length_counting}
use Rattle.model_disks.proofs.AppendLemmas.{appended_more, appended_none}
use Rattle.model_disks.proofs.append.append_sectors.Goals as goal

pub appending-init : goal.appending-init
appending-init c = record { made = appended_none c.args.words.now.items c.args.first; size = refl; room = omega arith }

pub unreachable-requires : goal.unreachable-requires
unreachable-requires c =
    omega (
      arith,
      c.in_default.ensures.full,
      c.appending.words.ok.0,
      c.args.words.now.ok.0,
      ap length c.fill.ensures,
      c.appending.invariant.size,
      length_counting ((c.args.first + 64 * c.appending.place) % 2 ^ 64) (length c.appending.sector),
      ap length c.appending.invariant.made,
      length-append c.args.words.now.items (counting c.args.first (64 * c.appending.place)),
      length_counting c.args.first (64 * c.appending.place),
      c.appending.invariant.room,
      c.appending-test.true,
      c.requires,
    )

pub appending-preserved : goal.appending-preserved
appending-preserved c =
    let kept = c.appending.invariant in
    let own = c.fill.ensures ∙ ap (counting ((c.args.first + 64 * c.appending.place) % 2 ^ 64)) kept.size in
    record {
      made = c.in-Ok.ensures.items
          ∙ ap (λ ws. ws ++ c.fill.new.words) kept.made
          ∙ ap (λ more. (c.args.words.now.items ++ counting c.args.first (64 * c.appending.place)) ++ more) own
          ∙ appended_more c.args.words.now.items c.args.first c.appending.place;
      size = ap length own ∙ length_counting ((c.args.first + 64 * c.appending.place) % 2 ^ 64) 64;
      room = omega (arith, kept.room, c.in-Ok.ensures.capacity);
    }
