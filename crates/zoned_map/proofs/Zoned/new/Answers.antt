use Rattle.std.proofs.Common.{sum, ap, ◌∙◌, arith}
use Rattle.stack_base.specs.Mapping.{whole_chunks}
use Rattle.zoned_map.proofs.Places.{counts_small}
use Rattle.zoned_map.proofs.Zoned.new.Goals as goal

pub zones_of-zones-requires-clause-small : goal.zones_of-zones-requires-clause-small
zones_of-zones-requires-clause-small c =
    omega (
      arith,
      ap sum (c.deref-2.ensures.0 ∙ c.whole_chunks-counts.ensures ∙ ap (whole_chunks c.args.chunk) c.deref.ensures.0),
      counts_small c.args.chunk c.args.sizes.items c.requires.small,
    )
