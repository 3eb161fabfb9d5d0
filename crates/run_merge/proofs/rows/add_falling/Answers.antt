use Rattle.std.proofs.Common.{◌≡◌, ◌-◌, arith}
use Rattle.run_merge.proofs.leaving.Falls.{none_reached, one_reached, all_reached, as_many}
use Rattle.run_merge.proofs.rows.add_falling.Goals as goal

-- src/rows.rt
pub adding-init : goal.adding-init
adding-init c = (none_reached _ _ 32 c.args.bios.items c.args.records.items c.args.pools.now.items, c.requires.room)

pub add_bios-requires : goal.add_bios-requires
add_bios-requires c =
    let room = c.adding.invariant.1 in
    let more = c.add_records.ensures.room in
    let moved = as_many _ _ _ c.adding.records.items c.add_records.new.records.items c.adding.pools.items c.add_records.new.pools.items c.add_records.ensures.moved in
    omega (arith, room, more, moved)

pub adding-preserved : goal.adding-preserved
adding-preserved c =
    let some = c.adding-test.true in
    let room = c.adding.invariant.1 in
    let more = c.add_records.ensures.room in
    let most = c.add_bios.ensures.room in
    let records = as_many _ _ _ c.adding.records.items c.add_records.new.records.items c.adding.pools.items c.add_records.new.pools.items c.add_records.ensures.moved in
    let bios = as_many _ _ _ c.adding.bios.items c.add_bios.new.bios.items c.add_records.new.pools.items c.add_bios.new.pools.items c.add_bios.ensures.moved in (
      one_reached _ _ 32 c.args.bios.items c.args.records.items c.args.pools.now.items (c.adding.number - 1) c.adding.number (omega (arith, some))
          c.adding.bios.items c.add_bios.new.bios.items c.adding.records.items c.add_records.new.records.items c.adding.pools.items c.add_records.new.pools.items c.add_bios.new.pools.items
          c.adding.invariant.0 c.add_records.ensures.moved c.add_bios.ensures.moved,
      omega (arith, room, more, most, records, bios),
    )

pub returns : goal.returns
returns c =
    let none = c.adding-test.false in
    let first : c.adding.number ≡ 0 = omega (arith, none) in
    λ all sets records.
    all_reached _ _ 32 c.args.bios.items c.args.records.items c.args.pools.now.items c.adding.number first c.adding.bios.items c.adding.records.items c.adding.pools.items
    c.adding.invariant.0 all sets records
