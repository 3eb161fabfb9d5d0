use Rattle.std.proofs.Common.{◌≡◌, ◌+◌, ◌++◌, ◌∷◌, [], List, length, sym, ap, ◌∙◌, subst, arith}
use Rattle.std.specs.Prelude.{slice_index}
use Rattle.std.specs.List.Sorted.{IsPermutation, IsNonDecreasing}
use Rattle.stack_base.specs.Mapping.{Zone}
use Rattle.stack_base.proofs.Zones.{zone}
use Rattle.zoned_map.proofs.Levels.{IsMade, made_none, made_same, made_more, made_all, level_small}
use Rattle.zoned_map.proofs.zone.zones_of.Goals as goal
use Rattle.zoned_map.proofs.zone.zones_of.Goals.{then-base-level, else-base-level}

pub loop-level-init : goal.loop-level-init
loop-level-init c =
    subst (λ (zones : List Zone). IsMade c.args.counts.now c.deref-level-items.result.now 0 zones 0) (sym c.new-zones.ensures)
    (made_none c.args.counts.now c.deref-level-items.result.now)

pub up_to-requires-clause-small : goal.up_to-requires-clause-small
up_to-requires-clause-small c =
    let counts = c.args.counts.now in
    let same = c.deref-level-items.ensures.0 in
    omega (
      arith,
      c.requires.small,
      level_small counts c.deref-level-items.result.now (ap length same ∙ c.sorted-rising.ensures.many)
          (subst (IsPermutation counts) (sym same) c.sorted-rising.ensures.same)
          (subst IsNonDecreasing (sym same) c.sorted-rising.ensures.rising) c.loop-level.level-index c.loop-level-test.true,
    )

pub loop-level-preserved : goal.loop-level-preserved
loop-level-preserved c =
    let counts = c.args.counts.now in
    let rising = c.deref-level-items.result.now in
    let same = c.deref-level-items.ensures.0 in
    let place = c.loop-level.level-index in
    elim c.if-base-level.branch [
      | then-base-level w ↦
          let level = slice_index rising place in
          let made : w.up_to.result ≡ zone counts c.loop-level.base level =
          λ i. record { members = w.up_to.ensures.members i; base = w.up_to.ensures.base i; chunks = w.up_to.ensures.chunks i } in
          let items : c.if-base-level.zones.items ≡ c.loop-level.zones.items ++ zone counts c.loop-level.base level ∷ [] =
          (let is = w.zones-is in let pushed = w.push.ensures.items in cc) in
          subst (λ base. IsMade counts rising base c.if-base-level.zones.items (place + 1)) (sym w.base-is)
          (subst (λ (zones : List Zone). IsMade counts rising level zones (place + 1)) (sym items)
          (made_more counts rising (ap length same ∙ c.sorted-rising.ensures.many) (subst (IsPermutation counts) (sym same) c.sorted-rising.ensures.same)
          (subst IsNonDecreasing (sym same) c.sorted-rising.ensures.rising) c.loop-level.base c.loop-level.zones.items place c.loop-level.invariant
          c.loop-level-test.true w.if-base-level.true))
      | else-base-level w ↦
          let items : c.if-base-level.zones.items ≡ c.loop-level.zones.items = (let is = w.zones-is in cc) in
          subst (λ base. IsMade counts rising base c.if-base-level.zones.items (place + 1)) (sym w.base-is)
          (subst (λ (zones : List Zone). IsMade counts rising c.loop-level.base zones (place + 1)) (sym items)
          (made_same counts rising c.loop-level.base c.loop-level.zones.items place c.loop-level.invariant (omega (arith, w.if-base-level.false))))
    ]

pub returns : goal.returns
returns c =
    let counts = c.args.counts.now in
    let rising = c.deref-level-items.result.now in
    let same = c.deref-level-items.ensures.0 in
    made_all counts rising (ap length same ∙ c.sorted-rising.ensures.many) (subst (IsPermutation counts) (sym same) c.sorted-rising.ensures.same)
    (subst IsNonDecreasing (sym same) c.sorted-rising.ensures.rising) c.loop-level.base c.loop-level.zones.items c.loop-level.level-index
    c.loop-level.invariant (omega (arith, c.loop-level-test.false))
