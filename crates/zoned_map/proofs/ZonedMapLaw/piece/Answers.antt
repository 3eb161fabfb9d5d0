use Rattle.std.specs.Prelude.{slice_index}
use Rattle.std.proofs.Math.Nat.{mul-le-mul_left}
use Rattle.std.proofs.Common.{refl, ◌≤◌, ◌+◌, ◌-◌, ◌*◌, ◌/◌, ◌%◌, ◌<◌, length, sym, ap, ◌∙◌, subst, arith}
use Rattle.std.proofs.lemmas.Nat.{mod_below}
use Rattle.stack_base.specs.declared.stack.Kind.TheVariants.{Zoned}
use Rattle.stack_base.specs.Mapping.{Zone}
use Rattle.stack_base.specs.declared.mapping.Piece.{Piece}
use Rattle.stack_base.specs.Piece.{IsPiece}
use Rattle.stack_base.proofs.KindPieces.{zoned_piece_is}
use Rattle.zoned_map.specs.Members.{Members}
use Rattle.zoned_map.proofs.Finding.{IsChunkFrom, left_behind, small_by, first_zone, found_in}
use Rattle.zoned_map.proofs.ZonedMapLaw.piece.Goals as goal

-- the chunk is looked for from the first zone on
pub loop-zone-init : goal.loop-zone-init
loop-zone-init c = first_zone c.args.start c.self.invariant c.self.view_is c.requires.some c.requires.within c.deref-zone-items.ensures.0

pub loop-zone-preserved : goal.loop-zone-preserved
loop-zone-preserved c =
    let zone = c.zone-item.result in
    let zs = c.deref-zone-items.result.now in
    let e = c.args.start / c.self.inside.chunk in
    let place = c.loop-zone.zone-index in
    let chunks = ap (λ (z : Zone). z.chunks) (c.zone.view_is ∙ c.zone-item.is) in
    subst (λ n. IsChunkFrom zs e (place + 1) (c.loop-zone.number - n)) (sym chunks)
    (left_behind zs e place c.loop-zone.number zone c.loop-zone.invariant c.loop-zone-test.true (omega (arith, chunks, c.if-number-zone.false)))

-- the zone has members
pub nonzero_rem-result : goal.nonzero_rem-result
nonzero_rem-result c =
    let found = found_in c.args.start c.self.invariant c.self.view_is c.requires.some c.requires.within c.deref-zone-items.ensures.0
    c.loop-zone.invariant c.loop-zone-test.true c.zone-item.is c.zone.view_is c.if-number-zone.true in
    omega (arith, found.some, c.len-members.ensures.value)

pub nonzero_div-result : goal.nonzero_div-result
nonzero_div-result c =
    let found = found_in c.args.start c.self.invariant c.self.view_is c.requires.some c.requires.within c.deref-zone-items.ensures.0
    c.loop-zone.invariant c.loop-zone-test.true c.zone-item.is c.zone.view_is c.if-number-zone.true in
    omega (arith, found.some, c.len-members.ensures.value)

-- and its place there is a small number
pub overflow_add-result-then-number-zone : goal.overflow_add-result-then-number-zone
overflow_add-result-then-number-zone c =
    let found = found_in c.args.start c.self.invariant c.self.view_is c.requires.some c.requires.within c.deref-zone-items.ensures.0
    c.loop-zone.invariant c.loop-zone-test.true c.zone-item.is c.zone.view_is c.if-number-zone.true in
    omega (arith, small_by found c.len-members.ensures.value)

pub overflow_mul-result : goal.overflow_mul-result
overflow_mul-result c =
    let found = found_in c.args.start c.self.invariant c.self.view_is c.requires.some c.requires.within c.deref-zone-items.ensures.0
    c.loop-zone.invariant c.loop-zone-test.true c.zone-item.is c.zone.view_is c.if-number-zone.true in
    omega (arith, small_by found c.len-members.ensures.value)

pub overflow_add-result : goal.overflow_add-result
overflow_add-result c =
    let found = found_in c.args.start c.self.invariant c.self.view_is c.requires.some c.requires.within c.deref-zone-items.ensures.0
    c.loop-zone.invariant c.loop-zone-test.true c.zone-item.is c.zone.view_is c.if-number-zone.true in
    let row = c.zone.inside.base + c.loop-zone.number / c.len-members.result in
    let once : row * 1 ≤ row * c.self.inside.chunk = mul-le-mul_left row c.self.invariant.shape.0 in
    omega (arith, small_by found c.len-members.ensures.value, once)

pub returns-then-number-zone : goal.returns-then-number-zone
returns-then-number-zone c =
    let kept = c.self.inside in
    let found = found_in c.args.start c.self.invariant c.self.view_is c.requires.some c.requires.within c.deref-zone-items.ensures.0
    c.loop-zone.invariant c.loop-zone-test.true c.zone-item.is c.zone.view_is c.if-number-zone.true in
    let len = c.len-members.result in
    let row = c.zone.inside.base + c.loop-zone.number / len in
    let place = found.place
    ∙ ap (λ n. record { member = slice_index c.zone.inside.members.items (c.loop-zone.number % n); at = c.zone.inside.base + c.loop-zone.number / n }) (sym c.len-members.ensures.value)
    ∙ ap (λ xs. record { member = slice_index xs (c.loop-zone.number % len); at = row }) (sym c.deref.ensures.0) in
    let piece : Piece = record { len = c.min.result; member = slice_index c.deref.result.now (c.loop-zone.number % len); at = row * kept.chunk + c.args.start % kept.chunk } in
    subst (λ (v : Members). IsPiece (Zoned v.chunk) v.sizes c.args.start c.args.len piece) c.self.view_is
    (zoned_piece_is kept.chunk c.args.start c.args.len row kept.sizes.items piece c.self.invariant.shape.0 c.requires.some c.min.ensures place refl)

pub bounds-deref-number : goal.bounds-deref-number
bounds-deref-number c =
    let found = found_in c.args.start c.self.invariant c.self.view_is c.requires.some c.requires.within c.deref-zone-items.ensures.0
    c.loop-zone.invariant c.loop-zone-test.true c.zone-item.is c.zone.view_is c.if-number-zone.true in
    let some : 0 < c.len-members.result = omega (arith, found.some, c.len-members.ensures.value) in
    omega (arith, mod_below c.loop-zone.number c.len-members.result some, c.len-members.ensures.value, ap length c.deref.ensures.0)

pub offset_bounds-deref-number : goal.offset_bounds-deref-number
offset_bounds-deref-number c =
    let found = found_in c.args.start c.self.invariant c.self.view_is c.requires.some c.requires.within c.deref-zone-items.ensures.0
    c.loop-zone.invariant c.loop-zone-test.true c.zone-item.is c.zone.view_is c.if-number-zone.true in
    let some : 0 < c.len-members.result = omega (arith, found.some, c.len-members.ensures.value) in
    omega (arith, mod_below c.loop-zone.number c.len-members.result some, c.len-members.ensures.fits)
