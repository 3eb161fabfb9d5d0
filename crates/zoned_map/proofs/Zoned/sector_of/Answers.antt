use Rattle.std.proofs.Common.{◌+◌, ◌*◌, ◌/◌, ◌%◌, sum, sym, ap, ◌∙◌, subst, arith}
use Rattle.std.specs.Prelude.{Some, None}
use Rattle.stack_base.specs.Mapping.{whole_chunks}
use Rattle.zoned_map.specs.Members.{Members, IsSectorOf}
use Rattle.zoned_map.specs.Numbers as spec
use Rattle.zoned_map.proofs.Places.{found_at, none_at, sector_small, counts_small}
use Rattle.zoned_map.proofs.Zoned.sector_of.Goals as goal

-- the counts are those of the members' sizes
pub chunk_number-requires-clause-small : goal.chunk_number-requires-clause-small
chunk_number-requires-clause-small c =
    let kept = c.self.inside in
    let counts = c.deref-then-row-deref.ensures.0 ∙ c.whole_chunks-counts.ensures ∙ ap (whole_chunks kept.chunk) c.deref.ensures.0 in
    omega (arith, ap sum counts, counts_small kept.chunk kept.sizes.items c.self.invariant.small)

-- and the sector is one of the device
pub overflow_mul-result : goal.overflow_mul-result
overflow_mul-result c =
    let whole = c.whole_chunks-counts.ensures ∙ ap (whole_chunks c.self.inside.chunk) c.deref.ensures.0 in
    let number = c.chunk_number.ensures ∙ ap (λ xs. spec.chunk_number xs c.from.result (c.args.at / c.self.inside.chunk)) (c.deref-then-row-deref.ensures.0 ∙ sym c.deref-2.ensures.0)
    ∙ ap (λ m. spec.chunk_number c.deref-2.result.now m (c.args.at / c.self.inside.chunk)) c.from.ensures in
    let found = found_at c.self.invariant c.self.view_is c.requires (c.deref-2.ensures.0 ∙ whole) c.if-row-deref.true number in
    omega (arith, sector_small c.self.inside.chunk c.self.inside.sizes.items c.args.member c.args.at _ found.1 c.self.invariant.small)

pub overflow_add-result : goal.overflow_add-result
overflow_add-result c =
    let whole = c.whole_chunks-counts.ensures ∙ ap (whole_chunks c.self.inside.chunk) c.deref.ensures.0 in
    let number = c.chunk_number.ensures ∙ ap (λ xs. spec.chunk_number xs c.from.result (c.args.at / c.self.inside.chunk)) (c.deref-then-row-deref.ensures.0 ∙ sym c.deref-2.ensures.0)
    ∙ ap (λ m. spec.chunk_number c.deref-2.result.now m (c.args.at / c.self.inside.chunk)) c.from.ensures in
    let found = found_at c.self.invariant c.self.view_is c.requires (c.deref-2.ensures.0 ∙ whole) c.if-row-deref.true number in
    omega (arith, sector_small c.self.inside.chunk c.self.inside.sizes.items c.args.member c.args.at _ found.1 c.self.invariant.small)

pub returns-then-row-deref : goal.returns-then-row-deref
returns-then-row-deref c =
    let whole = c.whole_chunks-counts.ensures ∙ ap (whole_chunks c.self.inside.chunk) c.deref.ensures.0 in
    let number = c.chunk_number.ensures ∙ ap (λ xs. spec.chunk_number xs c.from.result (c.args.at / c.self.inside.chunk)) (c.deref-then-row-deref.ensures.0 ∙ sym c.deref-2.ensures.0)
    ∙ ap (λ m. spec.chunk_number c.deref-2.result.now m (c.args.at / c.self.inside.chunk)) c.from.ensures in
    let found = found_at c.self.invariant c.self.view_is c.requires (c.deref-2.ensures.0 ∙ whole) c.if-row-deref.true number in
    subst (λ (v : Members). IsSectorOf v.chunk v.sizes c.args.member c.args.at (Some (c.chunk_number.result * c.self.inside.chunk + c.args.at % c.self.inside.chunk)))
    c.self.view_is found

pub returns-else-row-deref : goal.returns-else-row-deref
returns-else-row-deref c =
    let whole = c.whole_chunks-counts.ensures ∙ ap (whole_chunks c.self.inside.chunk) c.deref.ensures.0 in
    subst (λ (v : Members). IsSectorOf v.chunk v.sizes c.args.member c.args.at None) c.self.view_is
    (none_at c.self.invariant c.self.view_is c.requires (c.deref-2.ensures.0 ∙ whole) (omega (arith, c.if-row-deref.false)))
