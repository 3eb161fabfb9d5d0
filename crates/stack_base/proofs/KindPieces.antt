-- The first piece of a run at each kind that cuts, by what code computes of it.
use Rattle.std.proofs.Common.{◌≡◌, ℕ, zero, suc, ◌+◌, ◌-◌, ◌*◌, ◌/◌, ◌%◌, ◌<◌, ◌≤◌, min, List, [], ◌∷◌, length, get_or, sum, take, refl, sym, ap, ◌∙◌, zero-add, add-one, arith}
use Rattle.std.proofs.lemmas.Nat.{mod_below}
use Rattle.std.proofs.lemmas.List.Sums.{sum_by-cons}
use Rattle.stack_base.specs.declared.mapping.Piece.{Piece}
use Rattle.stack_base.specs.declared.stack.Kind.TheVariants.{Linear, Stripe, Zoned, Limit}
use Rattle.stack_base.specs.Mapping.{Slot, among, slot, whole_chunks, zones, in_zones}
use Rattle.stack_base.specs.Cutting.{next_member, piece_end}
use Rattle.stack_base.specs.Piece.{IsPiece}
use Rattle.stack_base.proofs.Members.{among-in, among-behind, next_member-in, next_member-behind}
use Rattle.stack_base.proofs.KindCuts.{linear_cuts, stripe_cuts, zoned_cuts, limit_cuts, limit_in_chunk_cuts}
use Rattle.stack_base.proofs.Pieces.{is_piece}

-- a piece that ends with its chunk, at the chunk's place in the round
pub stripe_piece_is :
    (chunk start len : ℕ) (sizes : List ℕ) (piece : Piece) → 1 ≤ chunk → 1 ≤ len
    → piece.len ≡ min (chunk - start % chunk) len
    → piece.member ≡ start / chunk % length sizes
    → piece.at ≡ start / chunk / length sizes * chunk + start % chunk
    → IsPiece (Stripe chunk) sizes start len piece
unfolding piece_end slot
stripe_piece_is chunk start len sizes piece pos some ends member lies =
    is_piece (Stripe chunk) sizes start len piece (stripe_cuts chunk sizes pos) some
    (omega (arith, mod_below start chunk pos))
    (λ i. record { member = sym member i; at = sym lies i })

-- a piece that ends with its chunk, at the chunk's place in its zone
pub zoned_piece_is :
    (chunk start len row : ℕ) (sizes : List ℕ) (piece : Piece) → 1 ≤ chunk → 1 ≤ len
    → piece.len ≡ min (chunk - start % chunk) len
    → in_zones (zones (whole_chunks chunk sizes)) (start / chunk) ≡ record { member = piece.member; at = row }
    → piece.at ≡ row * chunk + start % chunk
    → IsPiece (Zoned chunk) sizes start len piece
unfolding piece_end slot
zoned_piece_is chunk start len row sizes piece pos some ends there lies =
    is_piece (Zoned chunk) sizes start len piece (zoned_cuts chunk sizes pos) some
    (omega (arith, mod_below start chunk pos))
    (ap (λ (to : Slot). record { member = to.member; at = to.at * chunk + start % chunk }) there ∙ (λ i. record { member = piece.member; at = sym lies i }))

-- a piece of limited length that crosses no multiple of the chunk, at the same sector of the one member
pub limit_piece_is :
    (longest chunk start len stretch : ℕ) (sizes : List ℕ) (piece : Piece) → 1 ≤ longest → 1 ≤ len
    → (chunk ≡ 0 → stretch ≡ longest)
    → (1 ≤ chunk → stretch ≡ min longest (chunk - start % chunk))
    → piece.len ≡ min stretch len → piece.member ≡ 0 → piece.at ≡ start
    → IsPiece (Limit longest chunk) sizes start len piece
unfolding piece_end slot
limit_piece_is longest zero start len stretch sizes piece pos some free bound ends member lies =
    is_piece (Limit longest 0) sizes start len piece (limit_cuts longest sizes pos) some
    (omega (arith, free refl))
    (λ i. record { member = sym member i; at = sym lies i })
limit_piece_is longest (suc chunk) start len stretch sizes piece pos some free bound ends member lies =
    is_piece (Limit longest (suc chunk)) sizes start len piece (limit_in_chunk_cuts longest chunk sizes pos) some
    (omega (arith, bound (omega arith), mod_below start (suc chunk) (omega arith)))
    (λ i. record { member = sym member i; at = sym lies i })

-- a sector of the member at a place, counted from the first sector of the first member: its slot, and where the member ends
linear_place :
    (sizes : List ℕ) (i at : ℕ) → i < length sizes → at < get_or sizes i 0
    → (among sizes (sum (take i sizes) + at) ≡ record { member = i; at = at })
    × (next_member sizes (sum (take i sizes) + at) ≡ sum (take i sizes) + get_or sizes i 0)
linear_place [] i at within inside = absurd (omega arith)
linear_place (size ∷ sizes) zero at within inside =
    rw (zero-add at, zero-add size) (among-in size sizes at inside, next_member-in size sizes at inside)
linear_place (size ∷ sizes) (suc i) at within inside =
    let rest = linear_place sizes i at (omega arith) inside in
    let before : sum (size ∷ take i sizes) ≡ size + sum (take i sizes) = sum_by-cons (λ x. x) size (take i sizes) in
    let s : ℕ = sum (size ∷ take i sizes) + at in
    let behind : size ≤ s = omega arith in
    let left : s - size ≡ sum (take i sizes) + at = omega arith in (
      among-behind size sizes s behind
          ∙ ap (λ x. record { member = (among sizes x).member + 1; at = (among sizes x).at }) left
          ∙ ap (λ (to : Slot). record { member = to.member + 1; at = to.at }) rest.0
          ∙ ap (λ x. record { member = x; at = at }) (add-one i),
      next_member-behind size sizes s behind ∙ ap (λ x. size + next_member sizes x) left ∙ ap (λ x. size + x) rest.1 ∙ omega arith,
    )

-- a piece that ends with its member
pub linear_piece_is :
    (sizes : List ℕ) (start len : ℕ) (piece : Piece) → 1 ≤ len
    → piece.member < length sizes → piece.at < get_or sizes piece.member 0
    → start ≡ sum (take piece.member sizes) + piece.at
    → piece.len ≡ min (get_or sizes piece.member 0 - piece.at) len
    → IsPiece Linear sizes start len piece
unfolding piece_end slot
linear_piece_is sizes start len piece some within inside begins ends =
    let at_member = linear_place sizes piece.member piece.at within inside in
    let end : next_member sizes start ≡ sum (take piece.member sizes) + get_or sizes piece.member 0 = ap (next_member sizes) begins ∙ at_member.1 in
    is_piece Linear sizes start len piece (linear_cuts sizes) some (omega arith) (ap (among sizes) begins ∙ at_member.0)
