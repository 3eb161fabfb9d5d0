-- Each kind that cuts keeps the laws of cutting.
use Rattle.std.proofs.Common.{◌≡◌, ℕ, zero, suc, ◌+◌, ◌-◌, ◌*◌, ◌/◌, ◌%◌, ◌≤◌, List, length, inl, inr, sym, ap, ◌∙◌, arith}
use Rattle.std.specs.Prelude.{max, min}
use Rattle.std.proofs.lemmas.Bool.{cases_lt}
use Rattle.std.proofs.lemmas.Nat.{mod_below}
use Rattle.stack_base.specs.declared.stack.Kind.TheVariants.{Disk, Linear, Stripe, Zoned, Limit, Mirror}
use Rattle.stack_base.specs.Mapping.{Slot, slot, head, among, whole_chunks, zones, in_zones}
use Rattle.stack_base.specs.Cutting.{piece_end, IsCut, PiecesAreCuts}
use Rattle.stack_base.proofs.Blocks.{same_block, later_block, stretch_here, stretch_later}
use Rattle.stack_base.proofs.Members.{among_at_le, among_along, among_apart, next_member_ahead}

-- members one behind the other: a piece ends with its member
pub linear_cuts : (sizes : List ℕ) → IsCut (head Linear sizes) (piece_end Linear sizes) (slot Linear sizes)
unfolding head piece_end slot
linear_cuts sizes = record {
  ahead = next_member_ahead sizes;
  here = λ r s le lt.
      let far : (among sizes s).at ≡ (among sizes r).at + (s - r) = ap (λ (w : Slot). w.at) (among_along sizes r s le lt) in
      omega (arith, among_at_le sizes r);
  later = λ r s le. omega (arith, among_apart sizes r s le, next_member_ahead sizes r);
  along = among_along sizes;
}

-- a device that cuts at the ends of chunks, and has each chunk whole at some place: a piece ends with its chunk
module _ (chunk : ℕ) (pos : 1 ≤ chunk) (place : ℕ → Slot) where
  abbrev pub chunked_slot : ℕ → Slot
  chunked_slot s = record { member = (place (s / chunk)).member; at = (place (s / chunk)).at * chunk + s % chunk }

  pub chunked_cuts : IsCut (λ r s. max r (s - s % chunk)) (λ r. (r - r % chunk) + chunk) chunked_slot
  chunked_cuts = record {
    ahead = λ r. omega (arith, mod_below r chunk pos);
    here = λ r s le lt. let within = same_block chunk r s pos le lt in omega (arith, within.1);
    later = λ r s le. omega (arith, later_block chunk r s pos le, mod_below r chunk pos);
    along = λ r s le lt.
        let within = same_block chunk r s pos le lt in
        let far : (place (r / chunk)).at * chunk + s % chunk ≡ (place (r / chunk)).at * chunk + r % chunk + (s - r) = omega (arith, within.1) in
        rw within.0 (ap (λ to. record { member = (place (r / chunk)).member; at = to }) far);
  }

-- chunks that go round all members
pub stripe_cuts : (chunk : ℕ) (sizes : List ℕ) → 1 ≤ chunk → IsCut (head (Stripe chunk) sizes) (piece_end (Stripe chunk) sizes) (slot (Stripe chunk) sizes)
unfolding head piece_end slot
stripe_cuts chunk sizes pos = chunked_cuts chunk pos (λ number. record { member = number % length sizes; at = number / length sizes })

-- chunks that go round the members of their zone
pub zoned_cuts : (chunk : ℕ) (sizes : List ℕ) → 1 ≤ chunk → IsCut (head (Zoned chunk) sizes) (piece_end (Zoned chunk) sizes) (slot (Zoned chunk) sizes)
unfolding head piece_end slot
zoned_cuts chunk sizes pos = chunked_cuts chunk pos (in_zones (zones (whole_chunks chunk sizes)))

-- pieces of limited length, with no boundaries
pub limit_cuts : (longest : ℕ) (sizes : List ℕ) → 1 ≤ longest → IsCut (head (Limit longest 0) sizes) (piece_end (Limit longest 0) sizes) (slot (Limit longest 0) sizes)
unfolding head piece_end slot
limit_cuts longest sizes pos = record {
  ahead = λ r. omega arith;
  here = λ r s le lt.
      let start : max r 0 ≡ r = omega arith in
      ap (λ b. b + (s - b) / longest * longest) start ∙ stretch_here longest r s le lt;
  later = λ r s le.
      let start : max r 0 ≡ r = omega arith in
      let start_next : max (r + longest) 0 ≡ r + longest = omega arith in
      ap (λ b. b + (s - b) / longest * longest) start ∙ stretch_later longest r s pos le ∙ sym (ap (λ b. b + (s - b) / longest * longest) start_next);
  along = λ r s le lt. let far : s ≡ r + (s - r) = omega arith in ap (λ to. record { member = 0; at = to }) far;
}

-- pieces of limited length within chunks
pub limit_in_chunk_cuts : (longest chunk : ℕ) (sizes : List ℕ) → 1 ≤ longest → IsCut (head (Limit longest (suc chunk)) sizes) (piece_end (Limit longest (suc chunk)) sizes) (slot (Limit longest (suc chunk)) sizes)
unfolding head piece_end slot
limit_in_chunk_cuts longest chunk sizes pos = record {
  ahead = λ r. omega (arith, mod_below r (suc chunk) (omega arith));
  here = λ r s le lt.
      let within = same_block (suc chunk) r s (omega arith) le (omega arith) in
      let start : max r (s - s % suc chunk) ≡ r = omega (arith, within.1) in
      ap (λ b. b + (s - b) / longest * longest) start ∙ stretch_here longest r s le (omega arith);
  later = λ r s le.
      elim (cases_lt s (r - r % suc chunk + suc chunk)) [
        | inl same ↦
            let within = same_block (suc chunk) r s (omega arith) (omega (arith, mod_below r (suc chunk) (omega arith))) same in
            let start : max r (s - s % suc chunk) ≡ r = omega (arith, within.1) in
            let start_next : max (min (r + longest) (r - r % suc chunk + suc chunk)) (s - s % suc chunk) ≡ r + longest = omega (arith, within.1) in
            ap (λ b. b + (s - b) / longest * longest) start ∙ stretch_later longest r s pos (omega arith)
            ∙ sym (ap (λ b. b + (s - b) / longest * longest) start_next)
        | inr beyond ↦
            let start : max r (s - s % suc chunk) ≡ max (min (r + longest) (r - r % suc chunk + suc chunk)) (s - s % suc chunk) =
            omega (arith, later_block (suc chunk) r s (omega arith) beyond, mod_below r (suc chunk) (omega arith)) in
            ap (λ b. b + (s - b) / longest * longest) start
      ];
  along = λ r s le lt. let far : s ≡ r + (s - r) = omega arith in ap (λ to. record { member = 0; at = to }) far;
}

-- so each kind that cuts keeps them
pub kind_cuts : PiecesAreCuts
kind_cuts Linear sizes can = linear_cuts sizes
kind_cuts (Stripe chunk) sizes can = stripe_cuts chunk sizes can
kind_cuts (Zoned chunk) sizes can = zoned_cuts chunk sizes can
kind_cuts (Limit longest zero) sizes can = limit_cuts longest sizes can
kind_cuts (Limit longest (suc chunk)) sizes can = limit_in_chunk_cuts longest chunk sizes can
kind_cuts (Disk sectors bad) sizes can = absurd can
kind_cuts (Mirror records) sizes can = absurd can
