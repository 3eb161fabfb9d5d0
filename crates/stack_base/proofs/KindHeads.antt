-- Each kind keeps the laws of heads: those that cut by what they cut, and the others since a run is one piece there.
use Rattle.std.proofs.Common.{◌≡◌, ℕ, ◌≤◌, List, refl, sym, arith}
use Rattle.stack_base.specs.declared.stack.Kind.{Kind}
use Rattle.stack_base.specs.declared.stack.Kind.TheVariants.{Disk, Linear, Stripe, Zoned, Limit, Mirror}
use Rattle.stack_base.specs.Mapping.{slot, head}
use Rattle.stack_base.specs.Cutting.{CanCut, piece_end, HeadsStay, HeadsAreHeads}
use Rattle.stack_base.proofs.Heads.{head_again, head_bounds, head_twice}
use Rattle.stack_base.proofs.KindCuts.{kind_cuts}

-- where a kind cuts, a rest that begins at a head of the run is cut where the whole run is
cut_again :
    (kind : Kind) (sizes : List ℕ) → CanCut kind → (r r2 s : ℕ) → r ≤ r2 → head kind sizes r r2 ≡ r2 → r2 ≤ s
    → head kind sizes r2 s ≡ head kind sizes r s
cut_again kind sizes can = head_again (head kind sizes) (piece_end kind sizes) (slot kind sizes) (kind_cuts kind sizes can)

-- and the head of a sector is a head
cut_twice :
    (kind : Kind) (sizes : List ℕ) → CanCut kind → (r s : ℕ) → r ≤ s
    → (r ≤ head kind sizes r s) × (head kind sizes r s ≤ s) × (head kind sizes r (head kind sizes r s) ≡ head kind sizes r s)
cut_twice kind sizes can r s le =
    let cut = kind_cuts kind sizes can in
    let bounds = head_bounds (head kind sizes) (piece_end kind sizes) (slot kind sizes) cut r s le in
    (bounds.0, bounds.1, head_twice (head kind sizes) (piece_end kind sizes) (slot kind sizes) cut r s le)

-- so it is at each kind
pub kind_again : HeadsStay
unfolding head
kind_again Linear sizes r r2 s has = cut_again Linear sizes has r r2 s
kind_again (Stripe chunk) sizes r r2 s has = cut_again (Stripe chunk) sizes has r r2 s
kind_again (Zoned chunk) sizes r r2 s has = cut_again (Zoned chunk) sizes has r r2 s
kind_again (Limit longest chunk) sizes r r2 s has = cut_again (Limit longest chunk) sizes has r r2 s
kind_again (Disk sectors bad) sizes r r2 s has = λ le is le2. sym is
kind_again (Mirror records) sizes r r2 s has = λ le is le2. sym is

pub kind_twice : HeadsAreHeads
unfolding head
kind_twice Linear sizes r s has le = cut_twice Linear sizes has r s le
kind_twice (Stripe chunk) sizes r s has le = cut_twice (Stripe chunk) sizes has r s le
kind_twice (Zoned chunk) sizes r s has le = cut_twice (Zoned chunk) sizes has r s le
kind_twice (Limit longest chunk) sizes r s has le = cut_twice (Limit longest chunk) sizes has r s le
kind_twice (Disk sectors bad) sizes r s has le = (omega arith, le, refl)
kind_twice (Mirror records) sizes r s has le = (omega arith, le, refl)
