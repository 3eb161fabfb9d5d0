-- How much larger or heavier than its members together a device of each kind can be.
use Rattle.std.proofs.Common.{◌≡◌, ℕ, ◌+◌, ◌*◌, ◌/◌, ◌<◌, ◌≤◌, List, [], ◌∷◌, length, map, sum, ap, ◌∙◌, refl, sym, arith}
use Rattle.std.specs.List.{range_with_len}
use Rattle.std.proofs.lemmas.List.{same_lists, get_or-map, length-map}
use Rattle.std.proofs.lemmas.List.FromFn.{get_or-map-range_with_len, length-map-range_with_len}
use Rattle.std.proofs.lemmas.List.Sums.{get_or-le-sum_by}
use Rattle.std.proofs.Math.Nat.{mul_assoc, mul_comm}
use Rattle.stack_base.specs.declared.stack.Kind.{Kind}
use Rattle.stack_base.specs.declared.stack.Kind.TheVariants.{Disk, Linear, Stripe, Zoned, Limit, Mirror}
use Rattle.stack_base.specs.Declaration.{own_sectors}
use Rattle.stack_base.specs.Mapping.{size_of, smallest}
use Rattle.stack_base.specs.Stack.{HasShape}
use Rattle.stack_base.specs.Tree.{Tree, Leaf, size, member_at, over, over_shape, most_begun}
use Rattle.stack_base.proofs.MemberSizes.{shape_few}
use Rattle.stack_base.proofs.Smallest.{smallest_le, chunks_times_le}
use Rattle.stack_base.proofs.WholeChunks.{whole_chunks_le}

-- the smallest of some sizes is at most their sum
smallest_le_sum : (sizes : List ℕ) → smallest sizes ≤ sum sizes
unfolding smallest
smallest_le_sum [] = omega arith
smallest_le_sum (first ∷ sizes) =
    omega (arith, smallest_le (first ∷ sizes) 0 (omega arith), get_or-le-sum_by (λ x. x) (first ∷ sizes) 0 0 (omega arith))

-- a device has no more sectors than its own and its members'
pub size_of_le : (kind : Kind) (sizes : List ℕ) → size_of kind sizes ≤ own_sectors kind + sum sizes
unfolding size_of
size_of_le (Disk sectors bad) sizes = omega arith
size_of_le Linear sizes = omega arith
size_of_le (Stripe chunk) sizes =
    let n = length sizes in
    let rows = smallest sizes / chunk in
    let turned : n * chunk * rows ≡ rows * chunk * n = mul_assoc n chunk rows ∙ ap (λ x. n * x) (mul_comm chunk rows) ∙ mul_comm n (rows * chunk) in
    omega (arith, turned, chunks_times_le chunk (smallest sizes) sizes refl)
size_of_le (Zoned chunk) sizes = omega (arith, whole_chunks_le chunk sizes)
size_of_le (Limit longest chunk) sizes = omega (arith, smallest_le_sum sizes)
size_of_le (Mirror records) sizes = omega (arith, smallest_le_sum sizes)

-- the most that begins at one sector of each member, by their places
most_by_place :
    (number : ℕ) (members : List Tree)
    → map (λ k. most_begun (member_at number members k)) (range_with_len 0 (length (map size members))) ≡ map most_begun members
most_by_place number members =
    let at = λ (k : ℕ). most_begun (member_at number members k) in
    let n = length (map size members) in
    let many : n ≡ length members = length-map members size in
    same_lists (map at (range_with_len 0 n)) (map most_begun members) (length-map-range_with_len at 0 n ∙ many ∙ sym (length-map members most_begun)) (λ k d lt.
    let within : k < length members = omega (arith, length-map-range_with_len at 0 n) in
    get_or-map-range_with_len at 0 n k k d (omega arith) (omega arith) ∙ sym (get_or-map most_begun members k (Leaf number 0) d within))

-- a device over its members is no heavier than they are, and a record and a clone for each of at most eight
pub most_over_le :
    (number : ℕ) (kind : Kind) (members : List Tree) → HasShape kind (length members)
    → most_begun (over number kind members) ≤ 9 + sum (map most_begun members)
unfolding over_shape most_begun
most_over_le number (Disk sectors bad) members shape = omega arith
most_over_le number Linear members shape = omega (arith, ap sum (most_by_place number members))
most_over_le number (Stripe chunk) members shape = omega (arith, ap sum (most_by_place number members))
most_over_le number (Zoned chunk) members shape = omega (arith, ap sum (most_by_place number members))
most_over_le number (Limit longest chunk) members shape = omega (arith, ap sum (most_by_place number members))
most_over_le number (Mirror records) members shape =
    omega (arith, ap sum (most_by_place number members), length-map members size, shape_few (Mirror records) (length members) shape)
