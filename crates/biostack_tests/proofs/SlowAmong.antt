-- The sector of a member that a sector is, found member by member.
use Rattle.std.proofs.Common.{◌≡◌, ℕ, zero, suc, ◌+◌, ◌-◌, ◌*◌, ◌/◌, ◌%◌, ◌<◌, ◌≤◌, List, length, get_or, drop, refl, ap, ◌∙◌, zero-add, arith}
use Rattle.std.specs.Prelude.{max}
use Rattle.std.proofs.lemmas.List.{drop_more, drop_all}
use Rattle.stack_base.specs.declared.stack.Kind.TheVariants.{Limit}
use Rattle.stack_base.specs.Mapping.{Slot, among, head}
use Rattle.stack_base.proofs.Members.{among-in, among-behind}

-- the slot of s is that of sector `at` of the members from place i on
abbrev pub IsFrom : List ℕ → ℕ → ℕ → ℕ → Type 0
IsFrom sizes s i at = among sizes s ≡ record { member = (among (drop i sizes) at).member + i; at = (among (drop i sizes) at).at }

-- a sector that is not behind the next member is in it
pub from_here : (sizes : List ℕ) (s i at : ℕ) → IsFrom sizes s i at → i < length sizes → at < get_or sizes i 0 → among sizes s ≡ record { member = i; at = at }
from_here sizes s i at is more first =
    let here : among (drop i sizes) at ≡ record { member = 0; at = at } =
    ap (λ left. among left at) (drop_more sizes i 0 more) ∙ among-in (get_or sizes i 0) (drop (i + 1) sizes) at first in
    is ∙ ap (λ (to : Slot). record { member = to.member + i; at = to.at }) here ∙ ap (λ k. record { member = k; at = at }) (zero-add i)

-- and else it is counted on from that member's end
pub from_next : (sizes : List ℕ) (s i at : ℕ) → IsFrom sizes s i at → i < length sizes → get_or sizes i 0 ≤ at → IsFrom sizes s (i + 1) (at - get_or sizes i 0)
from_next sizes s i at is more behind =
    let size : ℕ = get_or sizes i 0 in
    let rest : Slot = among (drop (i + 1) sizes) (at - size) in
    let there : among (drop i sizes) at ≡ record { member = rest.member + 1; at = rest.at } =
    ap (λ left. among left at) (drop_more sizes i 0 more) ∙ among-behind size (drop (i + 1) sizes) at behind in
    let count : rest.member + 1 + i ≡ rest.member + (i + 1) = omega arith in
    is ∙ ap (λ (to : Slot). record { member = to.member + i; at = to.at }) there ∙ ap (λ k. record { member = k; at = rest.at }) count

-- behind the last member there is no other
pub from_end : (sizes : List ℕ) (s i at : ℕ) → IsFrom sizes s i at → length sizes ≤ i → among sizes s ≡ record { member = i; at = 0 }
unfolding among
from_end sizes s i at is end =
    is ∙ ap (λ left. record { member = (among left at).member + i; at = (among left at).at }) (drop_all i sizes end) ∙ ap (λ k. record { member = k; at = 0 }) (zero-add i)

-- the head of a limit, by the block that the sector is in
pub head_of_limit : (longest chunk : ℕ) (sizes : List ℕ) (r s start first : ℕ) → first ≡ max r start
    → (chunk ≡ 0 → start ≡ 0) × (1 ≤ chunk → start ≡ s - s % chunk)
    → first + (s - first) / longest * longest ≡ head (Limit longest chunk) sizes r s
unfolding head
head_of_limit longest zero sizes r s start first is starts =
    ap (λ b. b + (s - b) / longest * longest) (is ∙ ap (max r) (starts.0 refl))
head_of_limit longest (suc chunk) sizes r s start first is starts =
    ap (λ b. b + (s - b) / longest * longest) (is ∙ ap (max r) (starts.1 (omega arith)))
