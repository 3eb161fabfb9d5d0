-- Which device is under which, where each is a member at most once.
use Rattle.std.proofs.Common.{◌≡◌, ◌⊎◌, ℕ, ◌<◌, ◌≤◌, subst, sym, inl, inr, arith}
use Rattle.stack_base.specs.declared.stack.Stack.{Stack}
use Rattle.stack_base.specs.Stack.{IsStack, IsMember}

-- x is d, or a member of a device that is under d
pub data Under (stack : Stack) : ℕ → ℕ → Type 0 where
  itself : {d : ℕ} → Under stack d d
  up : (p k : ℕ) {x d : ℕ} → IsMember stack p k x → Under stack p d → Under stack x d

-- what is under a member is under the device
pub under_over : {stack : Stack} (d k : ℕ) {x m : ℕ} → Under stack x m → IsMember stack d k m → Under stack x d
under_over d k itself member = up d k member itself
under_over d k (up p i below u) member = up p i below (under_over d k u member)

module _ (stack : Stack) (good : IsStack stack) where
  -- a member was declared before its device
  pub member_below : (p k x : ℕ) → IsMember stack p k x → x < p
  member_below p k x member = (good.each p member.0 member.1).below k (record { 0 = x }) member.2

  -- what is under a device was declared no later
  pub under_le : {x d : ℕ} → Under stack x d → x ≤ d
  under_le itself = omega arith
  under_le (up p k {x = x} member u) = omega (arith, member_below p k x member, under_le u)

  -- of two devices above one, one is under the other
  pub under_one_way : {x d e : ℕ} → Under stack x d → Under stack x e → Under stack d e ⊎ Under stack e d
  under_one_way itself v = inl v
  under_one_way (up p k member u) itself = inr (up p k member u)
  under_one_way (up p k {x = x} member u) (up q i {d = e} also v) =
      under_one_way u (subst (λ a. Under stack a e) (sym (good.once p q k i x member also).0) v)

  -- a member is not under another member of its device
  member_not_under : (d j k : ℕ) {m n : ℕ} → (j ≡ k → ⊥) → IsMember stack d j m → IsMember stack d k n → Under stack m n → ⊥
  member_not_under d j k {m = m} other left right itself = other (good.once d d j k m left right).1
  member_not_under d j k {m = m} {n = n} other left right (up p i also u) =
      absurd (omega (arith, (good.once p d i j m also left).0, under_le u, member_below d k n right))

  -- so nothing is under two members of one device
  pub members_apart : (d j k m n x : ℕ) → (j ≡ k → ⊥) → IsMember stack d j m → IsMember stack d k n → Under stack x m → Under stack x n → ⊥
  members_apart d j k m n x other left right u v = elim (under_one_way u v) [
    | inl w ↦ member_not_under d j k other left right w
    | inr w ↦ member_not_under d k j (λ same. other (sym same)) right left w
  ]
