-- The fragments of writes, one write after the other, and the devices that they go to.
use Rattle.std.proofs.Common.{◌+◌, ◌≤◌, ℕ, List, [], ◌∷◌, ◌++◌, length, subst, sym, inl, inr, refl, ap, ◌∙◌, add-zero, arith}
use Rattle.std.proofs.lemmas.List.{append-nil, append_assoc}
use Rattle.std.proofs.lemmas.List.Elements.{Contains-append_cases, Contains-append_right}
use Rattle.std.proofs.lemmas.List.Sums.{sum_by-cons}
use Rattle.std.specs.Prelude.{Contains}
use Rattle.stack_base.specs.declared.stack.Stack.{Stack}
use Rattle.stack_base.specs.Stack.{IsStack}
use Rattle.stack_base.specs.Tree.{tree}
use Rattle.layout_model.specs.declared.write.Write.{Write}
use Rattle.layout_model.specs.declared.fragment.Fragment.{Fragment}
use Rattle.layout_model.specs.Fragments.{AreFragments}
use Rattle.layout_model.specs.Writes.{AreWritesOf, IsWrite}
use Rattle.layout_model.specs.NeedCounts.{elements}
use Rattle.layout_model.specs.Bound.{all_elements}
use Rattle.layout_model.proofs.Apart.{frags_have}
use Rattle.layout_model.proofs.Stacks.{tree_sound, disk_under}
use Rattle.layout_model.proofs.DevicesUnder.{under_le}
use Rattle.layout_model.proofs.PiecesGiveFragments.{frags_are}
use Rattle.report_text.specs.LayoutText.{AreOnDevices}
use Rattle.biostack_top.specs.LayoutText.{AreLaid}

-- the fragments of a write go to devices of the stack
pub known_disks : (stack : Stack) → IsStack stack → (write : Write) → IsWrite stack write → (number : ℕ) (own : List Fragment)
    → AreFragments (tree stack write.dev.0) number write.start write.count own → AreOnDevices stack own
known_disks stack good write served number own are f there =
    let t = tree stack write.dev.0 in
    let sound = tree_sound stack good write.dev.0 served.known in
    let among = (frags_are t sound number 0 write.start write.count served.some f).1 ((are.each f).0 there) in
    let disk = frags_have t sound number 0 write.start write.count served.some f among in
    omega (arith, under_le stack good (disk_under stack good write.dev.0 f.disk.0 served.known disk), served.known)

-- the fragments of one more write
pub laid_more : (stack : Stack) (number : ℕ) (before : List Write) (write : Write) (all own : List Fragment) → AreLaid stack number before all
    → AreFragments (tree stack write.dev.0) (number + length before) write.start write.count own
    → AreLaid stack number (before ++ write ∷ []) (all ++ own)
laid_more stack number [] write all own none are =
    let here = subst (λ n. AreFragments (tree stack write.dev.0) n write.start write.count own) (add-zero number) are in
    (own, [], here, refl, ap (λ xs. xs ++ own) none ∙ sym (append-nil own))
laid_more stack number (first ∷ before) write all own laid are =
    let others = laid_more stack (number + 1) before write laid.1 own laid.3
    (subst (λ n. AreFragments (tree stack write.dev.0) n write.start write.count own) (omega arith) are) in
    (laid.0, laid.1 ++ own, laid.2, others, ap (λ xs. xs ++ own) laid.4 ∙ append_assoc laid.0 laid.1 own)

-- the fragments of all writes go to devices of the stack
pub laid_known : (stack : Stack) → IsStack stack → (number : ℕ) (writes : List Write) → AreWritesOf stack writes
    → (all : List Fragment) → AreLaid stack number writes all → AreOnDevices stack all
laid_known stack good number [] served all laid f there = let none : Contains [] f = subst (λ xs. Contains xs f) laid there in absurd (omega (arith, none.1))
laid_known stack good number (write ∷ more) served all laid f there =
    elim (Contains-append_cases laid.0 laid.1 f (subst (λ xs. Contains xs f) laid.4 there)) [
      | inl own ↦ known_disks stack good write (served write (0, omega arith, refl)) number laid.0 laid.2 f own
      | inr other ↦ laid_known stack good (number + 1) more (λ w c. served w (Contains-append_right (write ∷ []) more w c)) laid.1 laid.3 f other
    ]

-- each write needs its own bio, so there are no more writes than elements
pub few_writes : (stack : Stack) (writes : List Write) → length writes ≤ all_elements stack writes
few_writes stack [] = omega arith
few_writes stack (write ∷ more) = rw (sum_by-cons (λ w. elements stack w) write more) (omega (arith, few_writes stack more))
