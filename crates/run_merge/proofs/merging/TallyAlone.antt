-- The tally by itself: it goes one way, its round never falls, and what is unfinished never rises.
use Rattle.std.proofs.Common.{◌≡◌, ◌-◌, ◌≤◌, ℕ, zero, suc, List, [], ◌∷◌, sym, ◌∙◌, ap, subst, arith}
use Rattle.std.specs.Prelude.{sum, slice_set, slice_index_or}
use Rattle.std.proofs.lemmas.List.Sums.{sum_by-cons}
use Rattle.elem_ledger.specs.Ledger.{LedgerId}
use Rattle.run_machine.specs.Laws.{OfTally}
use Rattle.run_machine.specs.Objects.{TallyState}
use Rattle.run_machine.specs.Requests.{Request, Reply, Done, NextRound, LookRound, LookLeft, Present, LeftOver, Did}
use Rattle.run_merge.specs.Entries.{Entry}
use Rattle.run_merge.specs.Machines.{TallyMachine, LeadsObject}

tally_same : (old : TallyState) (request : Request) (reply : Reply) (a b : TallyState) → TallyMachine old request reply a → TallyMachine old request reply b → a ≡ b
-- ends of writes
tally_same old (Done write status) Did a b x y = x ∙ sym y
tally_same old (Done write status) reply a b x y = absurd x
-- starts of rounds
tally_same old (NextRound round) Did a b x y = x.1 ∙ sym y.1
tally_same old (NextRound round) reply a b x y = absurd x
-- looks
tally_same old LookRound (Present round) a b x y = x.1 ∙ sym y.1
tally_same old LookRound reply a b x y = absurd x
tally_same old LookLeft (LeftOver count) a b x y = x.1 ∙ sym y.1
tally_same old LookLeft reply a b x y = absurd x
-- a tally is asked nothing else
tally_same old request reply a b x y = absurd x

tally_leads : (ledger : ℕ → LedgerId) (es : List Entry) (old a b : TallyState) → LeadsObject ledger OfTally old es a → LeadsObject ledger OfTally old es b → a ≡ b
tally_leads ledger [] old a b x y = x ∙ sym y
tally_leads ledger (e ∷ es) old a b x y =
    tally_leads ledger es x.0 a b x.2 (subst (λ o. LeadsObject ledger OfTally o es b) (tally_same old e.asked e.reply y.0 x.0 y.1 x.1) y.2)

-- a later tally
pub record IsLaterTally (old new : TallyState) : Type 0 where
  pub left : sum new.left ≤ sum old.left
  pub round : old.round ≤ new.round

set_less : (xs : List ℕ) (i : ℕ) → sum (slice_set xs i (slice_index_or xs i 0 - 1)) ≤ sum xs
set_less [] i = omega arith
set_less (x ∷ xs) zero = omega (arith, sum_by-cons (λ (n : ℕ). n) (x - 1) xs, sum_by-cons (λ (n : ℕ). n) x xs)
set_less (x ∷ xs) (suc i) =
    omega (arith, sum_by-cons (λ (n : ℕ). n) x (slice_set xs i (slice_index_or xs i 0 - 1)), sum_by-cons (λ (n : ℕ). n) x xs, set_less xs i)

same_later : (old new : TallyState) → new ≡ old → IsLaterTally old new
same_later old new is = let a = ap (λ (t : TallyState). sum t.left) is in let b = ap (λ (t : TallyState). t.round) is in record { left = omega (arith, a); round = omega (arith, b) }

one_later : (old : TallyState) (request : Request) (reply : Reply) (new : TallyState) → TallyMachine old request reply new → IsLaterTally old new
-- ends of writes: no more are unfinished than before
one_later old (Done write status) Did new h =
    let a = ap (λ (t : TallyState). sum t.left) h in
    let b = ap (λ (t : TallyState). t.round) h in
    record { left = omega (arith, a, set_less old.left old.round); round = omega (arith, b) }
one_later old (Done write status) reply new h = absurd h
-- starts of rounds: the round is one later
one_later old (NextRound round) Did new h =
    let a = ap (λ (t : TallyState). sum t.left) h.1 in
    let b = ap (λ (t : TallyState). t.round) h.1 in
    record { left = omega (arith, a); round = omega (arith, b) }
one_later old (NextRound round) reply new h = absurd h
-- looks: the same tally
one_later old LookRound (Present round) new h = same_later old new h.1
one_later old LookRound reply new h = absurd h
one_later old LookLeft (LeftOver count) new h = same_later old new h.1
one_later old LookLeft reply new h = absurd h
-- a tally is asked nothing else
one_later old request reply new h = absurd h

tally_later : (ledger : ℕ → LedgerId) (es : List Entry) (old new : TallyState) → LeadsObject ledger OfTally old es new → IsLaterTally old new
tally_later ledger [] old new h = same_later old new h
tally_later ledger (e ∷ es) old new h =
    let a = one_later old e.asked e.reply h.0 h.1 in
    let b = tally_later ledger es h.0 new h.2 in
    record { left = omega (arith, a.left, b.left); round = omega (arith, a.round, b.round) }

-- behind the same entries it is the same, and later ones leave a later one
pub from_there : (ledger : ℕ → LedgerId) (first more : List Entry) (old here there new : TallyState) → LeadsObject ledger OfTally old first here
    → LeadsObject ledger OfTally old first there → LeadsObject ledger OfTally here more new → IsLaterTally there new
from_there ledger first more old here there new leads same on =
    tally_later ledger more there new (subst (λ (t : TallyState). LeadsObject ledger OfTally t more new) (tally_leads ledger first old here there leads same) on)
