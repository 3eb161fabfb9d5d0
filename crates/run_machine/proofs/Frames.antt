-- Requests change one object, steps one task, and runs are joined.
use Rattle.std.proofs.Common.{◌≡◌, ◌≢◌, ◌++◌, ◌+◌, ◌*◌, ◌/◌, ◌%◌, ◌<◌, ◌==◌, if◌then◌else◌, ℕ, Bool, true, false, List, [], ◌∷◌, inl, inr, refl, sym, ap, subst, ◌∙◌, arith}
use Rattle.std.proofs.lemmas.Bool.{cases_eq, eq-eqb, ne_eqb}
use Rattle.std.proofs.lemmas.Bool.Decides.{nat_tests}
use Rattle.stack_base.specs.declared.ids.PoolId.TheVariants.{FsBios, FsVecs, Bios, Records}
use Rattle.mempool_core.specs.Move.{PoolState}
use Rattle.run_machine.specs.declared.event.Event.{Event}
use Rattle.model_disks.specs.Disks.{DiskState}
use Rattle.bio_records.specs.declared.bio.Pad.{Pad}
use Rattle.bio_records.specs.Items.{Item}
use Rattle.run_machine.specs.declared.event.Got.{Got}
use Rattle.run_machine.specs.declared.event.Got.TheVariants.{Ordinary, Spare}
use Rattle.run_machine.specs.declared.event.Got.TheVariants as got
use Rattle.run_machine.specs.Maps.{upd}
use Rattle.run_machine.specs.Scene.{Scene}
use Rattle.run_machine.specs.Requests.{TakeBio, TakeVec, TakeSlip, GiveBio, GiveVec, GiveSlip, Punt, Pop, Push, Complete, Link, Drop, Done, Resize, NextRound, LookRound, LookLeft, HadBio, HadVec, HadSlip, Missed, Did, Popped, Completed, LinkedTo, DroppedTo, OutIs, Present, LeftOver, Nothing}
use Rattle.run_machine.specs.Objects.{Objects, TallyState, TakesElement}
use Rattle.run_machine.specs.Runs.{State, IsRun}
use Rattle.run_machine.specs.Laws.{OneObjectChanges, OthersStay, RunsAreJoined, PoolsAreNumbered, OfPool, OfRescuer, OfDisk, OfTally, with_object}

-- a map that was changed at a place is the old one with its own value there
pub upd_same : {X : Type 0} (f : ℕ → X) (i : ℕ) (x : X) → upd f i x i ≡ x
unfolding upd
upd_same f i x = rw (eq-eqb i i refl) refl

pub upd_other : {X : Type 0} (f : ℕ → X) (i : ℕ) (x : X) (j : ℕ) → j ≢ i → upd f i x j ≡ f j
unfolding upd
upd_other f i x j apart = rw (ne_eqb j i apart) refl

-- what holds at each place holds so with one changed
pub upd_keeps : {X : Type 0} (P : ℕ → X → Type 0) (f : ℕ → X) (i : ℕ) (x : X) → ((j : ℕ) → P j (f j)) → P i x → (j : ℕ) → P j (upd f i x j)
upd_keeps P f i x all is j =
    elim (cases_eq j i) [
      | inl e ↦ subst (λ k. P k (upd f i x k)) (sym e) (subst (P i) (sym (upd_same f i x)) is)
      | inr apart ↦ subst (P j) (sym (upd_other f i x j apart)) (all j)
    ]

-- a map with a place changed to what it had there is as before
own_by_test : {X : Type 0} (f : ℕ → X) (i j : ℕ) (here : Bool) → (j == i) ≡ here → (if here then f i else f j) ≡ f j
own_by_test f i j true is = ap f (is_same i j is)
  where
    is_same : (i j : ℕ) → (j == i) ≡ true → i ≡ j
    is_same i j is = grind (arith, nat_tests)
own_by_test f i j false is = refl

own_at : {X : Type 0} (f : ℕ → X) (i j : ℕ) → upd f i (f i) j ≡ f j
unfolding upd
own_at f i j = own_by_test f i j (j == i) refl

pub upd_own : {X : Type 0} (f : ℕ → X) (i : ℕ) → upd f i (f i) ≡ f
upd_own f i = λ k j. own_at f i j k

-- a map that is the old one with a place changed has that place's own value there
own_place : {X : Type 0} (f g : ℕ → X) (i : ℕ) (x : X) → g ≡ upd f i x → g ≡ upd f i (g i)
own_place f g i x is = is ∙ ap (upd f i) (sym (ap (λ h. h i) is ∙ upd_same f i x))

pool_changes : (old new : Objects) (number : ℕ) (x : PoolState) → new ≡ record old { pool = upd old.pool number x }
    → new ≡ with_object old new (OfPool number)
pool_changes old new number x is = is ∙ ap (λ f. record old { pool = f }) (sym (ap (λ o. o.pool) is) ∙ own_place old.pool new.pool number x (ap (λ o. o.pool) is))

rescue_changes : (old new : Objects) (dev : ℕ) (x : List (Item Pad)) → new ≡ record old { rescue = upd old.rescue dev x }
    → new ≡ with_object old new (OfRescuer dev)
rescue_changes old new dev x is = is ∙ ap (λ f. record old { rescue = f }) (sym (ap (λ o. o.rescue) is) ∙ own_place old.rescue new.rescue dev x (ap (λ o. o.rescue) is))

disk_changes : (old new : Objects) (dev : ℕ) (x : DiskState) → new ≡ record old { disk = upd old.disk dev x }
    → new ≡ with_object old new (OfDisk dev)
disk_changes old new dev x is = is ∙ ap (λ f. record old { disk = f }) (sym (ap (λ o. o.disk) is) ∙ own_place old.disk new.disk dev x (ap (λ o. o.disk) is))

tally_changes : (old new : Objects) (x : TallyState) → new ≡ record old { tally = x } → new ≡ with_object old new OfTally
tally_changes old new x is = is ∙ ap (λ t. record old { tally = t }) (sym (ap (λ o. o.tally) is))

resized_at : (old new : Objects) (number : ℕ) (x : PoolState) (home : Bool) → new ≡ (if home then record old { pool = upd old.pool number x } else old)
    → new ≡ with_object old new (OfPool number)
resized_at old new number x true is = pool_changes old new number x is
resized_at old new number x false is = pool_changes old new number (old.pool number) (is ∙ ap (λ f. record old { pool = f }) (sym (upd_own old.pool number)))

had_changes : (old new : Objects) (number : ℕ) (from : Got) → TakesElement old number from new → new ≡ with_object old new (OfPool number)
had_changes old new number Ordinary has = pool_changes old new number _ has.1
had_changes old new number Spare has = pool_changes old new number _ has.1
had_changes old new number got.Missed has = absurd has

pub one_object_changes : OneObjectChanges
-- takes and gives change their pool
one_object_changes ledger old new (TakeBio set waits) (HadBio from bio) serves = had_changes old new _ from serves.0
one_object_changes ledger old new (TakeBio set waits) (Missed used) serves = pool_changes old new _ _ serves.1
one_object_changes ledger old new TakeVec (HadVec from vector) serves = had_changes old new _ from serves.0
one_object_changes ledger old new TakeVec (Missed used) serves = pool_changes old new _ _ serves.1
one_object_changes ledger old new (TakeSlip dev) (HadSlip from slip) serves = had_changes old new _ from serves.0
one_object_changes ledger old new (TakeSlip dev) (Missed used) serves = pool_changes old new _ _ serves.1
one_object_changes ledger old new (GiveBio bio) Did serves = pool_changes old new _ _ serves.1
one_object_changes ledger old new (GiveVec vector) Did serves = pool_changes old new _ _ serves.1
one_object_changes ledger old new (GiveSlip slip) Did serves = pool_changes old new _ _ serves.1
-- punts and pops change the list of one rescuer
one_object_changes ledger old new (Punt dev moved) Did serves = rescue_changes old new _ _ serves
one_object_changes ledger old new (Pop dev) (Popped bio) serves = serves.1
one_object_changes ledger old new (Pop dev) Nothing serves = rescue_changes old new _ (old.rescue dev.0) (serves.1 ∙ ap (λ f. record old { rescue = f }) (sym (upd_own old.rescue dev.0)))
-- pushes and completions change one disk
one_object_changes ledger old new (Push bio) Did serves = disk_changes old new _ _ serves
one_object_changes ledger old new (Complete disk) (Completed index bio status) serves = serves.1
one_object_changes ledger old new (Complete disk) Nothing serves = disk_changes old new _ (old.disk disk.0) (serves.1 ∙ ap (λ f. record old { disk = f }) (sym (upd_own old.disk disk.0)))
-- nodes that are opened or told of an end change one book
one_object_changes ledger old new (Link writer opening) (LinkedTo answer) serves = serves.1
one_object_changes ledger old new (Drop writer node status part) (DroppedTo ended) serves = serves.1
-- ends, rounds and looks change the tally alone, and a resize one pool
one_object_changes ledger old new (Done write status) Did serves = tally_changes old new _ serves
one_object_changes ledger old new (Resize pool min) (OutIs out) serves = resized_at old new _ _ (out == 0) serves.1
one_object_changes ledger old new (NextRound round) Did serves = tally_changes old new _ serves.1
one_object_changes ledger old new LookRound (Present round) serves = tally_changes old new old.tally serves.1
one_object_changes ledger old new LookLeft (LeftOver count) serves = tally_changes old new old.tally serves.1
-- no other reply is one to the request
one_object_changes ledger old new request reply serves = absurd serves

pub others_stay : OthersStay
others_stay scene old new place event steps other apart = ap (λ f. f other) steps.goes_on ∙ upd_other old.task place _ other apart

splits : (scene : Scene) (old new : State) (first second : List Event) → IsRun scene old (first ++ second) new
    → (between : State) × IsRun scene old first between × IsRun scene between second new
splits scene old new [] second run = (old, refl, run)
splits scene old new (event ∷ first) second (next, happens, run) =
    let rest = splits scene next new first second run in (rest.0, (next, happens, rest.1), rest.2)

joins : (scene : Scene) (old between new : State) (first second : List Event)
    → IsRun scene old first between → IsRun scene between second new → IsRun scene old (first ++ second) new
joins scene old between new [] second is run = subst (λ s. IsRun scene s second new) is run
joins scene old between new (event ∷ first) second (next, happens, run) more = (next, happens, joins scene next between new first second run more)

pub runs_are_joined : RunsAreJoined
runs_are_joined = record { splits = splits; joins = joins }

-- a number that is no pool of the writers is a device's
of_device : (number : ℕ) → number < 64 → (number == 65) ≡ false
of_device number small = grind (arith, nat_tests)

of_device_too : (number : ℕ) → number < 64 → (number == 64) ≡ false
of_device_too number small = grind (arith, nat_tests)

even_is : (n : ℕ) → ((2 * n) % 2 == 0) ≡ true
even_is n = grind (arith, nat_tests)

odd_is : (n : ℕ) → ((2 * n + 1) % 2 == 0) ≡ false
odd_is n = grind (arith, nat_tests)

half_of : (n : ℕ) → (2 * n) / 2 ≡ n
half_of n = omega arith

half_of_odd : (n : ℕ) → (2 * n + 1) / 2 ≡ n
half_of_odd n = omega arith

pub pools_are_numbered : PoolsAreNumbered
pools_are_numbered FsBios known = refl
pools_are_numbered FsVecs known = refl
pools_are_numbered (Bios dev) known =
    rw (of_device (2 * dev.0) (omega (arith, known)), of_device_too (2 * dev.0) (omega (arith, known)), even_is dev.0, half_of dev.0) refl
pools_are_numbered (Records dev) known =
    rw (of_device (2 * dev.0 + 1) (omega (arith, known)), of_device_too (2 * dev.0 + 1) (omega (arith, known)), odd_is dev.0, half_of_odd dev.0) refl
