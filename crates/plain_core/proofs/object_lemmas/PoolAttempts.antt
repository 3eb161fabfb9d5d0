-- Each attempt at plain pools answers a request of the machine, and where it can't, nothing does.
use Rattle.std.proofs.Common.{◌≡◌, ◌⊎◌, inl, inr, ℕ, Bool, true, false, refl, sym, ap, ◌∙◌, subst, None, Some, Result, Ok, Err}
use Rattle.stack_base.specs.declared.ids.DevId.{DevId}
use Rattle.stack_base.specs.declared.ids.PoolId.{PoolId}
use Rattle.stack_base.specs.declared.ids.PoolId.TheVariants.{FsVecs, Records}
use Rattle.stack_base.specs.declared.ids.SetId.{SetId}
use Rattle.stack_base.specs.PoolId.{pool_number}
use Rattle.bio_records.specs.declared.bio.Pad.{Pad}
use Rattle.bio_records.specs.Items.{Item}
use Rattle.bioset_pools.specs.Sets.{bios_of}
use Rattle.mempool_core.specs.Move.{PoolState, takes_ordinary, takes_spare, misses}
use Rattle.bio_books.specs.Books.{VectorItem, SlipItem}
use Rattle.run_machine.specs.declared.event.Got.{Got}
use Rattle.run_machine.specs.declared.event.Got.TheVariants as got
use Rattle.run_machine.specs.declared.event.What.{What}
use Rattle.run_machine.specs.Requests.{Reply, TakeBio, TakeVec, TakeSlip, HadBio, HadVec, HadSlip, Missed}
use Rattle.run_machine.specs.Events.{take_of, miss_of}
use Rattle.run_machine.specs.Objects.{Objects, TakesElement, clear_bio, clear_vector, clear_slip}
use Rattle.plain_core.specs.objects.Ledgers.{ledger_of}
use Rattle.plain_core.specs.objects.Pools.{uses, move_of, CanTake, IsTakeTold}
use Rattle.plain_core.specs.objects.Plain.{CoreObjects, core_pool_at, objects_of_core}
use Rattle.plain_core.specs.objects.Told.{CorePoolMoves, Takes}
use Rattle.plain_core.specs.steps.Answers.{IsAnswer, Refuses, AnswersRequest}
use Rattle.plain_core.specs.steps.Takes.{TakesPart, TakesSlip, TakesVector}
use Rattle.plain_core.specs.declared.fault.CoreFault.{CoreFault}
use Rattle.plain_core.specs.declared.fault.CoreFault.TheVariants as fault
use Rattle.plain_core.proofs.object_lemmas.OneChanged.{moves}
use Rattle.plain_core.proofs.object_lemmas.Served.{one}

-- a take that had an element
has : (old new : CoreObjects) (n : ℕ) (g : Got) → (g ≡ got.Missed → ⊥) → CorePoolMoves old n (move_of (core_pool_at old n) g) new → TakesElement (objects_of_core old) n g (objects_of_core new)
has old new n got.Ordinary some m = moves old new n takes_ordinary m
has old new n got.Spare some m = moves old new n takes_spare m
has old new n got.Missed some m = absurd (some refl)

-- an element that was had could be taken
can_have : (old : CoreObjects) (new : Objects) (n : ℕ) (waits : Bool) (g : Got) → TakesElement (objects_of_core old) n g new → CanTake (core_pool_at old n) waits g
can_have old new n waits got.Ordinary has = (has.0, tt)
can_have old new n waits got.Spare has = (has.0, tt)
can_have old new n waits got.Missed has = absurd has

-- a miss that is told
missed_told : (pool : PoolState) (waits : Bool) (id : PoolId) → IsTakeTold pool waits got.Missed → miss_of waits (uses pool) id ≡ Some (take_of waits id got.Missed)
missed_told pool true id is = rw (is refl) refl
missed_told pool false id is = refl

told_missed : (waits used : Bool) (id : PoolId) (what : What) → miss_of waits used id ≡ Some what → (what ≡ take_of waits id got.Missed) × (waits ≡ true → used ≡ true)
told_missed true true id what is = (one is, λ w. refl)
told_missed true false id what is = absurd cc
told_missed false used id what is = (one is, λ w. absurd cc)

-- what a take of a pool was, in all three kinds of takes
abbrev pub bio_reply : ℕ → Got → Bool → Reply
bio_reply n got.Ordinary used = HadBio got.Ordinary (clear_bio (ledger_of n))
bio_reply n got.Spare used = HadBio got.Spare (clear_bio (ledger_of n))
bio_reply n got.Missed used = Missed used

abbrev pub vec_reply : ℕ → Got → Bool → Reply
vec_reply n got.Ordinary used = HadVec got.Ordinary (clear_vector (ledger_of n))
vec_reply n got.Spare used = HadVec got.Spare (clear_vector (ledger_of n))
vec_reply n got.Missed used = Missed used

abbrev pub slip_reply : ℕ → Got → Bool → Reply
slip_reply n got.Ordinary used = HadSlip got.Ordinary (clear_slip (ledger_of n))
slip_reply n got.Spare used = HadSlip got.Spare (clear_slip (ledger_of n))
slip_reply n got.Missed used = Missed used

taken_bio : (old new : CoreObjects) (set : SetId) (waits : Bool) (what : What) (g : Got)
    → what ≡ take_of waits (bios_of set) g → CanTake (core_pool_at old (pool_number (bios_of set))) waits g
    → CorePoolMoves old (pool_number (bios_of set)) (move_of (core_pool_at old (pool_number (bios_of set))) g) new
    → IsAnswer old (TakeBio set waits) what (bio_reply (pool_number (bios_of set)) g (uses (core_pool_at old (pool_number (bios_of set))))) new
taken_bio old new set waits what got.Ordinary is can m = record { stack = ap (λ (o : CoreObjects). o.stack) m.2; told = ap Some (sym is); serves = (moves old new _ takes_ordinary m, refl) }
taken_bio old new set waits what got.Spare is can m = record { stack = ap (λ (o : CoreObjects). o.stack) m.2; told = ap Some (sym is); serves = (moves old new _ takes_spare m, refl) }
taken_bio old new set waits what got.Missed is can m = record {
  stack = ap (λ (o : CoreObjects). o.stack) m.2;
  told = missed_told (core_pool_at old (pool_number (bios_of set))) waits (bios_of set) can.1 ∙ ap Some (sym is);
  serves = moves old new _ (misses (uses (core_pool_at old (pool_number (bios_of set))))) m;
}

not_taken_bio : (old : CoreObjects) (set : SetId) (waits : Bool) (what : What)
    → ((g : Got) → what ≡ take_of waits (bios_of set) g → CanTake (core_pool_at old (pool_number (bios_of set))) waits g → ⊥) → Refuses old (TakeBio set waits) what
not_taken_bio old set waits what never (HadBio g bio) new is serves = never g (one is) (can_have old new _ waits g serves.0)
not_taken_bio old set waits what never (Missed used) new is serves =
    let t = told_missed waits used (bios_of set) what is in
    never got.Missed t.0 ((serves.0.0, refl), λ w. sym serves.0.1 ∙ t.1 w)
not_taken_bio old set waits what never _ new is serves = absurd serves

pub take_bio : (old new : CoreObjects) (set : SetId) (waits : Bool) (what : What) (result : Result Got CoreFault)
    → Takes old (pool_number (bios_of set)) (bios_of set) waits what result new
    → AnswersRequest old (TakeBio set waits) what (λ g. bio_reply (pool_number (bios_of set)) g (uses (core_pool_at old (pool_number (bios_of set))))) result new
take_bio old new set waits what (Ok g) t = taken_bio old new set waits what g t.0 t.1 t.2
take_bio old new set waits what (Err fault.NotEnabled) t = (t.0, not_taken_bio old set waits what t.1)
take_bio old new set waits what (Err fault.Memory) t = absurd t

taken_vec : (old new : CoreObjects) (what : What) (g : Got) → what ≡ take_of true FsVecs g → CanTake (core_pool_at old 64) true g
    → CorePoolMoves old 64 (move_of (core_pool_at old 64) g) new → IsAnswer old TakeVec what (vec_reply 64 g (uses (core_pool_at old 64))) new
taken_vec old new what got.Ordinary is can m = record { stack = ap (λ (o : CoreObjects). o.stack) m.2; told = ap Some (sym is); serves = (moves old new _ takes_ordinary m, refl) }
taken_vec old new what got.Spare is can m = record { stack = ap (λ (o : CoreObjects). o.stack) m.2; told = ap Some (sym is); serves = (moves old new _ takes_spare m, refl) }
taken_vec old new what got.Missed is can m = record {
  stack = ap (λ (o : CoreObjects). o.stack) m.2;
  told = missed_told (core_pool_at old 64) true FsVecs can.1 ∙ ap Some (sym is);
  serves = moves old new _ (misses (uses (core_pool_at old 64))) m;
}

not_taken_vec : (old : CoreObjects) (what : What) → ((g : Got) → what ≡ take_of true FsVecs g → CanTake (core_pool_at old 64) true g → ⊥) → Refuses old TakeVec what
not_taken_vec old what never (HadVec g vector) new is serves = never g (one is) (can_have old new 64 true g serves.0)
not_taken_vec old what never (Missed used) new is serves =
    let t = told_missed true used FsVecs what is in
    never got.Missed t.0 ((serves.0.0, refl), λ w. sym serves.0.1 ∙ t.1 w)
not_taken_vec old what never _ new is serves = absurd serves

pub take_vec : (old new : CoreObjects) (what : What) (result : Result Got CoreFault) → Takes old 64 FsVecs true what result new
    → AnswersRequest old TakeVec what (λ g. vec_reply 64 g (uses (core_pool_at old 64))) result new
take_vec old new what (Ok g) t = taken_vec old new what g t.0 t.1 t.2
take_vec old new what (Err fault.NotEnabled) t = (t.0, not_taken_vec old what t.1)
take_vec old new what (Err fault.Memory) t = absurd t

taken_slip : (old new : CoreObjects) (dev : DevId) (what : What) (g : Got) → what ≡ take_of true (Records dev) g
    → CanTake (core_pool_at old (pool_number (Records dev))) true g → CorePoolMoves old (pool_number (Records dev)) (move_of (core_pool_at old (pool_number (Records dev))) g) new
    → IsAnswer old (TakeSlip dev) what (slip_reply (pool_number (Records dev)) g (uses (core_pool_at old (pool_number (Records dev))))) new
taken_slip old new dev what got.Ordinary is can m = record { stack = ap (λ (o : CoreObjects). o.stack) m.2; told = ap Some (sym is); serves = (moves old new _ takes_ordinary m, refl) }
taken_slip old new dev what got.Spare is can m = record { stack = ap (λ (o : CoreObjects). o.stack) m.2; told = ap Some (sym is); serves = (moves old new _ takes_spare m, refl) }
taken_slip old new dev what got.Missed is can m = record {
  stack = ap (λ (o : CoreObjects). o.stack) m.2;
  told = missed_told (core_pool_at old (pool_number (Records dev))) true (Records dev) can.1 ∙ ap Some (sym is);
  serves = moves old new _ (misses (uses (core_pool_at old (pool_number (Records dev))))) m;
}

not_taken_slip : (old : CoreObjects) (dev : DevId) (what : What)
    → ((g : Got) → what ≡ take_of true (Records dev) g → CanTake (core_pool_at old (pool_number (Records dev))) true g → ⊥) → Refuses old (TakeSlip dev) what
not_taken_slip old dev what never (HadSlip g slip) new is serves = never g (one is) (can_have old new _ true g serves.0)
not_taken_slip old dev what never (Missed used) new is serves =
    let t = told_missed true used (Records dev) what is in
    never got.Missed t.0 ((serves.0.0, refl), λ w. sym serves.0.1 ∙ t.1 w)
not_taken_slip old dev what never _ new is serves = absurd serves

pub take_slip : (old new : CoreObjects) (dev : DevId) (what : What) (result : Result Got CoreFault) → Takes old (pool_number (Records dev)) (Records dev) true what result new
    → AnswersRequest old (TakeSlip dev) what (λ g. slip_reply (pool_number (Records dev)) g (uses (core_pool_at old (pool_number (Records dev))))) result new
take_slip old new dev what (Ok g) t = taken_slip old new dev what g t.0 t.1 t.2
take_slip old new dev what (Err fault.NotEnabled) t = (t.0, not_taken_slip old dev what t.1)
take_slip old new dev what (Err fault.Memory) t = absurd t

-- attempts, as a task sees them
pub part_failed : (old new : CoreObjects) (set : SetId) (waits : Bool) (what : What) (e : CoreFault)
    → Takes old (pool_number (bios_of set)) (bios_of set) waits what (Err e) new → TakesPart old set waits what (Err e) new
part_failed old new set waits what fault.NotEnabled t = take_bio old new set waits what (Err fault.NotEnabled) t
part_failed old new set waits what fault.Memory t = absurd t

pub slip_failed : (old new : CoreObjects) (dev : DevId) (what : What) (e : CoreFault)
    → Takes old (pool_number (Records dev)) (Records dev) true what (Err e) new → TakesSlip old dev what (Err e) new
slip_failed old new dev what fault.NotEnabled t = take_slip old new dev what (Err fault.NotEnabled) t
slip_failed old new dev what fault.Memory t = absurd t

-- a take of the pool of a set, by the name of the pool
of_set : (old new : CoreObjects) (set : SetId) (waits : Bool) (what : What) (pool : PoolId) (r s : Result Got CoreFault) → pool ≡ bios_of set → r ≡ s
    → Takes old (pool_number pool) pool waits what r new → Takes old (pool_number (bios_of set)) (bios_of set) waits what s new
of_set old new set waits what pool r s is was t =
    subst (λ (p : PoolId). Takes old (pool_number p) p waits what s new) is (subst (λ q. Takes old (pool_number pool) pool waits what q new) was t)

pub part_refused : (old new : CoreObjects) (set : SetId) (waits : Bool) (what : What) (pool : PoolId) (r : Result Got CoreFault) (e : CoreFault) → pool ≡ bios_of set → r ≡ Err e
    → Takes old (pool_number pool) pool waits what r new → TakesPart old set waits what (Err e) new
part_refused old new set waits what pool r e is was t = part_failed old new set waits what e (of_set old new set waits what pool r (Err e) is was t)

pub part_missed : (old new : CoreObjects) (set : SetId) (waits : Bool) (what : What) (pool : PoolId) (r : Result Got CoreFault) → pool ≡ bios_of set → r ≡ Ok got.Missed
    → Takes old (pool_number pool) pool waits what r new → TakesPart old set waits what (Ok None) new
part_missed old new set waits what pool r is was t =
    (uses (core_pool_at old (pool_number (bios_of set))), take_bio old new set waits what (Ok got.Missed) (of_set old new set waits what pool r (Ok got.Missed) is was t))

pub part_had : (old new : CoreObjects) (set : SetId) (waits : Bool) (what : What) (pool : PoolId) (r : Result Got CoreFault) (n : ℕ) (part : Item Pad) → pool ≡ bios_of set
    → n ≡ pool_number pool → part ≡ clear_bio (ledger_of n) → (r ≡ Ok got.Ordinary) ⊎ (r ≡ Ok got.Spare)
    → Takes old (pool_number pool) pool waits what r new → TakesPart old set waits what (Ok (Some part)) new
part_had old new set waits what pool r n part is number clear (inl was) t =
    let part_is : part ≡ clear_bio (ledger_of (pool_number (bios_of set))) = clear ∙ ap (λ m. clear_bio (ledger_of m)) (number ∙ ap pool_number is) in (
      got.Ordinary,
      subst (λ p. IsAnswer old (TakeBio set waits) what (HadBio got.Ordinary p) new) (sym part_is)
          (take_bio old new set waits what (Ok got.Ordinary) (of_set old new set waits what pool r (Ok got.Ordinary) is was t)),
    )
part_had old new set waits what pool r n part is number clear (inr was) t =
    let part_is : part ≡ clear_bio (ledger_of (pool_number (bios_of set))) = clear ∙ ap (λ m. clear_bio (ledger_of m)) (number ∙ ap pool_number is) in (
      got.Spare,
      subst (λ p. IsAnswer old (TakeBio set waits) what (HadBio got.Spare p) new) (sym part_is)
          (take_bio old new set waits what (Ok got.Spare) (of_set old new set waits what pool r (Ok got.Spare) is was t)),
    )

pub slip_missed : (old new : CoreObjects) (dev : DevId) (what : What) (r : Result Got CoreFault) → r ≡ Ok got.Missed
    → Takes old (pool_number (Records dev)) (Records dev) true what r new → TakesSlip old dev what (Ok None) new
slip_missed old new dev what r was t = (
  uses (core_pool_at old (pool_number (Records dev))),
  take_slip old new dev what (Ok got.Missed) (subst (λ q. Takes old (pool_number (Records dev)) (Records dev) true what q new) was t),
)

pub slip_refused : (old new : CoreObjects) (dev : DevId) (what : What) (r : Result Got CoreFault) (e : CoreFault) → r ≡ Err e
    → Takes old (pool_number (Records dev)) (Records dev) true what r new → TakesSlip old dev what (Err e) new
slip_refused old new dev what r e was t = slip_failed old new dev what e (subst (λ q. Takes old (pool_number (Records dev)) (Records dev) true what q new) was t)

pub slip_had : (old new : CoreObjects) (dev : DevId) (what : What) (r : Result Got CoreFault) (n : ℕ) (slip : SlipItem)
    → n ≡ pool_number (Records dev) → slip ≡ clear_slip (ledger_of n) → (r ≡ Ok got.Ordinary) ⊎ (r ≡ Ok got.Spare)
    → Takes old (pool_number (Records dev)) (Records dev) true what r new → TakesSlip old dev what (Ok (Some slip)) new
slip_had old new dev what r n slip number clear (inl was) t = (
  got.Ordinary,
  subst (λ p. IsAnswer old (TakeSlip dev) what (HadSlip got.Ordinary p) new) (sym (clear ∙ ap (λ m. clear_slip (ledger_of m)) number))
      (take_slip old new dev what (Ok got.Ordinary) (subst (λ q. Takes old (pool_number (Records dev)) (Records dev) true what q new) was t)),
)
slip_had old new dev what r n slip number clear (inr was) t = (
  got.Spare,
  subst (λ p. IsAnswer old (TakeSlip dev) what (HadSlip got.Spare p) new) (sym (clear ∙ ap (λ m. clear_slip (ledger_of m)) number))
      (take_slip old new dev what (Ok got.Spare) (subst (λ q. Takes old (pool_number (Records dev)) (Records dev) true what q new) was t)),
)

pub vec_refused : (old new : CoreObjects) (what : What) (r : Result Got CoreFault) (e : CoreFault) → r ≡ Err e → Takes old 64 FsVecs true what r new → TakesVector old what (Err e) new
vec_refused old new what r fault.NotEnabled was t = take_vec old new what (Err fault.NotEnabled) (subst (λ q. Takes old 64 FsVecs true what q new) was t)
vec_refused old new what r fault.Memory was t = absurd (subst (λ q. Takes old 64 FsVecs true what q new) was t)

pub vec_missed : (old new : CoreObjects) (what : What) (r : Result Got CoreFault) → r ≡ Ok got.Missed → Takes old 64 FsVecs true what r new → TakesVector old what (Ok None) new
vec_missed old new what r was t = (uses (core_pool_at old 64), take_vec old new what (Ok got.Missed) (subst (λ q. Takes old 64 FsVecs true what q new) was t))

pub vec_had : (old new : CoreObjects) (what : What) (r : Result Got CoreFault) (vector : VectorItem) → vector ≡ clear_vector (ledger_of 64)
    → (r ≡ Ok got.Ordinary) ⊎ (r ≡ Ok got.Spare) → Takes old 64 FsVecs true what r new → TakesVector old what (Ok (Some vector)) new
vec_had old new what r vector clear (inl was) t = (
  got.Ordinary,
  subst (λ p. IsAnswer old TakeVec what (HadVec got.Ordinary p) new) (sym clear)
      (take_vec old new what (Ok got.Ordinary) (subst (λ q. Takes old 64 FsVecs true what q new) was t)),
)
vec_had old new what r vector clear (inr was) t = (
  got.Spare,
  subst (λ p. IsAnswer old TakeVec what (HadVec got.Spare p) new) (sym clear)
      (take_vec old new what (Ok got.Spare) (subst (λ q. Takes old 64 FsVecs true what q new) was t)),
)
