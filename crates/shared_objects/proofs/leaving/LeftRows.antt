-- What is left of rows of locks.
use Rattle.std.proofs.Common.{◌≡◌, ℕ, List, [], All, ap, sym, subst, ◌∙◌}
use Rattle.std.specs.Prelude.{◌++◌}
use Rattle.seat_lock.specs.declared.lock.Shut.{Shut}
use Rattle.seat_lock.specs.Seats.{LockId, SeatState}
use Rattle.run_machine.specs.Requests.{Request}
use Rattle.stack_base.specs.declared.ids.DevId.{DevId}
use Rattle.model_disks.specs.Disks.{DiskState}
use Rattle.run_machine.specs.Laws.{Object, OfDisk}
use Rattle.object_things.specs.Stamps.{CommonState, Stamped, MarkState, ThingState, Told, thing_state}
use Rattle.object_things.specs.Disks.{disk_mark}
use Rattle.shared_objects.specs.Holding.{IsNamed, dev_key}
use Rattle.shared_objects.specs.Rows.{AbreastThree, AreAdded}
use Rattle.shared_objects.specs.Shutting.{IsShutDisk}

-- what was added to nothing is all
pub all_added : {X Y Z : Type 0} (P : X → Y → Z → Type 0) (xs : List X) (ys : List Y) (olds news : List Z) → olds ≡ [] → AreAdded P xs ys olds news → AbreastThree P xs ys news
all_added P xs ys olds news none are = subst (AbreastThree P xs ys) (sym (are.added ∙ ap (λ l. l ++ are.made) none)) are.are

-- the device of a disk's name
abbrev disk_in : Object → ℕ
disk_in (OfDisk dev) = dev
disk_in name = 0

-- a row of disks, of which each knows its device
pub shut_disks : {Q S : Type 0} (common : CommonState) (locks : List (DevId × LockId (Stamped DiskState))) (firsts : List (DevId × SeatState (Stamped DiskState) Request Told))
    (olds news : List (Shut (Stamped DiskState) Q S (ThingState DiskState) Request Told MarkState)) → olds ≡ []
    → All (λ (e : DevId × LockId (Stamped DiskState)). IsNamed disk_mark common (OfDisk (dev_key e.0)) e.1) locks
    → AreAdded IsShutDisk locks firsts olds news
    → AbreastThree (λ lock first left. (left.thing.object.dev.0 ≡ lock.0.0) × IsShutDisk lock first left) locks firsts news
shut_disks common locks firsts olds news none named are =
    let all = all_added _ locks firsts olds news none are in record {
      lens = all.lens;
      each = λ place lock first left lt. let is = all.each place lock first left lt in (
        ap (λ (mark : MarkState). disk_in mark.name) (is.left.1 ∙ named place lock lt),
        is,
      );
    }
