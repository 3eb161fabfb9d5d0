-- Each step of a completer is one of the events.
use Rattle.std.proofs.Common.{◌≡◌, ◌<◌, ℕ, Option, None, Some, inl, inr, refl, sym, ◌∙◌, ap}
use Rattle.std.proofs.lemmas.Option.{none-some}
use Rattle.stack_base.specs.declared.ids.DevId.{DevId}
use Rattle.stack_base.specs.declared.ids.Status.{Status}
use Rattle.bio_records.specs.declared.bio.Pad.{Pad}
use Rattle.bio_records.specs.Items.{Item}
use Rattle.bio_books.specs.Books.{Node, VectorItem, SlipItem, node_at, told}
use Rattle.run_machine.specs.Maps.{upd}
use Rattle.run_machine.specs.Scene.{Scene}
use Rattle.run_machine.specs.Tasks.{Completer, Carried, Empty, Brings, Carries}
use Rattle.run_machine.specs.Runs.{State}
use Rattle.block_core.specs.Paying.{end_told}
use Rattle.block_core.proofs.moves.Moves.{TellsNode}
use Rattle.block_core.proofs.moves.Moves as moves
use Rattle.block_core.proofs.sound.Invariant.{TaskIsSound, LedgersAreNumbered, Invariant}
use Rattle.bio_books.specs.Drops.{DropOutcome, DropsAt}
use Rattle.bio_books.specs.Drops as end
use Rattle.run_machine.specs.declared.event.What.{What}
use Rattle.run_machine.specs.Events.{what_of}
use Rattle.run_machine.specs.Requests as requests
use Rattle.run_machine.specs.Requests.{Reply}
use Rattle.run_machine.specs.Tasks.{after_drop}
use Rattle.run_machine.specs.Objects.{Serves}
use Rattle.block_core.proofs.stuck.Idle.{open_in_books}
use Rattle.block_core.proofs.moves.StepsTold.{IsMove, touch_in, paid_in, state_is, its_end, Goes, Moved}

module _ (scene : Scene) (s : State) (f : LedgersAreNumbered scene) (i : Invariant scene s) (place : ℕ) (here : place < scene.tasks) (what : What) (new : State) where
  -- an end is told
  tells : (disk : DevId) (carried : Carried) (writer key : ℕ) (status : Status) (part : Option (Item Pad)) (ended : DropOutcome) → s.task place ≡ Completer disk carried → TellsNode carried writer key status part
      → what_of (requests.Drop writer key status part) (requests.DroppedTo ended) ≡ Some what
      → Serves scene.ledger s.objects (requests.Drop writer key status part) (requests.DroppedTo ended) new.objects
      → Goes s place new (Completer disk (after_drop writer key ended)) → IsMove scene s place what new
  tells disk carried writer key status part ended is t told_it serves goes = at_node (node_at (s.objects.book writer) key) refl ended told_it serves.0 serves.1 goes
    where
      at_node : (found : Option Node) → node_at (s.objects.book writer) key ≡ found → (ended : DropOutcome)
          → what_of (requests.Drop writer key status part) (requests.DroppedTo ended) ≡ Some what
          → DropsAt (s.objects.book writer) key found status part ended (new.objects.book writer)
          → new.objects ≡ record s.objects { book = upd s.objects.book writer (new.objects.book writer) }
          → Goes s place new (Completer disk (after_drop writer key ended)) → IsMove scene s place what new
      at_node (Some node) at end.Left told_it drops objects goes =
          record {
            move = moves.Told place disk carried writer key status part node;
            can = (here, is, t, open_in_books scene s i writer key node at, at, drops.0);
            is = state_is new _ _ (objects ∙ ap (λ b. record s.objects { book = upd s.objects.book writer b }) drops.1) goes;
            at = refl;
            touches = sym (ap touch_in told_it);
            pays = λ was_master. sym (ap (paid_in (its_end s place was_master)) told_it) ∙ ap (end_told was_master) is;
          }
      at_node (Some node) at (end.Up closed) told_it drops objects goes =
          record {
            move = moves.Closes place disk carried writer key status part node;
            can = (here, is, t, open_in_books scene s i writer key node at, at, drops.0);
            is = state_is new _ _ (objects ∙ ap (λ b. record s.objects { book = upd s.objects.book writer b }) drops.3)
                (goes ∙ ap (λ c. upd s.task place (Completer disk (Carries writer c))) drops.2);
            at = refl;
            touches = sym (ap touch_in told_it);
            pays = λ was_master. sym (ap (paid_in (its_end s place was_master)) told_it) ∙ ap (end_told was_master) is;
          }
      at_node (Some node) at (end.Top closed) told_it drops objects goes =
          record {
            move = moves.Closes place disk carried writer key status part node;
            can = (here, is, t, open_in_books scene s i writer key node at, at, drops.0);
            is = state_is new _ _ (objects ∙ ap (λ b. record s.objects { book = upd s.objects.book writer b }) drops.3)
                (goes ∙ ap (λ c. upd s.task place (Completer disk (Carries writer c))) drops.2);
            at = refl;
            touches = sym (ap touch_in told_it);
            pays = λ was_master. sym (ap (paid_in (its_end s place was_master)) told_it) ∙ ap (end_told was_master) is;
          }
      at_node found at (end.Stray back) told_it drops objects goes = absurd (none-some what told_it)
      at_node None at end.Left told_it drops objects goes = absurd drops
      at_node None at (end.Up closed) told_it drops objects goes = absurd drops
      at_node None at (end.Top closed) told_it drops objects goes = absurd drops

  pub completes : (disk : DevId) → s.task place ≡ Completer disk Empty → TaskIsSound scene (Completer disk Empty) → (reply : Reply) → Moved scene s place what new (Completer disk Empty) reply
  completes disk is fits (requests.Completed index bio status) told serves goes =
      record { move = moves.Completed place disk index bio status (new.objects.disk disk.0); can = (here, is, fits, serves.0); is = state_is new _ _ serves.1 goes; at = refl; touches = sym (ap touch_in told); pays = λ was_master. sym (ap (paid_in (its_end s place was_master)) told) }
  completes disk is fits requests.Nothing told serves goes = absurd (none-some what told)
  completes disk is fits _ told serves goes = absurd serves

  pub ends_bio : (disk : DevId) (bio : Item Pad) (status : Status) → s.task place ≡ Completer disk (Brings bio status) → (reply : Reply) → Moved scene s place what new (Completer disk (Brings bio status)) reply
  ends_bio disk bio status is (requests.DroppedTo ended) told_it serves goes =
      tells disk (Brings bio status) bio.bio.writer bio.bio.node status (Some bio) ended is (refl, refl, refl, refl) told_it serves goes
  ends_bio disk bio status is _ told_it serves goes = absurd serves

  pub carries : (disk : DevId) (writer : ℕ) (vector : Option VectorItem) (bio : Option (Item Pad)) (slip : Option SlipItem) (parent : Option ℕ) (write : ℕ) (status : Status)
      → s.task place ≡ Completer disk (Carries writer (record { held = record { bio = bio; vector = vector; slip = slip }; parent = parent; write = write; status = status }))
      → (reply : Reply) → Moved scene s place what new (Completer disk (Carries writer (record { held = record { bio = bio; vector = vector; slip = slip }; parent = parent; write = write; status = status }))) reply
  -- gives: what the node held goes back, a vector, a bio and a record
  carries disk writer (Some v) bio slip parent write status is requests.Did told_it serves goes =
      record {
        move = moves.Gives place disk writer v.share.no (record { held = record { bio = bio; vector = Some v; slip = slip }; parent = parent; write = write; status = status }) (record { bio = bio; vector = None; slip = slip });
        can = (here, is, inl (v, refl, refl, refl), serves.0);
        is = state_is new _ _ serves.1 goes;
        at = refl;
        touches = sym (ap touch_in told_it);
        pays = λ was_master. sym (ap (paid_in (its_end s place was_master)) told_it);
      }
  carries disk writer None (Some b) slip parent write status is requests.Did told_it serves goes =
      record {
        move = moves.Gives place disk writer b.share.no (record { held = record { bio = Some b; vector = None; slip = slip }; parent = parent; write = write; status = status }) (record { bio = None; vector = None; slip = slip });
        can = (here, is, inr (inl (b, refl, refl, refl)), serves.0);
        is = state_is new _ _ serves.1 goes;
        at = refl;
        touches = sym (ap touch_in told_it);
        pays = λ was_master. sym (ap (paid_in (its_end s place was_master)) told_it);
      }
  carries disk writer None None (Some r) parent write status is requests.Did told_it serves goes =
      record {
        move = moves.Gives place disk writer r.share.no (record { held = record { bio = None; vector = None; slip = Some r }; parent = parent; write = write; status = status }) (record { bio = None; vector = None; slip = None });
        can = (here, is, inr (inr (r, refl, refl, refl)), serves.0);
        is = state_is new _ _ serves.1 goes;
        at = refl;
        touches = sym (ap touch_in told_it);
        pays = λ was_master. sym (ap (paid_in (its_end s place was_master)) told_it);
      }
  -- tells: the parent of the node is told of its end
  carries disk writer None None None (Some parent) write status is (requests.DroppedTo ended) told_it serves goes =
      tells disk (Carries writer (record { held = record { bio = None; vector = None; slip = None }; parent = Some parent; write = write; status = status })) writer parent status None ended is
      (refl, refl, refl, refl, refl) told_it serves goes
  -- ends: the write of a node without a parent is done
  carries disk writer None None None None write status is requests.Did told_it serves goes =
      record {
        move = moves.Ends place disk writer (record { held = record { bio = None; vector = None; slip = None }; parent = None; write = write; status = status });
        can = (here, is, refl, refl);
        is = state_is new _ _ serves goes;
        at = refl;
        touches = sym (ap touch_in told_it);
        pays = λ was_master. sym (ap (paid_in (its_end s place was_master)) told_it);
      }
  -- nothing else is answered
  carries disk writer (Some v) bio slip parent write status is _ told_it serves goes = absurd serves
  carries disk writer None (Some b) slip parent write status is _ told_it serves goes = absurd serves
  carries disk writer None None (Some r) parent write status is _ told_it serves goes = absurd serves
  carries disk writer None None None (Some parent) write status is _ told_it serves goes = absurd serves
  carries disk writer None None None None write status is _ told_it serves goes = absurd serves
