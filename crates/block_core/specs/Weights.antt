-- Sums over all places of a state. What refers to a node, names one or is out of a pool is counted by what specs say of runs, and a count over all
-- places is such a sum; so is what is charged for the events still to come. Weights that only proofs need stand with the proofs.
use Rattle.std.specs.Prelude.{◌+◌, ◌-◌, ◌*◌, ◌==◌, if◌then◌else◌, ℕ, zero, suc, List, length, sum_by, Option, None, Some}
use Rattle.bio_records.specs.declared.bio.Bio.{Bio}
use Rattle.bio_records.specs.declared.bio.Pad.{Pad}
use Rattle.bio_records.specs.Items.{Item}
use Rattle.bio_books.specs.Books.{Node, BookState, VectorItem, SlipItem, Holding, node_at}
use Rattle.bio_books.specs.Drops.{Closed}
use Rattle.model_disks.specs.Disks.{DiskState}
use Rattle.run_machine.specs.Scene.{Setup, Scene, tree_at}
use Rattle.run_machine.specs.Submissions.{Want, Takes, WantsPunt, Links, Driving, ToPush, ToCut, ToRecord, ToMaster, Doing, Rests, Drives, Copies, Breaks, Submission, legs_of}
use Rattle.run_machine.specs.Tasks.{Todo, Gathered, NoBio, HasBio, HasBoth, Carried, Empty, Brings, Carries, Fails, TaskState, Writer, Rescuer, Completer, Keeper}
use Rattle.run_machine.specs.Runs.{State}

-- 1 where two numbers are the same
unfoldable pub one_if_same : ℕ → ℕ → ℕ
one_if_same i j = if i == j then 1 else 0

-- the sum of the weights of the places below n
unfoldable pub sum_at : {X : Type 0} → (ℕ → X → ℕ) → ℕ → (ℕ → X) → ℕ
sum_at w zero f = 0
sum_at w (suc n) f = sum_at w n f + w n (f n)

abbrev pub weigh_option : {X : Type 0} → (X → ℕ) → Option X → ℕ
weigh_option w None = 0
weigh_option w (Some x) = w x

-- where a bio is: in the submission of a task of this limit, in a rescue list, pending, or in a completer's hand
pub data Spot : Type 0 where
  Lined : (limit : ℕ) → Spot
  Rescued : Spot
  Pending : Spot
  Brought : Spot

-- one weight for each kind of thing; a node by the writer of its book and its place there, a closed one by the place of the task that carries it
pub record Weight : Type 0 where
  -- the writes that a writer has still to begin, the first of them in its hand or not
  pub todo : (writer : ℕ) → List Todo → Gathered → ℕ
  pub bio : Spot → Item Pad → ℕ
  -- a bio that a mirror copies, by the place of its master and the leg that is made next
  pub copy : Bio → (master leg : ℕ) → ℕ
  pub hand : Item Pad → ℕ
  pub vector : VectorItem → ℕ
  pub slip : SlipItem → ℕ
  pub node : (writer place : ℕ) → Node → ℕ
  pub closed : (task writer : ℕ) → Closed → ℕ

-- nothing weighs anything
abbrev pub no_weight : Weight
no_weight = record {
  todo = λ writer todos taken. 0;
  bio = λ spot bio. 0;
  copy = λ bio master leg. 0;
  hand = λ bio. 0;
  vector = λ vector. 0;
  slip = λ slip. 0;
  node = λ writer place node. 0;
  closed = λ task writer closed. 0;
}

abbrev pub want_weight : Weight → Want → ℕ
want_weight w (Takes waits) = 0
want_weight w WantsPunt = 0
want_weight w (Links hand) = w.hand hand

abbrev pub ask_weight : Weight → Driving → ℕ
ask_weight w ToPush = 0
ask_weight w (ToCut want) = want_weight w want
ask_weight w ToRecord = 0
ask_weight w (ToMaster slip) = w.slip slip

abbrev pub doing_weight : Weight → ℕ → Doing → ℕ
doing_weight w limit Rests = 0
doing_weight w limit (Drives bio ask) = w.bio (Lined limit) bio + ask_weight w ask
doing_weight w limit (Copies bio master leg want) = w.copy bio master leg + want_weight w want
doing_weight w limit (Breaks breach kept) = 0

abbrev pub submission_weight : Weight → ℕ → Submission → ℕ
submission_weight w limit submission =
    doing_weight w limit submission.doing + sum_by (w.bio (Lined limit)) submission.lists.list0 + sum_by (w.bio (Lined limit)) submission.lists.list1

abbrev pub gathered_weight : Weight → Gathered → ℕ
gathered_weight w NoBio = 0
gathered_weight w (HasBio bio) = w.hand bio
gathered_weight w (HasBoth bio vector) = w.hand bio + w.vector vector

abbrev pub carried_weight : Weight → ℕ → Carried → ℕ
carried_weight w task Empty = 0
carried_weight w task (Brings bio status) = w.bio Brought bio
carried_weight w task (Carries writer closed) = w.closed task writer closed
carried_weight w task (Fails breach kept) = 0

-- a writer submits at any device, of which there are at most 32, and the rescuer of a device's set below that device
abbrev pub task_weight : Weight → ℕ → TaskState → ℕ
task_weight w place (Writer number todo taken submission) = w.todo number todo taken + gathered_weight w taken + submission_weight w 32 submission
task_weight w place (Rescuer dev submission) = submission_weight w dev.0 submission
task_weight w place (Completer disk carried) = carried_weight w place carried
task_weight w place (Keeper keeping) = 0

-- the nodes of a book
abbrev pub book_weight : Weight → ℕ → BookState → ℕ
book_weight w writer book = sum_at (λ place. weigh_option (w.node writer place)) (length book.nodes) (node_at book)

-- the sum of the weights of all places of a state
abbrev pub total_weight : Scene → Weight → State → ℕ
total_weight scene w s =
    sum_at (task_weight w) scene.tasks s.task
    + sum_at (λ dev bios. sum_by (w.bio Rescued) bios) scene.setup.count s.objects.rescue
    + sum_at (λ dev (disk : DiskState). sum_by (w.bio Pending) disk.pending) scene.setup.count s.objects.disk
    + sum_at (book_weight w) scene.books s.objects.book

-- the elements of pool p
abbrev pub holding_elements : ℕ → Holding → ℕ
holding_elements p held =
    weigh_option (λ (bio : Item Pad). one_if_same bio.share.no p) held.bio
    + weigh_option (λ (vector : VectorItem). one_if_same vector.share.no p) held.vector
    + weigh_option (λ (slip : SlipItem). one_if_same slip.share.no p) held.slip

abbrev pub elements_of_pool : ℕ → Weight
elements_of_pool p = record {
  todo = λ writer todos taken. 0;
  bio = λ spot bio. one_if_same bio.share.no p;
  copy = λ bio master leg. 0;
  hand = λ bio. one_if_same bio.share.no p;
  vector = λ vector. one_if_same vector.share.no p;
  slip = λ slip. one_if_same slip.share.no p;
  node = λ writer place node. holding_elements p node.held;
  closed = λ task writer closed. holding_elements p closed.held;
}

-- 1 where the bio names the node at place k of writer w's book
abbrev pub names_node : ℕ → ℕ → Item Pad → ℕ
names_node w k bio = one_if_same bio.bio.writer w * one_if_same bio.bio.node k

-- 1 where the node is the parent of one of this writer
abbrev pub under : ℕ → ℕ → ℕ → Option ℕ → ℕ
under w k writer None = 0
under w k writer (Some parent) = one_if_same writer w * one_if_same parent k

-- the legs of a bio's device that are still to be made, from this one on
abbrev pub legs_left : Setup → Bio → ℕ → ℕ
legs_left setup bio leg = legs_of (tree_at setup bio.dev) - leg
