-- The kinds of event, each with all that it meets: when it can come, and the state behind it.
use Rattle.std.proofs.Common.{◌≡◌, ◌+◌, ◌*◌, ◌<◌, ◌≤◌, ◌⊎◌, ◌++◌, ℕ, Bool, true, false, List, [], ◌∷◌, length, Option, None, Some}
use Rattle.std.specs.Prelude.{sum, sum_by}
use Rattle.stack_base.specs.declared.ids.DevId.{DevId}
use Rattle.stack_base.specs.declared.ids.PoolId.{PoolId}
use Rattle.stack_base.specs.declared.ids.SetId.TheVariants.{Of}
use Rattle.stack_base.specs.declared.ids.Status.{Status}
use Rattle.stack_base.specs.declared.stack.Kind.{Kind}
use Rattle.stack_base.specs.PoolId.{pool_number}
use Rattle.stack_base.specs.Mapping.{slot}
use Rattle.stack_base.specs.Tree.{Tree, Split}
use Rattle.mempool_core.specs.Move.{PoolMove, takes_ordinary, takes_spare, misses, gives, resizes, CanMove, after_move}
use Rattle.bio_records.specs.declared.bio.Bio.{Bio}
use Rattle.bio_records.specs.declared.bio.Pad.{Pad}
use Rattle.bio_records.specs.declared.tasks.TaskLists.{TaskLists}
use Rattle.bio_records.specs.Items.{Item}
use Rattle.bio_lists.specs.Submission.{submitted}
use Rattle.bio_lists.specs.Punt.{punted, unpunted}
use Rattle.bio_split.specs.Split.{split_front, split_rest}
use Rattle.bio_books.specs.Books.{Node, BookState, VectorItem, SlipItem, Holding, node_at, with_node, nothing_held, top_node, child_node, master_node, leg_node, with_kept_part, raised, lowered, told}
use Rattle.bio_books.specs.Links.{IsVacant}
use Rattle.bio_books.specs.Drops.{Closed, closed_of}
use Rattle.model_disks.specs.Disks.{DiskState}
use Rattle.model_disks.specs.Moves.{pushed, Completes}
use Rattle.run_machine.specs.Maps.{upd}
use Rattle.run_machine.specs.Scene.{Scene, tree_at}
use Rattle.run_machine.specs.Submissions.{Want, Takes, WantsPunt, Links, ToPush, ToCut, ToRecord, ToMaster, Doing, Drives, Copies, Submission, rests, settled, goes_on, copies, first_length, mapped, legs_of, leg_at}
use Rattle.run_machine.specs.Tasks.{Todo, Gathered, NoBio, HasBio, HasBoth, Carried, Empty, Brings, Carries, Fails, Duty, Resizes, Starts, Keeps, TaskState, Writer, Rescuer, Completer, Keeper, filled, filled_short, filled_vector}
use Rattle.run_machine.specs.Objects.{Objects, clear_bio, clear_vector, clear_slip, done_one}
use Rattle.run_machine.specs.Requests.{Request, TakeBio, TakeVec, TakeSlip}
use Rattle.run_machine.specs.Tasks.{request, needs_vector}
use Rattle.run_machine.specs.Runs.{State}
use Rattle.block_core.specs.Touches.{Touch, Opens, Shuts, Passes}
use Rattle.block_core.specs.Weights.{Weight, Lined, Rescued, Pending, Brought, submission_weight, task_weight, carried_weight}

-- a task with a submission goes on with another one
abbrev pub with_submission : TaskState → Submission → TaskState
with_submission (Writer number todo taken old) submission = Writer number todo taken submission
with_submission (Rescuer dev old) submission = Rescuer dev submission
with_submission (Completer disk carried) submission = Completer disk carried
with_submission (Keeper keeping) submission = Keeper keeping

abbrev pub HasSubmission : TaskState → Doing → TaskLists → Type 0
HasSubmission (Writer number todo taken submission) doing lists = submission ≡ record { doing = doing; lists = lists }
HasSubmission (Rescuer dev submission) doing lists = submission ≡ record { doing = doing; lists = lists }
HasSubmission (Completer disk carried) doing lists = ⊥
HasSubmission (Keeper keeping) doing lists = ⊥

-- the device that a task that submits stays below
abbrev pub limit_of : TaskState → ℕ
limit_of (Writer number todo taken submission) = 32
limit_of (Rescuer dev submission) = dev.0
limit_of (Completer disk carried) = 0
limit_of (Keeper keeping) = 0

-- what is done wants this of a device's set; and what is done once it wants something else
abbrev pub Wants : Doing → DevId → Want → Type 0
Wants (Drives bio (ToCut has)) dev want = (dev ≡ bio.bio.dev) × (has ≡ want)
Wants (Copies bio master leg has) dev want = (dev ≡ bio.dev) × (has ≡ want)
Wants doing dev want = ⊥

abbrev pub with_want : Doing → Want → Doing
with_want (Drives bio (ToCut has)) want = Drives bio (ToCut want)
with_want (Copies bio master leg has) want = Copies bio master leg want
with_want doing want = doing

-- the first piece of a bio that is cut, and the lists behind the cut
abbrev pub piece : Item Pad → Item Pad → ℕ → ℕ → Kind → List ℕ → (ℕ → Tree) → Item Pad
piece bio hand n node kind sizes members =
    record (split_front bio hand n (Of bio.bio.dev) node) {
      bio = mapped (slot kind sizes bio.bio.range.start) members (split_front bio hand n (Of bio.bio.dev) node).bio;
    }

abbrev pub cut_lists : Item Pad → TaskLists → Item Pad → ℕ → ℕ → Kind → List ℕ → (ℕ → Tree) → TaskLists
cut_lists bio lists hand n node kind sizes members =
    submitted (split_rest bio n) (submitted (piece bio hand n node kind sizes members) lists)

-- the number of a pool: one of a device, or one of the two that writes begin with
abbrev pub IsNumber : Scene → ℕ → Type 0
IsNumber scene number = (number < 2 * scene.setup.count) ⊎ (number < 66)

-- a task asks for an element
abbrev pub IsTaking : Request → Type 0
IsTaking (TakeBio set waits) = Unit {0}
IsTaking TakeVec = Unit {0}
IsTaking (TakeSlip dev) = Unit {0}
IsTaking request = ⊥

-- a take that has an element
abbrev pub IsTake : PoolMove → Type 0
IsTake takes_ordinary = Unit {0}
IsTake takes_spare = Unit {0}
IsTake (misses used) = ⊥
IsTake gives = ⊥
IsTake (resizes min) = ⊥

-- what a writer has in hand, by whether it has a vector
abbrev pub gathered_of : Item Pad → Option VectorItem → Gathered
gathered_of item None = HasBio item
gathered_of item (Some vector) = HasBoth item vector

abbrev pub filled_of : ℕ → Todo → Item Pad → Option VectorItem → ℕ → Item Pad
filled_of writer todo item None node = filled_short writer todo node item
filled_of writer todo item (Some vector) node = filled writer todo node item

abbrev pub vector_of : Todo → Option VectorItem → Option VectorItem
vector_of todo None = None
vector_of todo (Some vector) = Some (filled_vector todo vector)

-- a write whose bio gets no vector needs none
abbrev pub IsBare : Todo → Option VectorItem → Type 0
IsBare todo None = needs_vector todo.write ≡ false
IsBare todo (Some vector) = Unit {0}

-- what a completer tells a node: the end of the bio that it brings, or that of a closed child
abbrev pub TellsNode : Carried → ℕ → ℕ → Status → Option (Item Pad) → Type 0
TellsNode (Brings bio ending) writer key status part =
    (writer ≡ bio.bio.writer) × (key ≡ bio.bio.node) × (status ≡ ending) × (part ≡ Some bio)
TellsNode (Carries of closed) writer key status part =
    (writer ≡ of) × (closed.parent ≡ Some key) × (status ≡ closed.status) × (part ≡ None) × (closed.held ≡ nothing_held)
TellsNode Empty writer key status part = ⊥
TellsNode (Fails breach kept) writer key status part = ⊥

-- what is held releases one element, that of the pool of this number
abbrev pub Releases : Holding → ℕ → Holding → Type 0
Releases old number new =
    ((vector : VectorItem) × (old.vector ≡ Some vector) × (number ≡ vector.share.no) × (new ≡ record old { vector = None }))
    ⊎ ((bio : Item Pad) × (old.bio ≡ Some bio) × (number ≡ bio.share.no) × (new ≡ record old { bio = None }))
    ⊎ ((slip : SlipItem) × (old.slip ≡ Some slip) × (number ≡ slip.share.no) × (new ≡ record old { slip = None }))

pub data Move : Type 0 where
  -- a writer takes what a write begins with
  TakesFirst : (place writer : ℕ) (todo : Todo) (later : List Todo) (move : PoolMove) → Move
  TakesVector : (place writer : ℕ) (todo : Todo) (later : List Todo) (item : Item Pad) (move : PoolMove) → Move
  -- a submission takes a bio or a record
  TakesSub : (place : ℕ) (x : TaskState) (doing : Doing) (lists : TaskLists) (dev : DevId) (waits : Bool) (move : PoolMove) → Move
  TakesSlip : (place : ℕ) (x : TaskState) (bio : Item Pad) (lists : TaskLists) (move : PoolMove) → Move
  -- a miss that leaves the task as it is, and one behind which it punts
  MissesOne : (place : ℕ) (x : TaskState) (number : ℕ) (used : Bool) → Move
  MissesTry : (place : ℕ) (x : TaskState) (doing : Doing) (lists : TaskLists) (dev : DevId) (used : Bool) → Move
  -- bios go to a rescuer and come from it, and go to a disk and come from it
  Punts : (place : ℕ) (x : TaskState) (doing : Doing) (lists : TaskLists) (dev : DevId) → Move
  Pops : (place : ℕ) (dev : DevId) (bio : Item Pad) (bios : List (Item Pad)) → Move
  Pushes : (place : ℕ) (x : TaskState) (bio : Item Pad) (lists : TaskLists) → Move
  Completed : (place : ℕ) (disk : DevId) (index : ℕ) (bio : Item Pad) (status : Status) (new : DiskState) → Move
  -- nodes are opened: of a write, a front, a master and a leg
  Begins : (place writer : ℕ) (todo : Todo) (later : List Todo) (item : Item Pad) (vector : Option VectorItem) (key : ℕ) → Move
  Chained : (place : ℕ) (x : TaskState) (bio : Item Pad) (lists : TaskLists) (hand : Item Pad)
      (number : ℕ) (kind : Kind) (sizes : List ℕ) (members : ℕ → Tree) (key : ℕ) (node : Node) → Move
  Mastered : (place : ℕ) (x : TaskState) (bio : Item Pad) (lists : TaskLists) (slip : SlipItem) (key : ℕ) (node : Node) → Move
  Legged : (place : ℕ) (x : TaskState) (bio : Bio) (lists : TaskLists) (master leg : ℕ) (hand : Item Pad) (key : ℕ) (node : Node) → Move
  -- an end is told to a node: it waits for others, or closes
  Told : (place : ℕ) (disk : DevId) (carried : Carried) (writer key : ℕ) (status : Status) (part : Option (Item Pad)) (node : Node) → Move
  Closes : (place : ℕ) (disk : DevId) (carried : Carried) (writer key : ℕ) (status : Status) (part : Option (Item Pad)) (node : Node) → Move
  -- what a closed node held goes back, and its write is done
  Gives : (place : ℕ) (disk : DevId) (writer number : ℕ) (closed : Closed) (held : Holding) → Move
  Ends : (place : ℕ) (disk : DevId) (writer : ℕ) (closed : Closed) → Move
  -- a reserve changes between rounds, and a round starts
  Resized : (place : ℕ) (pool : PoolId) (min later : ℕ) (duties : List Duty) → Move
  Started : (place round later : ℕ) (duties : List Duty) → Move

abbrev pub Can : Scene → State → Move → Type 0
-- a writer takes what a write begins with
Can scene s (TakesFirst place writer todo later move) =
    (place < scene.tasks) × (s.task place ≡ Writer writer (todo ∷ later) NoBio rests) × IsTake move × (todo.round ≤ s.objects.tally.round)
    × CanMove (s.objects.pool 65) move
Can scene s (TakesVector place writer todo later item move) =
    (place < scene.tasks) × (s.task place ≡ Writer writer (todo ∷ later) (HasBio item) rests) × IsTake move × CanMove (s.objects.pool 64) move
    × (needs_vector todo.write ≡ true)
-- a submission takes a bio or a record
Can scene s (TakesSub place x doing lists dev waits move) =
    (place < scene.tasks) × (s.task place ≡ x) × HasSubmission x doing lists × Wants doing dev (Takes waits) × IsTake move
    × CanMove (s.objects.pool (2 * dev.0)) move
Can scene s (TakesSlip place x bio lists move) =
    (place < scene.tasks) × (s.task place ≡ x) × HasSubmission x (Drives bio ToRecord) lists × IsTake move
    × CanMove (s.objects.pool (2 * bio.bio.dev.0 + 1)) move
-- a take that has nothing
Can scene s (MissesOne place x number used) =
    (place < scene.tasks) × (s.task place ≡ x) × CanMove (s.objects.pool number) (misses used) × IsTaking (request scene.setup x)
    × (used ≡ true) × IsNumber scene number
Can scene s (MissesTry place x doing lists dev used) =
    (place < scene.tasks) × (s.task place ≡ x) × HasSubmission x doing lists × Wants doing dev (Takes false) × CanMove (s.objects.pool (2 * dev.0)) (misses used)
-- bios go to a rescuer and come from it, and go to a disk and come from it
Can scene s (Punts place x doing lists dev) =
    (place < scene.tasks) × (s.task place ≡ x) × HasSubmission x doing lists × Wants doing dev WantsPunt × (dev.0 < scene.setup.count)
Can scene s (Pops place dev bio bios) =
    (place < scene.tasks) × (s.task place ≡ Rescuer dev rests) × (dev.0 < scene.setup.count) × (s.objects.rescue dev.0 ≡ bio ∷ bios)
Can scene s (Pushes place x bio lists) =
    (place < scene.tasks) × (s.task place ≡ x) × HasSubmission x (Drives bio ToPush) lists × (bio.bio.dev.0 < scene.setup.count)
Can scene s (Completed place disk index bio status new) =
    (place < scene.tasks) × (s.task place ≡ Completer disk Empty) × (disk.0 < scene.setup.count)
    × Completes (s.objects.disk disk.0) index bio status new
-- nodes are opened: of a write, a front, a master and a leg
Can scene s (Begins place writer todo later item vector key) =
    (place < scene.tasks) × (s.task place ≡ Writer writer (todo ∷ later) (gathered_of item vector) rests) × (writer < scene.books)
    × IsVacant (s.objects.book writer) key × IsBare todo vector
Can scene s (Chained place x bio lists hand number kind sizes members key node) =
    (place < scene.tasks) × (s.task place ≡ x) × HasSubmission x (Drives bio (ToCut (Links hand))) lists
    × (tree_at scene.setup bio.bio.dev ≡ Split number kind sizes members) × (bio.bio.writer < scene.books)
    × (node_at (s.objects.book bio.bio.writer) bio.bio.node ≡ Some node) × IsVacant (s.objects.book bio.bio.writer) key
Can scene s (Mastered place x bio lists slip key node) =
    (place < scene.tasks) × (s.task place ≡ x) × HasSubmission x (Drives bio (ToMaster slip)) lists × (bio.bio.writer < scene.books)
    × (node_at (s.objects.book bio.bio.writer) bio.bio.node ≡ Some node) × IsVacant (s.objects.book bio.bio.writer) key
Can scene s (Legged place x bio lists master leg hand key node) =
    (place < scene.tasks) × (s.task place ≡ x) × HasSubmission x (Copies bio master leg (Links hand)) lists × (bio.writer < scene.books)
    × (node_at (s.objects.book bio.writer) master ≡ Some node) × IsVacant (s.objects.book bio.writer) key
-- a node is told of an end: it waits for others, or closes
Can scene s (Told place disk carried writer key status part node) =
    (place < scene.tasks) × (s.task place ≡ Completer disk carried) × TellsNode carried writer key status part × (writer < scene.books)
    × (node_at (s.objects.book writer) key ≡ Some node) × (1 < node.count)
Can scene s (Closes place disk carried writer key status part node) =
    (place < scene.tasks) × (s.task place ≡ Completer disk carried) × TellsNode carried writer key status part × (writer < scene.books)
    × (node_at (s.objects.book writer) key ≡ Some node) × (node.count ≡ 1)
-- what a closed node held goes back, and its write is done
Can scene s (Gives place disk writer number closed held) =
    (place < scene.tasks) × (s.task place ≡ Completer disk (Carries writer closed)) × Releases closed.held number held
    × (0 < (s.objects.pool number).facts.out)
Can scene s (Ends place disk writer closed) =
    (place < scene.tasks) × (s.task place ≡ Completer disk (Carries writer closed)) × (closed.held ≡ nothing_held) × (closed.parent ≡ None)
-- a reserve changes between rounds, and a round starts
Can scene s (Resized place pool min later duties) =
    (place < scene.tasks) × (s.task place ≡ Keeper (Keeps (Resizes pool min later ∷ duties)))
    × ((s.objects.pool (pool_number pool)).facts.out ≡ 0) × (sum s.objects.tally.left ≡ later)
Can scene s (Started place round later duties) =
    (place < scene.tasks) × (s.task place ≡ Keeper (Keeps (Starts round later ∷ duties)))
    × (s.objects.tally.round + 1 < length s.objects.tally.left) × (sum s.objects.tally.left ≡ later)

abbrev pub with_pool : Objects → ℕ → PoolMove → Objects
with_pool objects number move = record objects { pool = upd objects.pool number (after_move (objects.pool number) move) }

abbrev pub with_book : Objects → ℕ → BookState → Objects
with_book objects writer book = record objects { book = upd objects.book writer book }

abbrev pub after : Scene → State → Move → State
-- a writer takes what a write begins with
after scene s (TakesFirst place writer todo later move) = record {
  objects = with_pool s.objects 65 move;
  task = upd s.task place (Writer writer (todo ∷ later) (HasBio (clear_bio (scene.ledger 65))) rests);
}
after scene s (TakesVector place writer todo later item move) = record {
  objects = with_pool s.objects 64 move;
  task = upd s.task place (Writer writer (todo ∷ later) (HasBoth item (clear_vector (scene.ledger 64))) rests);
}
-- a submission takes a bio or a record
after scene s (TakesSub place x doing lists dev waits move) = record {
  objects = with_pool s.objects (2 * dev.0) move;
  task = upd s.task place (with_submission x (record { doing = with_want doing (Links (clear_bio (scene.ledger (2 * dev.0)))); lists = lists }));
}
after scene s (TakesSlip place x bio lists move) = record {
  objects = with_pool s.objects (2 * bio.bio.dev.0 + 1) move;
  task = upd s.task place (with_submission x (record { doing = Drives bio (ToMaster (clear_slip (scene.ledger (2 * bio.bio.dev.0 + 1)))); lists = lists }));
}
-- a take that has nothing
after scene s (MissesOne place x number used) = record { objects = with_pool s.objects number (misses used); task = upd s.task place x }
after scene s (MissesTry place x doing lists dev used) = record {
  objects = with_pool s.objects (2 * dev.0) (misses used);
  task = upd s.task place (with_submission x (record { doing = with_want doing WantsPunt; lists = lists }));
}
-- bios go to a rescuer and come from it, and go to a disk and come from it
after scene s (Punts place x doing lists dev) = record {
  objects = record s.objects { rescue = upd s.objects.rescue dev.0 (s.objects.rescue dev.0 ++ punted (Of dev) lists) };
  task = upd s.task place (with_submission x (record { doing = with_want doing (Takes true); lists = unpunted (Of dev) lists }));
}
after scene s (Pops place dev bio bios) = record {
  objects = record s.objects { rescue = upd s.objects.rescue dev.0 bios };
  task = upd s.task place (Rescuer dev (settled scene.setup (bio ∷ [])));
}
after scene s (Pushes place x bio lists) = record {
  objects = record s.objects { disk = upd s.objects.disk bio.bio.dev.0 (pushed bio (s.objects.disk bio.bio.dev.0)) };
  task = upd s.task place (with_submission x (goes_on scene.setup bio.bio.dev lists));
}
after scene s (Completed place disk index bio status new) = record {
  objects = record s.objects { disk = upd s.objects.disk disk.0 new };
  task = upd s.task place (Completer disk (Brings bio status));
}
-- nodes are opened: of a write, a front, a master and a leg
after scene s (Begins place writer todo later item vector key) = record {
  objects = with_book s.objects writer (with_node (s.objects.book writer) key (Some (top_node todo.number (vector_of todo vector))));
  task = upd s.task place (Writer writer later NoBio (settled scene.setup (filled_of writer todo item vector key ∷ [])));
}
after scene s (Chained place x bio lists hand number kind sizes members key node) = record {
  objects = with_book s.objects bio.bio.writer (
      with_node (with_node (s.objects.book bio.bio.writer) key (Some (child_node node.write bio.bio.node))) bio.bio.node (Some (raised node))
      );
  task = upd s.task place (with_submission x (goes_on scene.setup bio.bio.dev
      (cut_lists bio lists hand (first_length kind sizes bio.bio.range) key kind sizes members)));
}
after scene s (Mastered place x bio lists slip key node) = record {
  objects = with_book s.objects bio.bio.writer (
      with_node
      (with_node (s.objects.book bio.bio.writer) key (Some (master_node node.write bio.bio.node slip (legs_of (tree_at scene.setup bio.bio.dev)))))
      bio.bio.node (Some (with_kept_part bio node))
      );
  task = upd s.task place (with_submission x (copies scene.setup lists bio.bio key 0));
}
after scene s (Legged place x bio lists master leg hand key node) = record {
  objects = with_book s.objects bio.writer (with_node (s.objects.book bio.writer) key (Some (leg_node node.write master)));
  task = upd s.task place (with_submission x (copies scene.setup (submitted (leg_at bio hand leg key (tree_at scene.setup bio.dev)) lists) bio master (leg + 1)));
}
-- a node is told of an end: it waits for others, or closes
after scene s (Told place disk carried writer key status part node) = record {
  objects = with_book s.objects writer (with_node (s.objects.book writer) key (Some (lowered (told node status part))));
  task = upd s.task place (Completer disk Empty);
}
after scene s (Closes place disk carried writer key status part node) = record {
  objects = with_book s.objects writer (with_node (s.objects.book writer) key None);
  task = upd s.task place (Completer disk (Carries writer (closed_of (told node status part))));
}
-- what a closed node held goes back, and its write is done
after scene s (Gives place disk writer number closed held) = record {
  objects = with_pool s.objects number gives;
  task = upd s.task place (Completer disk (Carries writer (record closed { held = held })));
}
after scene s (Ends place disk writer closed) = record {
  objects = record s.objects { tally = done_one closed.write closed.status s.objects.tally };
  task = upd s.task place (Completer disk Empty);
}
-- a reserve changes between rounds, and a round starts
after scene s (Resized place pool min later duties) = record {
  objects = with_pool s.objects (pool_number pool) (resizes min);
  task = upd s.task place (Keeper (Keeps duties));
}
after scene s (Started place round later duties) = record {
  objects = record s.objects { tally = record s.objects.tally { round = s.objects.tally.round + 1 } };
  task = upd s.task place (Keeper (Keeps duties));
}

-- what an event takes away from a sum over all places, and what it adds
abbrev pub lost : Scene → Weight → State → Move → ℕ
-- a writer takes what a write begins with
lost scene w s (TakesFirst place writer todo later move) = w.todo writer (todo ∷ later) NoBio
lost scene w s (TakesVector place writer todo later item move) = w.todo writer (todo ∷ later) (HasBio item)
-- bios go to a rescuer and come from it, and go to a disk and come from it
lost scene w s (Punts place x doing lists dev) = sum_by (w.bio (Lined (limit_of x))) (punted (Of dev) lists)
lost scene w s (Pops place dev bio bios) = w.bio Rescued bio
lost scene w s (Pushes place x bio lists) = submission_weight w (limit_of x) (record { doing = Drives bio ToPush; lists = lists })
lost scene w s (Completed place disk index bio status new) = w.bio Pending bio
-- nodes are opened: of a write, a front, a master and a leg
lost scene w s (Begins place writer todo later item vector key) = task_weight w place (Writer writer (todo ∷ later) (gathered_of item vector) rests)
lost scene w s (Chained place x bio lists hand number kind sizes members key node) =
    submission_weight w (limit_of x) (record { doing = Drives bio (ToCut (Links hand)); lists = lists }) + w.node bio.bio.writer bio.bio.node node
lost scene w s (Mastered place x bio lists slip key node) =
    submission_weight w (limit_of x) (record { doing = Drives bio (ToMaster slip); lists = lists }) + w.node bio.bio.writer bio.bio.node node
lost scene w s (Legged place x bio lists master leg hand key node) =
    submission_weight w (limit_of x) (record { doing = Copies bio master leg (Links hand); lists = lists })
-- a node is told of an end: it waits for others, or closes
lost scene w s (Told place disk carried writer key status part node) = carried_weight w place carried + w.node writer key node
lost scene w s (Closes place disk carried writer key status part node) = carried_weight w place carried + w.node writer key node
-- what a closed node held goes back, and its write is done
lost scene w s (Gives place disk writer number closed held) = w.closed place writer closed
lost scene w s (Ends place disk writer closed) = w.closed place writer closed
-- nothing else touches what is counted
lost scene w s m = 0

abbrev pub gained : Scene → Weight → State → Move → ℕ
-- a writer takes what a write begins with
gained scene w s (TakesFirst place writer todo later move) =
    w.todo writer (todo ∷ later) (HasBio (clear_bio (scene.ledger 65))) + w.hand (clear_bio (scene.ledger 65))
gained scene w s (TakesVector place writer todo later item move) =
    w.todo writer (todo ∷ later) (HasBoth item (clear_vector (scene.ledger 64))) + w.vector (clear_vector (scene.ledger 64))
-- a submission takes a bio or a record
gained scene w s (TakesSub place x doing lists dev waits move) = w.hand (clear_bio (scene.ledger (2 * dev.0)))
gained scene w s (TakesSlip place x bio lists move) = w.slip (clear_slip (scene.ledger (2 * bio.bio.dev.0 + 1)))
-- bios go to a rescuer and come from it, and go to a disk and come from it
gained scene w s (Punts place x doing lists dev) = sum_by (w.bio Rescued) (punted (Of dev) lists)
gained scene w s (Pops place dev bio bios) = submission_weight w dev.0 (settled scene.setup (bio ∷ []))
gained scene w s (Pushes place x bio lists) = submission_weight w (limit_of x) (goes_on scene.setup bio.bio.dev lists) + w.bio Pending bio
gained scene w s (Completed place disk index bio status new) = w.bio Brought bio
-- nodes are opened: of a write, a front, a master and a leg
gained scene w s (Begins place writer todo later item vector key) =
    submission_weight w 32 (settled scene.setup (filled_of writer todo item vector key ∷ [])) + w.todo writer later NoBio
    + w.node writer key (top_node todo.number (vector_of todo vector))
gained scene w s (Chained place x bio lists hand number kind sizes members key node) =
    submission_weight w (limit_of x) (goes_on scene.setup bio.bio.dev (cut_lists bio lists hand (first_length kind sizes bio.bio.range) key kind sizes members))
    + w.node bio.bio.writer key (child_node node.write bio.bio.node) + w.node bio.bio.writer bio.bio.node (raised node)
gained scene w s (Mastered place x bio lists slip key node) =
    submission_weight w (limit_of x) (copies scene.setup lists bio.bio key 0)
    + w.node bio.bio.writer key (master_node node.write bio.bio.node slip (legs_of (tree_at scene.setup bio.bio.dev)))
    + w.node bio.bio.writer bio.bio.node (with_kept_part bio node)
gained scene w s (Legged place x bio lists master leg hand key node) =
    submission_weight w (limit_of x) (copies scene.setup (submitted (leg_at bio hand leg key (tree_at scene.setup bio.dev)) lists) bio master (leg + 1))
    + w.node bio.writer key (leg_node node.write master)
-- a node is told of an end: it waits for others, or closes
gained scene w s (Told place disk carried writer key status part node) = w.node writer key (lowered (told node status part))
gained scene w s (Closes place disk carried writer key status part node) = w.closed place writer (closed_of (told node status part))
-- what a closed node held goes back, and its write is done
gained scene w s (Gives place disk writer number closed held) = w.closed place writer (record closed { held = held })
-- nothing else touches what is counted
gained scene w s m = 0

-- the place of the task whose event it is
abbrev pub place_of : Move → ℕ
-- a writer takes what a write begins with
place_of (TakesFirst place writer todo later move) = place
place_of (TakesVector place writer todo later item move) = place
-- a submission takes a bio or a record
place_of (TakesSub place x doing lists dev waits move) = place
place_of (TakesSlip place x bio lists move) = place
-- a take that has nothing
place_of (MissesOne place x number used) = place
place_of (MissesTry place x doing lists dev used) = place
-- bios go to a rescuer and come from it, and go to a disk and come from it
place_of (Punts place x doing lists dev) = place
place_of (Pops place dev bio bios) = place
place_of (Pushes place x bio lists) = place
place_of (Completed place disk index bio status new) = place
-- nodes are opened: of a write, a front, a master and a leg
place_of (Begins place writer todo later item vector key) = place
place_of (Chained place x bio lists hand number kind sizes members key node) = place
place_of (Mastered place x bio lists slip key node) = place
place_of (Legged place x bio lists master leg hand key node) = place
-- a node is told of an end: it waits for others, or closes
place_of (Told place disk carried writer key status part node) = place
place_of (Closes place disk carried writer key status part node) = place
-- what a closed node held goes back, and its write is done
place_of (Gives place disk writer number closed held) = place
place_of (Ends place disk writer closed) = place
-- a reserve changes between rounds, and a round starts
place_of (Resized place pool min later duties) = place
place_of (Started place round later duties) = place

-- what it does to a node
abbrev pub touch_by : Move → Touch
-- a node is opened
touch_by (Begins place writer todo later item vector key) = Opens writer key
touch_by (Chained place x bio lists hand number kind sizes members key node) = Opens bio.bio.writer key
touch_by (Mastered place x bio lists slip key node) = Opens bio.bio.writer key
touch_by (Legged place x bio lists master leg hand key node) = Opens bio.writer key
-- a node closes
touch_by (Closes place disk carried writer key status part node) = Shuts writer key
-- no node
touch_by move = Passes
