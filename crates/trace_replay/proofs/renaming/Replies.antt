-- A task with its nodes at other places goes on with a reply as it does, at these places.
use Rattle.std.proofs.Common.{◌≡◌, ◌<◌, ◌+◌, ℕ, Bool, true, false, List, [], ◌∷◌, Option, None, Some, refl, sym, ◌∙◌, ap, arith}
use Rattle.elem_ledger.specs.Ledger.{LedgerId}
use Rattle.stack_base.specs.declared.ids.DevId.{DevId}
use Rattle.stack_base.specs.declared.ids.Status.{Status}
use Rattle.stack_base.specs.Tree.{Tree, Leaf, Split, Mirrored}
use Rattle.stack_base.specs.Mapping.{slot}
use Rattle.stack_base.specs.declared.ids.SetId.TheVariants.{Of}
use Rattle.bio_records.specs.declared.bio.Bio.{Bio}
use Rattle.bio_records.specs.declared.bio.Pad.{Pad}
use Rattle.bio_records.specs.declared.tasks.TaskLists.{TaskLists}
use Rattle.bio_records.specs.Items.{Item}
use Rattle.bio_lists.specs.Submission.{submitted}
use Rattle.bio_split.specs.Split.{split_front, split_rest}
use Rattle.bio_books.specs.Books.{VectorItem, SlipItem}
use Rattle.bio_books.specs.Drops.{DropOutcome}
use Rattle.bio_books.specs.Drops as end
use Rattle.bio_books.specs.Links.{Made, NoRoom, Stray}
use Rattle.run_machine.specs.declared.event.What.{What}
use Rattle.run_machine.specs.Scene.{Setup, tree_at}
use Rattle.run_machine.specs.Submissions.{Takes, WantsPunt, Links, ToPush, ToCut, ToRecord, ToMaster, Doing, Rests, Drives, Copies, Breaks, first_length, mapped, legs_of, leg_at, cut_at, copies, goes_on, after_miss, submission_request, submission_answered}
use Rattle.run_machine.specs.Tasks.{Todo, Gathered, NoBio, HasBio, HasBoth, Carried, Empty, Brings, Carries, Fails, Resizes, Starts, Keeping, Keeps, Stops, TaskState, Writer, Rescuer, Completer, Keeper, needs_vector, filled, filled_short, with_bio, write_request, writer_request, rescuer_request, closed_request, carried_request, keeper_request, request, after_drop, carried_answered, answered}
use Rattle.run_machine.specs.Requests.{Request, Reply, Drop, HadBio, HadVec, HadSlip, Missed, Did, Popped, Completed, LinkedTo, DroppedTo, OutIs, Nothing}
use Rattle.run_machine.specs.Objects.{Objects, Serves}
use Rattle.run_machine.specs.Events.{what_of}
use Rattle.trace_replay.proofs.renaming.Renaming.{Places, item_to, hand_to, want_to, taken_to, lists_to, doing_to, submission_to, closed_to, carried_to, task_to, writer_in, reply_to}
use Rattle.trace_replay.proofs.renaming.Lists.{settled_to, goes_to, copies_to, submitted_to, unpunted_to}
use Rattle.block_core.proofs.sound.DoneAndRoundEvents.{none_told}

-- the bio that a mirror copies has a leg left to make
abbrev pub HasLeg : Setup → Doing → Type 0
HasLeg setup (Copies bio master leg want) = leg < legs_of (tree_at setup bio.dev)
HasLeg setup Rests = Unit {0}
HasLeg setup (Drives bio ask) = Unit {0}
HasLeg setup (Breaks breach kept) = Unit {0}

abbrev pub TaskHasLeg : Setup → TaskState → Type 0
TaskHasLeg setup (Writer number todo taken submission) = HasLeg setup submission.doing
TaskHasLeg setup (Rescuer dev submission) = HasLeg setup submission.doing
TaskHasLeg setup (Completer disk carried) = Unit {0}
TaskHasLeg setup (Keeper keeping) = Unit {0}

-- nothing is told of this
module _ (setup : Setup) (to : Places) (gone fresh : ℕ) (ledger : ℕ → LedgerId) (old new : Objects) (event : What) where
  -- so it goes on, whatever the bio names that it has no use for
  abbrev SubmissionGoes : Doing → TaskLists → ℕ → Reply → Type 0
  SubmissionGoes doing lists writer reply =
      (rest : ℕ) × (submission_answered setup (doing_to to gone doing) (lists_to to lists) (reply_to to writer fresh reply) ≡ submission_to to rest (submission_answered setup doing lists reply))

  abbrev Serving : Request → Reply → Type 0
  Serving asked reply = Serves ledger old asked reply new × (what_of asked reply ≡ Some event)

  cut_to : (lists : TaskLists) (bio hand : Item Pad) (node : ℕ) (t : Tree)
      → cut_at setup (lists_to to lists) (item_to to bio) (hand_to hand) (to bio.bio.writer node) t ≡ submission_to to gone (cut_at setup lists bio hand node t)
  cut_to lists bio hand node (Leaf number sectors) = refl
  cut_to lists bio hand node (Mirrored number sizes members) = refl
  cut_to lists bio hand node (Split number kind sizes members) =
      let n = first_length kind sizes bio.bio.range in
      let front = split_front bio hand n (Of bio.bio.dev) node in
      let child : Item Pad = record front { bio = mapped (slot kind sizes bio.bio.range.start) members front.bio } in
      ap (λ l. goes_on setup bio.bio.dev (submitted (item_to to (split_rest bio n)) l)) (submitted_to to child lists)
      ∙ ap (goes_on setup bio.bio.dev) (submitted_to to (split_rest bio n) (submitted child lists))
      ∙ goes_to to setup gone bio.bio.dev (submitted (split_rest bio n) (submitted child lists))

  leg_to : (bio : Bio) (hand : Item Pad) (leg node other : ℕ) (t : Tree) → leg < legs_of t
      → leg_at (record bio { node = other }) (hand_to hand) leg (to bio.writer node) t ≡ item_to to (leg_at bio hand leg node t)
  leg_to bio hand leg node other (Mirrored number sizes members) lt = refl
  leg_to bio hand leg node other (Leaf number sectors) lt = absurd (omega (arith, lt))
  leg_to bio hand leg node other (Split number kind sizes members) lt = absurd (omega (arith, lt))

  missed : (waits : Bool) → after_miss waits ≡ want_to (after_miss waits)
  missed true = refl
  missed false = refl

  submission_goes : (doing : Doing) (lists : TaskLists) (reply : Reply) → HasLeg setup doing → Serving (submission_request setup doing lists) reply
      → SubmissionGoes doing lists (writer_in (submission_request setup doing lists)) reply
  -- at rest, or broken off: it asks nothing
  submission_goes Rests lists reply has is = absurd is.0
  submission_goes (Breaks breach kept) lists reply has is = absurd is.0
  -- a push
  submission_goes (Drives bio ToPush) lists Did has is = (gone, goes_to to setup gone bio.bio.dev lists)
  submission_goes (Drives bio ToPush) lists _ has is = absurd is.0
  -- a take for a cut, and a punt
  submission_goes (Drives bio (ToCut (Takes waits))) lists (HadBio got hand) has is = (gone, refl)
  submission_goes (Drives bio (ToCut (Takes waits))) lists (Missed used) has is =
      (gone, ap (λ want. record { doing = Drives (item_to to bio) (ToCut want); lists = lists_to to lists }) (missed waits))
  submission_goes (Drives bio (ToCut (Takes waits))) lists _ has is = absurd is.0
  submission_goes (Drives bio (ToCut WantsPunt)) lists Did has is =
      (gone, ap (λ l. record { doing = Drives (item_to to bio) (ToCut (Takes true)); lists = l }) (unpunted_to to bio.bio.dev lists))
  submission_goes (Drives bio (ToCut WantsPunt)) lists _ has is = absurd is.0
  -- a node for the cut: a refusal is not told
  submission_goes (Drives bio (ToCut (Links hand))) lists (LinkedTo (Made node)) has is = (gone, cut_to lists bio hand node (tree_at setup bio.bio.dev))
  submission_goes (Drives bio (ToCut (Links hand))) lists (LinkedTo (NoRoom back)) has is = none_told event is.1
  submission_goes (Drives bio (ToCut (Links hand))) lists (LinkedTo (Stray back)) has is = none_told event is.1
  submission_goes (Drives bio (ToCut (Links hand))) lists _ has is = absurd is.0
  -- a record for a mirror, and a node for its master
  submission_goes (Drives bio ToRecord) lists (HadSlip got slip) has is = (gone, refl)
  submission_goes (Drives bio ToRecord) lists (Missed used) has is = (gone, refl)
  submission_goes (Drives bio ToRecord) lists _ has is = absurd is.0
  submission_goes (Drives bio (ToMaster slip)) lists (LinkedTo (Made node)) has is =
      (to bio.bio.writer bio.bio.node, copies_to to setup (to bio.bio.writer bio.bio.node) lists bio.bio node 0)
  submission_goes (Drives bio (ToMaster slip)) lists (LinkedTo (NoRoom back)) has is = none_told event is.1
  submission_goes (Drives bio (ToMaster slip)) lists (LinkedTo (Stray back)) has is = none_told event is.1
  submission_goes (Drives bio (ToMaster slip)) lists _ has is = absurd is.0
  -- a take for a leg, a punt, and its node
  submission_goes (Copies bio master leg (Takes waits)) lists (HadBio got hand) has is = (gone, refl)
  submission_goes (Copies bio master leg (Takes waits)) lists (Missed used) has is =
      (gone, ap (λ want. record { doing = Copies (record bio { node = gone }) (to bio.writer master) leg want; lists = lists_to to lists }) (missed waits))
  submission_goes (Copies bio master leg (Takes waits)) lists _ has is = absurd is.0
  submission_goes (Copies bio master leg WantsPunt) lists Did has is =
      (gone, ap (λ l. record { doing = Copies (record bio { node = gone }) (to bio.writer master) leg (Takes true); lists = l }) (unpunted_to to bio.dev lists))
  submission_goes (Copies bio master leg WantsPunt) lists _ has is = absurd is.0
  submission_goes (Copies bio master leg (Links hand)) lists (LinkedTo (Made node)) has is =
      let item = leg_at bio hand leg node (tree_at setup bio.dev) in (
        gone,
        ap (λ i. copies setup (submitted i (lists_to to lists)) (record bio { node = gone }) (to bio.writer master) (leg + 1)) (leg_to bio hand leg node gone (tree_at setup bio.dev) has)
            ∙ ap (λ l. copies setup l (record bio { node = gone }) (to bio.writer master) (leg + 1)) (submitted_to to item lists)
            ∙ copies_to to setup gone (submitted item lists) bio master (leg + 1),
      )
  submission_goes (Copies bio master leg (Links hand)) lists (LinkedTo (NoRoom back)) has is = none_told event is.1
  submission_goes (Copies bio master leg (Links hand)) lists (LinkedTo (Stray back)) has is = none_told event is.1
  submission_goes (Copies bio master leg (Links hand)) lists _ has is = absurd is.0

  -- a task
  abbrev Goes : TaskState → ℕ → Reply → Type 0
  Goes x writer reply = (rest : ℕ) × (answered setup (task_to to gone x) (reply_to to writer fresh reply) ≡ task_to to rest (answered setup x reply))

  bio_goes : (writer : ℕ) (todo : Todo) (later : List Todo) (bio : Item Pad) (lists : TaskLists) (long : Bool) (reply : Reply) → Serving (with_bio writer long todo) reply
      → Goes (Writer writer (todo ∷ later) (HasBio bio) (record { doing = Rests; lists = lists })) (writer_in (with_bio writer long todo)) reply
  bio_goes writer todo later bio lists true (HadVec got vector) is = (gone, refl)
  bio_goes writer todo later bio lists true (Missed used) is = (gone, refl)
  bio_goes writer todo later bio lists true _ is = absurd is.0
  bio_goes writer todo later bio lists false (LinkedTo (Made node)) is =
      (gone, ap (λ l. Writer writer later NoBio l) (settled_to to setup gone (filled_short writer todo node bio ∷ [])))
  bio_goes writer todo later bio lists false (LinkedTo (NoRoom back)) is = none_told event is.1
  bio_goes writer todo later bio lists false (LinkedTo (Stray back)) is = none_told event is.1
  bio_goes writer todo later bio lists false _ is = absurd is.0

  write_goes : (writer : ℕ) (todo : List Todo) (taken : Gathered) (lists : TaskLists) (reply : Reply) → Serving (write_request writer todo taken) reply
      → Goes (Writer writer todo taken (record { doing = Rests; lists = lists })) (writer_in (write_request writer todo taken)) reply
  write_goes writer [] taken lists reply is = absurd is.0
  write_goes writer (todo ∷ later) NoBio lists (HadBio got bio) is = (gone, refl)
  write_goes writer (todo ∷ later) NoBio lists (Missed used) is = (gone, refl)
  write_goes writer (todo ∷ later) NoBio lists _ is = absurd is.0
  write_goes writer (todo ∷ later) (HasBio bio) lists reply is = bio_goes writer todo later bio lists (needs_vector todo.write) reply is
  write_goes writer (todo ∷ later) (HasBoth bio vector) lists (LinkedTo (Made node)) is =
      (gone, ap (λ l. Writer writer later NoBio l) (settled_to to setup gone (filled writer todo node bio ∷ [])))
  write_goes writer (todo ∷ later) (HasBoth bio vector) lists (LinkedTo (NoRoom back)) is = none_told event is.1
  write_goes writer (todo ∷ later) (HasBoth bio vector) lists (LinkedTo (Stray back)) is = none_told event is.1
  write_goes writer (todo ∷ later) (HasBoth bio vector) lists _ is = absurd is.0

  writer_goes : (writer : ℕ) (todo : List Todo) (taken : Gathered) (doing : Doing) (lists : TaskLists) (reply : Reply) → HasLeg setup doing
      → Serving (writer_request setup writer todo taken doing (record { doing = doing; lists = lists })) reply
      → Goes (Writer writer todo taken (record { doing = doing; lists = lists })) (writer_in (writer_request setup writer todo taken doing (record { doing = doing; lists = lists }))) reply
  writer_goes writer todo taken Rests lists reply has is = write_goes writer todo taken lists reply is
  writer_goes writer todo taken (Drives bio ask) lists reply has is =
      let submission = submission_goes (Drives bio ask) lists reply has is in (submission.0, ap (Writer writer todo (taken_to taken)) submission.1)
  writer_goes writer todo taken (Copies bio master leg want) lists reply has is =
      let submission = submission_goes (Copies bio master leg want) lists reply has is in (submission.0, ap (Writer writer todo (taken_to taken)) submission.1)
  writer_goes writer todo taken (Breaks breach kept) lists reply has is = absurd is.0

  rescuer_goes : (dev : DevId) (doing : Doing) (lists : TaskLists) (reply : Reply) → HasLeg setup doing
      → Serving (rescuer_request setup dev doing (record { doing = doing; lists = lists })) reply
      → Goes (Rescuer dev (record { doing = doing; lists = lists })) (writer_in (rescuer_request setup dev doing (record { doing = doing; lists = lists }))) reply
  rescuer_goes dev Rests lists (Popped bio) has is = (gone, ap (Rescuer dev) (settled_to to setup gone (bio ∷ [])))
  rescuer_goes dev Rests lists Nothing has is = none_told event is.1
  rescuer_goes dev Rests lists _ has is = absurd is.0
  rescuer_goes dev (Drives bio ask) lists reply has is = let submission = submission_goes (Drives bio ask) lists reply has is in (submission.0, ap (Rescuer dev) submission.1)
  rescuer_goes dev (Copies bio master leg want) lists reply has is =
      let submission = submission_goes (Copies bio master leg want) lists reply has is in (submission.0, ap (Rescuer dev) submission.1)
  rescuer_goes dev (Breaks breach kept) lists reply has is = absurd is.0

  abbrev CarriedGoes : Carried → ℕ → Reply → Type 0
  CarriedGoes carried writer reply = (rest : ℕ) × (carried_answered (carried_to to gone carried) (reply_to to writer fresh reply) ≡ carried_to to rest (carried_answered carried reply))

  told_goes : (carried : Carried) (writer : ℕ) (node : ℕ) (status : Status) (part : Option (Item Pad)) (ended : DropOutcome) → what_of (Drop writer node status part) (DroppedTo ended) ≡ Some event
      → ((e : DropOutcome) → carried_answered carried (DroppedTo e) ≡ after_drop writer node e)
      → ((e : DropOutcome) → carried_answered (carried_to to gone carried) (DroppedTo e) ≡ after_drop writer (to writer node) e)
      → CarriedGoes carried writer (DroppedTo ended)
  told_goes carried writer node status part end.Left is one other = (gone, other end.Left ∙ ap (carried_to to gone) (sym (one end.Left)))
  told_goes carried writer node status part (end.Up closed) is one other =
      (fresh, other (end.Up (closed_to (to writer) fresh closed)) ∙ ap (carried_to to fresh) (sym (one (end.Up closed))))
  told_goes carried writer node status part (end.Top closed) is one other =
      (fresh, other (end.Top (closed_to (to writer) fresh closed)) ∙ ap (carried_to to fresh) (sym (one (end.Top closed))))
  told_goes carried writer node status part (end.Stray back) is one other = none_told event is

  closed_goes : (disk : DevId) (writer : ℕ) (vector : Option VectorItem) (bio : Option (Item Pad)) (slip : Option SlipItem) (parent : Option ℕ) (write : ℕ) (status : Status) (reply : Reply)
      → Serving (closed_request writer (record { held = record { bio = bio; vector = vector; slip = slip }; parent = parent; write = write; status = status }) vector bio slip parent) reply
      → CarriedGoes (Carries writer (record { held = record { bio = bio; vector = vector; slip = slip }; parent = parent; write = write; status = status }))
      (writer_in (closed_request writer (record { held = record { bio = bio; vector = vector; slip = slip }; parent = parent; write = write; status = status }) vector bio slip parent)) reply
  closed_goes disk writer (Some vector) bio slip parent write status Did is = (gone, refl)
  closed_goes disk writer (Some vector) bio slip parent write status _ is = absurd is.0
  closed_goes disk writer None (Some bio) slip parent write status Did is = (gone, refl)
  closed_goes disk writer None (Some bio) slip parent write status _ is = absurd is.0
  closed_goes disk writer None None (Some slip) parent write status Did is = (gone, refl)
  closed_goes disk writer None None (Some slip) parent write status _ is = absurd is.0
  closed_goes disk writer None None None (Some parent) write status (DroppedTo ended) is =
      told_goes (Carries writer (record { held = record { bio = None; vector = None; slip = None }; parent = Some parent; write = write; status = status })) writer parent status None ended is.1
      (λ e. refl) (λ e. refl)
  closed_goes disk writer None None None (Some parent) write status _ is = absurd is.0
  closed_goes disk writer None None None None write status Did is = (gone, refl)
  closed_goes disk writer None None None None write status _ is = absurd is.0

  carried_goes : (disk : DevId) (carried : Carried) (reply : Reply) → Serving (carried_request disk carried) reply → CarriedGoes carried (writer_in (carried_request disk carried)) reply
  carried_goes disk Empty (Completed index bio status) is = (gone, refl)
  carried_goes disk Empty Nothing is = none_told event is.1
  carried_goes disk Empty _ is = absurd is.0
  carried_goes disk (Brings bio status) (DroppedTo ended) is =
      told_goes (Brings bio status) bio.bio.writer bio.bio.node status (Some bio) ended is.1 (λ e. refl) (λ e. refl)
  carried_goes disk (Brings bio status) _ is = absurd is.0
  carried_goes disk (Carries writer closed) reply is =
      closed_goes disk writer closed.held.vector closed.held.bio closed.held.slip closed.parent closed.write closed.status reply is
  carried_goes disk (Fails breach kept) reply is = absurd is.0

  keeper_goes : (keeping : Keeping) (reply : Reply) → Serving (keeper_request keeping) reply → Goes (Keeper keeping) (writer_in (keeper_request keeping)) reply
  keeper_goes (Keeps []) reply is = absurd is.0
  keeper_goes (Keeps (Resizes pool min later ∷ duties)) (OutIs out) is = (gone, refl)
  keeper_goes (Keeps (Resizes pool min later ∷ duties)) _ is = absurd is.0
  keeper_goes (Keeps (Starts round later ∷ duties)) Did is = (gone, refl)
  keeper_goes (Keeps (Starts round later ∷ duties)) _ is = absurd is.0
  keeper_goes (Stops breach) reply is = absurd is.0

  pub goes : (x : TaskState) (reply : Reply) → TaskHasLeg setup x → Serving (request setup x) reply → Goes x (writer_in (request setup x)) reply
  goes (Writer number todo taken submission) reply has is = writer_goes number todo taken submission.doing submission.lists reply has is
  goes (Rescuer dev submission) reply has is = rescuer_goes dev submission.doing submission.lists reply has is
  goes (Completer disk carried) reply has is = let on = carried_goes disk carried reply is in (on.0, ap (Completer disk) on.1)
  goes (Keeper keeping) reply has is = keeper_goes keeping reply is
