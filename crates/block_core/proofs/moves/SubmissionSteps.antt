-- Each step of a submission is one of the events.
use Rattle.std.proofs.Common.{◌≡◌, ◌+◌, ◌*◌, ◌<◌, ℕ, Bool, true, false, List, Option, None, Some, inl, refl, sym, ◌∙◌, ap, subst, arith}
use Rattle.std.proofs.lemmas.Option.{none-some}
use Rattle.stack_base.specs.declared.ids.DevId.{DevId}
use Rattle.stack_base.specs.declared.ids.PoolId.TheVariants.{Bios, Records}
use Rattle.stack_base.specs.declared.ids.SetId.TheVariants.{Of}
use Rattle.stack_base.specs.declared.stack.Kind.{Kind}
use Rattle.stack_base.specs.Tree.{Tree, Leaf, Split, Mirrored}
use Rattle.mempool_core.specs.Move.{takes_ordinary, takes_spare}
use Rattle.bio_records.specs.declared.bio.Bio.{Bio}
use Rattle.bio_records.specs.declared.bio.Pad.{Pad}
use Rattle.bio_records.specs.declared.tasks.TaskLists.{TaskLists}
use Rattle.bio_records.specs.Items.{Item}
use Rattle.bio_lists.specs.Punt.{punted, unpunted}
use Rattle.bio_books.specs.Books.{Node, SlipItem, node_at, told}
use Rattle.run_machine.specs.Maps.{upd}
use Rattle.run_machine.specs.Scene.{Setup, Scene, tree_at}
use Rattle.run_machine.specs.Submissions.{Want, Takes, WantsPunt, Links, ToPush, ToCut, ToRecord, ToMaster, Doing, Rests, Drives, Copies, Breaks, Submission, legs_of}
use Rattle.run_machine.specs.Tasks.{TaskState, Writer, Rescuer, Completer, Keeper}
use Rattle.run_machine.specs.Runs.{State}
use Rattle.block_core.proofs.moves.Moves.{IsTaking, with_submission, HasSubmission, Wants, with_want}
use Rattle.block_core.proofs.moves.Moves as moves
use Rattle.block_core.proofs.sound.Invariant.{Suits, TaskIsSound, DoingIsIn, IsIn, LedgersAreNumbered, Invariant}
use Rattle.bio_books.specs.Links.{Made, NoRoom, Stray, ChainsAt, MastersAt, LegsAt}
use Rattle.run_machine.specs.declared.event.Got.{Got}
use Rattle.run_machine.specs.declared.event.Got.TheVariants as got
use Rattle.run_machine.specs.declared.event.What.{What}
use Rattle.run_machine.specs.Events.{what_of}
use Rattle.run_machine.specs.Submissions.{submission_request, submission_answered, after_miss, cut_at}
use Rattle.run_machine.specs.Requests as requests
use Rattle.run_machine.specs.Requests.{Reply}
use Rattle.run_machine.specs.Tasks.{request}
use Rattle.run_machine.specs.Objects.{Serves}
use Rattle.block_core.proofs.sound.TaskSubmissions.{submission_fits, IsBusy, wants_busy}
use Rattle.block_core.proofs.stuck.Idle.{open_in_books}
use Rattle.block_core.proofs.moves.StepsTold.{IsMove, touch_in, take_passes, paid_in, take_ordinary, take_spare, miss_passes, state_is, used_told, miss_pays, its_end, Goes}

-- what is wanted is of a device of the stack
wants_in : (setup : Setup) (doing : Doing) (dev : DevId) (want : Want) → Wants doing dev want → DoingIsIn setup doing → dev.0 < setup.count
wants_in setup (Drives bio (ToCut has)) dev want h isin = subst (λ (d : DevId). d.0 < setup.count) (sym h.0) isin
wants_in setup (Copies bio master leg has) dev want h isin = subst (λ (d : DevId). d.0 < setup.count) (sym h.0) isin
-- nothing else wants anything of a set
wants_in setup (Drives bio ToPush) dev want h isin = absurd h
wants_in setup (Drives bio ToRecord) dev want h isin = absurd h
wants_in setup (Drives bio (ToMaster slip)) dev want h isin = absurd h
wants_in setup Rests dev want h isin = absurd h
wants_in setup (Breaks breach kept) dev want h isin = absurd h

record IsSplit (t : Tree) : Type 0 where
  pub number : ℕ
  pub kind : Kind
  pub sizes : List ℕ
  pub members : ℕ → Tree
  pub is : t ≡ Split number kind sizes members

is_split : (t : Tree) (want : Want) → Suits t (ToCut want) → IsSplit t
is_split (Split number kind sizes members) want h = record { number = number; kind = kind; sizes = sizes; members = members; is = refl }
is_split (Leaf number sectors) want h = absurd h
is_split (Mirrored number sizes members) want h = absurd h

same_submission : (x : TaskState) (doing : Doing) (lists : TaskLists) → HasSubmission x doing lists → with_submission x (record { doing = doing; lists = lists }) ≡ x
same_submission (Writer number todo taken submission) doing lists h = ap (λ l. Writer number todo taken l) (sym h)
same_submission (Rescuer dev submission) doing lists h = ap (λ l. Rescuer dev l) (sym h)
same_submission (Completer disk carried) doing lists h = absurd h
same_submission (Keeper keeping) doing lists h = absurd h

-- a task that wants a bio or a record asks for it
asks_sub_in : (setup : Setup) (doing : Doing) (lists : TaskLists) (dev : DevId) (waits : Bool) → Wants doing dev (Takes waits) → IsTaking (submission_request setup doing lists)
asks_sub_in setup (Drives bio (ToCut has)) lists dev waits h = subst (λ w. IsTaking (submission_request setup (Drives bio (ToCut w)) lists)) (sym h.1) tt
asks_sub_in setup (Copies bio master leg has) lists dev waits h = subst (λ w. IsTaking (submission_request setup (Copies bio master leg w) lists)) (sym h.1) tt
-- nothing else wants anything of a set
asks_sub_in setup (Drives bio ToPush) lists dev waits h = absurd h
asks_sub_in setup (Drives bio ToRecord) lists dev waits h = absurd h
asks_sub_in setup (Drives bio (ToMaster slip)) lists dev waits h = absurd h
asks_sub_in setup Rests lists dev waits h = absurd h
asks_sub_in setup (Breaks breach kept) lists dev waits h = absurd h

-- a task that submits asks for what its submission does
pub asks_submission : (setup : Setup) (x : TaskState) (doing : Doing) (lists : TaskLists) → HasSubmission x doing lists → IsBusy doing → request setup x ≡ submission_request setup doing lists
asks_submission setup (Writer number todo taken submission) doing lists h busy = ap (λ l. request setup (Writer number todo taken l)) h ∙ busy_writer doing busy
  where
    busy_writer : (doing : Doing) → IsBusy doing → request setup (Writer number todo taken (record { doing = doing; lists = lists })) ≡ submission_request setup doing lists
    busy_writer Rests busy = absurd busy
    busy_writer (Drives bio ask) busy = refl
    busy_writer (Copies bio master leg want) busy = refl
    busy_writer (Breaks breach kept) busy = refl
asks_submission setup (Rescuer dev submission) doing lists h busy = ap (λ l. request setup (Rescuer dev l)) h ∙ busy_rescuer doing busy
  where
    busy_rescuer : (doing : Doing) → IsBusy doing → request setup (Rescuer dev (record { doing = doing; lists = lists })) ≡ submission_request setup doing lists
    busy_rescuer Rests busy = absurd busy
    busy_rescuer (Drives bio ask) busy = refl
    busy_rescuer (Copies bio master leg want) busy = refl
    busy_rescuer (Breaks breach kept) busy = refl
asks_submission setup (Completer disk carried) doing lists h busy = absurd h
asks_submission setup (Keeper keeping) doing lists h busy = absurd h

module _ (scene : Scene) (s : State) (f : LedgersAreNumbered scene) (i : Invariant scene s) (place : ℕ) (here : place < scene.tasks) (what : What) (new : State) where
  asks_sub : (x : TaskState) (doing : Doing) (lists : TaskLists) (dev : DevId) (waits : Bool) → HasSubmission x doing lists → Wants doing dev (Takes waits) → IsTaking (request scene.setup x)
  asks_sub x doing lists dev waits h wants =
      subst IsTaking (sym (asks_submission scene.setup x doing lists h (wants_busy doing dev (Takes waits) wants))) (asks_sub_in scene.setup doing lists dev waits wants)

  asks_slip : (x : TaskState) (bio : Item Pad) (lists : TaskLists) → HasSubmission x (Drives bio ToRecord) lists → IsTaking (request scene.setup x)
  asks_slip x bio lists h = subst IsTaking (sym (asks_submission scene.setup x (Drives bio ToRecord) lists h tt)) tt

  -- the bio at hand is at a device
  there : (x : TaskState) (doing : Doing) (lists : TaskLists) → s.task place ≡ x → HasSubmission x doing lists → DoingIsIn scene.setup doing
  there x doing lists is h = by_task x h (subst (IsIn scene.setup) is (i.devices place))
    where
      by_task : (x : TaskState) → HasSubmission x doing lists → IsIn scene.setup x → DoingIsIn scene.setup doing
      by_task (Writer number todo taken submission) h isin = subst (λ (l : Submission). DoingIsIn scene.setup l.doing) h isin
      by_task (Rescuer dev submission) h isin = subst (λ (l : Submission). DoingIsIn scene.setup l.doing) h isin
      by_task (Completer disk carried) h isin = absurd h
      by_task (Keeper keeping) h isin = absurd h

  -- the driver of a bio, or a mirror that copies one, wants something of the device's set
  takes_sub : (x : TaskState) (doing : Doing) (lists : TaskLists) (dev : DevId) (waits : Bool) → s.task place ≡ x → HasSubmission x doing lists → Wants doing dev (Takes waits)
      → with_want doing (Takes waits) ≡ doing → (reply : Reply) → what_of (requests.TakeBio (Of dev) waits) reply ≡ Some what
      → Serves scene.ledger s.objects (requests.TakeBio (Of dev) waits) reply new.objects
      → ((from : Got) (hand : Item Pad) → reply ≡ requests.HadBio from hand → Goes s place new (with_submission x (record { doing = with_want doing (Links hand); lists = lists })))
      → ((used : Bool) → reply ≡ requests.Missed used → Goes s place new (with_submission x (record { doing = with_want doing (after_miss waits); lists = lists }))) → IsMove scene s place what new
  -- it has a bio, an ordinary one or a spare
  takes_sub x doing lists dev waits is h wants own (requests.HadBio got.Ordinary hand) told serves had missed =
      let goes2 = had got.Ordinary hand refl ∙ ap (λ item. upd s.task place (with_submission x (record { doing = with_want doing (Links item); lists = lists }))) serves.1 in
      record { move = moves.TakesSub place x doing lists dev waits takes_ordinary; can = (here, is, h, wants, tt, serves.0.0); is = state_is new _ _ serves.0.1 goes2; at = refl; touches = sym (ap touch_in told) ∙ take_passes waits (Bios dev) got.Ordinary; pays = λ was_master. sym (ap (paid_in (its_end s place was_master)) told) ∙ take_ordinary (its_end s place was_master) waits (Bios dev) }
  takes_sub x doing lists dev waits is h wants own (requests.HadBio got.Spare hand) told serves had missed =
      let goes2 = had got.Spare hand refl ∙ ap (λ item. upd s.task place (with_submission x (record { doing = with_want doing (Links item); lists = lists }))) serves.1 in
      record { move = moves.TakesSub place x doing lists dev waits takes_spare; can = (here, is, h, wants, tt, serves.0.0); is = state_is new _ _ serves.0.1 goes2; at = refl; touches = sym (ap touch_in told) ∙ take_passes waits (Bios dev) got.Spare; pays = λ was_master. sym (ap (paid_in (its_end s place was_master)) told) ∙ take_spare (its_end s place was_master) waits (Bios dev) }
  takes_sub x doing lists dev waits is h wants own (requests.HadBio got.Missed hand) told serves had missed = absurd serves.0
  -- it misses: a take that waits stays, and behind a try the task punts
  takes_sub x doing lists dev true is h wants own (requests.Missed used) told serves had missed =
      let stays = ap (λ d. with_submission x (record { doing = d; lists = lists })) own ∙ same_submission x doing lists h in
      record {
        move = moves.MissesOne place x (2 * dev.0) used;
        can = (
          here,
          is,
          serves.0,
          asks_sub x doing lists dev true h wants,
          used_told used (Bios dev) what told,
          inl (let low = wants_in scene.setup doing dev (Takes true) wants (there x doing lists is h) in omega arith),
        );
        is = state_is new _ _ serves.1 (missed used refl ∙ ap (upd s.task place) stays);
        at = refl;
        touches = sym (ap touch_in told) ∙ miss_passes true used (Bios dev);
        pays = λ was_master. miss_pays (its_end s place was_master) used (Bios dev) what told;
      }
  takes_sub x doing lists dev false is h wants own (requests.Missed used) told serves had missed =
      record { move = moves.MissesTry place x doing lists dev used; can = (here, is, h, wants, serves.0); is = state_is new _ _ serves.1 (missed used refl); at = refl; touches = sym (ap touch_in told) ∙ miss_passes false used (Bios dev); pays = λ was_master. sym (ap (paid_in (its_end s place was_master)) told) }
  takes_sub x doing lists dev waits is h wants own _ told serves had missed = absurd serves

  -- the bios of a set go from the lists to its rescuer
  punts : (x : TaskState) (doing : Doing) (lists : TaskLists) (dev : DevId) → s.task place ≡ x → HasSubmission x doing lists → Wants doing dev WantsPunt → dev.0 < scene.setup.count → (reply : Reply)
      → what_of (requests.Punt dev (punted (Of dev) lists)) reply ≡ Some what → Serves scene.ledger s.objects (requests.Punt dev (punted (Of dev) lists)) reply new.objects
      → (reply ≡ requests.Did → Goes s place new (with_submission x (record { doing = with_want doing (Takes true); lists = unpunted (Of dev) lists }))) → IsMove scene s place what new
  punts x doing lists dev is h wants there requests.Did told serves goes =
      record { move = moves.Punts place x doing lists dev; can = (here, is, h, wants, there); is = state_is new _ _ serves (goes refl); at = refl; touches = sym (ap touch_in told); pays = λ was_master. sym (ap (paid_in (its_end s place was_master)) told) }
  punts x doing lists dev is h wants there _ told serves goes = absurd serves

  -- a bio goes to its disk
  pushes : (x : TaskState) (bio : Item Pad) (lists : TaskLists) → s.task place ≡ x → HasSubmission x (Drives bio ToPush) lists → (reply : Reply)
      → what_of (requests.Push bio) reply ≡ Some what → Serves scene.ledger s.objects (requests.Push bio) reply new.objects
      → Goes s place new (with_submission x (submission_answered scene.setup (Drives bio ToPush) lists reply)) → IsMove scene s place what new
  pushes x bio lists is h requests.Did told serves goes =
      record { move = moves.Pushes place x bio lists; can = (here, is, h, there x (Drives bio ToPush) lists is h); is = state_is new _ _ serves goes; at = refl; touches = sym (ap touch_in told); pays = λ was_master. sym (ap (paid_in (its_end s place was_master)) told) }
  pushes x bio lists is h _ told serves goes = absurd serves

  -- a mirror takes a record
  takes_slip : (x : TaskState) (bio : Item Pad) (lists : TaskLists) → s.task place ≡ x → HasSubmission x (Drives bio ToRecord) lists → (reply : Reply)
      → Serves scene.ledger s.objects (requests.TakeSlip bio.bio.dev) reply new.objects
      → Goes s place new (with_submission x (submission_answered scene.setup (Drives bio ToRecord) lists reply)) → what_of (requests.TakeSlip bio.bio.dev) reply ≡ Some what → IsMove scene s place what new
  -- it has a record, an ordinary one or a spare
  takes_slip x bio lists is h (requests.HadSlip got.Ordinary slip) serves goes told =
      let goes2 = goes ∙ ap (λ r. upd s.task place (with_submission x (record { doing = Drives bio (ToMaster r); lists = lists }))) serves.1 in
      record { move = moves.TakesSlip place x bio lists takes_ordinary; can = (here, is, h, tt, serves.0.0); is = state_is new _ _ serves.0.1 goes2; at = refl; touches = sym (ap touch_in told); pays = λ was_master. sym (ap (paid_in (its_end s place was_master)) told) }
  takes_slip x bio lists is h (requests.HadSlip got.Spare slip) serves goes told =
      let goes2 = goes ∙ ap (λ r. upd s.task place (with_submission x (record { doing = Drives bio (ToMaster r); lists = lists }))) serves.1 in
      record { move = moves.TakesSlip place x bio lists takes_spare; can = (here, is, h, tt, serves.0.0); is = state_is new _ _ serves.0.1 goes2; at = refl; touches = sym (ap touch_in told); pays = λ was_master. sym (ap (paid_in (its_end s place was_master)) told) }
  takes_slip x bio lists is h (requests.HadSlip got.Missed slip) serves goes told = absurd serves.0
  -- it misses, and stays
  takes_slip x bio lists is h (requests.Missed used) serves goes told =
      record {
        move = moves.MissesOne place x (2 * bio.bio.dev.0 + 1) used;
        can = (
          here,
          is,
          serves.0,
          asks_slip x bio lists h,
          used_told used (Records bio.bio.dev) what told,
          inl (let low = there x (Drives bio ToRecord) lists is h in omega arith),
        );
        is = state_is new _ _ serves.1 (goes ∙ ap (upd s.task place) (same_submission x (Drives bio ToRecord) lists h));
        at = refl;
        touches = sym (ap touch_in told) ∙ miss_passes true used (Records bio.bio.dev);
        pays = λ was_master. miss_pays (its_end s place was_master) used (Records bio.bio.dev) what told;
      }
  takes_slip x bio lists is h _ serves goes told = absurd serves

  -- the front of a bio that is cut gets a node
  chains : (x : TaskState) (bio : Item Pad) (lists : TaskLists) (hand : Item Pad) → s.task place ≡ x → HasSubmission x (Drives bio (ToCut (Links hand))) lists → TaskIsSound scene x → (reply : Reply)
      → what_of (requests.Link bio.bio.writer (requests.Chain bio.bio.node)) reply ≡ Some what
      → Serves scene.ledger s.objects (requests.Link bio.bio.writer (requests.Chain bio.bio.node)) reply new.objects
      → Goes s place new (with_submission x (submission_answered scene.setup (Drives bio (ToCut (Links hand))) lists reply)) → IsMove scene s place what new
  chains x bio lists hand is h fits (requests.LinkedTo (Made key)) told serves goes =
      at_node (node_at (s.objects.book bio.bio.writer) bio.bio.node) refl serves.0
    where
      split : IsSplit (tree_at scene.setup bio.bio.dev)
      split = is_split (tree_at scene.setup bio.bio.dev) (Links hand) (submission_fits scene x (Drives bio (ToCut (Links hand))) lists fits h)

      at_node : (found : Option Node) → node_at (s.objects.book bio.bio.writer) bio.bio.node ≡ found
          → ChainsAt (s.objects.book bio.bio.writer) bio.bio.node found (Made key) (new.objects.book bio.bio.writer) → IsMove scene s place what new
      at_node None at c = absurd c
      at_node (Some node) at c =
          let objects = serves.1 ∙ ap (λ b. record s.objects { book = upd s.objects.book bio.bio.writer b }) c.2 in
          let goes2 = goes ∙ ap (λ t. upd s.task place (with_submission x (cut_at scene.setup lists bio hand key t))) split.is in
          record {
            move = moves.Chained place x bio lists hand split.number split.kind split.sizes split.members key node;
            can = (here, is, h, split.is, open_in_books scene s i bio.bio.writer bio.bio.node node at, at, c.1);
            is = state_is new _ _ objects goes2;
            at = refl;
            touches = sym (ap touch_in told);
            pays = λ was_master. sym (ap (paid_in (its_end s place was_master)) told);
          }
  -- a refused node is no event
  chains x bio lists hand is h fits (requests.LinkedTo (NoRoom back)) told serves goes = absurd (none-some what told)
  chains x bio lists hand is h fits (requests.LinkedTo (Stray back)) told serves goes = absurd (none-some what told)
  chains x bio lists hand is h fits _ told serves goes = absurd serves

  -- a bio that a mirror copies gets its master
  masters : (x : TaskState) (bio : Item Pad) (lists : TaskLists) (slip : SlipItem) → s.task place ≡ x → HasSubmission x (Drives bio (ToMaster slip)) lists → (reply : Reply)
      → what_of (submission_request scene.setup (Drives bio (ToMaster slip)) lists) reply ≡ Some what
      → Serves scene.ledger s.objects (submission_request scene.setup (Drives bio (ToMaster slip)) lists) reply new.objects
      → Goes s place new (with_submission x (submission_answered scene.setup (Drives bio (ToMaster slip)) lists reply)) → IsMove scene s place what new
  masters x bio lists slip is h (requests.LinkedTo (Made key)) told serves goes =
      at_node (node_at (s.objects.book bio.bio.writer) bio.bio.node) refl serves.0
    where
      at_node : (found : Option Node) → node_at (s.objects.book bio.bio.writer) bio.bio.node ≡ found
          → MastersAt (s.objects.book bio.bio.writer) bio.bio.node found bio slip (legs_of (tree_at scene.setup bio.bio.dev)) (Made key) (new.objects.book bio.bio.writer) → IsMove scene s place what new
      at_node None at c = absurd c
      at_node (Some node) at c =
          record {
            move = moves.Mastered place x bio lists slip key node;
            can = (here, is, h, open_in_books scene s i bio.bio.writer bio.bio.node node at, at, c.0);
            is = state_is new _ _ (serves.1 ∙ ap (λ b. record s.objects { book = upd s.objects.book bio.bio.writer b }) c.1) goes;
            at = refl;
            touches = sym (ap touch_in told);
            pays = λ was_master. sym (ap (paid_in (its_end s place was_master)) told);
          }
  -- a refused node is no event
  masters x bio lists slip is h (requests.LinkedTo (NoRoom back)) told serves goes = absurd (none-some what told)
  masters x bio lists slip is h (requests.LinkedTo (Stray back)) told serves goes = absurd (none-some what told)
  masters x bio lists slip is h _ told serves goes = absurd serves

  -- a leg gets its node
  legs : (x : TaskState) (bio : Bio) (master leg : ℕ) (lists : TaskLists) (hand : Item Pad) → s.task place ≡ x → HasSubmission x (Copies bio master leg (Links hand)) lists → (reply : Reply)
      → what_of (requests.Link bio.writer (requests.Leg master)) reply ≡ Some what
      → Serves scene.ledger s.objects (requests.Link bio.writer (requests.Leg master)) reply new.objects
      → Goes s place new (with_submission x (submission_answered scene.setup (Copies bio master leg (Links hand)) lists reply)) → IsMove scene s place what new
  legs x bio master leg lists hand is h (requests.LinkedTo (Made key)) told serves goes =
      at_node (node_at (s.objects.book bio.writer) master) refl serves.0
    where
      at_node : (found : Option Node) → node_at (s.objects.book bio.writer) master ≡ found
          → LegsAt (s.objects.book bio.writer) master found (Made key) (new.objects.book bio.writer) → IsMove scene s place what new
      at_node None at c = absurd c
      at_node (Some node) at c =
          record {
            move = moves.Legged place x bio lists master leg hand key node;
            can = (here, is, h, open_in_books scene s i bio.writer master node at, at, c.0);
            is = state_is new _ _ (serves.1 ∙ ap (λ b. record s.objects { book = upd s.objects.book bio.writer b }) c.1) goes;
            at = refl;
            touches = sym (ap touch_in told);
            pays = λ was_master. sym (ap (paid_in (its_end s place was_master)) told);
          }
  -- a refused node is no event
  legs x bio master leg lists hand is h (requests.LinkedTo (NoRoom back)) told serves goes = absurd (none-some what told)
  legs x bio master leg lists hand is h (requests.LinkedTo (Stray back)) told serves goes = absurd (none-some what told)
  legs x bio master leg lists hand is h _ told serves goes = absurd serves

  -- a task in a submission
  abbrev Submits : TaskState → Doing → TaskLists → Reply → Type 0
  Submits x doing lists reply =
      what_of (submission_request scene.setup doing lists) reply ≡ Some what → Serves scene.ledger s.objects (submission_request scene.setup doing lists) reply new.objects
      → Goes s place new (with_submission x (submission_answered scene.setup doing lists reply)) → IsMove scene s place what new

  pub submits : (x : TaskState) (doing : Doing) (lists : TaskLists) → s.task place ≡ x → HasSubmission x doing lists → TaskIsSound scene x → (reply : Reply) → Submits x doing lists reply
  -- it is over, or broke off: nothing is asked
  submits x Rests lists is h fits reply told serves goes = absurd serves
  submits x (Breaks breach kept) lists is h fits reply told serves goes = absurd serves
  -- a bio is at its disk
  submits x (Drives bio ToPush) lists is h fits reply told serves goes = pushes x bio lists is h reply told serves goes
  -- a bio is cut: an element for its front, a punt, and a node for the front
  submits x (Drives bio (ToCut (Takes waits))) lists is h fits reply told serves goes =
      takes_sub x (Drives bio (ToCut (Takes waits))) lists bio.bio.dev waits is h (refl, refl) refl reply told serves (had_submission reply goes) (missed_submission reply goes)
    where
      had_submission : (reply : Reply) → Goes s place new (with_submission x (submission_answered scene.setup (Drives bio (ToCut (Takes waits))) lists reply)) → (from : Got) (hand : Item Pad) → reply ≡ requests.HadBio from hand
          → Goes s place new (with_submission x (record { doing = Drives bio (ToCut (Links hand)); lists = lists }))
      had_submission reply goes from hand same = goes ∙ ap (λ r. upd s.task place (with_submission x (submission_answered scene.setup (Drives bio (ToCut (Takes waits))) lists r))) same

      missed_submission : (reply : Reply) → Goes s place new (with_submission x (submission_answered scene.setup (Drives bio (ToCut (Takes waits))) lists reply)) → (used : Bool) → reply ≡ requests.Missed used
          → Goes s place new (with_submission x (record { doing = Drives bio (ToCut (after_miss waits)); lists = lists }))
      missed_submission reply goes used same = goes ∙ ap (λ r. upd s.task place (with_submission x (submission_answered scene.setup (Drives bio (ToCut (Takes waits))) lists r))) same
  submits x (Drives bio (ToCut WantsPunt)) lists is h fits reply told serves goes =
      punts x (Drives bio (ToCut WantsPunt)) lists bio.bio.dev is h (refl, refl) (there x (Drives bio (ToCut WantsPunt)) lists is h) reply told serves
      (λ same. goes ∙ ap (λ r. upd s.task place (with_submission x (submission_answered scene.setup (Drives bio (ToCut WantsPunt)) lists r))) same)
  submits x (Drives bio (ToCut (Links hand))) lists is h fits reply told serves goes = chains x bio lists hand is h fits reply told serves goes
  -- a mirror begins with a bio: its record, and its master
  submits x (Drives bio ToRecord) lists is h fits reply told serves goes = takes_slip x bio lists is h reply serves goes told
  submits x (Drives bio (ToMaster slip)) lists is h fits reply told serves goes = masters x bio lists slip is h reply told serves goes
  -- a mirror makes its legs: an element, a punt, and a node
  submits x (Copies bio master leg (Takes waits)) lists is h fits reply told serves goes =
      takes_sub x (Copies bio master leg (Takes waits)) lists bio.dev waits is h (refl, refl) refl reply told serves (had_submission reply goes) (missed_submission reply goes)
    where
      had_submission : (reply : Reply) → Goes s place new (with_submission x (submission_answered scene.setup (Copies bio master leg (Takes waits)) lists reply)) → (from : Got) (hand : Item Pad) → reply ≡ requests.HadBio from hand
          → Goes s place new (with_submission x (record { doing = Copies bio master leg (Links hand); lists = lists }))
      had_submission reply goes from hand same = goes ∙ ap (λ r. upd s.task place (with_submission x (submission_answered scene.setup (Copies bio master leg (Takes waits)) lists r))) same

      missed_submission : (reply : Reply) → Goes s place new (with_submission x (submission_answered scene.setup (Copies bio master leg (Takes waits)) lists reply)) → (used : Bool) → reply ≡ requests.Missed used
          → Goes s place new (with_submission x (record { doing = Copies bio master leg (after_miss waits); lists = lists }))
      missed_submission reply goes used same = goes ∙ ap (λ r. upd s.task place (with_submission x (submission_answered scene.setup (Copies bio master leg (Takes waits)) lists r))) same
  submits x (Copies bio master leg WantsPunt) lists is h fits reply told serves goes =
      punts x (Copies bio master leg WantsPunt) lists bio.dev is h (refl, refl) (there x (Copies bio master leg WantsPunt) lists is h) reply told serves
      (λ same. goes ∙ ap (λ r. upd s.task place (with_submission x (submission_answered scene.setup (Copies bio master leg WantsPunt) lists r))) same)
  submits x (Copies bio master leg (Links hand)) lists is h fits reply told serves goes = legs x bio master leg lists hand is h reply told serves goes
