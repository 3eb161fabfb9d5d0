-- What each event does to every weight.
use Rattle.std.proofs.Common.{◌≡◌, ◌≢◌, ◌+◌, ◌*◌, ◌<◌, ◌++◌, ℕ, true, false, [], ◌∷◌, length, None, Some, sym, ◌∙◌, ap, arith, get_or, remove}
use Rattle.std.specs.Prelude.{sum_by}
use Rattle.std.proofs.lemmas.List.{get_or-set_other}
use Rattle.std.proofs.lemmas.List.Sums.{sum_by-cons, sum_by-append, sum_by_push, sum_by-remove}
use Rattle.std.proofs.lemmas.Option.{get_or_from_slice_get, slice_get_within}
use Rattle.stack_base.specs.declared.ids.SetId.TheVariants.{Of}
use Rattle.bio_lists.specs.Submission.{submitted}
use Rattle.bio_lists.specs.Punt.{punted, unpunted}
use Rattle.bio_books.specs.Books.{Node, BookState, node_at, with_node, top_node, child_node, master_node, leg_node, with_kept_part, raised, lowered, told}
use Rattle.bio_books.specs.Links.{IsVacant}
use Rattle.bio_books.specs.Drops.{closed_of}
use Rattle.model_disks.specs.Disks.{DiskState}
use Rattle.model_disks.specs.Moves.{pushed}
use Rattle.run_machine.specs.Maps.{upd}
use Rattle.run_machine.specs.Scene.{Scene, tree_at}
use Rattle.run_machine.specs.Submissions.{Want, Takes, WantsPunt, Links, ToPush, ToCut, ToRecord, ToMaster, Drives, Copies, Submission, rests, settled, goes_on, copies, first_length, legs_of, leg_at}
use Rattle.run_machine.specs.Tasks.{TaskState, Writer, Rescuer, Completer, Keeper, Keeps, Resizes, Starts, NoBio, HasBio, HasBoth, Empty, Brings, Carries}
use Rattle.run_machine.specs.Objects.{clear_bio, clear_vector, clear_slip}
use Rattle.run_machine.specs.Runs.{State}
use Rattle.block_core.specs.Weights.{Weight, Pending, Rescued, Lined, total_weight, sum_at, weigh_option, task_weight, book_weight}
use Rattle.block_core.proofs.moves.Moves.{Move, Can, after, lost, gained, limit_of, with_submission, with_want, gathered_of, filled_of, vector_of, cut_lists}
use Rattle.block_core.proofs.moves.Moves as moves
use Rattle.block_core.proofs.moves.Sums.{sum_at-upd, within_book, book_upd}
use Rattle.block_core.proofs.moves.SubmissionWeights.{submission_changes, want_changes, punted_weight}

pub vacant_at : (book : BookState) (key : ℕ) → IsVacant book key → (node_at book key ≡ None) × (key < length book.nodes)
vacant_at book key v = (get_or_from_slice_get book.nodes key None None v, slice_get_within book.nodes key None v)

-- an open node has another place than a vacant one
pub other_place : (book : BookState) (key place : ℕ) (node : Node) → IsVacant book key → node_at book place ≡ Some node → place ≢ key
other_place book key place node v found q =
    let x : node_at book place ≡ node_at book key = ap (node_at book) q in
    let y : None ≡ Some node = sym (vacant_at book key v).0 ∙ sym x ∙ found in cc

-- a task goes on
pub task_delta : (scene : Scene) (w : Weight) (s : State) (place : ℕ) (x y : TaskState) → place < scene.tasks → s.task place ≡ x
    → sum_at (task_weight w) scene.tasks (upd s.task place y) + task_weight w place x ≡ sum_at (task_weight w) scene.tasks s.task + task_weight w place y
task_delta scene w s place x y lt q =
    let g : task_weight w place (s.task place) ≡ task_weight w place x = ap (task_weight w place) q in
    omega (arith, sum_at-upd (task_weight w) scene.tasks s.task place y lt)

-- a node is made and another changes
pub two_nodes : (w : Weight) (writer : ℕ) (book : BookState) (key place : ℕ) (node new m : Node) → IsVacant book key → node_at book place ≡ Some node
    → book_weight w writer (with_node (with_node book key (Some new)) place (Some m)) + w.node writer place node ≡ book_weight w writer book + w.node writer key new + w.node writer place m
two_nodes w writer book key place node new m v e =
    let a = vacant_at book key v in
    let b = within_book book place node e in
    let ne : place ≢ key = other_place book key place node v e in
    let other : node_at (with_node book key (Some new)) place ≡ Some node = get_or-set_other book.nodes key place (Some new) None ne ∙ e in
    let lt = within_book (with_node book key (Some new)) place node other in
    let z : weigh_option (w.node writer key) (node_at book key) ≡ 0 = ap (weigh_option (w.node writer key)) a.0 in
    let y : weigh_option (w.node writer place) (node_at (with_node book key (Some new)) place) ≡ w.node writer place node = ap (weigh_option (w.node writer place)) other in
    omega (arith, book_upd w writer book key (Some new) a.1, book_upd w writer (with_node book key (Some new)) place (Some m) lt)

-- what each event does to every sum over all places
pub delta : (scene : Scene) (w : Weight) (s : State) (m : Move) → Can scene s m → total_weight scene w (after scene s m) + lost scene w s m ≡ total_weight scene w s + gained scene w s m
-- takes
delta scene w s (moves.TakesFirst place writer todo later move) c =
    omega (arith, task_delta scene w s place (Writer writer (todo ∷ later) NoBio rests) (Writer writer (todo ∷ later) (HasBio (clear_bio (scene.ledger 65))) rests) c.0 c.1)
delta scene w s (moves.TakesVector place writer todo later item move) c =
    omega (arith, task_delta scene w s place (Writer writer (todo ∷ later) (HasBio item) rests) (Writer writer (todo ∷ later) (HasBoth item (clear_vector (scene.ledger 64))) rests) c.0 c.1)
delta scene w s (moves.TakesSub place x doing lists dev waits move) c =
    let want : Want = Links (clear_bio (scene.ledger (2 * dev.0))) in
    let new : Submission = record { doing = with_want doing want; lists = lists } in
    omega (arith, task_delta scene w s place x (with_submission x new) c.0 c.1, submission_changes w place x doing lists new c.2, want_changes w (limit_of x) doing dev (Takes waits) want c.3)
delta scene w s (moves.TakesSlip place x bio lists move) c =
    let new : Submission = record { doing = Drives bio (ToMaster (clear_slip (scene.ledger (2 * bio.bio.dev.0 + 1)))); lists = lists } in
    omega (arith, task_delta scene w s place x (with_submission x new) c.0 c.1, submission_changes w place x (Drives bio ToRecord) lists new c.2)
-- misses
delta scene w s (moves.MissesOne place x number used) c = omega (arith, task_delta scene w s place x x c.0 c.1)
delta scene w s (moves.MissesTry place x doing lists dev used) c =
    let new : Submission = record { doing = with_want doing WantsPunt; lists = lists } in
    omega (arith, task_delta scene w s place x (with_submission x new) c.0 c.1, submission_changes w place x doing lists new c.2, want_changes w (limit_of x) doing dev (Takes false) WantsPunt c.3)
-- punts
delta scene w s (moves.Punts place x doing lists dev) c =
    let new : Submission = record { doing = with_want doing (Takes true); lists = unpunted (Of dev) lists } in
    let old = s.objects.rescue dev.0 in
    omega (
      arith,
      task_delta scene w s place x (with_submission x new) c.0 c.1,
      submission_changes w place x doing lists new c.2,
      want_changes w (limit_of x) doing dev WantsPunt (Takes true) c.3,
      sum_at-upd (λ dev bios. sum_by (w.bio Rescued) bios) scene.setup.count s.objects.rescue dev.0 (old ++ punted (Of dev) lists) c.4,
      sum_by-append (w.bio Rescued) old (punted (Of dev) lists),
      punted_weight (w.bio (Lined (limit_of x))) dev lists,
    )
-- pops
delta scene w s (moves.Pops place dev bio bios) c =
    let q : sum_by (w.bio Rescued) (s.objects.rescue dev.0) ≡ sum_by (w.bio Rescued) (bio ∷ bios) = ap (sum_by (w.bio Rescued)) c.3 in
    omega (
      arith,
      task_delta scene w s place (Rescuer dev rests) (Rescuer dev (settled scene.setup (bio ∷ []))) c.0 c.1,
      q,
      sum_by-cons (w.bio Rescued) bio bios,
      sum_at-upd (λ dev bios. sum_by (w.bio Rescued) bios) scene.setup.count s.objects.rescue dev.0 bios c.2,
    )
-- pushes
delta scene w s (moves.Pushes place x bio lists) c =
    let new : Submission = goes_on scene.setup bio.bio.dev lists in
    let d = sum_at-upd (λ dev (disk : DiskState). sum_by (w.bio Pending) disk.pending) scene.setup.count s.objects.disk bio.bio.dev.0 (pushed bio (s.objects.disk bio.bio.dev.0)) c.3 in
    omega (
      arith,
      task_delta scene w s place x (with_submission x new) c.0 c.1,
      submission_changes w place x (Drives bio ToPush) lists new c.2,
      d,
      sum_by_push (w.bio Pending) (s.objects.disk bio.bio.dev.0).pending bio,
    )
-- completions
delta scene w s (moves.Completed place disk index bio status new) c =
    let old = (s.objects.disk disk.0).pending in
    let lt = slice_get_within old index bio c.3.taken in
    let r = sum_by-remove (w.bio Pending) old index bio lt in
    let is : get_or old index bio ≡ bio = get_or_from_slice_get old index bio bio c.3.taken in
    let q : w.bio Pending (get_or old index bio) ≡ w.bio Pending bio = ap (w.bio Pending) is in
    let p : sum_by (w.bio Pending) new.pending ≡ sum_by (w.bio Pending) (remove old index) = ap (λ (disk : DiskState). sum_by (w.bio Pending) disk.pending) c.3.after in
    let d = sum_at-upd (λ dev (disk : DiskState). sum_by (w.bio Pending) disk.pending) scene.setup.count s.objects.disk disk.0 new c.2 in
    omega (arith, task_delta scene w s place (Completer disk Empty) (Completer disk (Brings bio status)) c.0 c.1, d)
-- links of writes
delta scene w s (moves.Begins place writer todo later item vector key) c =
    let v = vacant_at (s.objects.book writer) key c.3 in
    let top = top_node todo.number (vector_of todo vector) in
    let z : weigh_option (w.node writer key) (node_at (s.objects.book writer) key) ≡ 0 = ap (weigh_option (w.node writer key)) v.0 in
    omega (
      arith,
      task_delta scene w s place (Writer writer (todo ∷ later) (gathered_of item vector) rests) (Writer writer later NoBio (settled scene.setup (filled_of writer todo item vector key ∷ []))) c.0 c.1,
      sum_at-upd (book_weight w) scene.books s.objects.book writer (with_node (s.objects.book writer) key (Some top)) c.2,
      book_upd w writer (s.objects.book writer) key (Some top) v.1,
    )
-- links of pieces
delta scene w s (moves.Chained place x bio lists hand number kind sizes members key node) c =
    let new : Submission = goes_on scene.setup bio.bio.dev (cut_lists bio lists hand (first_length kind sizes bio.bio.range) key kind sizes members) in
    let book = s.objects.book bio.bio.writer in
    omega (
      arith,
      task_delta scene w s place x (with_submission x new) c.0 c.1,
      submission_changes w place x (Drives bio (ToCut (Links hand))) lists new c.2,
      sum_at-upd (book_weight w) scene.books s.objects.book bio.bio.writer (with_node (with_node book key (Some (child_node node.write bio.bio.node))) bio.bio.node (Some (raised node))) c.4,
      two_nodes w bio.bio.writer book key bio.bio.node node (child_node node.write bio.bio.node) (raised node) c.6 c.5,
    )
-- links of masters
delta scene w s (moves.Mastered place x bio lists slip key node) c =
    let new : Submission = copies scene.setup lists bio.bio key 0 in
    let book = s.objects.book bio.bio.writer in
    let master = master_node node.write bio.bio.node slip (legs_of (tree_at scene.setup bio.bio.dev)) in
    omega (
      arith,
      task_delta scene w s place x (with_submission x new) c.0 c.1,
      submission_changes w place x (Drives bio (ToMaster slip)) lists new c.2,
      sum_at-upd (book_weight w) scene.books s.objects.book bio.bio.writer (with_node (with_node book key (Some master)) bio.bio.node (Some (with_kept_part bio node))) c.3,
      two_nodes w bio.bio.writer book key bio.bio.node node master (with_kept_part bio node) c.5 c.4,
    )
-- links of legs
delta scene w s (moves.Legged place x bio lists master leg hand key node) c =
    let new : Submission = copies scene.setup (submitted (leg_at bio hand leg key (tree_at scene.setup bio.dev)) lists) bio master (leg + 1) in
    let book = s.objects.book bio.writer in
    let v = vacant_at book key c.5 in
    let z : weigh_option (w.node bio.writer key) (node_at book key) ≡ 0 = ap (weigh_option (w.node bio.writer key)) v.0 in
    omega (
      arith,
      task_delta scene w s place x (with_submission x new) c.0 c.1,
      submission_changes w place x (Copies bio master leg (Links hand)) lists new c.2,
      sum_at-upd (book_weight w) scene.books s.objects.book bio.writer (with_node book key (Some (leg_node node.write master))) c.3,
      book_upd w bio.writer book key (Some (leg_node node.write master)) v.1,
    )
-- drops that leave a node open
delta scene w s (moves.Told place disk carried writer key status part node) c =
    let lt = within_book (s.objects.book writer) key node c.4 in
    let y : weigh_option (w.node writer key) (node_at (s.objects.book writer) key) ≡ w.node writer key node = ap (weigh_option (w.node writer key)) c.4 in
    omega (
      arith,
      task_delta scene w s place (Completer disk carried) (Completer disk Empty) c.0 c.1,
      sum_at-upd (book_weight w) scene.books s.objects.book writer (with_node (s.objects.book writer) key (Some (lowered (told node status part)))) c.3,
      book_upd w writer (s.objects.book writer) key (Some (lowered (told node status part))) lt,
    )
-- drops that close a node
delta scene w s (moves.Closes place disk carried writer key status part node) c =
    let lt = within_book (s.objects.book writer) key node c.4 in
    let y : weigh_option (w.node writer key) (node_at (s.objects.book writer) key) ≡ w.node writer key node = ap (weigh_option (w.node writer key)) c.4 in
    omega (
      arith,
      task_delta scene w s place (Completer disk carried) (Completer disk (Carries writer (closed_of (told node status part)))) c.0 c.1,
      sum_at-upd (book_weight w) scene.books s.objects.book writer (with_node (s.objects.book writer) key None) c.3,
      book_upd w writer (s.objects.book writer) key None lt,
    )
-- gives, ends of writes, resizes and rounds
delta scene w s (moves.Gives place disk writer number closed held) c =
    omega (arith, task_delta scene w s place (Completer disk (Carries writer closed)) (Completer disk (Carries writer (record closed { held = held }))) c.0 c.1)
delta scene w s (moves.Ends place disk writer closed) c =
    omega (arith, task_delta scene w s place (Completer disk (Carries writer closed)) (Completer disk Empty) c.0 c.1)
delta scene w s (moves.Resized place pool min later duties) c =
    omega (arith, task_delta scene w s place (Keeper (Keeps (Resizes pool min later ∷ duties))) (Keeper (Keeps duties)) c.0 c.1)
delta scene w s (moves.Started place round later duties) c =
    omega (arith, task_delta scene w s place (Keeper (Keeps (Starts round later ∷ duties))) (Keeper (Keeps duties)) c.0 c.1)
