-- A master holds its record as long as it is open.
use Rattle.std.proofs.Common.{◌≡◌, ◌+◌, ℕ, List, [], ◌∷◌, Option, None, Some, refl, arith}
use Rattle.std.specs.Prelude.{sum_by}
use Rattle.std.proofs.lemmas.List.Sums.{sum_by-cons}
use Rattle.stack_base.specs.declared.ids.SetId.TheVariants.{Of}
use Rattle.bio_records.specs.declared.bio.Pad.{Pad}
use Rattle.bio_records.specs.Items.{Item}
use Rattle.bio_lists.specs.Submission.{submitted}
use Rattle.bio_lists.specs.Punt.{punted}
use Rattle.bio_books.specs.declared.node.Role.{Role}
use Rattle.bio_books.specs.declared.node.Role.TheVariants as role
use Rattle.bio_books.specs.Books.{SlipItem}
use Rattle.run_machine.specs.Scene.{Scene, tree_at}
use Rattle.run_machine.specs.Submissions.{Takes, WantsPunt, Links, ToPush, ToCut, ToRecord, ToMaster, Doing, Rests, Drives, Copies, Breaks, Submission, settled, goes_on, copies, first_length, leg_at}
use Rattle.run_machine.specs.Runs.{State}
use Rattle.block_core.specs.Weights.{Weight, total_weight, doing_weight, submission_weight, no_weight}
use Rattle.block_core.proofs.moves.Moves.{Move, Can, after, limit_of, filled_of, cut_lists}
use Rattle.block_core.proofs.moves.Moves as moves
use Rattle.block_core.proofs.moves.Deltas.{delta}

abbrev pub bare_slip : Option SlipItem → ℕ
bare_slip None = 1
bare_slip (Some slip) = 0

-- 1 for a master without its record
abbrev pub bare_node : Role → Option SlipItem → ℕ
bare_node role.Top slip = 0
bare_node (role.Chain parent) slip = 0
bare_node (role.Master parent) slip = bare_slip slip
bare_node (role.Leg parent) slip = 0

abbrev pub bare : Weight
bare = record no_weight { node = λ writer place node. bare_node node.role node.held.slip }

pub zeros : (items : List (Item Pad)) → sum_by (λ (item : Item Pad). 0) items ≡ 0
zeros [] = refl
zeros (item ∷ items) = omega (arith, sum_by-cons (λ (item : Item Pad). 0) item items, zeros items)

doing_zero : (limit : ℕ) (doing : Doing) → doing_weight bare limit doing ≡ 0
doing_zero limit Rests = refl
doing_zero limit (Drives bio ToPush) = refl
doing_zero limit (Drives bio (ToCut (Takes waits))) = refl
doing_zero limit (Drives bio (ToCut WantsPunt)) = refl
doing_zero limit (Drives bio (ToCut (Links hand))) = refl
doing_zero limit (Drives bio ToRecord) = refl
doing_zero limit (Drives bio (ToMaster slip)) = refl
doing_zero limit (Copies bio master leg (Takes waits)) = refl
doing_zero limit (Copies bio master leg WantsPunt) = refl
doing_zero limit (Copies bio master leg (Links hand)) = refl
doing_zero limit (Breaks breach kept) = refl

submission_zero : (limit : ℕ) (submission : Submission) → submission_weight bare limit submission ≡ 0
submission_zero limit submission = omega (arith, doing_zero limit submission.doing, zeros submission.lists.list0, zeros submission.lists.list1)

pub no_bare : (scene : Scene) (s : State) → total_weight scene bare s ≡ 0 → (m : Move) → Can scene s m → total_weight scene bare (after scene s m) ≡ 0
-- takes, misses, punts, pops, pushes and completions: no node changes
no_bare scene s none (moves.TakesFirst place writer todo later move) c = omega (arith, none, delta scene bare s (moves.TakesFirst place writer todo later move) c)
no_bare scene s none (moves.TakesVector place writer todo later item move) c = omega (arith, none, delta scene bare s (moves.TakesVector place writer todo later item move) c)
no_bare scene s none (moves.TakesSub place x doing lists dev waits move) c = omega (arith, none, delta scene bare s (moves.TakesSub place x doing lists dev waits move) c)
no_bare scene s none (moves.TakesSlip place x bio lists move) c = omega (arith, none, delta scene bare s (moves.TakesSlip place x bio lists move) c)
no_bare scene s none (moves.MissesOne place x number used) c = omega (arith, none, delta scene bare s (moves.MissesOne place x number used) c)
no_bare scene s none (moves.MissesTry place x doing lists dev used) c = omega (arith, none, delta scene bare s (moves.MissesTry place x doing lists dev used) c)
no_bare scene s none (moves.Punts place x doing lists dev) c = omega (arith, none, delta scene bare s (moves.Punts place x doing lists dev) c, zeros (punted (Of dev) lists))
no_bare scene s none (moves.Pops place dev bio bios) c = omega (arith, none, delta scene bare s (moves.Pops place dev bio bios) c, submission_zero dev.0 (settled scene.setup (bio ∷ [])))
no_bare scene s none (moves.Pushes place x bio lists) c = omega (arith, none, delta scene bare s (moves.Pushes place x bio lists) c, submission_zero (limit_of x) (goes_on scene.setup bio.bio.dev lists))
no_bare scene s none (moves.Completed place disk index bio status new) c = omega (arith, none, delta scene bare s (moves.Completed place disk index bio status new) c)
-- links of writes and of pieces: the new node is no master, and one above it keeps its record
no_bare scene s none (moves.Begins place writer todo later item vector key) c =
    omega (arith, none, delta scene bare s (moves.Begins place writer todo later item vector key) c, submission_zero 32 (settled scene.setup (filled_of writer todo item vector key ∷ [])))
no_bare scene s none (moves.Chained place x bio lists hand number kind sizes members key node) c =
    omega (
      arith,
      none,
      delta scene bare s (moves.Chained place x bio lists hand number kind sizes members key node) c,
      submission_zero (limit_of x) (goes_on scene.setup bio.bio.dev (cut_lists bio lists hand (first_length kind sizes bio.bio.range) key kind sizes members)),
    )
-- links of masters: the master has its record, and the node above it keeps its own
no_bare scene s none (moves.Mastered place x bio lists slip key node) c =
    omega (arith, none, delta scene bare s (moves.Mastered place x bio lists slip key node) c, submission_zero (limit_of x) (copies scene.setup lists bio.bio key 0))
-- links of legs: the new node is no master
no_bare scene s none (moves.Legged place x bio lists master leg hand key node) c =
    omega (
      arith,
      none,
      delta scene bare s (moves.Legged place x bio lists master leg hand key node) c,
      submission_zero (limit_of x) (copies scene.setup (submitted (leg_at bio hand leg key (tree_at scene.setup bio.dev)) lists) bio master (leg + 1)),
    )
-- drops that leave a node open: it keeps its record
no_bare scene s none (moves.Told place disk carried writer key status part node) c = omega (arith, none, delta scene bare s (moves.Told place disk carried writer key status part node) c)
-- drops that close a node: one that is closed is not counted
no_bare scene s none (moves.Closes place disk carried writer key status part node) c = omega (arith, none, delta scene bare s (moves.Closes place disk carried writer key status part node) c)
-- gives, ends of writes, resizes and rounds: no open node changes
no_bare scene s none (moves.Gives place disk writer number closed held) c = omega (arith, none, delta scene bare s (moves.Gives place disk writer number closed held) c)
no_bare scene s none (moves.Ends place disk writer closed) c = omega (arith, none, delta scene bare s (moves.Ends place disk writer closed) c)
no_bare scene s none (moves.Resized place pool min later duties) c = omega (arith, none, delta scene bare s (moves.Resized place pool min later duties) c)
no_bare scene s none (moves.Started place round later duties) c = omega (arith, none, delta scene bare s (moves.Started place round later duties) c)
