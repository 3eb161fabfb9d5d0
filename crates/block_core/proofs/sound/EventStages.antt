-- What events do to what writes are worth that are to be begun, or whose top node is open or carried.
use Rattle.std.proofs.Common.{◌≡◌, ◌+◌, ◌*◌, ℕ, List, [], ◌∷◌, Option, None, Some, refl, sym, ◌∙◌, ap, arith}
use Rattle.std.specs.Prelude.{sum_by}
use Rattle.std.proofs.lemmas.List.Sums.{sum_by-cons}
use Rattle.stack_base.specs.declared.ids.Status.{Status}
use Rattle.stack_base.specs.declared.ids.SetId.TheVariants.{Of}
use Rattle.bio_records.specs.declared.bio.Pad.{Pad}
use Rattle.bio_records.specs.Items.{Item}
use Rattle.bio_lists.specs.Submission.{submitted}
use Rattle.bio_lists.specs.Punt.{punted}
use Rattle.bio_books.specs.declared.node.Role.{Role}
use Rattle.bio_books.specs.declared.node.Role.TheVariants as role
use Rattle.bio_books.specs.Books.{parent_of}
use Rattle.run_machine.specs.Scene.{Scene, tree_at}
use Rattle.run_machine.specs.Submissions.{Takes, WantsPunt, Links, ToPush, ToCut, ToRecord, ToMaster, Doing, Rests, Drives, Copies, Breaks, Submission, settled, goes_on, copies, first_length, leg_at}
use Rattle.run_machine.specs.Tasks.{Todo, Gathered, NoBio, HasBio, HasBoth, Carried, Empty, Brings, Carries, Fails}
use Rattle.run_machine.specs.Objects.{clear_bio, clear_vector}
use Rattle.run_machine.specs.Runs.{State}
use Rattle.block_core.specs.Weights.{Weight, total_weight, doing_weight, submission_weight, carried_weight, one_if_same}
use Rattle.block_core.proofs.moves.Moves.{Move, Can, after, limit_of, gathered_of, filled_of, cut_lists, TellsNode}
use Rattle.block_core.proofs.moves.Moves as moves
use Rattle.block_core.proofs.moves.Deltas.{delta}
use Rattle.block_core.proofs.moves.Sums.{one-same}
use Rattle.bio_books.specs.declared.node.Role.TheVariants as role
use Rattle.block_core.specs.Rounds.{tops, tops_left, by_stage}

-- what an event tells done, by its number
abbrev pub ended_worth : (ℕ → ℕ) → Move → ℕ
ended_worth worth (moves.Ends place disk writer closed) = worth closed.write
ended_worth worth m = 0

-- what is to come loses and gains where a writer takes for its write, and where it begins it
abbrev pub to_come_before : (List Todo → Gathered → ℕ) → Move → ℕ
to_come_before f (moves.TakesFirst place writer todo later move) = f (todo ∷ later) NoBio
to_come_before f (moves.TakesVector place writer todo later item move) = f (todo ∷ later) (HasBio item)
to_come_before f (moves.Begins place writer todo later item vector key) = f (todo ∷ later) (gathered_of item vector)
to_come_before f m = 0

abbrev pub to_come_after : Scene → (List Todo → Gathered → ℕ) → (ℕ → ℕ) → Move → ℕ
to_come_after scene f worth (moves.TakesFirst place writer todo later move) = f (todo ∷ later) (HasBio (clear_bio (scene.ledger 65)))
to_come_after scene f worth (moves.TakesVector place writer todo later item move) = f (todo ∷ later) (HasBoth item (clear_vector (scene.ledger 64)))
to_come_after scene f worth (moves.Begins place writer todo later item vector key) = f later NoBio + worth todo.number
to_come_after scene f worth m = 0

same_top : (r : Role) → tops_left (parent_of r) ≡ tops r
same_top role.Top = refl
same_top (role.Chain parent) = refl
same_top (role.Master parent) = refl
same_top (role.Leg parent) = refl

pub top_is : (r : Role) → parent_of r ≡ None → tops r ≡ 1
top_is r is = sym (same_top r) ∙ ap tops_left is

-- a top node is worth one where its write's round is counted, and so is one that is carried
pub top_worth : (r : Role) → parent_of r ≡ None → (round : ℕ) → tops r * one_if_same round round ≡ 1
top_worth r is round = ap (λ n. n * one_if_same round round) (top_is r is) ∙ ap (λ n. 1 * n) (one-same round)

pub carried_worth : (parent : Option ℕ) → parent ≡ None → (round : ℕ) → tops_left parent * one_if_same round round ≡ 1
carried_worth parent is round = ap (λ parent. tops_left parent * one_if_same round round) is ∙ ap (λ n. 1 * n) (one-same round)

pub zeros : (items : List (Item Pad)) → sum_by (λ item. 0) items ≡ 0
zeros [] = refl
zeros (item ∷ items) = omega (arith, sum_by-cons (λ (item : Item Pad). 0) item items, zeros items)

module _ (f : List Todo → Gathered → ℕ) (worth : ℕ → ℕ) where
  abbrev w : Weight
  w = by_stage f worth

  pub submission_zero : (limit : ℕ) (submission : Submission) → submission_weight w limit submission ≡ 0
  submission_zero limit submission = omega (arith, doing_zero submission.doing, zeros submission.lists.list0, zeros submission.lists.list1)
    where
      doing_zero : (doing : Doing) → doing_weight w limit doing ≡ 0
      doing_zero Rests = refl
      doing_zero (Drives bio ToPush) = refl
      doing_zero (Drives bio (ToCut (Takes waits))) = refl
      doing_zero (Drives bio (ToCut WantsPunt)) = refl
      doing_zero (Drives bio (ToCut (Links hand))) = refl
      doing_zero (Drives bio ToRecord) = refl
      doing_zero (Drives bio (ToMaster slip)) = refl
      doing_zero (Copies bio master leg (Takes waits)) = refl
      doing_zero (Copies bio master leg WantsPunt) = refl
      doing_zero (Copies bio master leg (Links hand)) = refl
      doing_zero (Breaks breach kept) = refl

  -- what is carried of a child tells no top
  carried_child : (task : ℕ) (carried : Carried) (writer key : ℕ) (status : Status) (part : Option (Item Pad)) → TellsNode carried writer key status part
      → carried_weight w task carried ≡ 0
  carried_child task (Brings bio ending) writer key status part t = refl
  carried_child task (Carries of closed) writer key status part t = ap (λ parent. tops_left parent * worth closed.write) t.1 ∙ omega arith
  carried_child task Empty writer key status part t = absurd t
  carried_child task (Fails breach kept) writer key status part t = absurd t

  -- what writes in stage are worth changes where one is told done, and as what is to come does
  pub staged : (scene : Scene) (s : State) (m : Move) → Can scene s m
      → total_weight scene w (after scene s m) + ended_worth worth m + to_come_before f m ≡ total_weight scene w s + to_come_after scene f worth m
  -- takes: a writer then has something for its next write
  staged scene s (moves.TakesFirst place writer todo later move) c = omega (arith, delta scene w s (moves.TakesFirst place writer todo later move) c)
  staged scene s (moves.TakesVector place writer todo later item move) c = omega (arith, delta scene w s (moves.TakesVector place writer todo later item move) c)
  staged scene s (moves.TakesSub place x doing lists dev waits move) c = omega (arith, delta scene w s (moves.TakesSub place x doing lists dev waits move) c)
  staged scene s (moves.TakesSlip place x bio lists move) c = omega (arith, delta scene w s (moves.TakesSlip place x bio lists move) c)
  -- misses: a writer that waits has what it had, and a task that tries goes on to punt
  staged scene s (moves.MissesOne place x number used) c = omega (arith, delta scene w s (moves.MissesOne place x number used) c)
  staged scene s (moves.MissesTry place x doing lists dev used) c = omega (arith, delta scene w s (moves.MissesTry place x doing lists dev used) c)
  -- punts, pops, pushes and completions: nothing in a submission, in a list or in a disk is worth anything
  staged scene s (moves.Punts place x doing lists dev) c =
      omega (arith, delta scene w s (moves.Punts place x doing lists dev) c, zeros (punted (Of dev) lists))
  staged scene s (moves.Pops place dev bio bios) c = omega (arith, delta scene w s (moves.Pops place dev bio bios) c, submission_zero dev.0 (settled scene.setup (bio ∷ [])))
  staged scene s (moves.Pushes place x bio lists) c =
      omega (
        arith,
        delta scene w s (moves.Pushes place x bio lists) c,
        submission_zero (limit_of x) (goes_on scene.setup bio.bio.dev lists),
        submission_zero (limit_of x) (record { doing = Drives bio ToPush; lists = lists }),
      )
  staged scene s (moves.Completed place disk index bio status new) c = omega (arith, delta scene w s (moves.Completed place disk index bio status new) c)
  -- links of writes: what is to come of the write is then in its top node
  staged scene s (moves.Begins place writer todo later item None key) c =
      omega (arith, delta scene w s (moves.Begins place writer todo later item None key) c, submission_zero 32 (settled scene.setup (filled_of writer todo item None key ∷ [])))
  staged scene s (moves.Begins place writer todo later item (Some vector) key) c =
      omega (arith, delta scene w s (moves.Begins place writer todo later item (Some vector) key) c, submission_zero 32 (settled scene.setup (filled_of writer todo item (Some vector) key ∷ [])))
  -- links of pieces: the new node is no top
  staged scene s (moves.Chained place x bio lists hand number kind sizes members key node) c =
      omega (
        arith,
        delta scene w s (moves.Chained place x bio lists hand number kind sizes members key node) c,
        submission_zero (limit_of x) (goes_on scene.setup bio.bio.dev (cut_lists bio lists hand (first_length kind sizes bio.bio.range) key kind sizes members)),
        submission_zero (limit_of x) (record { doing = Drives bio (ToCut (Links hand)); lists = lists }),
      )
  -- links of masters: the master is no top
  staged scene s (moves.Mastered place x bio lists slip key node) c =
      omega (
        arith,
        delta scene w s (moves.Mastered place x bio lists slip key node) c,
        submission_zero (limit_of x) (copies scene.setup lists bio.bio key 0),
        submission_zero (limit_of x) (record { doing = Drives bio (ToMaster slip); lists = lists }),
      )
  -- links of legs: the node of the leg is no top
  staged scene s (moves.Legged place x bio lists master leg hand key node) c =
      omega (
        arith,
        delta scene w s (moves.Legged place x bio lists master leg hand key node) c,
        submission_zero (limit_of x) (copies scene.setup (submitted (leg_at bio hand leg key (tree_at scene.setup bio.dev)) lists) bio master (leg + 1)),
        submission_zero (limit_of x) (record { doing = Copies bio master leg (Links hand); lists = lists }),
      )
  -- drops that leave a node open: what the completer brought is of no top
  staged scene s (moves.Told place disk carried writer key status part node) c =
      omega (arith, delta scene w s (moves.Told place disk carried writer key status part node) c, carried_child place carried writer key status part c.2)
  -- drops that close a node: what a top is worth is carried on
  staged scene s (moves.Closes place disk carried writer key status part node) c =
      omega (
        arith,
        delta scene w s (moves.Closes place disk carried writer key status part node) c,
        carried_child place carried writer key status part c.2,
        ap (λ n. n * worth node.write) (same_top node.role),
      )
  -- gives: the closed node is carried on
  staged scene s (moves.Gives place disk writer number closed held) c = omega (arith, delta scene w s (moves.Gives place disk writer number closed held) c)
  -- ends of writes: the write is told done, and leaves the sum
  staged scene s (moves.Ends place disk writer closed) c =
      omega (arith, delta scene w s (moves.Ends place disk writer closed) c, ap (λ parent. tops_left parent * worth closed.write) c.3)
  -- resizes and rounds: by the keeper, which is worth nothing
  staged scene s (moves.Resized place pool min later duties) c = omega (arith, delta scene w s (moves.Resized place pool min later duties) c)
  staged scene s (moves.Started place round later duties) c = omega (arith, delta scene w s (moves.Started place round later duties) c)
