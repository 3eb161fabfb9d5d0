-- What a completer holds of a closed node is of one level, as what the node held.
use Rattle.std.proofs.Common.{◌≡◌, ℕ, None, inl, inr, sym, ap, subst, arith}
use Rattle.std.specs.Prelude.{min}
use Rattle.bio_records.specs.declared.bio.Pad.{Pad}
use Rattle.bio_records.specs.declared.tasks.TaskLists.{TaskLists}
use Rattle.bio_records.specs.Items.{Item}
use Rattle.bio_books.specs.Books.{VectorItem, SlipItem, Holding, told}
use Rattle.bio_books.specs.Drops.{closed_of}
use Rattle.run_machine.specs.Maps.{upd}
use Rattle.run_machine.specs.Scene.{Scene}
use Rattle.run_machine.specs.Submissions.{Doing, Submission}
use Rattle.run_machine.specs.Tasks.{Carried, Empty, Brings, Carries, Fails, TaskState, Writer, Rescuer, Completer, Keeper}
use Rattle.run_machine.specs.Runs.{State}
use Rattle.block_core.specs.Levels.{HoldsLevel, HoldsOneLevel}
use Rattle.block_core.specs.Weights.{total_weight, weigh_option, task_weight, carried_weight}
use Rattle.block_core.proofs.moves.Sums.{apart}
use Rattle.block_core.proofs.moves.Moves.{Move, Can, after, HasSubmission, with_submission, Releases}
use Rattle.block_core.proofs.moves.Moves as moves
use Rattle.block_core.proofs.sound.Invariant.{Invariant}
use Rattle.block_core.proofs.sound.LevelsKept.{told_on}
use Rattle.block_core.proofs.sound.OffLevels.{held_off, off_levels}
use Rattle.block_core.proofs.moves.Totals.{part_of}
use Rattle.block_core.proofs.sound.TaskSubmissions.{all-upd}
use Rattle.block_core.proofs.start.InvariantAtStart.{Begins}
use Rattle.block_core.proofs.stuck.Idle.{node_part}

pub on_level : (l : ℕ) (held : Holding) → held_off l held ≡ 0 → HoldsLevel l held
on_level l held none = record {
  bio = λ bio is.
      let part : weigh_option (λ (bio : Item Pad). apart l (min bio.share.no 64)) held.bio ≡ apart l (min bio.share.no 64) =
      ap (weigh_option (λ (bio : Item Pad). apart l (min bio.share.no 64))) is in
      omega (arith, none, part);
  vector = λ vector is.
      let part : weigh_option (λ (vector : VectorItem). apart l (min vector.share.no 64)) held.vector ≡ apart l (min vector.share.no 64) =
      ap (weigh_option (λ (vector : VectorItem). apart l (min vector.share.no 64))) is in
      omega (arith, none, part);
  slip = λ slip is.
      let part : weigh_option (λ (slip : SlipItem). apart l (min slip.share.no 64)) held.slip ≡ apart l (min slip.share.no 64) =
      ap (weigh_option (λ (slip : SlipItem). apart l (min slip.share.no 64))) is in
      omega (arith, none, part);
}

abbrev pub CarriedOne : Carried → Type 0
CarriedOne Empty = Unit {0}
CarriedOne (Brings bio status) = Unit {0}
CarriedOne (Carries writer closed) = HoldsOneLevel closed.held
CarriedOne (Fails breach kept) = Unit {0}

abbrev pub TaskOne : TaskState → Type 0
TaskOne (Writer number todo taken submission) = Unit {0}
TaskOne (Rescuer dev submission) = Unit {0}
TaskOne (Completer disk carried) = CarriedOne carried
TaskOne (Keeper keeping) = Unit {0}

pub begins_one : (scene : Scene) (x : TaskState) → Begins scene x → TaskOne x
begins_one scene (Writer number todo taken submission) b = tt
begins_one scene (Rescuer dev submission) b = tt
begins_one scene (Completer disk carried) b = subst CarriedOne (sym b.1) tt
begins_one scene (Keeper keeping) b = tt

lined : (x : TaskState) (doing : Doing) (lists : TaskLists) (submission : Submission) → HasSubmission x doing lists → TaskOne (with_submission x submission)
lined (Writer number todo taken old) doing lists submission h = tt
lined (Rescuer dev old) doing lists submission h = tt
lined (Completer disk carried) doing lists submission h = absurd h
lined (Keeper keeping) doing lists submission h = absurd h

-- with one element less
without_vector : (l : ℕ) (held : Holding) → HoldsLevel l held → HoldsLevel l (record held { vector = None })
without_vector l held h = record { bio = h.bio; vector = λ vector is. absurd cc; slip = h.slip }

without_bio : (l : ℕ) (held : Holding) → HoldsLevel l held → HoldsLevel l (record held { bio = None })
without_bio l held h = record { bio = λ bio is. absurd cc; vector = h.vector; slip = h.slip }

without_slip : (l : ℕ) (held : Holding) → HoldsLevel l held → HoldsLevel l (record held { slip = None })
without_slip l held h = record { bio = h.bio; vector = h.vector; slip = λ slip is. absurd cc }

one_less : (old new : Holding) (number : ℕ) → Releases old number new → HoldsOneLevel old → HoldsOneLevel new
one_less old new number (inl (vector, has, share, is)) h = (h.0, subst (HoldsLevel h.0) (sym is) (without_vector h.0 old h.1))
one_less old new number (inr (inl (bio, has, share, is))) h = (h.0, subst (HoldsLevel h.0) (sym is) (without_bio h.0 old h.1))
one_less old new number (inr (inr (slip, has, share, is))) h = (h.0, subst (HoldsLevel h.0) (sym is) (without_slip h.0 old h.1))

module _ (scene : Scene) (s : State) (i : Invariant scene s) (level : ℕ → ℕ → ℕ) (off : total_weight scene (off_levels level) s ≡ 0) (all : (place : ℕ) → TaskOne (s.task place)) where
  goes : (place : ℕ) (y : TaskState) → TaskOne y → (other : ℕ) → TaskOne (upd s.task place y other)
  goes place y one = all-upd TaskOne s.task place y all one

  pub stays_one : (m : Move) → Can scene s m → (other : ℕ) → TaskOne ((after scene s m).task other)
  -- takes: by tasks that carry nothing of closed nodes
  stays_one (moves.TakesFirst place writer todo later move) c = goes place _ tt
  stays_one (moves.TakesVector place writer todo later item move) c = goes place _ tt
  stays_one (moves.TakesSub place x doing lists dev waits move) c = goes place _ (lined x doing lists _ c.2)
  stays_one (moves.TakesSlip place x bio lists move) c = goes place _ (lined x _ lists _ c.2)
  -- misses: the task carries what it carried
  stays_one (moves.MissesOne place x number used) c = goes place x (subst TaskOne c.1 (all place))
  stays_one (moves.MissesTry place x doing lists dev used) c = goes place _ (lined x doing lists _ c.2)
  -- punts, pops and pushes: by tasks that carry nothing of closed nodes
  stays_one (moves.Punts place x doing lists dev) c = goes place _ (lined x doing lists _ c.2)
  stays_one (moves.Pops place dev bio bios) c = goes place _ tt
  stays_one (moves.Pushes place x bio lists) c = goes place _ (lined x _ lists _ c.2)
  -- completions: the completer brings a bio
  stays_one (moves.Completed place disk index bio status new) c = goes place (Completer disk (Brings bio status)) tt
  -- links: by tasks that carry nothing of closed nodes
  stays_one (moves.Begins place writer todo later item vector key) c = goes place _ tt
  stays_one (moves.Chained place x bio lists hand number kind sizes members key node) c = goes place _ (lined x _ lists _ c.2)
  stays_one (moves.Mastered place x bio lists slip key node) c = goes place _ (lined x _ lists _ c.2)
  stays_one (moves.Legged place x bio lists master leg hand key node) c = goes place _ (lined x _ lists _ c.2)
  -- drops that leave a node open: the completer has nothing any more
  stays_one (moves.Told place disk carried writer key status part node) c = goes place (Completer disk Empty) tt
  -- drops that close a node: what it held and what came with its last end are of its level
  stays_one (moves.Closes place disk carried writer key status part node) c =
      let a : task_weight (off_levels level) place (s.task place) ≡ carried_weight (off_levels level) 0 carried = ap (task_weight (off_levels level) 0) c.1 in
      let b = part_of (task_weight (off_levels level)) scene.tasks s.task place c.0 in
      let held = told_on level writer key status part carried node c.2 (omega (arith, a, b, off)) in
      let own = node_part scene s i (off_levels level) writer key node c.4 in
      goes place (Completer disk (Carries writer (closed_of (told node status part))))
      (level writer key, on_level (level writer key) (told node status part).held (omega (arith, held, own, off)))
  -- gives: what is left is of the same level
  stays_one (moves.Gives place disk writer number closed held) c =
      let h : HoldsOneLevel closed.held = subst TaskOne c.1 (all place) in
      goes place (Completer disk (Carries writer (record closed { held = held }))) (one_less closed.held held number c.2 h)
  -- ends of writes: the completer has nothing any more
  stays_one (moves.Ends place disk writer closed) c = goes place (Completer disk Empty) tt
  -- resizes and rounds: by the keeper, which carries nothing
  stays_one (moves.Resized place pool min later duties) c = goes place _ tt
  stays_one (moves.Started place round later duties) c = goes place _ tt
