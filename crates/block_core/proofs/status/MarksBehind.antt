-- The marks of nodes behind an event: a new node is marked by what its bio may come to.
use Rattle.std.proofs.Common.{ℕ, Bool, true, false, inl, inr, sym, subst}
use Rattle.stack_base.specs.declared.ids.Status.{Status}
use Rattle.layout_model.specs.declared.fragment.Fragment.{Fragment}
use Rattle.bio_records.specs.declared.bio.Bio.{Bio}
use Rattle.run_machine.specs.Scene.{Setup, Scene, tree_at}
use Rattle.run_machine.specs.Submissions.{ToMaster, Drives, first_length, leg_at}
use Rattle.run_machine.specs.Runs.{State}
use Rattle.block_core.proofs.status.Marks.{bio_may, todo_may, Mark, IsMark, IsMarked}
use Rattle.block_core.proofs.moves.Moves.{Move, Can, piece}
use Rattle.block_core.proofs.moves.Moves as moves
use Rattle.block_core.proofs.sound.Orders.{Placed}
use Rattle.block_core.proofs.sound.OrdersKept.{placed_at}
use Rattle.block_core.proofs.moves.VacantMarks.{with_mark, mark_here, mark_other}
use Rattle.block_core.proofs.status.RunEndings.{plan_alone, mirror_may}
use Rattle.block_core.proofs.status.AtOneNode.{here_or}

-- the mark of a new node, and the marks behind an event
abbrev pub new_mark : Bool → (Status → ℕ) → Mark
new_mark master of = record { master = master; ends = of }

abbrev pub marks_by : Setup → (Fragment → Status) → (ℕ → ℕ → Mark) → Move → ℕ → ℕ → Mark
marks_by setup ends mark (moves.Begins place writer todo later item vector key) = with_mark mark writer key (new_mark false (todo_may setup ends todo))
marks_by setup ends mark (moves.Chained place x bio lists hand number kind sizes members key node) =
    with_mark mark bio.bio.writer key (new_mark false (bio_may setup ends (piece bio hand (first_length kind sizes bio.bio.range) key kind sizes members).bio))
marks_by setup ends mark (moves.Mastered place x bio lists slip key node) = with_mark mark bio.bio.writer key (new_mark true (bio_may setup ends bio.bio))
marks_by setup ends mark (moves.Legged place x bio lists master leg hand key node) =
    with_mark mark bio.writer key (new_mark false (bio_may setup ends (leg_at bio hand leg key (tree_at setup bio.dev)).bio))
marks_by setup ends mark m = mark

module _ (scene : Scene) (ends : Fragment → Status) (written : ℕ → Status → ℕ) (s : State) (a : Placed scene.setup s) (mark : ℕ → ℕ → Mark)
    (h : IsMarked scene ends written mark s) where
  abbrev setup : Setup
  setup = scene.setup

  new_fair : (bio : Bio) → IsMark (new_mark false (bio_may setup ends bio))
  new_fair bio = record { alone = λ end ne. plan_alone ends _ end ne; failed = λ same. absurd cc }

  with_fair : (writer key : ℕ) (new : Mark) → IsMark new → (w k : ℕ) → IsMark (with_mark mark writer key new w k)
  with_fair writer key new fair w k = elim (here_or writer w key k) [
    | inr other ↦ subst IsMark (sym (mark_other mark writer key new w k other)) (h.fair w k)
    | inl same ↦
        let here : IsMark (with_mark mark writer key new writer key) = subst IsMark (sym (mark_here mark writer key new)) fair in
        subst (λ v. IsMark (with_mark mark writer key new v k)) (sym same.0) (subst (λ j. IsMark (with_mark mark writer key new writer j)) (sym same.1) here)
  ]

  pub fair_after : (m : Move) → Can scene s m → (w k : ℕ) → IsMark (marks_by setup ends mark m w k)
  -- links of writes: the mark of the top node is of the run of its write
  fair_after (moves.Begins place writer todo later item vector key) c =
      with_fair writer key (new_mark false (todo_may setup ends todo)) (record { alone = λ end ne. plan_alone ends _ end ne; failed = λ same. absurd cc })
  -- links of pieces: the mark of the new node is of the run of its piece
  fair_after (moves.Chained place x bio lists hand number kind sizes members key node) c =
      let child = piece bio hand (first_length kind sizes bio.bio.range) key kind sizes members in
      with_fair bio.bio.writer key (new_mark false (bio_may setup ends child.bio)) (new_fair child.bio)
  -- links of masters: the run of a mirrored bio may end well, or with an error of no kind
  fair_after (moves.Mastered place x bio lists slip key node) c =
      let d = placed_at setup s a place x (Drives bio (ToMaster slip)) lists c.1 c.2 in
      let mirror = mirror_may ends (tree_at setup bio.bio.dev) bio.bio bio.bio.range bio.bio.dev.0 slip d.3 in
      with_fair bio.bio.writer key (new_mark true (bio_may setup ends bio.bio)) (record { alone = λ end ne. plan_alone ends _ end ne; failed = λ same. mirror.failed })
  -- links of legs: the mark of the new node is of the run of its leg
  fair_after (moves.Legged place x bio lists master leg hand key node) c =
      let item = leg_at bio hand leg key (tree_at setup bio.dev) in
      with_fair bio.writer key (new_mark false (bio_may setup ends item.bio)) (new_fair item.bio)
  -- all others: no mark changes
  fair_after _ c = h.fair
