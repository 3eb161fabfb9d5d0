-- Each node has a level: what it holds is of pools of that level, a bio that names it is of the level's pool, and what is under it
-- has a lower one.
use Rattle.std.proofs.Common.{◌≡◌, ℕ, Option, None, Some, refl, ap, arith}
use Rattle.bio_books.specs.Books.{parent_of}
use Rattle.bio_books.specs.Links.{IsVacant}
use Rattle.run_machine.specs.Scene.{Scene}
use Rattle.run_machine.specs.Runs.{State}
use Rattle.block_core.specs.Weights.{total_weight, under}
use Rattle.block_core.proofs.sound.OffLevels.{parent_off, held_off, held_level, below_off, off_levels}
use Rattle.block_core.proofs.sound.Invariant.{Invariant}
use Rattle.block_core.proofs.moves.VacantMarks.{with_mark, mark_other, mark_still, IsUnmoved, none_moves}

module _ (level : ℕ → ℕ → ℕ) (writer key n : ℕ) where
  abbrev new : ℕ → ℕ → ℕ
  new = with_mark level writer key n

  parent_same : (w k : ℕ) (parent : Option ℕ) → new w k ≡ level w k → under writer key w parent ≡ 0 → parent_off new w k parent ≡ parent_off level w k parent
  parent_same w k None here none = refl
  parent_same w k (Some parent) here none = omega (arith, here, mark_still level writer key n w parent none)

  below_same : (w own : ℕ) (parent : Option ℕ) → under writer key w parent ≡ 0 → below_off (new w) own parent ≡ below_off (level w) own parent
  below_same w own None none = refl
  below_same w own (Some parent) none = omega (arith, mark_still level writer key n w parent none)

  -- what refers to another place keeps its level
  unmoved : IsUnmoved (off_levels new) (off_levels level) writer key
  unmoved = record {
    todo = λ w todos taken. omega arith;
    bio = λ spot item none. omega (arith, mark_still level writer key n item.bio.writer item.bio.node none);
    copy = λ bio master leg none. omega (arith, mark_still level writer key n bio.writer master none);
    hand = λ item. omega arith;
    vector = λ vector. omega arith;
    slip = λ slip. omega arith;
    node = λ w k node other none.
        let here = mark_other level writer key n w k other in
        omega (arith, parent_same w k (parent_of node.role) here none, ap (λ l. held_off l node.held) here);
    closed = λ task w closed none. omega (arith, below_same w (held_level closed.held) closed.parent none);
  }

  -- so a level for a vacant place changes nothing
  pub total_null : (scene : Scene) (s : State) → Invariant scene s → IsVacant (s.objects.book writer) key → total_weight scene (off_levels level) s ≡ 0 → total_weight scene (off_levels new) s ≡ 0
  total_null scene s i vacant off = omega (arith, off, none_moves scene s i writer key vacant (off_levels new) (off_levels level) unmoved)
