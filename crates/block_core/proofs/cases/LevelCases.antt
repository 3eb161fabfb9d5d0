-- States by hand to which no run comes: a completer carries what is left of a node that held a bio of its parent's own pool, and a mirror makes legs under a
-- master whose record is another mirror's.
use Rattle.std.proofs.Common.{◌≡◌, ◌+◌, ◌*◌, ◌<◌, Some, subst, arith}
use Rattle.stack_base.specs.declared.ids.DevId.{DevId}
use Rattle.bio_records.specs.declared.bio.Bio.{Bio}
use Rattle.bio_records.specs.declared.bio.Pad.{Pad}
use Rattle.bio_records.specs.declared.tasks.TaskLists.{TaskLists}
use Rattle.bio_records.specs.Items.{Item}
use Rattle.bio_books.specs.Books.{Node, SlipItem, node_at}
use Rattle.bio_books.specs.Drops.{Closed}
use Rattle.run_machine.specs.Scene.{Scene}
use Rattle.run_machine.specs.Submissions.{Want, Copies}
use Rattle.run_machine.specs.Tasks.{Rescuer, Completer, Carries}
use Rattle.run_machine.specs.Runs.{State}
use Rattle.block_core.specs.EachBio.{TaskCopies}
use Rattle.block_core.specs.Levels.{HasLevels}

module _ (scene : Scene) (state : State) (levels : HasLevels scene state) (some : 0 < scene.tasks) where
  parents_pool : (disk : DevId) (closed : Closed) (parent : Node) (lower upper : Item Pad) → state.task 0 ≡ Completer disk (Carries 0 closed) → closed.held.bio ≡ Some lower
      → closed.parent ≡ Some 0 → node_at (state.objects.book 0) 0 ≡ Some parent → parent.held.bio ≡ Some upper → lower.share.no ≡ 2 → upper.share.no ≡ 2 → ⊥
  parents_pool disk closed parent lower upper is left is_under at held low high =
      let own = levels.carried 0 disk 0 closed some is in
      let below = own.2 0 is_under in
      let a = own.1.bio lower left in
      let b = (levels.held 0 0 parent at).bio upper held in
      omega (arith, below, a, b, low, high)

  -- the mirror is device 2, whose records are of pool 5
  others_record : (dev : DevId) (bio : Bio) (want : Want) (lists : TaskLists) (master : Node) (slip : SlipItem)
      → state.task 0 ≡ Rescuer dev (record { doing = Copies bio 1 0 want; lists = lists }) → bio.dev.0 ≡ 2
      → node_at (state.objects.book bio.writer) 1 ≡ Some master → master.held.slip ≡ Some slip → slip.share.no ≡ 3 → ⊥
  others_record dev bio want lists master slip is mirror at held other =
      let level = levels.level in
      let its : level bio.writer 1 ≡ 2 * bio.dev.0 + 1 = subst (TaskCopies (λ bio master. level bio.writer master ≡ 2 * bio.dev.0 + 1)) is (levels.masters 0 some) in
      let a = (levels.held bio.writer 1 master at).slip slip held in
      omega (arith, its, a, mirror, other)
