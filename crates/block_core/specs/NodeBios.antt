-- The bio that each node was opened for, by the events of a run.
use Rattle.std.specs.Prelude.{ℕ, List, [], ◌∷◌}
use Rattle.stack_base.specs.declared.ids.SetId.TheVariants.{Of}
use Rattle.stack_base.specs.Mapping.{slot}
use Rattle.stack_base.specs.Tree.{Tree, Leaf, Split, Mirrored}
use Rattle.bio_records.specs.declared.bio.Bio.{Bio}
use Rattle.bio_records.specs.declared.bio.Pad.{Pad}
use Rattle.bio_records.specs.Clear.{no_bio}
use Rattle.bio_records.specs.Items.{Item}
use Rattle.bio_split.specs.Split.{split_front}
use Rattle.run_machine.specs.declared.event.Event.{Event}
use Rattle.run_machine.specs.Maps.{upd}
use Rattle.run_machine.specs.Scene.{Setup, Scene, tree_at}
use Rattle.run_machine.specs.Submissions.{Links, ToCut, ToMaster, Doing, Rests, Drives, Copies, first_length, mapped, leg_at}
use Rattle.run_machine.specs.Tasks.{Todo, TaskState, Writer, Rescuer, Completer, Keeper, first_bio}
use Rattle.run_machine.specs.Runs.{State, IsRun}
use Rattle.block_core.specs.Touches.{Touch, Opens, Shuts, Passes, touch_of}

-- The bio that a node is opened for at this place: under a bio that is cut, its first piece; of a bio that a mirror copies, for the master all of it,
-- and for a leg the next leg; and of a write all of it.
abbrev pub first_piece : Item Pad → Item Pad → ℕ → Tree → Bio
first_piece bio hand node (Leaf number sectors) = bio.bio
first_piece bio hand node (Split number kind sizes members) =
    mapped (slot kind sizes bio.bio.range.start) members (split_front bio hand (first_length kind sizes bio.bio.range) (Of bio.bio.dev) node).bio
first_piece bio hand node (Mirrored number sizes members) = bio.bio

abbrev pub submission_opens : Setup → Doing → ℕ → Bio
submission_opens setup (Drives bio (ToCut (Links hand))) node = first_piece bio hand node (tree_at setup bio.bio.dev)
submission_opens setup (Drives bio (ToMaster slip)) node = bio.bio
submission_opens setup (Copies bio master leg (Links hand)) node = (leg_at bio hand leg node (tree_at setup bio.dev)).bio
submission_opens setup doing node = no_bio

abbrev pub writer_opens : Setup → ℕ → Doing → List Todo → ℕ → Bio
writer_opens setup number Rests [] node = no_bio
writer_opens setup number Rests (todo ∷ later) node = first_bio number todo node
writer_opens setup number doing todo node = submission_opens setup doing node

abbrev pub opened_for : Setup → TaskState → ℕ → Bio
opened_for setup (Writer number todo taken submission) node = writer_opens setup number submission.doing todo node
opened_for setup (Rescuer dev submission) node = submission_opens setup submission.doing node
opened_for setup (Completer disk carried) node = no_bio
opened_for setup (Keeper keeping) node = no_bio

-- Of each place of each book, the bio that its node was opened for last, once this event of a task has come,
abbrev pub bios_after : Setup → TaskState → Touch → (ℕ → ℕ → Bio) → ℕ → ℕ → Bio
bios_after setup task (Opens writer node) bios = upd bios writer (upd (bios writer) node (opened_for setup task node))
bios_after setup task (Shuts writer node) bios = bios
bios_after setup task Passes bios = bios

-- and once all events of a run have
abbrev pub node_bios : (scene : Scene) (old : State) (events : List Event) (new : State) → IsRun scene old events new → (ℕ → ℕ → Bio) → ℕ → ℕ → Bio
node_bios scene old [] new run bios = bios
node_bios scene old (event ∷ events) new (next, (place, steps), run) bios =
    node_bios scene next events new run (bios_after scene.setup (old.task place) (touch_of event.what) bios)

-- no node is open at the start
abbrev pub no_bios : ℕ → ℕ → Bio
no_bios writer place = no_bio
