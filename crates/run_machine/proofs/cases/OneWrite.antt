-- One write of a sector to a disk of 64: seven events, after which the state has ended.
use Rattle.std.proofs.Common.{◌≡◌, ◌==◌, if◌then◌else◌, ℕ, List, [], ◌∷◌, codes, None, Some, refl, arith, true}
use Rattle.std.specs.Global.{Global}
use Rattle.elem_ledger.specs.Ledger.{LedgerId}
use Rattle.fail_script.specs.Script.{Answers, only_tail}
use Rattle.stack_base.specs.declared.ids.PoolId.{PoolId}
use Rattle.stack_base.specs.declared.ids.PoolId.TheVariants.{FsBios, FsVecs}
use Rattle.stack_base.specs.declared.ids.Status.TheVariants.{Ok}
use Rattle.stack_base.specs.Tree.{tree_below, over_shape}
use Rattle.decl_text.specs.Text.{without_empty_end, is_name, number_of}
use Rattle.decl_text.specs.Commands.{command_of}
use Rattle.decl_text.specs.Items.{meaning}
use Rattle.decl_text.specs.Known.{declared_pool as pool_at}
use Rattle.decl_text.specs.Refusals.{refusal, first_found}
use Rattle.layout_model.specs.declared.write.Write.{Write}
use Rattle.layout_model.specs.Need.{needed, elements_begun}
use Rattle.layout_model.specs.NeedCounts.{nodes}
use Rattle.mempool_core.specs.Move.{takes_ordinary, gives}
use Rattle.bio_records.specs.declared.bio.Pad.{Pad}
use Rattle.bio_records.specs.Items.{Item}
use Rattle.model_disks.specs.Disks.{DiskState}
use Rattle.model_disks.specs.Moves as disk
use Rattle.model_disks.specs.Moves.{written}
use Rattle.bio_books.specs.Books.{top_node, told, with_node}
use Rattle.bio_books.specs.Drops.{closed_of, Closed}
use Rattle.bio_books.specs.Drops as end
use Rattle.bio_books.specs.Links.{Made}
use Rattle.run_machine.specs.declared.event.Event.{Event}
use Rattle.run_machine.specs.declared.event.TaskId.TheVariants as id
use Rattle.run_machine.specs.declared.event.Got.TheVariants.{Ordinary}
use Rattle.run_machine.specs.declared.event.How.TheVariants as how
use Rattle.run_machine.specs.declared.event.End.TheVariants as left
use Rattle.run_machine.specs.declared.event.What.{What}
use Rattle.run_machine.specs.declared.event.What.TheVariants as what
use Rattle.run_machine.specs.Maps.{upd}
use Rattle.run_machine.specs.Scene.{Setup, Scene}
use Rattle.run_machine.specs.Requests.{HadBio, LinkedTo, Did, Completed, DroppedTo, Present}
use Rattle.run_machine.specs.Submissions.{rests}
use Rattle.run_machine.specs.Tasks.{Todo, TaskState, Writer, Completer, NoBio, Empty, filled_short}
use Rattle.run_machine.specs.Objects.{clear_bio, done_one}
use Rattle.run_machine.specs.Opened.{Scenario}
use Rattle.run_machine.specs.Runs.{State, IsRun, HasEnded}
use Rattle.run_machine.proofs.Beginnings.{objects_by, state_by, first_places, one_left}
use Rattle.run_machine.proofs.Texts.{says_of}
use Rattle.run_machine.proofs.cases.OneDisk.{setup_over, reserve, stack, is_of_scenario, a}
use Rattle.run_machine.proofs.TextRuns.{IsRunOfText, run_of_text}
use Rattle.run_machine.proofs.Turns.{Turn, follow, AreTurns, turns_run, takes, on_disk, in_book, all_home}

abbrev pub setup : Setup
setup = setup_over 64 (λ writer. if 0 == writer then 1 else 0)

abbrev write : Write
write = record { task = 0; dev = a; start = 0; count = 1; tag = 0 }

abbrev todo : Todo
todo = record { number = 0; round = 0; write = write }

abbrev tasks : List TaskState
tasks = Writer 0 (todo ∷ []) NoBio rests ∷ Completer a Empty ∷ []

-- every take may have ordinary memory
abbrev scripts : List (PoolId × Answers)
scripts = (FsBios, only_tail true) ∷ (FsVecs, only_tail true) ∷ []

abbrev pub start : State
start = state_by (objects_by setup reserve scripts one_left) tasks

module _ (some : LedgerId) where
  abbrev ledger : ℕ → LedgerId
  ledger number = record some { no = number }

  abbrev pub scene : Scene
  scene = record { setup = setup; tasks = 2; books = 8; writes = 1; ledger = ledger }

  abbrev bio : Item Pad
  bio = filled_short 0 todo 0 (clear_bio (ledger 65))

  abbrev closed : Closed
  closed = closed_of (told (top_node 0 None) Ok (Some bio))

  -- the first sector of the disk gets the write's data
  abbrev completed : DiskState → DiskState
  completed disk = record disk { image = written bio.bio disk.image; pending = [] }

  abbrev pub turns : List Turn
  turns =
      takes 0 (HadBio Ordinary (clear_bio (ledger 65))) 65 takes_ordinary
      ∷ in_book 0 (LinkedTo (Made 0)) 0 (λ book. with_node book 0 (Some (top_node 0 None)))
      ∷ on_disk 0 Did 0 (disk.pushed bio)
      ∷ on_disk 1 (Completed 0 bio Ok) 0 completed
      ∷ in_book 1 (DroppedTo (end.Top closed)) 0 (λ book. with_node book 0 None)
      ∷ takes 1 Did 65 gives
      ∷ record { place = 1; reply = Did; change = λ old. record old { tally = done_one 0 Ok old.tally } }
      ∷ []

  abbrev pub by_writer : What → Event
  by_writer what = record { task = id.Writer 0; what = what }

  abbrev pub by_completer : What → Event
  by_completer what = record { task = id.Completer a; what = what }

  abbrev events : List Event
  events =
      by_writer (what.Take FsBios Ordinary)
      ∷ by_writer (what.Link 0 how.Write 0)
      ∷ by_writer (what.Push a 0 1 0)
      ∷ by_completer (what.Complete a 0 Ok)
      ∷ by_completer (what.Drop 0 0 Ok left.Top)
      ∷ by_completer (what.Give FsBios)
      ∷ by_completer (what.Done 0 Ok)
      ∷ []

  are_turns : AreTurns scene start turns events
  unfolding upd
  are_turns = (
    (refl, refl, (Present 0, (refl, refl), refl), refl, (((refl, omega arith), refl), refl)),
    (
      (refl, refl, tt, refl, ((refl, refl), refl)),
      (
        (refl, refl, tt, refl, refl),
        (
          (refl, refl, tt, refl, (record { taken = refl; status = refl; after = refl }, refl)),
          (
            (refl, refl, tt, refl, ((refl, refl, refl, refl), refl)),
            (
              (refl, refl, tt, refl, (omega arith, refl)),
              (
                (refl, refl, tt, refl, refl),
                tt,
              ),
            ),
          ),
        ),
      ),
    ),
  )

  one_write_runs : IsRun scene start events (follow setup start turns)
  one_write_runs = turns_run scene start turns events are_turns

  -- no write is unfinished then, and each element is at home
  one_write_ends : HasEnded (follow setup start turns)
  unfolding upd
  one_write_ends = record { writes = refl; pools = all_home (follow setup start turns).objects.pool (65 ∷ []) (refl, tt) (λ number other. rw other.0 refl) }

-- a disk of 64 sectors, and one write of its first sector
abbrev text : List ℕ
text = codes "disk a 64\nwrite 0 a 0 1 0"

-- The text says this scenario, and the run begins in the state in which its runs are opened.
module _ (memory : Global) where
  abbrev pub scenario : Scenario
  scenario = record { stack = stack memory 64; scripts = scripts; writes = write ∷ []; rounds = 0 ∷ []; changes = [] }

  one_node : 1 ≡ nodes (stack memory 64) write
  unfolding tree_below over_shape needed elements_begun
  one_node = refl

  is_of_text : IsRunOfText text scenario ledger events (λ some. follow setup start (turns some))
  unfolding refusal without_empty_end first_found command_of is_name number_of meaning pool_at tree_below over_shape needed elements_begun
  is_of_text =
      run_of_text setup reserve one_left tasks text scenario
      (is_of_scenario memory 64 scripts (write ∷ []) (0 ∷ []) [] setup.places (first_places (stack memory 64) todo 1 one_node) one_left refl)
      refl (says_of text scenario refl (refl, tt) refl) ledger events (λ some. follow setup start (turns some)) one_write_runs
