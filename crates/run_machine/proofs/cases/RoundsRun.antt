-- Two rounds of one write each, to sectors that they share, and a reserve that changes between them: 16 events, after which the state has ended.
use Rattle.std.proofs.Common.{◌≡◌, ◌+◌, ◌++◌, ◌*◌, ◌==◌, if◌then◌else◌, ℕ, Bool, List, [], ◌∷◌, sum_by, codes, Option, None, Some, refl, arith, true, false}
use Rattle.std.specs.Global.{Global}
use Rattle.elem_ledger.specs.Ledger.{LedgerId}
use Rattle.fail_script.specs.Script.{Answers, only_tail}
use Rattle.stack_base.specs.declared.ids.PoolId.{PoolId}
use Rattle.stack_base.specs.declared.ids.PoolId.TheVariants.{FsBios, FsVecs}
use Rattle.stack_base.specs.declared.ids.Status.TheVariants.{Ok}
use Rattle.stack_base.specs.Tree.{tree_below, over_shape}
use Rattle.decl_text.specs.Text.{without_empty_end, is_name, number_of}
use Rattle.decl_text.specs.Commands.{command_of}
use Rattle.decl_text.specs.Items.{meaning}
use Rattle.decl_text.specs.Known.{declared_pool as pool_at}
use Rattle.decl_text.specs.Refusals.{refusal, first_found}
use Rattle.layout_model.specs.declared.write.Write.{Write}
use Rattle.layout_model.specs.Need.{needed, elements_begun}
use Rattle.layout_model.specs.NeedCounts.{nodes as nodes_of}
use Rattle.mempool_core.specs.Move.{takes_spare, gives, resizes}
use Rattle.bio_records.specs.declared.bio.Pad.{Pad}
use Rattle.bio_records.specs.Items.{Item}
use Rattle.model_disks.specs.Disks.{DiskState}
use Rattle.model_disks.specs.Moves as disk
use Rattle.model_disks.specs.Moves.{written}
use Rattle.bio_books.specs.Books.{BookState, Node, top_node, told}
use Rattle.bio_books.specs.Drops.{closed_of, Closed}
use Rattle.bio_books.specs.Drops as end
use Rattle.bio_books.specs.Links.{Made}
use Rattle.run_machine.specs.declared.event.Event.{Event}
use Rattle.run_machine.specs.declared.event.TaskId.TheVariants as id
use Rattle.run_machine.specs.declared.event.Got.TheVariants.{Spare}
use Rattle.run_machine.specs.declared.event.How.TheVariants as how
use Rattle.run_machine.specs.declared.event.End.TheVariants as left
use Rattle.run_machine.specs.declared.event.What.{What}
use Rattle.run_machine.specs.declared.event.What.TheVariants as what
use Rattle.run_machine.specs.Maps.{upd}
use Rattle.run_machine.specs.Scene.{Setup, Scene}
use Rattle.run_machine.specs.Requests.{HadBio, LinkedTo, Did, Completed, DroppedTo, Present, LeftOver, OutIs}
use Rattle.run_machine.specs.Submissions.{rests}
use Rattle.run_machine.specs.Tasks.{Todo, TaskState, Writer, Completer, Keeper, NoBio, Empty, Keeps, Resizes, Starts, filled_short}
use Rattle.run_machine.specs.Objects.{clear_bio, done_one, TallyState}
use Rattle.run_machine.specs.Opened.{Scenario, places_of}
use Rattle.run_machine.specs.Opened as texts
use Rattle.run_machine.specs.Runs.{State, IsRun, HasEnded}
use Rattle.run_machine.proofs.Beginnings.{IsOfScenario, objects_by, state_by}
use Rattle.run_machine.proofs.Beginnings as begins
use Rattle.run_machine.proofs.Texts.{says_of}
use Rattle.run_machine.proofs.cases.OneDisk.{setup_over, reserve, stack, is_of_scenario, a}
use Rattle.run_machine.proofs.TextRuns.{IsRunOfText, run_of_text}
use Rattle.run_machine.proofs.Turns.{Turn, follow, AreTurns, turns_run, takes, on_disk, in_book, all_home}

abbrev pub setup : Setup
setup = setup_over 8 (λ writer. (if 0 == writer then 1 else 0) + (if 1 == writer then 1 else 0))

abbrev pub write : ℕ → Write
write number = record { task = number; dev = a; start = number; count = 2; tag = 1000 * number }

abbrev todo : ℕ → Todo
todo number = record { number = number; round = number; write = write number }

abbrev tasks : List TaskState
tasks =
    Writer 0 (todo 0 ∷ []) NoBio rests
    ∷ Writer 1 (todo 1 ∷ []) NoBio rests
    ∷ Completer a Empty
    ∷ Keeper (Keeps (Resizes FsBios 3 1 ∷ Starts 1 1 ∷ []))
    ∷ []

-- no pool has ordinary memory
abbrev scripts : List (PoolId × Answers)
scripts = (FsBios, only_tail false) ∷ (FsVecs, only_tail false) ∷ []

abbrev pub tally : TallyState
tally = record { round = 0; left = 1 ∷ 1 ∷ []; statuses = Ok ∷ Ok ∷ [] }

abbrev pub start : State
start = state_by (objects_by setup reserve scripts tally) tasks

module _ (some : LedgerId) where
  abbrev pub ledger : ℕ → LedgerId
  ledger number = record some { no = number }

  abbrev pub scene : Scene
  scene = record { setup = setup; tasks = 4; books = 8; writes = 2; ledger = ledger }

  abbrev pub bio : ℕ → Item Pad
  bio number = filled_short number (todo number) 0 (clear_bio (ledger 65))

  abbrev pub closed : ℕ → Closed
  closed number = closed_of (told (top_node number None) Ok (Some (bio number)))

  abbrev completed : ℕ → DiskState → DiskState
  completed number disk = record disk { image = written (bio number).bio disk.image; pending = [] }

  abbrev nodes : Option Node → BookState → BookState
  nodes node book = record book { nodes = node ∷ [] }

  -- a write, from its take to its end
  abbrev pub writing : ℕ → List Turn
  writing number =
      takes number (HadBio Spare (clear_bio (ledger 65))) 65 takes_spare
      ∷ in_book number (LinkedTo (Made 0)) number (nodes (Some (top_node number None)))
      ∷ on_disk number Did 0 (disk.pushed (bio number))
      ∷ on_disk 2 (Completed 0 (bio number) Ok) 0 (completed number)
      ∷ in_book 2 (DroppedTo (end.Top (closed number))) number (nodes None)
      ∷ takes 2 Did 65 gives
      ∷ record { place = 2; reply = Did; change = λ old. record old { tally = done_one number Ok old.tally } }
      ∷ []

  abbrev keeping : List Turn
  keeping =
      takes 3 (OutIs 0) 65 (resizes 3)
      ∷ record { place = 3; reply = Did; change = λ old. record old { tally = record old.tally { round = 1 } } }
      ∷ []

  abbrev pub w : ℕ → What → Event
  w writer what = record { task = id.Writer writer; what = what }

  abbrev pub c : What → Event
  c what = record { task = id.Completer a; what = what }

  abbrev pub k : What → Event
  k what = record { task = id.Keeper; what = what }

  abbrev written_events : ℕ → List Event
  written_events number =
      w number (what.Take FsBios Spare) ∷ w number (what.Link number how.Write 0) ∷ w number (what.Push a number 2 0)
      ∷ c (what.Complete a 0 Ok) ∷ c (what.Drop number 0 Ok left.Top) ∷ c (what.Give FsBios) ∷ c (what.Done number Ok)
      ∷ []

  abbrev pub turns : List Turn
  turns = writing 0 ++ (keeping ++ writing 1)

  abbrev pub events : List Event
  events = written_events 0 ++ (k (what.Resize FsBios 3) ∷ k (what.Round 1) ∷ written_events 1)

  pub are_turns : AreTurns scene start turns events
  unfolding upd
  are_turns = (
    (refl, refl, (Present 0, (refl, refl), refl), refl, (((omega arith, omega arith), refl), refl)),
    (
      (refl, refl, tt, refl, ((refl, refl), refl)),
      (
        (refl, refl, tt, refl, refl),
        (
          (refl, refl, tt, refl, (record { taken = refl; status = refl; after = refl }, refl)),
          (
            (refl, refl, tt, refl, ((refl, refl, refl, refl), refl)),
            (
              (refl, refl, tt, refl, (omega arith, refl)),
              (
                (refl, refl, tt, refl, refl),
                (
                  (refl, refl, (LeftOver 1, (refl, refl), refl), refl, (refl, refl)),
                  (
                    (refl, refl, (LeftOver 1, (refl, refl), refl), refl, (omega arith, refl)),
                    (
                      (refl, refl, (Present 1, (refl, refl), refl), refl, (((omega arith, omega arith), refl), refl)),
                      (
                        (refl, refl, tt, refl, ((refl, refl), refl)),
                        (
                          (refl, refl, tt, refl, refl),
                          (
                            (refl, refl, tt, refl, (record { taken = refl; status = refl; after = refl }, refl)),
                            (
                              (refl, refl, tt, refl, ((refl, refl, refl, refl), refl)),
                              (
                                (refl, refl, tt, refl, (omega arith, refl)),
                                (
                                  (refl, refl, tt, refl, refl),
                                  tt,
                                ),
                              ),
                            ),
                          ),
                        ),
                      ),
                    ),
                  ),
                ),
              ),
            ),
          ),
        ),
      ),
    ),
  )

  unfoldable pub rounds_run : IsRun scene start events (follow setup start turns)
  rounds_run = turns_run scene start turns events are_turns

  -- the pool has its new reserve then, all of it at home
  reserve_is_new : ((follow setup start turns).objects.pool 65).facts.min ≡ 3
  unfolding upd
  reserve_is_new = refl

  reserve_is_home : ((follow setup start turns).objects.pool 65).facts.spares ≡ 3
  unfolding upd
  reserve_is_home = refl

  -- no write is unfinished, and nothing is out of any pool
  rounds_end : HasEnded (follow setup start turns)
  unfolding upd
  rounds_end = record { writes = refl; pools = all_home (follow setup start turns).objects.pool (65 ∷ []) (refl, tt) (λ number other. rw other.0 refl) }

-- a disk of eight sectors, no ordinary memory, and two writes with a `sync` line between them, behind which a reserve changes
abbrev text : List ℕ
text = codes "disk a 8\nmemory none\nwrite 0 a 0 2 0\nsync\nresize fs.bios 3\nwrite 1 a 1 2 1000"

-- The text says this scenario, and the run begins in the state in which its runs are opened.
module _ (memory : Global) where
  abbrev pub scenario : Scenario
  scenario = record {
    stack = stack memory 8;
    scripts = scripts;
    writes = write 0 ∷ write 1 ∷ [];
    rounds = 0 ∷ 1 ∷ [];
    changes = record { round = 1; pool = FsBios; min = 3 } ∷ [];
  }

  abbrev among : Bool → Bool → List Todo
  among first second = if first then todo 0 ∷ (if second then todo 1 ∷ [] else []) else if second then todo 1 ∷ [] else []

  places_if : (first second : Bool)
      → (if first then 1 else 0) + (if second then 1 else 0) ≡ sum_by (λ (todo : Todo). nodes_of (stack memory 8) todo.write) (among first second)
  unfolding tree_below over_shape needed elements_begun
  places_if true true = refl
  places_if true false = refl
  places_if false true = refl
  places_if false false = refl

  places_are : (writer : ℕ) → setup.places writer ≡ places_of scenario writer
  places_are writer = places_if (0 == writer) (1 == writer)

  tasks_are : tasks ≡ texts.opened_tasks scenario
  unfolding tree_below over_shape
  tasks_are = refl

  is_as_written : IsOfScenario setup reserve tally scenario
  is_as_written = is_of_scenario memory 8 scripts scenario.writes scenario.rounds scenario.changes setup.places places_are tally refl

  pub start_is : start ≡ texts.start scenario
  start_is = begins.start_is setup reserve tally scenario is_as_written tasks tasks_are

  pub scene_is : (some : LedgerId) → scene some ≡ texts.scene scenario (ledger some)
  scene_is some = begins.scene_is setup reserve tally scenario is_as_written tasks tasks_are (ledger some)

  is_of_text : IsRunOfText text scenario ledger events (λ some. follow setup start (turns some))
  unfolding refusal without_empty_end first_found command_of is_name number_of meaning pool_at over_shape needed elements_begun
  is_of_text =
      run_of_text setup reserve tally tasks text scenario is_as_written tasks_are (says_of text scenario refl (refl, tt) refl)
      ledger events (λ some. follow setup start (turns some)) rounds_run
