-- A mirror of two, with one bio and one record in reserve and no ordinary memory: 25 events, in one of which a bio is punted, after which the state
-- has ended.
use Rattle.std.proofs.Common.{◌≡◌, ◌==◌, ◌++◌, ℕ, inl, List, [], ◌∷◌, codes, Option, None, Some, refl, arith, false, true}
use Rattle.std.specs.Global.{Global}
use Rattle.elem_ledger.specs.Ledger.{LedgerId}
use Rattle.stack_base.specs.declared.ids.DevId.{DevId}
use Rattle.stack_base.specs.declared.ids.PoolId.TheVariants.{FsBios, Bios, Records}
use Rattle.stack_base.specs.declared.ids.Status.TheVariants.{Ok}
use Rattle.stack_base.specs.Mapping.{size_of, smallest}
use Rattle.stack_base.specs.Tree.{tree_below, over_shape}
use Rattle.decl_text.specs.Text.{without_empty_end, is_name, number_of}
use Rattle.decl_text.specs.Commands.{command_of}
use Rattle.decl_text.specs.Items.{meaning}
use Rattle.decl_text.specs.Known.{declared_pool as pool_at}
use Rattle.decl_text.specs.Refusals.{refusal, first_found}
use Rattle.layout_model.specs.Need.{needed, elements_begun as begins}
use Rattle.mempool_core.specs.Move.{takes_spare, misses, gives}
use Rattle.bio_records.specs.declared.bio.Pad.{Pad}
use Rattle.bio_records.specs.Items.{Item}
use Rattle.model_disks.specs.Disks.{DiskState}
use Rattle.model_disks.specs.Moves as disk
use Rattle.model_disks.specs.Moves.{written}
use Rattle.bio_books.specs.Books.{BookState, Node, SlipItem, top_node, master_node, leg_node, with_kept_part, told, lowered}
use Rattle.bio_books.specs.Drops.{closed_of, Closed}
use Rattle.bio_books.specs.Drops as end
use Rattle.bio_books.specs.Links.{Made}
use Rattle.run_machine.specs.declared.event.Event.{Event}
use Rattle.run_machine.specs.declared.event.TaskId.TheVariants as id
use Rattle.run_machine.specs.declared.event.Got.TheVariants.{Spare, Missed}
use Rattle.run_machine.specs.declared.event.How.TheVariants as how
use Rattle.run_machine.specs.declared.event.End.TheVariants as left
use Rattle.run_machine.specs.declared.event.What.{What}
use Rattle.run_machine.specs.declared.event.What.TheVariants as what
use Rattle.run_machine.specs.Maps.{upd}
use Rattle.run_machine.specs.Scene.{Scene}
use Rattle.run_machine.specs.Requests.{HadBio, HadSlip, Missed as missed, LinkedTo, Did, Popped, Completed, DroppedTo, Present}
use Rattle.run_machine.specs.Submissions.{rests, leg_at}
use Rattle.run_machine.specs.Tasks.{TaskState, Writer, Rescuer, Completer, NoBio, Empty, filled_short}
use Rattle.run_machine.specs.Objects.{clear_bio, clear_slip, done_one}
use Rattle.run_machine.specs.Runs.{State, IsRun, HasEnded}
pub use Rattle.run_machine.proofs.cases.OneDisk.{a}
pub use Rattle.run_machine.proofs.cases.OneMirror.{b, m, mirror, setup, write, todo, reserve, scripts, objects, stack, scenario, setup_is, objects_are}
use Rattle.run_machine.proofs.Beginnings.{state_by, one_left}
use Rattle.run_machine.proofs.Texts.{says_of}
use Rattle.run_machine.proofs.TextRuns.{IsRunOfText, run_of_text}
use Rattle.run_machine.proofs.cases.OneMirror.{is_of_scenario}
use Rattle.run_machine.proofs.Turns.{Turn, follow, AreTurns, turns_run, takes, rescues, on_disk, in_book, all_home}

abbrev pub tasks : List TaskState
tasks = Writer 0 (todo ∷ []) NoBio rests ∷ Rescuer m rests ∷ Completer a Empty ∷ Completer b Empty ∷ []

abbrev pub start : State
start = state_by objects tasks

module _ (some : LedgerId) where
  abbrev pub ledger : ℕ → LedgerId
  ledger number = record some { no = number }

  abbrev pub scene : Scene
  scene = record { setup = setup true; tasks = 4; books = 8; writes = 1; ledger = ledger }

  abbrev bio : Item Pad
  bio = filled_short 0 todo 0 (clear_bio (ledger 65))

  abbrev slip : SlipItem
  slip = clear_slip (ledger 5)

  -- the two legs: both have the node at place 2, one after the other
  abbrev leg : ℕ → Item Pad
  leg number = leg_at bio.bio (clear_bio (ledger 4)) number 2 mirror

  -- the write's node, which keeps the bio while the mirror copies it; the master, before and after its first leg's end; and a leg's node
  abbrev top : Node
  top = with_kept_part bio (top_node 0 None)

  abbrev master : Node
  master = master_node 0 0 slip 2

  abbrev half : Node
  half = lowered (told master Ok None)

  abbrev leg_end : ℕ → Closed
  leg_end number = closed_of (told (leg_node 0 1) Ok (Some (leg number)))

  -- the book with these nodes
  abbrev nodes : Option Node → Option Node → Option Node → BookState → BookState
  nodes first second third book = record book { nodes = first ∷ second ∷ third ∷ None ∷ [] }

  abbrev completed : Item Pad → DiskState → DiskState
  completed item disk = record disk { image = written item.bio disk.image; pending = [] }

  -- up to the link of the first leg
  abbrev pub begun : List Turn
  begun =
      takes 0 (HadBio Spare (clear_bio (ledger 65))) 65 takes_spare
      ∷ in_book 0 (LinkedTo (Made 0)) 0 (nodes (Some (top_node 0 None)) None None)
      ∷ takes 0 (HadSlip Spare slip) 5 takes_spare
      ∷ in_book 0 (LinkedTo (Made 1)) 0 (nodes (Some top) (Some master) None)
      ∷ takes 0 (HadBio Spare (clear_bio (ledger 4))) 4 takes_spare
      ∷ in_book 0 (LinkedTo (Made 2)) 0 (nodes (Some top) (Some master) (Some (leg_node 0 1)))
      ∷ []

  abbrev pub turns : List Turn
  turns =
      begun
      ++ takes 0 (missed false) 4 (misses false)
      ∷ rescues 0 Did 2 (leg 0 ∷ [])
      ∷ rescues 1 (Popped (leg 0)) 2 []
      ∷ on_disk 1 Did 0 (disk.pushed (leg 0))
      ∷ on_disk 2 (Completed 0 (leg 0) Ok) 0 (completed (leg 0))
      ∷ in_book 2 (DroppedTo (end.Up (leg_end 0))) 0 (nodes (Some top) (Some master) None)
      ∷ takes 2 Did 4 gives
      ∷ in_book 2 (DroppedTo end.Left) 0 (nodes (Some top) (Some half) None)
      ∷ takes 0 (HadBio Spare (clear_bio (ledger 4))) 4 takes_spare
      ∷ in_book 0 (LinkedTo (Made 2)) 0 (nodes (Some top) (Some half) (Some (leg_node 0 1)))
      ∷ on_disk 0 Did 1 (disk.pushed (leg 1))
      ∷ on_disk 3 (Completed 0 (leg 1) Ok) 1 (completed (leg 1))
      ∷ in_book 3 (DroppedTo (end.Up (leg_end 1))) 0 (nodes (Some top) (Some half) None)
      ∷ takes 3 Did 4 gives
      ∷ in_book 3 (DroppedTo (end.Up (closed_of (told half Ok None)))) 0 (nodes (Some top) None None)
      ∷ takes 3 Did 5 gives
      ∷ in_book 3 (DroppedTo (end.Top (closed_of (told top Ok None)))) 0 (nodes None None None)
      ∷ takes 3 Did 65 gives
      ∷ record { place = 3; reply = Did; change = λ old. record old { tally = done_one 0 Ok old.tally } }
      ∷ []

  abbrev pub w : What → Event
  w what = record { task = id.Writer 0; what = what }

  abbrev pub r : What → Event
  r what = record { task = id.Rescuer m; what = what }

  abbrev pub c : DevId → What → Event
  c disk what = record { task = id.Completer disk; what = what }

  abbrev pub begun_events : List Event
  begun_events =
      w (what.Take FsBios Spare) ∷ w (what.Link 0 how.Write 0)
      ∷ w (what.Take (Records m) Spare) ∷ w (what.Link 0 how.Master 1)
      ∷ w (what.Take (Bios m) Spare) ∷ w (what.Link 0 how.Leg 2)
      ∷ []

  abbrev events : List Event
  events =
      begun_events
      ++ w (what.Try (Bios m) Missed) ∷ w (what.Punt m 1)
      ∷ r (what.Pop m) ∷ r (what.Push a 0 1 0)
      ∷ c a (what.Complete a 0 Ok) ∷ c a (what.Drop 0 2 Ok left.Up) ∷ c a (what.Give (Bios m)) ∷ c a (what.Drop 0 1 Ok left.Left)
      ∷ w (what.Take (Bios m) Spare) ∷ w (what.Link 0 how.Leg 2) ∷ w (what.Push b 0 1 1)
      ∷ c b (what.Complete b 0 Ok) ∷ c b (what.Drop 0 2 Ok left.Up) ∷ c b (what.Give (Bios m)) ∷ c b (what.Drop 0 1 Ok left.Up)
      ∷ c b (what.Give (Records m)) ∷ c b (what.Drop 0 0 Ok left.Top) ∷ c b (what.Give FsBios) ∷ c b (what.Done 0 Ok)
      ∷ []

  are_turns : AreTurns scene start turns events
  unfolding upd
  are_turns = (
    (refl, refl, (Present 0, (refl, refl), refl), refl, (((omega arith, omega arith), refl), refl)),
    (
      (refl, refl, tt, refl, ((refl, refl), refl)),
      (
        (refl, refl, tt, refl, (((omega arith, omega arith), refl), refl)),
        (
          (refl, refl, tt, refl, ((refl, refl), refl)),
          (
            (refl, refl, tt, refl, (((omega arith, omega arith), refl), refl)),
            (
              (refl, refl, tt, refl, ((refl, refl), refl)),
              (
                (refl, refl, tt, refl, ((inl refl, refl), refl)),
                (
                  (refl, refl, tt, refl, refl),
                  (
                    (refl, refl, tt, refl, (refl, refl)),
                    (
                      (refl, refl, tt, refl, refl),
                      (
                        (refl, refl, tt, refl, (record { taken = refl; status = refl; after = refl }, refl)),
                        (
                          (refl, refl, tt, refl, ((refl, refl, refl, refl), refl)),
                          (
                            (refl, refl, tt, refl, (omega arith, refl)),
                            (
                              (refl, refl, tt, refl, ((omega arith, refl), refl)),
                              (
                                (refl, refl, tt, refl, (((omega arith, omega arith), refl), refl)),
                                (
                                  (refl, refl, tt, refl, ((refl, refl), refl)),
                                  (
                                    (refl, refl, tt, refl, refl),
                                    (
                                      (refl, refl, tt, refl, (record { taken = refl; status = refl; after = refl }, refl)),
                                      (
                                        (refl, refl, tt, refl, ((refl, refl, refl, refl), refl)),
                                        (
                                          (refl, refl, tt, refl, (omega arith, refl)),
                                          (
                                            (refl, refl, tt, refl, ((refl, refl, refl, refl), refl)),
                                            (
                                              (refl, refl, tt, refl, (omega arith, refl)),
                                              (
                                                (refl, refl, tt, refl, ((refl, refl, refl, refl), refl)),
                                                (
                                                  (refl, refl, tt, refl, (omega arith, refl)),
                                                  (
                                                    (refl, refl, tt, refl, refl),
                                                    tt,
                                                  ),
                                                ),
                                              ),
                                            ),
                                          ),
                                        ),
                                      ),
                                    ),
                                  ),
                                ),
                              ),
                            ),
                          ),
                        ),
                      ),
                    ),
                  ),
                ),
              ),
            ),
          ),
        ),
      ),
    ),
  )

  mirror_runs : IsRun scene start events (follow (setup true) start turns)
  mirror_runs = turns_run scene start turns events are_turns

  -- no write is unfinished then, and each element is at home
  others_home : (number : ℕ) → (number == 65) ≡ false → (number == 5) ≡ false → (number == 4) ≡ false → ((follow (setup true) start turns).objects.pool number).facts.out ≡ 0
  unfolding upd
  others_home number bios records own = rw (bios, records, own) refl

  mirror_ends : HasEnded (follow (setup true) start turns)
  unfolding upd
  mirror_ends = record {
    writes = refl;
    pools = all_home (follow (setup true) start turns).objects.pool (65 ∷ 5 ∷ 4 ∷ []) (refl, (refl, (refl, tt))) (λ number other. others_home number other.0 other.1.0 other.1.1.0);
  }

-- two disks of eight sectors, their mirror, no ordinary memory, and one write of the mirror's first sector
abbrev text : List ℕ
text = codes "disk a 8\ndisk b 8\nmirror m a b reserve=1 records=1\nmemory none\nwrite 0 m 0 1 0"

-- the text says this scenario with a rescuer, and the run begins in the state in which its runs are opened
module _ (memory : Global) where
  is_of_text : IsRunOfText text (scenario memory true) ledger events (λ some. follow (setup true) start (turns some))
  unfolding refusal without_empty_end first_found command_of is_name number_of meaning pool_at tree_below over_shape size_of smallest needed begins
  is_of_text =
      run_of_text (setup true) reserve one_left tasks text (scenario memory true) (is_of_scenario memory true) refl
      (says_of text (scenario memory true) refl (refl, (refl, (refl, tt))) refl) ledger events (λ some. follow (setup true) start (turns some)) mirror_runs
