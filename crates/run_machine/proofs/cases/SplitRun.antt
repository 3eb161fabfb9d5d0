-- A linear device over a limit and a disk: a write is cut, its first piece is cut again, and each first piece goes all the way down before a
-- rest is cut. Then each part ends: 21 events, after which the state has ended.
use Rattle.std.proofs.Common.{◌≡◌, ◌+◌, ◌==◌, if◌then◌else◌, ℕ, zero, suc, List, [], ◌∷◌, slice_index_or, codes, Option, None, Some, refl, arith, false}
use Rattle.std.specs.Global.{Global}
use Rattle.elem_ledger.specs.Ledger.{LedgerId}
use Rattle.fail_script.specs.Script.{Answers, only_tail}
use Rattle.stack_base.specs.declared.ids.PoolId.{PoolId}
use Rattle.stack_base.specs.declared.ids.PoolId.TheVariants.{FsBios, FsVecs, Bios, Records}
use Rattle.stack_base.specs.declared.ids.SetId.{SetId}
use Rattle.stack_base.specs.declared.ids.SetId.TheVariants.{Fs, Of}
use Rattle.stack_base.specs.declared.ids.Status.TheVariants.{Ok}
use Rattle.stack_base.specs.declared.stack.Kind.TheVariants.{Linear, Limit}
use Rattle.stack_base.specs.declared.stack.Stack.{Stack}
use Rattle.stack_base.specs.Cutting.{piece_end, next_member}
use Rattle.stack_base.specs.Mapping.{slot, among, head, size_of, smallest}
use Rattle.stack_base.specs.Tree.{Tree, Leaf, Split, tree, tree_below, over_shape, member_at}
use Rattle.decl_text.specs.Text.{without_empty_end, is_name, number_of}
use Rattle.decl_text.specs.Commands.{command_of}
use Rattle.decl_text.specs.Items.{meaning}
use Rattle.decl_text.specs.Known.{declared_pool as pool_at}
use Rattle.decl_text.specs.Refusals.{refusal, first_found}
use Rattle.layout_model.specs.declared.write.Write.{Write}
use Rattle.layout_model.specs.May.{bads_of}
use Rattle.layout_model.specs.Need.{needed, elements_begun}
use Rattle.layout_model.specs.NeedCounts.{nodes as nodes_of}
use Rattle.mempool_core.specs.Move.{takes_spare, gives}
use Rattle.bio_records.specs.declared.bio.Pad.{Pad}
use Rattle.bio_records.specs.Segments.{segments_of}
use Rattle.bio_records.specs.Items.{Item}
use Rattle.model_disks.specs.Disks.{DiskState}
use Rattle.model_disks.specs.Moves as disk
use Rattle.model_disks.specs.Moves.{written}
use Rattle.bio_books.specs.Books.{BookState, Node, top_node, child_node, raised, told, lowered}
use Rattle.bio_books.specs.Drops.{closed_of}
use Rattle.bio_books.specs.Drops as end
use Rattle.bio_books.specs.Links.{Made}
use Rattle.run_machine.specs.declared.event.Event.{Event}
use Rattle.run_machine.specs.declared.event.TaskId.TheVariants as id
use Rattle.run_machine.specs.declared.event.Got.TheVariants.{Spare}
use Rattle.run_machine.specs.declared.event.How.TheVariants as how
use Rattle.run_machine.specs.declared.event.End.TheVariants as left
use Rattle.run_machine.specs.declared.event.What.{What}
use Rattle.run_machine.specs.declared.event.What.TheVariants as what
use Rattle.run_machine.specs.Maps.{upd}
use Rattle.run_machine.specs.Scene.{Setup, Scene}
use Rattle.run_machine.specs.Requests.{HadBio, LinkedTo, Did, Completed, DroppedTo, Present}
use Rattle.run_machine.specs.Submissions.{rests}
use Rattle.run_machine.specs.Tasks.{Todo, TaskState, Writer, Completer, NoBio, Empty}
use Rattle.run_machine.specs.Objects.{clear_bio, done_one}
use Rattle.run_machine.specs.Opened.{Scenario, device_at, reserve_of}
use Rattle.run_machine.specs.Opened as texts
use Rattle.run_machine.specs.Runs.{State, IsRun, HasEnded}
use Rattle.run_machine.proofs.Beginnings.{IsOfScenario, objects_by, state_by, reserves_are, first_places, one_left}
use Rattle.run_machine.proofs.Texts.{device, disk as disk_of, stack_of, says_of}
use Rattle.run_machine.proofs.TextRuns.{IsRunOfText, run_of_text}
use Rattle.run_machine.proofs.Turns.{Turn, follow, AreTurns, turns_run, takes, on_disk, in_book, all_home}

-- disks 0 and 1 of eight sectors, device 2 that lets at most two sectors pass to disk 0, and device 3 with device 2 and then disk 1
abbrev limit : Tree
limit = Split 2 (Limit 2 0) (8 ∷ []) (member_at 2 (Leaf 0 8 ∷ []))

abbrev linear : Tree
linear = Split 3 Linear (8 ∷ 8 ∷ []) (member_at 3 (limit ∷ Leaf 1 8 ∷ []))

abbrev pub setup : Setup
setup = record {
  count = 4;
  tree = λ dev. slice_index_or (Leaf 0 8 ∷ Leaf 1 8 ∷ limit ∷ linear ∷ []) dev (Leaf dev 0);
  rescuer = λ dev. false;
  places = λ writer. if 0 == writer then 3 else 0;
}

abbrev write : Write
write = record { task = 0; dev = device_at 3; start = 5; count = 5; tag = 7 }

abbrev todo : Todo
todo = record { number = 0; round = 0; write = write }

abbrev tasks : List TaskState
tasks = Writer 0 (todo ∷ []) NoBio rests ∷ Completer (device_at 0) Empty ∷ Completer (device_at 1) Empty ∷ []

-- the reserves of the writers' pools, and those of the bios of devices 2 and 3
abbrev reserve : PoolId → ℕ
reserve FsBios = 2
reserve FsVecs = 2
reserve (Bios dev) = slice_index_or (0 ∷ 0 ∷ 2 ∷ 2 ∷ []) dev.0 0
reserve (Records dev) = 0

-- no pool has ordinary memory
abbrev scripts : List (PoolId × Answers)
scripts =
    (FsBios, only_tail false)
    ∷ (FsVecs, only_tail false)
    ∷ (Bios (device_at 3), only_tail false)
    ∷ (Bios (device_at 2), only_tail false)
    ∷ []

abbrev pub start : State
start = state_by (objects_by setup reserve scripts one_left) tasks

module _ (some : LedgerId) where
  abbrev ledger : ℕ → LedgerId
  ledger number = record some { no = number }

  abbrev pub scene : Scene
  scene = record { setup = setup; tasks = 3; books = 8; writes = 1; ledger = ledger }

  -- a part of the write, from this place in it on
  abbrev part : ℕ → ℕ → ℕ → ℕ → ℕ → ℕ → ℕ → SetId → Item Pad
  part pool node dev first len place word set = record (clear_bio (ledger pool)) {
    bio = record {
      write = 0;
      writer = 0;
      node = node;
      dev = device_at dev;
      range = record { start = first; len = len };
      word = word;
      at = record { segment = 0; done = place };
      set = set;
    };
  }

  -- sectors 5 and 6, sector 7, and the last two, which are sectors 0 and 1 of the other disk
  abbrev first : Item Pad
  first = part 4 2 0 5 2 0 7 (Of (device_at 2))

  abbrev second : Item Pad
  second = part 6 1 0 7 1 2 135 (Of (device_at 3))

  abbrev third : Item Pad
  third = record (part 65 0 1 0 2 3 199 Fs) { short = segments_of 7 5 }

  abbrev nodes : Option Node → Option Node → Option Node → BookState → BookState
  nodes one two three book = record book { nodes = one ∷ two ∷ three ∷ [] }

  abbrev completed : Item Pad → List (Item Pad) → DiskState → DiskState
  completed item others disk = record disk { image = written item.bio disk.image; pending = others }

  -- the write's node and the first piece's with one end told
  abbrev top : Node
  top = lowered (told (raised (top_node 0 None)) Ok None)

  abbrev piece : Node
  piece = lowered (told (raised (child_node 0 0)) Ok None)

  abbrev pub turns : List Turn
  turns =
      takes 0 (HadBio Spare (clear_bio (ledger 65))) 65 takes_spare
      ∷ in_book 0 (LinkedTo (Made 0)) 0 (nodes (Some (top_node 0 None)) None None)
      ∷ takes 0 (HadBio Spare (clear_bio (ledger 6))) 6 takes_spare
      ∷ in_book 0 (LinkedTo (Made 1)) 0 (nodes (Some (raised (top_node 0 None))) (Some (child_node 0 0)) None)
      ∷ takes 0 (HadBio Spare (clear_bio (ledger 4))) 4 takes_spare
      ∷ in_book 0 (LinkedTo (Made 2)) 0 (nodes (Some (raised (top_node 0 None))) (Some (raised (child_node 0 0))) (Some (child_node 0 1)))
      ∷ on_disk 0 Did 0 (disk.pushed first)
      ∷ on_disk 0 Did 0 (disk.pushed second)
      ∷ on_disk 0 Did 1 (disk.pushed third)
      ∷ on_disk 1 (Completed 0 first Ok) 0 (completed first (second ∷ []))
      ∷ in_book 1 (DroppedTo (end.Up (closed_of (told (child_node 0 1) Ok (Some first))))) 0 (nodes (Some (raised (top_node 0 None))) (Some (raised (child_node 0 0))) None)
      ∷ takes 1 Did 4 gives
      ∷ in_book 1 (DroppedTo end.Left) 0 (nodes (Some (raised (top_node 0 None))) (Some piece) None)
      ∷ on_disk 1 (Completed 0 second Ok) 0 (completed second [])
      ∷ in_book 1 (DroppedTo (end.Up (closed_of (told piece Ok (Some second))))) 0 (nodes (Some (raised (top_node 0 None))) None None)
      ∷ takes 1 Did 6 gives
      ∷ in_book 1 (DroppedTo end.Left) 0 (nodes (Some top) None None)
      ∷ on_disk 2 (Completed 0 third Ok) 1 (completed third [])
      ∷ in_book 2 (DroppedTo (end.Top (closed_of (told top Ok (Some third))))) 0 (nodes None None None)
      ∷ takes 2 Did 65 gives
      ∷ record { place = 2; reply = Did; change = λ old. record old { tally = done_one 0 Ok old.tally } }
      ∷ []

  abbrev pub w : What → Event
  w what = record { task = id.Writer 0; what = what }

  abbrev pub c : ℕ → What → Event
  c disk what = record { task = id.Completer (device_at disk); what = what }

  abbrev events : List Event
  events =
      w (what.Take FsBios Spare) ∷ w (what.Link 0 how.Write 0)
      ∷ w (what.Take (Bios (device_at 3)) Spare) ∷ w (what.Link 0 how.Chain 1)
      ∷ w (what.Take (Bios (device_at 2)) Spare) ∷ w (what.Link 0 how.Chain 2)
      ∷ w (what.Push (device_at 0) 5 2 0) ∷ w (what.Push (device_at 0) 7 1 0) ∷ w (what.Push (device_at 1) 0 2 0)
      ∷ c 0 (what.Complete (device_at 0) 0 Ok) ∷ c 0 (what.Drop 0 2 Ok left.Up) ∷ c 0 (what.Give (Bios (device_at 2))) ∷ c 0 (what.Drop 0 1 Ok left.Left)
      ∷ c 0 (what.Complete (device_at 0) 0 Ok) ∷ c 0 (what.Drop 0 1 Ok left.Up) ∷ c 0 (what.Give (Bios (device_at 3))) ∷ c 0 (what.Drop 0 0 Ok left.Left)
      ∷ c 1 (what.Complete (device_at 1) 0 Ok) ∷ c 1 (what.Drop 0 0 Ok left.Top) ∷ c 1 (what.Give FsBios) ∷ c 1 (what.Done 0 Ok)
      ∷ []

  are_turns : AreTurns scene start turns events
  unfolding upd piece_end next_member slot among
  are_turns = (
    (refl, refl, (Present 0, (refl, refl), refl), refl, (((omega arith, omega arith), refl), refl)),
    (
      (refl, refl, tt, refl, ((refl, refl), refl)),
      (
        (refl, refl, tt, refl, (((omega arith, omega arith), refl), refl)),
        (
          (refl, refl, tt, refl, ((omega arith, refl, refl), refl)),
          (
            (refl, refl, tt, refl, (((omega arith, omega arith), refl), refl)),
            (
              (refl, refl, tt, refl, ((omega arith, refl, refl), refl)),
              (
                (refl, refl, tt, refl, refl),
                (
                  (refl, refl, tt, refl, refl),
                  (
                    (refl, refl, tt, refl, refl),
                    (
                      (refl, refl, tt, refl, (record { taken = refl; status = refl; after = refl }, refl)),
                      (
                        (refl, refl, tt, refl, ((refl, refl, refl, refl), refl)),
                        (
                          (refl, refl, tt, refl, (omega arith, refl)),
                          (
                            (refl, refl, tt, refl, ((omega arith, refl), refl)),
                            (
                              (refl, refl, tt, refl, (record { taken = refl; status = refl; after = refl }, refl)),
                              (
                                (refl, refl, tt, refl, ((refl, refl, refl, refl), refl)),
                                (
                                  (refl, refl, tt, refl, (omega arith, refl)),
                                  (
                                    (refl, refl, tt, refl, ((omega arith, refl), refl)),
                                    (
                                      (refl, refl, tt, refl, (record { taken = refl; status = refl; after = refl }, refl)),
                                      (
                                        (refl, refl, tt, refl, ((refl, refl, refl, refl), refl)),
                                        (
                                          (refl, refl, tt, refl, (omega arith, refl)),
                                          (
                                            (refl, refl, tt, refl, refl),
                                            tt,
                                          ),
                                        ),
                                      ),
                                    ),
                                  ),
                                ),
                              ),
                            ),
                          ),
                        ),
                      ),
                    ),
                  ),
                ),
              ),
            ),
          ),
        ),
      ),
    ),
  )

  split_runs : IsRun scene start events (follow setup start turns)
  split_runs = turns_run scene start turns events are_turns

  -- no write is unfinished then, and each element is at home
  others_home : (number : ℕ) → (number == 65) ≡ false → (number == 6) ≡ false → (number == 4) ≡ false → ((follow setup start turns).objects.pool number).facts.out ≡ 0
  unfolding upd
  others_home number bios records own = rw (bios, records, own) refl

  split_ends : HasEnded (follow setup start turns)
  unfolding piece_end next_member slot among upd
  split_ends = record {
    writes = refl;
    pools = all_home (follow setup start turns).objects.pool (65 ∷ 6 ∷ 4 ∷ []) (refl, (refl, (refl, tt))) (λ number other. others_home number other.0 other.1.0 other.1.1.0);
  }

-- the two disks, the limit l, the linear device d, no ordinary memory, and one write of five sectors
abbrev text : List ℕ
text = codes "disk a 8\ndisk b 8\nlimit l a max=2\nlinear d l b\nmemory none\nwrite 0 d 5 5 7"

-- The text says this scenario, and the run begins in the state in which its runs are opened.
module _ (memory : Global) where
  abbrev pub stack : Stack
  stack =
      stack_of memory
      (disk_of memory (codes "a") 8
      ∷ disk_of memory (codes "b") 8
      ∷ device memory (codes "l") (Limit 2 0) (0 ∷ []) 2 false
      ∷ device memory (codes "d") Linear (2 ∷ 1 ∷ []) 2 false
      ∷ [])
      refl (8 ∷ 8 ∷ 8 ∷ 16 ∷ []) 2

  abbrev pub scenario : Scenario
  scenario = record { stack = stack; scripts = scripts; writes = write ∷ []; rounds = 0 ∷ []; changes = [] }

  tree_is : (dev : ℕ) → setup.tree dev ≡ tree stack dev
  unfolding tree_below over_shape size_of smallest
  tree_is zero = refl
  tree_is (suc zero) = refl
  tree_is (suc (suc zero)) = refl
  tree_is (suc (suc (suc zero))) = refl
  tree_is (suc (suc (suc (suc n)))) = let e : suc (suc (suc (suc n))) + 1 ≡ suc (suc (suc (suc (suc n)))) = omega arith in rw e refl

  rescuer_is : (dev : ℕ) → setup.rescuer dev ≡ (texts.setup_in scenario).rescuer dev
  rescuer_is zero = refl
  rescuer_is (suc zero) = refl
  rescuer_is (suc (suc zero)) = refl
  rescuer_is (suc (suc (suc zero))) = refl
  rescuer_is (suc (suc (suc (suc n)))) = refl

  three_nodes : 3 ≡ nodes_of stack write
  unfolding tree_below over_shape size_of smallest needed elements_begun head slot among piece_end next_member
  three_nodes = refl

  bads_are : (dev : ℕ) → [] ≡ bads_of stack dev
  bads_are zero = refl
  bads_are (suc zero) = refl
  bads_are (suc (suc zero)) = refl
  bads_are (suc (suc (suc zero))) = refl
  bads_are (suc (suc (suc (suc n)))) = refl

  bios_are : (dev : ℕ) → reserve (Bios (device_at dev)) ≡ reserve_of stack (Bios (device_at dev))
  bios_are zero = refl
  bios_are (suc zero) = refl
  bios_are (suc (suc zero)) = refl
  bios_are (suc (suc (suc zero))) = refl
  bios_are (suc (suc (suc (suc n)))) = refl

  records_are : (dev : ℕ) → 0 ≡ reserve_of stack (Records (device_at dev))
  records_are zero = refl
  records_are (suc zero) = refl
  records_are (suc (suc zero)) = refl
  records_are (suc (suc (suc zero))) = refl
  records_are (suc (suc (suc (suc n)))) = refl

  is_as_written : IsOfScenario setup reserve one_left scenario
  is_as_written = record {
    count_is = refl;
    tree_is = tree_is;
    rescuer_is = rescuer_is;
    places_are = first_places stack todo 3 three_nodes;
    reserve_is = reserves_are reserve stack refl refl bios_are records_are;
    bads_are = bads_are;
    tally_is = refl;
  }

  is_of_text : IsRunOfText text scenario ledger events (λ some. follow setup start (turns some))
  unfolding refusal without_empty_end first_found command_of is_name number_of meaning pool_at tree_below over_shape size_of smallest needed elements_begun head slot among piece_end next_member
  is_of_text =
      run_of_text setup reserve one_left tasks text scenario is_as_written refl
      (says_of text scenario refl (refl, (refl, (refl, (refl, tt)))) refl) ledger events (λ some. follow setup start (turns some)) split_runs
