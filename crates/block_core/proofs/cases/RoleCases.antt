-- A state by hand in which sums alone see nothing wrong, and no run comes to it: a node of two ends, of which each is a bio that names it.
use Rattle.std.proofs.Common.{◌≡◌, ℕ, Bool, true, false, [], ◌∷◌, Some, refl, arith}
use Rattle.elem_ledger.specs.Ledger.{LedgerId}
use Rattle.stack_base.specs.declared.ids.Status.TheVariants as status
use Rattle.stack_base.specs.declared.ids.SetId.TheVariants.{Fs}
use Rattle.stack_base.specs.Tree.{Leaf}
use Rattle.fail_script.specs.Script.{only_tail}
use Rattle.mempool_core.specs.Move.{opened}
use Rattle.bio_records.specs.declared.bio.Pad.{Pad}
use Rattle.bio_records.specs.Items.{Item}
use Rattle.bio_books.specs.declared.node.Role.TheVariants as role
use Rattle.bio_books.specs.Books.{Node, nothing_held, node_at}
use Rattle.run_machine.specs.declared.event.End.TheVariants as left
use Rattle.run_machine.specs.declared.event.What.TheVariants as what
use Rattle.run_machine.specs.Maps.{upd}
use Rattle.run_machine.specs.Scene.{Scene}
use Rattle.run_machine.specs.Opened.{no_task}
use Rattle.run_machine.specs.Runs.{State}
use Rattle.block_core.specs.Weights.{sum_at, one_if_same, total_weight}
use Rattle.block_core.proofs.moves.References.{references, awaited_ends}
use Rattle.block_core.specs.Roles.{named, HasRoles}
use Rattle.block_core.specs.Touches.{touch_of, masters_after, none_was}

module _ (ledger : ℕ → LedgerId) (share : LedgerId) where
  abbrev scene : Scene
  scene = record {
    setup = record { count = 1; tree = λ dev. Leaf 0 8; rescuer = λ dev. false; places = λ writer. 1 };
    tasks = 0;
    books = 1;
    writes = 1;
    ledger = ledger;
  }

  abbrev top : Node
  top = record { role = role.Top; write = 0; count = 2; status = status.Ok; held = nothing_held }

  abbrev bio : Item Pad
  bio = record {
    pad = record { leg = 0 };
    bio = record {
      write = 0;
      writer = 0;
      node = 0;
      dev = record { 0 = 0 };
      range = record { start = 0; len = 1 };
      word = 0;
      at = record { segment = 0; done = 0 };
      set = Fs;
    };
    short = [];
    share = share;
  }

  abbrev state : State
  state = record {
    objects = record {
      pool = λ number. opened 2 (only_tail true);
      rescue = λ dev. [];
      disk = λ dev. record { dev = record { 0 = dev }; bad = []; pending = bio ∷ bio ∷ []; image = [] };
      book = λ writer. record { writer = writer; nodes = Some top ∷ [] };
      tally = record { round = 0; left = 1 ∷ []; statuses = status.Ok ∷ [] };
    };
    task = λ place. no_task;
  }

  -- the node waits for as many ends as refer to it
  counts : awaited_ends (node_at (state.objects.book 0) 0) ≡ total_weight scene (references scene.setup 0 0) state
  unfolding sum_at one_if_same
  counts = refl

  twice : total_weight scene (named 0 0) state ≡ 2
  unfolding sum_at one_if_same
  twice = refl

  -- but its own part is in two places
  refused : (was_master : ℕ → Bool) → HasRoles scene was_master state → ⊥
  refused was_master roles =
      let once = (roles.waits 0 0 top refl).0.0 in
      omega (arith, twice, once)

  -- what is left of the node once it closes is no master's, and a master's is
  closed_top : masters_after state 3 (touch_of (what.Drop 0 0 status.Ok left.Top)) none_was 3 ≡ false
  unfolding upd
  closed_top = refl

  abbrev of_master : State
  of_master = record state {
    objects = record state.objects {
      book = λ writer. record { writer = writer; nodes = Some (record top { role = role.Master 0 }) ∷ [] };
    };
  }

  closed_master : masters_after of_master 3 (touch_of (what.Drop 0 0 status.Ok left.Up)) none_was 3 ≡ true
  unfolding upd
  closed_master = refl
