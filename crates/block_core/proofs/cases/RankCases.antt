-- Charges and counts of events on worked cases: the rank at the start of a write to a mirror of two, and behind each event up to the link of its first leg.
use Rattle.std.proofs.Common.{◌≡◌, ◌+◌, ◌-◌, ◌*◌, ℕ, List, [], ◌∷◌, length, filter, true, refl}
use Rattle.elem_ledger.specs.Ledger.{LedgerId}
use Rattle.run_machine.specs.Maps.{upd}
use Rattle.run_machine.specs.Scene.{Scene}
use Rattle.run_machine.specs.Runs.{State}
use Rattle.run_machine.proofs.Turns.{Turn, behind}
use Rattle.run_machine.proofs.cases.MirrorRun.{setup, mirror, start, ledger, begun}
use Rattle.block_core.specs.Weights.{sum_at, one_if_same}
use Rattle.layout_model.specs.Need.{elements_begun as begun_below, needed, fragments_begun, fragments_in_run, vectors}
use Rattle.run_machine.specs.Tasks.{Resizes, Starts}
use Rattle.stack_base.specs.declared.ids.PoolId.TheVariants.{FsBios}
use Rattle.block_core.specs.Exact.{starts_round}
use Rattle.block_core.specs.Payers.{WriteBio, WriteVector, Record, PieceBio, Fragment, pays_for, unit_price}
use Rattle.block_core.specs.Charges.{begun_charge, run_charge, state_rank}
use Rattle.block_core.specs.PayerCounts.{records_begun, pieces_begun, record_count, piece_count}

-- a record and two legs, of a fragment each, as the table has it
of_a_run : run_charge unit_price mirror 0 1 ≡ length (pays_for Record) + 2 * length (pays_for PieceBio) + 2 * length (pays_for Fragment)
unfolding begun_charge run_charge
of_a_run = refl

-- which are one record and two bios
of_payers : (record_count mirror 0 1 ≡ 1) × (piece_count mirror 0 1 ≡ 2)
unfolding records_begun pieces_begun record_count piece_count
of_payers = (refl, refl)

module _ (some : LedgerId) where
  abbrev scene : Scene
  scene = record { setup = setup true; tasks = 4; books = 1; writes = 1; ledger = ledger some }

  abbrev ranks : State → List Turn → List ℕ
  ranks s [] = state_rank scene s ∷ []
  ranks s (turn ∷ turns) = state_rank scene s ∷ ranks (behind scene.setup s turn) turns

  -- Five of the write's bio and 24 of its run: a take, a link, a take of the record, and with the link of the master the end of the bio falls away,
  -- which a mirror copies, with the attempt and the punt that the first leg does not need, since its first attempt waits; then the leg's take and link.
  of_the_mirror : ranks start (begun some) ≡ 29 ∷ 28 ∷ 27 ∷ 26 ∷ 22 ∷ 21 ∷ 20 ∷ []
  unfolding sum_at one_if_same upd begun_charge run_charge
  of_the_mirror = refl

-- a write's own events, as the table has them
of_a_write : length (pays_for WriteBio) + length (pays_for WriteVector) ≡ 7
of_a_write = refl

-- Without misses: four elements are taken and given back and linked, two fragments pushed and completed, five ends told, and the write is done.
without_misses : 4 + 2 * vectors 1 + 4 * needed mirror 0 1 + 3 * fragments_in_run mirror 0 1 ≡ 4 + 4 + 2 * 2 + (2 + 3) + 4 + 1
unfolding begun_below needed fragments_begun fragments_in_run
without_misses = refl

-- 200 writes through stripes, limits and a mirror: 1,874 elements, of which 120 are vectors, and 1,354 fragments
of_200_writes : 1874 + (1874 - 120) + 2 * 1354 + (1354 + (200 + 400 + 954)) + 1874 + 200 ≡ 11318
of_200_writes = refl

-- a change of a reserve before a round, and its start
of_two_duties : length (filter starts_round (Resizes FsBios 2 1 ∷ Starts 1 1 ∷ [])) ≡ 1
of_two_duties = refl
