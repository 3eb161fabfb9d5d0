-- In every run that has ended the images are the laid-out ones, where no two writes of a round have a sector in common.
use Rattle.std.proofs.Common.{◌≡◌, sym, ◌∙◌, ap}
use Rattle.std.specs.Prelude.{Contains, slice_get, Some}
use Rattle.std.proofs.lemmas.List.Elements.{All-contains}
use Rattle.layout_model.specs.Laid.{round_of}
use Rattle.layout_model.proofs.OneWay.{one_way_a_round}
use Rattle.run_machine.specs.Tasks.{Todo}
use Rattle.run_machine.specs.Opened.{scene, start, todos, setup_in}
use Rattle.block_core.specs.Images.{OneFragmentASectorARound, ImagesAreLaidOut}
use Rattle.block_core.proofs.sound.Invariant.{LedgersAreNumbered}
use Rattle.block_core.proofs.moves.Devices.{ground}
use Rattle.block_core.proofs.sound.EveryRun.{start_whole}
use Rattle.block_core.proofs.images.BioData.{own_writes}
use Rattle.block_core.proofs.images.ImageData.{runs_own, start_own}
use Rattle.block_core.proofs.images.LaidOut.{served, lands_itself, laid_by_rounds}
use Rattle.block_core.proofs.images.RoundByRound.{rounds_come_in_order}
use Rattle.block_core.proofs.images.EndedRuns.{nothing_comes_where_ended}

-- two fragments of one round that write a sector are on two ways there, and there is one
pub one_fragment_a_sector_a_round : OneFragmentASectorARound
one_fragment_a_sector_a_round s good apart disk at f g of_f of_g writes_f writes_g round =
    let here = lands_itself s good disk at f of_f.0.number of_f.0.write (served s good of_f.0 of_f.1) of_f.2 writes_f in
    let there = lands_itself s good disk at g of_g.0.number of_g.0.write (served s good of_g.0 of_g.1) of_g.2 writes_g in
    let one = one_way_a_round s.stack s.writes s.rounds of_f.0.number of_g.0.number disk at of_f.0.write of_g.0.write good.stack good.writes apart (own of_f.0 of_f.1) (own of_g.0 of_g.1) rounds here.0.way there.0.way in
    sym here.1 ∙ one.fragment ∙ there.1
  where
    own : (todo : Todo) → Contains (todos s) todo → slice_get s.writes todo.number ≡ Some todo.write
    own todo c = All-contains (λ (todo : Todo). slice_get s.writes todo.number ≡ Some todo.write) (todos s) todo (own_writes s) c

    rounds : round_of s.rounds of_f.0.number ≡ round_of s.rounds of_g.0.number
    rounds = ap (round_of s.rounds) (sym of_f.2.of_write) ∙ round ∙ ap (round_of s.rounds) of_g.2.of_write

pub images_are_laid_out : ImagesAreLaidOut
images_are_laid_out s ledger events state good apart naming run ended =
    let f : LedgersAreNumbered (scene s ledger) = record { named = naming } in
    let g = ground s.stack good.stack (setup_in s).places in
    let own = runs_own s ledger f g (start s) events state (start_whole s ledger good naming) (start_own s ledger good) run in
    let none = (nothing_comes_where_ended s ledger events state good naming run ended).1 in
    record {
      sized = λ disk. (own disk).sized;
      laid = λ disk at lt.
          laid_by_rounds s ledger events state good naming run none disk at lt (one_fragment_a_sector_a_round s good apart disk at)
          (rounds_come_in_order s ledger events state good naming run);
    }
