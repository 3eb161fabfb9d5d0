-- The disks and the pools are those of the four devices.
use Rattle.std.proofs.Common.{List, [], ◌∷◌, map, sym, ap, ◌∙◌}
use Rattle.stack_base.specs.declared.ids.DevId.{DevId}
use Rattle.stack_base.specs.declared.ids.PoolId.{PoolId}
use Rattle.stack_base.specs.declared.ids.PoolId.TheVariants.{FsBios, FsVecs}
use Rattle.mempool_core.specs.declared.Facts.{Facts}
use Rattle.model_disks.specs.Disks.{DiskState}
use Rattle.report_tests.proofs.MadeLemmas.{two_disks, three_pools}
use Rattle.report_tests.proofs.made.made.Goals as goal

pub returns : goal.returns
returns g c =
    let devices = c.in_ok-vec.field-0.items in
    let disks = two_disks devices c.in_ok-a.a c.in_ok-b.b c.in_ok-m.m c.in_ok-l.l c.in_ok-vec.ensures.items _ _ _ _ _ _ _ c.in_ok-a.ensures c.in_ok-b.ensures c.in_ok-m.ensures c.in_ok-l.ensures in
    let pools = three_pools devices c.in_ok-a.a c.in_ok-b.b c.in_ok-m.m c.in_ok-l.l c.in_ok-vec.ensures.items _ _ _ _ _ _ _ c.in_ok-a.ensures c.in_ok-b.ensures c.in_ok-m.ensures c.in_ok-l.ensures in
    record {
      disks = ap (map (λ (disk : DiskState). disk.dev)) c.in_ok-disks.ensures.items
          ∙ ap (λ (dev : DevId). dev ∷ c.in_ok-zeros.zeros.dev ∷ []) c.in_ok-written.ensures
          ∙ ap (λ (disk : DiskState). record { 0 = 0 } ∷ disk.dev ∷ []) c.in_ok-zeros.ensures
          ∙ sym disks;
      pools = ap (map (λ (p : PoolId × Facts). p.0)) c.in_ok-pools.ensures.items ∙ ap (λ (rest : List PoolId). FsBios ∷ FsVecs ∷ rest) (sym pools);
    }
