-- The bio that was taken out is one of those that end within the disk, and the others still do.
use Rattle.std.proofs.Common.{length, subst, sym}
use Rattle.std.specs.Prelude.{All}
use Rattle.model_disks.specs.Kept.{IsWithin}
use Rattle.model_disks.proofs.KeptLemmas.{all_but_one}
use Rattle.plain_core.proofs.objects.disk.Disk.complete.Goals as goal

pub invariant_of-self : goal.invariant_of-self
invariant_of-self c =
    let d = c.self.inside in
    subst (λ n. All (IsWithin n) c.take_at.new.pending.items) (sym c.end.ensures.len)
    (subst (All (IsWithin (length d.firsts.items))) (sym c.take_at.ensures.rest) (all_but_one (IsWithin (length d.firsts.items)) d.pending.items c.args.index c.self.invariant))
