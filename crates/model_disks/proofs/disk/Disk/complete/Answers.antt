-- The bio that was taken out is one of those that end within the disk, and the others still do.
use Rattle.std.proofs.Common.{length, refl}
use Rattle.model_disks.proofs.KeptLemmas.{kept_but_one}
use Rattle.model_disks.proofs.disk.Disk.complete.Goals as goal

pub invariant_of-self : goal.invariant_of-self
invariant_of-self c =
    let d = c.self.inside in
    kept_but_one (length d.image) _ d.bad.items d.pending c.take_at-el.new.self c.args.index
    c.write.ensures.size c.take_at-el.ensures.rest c.self.invariant

pub invariant_of-self-else-eq : goal.invariant_of-self-else-eq
invariant_of-self-else-eq c =
    let d = c.self.inside in
    kept_but_one (length d.image) (length d.image) d.bad.items d.pending c.take_at-el.new.self c.args.index
    refl c.take_at-el.ensures.rest c.self.invariant
