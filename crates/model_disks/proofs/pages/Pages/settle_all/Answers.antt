-- All slots have words, and no page is settled yet.
use Rattle.std.proofs.Common.{◌*◌, ap, length, refl, sym, subst, arith}
use Rattle.std.specs.Prelude.{vec_capacity}
use Rattle.model_disks.specs.Paged.{ArePaged, AreSame}
use Rattle.model_disks.proofs.GrownLemmas.{length_grown}
use Rattle.model_disks.proofs.PageLemmas.{paged_grown, same_grown}
use Rattle.model_disks.proofs.pages.Pages.settle_all.Goals as goal

pub settling-init : goal.settling-init
settling-init c =
    let words = c.args.self.now.words.items in
    let slots = c.args.self.now.slots.items in
    let owners = c.args.self.now.owners.items in
    let size = 1024 * c.len-count.result in
    let count = c.len-count.ensures in
    let pages = c.requires.paged in
    record {
      paged = subst (λ ws. ArePaged (vec_capacity c.grow.new.words) ws slots owners) (sym c.grow.ensures.words)
          (paged_grown (vec_capacity c.args.self.now.words) _ words slots owners slots owners c.len-count.result pages pages.inverse refl
          (omega (arith, pages.within, count, c.args.self.now.slots.ok.0)) (omega (arith, count, c.args.self.now.slots.ok.0)) c.grow.ensures.room);
      full = omega (arith, ap length c.grow.ensures.words, length_grown 0 size words, pages.within, count, c.args.self.now.slots.ok.0);
      settled = λ page lt. absurd (omega (arith, lt));
      same = subst (λ ws. AreSame words slots ws slots) (sym c.grow.ensures.words) (same_grown size words slots);
    }
