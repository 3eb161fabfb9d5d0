use Rattle.std.proofs.Common.{length, map, ap, sym, ◌∙◌, arith}
use Rattle.std.proofs.lemmas.List.{length-map}
use Rattle.stack_base.specs.declared.ids.DevId.{DevId}
use Rattle.stack_check.proofs.DeviceTallies.{count_few}
use Rattle.stack_check.proofs.SizeBounds.{sizes_sum}
use Rattle.stack_check.specs.Sound.{what_size}
use Rattle.stack_check.proofs.TreeLemmas.{size_with_is}
use Rattle.stack_check.proofs.devices.Devices.size_over.Goals as goal

pub size_of-requires-clause-fits : goal.size_of-requires-clause-fits
size_of-requires-clause-fits c =
    let members = c.args.members.now in
    omega (
      arith,
      sizes_sum c.args.self.now c.sizes_of.ensures.sound c.deref.result.now (map (λ (m : DevId). m.0) members)
          (omega (arith, count_few c.args.what (length members) c.requires.count, length-map members (λ (m : DevId). m.0)))
          (c.deref.ensures.0 ∙ c.sizes_of.ensures.sizes),
    )

pub returns-clause-size : goal.returns-clause-size
returns-clause-size c =
    c.size_of.ensures ∙ ap (what_size c.args.what) (c.deref.ensures.0 ∙ c.sizes_of.ensures.sizes)
    ∙ sym (size_with_is c.args.self.now c.args.what (map (λ (m : DevId). m.0) c.args.members.now))
