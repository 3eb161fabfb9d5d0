use Rattle.std.proofs.Common.{◌≡◌, ◌++◌, ◌∷◌, length, map, ap, sym, ◌∙◌, arith}
use Rattle.std.specs.Vec.Iter.{into_iter_items}
use Rattle.decl_text.specs.Accepting.{declared_form}
use Rattle.stack_check.specs.Finish.{ranges_of}
use Rattle.stack_check.proofs.BuiltLemmas.{next_at, built_few, built_more, clean_ranges, ranges_more}
use Rattle.stack_check.proofs.built.devices_of.Goals as goal

pub overflow_cast-number : goal.overflow_cast-number
overflow_cast-number c =
    let devices = c.loop-placed.devices.items in
    let so_far : map declared_form devices ++ c.in-Some.placed ∷ into_iter_items c.next.new.self ≡ c.args.all.items =
    ap (λ ds. map declared_form devices ++ ds) (sym c.in-Some.ensures.steps.0) ∙ c.loop-placed.invariant.shown in
    omega (
      arith,
      c.len-number.ensures,
      c.loop-placed.devices.ok.0,
      built_few c.args.all.items devices c.in-Some.placed (into_iter_items c.next.new.self) so_far c.requires.sound.few,
    )

pub device_of-requires-clause-clean : goal.device_of-requires-clause-clean
device_of-requires-clause-clean c =
    let devices = c.loop-placed.devices.items in
    let so_far : map declared_form devices ++ c.in-Some.placed ∷ into_iter_items c.next.new.self ≡ c.args.all.items =
    ap (λ ds. map declared_form devices ++ ds) (sym c.in-Some.ensures.steps.0) ∙ c.loop-placed.invariant.shown in
    let many : c.len-number.result ≡ length devices = omega (arith, c.len-number.ensures, c.loop-placed.devices.ok.0) in
    λ other.
    ap (ranges_of c.args.bad.now) many
    ∙ clean_ranges c.args.all.items (length devices) c.in-Some.placed c.args.bad.now
    (next_at c.args.all.items devices c.in-Some.placed (into_iter_items c.next.new.self) so_far) other c.requires.disks

pub loop-placed-preserved : goal.loop-placed-preserved
loop-placed-preserved c =
    let devices = c.loop-placed.devices.items in
    let so_far : map declared_form devices ++ c.in-Some.placed ∷ into_iter_items c.next.new.self ≡ c.args.all.items =
    ap (λ ds. map declared_form devices ++ ds) (sym c.in-Some.ensures.steps.0) ∙ c.loop-placed.invariant.shown in
    let many : c.len-number.result ≡ length devices = omega (arith, c.len-number.ensures, c.loop-placed.devices.ok.0) in
    record {
      can = tt;
      finite = tt;
      shown =
          built_more c.args.all.items devices c.in-Some.placed (into_iter_items c.next.new.self) so_far c.in_ok-device.device c.push.new.self.items
          c.in_ok-push.ensures.items c.in_ok-device.ensures.0;
      ranges =
          ranges_more c.args.bad.now devices c.in_ok-device.device c.push.new.self.items c.in_ok-push.ensures.items c.loop-placed.invariant.ranges
          (c.in_ok-device.ensures.1 ∙ ap (ranges_of c.args.bad.now) many);
    }
