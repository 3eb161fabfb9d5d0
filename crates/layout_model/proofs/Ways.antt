-- What a way tells: its heads, and where it ends.
use Rattle.std.proofs.Common.{[], ◌∷◌, refl, ap}
use Rattle.stack_base.specs.Mapping.{slot, head}
use Rattle.stack_base.specs.Tree.{Leaf, Split, Mirrored}
use Rattle.layout_model.specs.Way.{Step, way, heads, place}
use Rattle.layout_model.specs.Laws.{WaysAreTold}

-- each device adds a step with its head, and the last step is where the way ends
pub ways_are_told : WaysAreTold
unfolding way heads place
ways_are_told (Leaf number sectors) r s choices =
    record { at_steps = refl; before = []; end = record { device = number; run = r; sector = s; head = r }; whole = refl; there = refl }
ways_are_told (Split number kind sizes members) r s choices =
    let step : Step = record { device = number; run = r; sector = s; head = head kind sizes r s } in
    let below = ways_are_told (members (slot kind sizes s).member) (slot kind sizes (head kind sizes r s)).at (slot kind sizes s).at choices in
    record {
      at_steps = ap (λ more. step.head ∷ more) below.at_steps;
      before = step ∷ below.before;
      end = below.end;
      whole = ap (λ more. step ∷ more) below.whole;
      there = below.there;
    }
ways_are_told (Mirrored number sizes members) r s [] =
    record { at_steps = refl; before = []; end = record { device = number; run = r; sector = s; head = r }; whole = refl; there = refl }
ways_are_told (Mirrored number sizes members) r s (choice ∷ choices) =
    let step : Step = record { device = number; run = r; sector = s; head = r } in
    let below = ways_are_told (members choice) r s choices in
    record {
      at_steps = ap (λ more. step.head ∷ more) below.at_steps;
      before = step ∷ below.before;
      end = below.end;
      whole = ap (λ more. step ∷ more) below.whole;
      there = below.there;
    }
