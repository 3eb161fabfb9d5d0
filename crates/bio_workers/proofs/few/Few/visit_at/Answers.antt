use Rattle.std.proofs.Common.{◌≡◌, ◌+◌, All, length, map, take, drop, ◌∷◌, slice_index_or, slice_set, arith, ap, sym, subst, ◌∙◌}
use Rattle.std.proofs.lemmas.List.{length-map}
use Rattle.std.proofs.Math.Seq.{map-set_same}
use Rattle.bio_workers.specs.Somes.{somes}
use Rattle.bio_workers.proofs.AllThere.{as_long, some_at, some_set, mapped_at}
use Rattle.bio_workers.proofs.Sweeps.{more_over, stands_at}
use Rattle.bio_workers.proofs.few.Few.visit_at.Goals as goal

pub unreachable-requires : goal.unreachable-requires
unreachable-requires g c =
    let same = ap length c.self.view_is in
    let long = as_long c.self.inside.slots.items c.self.invariant in
    let below = c.requires.at in
    let some = c.in_default.ensures.variant.1 (omega arith) in
    absurd (cc)

pub visit-requires : goal.visit-requires
visit-requires g c =
    let slots = c.self.inside.slots.items in
    let same = ap length c.self.view_is in
    let long = as_long slots c.self.invariant in
    let below = c.requires.at in
    let task = c.in-Some-slot.task in
    let here = sym c.in-Some.ensures.value ∙ c.in-Some-slot.is in
    let stands = some_at slots c.args.at task task c.in-Some.slot.now c.self.invariant (omega arith) here in
    let stands_now = subst (λ l. slice_index_or l c.args.at task ≡ task) c.self.view_is stands in
    let keyed = mapped_at g.W.Work.key c.args.self.now c.args.at task stands_now in
    subst (g.W.Work.can c.args.work.now) keyed (c.requires.can c.args.at (g.W.Work.key task) (omega (arith, length-map c.args.self.now g.W.Work.key)))

pub returns-clause-keys : goal.returns-clause-keys
returns-clause-keys g c =
    let slots = c.self.inside.slots.items in
    let same = ap length c.self.view_is in
    let long = as_long slots c.self.invariant in
    let below = c.requires.at in
    let task = c.in-Some-slot.task in
    let here = sym c.in-Some.ensures.value ∙ c.in-Some-slot.is in
    let stands = some_at slots c.args.at task task c.in-Some.slot.now c.self.invariant (omega arith) here in
    ap (map g.W.Work.key) (some_set slots c.args.at c.visit.new.task c.self.invariant)
    ∙ map-set_same g.W.Work.key (somes slots) c.args.at c.visit.new.task task (c.visit.ensures.key ∙ ap g.W.Work.key (sym stands))
    ∙ ap (map g.W.Work.key) c.self.view_is

pub returns-clause-over : goal.returns-clause-over
returns-clause-over g c = λ over before.
    let slots = c.self.inside.slots.items in
    let same = ap length c.self.view_is in
    let long = as_long slots c.self.invariant in
    let below = c.requires.at in
    subst (λ l. All g.W.Work.is_over (take (c.args.at + 1) l)) (sym (some_set slots c.args.at c.visit.new.task c.self.invariant))
    (more_over g.W.Work.is_over (somes slots) c.args.at c.visit.new.task (omega arith) (subst (λ l. All g.W.Work.is_over (take c.args.at l)) (sym c.self.view_is) before) (c.visit.ensures.over over))

pub returns-clause-visit : goal.returns-clause-visit
returns-clause-visit g c =
    let slots = c.self.inside.slots.items in
    let same = ap length c.self.view_is in
    let long = as_long slots c.self.invariant in
    let below = c.requires.at in
    let task = c.in-Some-slot.task in
    let here = sym c.in-Some.ensures.value ∙ c.in-Some-slot.is in
    let stands = some_at slots c.args.at task task c.in-Some.slot.now c.self.invariant (omega arith) here in
    let place = stands_at (somes slots) c.args.at task task (omega arith) stands in
    record {
      before = task;
      behind = place.0;
      there = subst (λ l. drop c.args.at l ≡ task ∷ place.0) c.self.view_is place.1;
      after = c.visit.new.task;
      visit = c.visit.ensures.visit;
      leaves = some_set slots c.args.at c.visit.new.task c.self.invariant ∙ ap (λ l. slice_set l c.args.at c.visit.new.task) c.self.view_is;
    }
