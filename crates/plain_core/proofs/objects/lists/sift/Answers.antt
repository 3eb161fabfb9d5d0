use Rattle.std.proofs.Common.{◌≡◌, ◌+◌, ◌++◌, List, [], ◌∷◌, Bool, drop, take, filter, ap, ◌∙◌, sym, arith}
use Rattle.std.specs.Prelude.{option_to_list}
use Rattle.stack_base.specs.declared.ids.SetId.TheVariants.{Of}
use Rattle.bio_records.specs.declared.bio.Pad.{Pad}
use Rattle.bio_records.specs.Items.{Item}
use Rattle.bio_records.specs.Sorting.{is_of, is_of_other}
use Rattle.plain_core.proofs.object_lemmas.FirstLeft.{next_of, sorted_more}
use Rattle.plain_core.proofs.objects.lists.sift.Goals as goal

pub moving-preserved : goal.moving-preserved
moving-preserved c =
    let all : List (Item Pad) = c.args.from.now.items in
    let k = c.moving.counter in
    let x : Item Pad = c.unwrap-part.result in
    let rest : List (Item Pad) = c.pop_front.new.self.items in
    let stays : Item Pad → Bool = is_of_other (Of c.args.dev) in
    let popped : drop k all ++ filter stays (take k all) ≡ x ∷ rest =
    sym c.moving.invariant.others ∙ c.pop_front.ensures.items ∙ ap (λ o. option_to_list o ++ rest) c.unwrap-part.ensures in
    let next = next_of all (filter stays (take k all)) rest k x (omega arith) popped in
    record {
      others = c.place.ensures.others ∙ ap (λ s. s ++ filter stays (x ∷ [])) next.0 ∙ sorted_more stays all (drop (k + 1) all) k x next.1;
      moved = c.place.ensures.moved ∙ ap (λ s. s ++ filter (is_of (Of c.args.dev)) (x ∷ [])) c.moving.invariant.moved
          ∙ sorted_more (is_of (Of c.args.dev)) all c.args.into.now.items k x next.1;
      few = omega arith;
      capacity = c.place.ensures.capacity ∙ c.moving.invariant.capacity;
    }
