use Rattle.std.proofs.Common.{◌++◌, [], ◌∷◌, sym, subst}
use Rattle.std.specs.Prelude.{All}
use Rattle.std.proofs.lemmas.List.Elements.{All-nil}
use Rattle.shared_objects.proofs.row_lemmas.MadeOneByOne.{next_of, others_of}
use Rattle.run_merge.specs.Listing.{AreWholeLists, WholeRises}
use Rattle.run_merge.proofs.tracing.WholeLists.{ListRises, no_lists, one_more, rises_more}
use Rattle.run_merge.proofs.trace.lists_of.Goals as goal

-- src/trace.rt
pub listing-init : goal.listing-init
listing-init c = (
  subst (AreWholeLists []) (sym c.in_ok-lists.ensures.items) no_lists,
  subst (All ListRises) (sym c.in_ok-lists.ensures.items) (All-nil ListRises),
  subst (All WholeRises) (sym c.into_iter-noted-iterator.ensures.into_iter_gives.0) c.requires.rising,
)

pub listing-preserved : goal.listing-preserved
listing-preserved c =
    let rest = c.next.new.self.rest.items in
    let rising = next_of WholeRises c.in-Some.noted rest c.in-Some.ensures.steps.0 c.listing.invariant.2 in (
      subst (AreWholeLists (c.listing.yielded ++ c.in-Some.noted ∷ [])) (sym c.in_ok-push.ensures.items)
          (one_more c.listing.yielded c.in-Some.noted c.listing.lists.items c.in_ok-list.list c.listing.invariant.0 c.in_ok-list.ensures),
      subst (All ListRises) (sym c.in_ok-push.ensures.items)
          (rises_more c.listing.lists.items c.in-Some.noted c.in_ok-list.list c.listing.invariant.1 rising c.in_ok-list.ensures),
      others_of WholeRises c.in-Some.noted rest c.in-Some.ensures.steps.0 c.listing.invariant.2,
    )

pub returns-clause-rising : goal.returns-clause-rising
returns-clause-rising c = c.listing.invariant.1
