-- The open nodes of a book, counted over a history.
use Rattle.std.proofs.Common.{◌≡◌, ◌+◌, ◌<◌, ℕ, inl, inr, cond, List, [], ◌∷◌, Option, Some, None, length, get_or, set, refl, sym, ◌∙◌, ap, subst, arith}
use Rattle.std.specs.Prelude.{count_by, slice_get}
use Rattle.std.specs.Option.{is_some}
use Rattle.std.proofs.lemmas.Bool.{cases_lt}
use Rattle.std.proofs.lemmas.List.{length-set, get_or-set_other, get_or_past}
use Rattle.std.proofs.lemmas.List.Sums.{sum_by-cons, sum_by-set}
use Rattle.std.proofs.lemmas.Option.{none-some, slice_get_within, get_or_from_slice_get}
use Rattle.stack_base.specs.declared.ids.Status.{Status}
use Rattle.bio_records.specs.declared.bio.Pad.{Pad}
use Rattle.bio_records.specs.Items.{Item}
use Rattle.bio_books.specs.Books.{BookState, Node, SlipItem, node_at, top_node, child_node, master_node, leg_node, with_kept_part, raised, lowered, told}
use Rattle.bio_books.specs.Links.{Linked, Made, NoRoom, Stray, ChainsAt, MastersAt, LegsAt}
use Rattle.bio_books.specs.Drops.{DropOutcome, DropsAt}
use Rattle.bio_books.specs.Drops as end
use Rattle.run_machine.specs.Requests.{Request, Reply, Opening, Write, Chain, Master, Leg, Link, Drop, LinkedTo, DroppedTo, NoTicket}
use Rattle.run_machine.specs.Objects.{OpensNode}
use Rattle.object_things.specs.Stamps.{ThingState, StepOf}
use Rattle.object_things.specs.Histories.{Call}
use Rattle.object_things.specs.Homes.{BookAddsUp, open_nodes, openings, closings}
use Rattle.object_things.specs.Books.{BookServes, BookLooks}

-- places of a list of options, of which so many are full
module _ {X : Type 0} where
  placed : (xs : List (Option X)) (i : ℕ) (new old : Option X) → i < length xs → get_or xs i None ≡ old
      → count_by is_some (set xs i new) + cond (is_some old) 1 0 ≡ count_by is_some xs + cond (is_some new) 1 0
  placed xs i new old within is =
      subst (λ o. count_by is_some (set xs i new) + cond (is_some o) 1 0 ≡ count_by is_some xs + cond (is_some new) 1 0) is
      (sum_by-set (λ (x : Option X). cond (is_some x) 1 0) xs i new None within)

  within : (xs : List (Option X)) (i : ℕ) (x : X) → get_or xs i None ≡ Some x → i < length xs
  within xs i x is = elim (cases_lt i (length xs)) [
    | inl inside ↦ inside
    | inr past ↦ absurd (none-some x (sym (get_or_past xs i None past) ∙ is))
  ]

  fills : (xs : List (Option X)) (i : ℕ) (x : X) → slice_get xs i ≡ Some None → count_by is_some xs + 1 ≡ count_by is_some (set xs i (Some x))
  fills xs i x vacant =
      let p : count_by is_some (set xs i (Some x)) + 0 ≡ count_by is_some xs + 1 = placed xs i (Some x) None (slice_get_within xs i None vacant) (get_or_from_slice_get xs i None None vacant) in
      omega (arith, p)

  stays : (xs : List (Option X)) (i : ℕ) (x y : X) → get_or xs i None ≡ Some x → count_by is_some (set xs i (Some y)) ≡ count_by is_some xs
  stays xs i x y is = let p : count_by is_some (set xs i (Some y)) + 1 ≡ count_by is_some xs + 1 = placed xs i (Some y) (Some x) (within xs i x is) is in omega (arith, p)

  empties : (xs : List (Option X)) (i : ℕ) (x : X) → get_or xs i None ≡ Some x → count_by is_some xs ≡ 1 + count_by is_some (set xs i None)
  empties xs i x is = let p : count_by is_some (set xs i None) + 1 ≡ count_by is_some xs + 0 = placed xs i None (Some x) (within xs i x is) is in omega (arith, p)

  -- one place is filled, and one that was full has something else
  fills_beside : (xs : List (Option X)) (i j : ℕ) (x y z : X) → slice_get xs i ≡ Some None → get_or xs j None ≡ Some y
      → count_by is_some xs + 1 ≡ count_by is_some (set (set xs i (Some x)) j (Some z))
  fills_beside xs i j x y z vacant is =
      let differs : j ≡ i → ⊥ = λ same. none-some y (sym (get_or_from_slice_get xs i None None vacant) ∙ ap (λ k. get_or xs k None) (sym same) ∙ is) in
      fills xs i x vacant ∙ sym (stays (set xs i (Some x)) j y z (get_or-set_other xs i j (Some x) None differs ∙ is))

-- what a call makes of a book, with so many nodes opened and closed in it
record Counts (old : BookState) (opened closed : ℕ) (new : BookState) : Type 0 where
  pub nodes : open_nodes old + opened ≡ closed + open_nodes new
  pub places : length new.nodes ≡ length old.nodes
  pub writer : new.writer ≡ old.writer

same : (old new : BookState) → new ≡ old → Counts old 0 0 new
same old new e = subst (Counts old 0 0) (sym e) (record { nodes = omega arith; places = refl; writer = refl })

-- a node is opened at a vacant place
opens : (old new : BookState) (place : ℕ) (node : Node) → slice_get old.nodes place ≡ Some None → new ≡ record old { nodes = set old.nodes place (Some node) } → Counts old 1 0 new
opens old new place node vacant is = subst (Counts old 1 0) (sym is) (record {
  nodes = let e = fills old.nodes place node vacant in omega (arith, e);
  places = length-set old.nodes place (Some node);
  writer = refl;
})

-- the same, and its parent changes
opens_below : (old new : BookState) (place parent : ℕ) (node was now : Node) → slice_get old.nodes place ≡ Some None → node_at old parent ≡ Some was
    → new ≡ record old { nodes = set (set old.nodes place (Some node)) parent (Some now) } → Counts old 1 0 new
opens_below old new place parent node was now vacant at is = subst (Counts old 1 0) (sym is) (record {
  nodes = let e = fills_beside old.nodes place parent node was now vacant at in omega (arith, e);
  places = length-set (set old.nodes place (Some node)) parent (Some now) ∙ length-set old.nodes place (Some node);
  writer = refl;
})

chained : (writer : ℕ) (opening : Opening) (old : BookState) (parent : ℕ) (found : Option Node) (answer : Linked) (new : BookState) → node_at old parent ≡ found
    → ChainsAt old parent found answer new → Counts old (openings (Link writer opening) (LinkedTo answer)) 0 new
chained writer opening old parent (Some node) (Made place) new at s = opens_below old new place parent (child_node node.write parent) node (raised node) s.1 at s.2
chained writer opening old parent (Some node) (NoRoom back) new at s = same old new s.2
chained writer opening old parent (Some node) (Stray back) new at s = absurd s
chained writer opening old parent None (Made place) new at s = absurd s
chained writer opening old parent None (NoRoom back) new at s = absurd s
chained writer opening old parent None (Stray back) new at s = same old new s.1

mastered : (writer : ℕ) (opening : Opening) (old : BookState) (parent : ℕ) (part : Item Pad) (slip : SlipItem) (legs : ℕ) (found : Option Node) (answer : Linked) (new : BookState)
    → node_at old parent ≡ found → MastersAt old parent found part slip legs answer new → Counts old (openings (Link writer opening) (LinkedTo answer)) 0 new
mastered writer opening old parent part slip legs (Some node) (Made place) new at s = opens_below old new place parent (master_node node.write parent slip legs) node (with_kept_part part node) s.0 at s.1
mastered writer opening old parent part slip legs (Some node) (NoRoom back) new at s = same old new s.2
mastered writer opening old parent part slip legs (Some node) (Stray back) new at s = absurd s
mastered writer opening old parent part slip legs None (Made place) new at s = absurd s
mastered writer opening old parent part slip legs None (NoRoom back) new at s = absurd s
mastered writer opening old parent part slip legs None (Stray back) new at s = same old new s.1

legged : (writer : ℕ) (opening : Opening) (old : BookState) (master : ℕ) (found : Option Node) (answer : Linked) (new : BookState)
    → LegsAt old master found answer new → Counts old (openings (Link writer opening) (LinkedTo answer)) 0 new
legged writer opening old master (Some node) (Made place) new s = opens old new place (leg_node node.write master) s.0 s.1
legged writer opening old master (Some node) (NoRoom back) new s = same old new s.2
legged writer opening old master (Some node) (Stray back) new s = absurd s
legged writer opening old master None (Made place) new s = absurd s
legged writer opening old master None (NoRoom back) new s = absurd s
legged writer opening old master None (Stray back) new s = same old new s.1

linked : (writer : ℕ) (old : BookState) (opening : Opening) (answer : Linked) (new : BookState) → OpensNode old opening answer new
    → Counts old (openings (Link writer opening) (LinkedTo answer)) 0 new
linked writer old (Write write vector) (Made place) new s = opens old new place (top_node write vector) s.0 s.1
linked writer old (Write write vector) (NoRoom back) new s = same old new s.2
linked writer old (Write write vector) (Stray back) new s = absurd s
linked writer old (Chain parent) answer new s = chained writer (Chain parent) old parent (node_at old parent) answer new refl s
linked writer old (Master parent part slip legs) answer new s = mastered writer (Master parent part slip legs) old parent part slip legs (node_at old parent) answer new refl s
linked writer old (Leg master) answer new s = legged writer (Leg master) old master (node_at old master) answer new s

closes : (old new : BookState) (place : ℕ) (node : Node) → node_at old place ≡ Some node → new ≡ record old { nodes = set old.nodes place None } → Counts old 0 1 new
closes old new place node at is = subst (Counts old 0 1) (sym is) (record {
  nodes = let e = empties old.nodes place node at in omega (arith, e);
  places = length-set old.nodes place None;
  writer = refl;
})

remains : (old new : BookState) (place : ℕ) (was now : Node) → node_at old place ≡ Some was → new ≡ record old { nodes = set old.nodes place (Some now) } → Counts old 0 0 new
remains old new place was now at is = subst (Counts old 0 0) (sym is) (record {
  nodes = let e = stays old.nodes place was now at in omega (arith, e);
  places = length-set old.nodes place (Some now);
  writer = refl;
})

dropped : (writer : ℕ) (old : BookState) (place : ℕ) (found : Option Node) (status : Status) (part : Option (Item Pad)) (ended : DropOutcome) (new : BookState) → node_at old place ≡ found
    → DropsAt old place found status part ended new → Counts old 0 (closings (Drop writer place status part) (DroppedTo ended)) new
dropped writer old place (Some node) status part end.Left new at s = remains old new place node (lowered (told node status part)) at s.1
dropped writer old place (Some node) status part (end.Up closed) new at s = closes old new place node at s.3
dropped writer old place (Some node) status part (end.Top closed) new at s = closes old new place node at s.3
dropped writer old place (Some node) status part (end.Stray back) new at s = absurd s
dropped writer old place None status part end.Left new at s = absurd s
dropped writer old place None status part (end.Up closed) new at s = absurd s
dropped writer old place None status part (end.Top closed) new at s = absurd s
dropped writer old place None status part (end.Stray back) new at s = same old new s.1

served : (old : BookState) (asked : Request) (reply : Reply) (new : BookState) → BookServes old asked reply new → Counts old (openings asked reply) (closings asked reply) new
served old (Link writer opening) (LinkedTo answer) new s = linked writer old opening answer new s.1
served old (Drop writer node status part) (DroppedTo ended) new s = dropped writer old node (node_at old node) status part ended new refl s.1
served old asked reply new s = absurd s

looked : (old : ThingState BookState) (asked : Request) (reply : Reply) (new : ThingState BookState) → BookLooks old asked reply new
    → Counts old.object (openings asked reply) (closings asked reply) new.object
looked old (Link writer opening) NoTicket new l = same old.object new.object l.0
looked old (Drop writer node status part) NoTicket new l = same old.object new.object l.0
looked old asked reply new l = absurd l

pub book_none : (book : BookState) → BookAddsUp book [] book
book_none book = record { nodes = omega arith; places = refl; writer = refl }

pub book_one : (old mid : ThingState BookState) (call : Call) (ticket : Option ℕ) (new : BookState) (rest : List Call) → StepOf BookServes BookLooks old call.asked call.told.reply ticket mid
    → BookAddsUp mid.object rest new → BookAddsUp old.object (call ∷ rest) new
book_one old mid call ticket new rest step more =
    let a = sum_by-cons (λ (c : Call). openings c.asked c.told.reply) call rest in let b = sum_by-cons (λ (c : Call). closings c.asked c.told.reply) call rest in
    let now = by_ticket ticket step in let n = now.nodes in let m = more.nodes in record {
      nodes = omega (arith, a, b, n, m);
      places = more.places ∙ now.places;
      writer = more.writer ∙ now.writer;
    }
  where
    by_ticket : (t : Option ℕ) → StepOf BookServes BookLooks old call.asked call.told.reply t mid → Counts old.object (openings call.asked call.told.reply) (closings call.asked call.told.reply) mid.object
    by_ticket None s = looked old call.asked call.told.reply mid s.0
    by_ticket (Some n) s = served old.object call.asked call.told.reply mid.object s.0
