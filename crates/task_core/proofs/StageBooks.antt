-- What a call makes of a book of a stage is a book of this stage, and what it answers is at home there.
use Rattle.std.proofs.Common.{◌⊎◌, inl, inr, ◌<◌, ◌≤◌, ℕ, length, Option, None, Some, sym, subst}
use Rattle.std.specs.Prelude.{IfSome}
use Rattle.std.proofs.lemmas.List.{get_or_past}
use Rattle.std.proofs.lemmas.List.Elements.{All-set}
use Rattle.std.proofs.lemmas.Bool.{cases_lt}
use Rattle.stack_base.specs.declared.ids.Status.{Status}
use Rattle.bio_records.specs.declared.bio.Pad.{Pad}
use Rattle.bio_records.specs.Items.{Item}
use Rattle.bio_books.specs.Books.{VectorItem, SlipItem, Node, BookState, node_at, with_node, parent_of, nothing_held, top_node, child_node, master_node, leg_node, with_kept_part, raised, told, lowered, later_part}
use Rattle.bio_books.specs.Links.{Linked, Made, NoRoom, Stray, Opens, ChainsAt, MastersAt, LegsAt}
use Rattle.bio_books.specs.Drops.{DropOutcome, DropsAt, closed_of, Left, Up, Top}
use Rattle.bio_books.specs.Drops as end
use Rattle.run_machine.specs.Requests.{Opening, Write, Chain, Master, Leg}
use Rattle.run_machine.specs.Objects.{OpensNode}
use Rattle.task_steps.specs.Stage.{Stage, is_bios, is_slips, IsHome, IsBioHome, IsVecHome, HoldsHome, OpeningFits, LinkFits, TopFits, ClosedFits, DropFits}
use Rattle.task_core.specs.ObjectsOf.{IsNodeOf, IsBookOf}

module _ (stage : Stage) where
  abbrev pub IsOpenOf : Option Node → Type 0
  IsOpenOf node = IfSome node (IsNodeOf stage)

  pub node_is : (writer place : ℕ) (book : BookState) → IsBookOf stage writer book → IsOpenOf (node_at book place)
  node_is writer place book is = by_case (cases_lt place (length book.nodes))
    where
      by_case : (place < length book.nodes) ⊎ (length book.nodes ≤ place) → IsOpenOf (node_at book place)
      by_case (inl lt) = is.nodes place None lt
      by_case (inr le) = subst IsOpenOf (sym (get_or_past book.nodes place None le)) tt

  with_is : (writer place : ℕ) (book : BookState) (node : Option Node) → IsOpenOf node → IsBookOf stage writer book
      → IsBookOf stage writer (with_node book place node)
  with_is writer place book node open_ is = record { writer_is = is.writer_is; nodes = All-set IsOpenOf book.nodes place node open_ is.nodes }

  holds_nothing : HoldsHome stage nothing_held
  holds_nothing = record { bio = tt; vector = tt; slip = tt }

  opens_is : (writer write : ℕ) (vector : Option VectorItem) (answer : Linked) (old new : BookState) → IsBookOf stage writer old
      → (write < stage.writes) × IsVecHome stage vector → Opens old write vector answer new → IsBookOf stage writer new × LinkFits stage answer
  opens_is writer write vector (Made place) old new is fits opens = (
    subst (IsBookOf stage writer) (sym opens.1)
        (with_is writer place old (Some (top_node write vector)) (record { write = fits.0; held = record { bio = tt; vector = fits.1; slip = tt } }) is),
    tt,
  )
  opens_is writer write vector (NoRoom back) old new is fits opens = (
    subst (IsBookOf stage writer) (sym opens.2) is,
    subst (HoldsHome stage) (sym opens.1) (record { bio = tt; vector = fits.1; slip = tt }),
  )
  opens_is writer write vector (Stray back) old new is fits opens = absurd opens

  chains_is : (writer parent : ℕ) (answer : Linked) (old new : BookState) → IsBookOf stage writer old → (node : Option Node) → IsOpenOf node
      → ChainsAt old parent node answer new → IsBookOf stage writer new × LinkFits stage answer
  chains_is writer parent (Made place) old new is (Some node) here chains = (
    subst (IsBookOf stage writer) (sym chains.2)
        (with_is writer parent _ (Some (raised node)) (record { write = here.write; held = here.held })
        (with_is writer place old (Some (child_node node.write parent)) (record { write = here.write; held = holds_nothing }) is)),
    tt,
  )
  chains_is writer parent (NoRoom back) old new is (Some node) here chains =
      (subst (IsBookOf stage writer) (sym chains.2) is, subst (HoldsHome stage) (sym chains.1) holds_nothing)
  chains_is writer parent (Stray back) old new is (Some node) here chains = absurd chains
  chains_is writer parent (Stray back) old new is None here chains =
      (subst (IsBookOf stage writer) (sym chains.1) is, subst (HoldsHome stage) (sym chains.0) holds_nothing)
  chains_is writer parent (Made place) old new is None here chains = absurd chains
  chains_is writer parent (NoRoom back) old new is None here chains = absurd chains

  masters_is : (writer parent : ℕ) (part : Item Pad) (slip : SlipItem) (legs : ℕ) (answer : Linked) (old new : BookState) → IsBookOf stage writer old
      → IsHome stage is_bios part.share × IsHome stage is_slips slip.share → (node : Option Node) → IsOpenOf node
      → MastersAt old parent node part slip legs answer new → IsBookOf stage writer new × LinkFits stage answer
  masters_is writer parent part slip legs (Made place) old new is fits (Some node) here masters = (
    subst (IsBookOf stage writer) (sym masters.1)
        (with_is writer parent _ (Some (with_kept_part part node))
        (record { write = here.write; held = record { bio = fits.0; vector = here.held.vector; slip = here.held.slip } })
        (with_is writer place old (Some (master_node node.write parent slip legs))
        (record { write = here.write; held = record { bio = tt; vector = tt; slip = record { ledger = fits.1.ledger; kind = fits.1.kind } } }) is)),
    tt,
  )
  masters_is writer parent part slip legs (NoRoom back) old new is fits (Some node) here masters = (
    subst (IsBookOf stage writer) (sym masters.2) is,
    subst (HoldsHome stage) (sym masters.1) (record { bio = fits.0; vector = tt; slip = fits.1 }),
  )
  masters_is writer parent part slip legs (Stray back) old new is fits (Some node) here masters = absurd masters
  masters_is writer parent part slip legs (Stray back) old new is fits None here masters = (
    subst (IsBookOf stage writer) (sym masters.1) is,
    subst (HoldsHome stage) (sym masters.0) (record { bio = fits.0; vector = tt; slip = fits.1 }),
  )
  masters_is writer parent part slip legs (Made place) old new is fits None here masters = absurd masters
  masters_is writer parent part slip legs (NoRoom back) old new is fits None here masters = absurd masters

  legs_is : (writer master : ℕ) (answer : Linked) (old new : BookState) → IsBookOf stage writer old → (node : Option Node) → IsOpenOf node
      → LegsAt old master node answer new → IsBookOf stage writer new × LinkFits stage answer
  legs_is writer master (Made place) old new is (Some node) here legs = (
    subst (IsBookOf stage writer) (sym legs.1)
        (with_is writer place old (Some (leg_node node.write master)) (record { write = here.write; held = holds_nothing }) is),
    tt,
  )
  legs_is writer master (NoRoom back) old new is (Some node) here legs =
      (subst (IsBookOf stage writer) (sym legs.2) is, subst (HoldsHome stage) (sym legs.1) holds_nothing)
  legs_is writer master (Stray back) old new is (Some node) here legs = absurd legs
  legs_is writer master (Stray back) old new is None here legs =
      (subst (IsBookOf stage writer) (sym legs.1) is, subst (HoldsHome stage) (sym legs.0) holds_nothing)
  legs_is writer master (Made place) old new is None here legs = absurd legs
  legs_is writer master (NoRoom back) old new is None here legs = absurd legs

  pub links_is : (writer : ℕ) (opening : Opening) (answer : Linked) (old new : BookState) → IsBookOf stage writer old → OpeningFits stage opening
      → OpensNode old opening answer new → IsBookOf stage writer new × LinkFits stage answer
  links_is writer (Write write vector) answer old new is fits opened = opens_is writer write vector answer old new is fits opened
  links_is writer (Chain parent) answer old new is fits opened = chains_is writer parent answer old new is _ (node_is writer parent old is) opened
  links_is writer (Master parent part slip legs) answer old new is fits opened =
      masters_is writer parent part slip legs answer old new is (fits.1, fits.2) _ (node_is writer parent old is) opened
  links_is writer (Leg master) answer old new is fits opened = legs_is writer master answer old new is _ (node_is writer master old is) opened

  later_home : (held part : Option (Item Pad)) → IsBioHome stage held → IsBioHome stage part → IsBioHome stage (later_part held part)
  later_home held None was came = was
  later_home held (Some part) was came = came

  told_holds : (node : Node) (status : Status) (part : Option (Item Pad)) → IsNodeOf stage node → IsBioHome stage part
      → HoldsHome stage (told node status part).held
  told_holds node status part is came =
      record { bio = later_home node.held.bio part is.held.bio came; vector = is.held.vector; slip = is.held.slip }

  top_fits : (write : ℕ) (parent : Option ℕ) → write < stage.writes → TopFits stage write parent
  top_fits write None lt = lt
  top_fits write (Some parent) lt = tt

  closed_fits : (node : Node) (status : Status) (part : Option (Item Pad)) → IsNodeOf stage node → IsBioHome stage part
      → ClosedFits stage (closed_of (told node status part))
  closed_fits node status part is came = record { held = told_holds node status part is came; top = top_fits node.write (parent_of node.role) is.write }

  pub drops_is : (writer place : ℕ) (status : Status) (part : Option (Item Pad)) (ended : DropOutcome) (old new : BookState) → IsBookOf stage writer old
      → IsBioHome stage part → (node : Option Node) → IsOpenOf node → DropsAt old place node status part ended new
      → IsBookOf stage writer new × DropFits stage ended
  drops_is writer place status part Left old new is came (Some node) here drops = (
    subst (IsBookOf stage writer) (sym drops.1)
        (with_is writer place old (Some (lowered (told node status part)))
        (record { write = here.write; held = told_holds node status part here came }) is),
    tt,
  )
  drops_is writer place status part (Up closed) old new is came (Some node) here drops = (
    subst (IsBookOf stage writer) (sym drops.3) (with_is writer place old None tt is),
    subst (ClosedFits stage) (sym drops.2) (closed_fits node status part here came),
  )
  drops_is writer place status part (Top closed) old new is came (Some node) here drops = (
    subst (IsBookOf stage writer) (sym drops.3) (with_is writer place old None tt is),
    subst (ClosedFits stage) (sym drops.2) (closed_fits node status part here came),
  )
  drops_is writer place status part (end.Stray back) old new is came (Some node) here drops = absurd drops
  drops_is writer place status part (end.Stray back) old new is came None here drops =
      (subst (IsBookOf stage writer) (sym drops.1) is, subst (IsBioHome stage) (sym drops.0) came)
  drops_is writer place status part Left old new is came None here drops = absurd drops
  drops_is writer place status part (Up closed) old new is came None here drops = absurd drops
  drops_is writer place status part (Top closed) old new is came None here drops = absurd drops
