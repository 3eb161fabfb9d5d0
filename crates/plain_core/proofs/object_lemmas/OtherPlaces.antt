-- What stands at other places of a book than the one that changed, and what can be opened in it.
use Rattle.std.proofs.Common.{◌≡◌, ◌≢◌, ◌-◌, ◌^◌, ◌<◌, ℕ, Option, None, Some, refl, sym, ap, ◌∙◌, subst}
use Rattle.std.proofs.lemmas.List.{get_or-set_other}
use Rattle.std.proofs.lemmas.Option.{get_or_from_slice_get}
use Rattle.bio_records.specs.declared.bio.Pad.{Pad}
use Rattle.bio_records.specs.Items.{Item}
use Rattle.bio_books.specs.Books.{BookState, Node, SlipItem, node_at, with_node, child_node, master_node, leg_node, with_kept_part, raised}
use Rattle.bio_books.specs.Links.{Made, IsVacant, Chains, ChainsAt, Masters, MastersAt, Legs, LegsAt}

-- a vacant place is not that of an open node
apart : (book : BookState) (place parent : ℕ) (node : Node) → node_at book place ≡ None → node_at book parent ≡ Some node → parent ≢ place
apart book place parent node vacant is same =
    let x : None ≡ Some node = sym vacant ∙ ap (node_at book) (sym same) ∙ is in absurd cc

-- an open node stays where another is put at a vacant place
pub stays : (book : BookState) (place parent : ℕ) (node : Node) (child : Option Node) → IsVacant book place → node_at book parent ≡ Some node
    → node_at (with_node book place child) parent ≡ Some node
stays book place parent node child vacant is =
    get_or-set_other book.nodes place parent child None (apart book place parent node (get_or_from_slice_get book.nodes place None None vacant) is) ∙ is

-- a node can be opened at a vacant place
pub chained : (book : BookState) (parent place : ℕ) (node : Node) → node_at book parent ≡ Some node → node.count < 2 ^ 64 - 1 → IsVacant book place
    → (next : BookState) × Chains book parent (Made place) next
chained book parent place node is few vacant =
    let next = with_node (with_node book place (Some (child_node node.write parent))) parent (Some (raised node)) in
    (next, subst (λ o. ChainsAt book parent o (Made place) next) (sym is) (few, vacant, refl))

pub mastered : (book : BookState) (parent place : ℕ) (node : Node) (part : Item Pad) (slip : SlipItem) (legs : ℕ) → node_at book parent ≡ Some node → IsVacant book place
    → (next : BookState) × Masters book parent part slip legs (Made place) next
mastered book parent place node part slip legs is vacant =
    let next = with_node (with_node book place (Some (master_node node.write parent slip legs))) parent (Some (with_kept_part part node)) in
    (next, subst (λ o. MastersAt book parent o part slip legs (Made place) next) (sym is) (vacant, refl))

pub legged : (book : BookState) (master place : ℕ) (node : Node) → node_at book master ≡ Some node → IsVacant book place
    → (next : BookState) × Legs book master (Made place) next
legged book master place node is vacant =
    let next = with_node book place (Some (leg_node node.write master)) in
    (next, subst (λ o. LegsAt book master o (Made place) next) (sym is) (vacant, refl))
