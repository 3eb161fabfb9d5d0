-- Two books with the same nodes at other places: what is opened and closed in one is so in the other.
use Rattle.std.proofs.Common.{◌≡◌, ◌≢◌, ◌+◌, ◌<◌, ◌≤◌, ◌⊎◌, ℕ, length, Option, None, Some, IsSome, inl, inr, refl, sym, ◌∙◌, ap, subst, arith}
use Rattle.std.specs.Option.{option_map}
use Rattle.std.proofs.lemmas.List.{length-set, get_or-set_same, get_or-set_other}
use Rattle.std.proofs.lemmas.Option.{slice_get-get_or}
use Rattle.stack_base.specs.declared.ids.Status.{Status}
use Rattle.bio_records.specs.declared.bio.Pad.{Pad}
use Rattle.bio_records.specs.Items.{Item}
use Rattle.bio_books.specs.declared.node.Role.{Role}
use Rattle.bio_books.specs.declared.node.Role.TheVariants as role
use Rattle.bio_books.specs.Books.{Node, BookState, SlipItem, node_at, with_node, parent_of, top_node, child_node, master_node, leg_node, with_kept_part, raised, kept_with, closing, told, lowered}
use Rattle.bio_books.specs.Drops.{DropOutcome, DropsAt, Drops}
use Rattle.bio_books.specs.Drops as end
use Rattle.bio_books.specs.Links.{Made, IsVacant, ChainsAt, MastersAt, LegsAt}
use Rattle.run_machine.specs.Maps.{upd}
use Rattle.run_machine.specs.Objects.{OpensNode}
use Rattle.run_machine.specs.Requests.{Opening, Write, Chain, Master, Leg}
use Rattle.block_core.proofs.moves.Sums.{upd-same, upd-other, same_or_not, within_book}
use Rattle.block_core.proofs.moves.Deltas.{vacant_at}
use Rattle.trace_replay.proofs.renaming.Renaming.{Places, item_to, slip_to, holding_to, role_to, node_to, opening_to, closed_to, ended_to}

-- The open nodes of one book stand in the other at these places, all of them below a number of nodes that were opened; from there on it is free. So
-- they are named.
pub record BookAlike (to : ℕ → ℕ) (named : ℕ → Option ℕ) (opened : ℕ) (one other : BookState) : Type 0 where
  pub long : length other.nodes ≡ length one.nodes
  pub nodes : (key : ℕ) (node : Node) → node_at one key ≡ Some node → (gone : ℕ) × (node_at other (to key) ≡ Some (node_to to gone node))
  pub apart : (key again : ℕ) (node like : Node) → node_at one key ≡ Some node → node_at one again ≡ Some like → to key ≡ to again → key ≡ again
  pub below : (key : ℕ) (node : Node) → node_at one key ≡ Some node → to key < opened
  pub free : (place : ℕ) → opened ≤ place → node_at other place ≡ None
  pub names : (key : ℕ) (node : Node) → node_at one key ≡ Some node → named key ≡ Some (to key)
  pub none : (key : ℕ) → node_at one key ≡ None → named key ≡ None

-- what stands at a place of a book that was changed at one
pub there : (book : BookState) (key : ℕ) (new : Option Node) → key < length book.nodes → node_at (with_node book key new) key ≡ new
there book key new lt = get_or-set_same book.nodes key new None lt

pub elsewhere : (book : BookState) (key : ℕ) (new : Option Node) (place : ℕ) → place ≢ key → node_at (with_node book key new) place ≡ node_at book place
elsewhere book key new place ne = get_or-set_other book.nodes key place new None ne

-- a place is the changed one, or it has what it had
stands : (book : BookState) (key : ℕ) (new : Option Node) (place : ℕ) (has : Option Node) → key < length book.nodes → node_at (with_node book key new) place ≡ has
    → ((place ≡ key) × (new ≡ has)) ⊎ ((place ≢ key) × (node_at book place ≡ has))
stands book key new place has lt is = elim (same_or_not place key) [
  | inl e ↦ inl (e, sym (there book key new lt) ∙ ap (node_at (with_node book key new)) (sym e) ∙ is)
  | inr ne ↦ inr (ne, sym (elsewhere book key new place ne) ∙ is)
]

not_none : {A : Type 0} (node : Node) → None ≡ Some node → A
not_none node is = absurd cc

module _ (to : ℕ → ℕ) (named : ℕ → Option ℕ) (opened : ℕ) (one other : BookState) (alike : BookAlike to named opened one other) where
  inside : (key : ℕ) (node : Node) → node_at one key ≡ Some node → to key < length other.nodes
  inside key node at = let there_too = alike.nodes key node at in within_book other (to key) (node_to to there_too.0 node) there_too.1

  -- an open node changes
  module _ (key : ℕ) (old new : Node) (gone : ℕ) (at : node_at one key ≡ Some old) where
    abbrev changed : BookState
    changed = with_node one key (Some new)

    abbrev like : BookState
    like = with_node other (to key) (Some (node_to to gone new))

    abbrev Was : ℕ → Type 0
    Was place = (node : Node) × (node_at one place ≡ Some node)

    was_open : (place : ℕ) (node : Node) → node_at changed place ≡ Some node → Was place
    was_open place node is = elim (stands one key (Some new) place (Some node) (within_book one key old at) is) [
      | inl same ↦ (old, ap (node_at one) same.0 ∙ at)
      | inr stays ↦ (node, stays.1)
    ]

    pub changes : BookAlike to named opened changed like
    changes = record {
      long = length-set other.nodes (to key) (Some (node_to to gone new)) ∙ alike.long ∙ sym (length-set one.nodes key (Some new));
      nodes = λ place node is. elim (stands one key (Some new) place (Some node) (within_book one key old at) is) [
        | inl same ↦
            let all : (gone : ℕ) × (node_at like (to key) ≡ Some (node_to to gone node)) =
            (gone, there other (to key) (Some (node_to to gone new)) (inside key old at) ∙ ap (option_map (node_to to gone)) same.1) in
            subst (λ p. (gone : ℕ) × (node_at like (to p) ≡ Some (node_to to gone node))) (sym same.0) all
        | inr stays ↦
            let had = alike.nodes place node stays.1 in
            (had.0, elsewhere other (to key) (Some (node_to to gone new)) (to place) (λ e. stays.0 (alike.apart place key node old stays.1 at e)) ∙ had.1)
      ];
      apart = λ place again node like_too is too same.
          let a = was_open place node is in
          let b = was_open again like_too too in
          alike.apart place again a.0 b.0 a.1 b.1 same;
      below = λ place node is. let a = was_open place node is in alike.below place a.0 a.1;
      free = λ place le.
          elsewhere other (to key) (Some (node_to to gone new)) place (λ e. let lt = alike.below key old at in absurd (omega (arith, e, lt, le))) ∙ alike.free place le;
      names = λ place node is. let a = was_open place node is in alike.names place a.0 a.1;
      none = λ place is. elim (stands one key (Some new) place None (within_book one key old at) is) [
        | inl same ↦ not_none new (sym same.1)
        | inr stays ↦ alike.none place stays.1
      ];
    }

  -- an open node closes
  module _ (key : ℕ) (old : Node) (at : node_at one key ≡ Some old) where
    stayed : (place : ℕ) (node : Node) → node_at (with_node one key None) place ≡ Some node → (place ≢ key) × (node_at one place ≡ Some node)
    stayed place node is = elim (stands one key None place (Some node) (within_book one key old at) is) [
      | inl same ↦ not_none node same.1
      | inr stays ↦ stays
    ]

    pub closes : BookAlike to (upd named key None) opened (with_node one key None) (with_node other (to key) None)
    closes = record {
      long = length-set other.nodes (to key) None ∙ alike.long ∙ sym (length-set one.nodes key None);
      nodes = λ place node is.
          let stays = stayed place node is in
          let had = alike.nodes place node stays.1 in
          (had.0, elsewhere other (to key) None (to place) (λ e. stays.0 (alike.apart place key node old stays.1 at e)) ∙ had.1);
      apart = λ place again node like is too same. alike.apart place again node like (stayed place node is).1 (stayed again like too).1 same;
      below = λ place node is. alike.below place node (stayed place node is).1;
      free = λ place le. elim (same_or_not place (to key)) [
        | inl e ↦ ap (node_at (with_node other (to key) None)) e ∙ there other (to key) None (inside key old at)
        | inr ne ↦ elsewhere other (to key) None place ne ∙ alike.free place le
      ];
      names = λ place node is.
          let stays = stayed place node is in upd-other named key None place stays.0 ∙ alike.names place node stays.1;
      none = λ place is. elim (stands one key None place None (within_book one key old at) is) [
        | inl same ↦ ap (upd named key None) same.0 ∙ upd-same named key None
        | inr stays ↦ upd-other named key None place stays.0 ∙ alike.none place stays.1
      ];
    }

  -- a node is opened at the next place
  module _ (key : ℕ) (new : Node) (gone : ℕ) (vacant : IsVacant one key) (next : to key ≡ opened) (room : opened < length one.nodes) where
    abbrev opened_one : BookState
    opened_one = with_node one key (Some new)

    abbrev opened_other : BookState
    opened_other = with_node other (to key) (Some (node_to to gone new))

    none_there : node_at one key ≡ None
    none_there = (vacant_at one key vacant).0

    fits : to key < length other.nodes
    fits = let long = alike.long in omega (arith, next, room, long)

    -- the other place is vacant
    pub vacant_too : IsVacant other (to key)
    vacant_too = slice_get-get_or other.nodes (to key) None fits ∙ ap Some (alike.free (to key) (omega (arith, next)))

    found : (place : ℕ) (node : Node) → node_at opened_one place ≡ Some node → ((place ≡ key) × (Some new ≡ Some node)) ⊎ ((place ≢ key) × (node_at one place ≡ Some node))
    found place node is = stands one key (Some new) place (Some node) (vacant_at one key vacant).1 is

    pub opens : BookAlike to (upd named key (Some opened)) (opened + 1) opened_one opened_other
    opens = record {
      long = length-set other.nodes (to key) (Some (node_to to gone new)) ∙ alike.long ∙ sym (length-set one.nodes key (Some new));
      nodes = λ place node is. elim (found place node is) [
        | inl same ↦
            let all : (gone : ℕ) × (node_at opened_other (to key) ≡ Some (node_to to gone node)) =
            (gone, there other (to key) (Some (node_to to gone new)) fits ∙ ap (option_map (node_to to gone)) same.1) in
            subst (λ p. (gone : ℕ) × (node_at opened_other (to p) ≡ Some (node_to to gone node))) (sym same.0) all
        | inr stays ↦
            let had = alike.nodes place node stays.1 in
            let lt = alike.below place node stays.1 in
            (had.0, elsewhere other (to key) (Some (node_to to gone new)) (to place) (λ e. absurd (omega (arith, e, lt, next))) ∙ had.1)
      ];
      apart = λ place again node like is too same. elim (found place node is) [
        | inl a ↦ elim (found again like too) [
          | inl b ↦ a.0 ∙ sym b.0
          | inr b ↦ let lt = alike.below again like b.1 in let e = ap to a.0 in absurd (omega (arith, lt, e, same, next))
        ]
        | inr a ↦ elim (found again like too) [
          | inl b ↦ let lt = alike.below place node a.1 in let e = ap to b.0 in absurd (omega (arith, lt, e, same, next))
          | inr b ↦ alike.apart place again node like a.1 b.1 same
        ]
      ];
      below = λ place node is. elim (found place node is) [
        | inl a ↦ let e = ap to a.0 in omega (arith, e, next)
        | inr a ↦ let lt = alike.below place node a.1 in omega (arith, lt)
      ];
      free = λ place le.
          elsewhere other (to key) (Some (node_to to gone new)) place (λ e. absurd (omega (arith, e, next, le))) ∙ alike.free place (omega (arith, le));
      names = λ place node is. elim (found place node is) [
        | inl a ↦ ap (upd named key (Some opened)) a.0 ∙ upd-same named key (Some opened) ∙ ap Some (sym next) ∙ ap (λ p. Some (to p)) (sym a.0)
        | inr a ↦ upd-other named key (Some opened) place a.0 ∙ alike.names place node a.1
      ];
      none = λ place is. elim (stands one key (Some new) place None (vacant_at one key vacant).1 is) [
        | inl same ↦ not_none new (sym same.1)
        | inr stays ↦ upd-other named key (Some opened) place stays.0 ∙ alike.none place stays.1
      ];
    }

-- what is told to a node, and what is left of it
kept_to : (to : ℕ → ℕ) (role : Role) (old new : Status) → kept_with (role_to to role) old new ≡ kept_with role old new
kept_to to role.Top old new = refl
kept_to to (role.Chain parent) old new = refl
kept_to to (role.Master parent) old new = refl
kept_to to (role.Leg parent) old new = refl

closing_to : (to : ℕ → ℕ) (role : Role) (status : Status) → closing (role_to to role) status ≡ closing role status
closing_to to role.Top status = refl
closing_to to (role.Chain parent) status = refl
closing_to to (role.Master parent) status = refl
closing_to to (role.Leg parent) status = refl

pub parent_to : (to : ℕ → ℕ) (role : Role) → parent_of (role_to to role) ≡ option_map to (parent_of role)
parent_to to role.Top = refl
parent_to to (role.Chain parent) = refl
parent_to to (role.Master parent) = refl
parent_to to (role.Leg parent) = refl

some_to : (to : ℕ → ℕ) (parent : Option ℕ) → IsSome parent → IsSome (option_map to parent)
some_to to None is = is
some_to to (Some parent) is = is

-- the word of the bio that a node has once this part came
abbrev gone_with : Places → ℕ → Option (Item Pad) → ℕ
gone_with to gone None = gone
gone_with to gone (Some part) = to part.bio.writer part.bio.node

told_to : (to : Places) (writer gone : ℕ) (node : Node) (status : Status) (part : Option (Item Pad))
    → told (node_to (to writer) gone node) status (option_map (item_to to) part) ≡ node_to (to writer) (gone_with to gone part) (told node status part)
told_to to writer gone node status None =
    ap (λ s. record node { role = role_to (to writer) node.role; status = s; held = holding_to gone node.held }) (kept_to (to writer) node.role node.status status)
told_to to writer gone node status (Some part) =
    ap (λ s. record node { role = role_to (to writer) node.role; status = s; held = holding_to (to part.bio.writer part.bio.node) (record node.held { bio = Some part }) }) (kept_to (to writer) node.role node.status status)

closed_of_to : (to : ℕ → ℕ) (gone : ℕ) (node : Node) → end.closed_of (node_to to gone node) ≡ closed_to to gone (end.closed_of node)
closed_of_to to gone node =
    let parent = parent_to to node.role in
    let status = closing_to to node.role node.status in
    λ k. record {
      held = holding_to gone node.held;
      parent = parent k;
      write = node.write;
      status = status k;
    }

module _ (to : Places) (writer : ℕ) (named : ℕ → Option ℕ) (opened : ℕ) (one other : BookState) (alike : BookAlike (to writer) named opened one other) where
  abbrev here : ℕ → ℕ
  here = to writer

  -- what a book answers to a drop, by what it leaves of the names
  abbrev Dropped : ℕ → Status → Option (Item Pad) → DropOutcome → BookState → (ℕ → Option ℕ) → Type 0
  Dropped key status part ended now names =
      (like : BookState) × (fresh : ℕ) × Drops other (here key) status (option_map (item_to to) part) (ended_to here fresh ended) like × BookAlike here names opened now like

  dropped_at : (key : ℕ) (node : Node) → node_at one key ≡ Some node → (status : Status) (part : Option (Item Pad)) (now : BookState)
      → DropsAt one key (Some node) status part end.Left now → Dropped key status part end.Left now named
  dropped_at key node at status part now is =
      let had = alike.nodes key node at in
      let gone = gone_with to had.0 part in
      let new = lowered (told node status part) in
      let like = with_node other (here key) (Some (node_to here gone new)) in
      let more : 1 < node.count = is.0 in (
        like,
        0,
        subst (λ found. DropsAt other (here key) found status (option_map (item_to to) part) end.Left like) (sym had.1)
            (more, ap (λ n. with_node other (here key) (Some (lowered n))) (sym (told_to to writer had.0 node status part))),
        subst (λ book. BookAlike here named opened book like) (sym is.1) (changes here named opened one other alike key node new gone at),
      )

  closed_up : (key : ℕ) (node : Node) → node_at one key ≡ Some node → (status : Status) (part : Option (Item Pad)) (closed : end.Closed) (now : BookState)
      → DropsAt one key (Some node) status part (end.Up closed) now → Dropped key status part (end.Up closed) now (upd named key None)
  closed_up key node at status part closed now is =
      let had = alike.nodes key node at in
      let gone = gone_with to had.0 part in
      let like = with_node other (here key) None in
      let child : IsSome (parent_of (role_to here node.role)) = subst IsSome (sym (parent_to here node.role)) (some_to here (parent_of node.role) is.1) in
      let left = ap end.closed_of (told_to to writer had.0 node status part) ∙ closed_of_to here gone (told node status part) in (
        like,
        gone,
        subst (λ found. DropsAt other (here key) found status (option_map (item_to to) part) (end.Up (closed_to here gone closed)) like) (sym had.1)
            (is.0, child, ap (closed_to here gone) is.2 ∙ sym left, refl),
        subst (λ book. BookAlike here (upd named key None) opened book like) (sym is.3) (closes here named opened one other alike key node at),
      )

  closed_top : (key : ℕ) (node : Node) → node_at one key ≡ Some node → (status : Status) (part : Option (Item Pad)) (closed : end.Closed) (now : BookState)
      → DropsAt one key (Some node) status part (end.Top closed) now → Dropped key status part (end.Top closed) now (upd named key None)
  closed_top key node at status part closed now is =
      let had = alike.nodes key node at in
      let gone = gone_with to had.0 part in
      let like = with_node other (here key) None in
      let child : parent_of (role_to here node.role) ≡ None = parent_to here node.role ∙ ap (option_map here) is.1 in
      let left = ap end.closed_of (told_to to writer had.0 node status part) ∙ closed_of_to here gone (told node status part) in (
        like,
        gone,
        subst (λ found. DropsAt other (here key) found status (option_map (item_to to) part) (end.Top (closed_to here gone closed)) like) (sym had.1)
            (is.0, child, ap (closed_to here gone) is.2 ∙ sym left, refl),
        subst (λ book. BookAlike here (upd named key None) opened book like) (sym is.3) (closes here named opened one other alike key node at),
      )

  pub left_to : (key : ℕ) (at : Option Node) → node_at one key ≡ at → (status : Status) (part : Option (Item Pad)) (now : BookState)
      → DropsAt one key at status part end.Left now → Dropped key status part end.Left now named
  left_to key None at status part now is = absurd is
  left_to key (Some node) at status part now is = dropped_at key node at status part now is

  pub up_to : (key : ℕ) (at : Option Node) → node_at one key ≡ at → (status : Status) (part : Option (Item Pad)) (closed : end.Closed) (now : BookState)
      → DropsAt one key at status part (end.Up closed) now → Dropped key status part (end.Up closed) now (upd named key None)
  up_to key None at status part closed now is = absurd is
  up_to key (Some node) at status part closed now is = closed_up key node at status part closed now is

  pub top_to : (key : ℕ) (at : Option Node) → node_at one key ≡ at → (status : Status) (part : Option (Item Pad)) (closed : end.Closed) (now : BookState)
      → DropsAt one key at status part (end.Top closed) now → Dropped key status part (end.Top closed) now (upd named key None)
  top_to key None at status part closed now is = absurd is
  top_to key (Some node) at status part closed now is = closed_top key node at status part closed now is

  -- and to an opening
  module _ (key : ℕ) (next : here key ≡ opened) (room : opened < length one.nodes) where
    abbrev OpenedTo : Opening → BookState → Type 0
    OpenedTo opening now = (like : BookState) × OpensNode other (opening_to to writer opening) (Made (here key)) like × BookAlike here (upd named key (Some opened)) (opened + 1) now like

    -- the parent stands elsewhere
    parent_stays : (parent : ℕ) (node new : Node) → node_at one parent ≡ Some node → IsVacant one key → node_at (with_node one key (Some new)) parent ≡ Some node
    parent_stays parent node new at vacant =
        elsewhere one key (Some new) parent (λ e. not_none node (sym (vacant_at one key vacant).0 ∙ ap (node_at one) (sym e) ∙ at)) ∙ at

    chained : (parent : ℕ) (at : Option Node) → node_at one parent ≡ at → (now : BookState) → ChainsAt one parent at (Made key) now → OpenedTo (Chain parent) now
    chained parent None at now is = absurd is
    chained parent (Some node) at now is =
        let had = alike.nodes parent node at in
        let new = child_node node.write parent in
        let grown = opens here named opened one other alike key new 0 is.1 next room in
        let one_more = with_node one key (Some new) in
        let other_more = with_node other (here key) (Some (node_to here 0 new)) in
        let like = with_node other_more (here parent) (Some (node_to here had.0 (raised node))) in (
          like,
          subst (λ found. ChainsAt other (here parent) found (Made (here key)) like) (sym had.1)
              (is.0, vacant_too here named opened one other alike key new 0 is.1 next room, refl),
          subst (λ book. BookAlike here (upd named key (Some opened)) (opened + 1) book like) (sym is.2)
              (changes here (upd named key (Some opened)) (opened + 1) one_more other_more grown parent node (raised node) had.0 (parent_stays parent node new at is.1)),
        )

    mastered : (parent : ℕ) (part : Item Pad) (slip : SlipItem) (legs : ℕ) (at : Option Node) → node_at one parent ≡ at → (now : BookState)
        → MastersAt one parent at part slip legs (Made key) now → OpenedTo (Master parent part slip legs) now
    mastered parent part slip legs None at now is = absurd is
    mastered parent part slip legs (Some node) at now is =
        let had = alike.nodes parent node at in
        let new = master_node node.write parent slip legs in
        let gone = to part.bio.writer part.bio.node in
        let grown = opens here named opened one other alike key new 0 is.0 next room in
        let one_more = with_node one key (Some new) in
        let other_more = with_node other (here key) (Some (node_to here 0 new)) in
        let like = with_node other_more (here parent) (Some (node_to here gone (with_kept_part part node))) in (
          like,
          subst (λ found. MastersAt other (here parent) found (item_to to part) (slip_to slip) legs (Made (here key)) like) (sym had.1)
              (vacant_too here named opened one other alike key new 0 is.0 next room, refl),
          subst (λ book. BookAlike here (upd named key (Some opened)) (opened + 1) book like) (sym is.1)
              (changes here (upd named key (Some opened)) (opened + 1) one_more other_more grown parent node (with_kept_part part node) gone (parent_stays parent node new at is.0)),
        )

    legged : (master : ℕ) (at : Option Node) → node_at one master ≡ at → (now : BookState) → LegsAt one master at (Made key) now → OpenedTo (Leg master) now
    legged master None at now is = absurd is
    legged master (Some node) at now is =
        let had = alike.nodes master node at in
        let new = leg_node node.write master in
        let like = with_node other (here key) (Some (node_to here 0 new)) in (
          like,
          subst (λ found. LegsAt other (here master) found (Made (here key)) like) (sym had.1)
              (vacant_too here named opened one other alike key new 0 is.0 next room, refl),
          subst (λ book. BookAlike here (upd named key (Some opened)) (opened + 1) book like) (sym is.1)
              (opens here named opened one other alike key new 0 is.0 next room),
        )

    pub opened_to : (opening : Opening) (now : BookState) → OpensNode one opening (Made key) now → OpenedTo opening now
    opened_to (Write write vector) now is =
        let new = top_node write vector in
        let like = with_node other (here key) (Some (node_to here 0 new)) in (
          like,
          (vacant_too here named opened one other alike key new 0 is.0 next room, refl),
          subst (λ book. BookAlike here (upd named key (Some opened)) (opened + 1) book like) (sym is.1)
              (opens here named opened one other alike key new 0 is.0 next room),
        )
    opened_to (Chain parent) now is = chained parent (node_at one parent) refl now is
    opened_to (Master parent part slip legs) now is = mastered parent part slip legs (node_at one parent) refl now is
    opened_to (Leg master) now is = legged master (node_at one master) refl now is
