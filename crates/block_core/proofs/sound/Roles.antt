-- Each open node waits for its parts by its role.
use Rattle.std.proofs.Common.{◌≡◌, ◌+◌, ◌*◌, ◌<◌, ◌≤◌, if◌then◌else◌, not, ℕ, Bool, true, false, Option, None, Some, inl, inr, refl, sym, ◌∙◌, ap, subst, arith}
use Rattle.stack_base.specs.declared.ids.DevId.{DevId}
use Rattle.bio_records.specs.declared.bio.Pad.{Pad}
use Rattle.bio_records.specs.Items.{Item}
use Rattle.bio_books.specs.declared.node.Role.{Role}
use Rattle.bio_books.specs.declared.node.Role.TheVariants as role
use Rattle.bio_books.specs.Books.{Node, node_at, parent_of}
use Rattle.bio_books.specs.Drops.{Closed}
use Rattle.run_machine.specs.Scene.{Scene}
use Rattle.run_machine.specs.Tasks.{Completer, Carries}
use Rattle.run_machine.specs.Runs.{State}
use Rattle.block_core.specs.Weights.{Weight, total_weight, one_if_same, under, legs_left}
use Rattle.block_core.proofs.moves.References.{references, awaited_ends}
use Rattle.block_core.specs.EachBio.{EachBio, EachCopied}
use Rattle.block_core.specs.Touches.{is_master}
use Rattle.block_core.specs.Roles.{is_leg, named, masters, children, legs_to_make, WaitsForParts, IsUnderOpen, HasRoles}
use Rattle.block_core.proofs.status.Marks.{mismatch, kind_is}
use Rattle.block_core.proofs.moves.Sums.{same_or_not, one-same, one-other, yes}
use Rattle.block_core.proofs.sound.Invariant.{own_part, own_of, Invariant}
use Rattle.block_core.proofs.moves.BookMaps.{made}
use Rattle.block_core.proofs.sound.Splitting.{total_sum}
use Rattle.block_core.proofs.sound.Misplaced.{wrong_parent, wrong_above, misplaced}
use Rattle.block_core.proofs.moves.Totals.{task_part}
use Rattle.block_core.proofs.stuck.Idle.{open_at, node_part, names_one}
use Rattle.block_core.proofs.moves.SumsCompared.{under_in_all}
use Rattle.block_core.proofs.sound.StoodFor.{refs_are, MastersStand}
use Rattle.block_core.proofs.sound.EachBio.{each_part, each_copied_part}
use Rattle.block_core.proofs.images.Ancestors.{copied_times}

is_false : (b : Bool) → yes b ≡ 0 → b ≡ false
is_false true none = absurd (omega (arith, none))
is_false false none = refl

is_true : (b : Bool) → yes (not b) ≡ 0 → b ≡ true
is_true true none = refl
is_true false none = absurd (omega (arith, none))

-- the parent of a node is of the kind that its role says
parent_kind : (mark : ℕ → Bool) (r : Role) (parent : ℕ) → wrong_parent mark r ≡ 0 → parent_of r ≡ Some parent → mark parent ≡ is_leg r
parent_kind mark role.Top parent none is = absurd cc
parent_kind mark (role.Chain above) parent none is = let e : above ≡ parent = cc in subst (λ k. mark k ≡ false) e (is_false (mark above) none)
parent_kind mark (role.Master above) parent none is = let e : above ≡ parent = cc in subst (λ k. mark k ≡ false) e (is_false (mark above) none)
parent_kind mark (role.Leg above) parent none is = let e : above ≡ parent = cc in subst (λ k. mark k ≡ true) e (is_true (mark above) none)

above_kind : (mark : ℕ → Bool) (b : Bool) (found : Option ℕ) (parent : ℕ) → wrong_above mark b found ≡ 0 → found ≡ Some parent → b ≡ true → mark parent ≡ false
above_kind mark false found parent none is same = absurd cc
above_kind mark true None parent none is same = absurd cc
above_kind mark true (Some above) parent none is same = let e : above ≡ parent = cc in subst (λ k. mark k ≡ false) e (is_false (mark above) none)

-- what refers to a place is right there by the place's mark
marked : (mark : ℕ → ℕ → Bool) (writer w p k : ℕ) → mark w k ≡ true → one_if_same writer w * one_if_same p k ≤ yes (mark writer p)
marked mark writer w p k is = elim (same_or_not writer w) [
  | inr ne ↦ let z = one-other writer w ne in omega (arith, ap (λ n. n * one_if_same p k) z)
  | inl e ↦ elim (same_or_not p k) [
    | inr ne ↦ let z = one-other p k ne in omega (arith, ap (λ n. one_if_same writer w * n) z)
    | inl also ↦
        let P : ℕ → ℕ → Type 0 = λ a b. one_if_same a w * one_if_same b k ≤ yes (mark a b) in
        let here : P w k = rw (one-same w, one-same k, is) (omega arith) in
        subst (λ b. P writer b) (sym also) (subst (λ a. P a k) (sym e) here)
  ]
]

not_marked : (mark : ℕ → ℕ → Bool) (writer w p k n : ℕ) → mark w k ≡ false → mark writer p ≡ true → one_if_same writer w * one_if_same p k * n ≡ 0
not_marked mark writer w p k n other is = elim (same_or_not writer w) [
  | inr ne ↦ let z = one-other writer w ne in omega (arith, ap (λ m. m * one_if_same p k * n) z)
  | inl e ↦ elim (same_or_not p k) [
    | inr ne ↦ let z = one-other p k ne in omega (arith, ap (λ m. one_if_same writer w * m * n) z)
    | inl also ↦ let same : mark w k ≡ true = subst (λ b. mark w b ≡ true) also (subst (λ a. mark a p ≡ true) e is) in absurd cc
  ]
]

-- what a node waits for, by its role
waits_by : (r : Role) (part : Option (Item Pad)) (count bios standing below legs : ℕ) → count ≡ bios + standing + below + legs → own_part r part ≡ bios → standing + own_part r part ≤ 1
    → (is_master r ≡ true → standing ≡ 0) → (is_master r ≡ false → legs ≡ 0) → WaitsForParts (is_master r) part count bios standing below legs
waits_by (role.Master parent) part count bios standing below legs all own one_each alone made = let z = alone refl in (sym own, z, omega (arith, all, own, z))
waits_by role.Top None count bios standing below legs all own one_each alone made = let z = made refl in ((sym own, omega (arith, one_each)), z, omega (arith, all, z))
waits_by role.Top (Some bio) count bios standing below legs all own one_each alone made = let z = made refl in ((sym own, omega (arith, one_each)), z, omega (arith, all, z))
waits_by (role.Chain parent) None count bios standing below legs all own one_each alone made = let z = made refl in ((sym own, omega (arith, one_each)), z, omega (arith, all, z))
waits_by (role.Chain parent) (Some bio) count bios standing below legs all own one_each alone made = let z = made refl in ((sym own, omega (arith, one_each)), z, omega (arith, all, z))
waits_by (role.Leg parent) None count bios standing below legs all own one_each alone made = let z = made refl in ((sym own, omega (arith, one_each)), z, omega (arith, all, z))
waits_by (role.Leg parent) (Some bio) count bios standing below legs all own one_each alone made = let z = made refl in ((sym own, omega (arith, one_each)), z, omega (arith, all, z))

module _ (scene : Scene) (s : State) (was_master : ℕ → Bool) (i : Invariant scene s) (t : MastersStand scene was_master s) where
  abbrev mark : ℕ → ℕ → Bool
  mark = t.right.0

  abbrev off : Weight
  off = misplaced t.right.0 was_master

  kind : (writer place : ℕ) (node : Node) → node_at (s.objects.book writer) place ≡ Some node → is_master node.role ≡ mark writer place
  kind writer place node at = kind_is node.role (mark writer place) (omega (arith, t.right.1, node_part scene s i off writer place node at))

  no_masters : (w k : ℕ) → mark w k ≡ true → total_weight scene (masters was_master w k) s ≡ 0
  no_masters w k is =
      omega (
        arith,
        t.right.1,
        under_in_all scene s i (masters was_master w k) off (record {
          todo = λ writer todos taken part. omega arith;
          bio = λ spot item part. omega arith;
          copy = λ bio master leg left part. omega arith;
          hand = λ item. omega arith;
          vector = λ vector. omega arith;
          slip = λ slip. omega arith;
          node = λ writer place node at part. omega (arith, by_role writer (mark writer place) node.role);
          closed = λ task writer closed part. by_kind writer (was_master task) closed.parent;
        }),
      )
    where
      by_role : (writer : ℕ) (b : Bool) (r : Role) → (if is_master r then under w k writer (parent_of r) else 0) ≤ mismatch r b + wrong_parent (mark writer) r
      by_role writer b role.Top = omega arith
      by_role writer b (role.Chain parent) = omega arith
      by_role writer b (role.Master parent) = omega (arith, marked mark writer w parent k is)
      by_role writer b (role.Leg parent) = omega arith

      by_kind : (writer : ℕ) (b : Bool) (parent : Option ℕ) → (if b then under w k writer parent else 0) ≤ wrong_above (mark writer) b parent
      by_kind writer false parent = omega arith
      by_kind writer true None = omega arith
      by_kind writer true (Some parent) = marked mark writer w parent k is

  no_legs : (w k : ℕ) → mark w k ≡ false → total_weight scene (legs_to_make scene.setup w k) s ≡ 0
  no_legs w k other =
      omega (
        arith,
        t.right.1,
        under_in_all scene s i (legs_to_make scene.setup w k) off (record {
          todo = λ writer todos taken part. omega arith;
          bio = λ spot item part. omega arith;
          copy = λ bio master leg left part.
              let none : yes (not (mark bio.writer master)) ≡ 0 = omega (arith, t.right.1, part off) in
              omega (arith, not_marked mark bio.writer w master k (legs_left scene.setup bio leg) other (is_true (mark bio.writer master) none));
          hand = λ item. omega arith;
          vector = λ vector. omega arith;
          slip = λ slip. omega arith;
          node = λ writer place node at part. omega arith;
          closed = λ task writer closed part. omega arith;
        }),
      )

  waits : (writer place : ℕ) (node : Node) → node_at (s.objects.book writer) place ≡ Some node
      → WaitsForParts (is_master node.role) node.held.bio node.count (total_weight scene (named writer place) s) (total_weight scene (masters was_master writer place) s)
      (total_weight scene (children was_master writer place) s) (total_weight scene (legs_to_make scene.setup writer place) s)
  waits writer place node at =
      let own : own_of (node_at (s.objects.book writer) place) ≡ own_part node.role node.held.bio = ap own_of at in
      let count : awaited_ends (node_at (s.objects.book writer) place) ≡ node.count = ap awaited_ends at in
      let is = kind writer place node at in
      waits_by node.role node.held.bio node.count (total_weight scene (named writer place) s) (total_weight scene (masters was_master writer place) s)
      (total_weight scene (children was_master writer place) s) (total_weight scene (legs_to_make scene.setup writer place) s)
      (omega (arith, count, i.counts writer place, total_sum (references scene.setup writer place) _ _ _ _ (refs_are scene.setup was_master writer place) scene s))
      (sym own ∙ i.owns writer place)
      (omega (arith, own, t.all writer place))
      (λ same. no_masters writer place (sym is ∙ same))
      (λ same. no_legs writer place (sym is ∙ same))

  refers : (writer parent : ℕ) (found : Option ℕ) → found ≡ Some parent → under writer parent writer found ≡ 1
  refers writer parent found is = ap (under writer parent writer) is ∙ (ap (λ n. n * one_if_same parent parent) (one-same writer) ∙ ap (λ n. 1 * n) (one-same parent))

  parents : (writer place : ℕ) (node : Node) (parent : ℕ) → node_at (s.objects.book writer) place ≡ Some node → parent_of node.role ≡ Some parent
      → (above : Node) × (node_at (s.objects.book writer) parent ≡ Some above) × (is_master above.role ≡ is_leg node.role)
  parents writer place node parent at is =
      let up = open_at scene s i writer parent
      (omega (arith, refers writer parent (parent_of node.role) is, node_part scene s i (references scene.setup writer parent) writer place node at)) in
      let right : wrong_parent (mark writer) node.role ≡ 0 = omega (arith, t.right.1, node_part scene s i off writer place node at) in
      (up.0, up.1, kind writer parent up.0 up.1 ∙ parent_kind (mark writer) node.role parent right is)

  carried : (place : ℕ) (disk : DevId) (writer : ℕ) (closed : Closed) (parent : ℕ) → place < scene.tasks → s.task place ≡ Completer disk (Carries writer closed) → closed.parent ≡ Some parent
      → (above : Node) × (node_at (s.objects.book writer) parent ≡ Some above) × (was_master place ≡ true → is_master above.role ≡ false)
  carried place disk writer closed parent here is found =
      let up = open_at scene s i writer parent
      (omega (arith, refers writer parent closed.parent found, task_part scene (references scene.setup writer parent) s place (Completer disk (Carries writer closed)) here is)) in
      let right : wrong_above (mark writer) (was_master place) closed.parent ≡ 0 = omega (arith, t.right.1, task_part scene off s place (Completer disk (Carries writer closed)) here is) in
      (up.0, up.1, λ same. kind writer parent up.0 up.1 ∙ above_kind (mark writer) (was_master place) closed.parent parent right found same)

  named_open : EachBio (λ item. IsUnderOpen s item.bio.writer item.bio.node false) scene s
  named_open =
      each_part scene s (λ item. IsUnderOpen s item.bio.writer item.bio.node false)
      (λ spot item part.
      let up = open_at scene s i item.bio.writer item.bio.node (omega (arith, names_one item, part (references scene.setup item.bio.writer item.bio.node))) in
      (up.0, up.1, kind item.bio.writer item.bio.node up.0 up.1 ∙ is_false (mark item.bio.writer item.bio.node) (omega (arith, t.right.1, part off))))

  copied_open : EachCopied (λ bio master. IsUnderOpen s bio.writer master true) scene s
  copied_open =
      each_copied_part scene s i (λ bio master. IsUnderOpen s bio.writer master true)
      (λ bio master leg lt part.
      let up = open_at scene s i bio.writer master (omega (arith, copied_times scene.setup bio master leg, lt, part (references scene.setup bio.writer master))) in
      (up.0, up.1, kind bio.writer master up.0 up.1 ∙ is_true (mark bio.writer master) (omega (arith, t.right.1, part off))))

  pub has_roles : HasRoles scene was_master s
  has_roles = record { waits = waits; bios = named_open; copied = copied_open; parents = parents; carried = carried }
