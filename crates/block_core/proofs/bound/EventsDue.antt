-- What is due of each thing in a state where no take misses: as many events as still come of it.
use Rattle.std.proofs.Common.{◌≡◌, ◌+◌, ◌*◌, ◌==◌, if◌then◌else◌, ℕ, Bool, true, false, List, [], ◌∷◌, Option, None, Some, refl, sym, ◌∙◌, ap, arith}
use Rattle.std.specs.Prelude.{sum_by}
use Rattle.std.proofs.lemmas.List.Sums.{sum_by-cons}
use Rattle.stack_base.specs.declared.ids.Status.{Status}
use Rattle.layout_model.specs.declared.fragment.Fragment.{Fragment}
use Rattle.layout_model.specs.Need.{needed, vectors}
use Rattle.bio_records.specs.declared.bio.Bio.{Bio}
use Rattle.bio_records.specs.declared.bio.Pad.{Pad}
use Rattle.bio_records.specs.declared.tasks.TaskLists.{TaskLists}
use Rattle.bio_records.specs.Items.{Item}
use Rattle.bio_books.specs.declared.node.Role.{Role}
use Rattle.bio_books.specs.declared.node.Role.TheVariants as role
use Rattle.bio_books.specs.Books.{Node, SlipItem, later_part}
use Rattle.run_machine.specs.Scene.{Setup, tree_at}
use Rattle.run_machine.specs.Submissions.{copies, legs_of}
use Rattle.run_machine.specs.Tasks.{Todo, Gathered, NoBio, HasBio, HasBoth, Carried, Empty, Brings, Carries, Fails}
use Rattle.block_core.specs.Weights.{Weight, Spot, Lined, Rescued, Pending, Brought, submission_weight, carried_weight, no_weight}
use Rattle.block_core.specs.Charges.{one_if_some}
use Rattle.block_core.specs.Fragments.{todo_fragments, legs_come, leg_fragments}
use Rattle.block_core.specs.Rooms.{need_at, leg_need, legs_need}
use Rattle.block_core.proofs.moves.Moves.{Move, IsBare, TellsNode}
use Rattle.block_core.proofs.moves.Moves as moves
use Rattle.block_core.proofs.sound.Invariant.{own_part, own_of, away}
use Rattle.block_core.proofs.moves.SubmissionWeights.{IsBlind}
use Rattle.block_core.proofs.moves.Landings.{AreThere, IsLanding, copies_there}
use Rattle.block_core.proofs.sound.SumParts.{unless}
use Rattle.block_core.proofs.unrefused.NodeNeeds.{Needs}
use Rattle.block_core.proofs.images.FragmentCounts.{Divided, fragments_worth, legs_none}
use Rattle.block_core.proofs.images.MasterRecords.{bare_slip}
use Rattle.block_core.proofs.sound.OwnParts.{brought}
use Rattle.block_core.proofs.bound.RoleHoldings.{odd_holding}

-- each fragment counts one
abbrev pub one_each : Fragment → ℕ
one_each f = 1

-- four events a node that a bio still needs, and three a fragment that it comes to
abbrev pub run_due : Setup → Bio → ℕ
run_due setup bio = 4 * need_at setup bio + 3 * fragments_worth setup one_each bio

abbrev pub bio_due : Setup → Spot → Item Pad → ℕ
bio_due setup (Lined limit) item = run_due setup item.bio
bio_due setup Rescued item = run_due setup item.bio
bio_due setup Pending item = 2
bio_due setup Brought item = 1

abbrev pub copy_due : Setup → Bio → ℕ → ℕ
copy_due setup bio leg = 4 * legs_need setup bio leg + 3 * legs_come setup one_each bio leg

abbrev pub todo_run : Setup → Todo → ℕ
todo_run setup todo = 4 * needed (tree_at setup todo.write.dev) todo.write.start todo.write.count + 3 * sum_by one_each (todo_fragments setup todo)

abbrev pub write_due : Setup → Todo → ℕ
write_due setup todo = 4 + 2 * vectors todo.write.count + todo_run setup todo

abbrev pub todos_due : Setup → List Todo → Gathered → ℕ
todos_due setup [] taken = 0
todos_due setup (todo ∷ later) NoBio = write_due setup todo + sum_by (write_due setup) later
todos_due setup (todo ∷ later) (HasBio bio) = write_due setup todo + sum_by (write_due setup) later
todos_due setup (todo ∷ later) (HasBoth bio vector) = 6 + todo_run setup todo + sum_by (write_due setup) later

-- An open node gives back its bio, or its record, and its vector, and has an end; what is left of a closed one gives what it holds. What is in hand
-- was taken already, so it counts apart.
abbrev pub due : Setup → Weight
due setup = record no_weight {
  todo = λ writer todos taken. todos_due setup todos taken;
  bio = bio_due setup;
  copy = λ bio master leg. copy_due setup bio leg;
  node = λ writer place node. 2 + one_if_some node.held.vector;
  closed = λ task writer closed. 1 + one_if_some closed.held.bio + one_if_some closed.held.vector + one_if_some closed.held.slip;
}

abbrev pub in_hand : Weight
in_hand = record no_weight {
  hand = λ bio. 1;
  vector = λ vector. 1;
  slip = λ slip. 1;
}

pub blind : IsBlind in_hand
blind limit item t = refl

-- an event that takes, or of no pool and no rescuer
abbrev pub IsHad : Move → Type 0
IsHad (moves.MissesOne place x number used) = ⊥
IsHad (moves.MissesTry place x doing lists dev used) = ⊥
IsHad (moves.Punts place x doing lists dev) = ⊥
IsHad (moves.Pops place dev bio bios) = ⊥
IsHad m = Unit {0}

-- a write's vector is what it needs
pub bare_none : (todo : Todo) → IsBare todo None → vectors todo.write.count ≡ 0
bare_none todo bare = ap (λ (b : Bool). if b then 1 else 0) bare

pub later_due : (setup : Setup) (later : List Todo) → todos_due setup later NoBio ≡ sum_by (write_due setup) later
later_due setup [] = refl
later_due setup (todo ∷ later) = sym (sum_by-cons (write_due setup) todo later)

-- what is carried tells one end
pub tells_due : (setup : Setup) (place : ℕ) (carried : Carried) (writer key : ℕ) (status : Status) (part : Option (Item Pad)) → TellsNode carried writer key status part
    → carried_weight (due setup) place carried ≡ 1
tells_due setup place (Brings bio ending) writer key status part t = refl
tells_due setup place (Carries of closed) writer key status part t = rw (t.4) refl
tells_due setup place Empty writer key status part t = absurd t
tells_due setup place (Fails breach kept) writer key status part t = absurd t

pub carried_hand : (place : ℕ) (carried : Carried) → carried_weight in_hand place carried ≡ 0
carried_hand place Empty = refl
carried_hand place (Brings bio status) = refl
carried_hand place (Carries writer closed) = refl
carried_hand place (Fails breach kept) = refl

-- a node that closes holds its bio, or its record
there_away : (bio : Option (Item Pad)) → away bio ≡ 0 → one_if_some bio ≡ 1
there_away None h = absurd (omega (arith, h))
there_away (Some bio) h = refl

there_bare : (slip : Option SlipItem) → bare_slip slip ≡ 0 → one_if_some slip ≡ 1
there_bare None h = absurd (omega (arith, h))
there_bare (Some slip) h = refl

holds_one : (r : Role) (bio : Option (Item Pad)) (slip : Option SlipItem) → own_part r bio ≡ 0 → odd_holding r bio slip ≡ 0 → one_if_some bio + one_if_some slip ≡ 1
holds_one role.Top bio slip own none = omega (arith, there_away bio own, none)
holds_one (role.Chain parent) bio slip own none = omega (arith, there_away bio own, none)
holds_one (role.Master parent) bio slip own none = omega (arith, there_bare slip (omega (arith, none)), none)
holds_one (role.Leg parent) bio slip own none = omega (arith, there_away bio own, none)

-- so does it once it was told of its last end
pub closes_one : (carried : Carried) (writer key : ℕ) (status : Status) (part : Option (Item Pad)) (node : Node) → TellsNode carried writer key status part
    → ((bio : Item Pad) (ending : Status) → carried ≡ Brings bio ending → (node.held.bio ≡ None) × (own_part node.role None ≡ 1))
    → 0 + brought carried ≡ own_of (Some node) → odd_holding node.role node.held.bio node.held.slip ≡ 0
    → one_if_some (later_part node.held.bio part) + one_if_some node.held.slip ≡ 1
closes_one (Brings bio ending) writer key status part node t none own odd_none =
    let slip = by_role node.role node.held.bio node.held.slip (none bio ending refl).1 odd_none in
    let is : one_if_some (later_part node.held.bio part) ≡ 1 = ap (λ p. one_if_some (later_part node.held.bio p)) t.3 in
    omega (arith, is, slip)
  where
    by_role : (r : Role) (held : Option (Item Pad)) (slip : Option SlipItem) → own_part r None ≡ 1 → odd_holding r held slip ≡ 0 → one_if_some slip ≡ 0
    by_role role.Top held slip own none = none
    by_role (role.Chain parent) held slip own none = none
    by_role (role.Master parent) held slip own none = absurd (omega (arith, own))
    by_role (role.Leg parent) held slip own none = none
closes_one (Carries of closed) writer key status part node t none own odd_none =
    let is : one_if_some (later_part node.held.bio part) ≡ one_if_some node.held.bio = ap (λ p. one_if_some (later_part node.held.bio p)) t.3 in
    omega (arith, is, holds_one node.role node.held.bio node.held.slip (omega (arith, own)) odd_none)
closes_one Empty writer key status part node t none own odd_none = absurd t
closes_one (Fails breach kept) writer key status part node t none own odd_none = absurd t

module _ (setup : Setup) (p : Needs setup) (v : Divided setup one_each) where
  pub lands : IsLanding setup (due setup)
  lands limit item is = omega (arith, p.lands item.bio is, v.lands item.bio is)

  pub copies_due : (limit : ℕ) (lists : TaskLists) (bio : Bio) (master leg : ℕ) → AreThere setup lists.list0 → AreThere setup lists.list1
      → submission_weight (due setup) limit (copies setup lists bio master leg)
      ≡ copy_due setup bio leg + sum_by (bio_due setup (Lined limit)) lists.list0 + sum_by (bio_due setup (Lined limit)) lists.list1
  copies_due limit lists bio master leg first second = by_test (leg == legs_of (tree_at setup bio.dev)) refl (copies_there setup (due setup) lands limit lists bio master leg first second)
    where
      by_test : {n : ℕ} (b : Bool) → (leg == legs_of (tree_at setup bio.dev)) ≡ b
          → n ≡ unless b (copy_due setup bio leg) + sum_by (bio_due setup (Lined limit)) lists.list0 + sum_by (bio_due setup (Lined limit)) lists.list1
          → n ≡ copy_due setup bio leg + sum_by (bio_due setup (Lined limit)) lists.list0 + sum_by (bio_due setup (Lined limit)) lists.list1
      by_test true is are =
          let same : leg ≡ legs_of (tree_at setup bio.dev) = search (is, arith) in
          let tree = tree_at setup bio.dev in
          let none : legs_come setup one_each bio leg ≡ 0 = ap (legs_come setup one_each bio) same ∙ legs_none (λ k. sum_by one_each (leg_fragments tree bio k)) (legs_of tree) in
          let no_need : legs_need setup bio leg ≡ 0 = ap (legs_need setup bio) same ∙ legs_none (leg_need tree bio.range) (legs_of tree) in
          omega (arith, are, none, no_need)
      by_test false is are = are
