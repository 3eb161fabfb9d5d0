-- What open nodes hold by their roles: a master its record and no bio, and any other node no record.
use Rattle.std.proofs.Common.{◌≡◌, ◌+◌, ◌==◌, ℕ, [], ◌∷◌, Option, None, Some, refl, ap, arith}
use Rattle.stack_base.specs.declared.ids.Status.{Status}
use Rattle.stack_base.specs.declared.ids.SetId.TheVariants.{Of}
use Rattle.bio_records.specs.declared.bio.Pad.{Pad}
use Rattle.bio_records.specs.Items.{Item}
use Rattle.bio_lists.specs.Submission.{submitted}
use Rattle.bio_lists.specs.Punt.{punted}
use Rattle.bio_books.specs.declared.node.Role.{Role}
use Rattle.bio_books.specs.declared.node.Role.TheVariants as role
use Rattle.bio_books.specs.Books.{Node, SlipItem, told, later_part}
use Rattle.run_machine.specs.Scene.{Scene, tree_at}
use Rattle.run_machine.specs.Submissions.{ToMaster, Drives, first_length, legs_of, leg_at}
use Rattle.run_machine.specs.Tasks.{Carried, Empty, Brings, Carries, Fails}
use Rattle.run_machine.specs.Runs.{State}
use Rattle.block_core.specs.Charges.{one_if_some}
use Rattle.block_core.specs.Roles.{named}
use Rattle.block_core.specs.Weights.{Weight, total_weight, no_weight}
use Rattle.block_core.proofs.moves.Moves.{Move, Can, after, limit_of, filled_of, cut_lists, TellsNode}
use Rattle.block_core.proofs.moves.Moves as moves
use Rattle.block_core.proofs.moves.Deltas.{delta}
use Rattle.block_core.proofs.sound.Invariant.{own_part, Invariant}
use Rattle.block_core.proofs.moves.SubmissionWeights.{IsBlind, first_weight, goes_weight}
use Rattle.block_core.proofs.sound.SumParts.{copies_weight, unless_none, is_away}
use Rattle.block_core.proofs.sound.SumParts as parts
use Rattle.block_core.proofs.images.MasterRecords.{bare_slip, zeros}

-- how much of what a node of a role holds is not as its role has it
abbrev pub odd_holding : Role → Option (Item Pad) → Option SlipItem → ℕ
odd_holding role.Top bio slip = one_if_some slip
odd_holding (role.Chain parent) bio slip = one_if_some slip
odd_holding (role.Master parent) bio slip = one_if_some bio + bare_slip slip
odd_holding (role.Leg parent) bio slip = one_if_some slip

abbrev pub odd : Weight
odd = record no_weight { node = λ writer place node. odd_holding node.role node.held.bio node.held.slip }

blind : IsBlind odd
blind limit item t = refl

-- a part that comes to a node that is no master does not matter
same_bio : (r : Role) (old new : Option (Item Pad)) (slip : Option SlipItem) → own_part r None ≡ 1 → odd_holding r new slip ≡ odd_holding r old slip
same_bio role.Top old new slip own = refl
same_bio (role.Chain parent) old new slip own = refl
same_bio (role.Master parent) old new slip own = absurd (omega (arith, own))
same_bio (role.Leg parent) old new slip own = refl

told_odd : (writer key : ℕ) (status : Status) (part : Option (Item Pad)) (carried : Carried) (node : Node) → TellsNode carried writer key status part
    → ((bio : Item Pad) (ending : Status) → carried ≡ Brings bio ending → (node.held.bio ≡ None) × (own_part node.role None ≡ 1))
    → odd_holding node.role (told node status part).held.bio node.held.slip ≡ odd_holding node.role node.held.bio node.held.slip
told_odd writer key status part (Brings bio ending) node t none = same_bio node.role node.held.bio (told node status part).held.bio node.held.slip (none bio ending refl).1
told_odd writer key status part (Carries of closed) node t none = ap (λ p. odd_holding node.role (later_part node.held.bio p) node.held.slip) t.3
told_odd writer key status part Empty node t none = absurd t
told_odd writer key status part (Fails breach kept) node t none = absurd t

module _ (scene : Scene) (s : State) (i : Invariant scene s) (none : total_weight scene odd s ≡ 0) where
  pub none_odd : (m : Move) → Can scene s m → total_weight scene odd (after scene s m) ≡ 0
  -- takes, misses, punts, pops, pushes, completions and links of writes
  none_odd (moves.TakesFirst place writer todo later move) c = omega (arith, none, delta scene odd s (moves.TakesFirst place writer todo later move) c)
  none_odd (moves.TakesVector place writer todo later item move) c = omega (arith, none, delta scene odd s (moves.TakesVector place writer todo later item move) c)
  none_odd (moves.TakesSub place x doing lists dev waits move) c = omega (arith, none, delta scene odd s (moves.TakesSub place x doing lists dev waits move) c)
  none_odd (moves.TakesSlip place x bio lists move) c = omega (arith, none, delta scene odd s (moves.TakesSlip place x bio lists move) c)
  none_odd (moves.MissesOne place x number used) c = omega (arith, none, delta scene odd s (moves.MissesOne place x number used) c)
  none_odd (moves.MissesTry place x doing lists dev used) c = omega (arith, none, delta scene odd s (moves.MissesTry place x doing lists dev used) c)
  none_odd (moves.Punts place x doing lists dev) c = omega (arith, none, delta scene odd s (moves.Punts place x doing lists dev) c, zeros (punted (Of dev) lists))
  none_odd (moves.Pops place dev bio bios) c = omega (arith, none, delta scene odd s (moves.Pops place dev bio bios) c, first_weight odd blind dev.0 scene.setup (bio ∷ []), zeros (bio ∷ []))
  none_odd (moves.Pushes place x bio lists) c =
      omega (arith, none, delta scene odd s (moves.Pushes place x bio lists) c, goes_weight odd blind (limit_of x) scene.setup bio.bio.dev lists, zeros lists.list0, zeros lists.list1)
  none_odd (moves.Completed place disk index bio status new) c = omega (arith, none, delta scene odd s (moves.Completed place disk index bio status new) c)
  none_odd (moves.Begins place writer todo later item vector key) c =
      let first = filled_of writer todo item vector key ∷ [] in
      omega (arith, none, delta scene odd s (moves.Begins place writer todo later item vector key) c, first_weight odd blind 32 scene.setup first, zeros first)
  -- links of pieces
  none_odd (moves.Chained place x bio lists hand number kind sizes members key node) c =
      let cut = cut_lists bio lists hand (first_length kind sizes bio.bio.range) key kind sizes members in
      omega (
        arith,
        none,
        delta scene odd s (moves.Chained place x bio lists hand number kind sizes members key node) c,
        goes_weight odd blind (limit_of x) scene.setup bio.bio.dev cut,
        zeros cut.list0,
        zeros cut.list1,
      )
  -- links of masters
  none_odd (moves.Mastered place x bio lists slip key node) c =
      let legs = legs_of (tree_at scene.setup bio.bio.dev) in
      let part = parts.submission_part scene (named bio.bio.writer bio.bio.node) s place x (Drives bio (ToMaster slip)) lists c.0 c.1 c.2 in
      let a = parts.named_away scene s bio node i c.4 (omega (arith, part)) in
      omega (
        arith,
        none,
        delta scene odd s (moves.Mastered place x bio lists slip key node) c,
        copies_weight odd blind (limit_of x) scene.setup lists bio.bio key 0,
        unless_none (0 == legs),
        zeros lists.list0,
        zeros lists.list1,
        same_bio node.role node.held.bio (Some bio) node.held.slip a.1,
      )
  -- links of legs
  none_odd (moves.Legged place x bio lists master leg hand key node) c =
      let legs = legs_of (tree_at scene.setup bio.dev) in
      let item = leg_at bio hand leg key (tree_at scene.setup bio.dev) in
      omega (
        arith,
        none,
        delta scene odd s (moves.Legged place x bio lists master leg hand key node) c,
        copies_weight odd blind (limit_of x) scene.setup (submitted item lists) bio master (leg + 1),
        unless_none (leg + 1 == legs),
        zeros (submitted item lists).list0,
        zeros lists.list1,
      )
  -- drops that leave a node open
  none_odd (moves.Told place disk carried writer key status part node) c =
      omega (
        arith,
        none,
        delta scene odd s (moves.Told place disk carried writer key status part node) c,
        told_odd writer key status part carried node c.2 (is_away scene s place disk carried writer key status part node i c.0 c.1 c.2 c.4),
      )
  -- drops that close a node, gives, ends of writes, resizes and rounds
  none_odd (moves.Closes place disk carried writer key status part node) c = omega (arith, none, delta scene odd s (moves.Closes place disk carried writer key status part node) c)
  none_odd (moves.Gives place disk writer number closed held) c = omega (arith, none, delta scene odd s (moves.Gives place disk writer number closed held) c)
  none_odd (moves.Ends place disk writer closed) c = omega (arith, none, delta scene odd s (moves.Ends place disk writer closed) c)
  none_odd (moves.Resized place pool min later duties) c = omega (arith, none, delta scene odd s (moves.Resized place pool min later duties) c)
  none_odd (moves.Started place round later duties) c = omega (arith, none, delta scene odd s (moves.Started place round later duties) c)
