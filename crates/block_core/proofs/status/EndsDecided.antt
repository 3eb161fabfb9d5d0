-- Behind each event what a node lacks of its end still comes.
use Rattle.std.proofs.Common.{◌≡◌, ◌+◌, ◌-◌, ◌*◌, ◌≤◌, ℕ, Bool, true, false, [], ◌∷◌, Option, None, Some, inl, inr, refl, sym, ◌∙◌, ap, subst, arith}
use Rattle.std.specs.Prelude.{sum_by}
use Rattle.std.specs.List.{range_with_len}
use Rattle.std.proofs.lemmas.List.Sums.{sum_by-cons, sum_by_push}
use Rattle.stack_base.specs.declared.ids.DevId.{DevId}
use Rattle.stack_base.specs.declared.ids.Status.{Status}
use Rattle.stack_base.specs.declared.ids.Status.TheVariants.{Ok}
use Rattle.stack_base.proofs.ListLemmas.{Each}
use Rattle.layout_model.specs.declared.fragment.Fragment.{Fragment}
use Rattle.bio_records.specs.declared.bio.Bio.{Bio}
use Rattle.bio_records.specs.declared.bio.Pad.{Pad}
use Rattle.bio_records.specs.Items.{Item}
use Rattle.bio_lists.specs.Submission.{submitted}
use Rattle.bio_split.specs.Split.{split_rest}
use Rattle.bio_books.specs.Books.{Node, BookState, node_at, top_node, child_node, master_node, leg_node, with_kept_part, raised, lowered, told, parent_of}
use Rattle.bio_books.specs.Links.{IsVacant}
use Rattle.bio_books.specs.Drops.{Closed, closed_of}
use Rattle.run_machine.specs.Scene.{Setup, Scene, tree_at}
use Rattle.run_machine.specs.Submissions.{Links, ToPush, ToCut, ToMaster, Drives, Copies, rests, first_length, landed, legs_of, leg_at}
use Rattle.run_machine.specs.Tasks.{Writer, HasBio, HasBoth, Carried}
use Rattle.run_machine.specs.Runs.{State}
use Rattle.block_core.specs.Weights.{Weight, Lined, total_weight, one_if_same, names_node, under}
use Rattle.block_core.proofs.status.Marks.{is, bio_may, leg_may, todo_may, Mark, decides, lack, deciding, IsMarked}
use Rattle.block_core.proofs.moves.Moves.{Move, Can, after, lost, gained, limit_of, filled_of, vector_of, cut_lists, piece}
use Rattle.block_core.proofs.moves.Moves as moves
use Rattle.block_core.proofs.moves.Sums.{one-same, within_book}
use Rattle.block_core.proofs.sound.Invariant.{TaskIsSound, Invariant}
use Rattle.block_core.proofs.sound.TaskSubmissions.{submission_fits}
use Rattle.block_core.proofs.moves.Deltas.{vacant_at, delta}
use Rattle.block_core.proofs.moves.BookMaps.{made, chained}
use Rattle.block_core.proofs.sound.SumParts.{cut_weight}
use Rattle.block_core.proofs.moves.SubmissionWeights.{landed_same}
use Rattle.block_core.proofs.sound.Orders.{IsOwn, TaskPlaced, Placed, DeviceGeometry}
use Rattle.block_core.proofs.sound.OrdersKept.{placed_at}
use Rattle.block_core.proofs.moves.Misfits.{misfits, cut_fits}
use Rattle.block_core.proofs.images.StillToCome.{over}
use Rattle.block_core.proofs.images.FragmentCounts.{legs_next}
use Rattle.block_core.proofs.moves.Landings.{IsLanding, settled_there, goes_there, copies_there, all_there, none_there, cut_there, leg_there}
use Rattle.block_core.proofs.moves.VacantMarks.{with_mark, mark_here, mark_other, none_moves}
use Rattle.block_core.proofs.status.RunEndings.{EndingsByParts, mirror_may}
use Rattle.block_core.proofs.status.NodeValues.{well_is, told_lacks, parts_decide, deciding_unmoved}
use Rattle.block_core.proofs.status.AtOneNode.{at_key, times_both, times_in, with_nothing, not_here, here_or, place_same, place_other, left_none, leg_named_by, times_less}
use Rattle.block_core.proofs.status.MarksBehind.{new_mark, marks_by}
use Rattle.block_core.proofs.status.ToldEnds.{HasEnding, by_role, told_weight, closes}

module _ (scene : Scene) (ends : Fragment → Status) (written : ℕ → Status → ℕ) (v : EndingsByParts scene.setup ends) where
  abbrev setup : Setup
  setup = scene.setup

  abbrev to_decide : (ℕ → ℕ → Mark) → ℕ → ℕ → Weight
  to_decide mark w k = deciding setup ends mark (mark w k).master w k

  landing_decides : (mark : ℕ → ℕ → Mark) (master : Bool) (w k : ℕ) → IsLanding setup (deciding setup ends mark master w k)
  landing_decides mark master w k limit item there =
      let at : Bio = landed (tree_at setup item.bio.dev) item.bio in
      ap (λ n. n * decides master (bio_may setup ends at Ok)) (landed_same (λ (bio : Bio). one_if_same bio.writer w * one_if_same bio.node k) (λ to members bio. refl) (tree_at setup item.bio.dev) item.bio)
      ∙ ap (λ n. names_node w k item * decides master n) (v.lands item.bio Ok there)

  module _ (s : State) (g : DeviceGeometry setup) (i : Invariant scene s) (a : Placed setup s) (counted : total_weight scene (misfits over) s ≡ 0) (endings : (place : ℕ) → HasEnding ends (s.task place))
      (mark : ℕ → ℕ → Mark) (h : IsMarked scene ends written mark s) where
    -- what a node lacks still comes
    same_decided : (m : Move) → Can scene s m → (after scene s m).objects.book ≡ s.objects.book → (w k : ℕ)
        → lost scene (to_decide mark w k) s m ≤ gained scene (to_decide mark w k) s m
        → lack (mark w k) (node_at ((after scene s m).objects.book w) k) ≤ total_weight scene (to_decide mark w k) (after scene s m)
    same_decided m c books w k le =
        omega (
          arith,
          h.decided w k,
          delta scene (to_decide mark w k) s m c,
          le,
          ap (λ (book : ℕ → BookState). lack (mark w k) (node_at (book w) k)) books,
        )

    -- with a mark at a vacant place too
    still_decided : (writer key : ℕ) (new : Mark) → IsVacant (s.objects.book writer) key → (w k : ℕ)
        → let marks = with_mark mark writer key new in lack (marks w k) (node_at (s.objects.book w) k) ≤ total_weight scene (to_decide marks w k) s
    still_decided writer key new vacant w k = elim (here_or writer w key k) [
      | inl same ↦
          let none : node_at (s.objects.book w) k ≡ None =
          ap (λ x. node_at (s.objects.book x) k) same.0 ∙ ap (node_at (s.objects.book writer)) same.1 ∙ (vacant_at (s.objects.book writer) key vacant).0 in
          omega (arith, ap (lack (with_mark mark writer key new w k)) none)
      | inr other ↦
          let marks = with_mark mark writer key new in
          let P : Mark → Type 0 = λ m. lack m (node_at (s.objects.book w) k) ≤ total_weight scene (deciding setup ends marks m.master w k) s in
          subst P (sym (mark_other mark writer key new w k other))
          (omega (
            arith,
            h.decided w k,
            none_moves scene s i writer key vacant (deciding setup ends mark (mark w k).master w k) (deciding setup ends marks (mark w k).master w k)
                (deciding_unmoved setup ends written mark writer key new (mark w k).master w k),
          ))
    ]

    -- a new node lacks what comes to it
    new_lacks : (writer key : ℕ) (new : Mark) (node : Node) (comes : Bool → ℕ) → lack new (Some node) ≤ comes new.master → (w k : ℕ)
        → let marks = with_mark mark writer key new in
        one_if_same writer w * (one_if_same key k * lack (marks w k) (Some node)) ≤ one_if_same writer w * one_if_same key k * comes (marks w k).master
    new_lacks writer key new node comes le w k =
        let marks = with_mark mark writer key new in
        let here : (writer ≡ w) → (key ≡ k) → lack (marks w k) (Some node) ≤ comes (marks w k).master =
        λ e f.
        let P : Mark → Type 0 = λ m. lack m (Some node) ≤ comes m.master in
        subst P (sym (mark_here mark writer key new) ∙ ap (marks writer) f ∙ ap (λ x. marks x k) e) le in
        omega (arith, times_in (one_if_same writer w) (one_if_same key k) (lack (marks w k) (Some node)), at_key writer w key k (lack (marks w k) (Some node)) (comes (marks w k).master) here)

    more_decided : (m : Move) → Can scene s m → (writer key : ℕ) (new : Mark) (node : Node) → IsVacant (s.objects.book writer) key → (w k : ℕ)
        → let marks = with_mark mark writer key new in
        lack (marks w k) (node_at ((after scene s m).objects.book w) k) ≡ lack (marks w k) (node_at (s.objects.book w) k) + one_if_same writer w * (one_if_same key k * lack (marks w k) (Some node))
        → one_if_same writer w * (one_if_same key k * lack (marks w k) (Some node)) + lost scene (to_decide marks w k) s m ≤ gained scene (to_decide marks w k) s m
        → lack (marks w k) (node_at ((after scene s m).objects.book w) k) ≤ total_weight scene (to_decide marks w k) (after scene s m)
    more_decided m c writer key new node vacant w k books le =
        omega (arith, still_decided writer key new vacant w k, delta scene (to_decide (with_mark mark writer key new) w k) s m c, books, le)

    told_here : (place : ℕ) (disk : DevId) (carried : Carried) (writer key : ℕ) (status : Status) (part : Option (Item Pad)) (node : Node)
        → (c : Can scene s (moves.Told place disk carried writer key status part node))
        → lack (mark writer key) (node_at ((after scene s (moves.Told place disk carried writer key status part node)).objects.book writer) key)
        ≤ total_weight scene (to_decide mark writer key) (after scene s (moves.Told place disk carried writer key status part node))
    told_here place disk carried writer key status part node c =
        let m = moves.Told place disk carried writer key status part node in
        let w = to_decide mark writer key in
        let master : Bool = (mark writer key).master in
        let one_end : one_if_same writer writer * one_if_same key key * decides master (is Ok status) ≡ decides master (is Ok status) = rw (one-same writer, one-same key) (omega arith) in
        let lacks : lack (mark writer key) (Some node) ≤ total_weight scene w s = subst (λ found. lack (mark writer key) found ≤ total_weight scene w s) c.4 (h.decided writer key) in
        let comes = told_lacks (mark writer key) (h.fair writer key) node.role (by_role scene ends written s i endings mark h writer key node c.4) node.status status (total_weight scene w (after scene s m))
        (omega (arith, lacks, delta scene w s m c, told_weight scene ends written s i endings mark h master writer key place disk carried writer key status part c.0 c.1 c.2, one_end)) in
        omega (arith, comes, ap (lack (mark writer key)) (place_same s.objects.book writer key (Some (lowered (told node status part))) (within_book (s.objects.book writer) key node c.4)))

    pub decided_after : (m : Move) → Can scene s m → (w k : ℕ)
        → lack (marks_by setup ends mark m w k) (node_at ((after scene s m).objects.book w) k) ≤ total_weight scene (to_decide (marks_by setup ends mark m) w k) (after scene s m)
    -- takes, misses and punts
    decided_after (moves.TakesFirst place writer todo later move) c w k = same_decided (moves.TakesFirst place writer todo later move) c refl w k (omega arith)
    decided_after (moves.TakesVector place writer todo later item move) c w k = same_decided (moves.TakesVector place writer todo later item move) c refl w k (omega arith)
    decided_after (moves.TakesSub place x doing lists dev waits move) c w k = same_decided (moves.TakesSub place x doing lists dev waits move) c refl w k (omega arith)
    decided_after (moves.TakesSlip place x bio lists move) c w k = same_decided (moves.TakesSlip place x bio lists move) c refl w k (omega arith)
    decided_after (moves.MissesOne place x number used) c w k = same_decided (moves.MissesOne place x number used) c refl w k (omega arith)
    decided_after (moves.MissesTry place x doing lists dev used) c w k = same_decided (moves.MissesTry place x doing lists dev used) c refl w k (omega arith)
    decided_after (moves.Punts place x doing lists dev) c w k = same_decided (moves.Punts place x doing lists dev) c refl w k (omega arith)
    -- pops
    decided_after (moves.Pops place dev bio bios) c w k =
        let r : Each (IsOwn setup dev.0 dev.0) (bio ∷ bios) = subst (Each (IsOwn setup dev.0 dev.0)) c.3 (a.rescued dev.0) in
        same_decided (moves.Pops place dev bio bios) c refl w k
        (omega (
          arith,
          settled_there setup (to_decide mark w k) (landing_decides mark (mark w k).master w k) dev.0 (bio ∷ []) (r.0.0.0, tt),
          sum_by-cons ((to_decide mark w k).bio (Lined dev.0)) bio [],
        ))
    -- pushes
    decided_after (moves.Pushes place x bio lists) c w k =
        let d = placed_at setup s a place x (Drives bio ToPush) lists c.1 c.2 in
        same_decided (moves.Pushes place x bio lists) c refl w k
        (omega (
          arith,
          goes_there setup (to_decide mark w k) (landing_decides mark (mark w k).master w k) (limit_of x) bio.bio.dev lists (none_there setup (limit_of x) lists d.0)
              (all_there setup (limit_of x) lists.list1 d.1.1),
        ))
    -- completions
    decided_after (moves.Completed place disk index bio status new) c w k = same_decided (moves.Completed place disk index bio status new) c refl w k (omega arith)
    -- links of writes
    decided_after (moves.Begins place writer todo later item None key) c w k =
        let t : TaskPlaced setup (Writer writer (todo ∷ later) (HasBio item) rests) = subst (TaskPlaced setup) c.1 (a.tasks place) in
        let new = new_mark false (todo_may setup ends todo) in
        let marks = with_mark mark writer key new in
        let filled : Item Pad = filled_of writer todo item None key in
        let top = top_node todo.number None in
        more_decided (moves.Begins place writer todo later item None key) c writer key new top c.3 w k
        (made (lack (marks w k)) refl s.objects.book writer key top w k (lack (marks w k) (Some top)) c.3 refl)
        (omega (
          arith,
          settled_there setup (to_decide marks w k) (landing_decides marks (marks w k).master w k) 32 (filled ∷ []) (t.0.0 key, tt),
          sum_by-cons ((to_decide marks w k).bio (Lined 32)) filled [],
          new_lacks writer key new top (λ m. decides m (todo_may setup ends todo Ok)) (omega arith) w k,
        ))
    decided_after (moves.Begins place writer todo later item (Some vector) key) c w k =
        let t : TaskPlaced setup (Writer writer (todo ∷ later) (HasBoth item vector) rests) = subst (TaskPlaced setup) c.1 (a.tasks place) in
        let new = new_mark false (todo_may setup ends todo) in
        let marks = with_mark mark writer key new in
        let filled : Item Pad = filled_of writer todo item (Some vector) key in
        let top = top_node todo.number (vector_of todo (Some vector)) in
        more_decided (moves.Begins place writer todo later item (Some vector) key) c writer key new top c.3 w k
        (made (lack (marks w k)) refl s.objects.book writer key top w k (lack (marks w k) (Some top)) c.3 refl)
        (omega (
          arith,
          settled_there setup (to_decide marks w k) (landing_decides marks (marks w k).master w k) 32 (filled ∷ []) (t.0.0 key, tt),
          sum_by-cons ((to_decide marks w k).bio (Lined 32)) filled [],
          new_lacks writer key new top (λ m. decides m (todo_may setup ends todo Ok)) (omega arith) w k,
        ))
    -- links of pieces
    decided_after (moves.Chained place x bio lists hand number kind sizes members key node) c w k =
        let n = first_length kind sizes bio.bio.range in
        let child = piece bio hand n key kind sizes members in
        let rest = split_rest bio n in
        let new = new_mark false (bio_may setup ends child.bio) in
        let marks = with_mark mark bio.bio.writer key new in
        let master : Bool = (marks w k).master in
        let made_node = child_node node.write bio.bio.node in
        let d = placed_at setup s a place x (Drives bio (ToCut (Links hand))) lists c.1 c.2 in
        let there = cut_there setup (limit_of x) g bio hand lists key number kind sizes members d c.3 in
        let fits : over bio.bio ≡ 0 = cut_fits over scene s counted place x bio hand lists c.0 c.1 c.2 in
        let parts = v.cut bio hand key number kind sizes members d.1.0.0 (omega (arith, fits)) c.3 there.0 in
        let refers : ℕ = one_if_same bio.bio.writer w * one_if_same bio.bio.node k in
        more_decided (moves.Chained place x bio lists hand number kind sizes members key node) c bio.bio.writer key new made_node c.6 w k
        (omega (
          arith,
          chained (lack (marks w k)) refl s.objects.book bio.bio.writer key bio.bio.node node made_node (raised node) w k (lack (marks w k) (Some made_node)) 0 0 c.6 c.5 refl refl,
          with_nothing (one_if_same bio.bio.writer w) (one_if_same key k * lack (marks w k) (Some made_node)) (one_if_same bio.bio.node k),
        ))
        (omega (
          arith,
          goes_there setup (to_decide marks w k) (landing_decides marks master w k) (limit_of x) bio.bio.dev (cut_lists bio lists hand n key kind sizes members) there.1
              (all_there setup (limit_of x) lists.list1 d.1.1),
          cut_weight ((to_decide marks w k).bio (Lined (limit_of x))) bio lists hand n key kind sizes members,
          new_lacks bio.bio.writer key new made_node (λ m. decides m (bio_may setup ends child.bio Ok)) (omega arith) w k,
          ap (λ (m : Mark). refers * decides master (m.ends Ok)) (mark_here mark bio.bio.writer key new),
          times_less refers (decides master (bio_may setup ends bio.bio Ok)) (decides master (bio_may setup ends child.bio Ok) + decides master (bio_may setup ends rest.bio Ok))
              (parts_decide master (bio_may setup ends bio.bio) (bio_may setup ends child.bio) (bio_may setup ends rest.bio) parts.unwell parts.well),
          times_both (one_if_same bio.bio.writer w) (one_if_same bio.bio.node k) (decides master (bio_may setup ends child.bio Ok)) (decides master (bio_may setup ends rest.bio Ok)),
        ))
    -- links of masters
    decided_after (moves.Mastered place x bio lists slip key node) c w k =
        let t = tree_at setup bio.bio.dev in
        let legs = legs_of t in
        let new = new_mark true (bio_may setup ends bio.bio) in
        let marks = with_mark mark bio.bio.writer key new in
        let master : Bool = (marks w k).master in
        let made_node = master_node node.write bio.bio.node slip legs in
        let d = placed_at setup s a place x (Drives bio (ToMaster slip)) lists c.1 c.2 in
        let mirror = mirror_may ends t bio.bio bio.bio.range bio.bio.dev.0 slip d.3 in
        let comes : Bool → ℕ = λ m. sum_by (λ j. decides m (leg_may ends t bio.bio j Ok)) (range_with_len 0 (legs - 0)) in
        let some = mirror.some in
        more_decided (moves.Mastered place x bio lists slip key node) c bio.bio.writer key new made_node c.5 w k
        (omega (
          arith,
          chained (lack (marks w k)) refl s.objects.book bio.bio.writer key bio.bio.node node made_node (with_kept_part bio node) w k (lack (marks w k) (Some made_node)) 0 0 c.5 c.4 refl refl,
          with_nothing (one_if_same bio.bio.writer w) (one_if_same key k * lack (marks w k) (Some made_node)) (one_if_same bio.bio.node k),
        ))
        (omega (
          arith,
          copies_there setup (to_decide marks w k) (landing_decides marks master w k) (limit_of x) lists bio.bio key 0 (none_there setup (limit_of x) lists d.0) (all_there setup (limit_of x) lists.list1 d.1.1),
          left_none (one_if_same bio.bio.writer w * one_if_same key k) 0 legs (λ j. decides master (leg_may ends t bio.bio j Ok)),
          new_lacks bio.bio.writer key new made_node comes (omega (arith, some)) w k,
          ap (λ (m : Mark). one_if_same bio.bio.writer w * one_if_same bio.bio.node k * decides master (m.ends Ok)) (mark_here mark bio.bio.writer key new),
        ))
    -- links of legs
    decided_after (moves.Legged place x bio lists master leg hand key node) c w k =
        let t = tree_at setup bio.dev in
        let legs = legs_of t in
        let item = leg_at bio hand leg key t in
        let new = new_mark false (bio_may setup ends item.bio) in
        let marks = with_mark mark bio.writer key new in
        let m : Bool = (marks w k).master in
        let made_node = leg_node node.write master in
        let d = placed_at setup s a place x (Copies bio master leg (Links hand)) lists c.1 c.2 in
        let lt = submission_fits scene x (Copies bio master leg (Links hand)) lists (subst (TaskIsSound scene) c.1 (i.tasks place)) c.2 in
        let f : ℕ → ℕ = λ j. decides m (leg_may ends t bio j Ok) in
        let refers : ℕ = one_if_same bio.writer w * one_if_same master k in
        more_decided (moves.Legged place x bio lists master leg hand key node) c bio.writer key new made_node c.5 w k
        (made (lack (marks w k)) refl s.objects.book bio.writer key made_node w k (lack (marks w k) (Some made_node)) c.5 refl)
        (omega (
          arith,
          copies_there setup (to_decide marks w k) (landing_decides marks m w k) (limit_of x) (submitted item lists) bio master (leg + 1)
              (leg_there setup (limit_of x) g bio hand lists master leg key d lt) (all_there setup (limit_of x) lists.list1 d.3),
          left_none refers (leg + 1) legs f,
          ap (λ n. refers * n) (legs_next f legs leg lt),
          times_both (one_if_same bio.writer w) (one_if_same master k) (f leg) (sum_by f (range_with_len (leg + 1) (legs - (leg + 1)))),
          sum_by_push ((to_decide marks w k).bio (Lined (limit_of x))) lists.list0 item,
          leg_named_by (λ x y. one_if_same x w * one_if_same y k * decides m (bio_may setup ends item.bio Ok)) bio hand leg key t lt,
          new_lacks bio.writer key new made_node (λ m. decides m (bio_may setup ends item.bio Ok)) (omega arith) w k,
          ap (λ (x : Mark). refers * decides m (x.ends Ok)) (mark_here mark bio.writer key new),
          ap (λ n. refers * decides m n) (v.leg bio hand leg key Ok d.0 lt),
        ))
    -- drops that leave a node open
    decided_after (moves.Told place disk carried writer key status part node) c w k =
        let m = moves.Told place disk carried writer key status part node in
        let new = lowered (told node status part) in
        let lt = within_book (s.objects.book writer) key node c.4 in
        elim (here_or writer w key k) [
          | inr other ↦
              let teller = told_weight scene ends written s i endings mark h (mark w k).master w k place disk carried writer key status part c.0 c.1 c.2 in
              let none : one_if_same writer w * one_if_same key k * decides (mark w k).master (is Ok status) ≡ 0 = ap (λ n. n * decides (mark w k).master (is Ok status)) (not_here writer w key k other) ∙ omega arith in
              omega (
                arith,
                h.decided w k,
                delta scene (to_decide mark w k) s m c,
                teller,
                none,
                ap (lack (mark w k)) (place_other s.objects.book writer key (Some new) w k other),
              )
          | inl same ↦
              let P : ℕ → ℕ → Type 0 = λ w k. lack (mark w k) (node_at ((after scene s m).objects.book w) k) ≤ total_weight scene (to_decide mark w k) (after scene s m) in
              subst (λ x. P x k) (sym same.0) (subst (P writer) (sym same.1) (told_here place disk carried writer key status part node c))
        ]
    -- drops that close a node
    decided_after (moves.Closes place disk carried writer key status part node) c w k =
        let m = moves.Closes place disk carried writer key status part node in
        let closed : Closed = closed_of (told node status part) in
        elim (here_or writer w key k) [
          | inr other ↦
              let teller = told_weight scene ends written s i endings mark h (mark w k).master w k place disk carried writer key status part c.0 c.1 c.2 in
              let none : one_if_same writer w * one_if_same key k * decides (mark w k).master (is Ok status) ≡ 0 = ap (λ n. n * decides (mark w k).master (is Ok status)) (not_here writer w key k other) ∙ omega arith in
              let well = well_is (mark writer key) (h.fair writer key) closed.status (closes scene ends written s i endings mark h place disk carried writer key status part node c) in
              omega (
                arith,
                h.decided w k,
                delta scene (to_decide mark w k) s m c,
                teller,
                none,
                ap (λ n. under w k writer (parent_of node.role) * decides (mark w k).master n) well,
                ap (lack (mark w k)) (place_other s.objects.book writer key None w k other),
              )
          | inl same ↦
              let P : ℕ → ℕ → Type 0 = λ w k. lack (mark w k) (node_at ((after scene s m).objects.book w) k) ≤ total_weight scene (to_decide mark w k) (after scene s m) in
              let gone = place_same s.objects.book writer key None (within_book (s.objects.book writer) key node c.4) in
              subst (λ x. P x k) (sym same.0) (subst (P writer) (sym same.1) (omega (arith, ap (lack (mark writer key)) gone)))
        ]
    -- gives, ends of writes, resizes and rounds
    decided_after (moves.Gives place disk writer number closed held) c w k = same_decided (moves.Gives place disk writer number closed held) c refl w k (omega arith)
    decided_after (moves.Ends place disk writer closed) c w k =
        same_decided (moves.Ends place disk writer closed) c refl w k (omega (arith, ap (λ p. under w k writer p * decides (mark w k).master (is Ok closed.status)) c.3))
    decided_after (moves.Resized place pool min later duties) c w k = same_decided (moves.Resized place pool min later duties) c refl w k (omega arith)
    decided_after (moves.Started place round later duties) c w k = same_decided (moves.Started place round later duties) c refl w k (omega arith)
