use Rattle.std.proofs.Common.{◌≡◌, ◌+◌, ◌≤◌, ◌∷◌, ◌++◌, [], ℕ, List, Some, length, not, set, subst, sym, ap, ◌∙◌, arith}
use Rattle.std.specs.Prelude.{All, slice_get}
use Rattle.std.specs.Option.{option_map}
use Rattle.std.proofs.lemmas.List.{length_push}
use Rattle.std.proofs.lemmas.List.Elements.{All-push}
use Rattle.stack_base.specs.declared.ids.DevId.{DevId}
use Rattle.stack_base.specs.declared.ids.Range.{Range}
use Rattle.layout_model.specs.declared.write.Write.{Write}
use Rattle.layout_model.specs.Bound.{IsBound}
use Rattle.layout_model.specs.Writes.{AreWritesOf}
use Rattle.layout_model.proofs.WriteSizes.{fragments_le_elements}
use Rattle.decl_text.specs.Checks.{is_empty_list}
use Rattle.decl_text.specs.Known.{Written, present}
use Rattle.work_text.specs.Work.{as_written}
use Rattle.work_text.specs.Draft.{CanFollow, known_so_far, known_with}
use Rattle.work_text.specs.Marks.{AreMarks}
use Rattle.work_text.specs.declared.Work.{Work}
use Rattle.work_text.proofs.OverlapLemmas.{marks_more, row_read}
use Rattle.work_text.proofs.DraftLemmas.{bound_more, found_nowhere, present_more, served_more, some_there}
use Rattle.work_text.proofs.draft.Draft.add_write.Goals as goal
use Rattle.work_text.proofs.draft.Draft.add_write.Goals.{After-index_mut-marks}

pub returns-in_default-clause-added : goal.returns-in_default-clause-added
returns-in_default-clause-added c =
    found_nowhere (known_so_far c.args.stack.now c.args.self.now) c.args.name.now c.args.task c.args.range.start c.args.range.len c.args.tag
    (sym c.device_of.ensures ∙ ap (option_map (λ (dev : DevId). dev.0)) c.in_default.is)

pub returns-in-Err-clause-added : goal.returns-in-Err-clause-added
returns-in-Err-clause-added c =
    c.in-Err.ensures c.args.name.now (sym c.device_of.ensures ∙ ap (option_map (λ (dev : DevId). dev.0)) c.in-Some.is)

-- the write that is told of
abbrev write_to : ℕ → Range → ℕ → DevId → Write
write_to task range tag dev = record { task = task; dev = dev; start = range.start; count = range.len; tag = tag }

-- the marks of its device
found : (c : After-index_mut-marks) → slice_get c.args.self.now.marks.items c.in-Some.dev.0 ≡ Some c.index_mut-marks.result.now
found c =
    row_read c.args.stack.now (c.args.self.now.syncs + 1) (present (known_so_far c.args.stack.now c.args.self.now)) c.args.self.now.marks.items c.in-Some.dev.0 c.index_mut-marks.result.now
    c.requires.draft.marks c.in-Ok.ensures.1.served.known c.index_mut-marks.ensures.value

pub set-requires : goal.set-requires
set-requires c =
    let follow : CanFollow c.args.stack.now c.args.self.now (write_to c.args.task c.args.range c.args.tag c.in-Some.dev) c.in-Ok.needs = c.in-Ok.ensures.1 in
    omega (arith, (c.requires.draft.marks.each c.in-Some.dev.0 c.index_mut-marks.result.now (found c)).long follow.top, follow.served.within)

pub overflow_add-self-3 : goal.overflow_add-self-3
overflow_add-self-3 c =
    let write = write_to c.args.task c.args.range c.args.tag c.in-Some.dev in
    let follow : CanFollow c.args.stack.now c.args.self.now write c.in-Ok.needs = c.in-Ok.ensures.1 in
    omega (
      arith,
      c.requires.draft.bound.fewer,
      follow.allowed,
      follow.needed.elements,
      follow.needed.fragments,
      fragments_le_elements c.args.stack.now c.requires.stack write follow.served,
    )

pub returns-clause-draft : goal.returns-clause-draft
returns-clause-draft c =
    let stack = c.args.stack.now in
    let old = c.args.self.now in
    let before = old.work.writes.items in
    let needs = c.in-Ok.needs in
    let write = write_to c.args.task c.args.range c.args.tag c.in-Some.dev in
    let follow : CanFollow stack old write needs = c.in-Ok.ensures.1 in
    let grown : before ++ write ∷ [] ≡ c.keep.new.writes.items = sym c.in_ok-keep.ensures.writes in
    let rounds : old.work.rounds.items ++ old.syncs ∷ [] ≡ c.keep.new.rounds.items = sym c.in_ok-keep.ensures.rounds in
    let work : Work = record { writes = c.keep.new.writes; rounds = c.keep.new.rounds; resizes = old.work.resizes; bound = old.work.bound } in
    let now : present (known_with stack work old.syncs) ≡ present (known_so_far stack old) ++ as_written write ∷ [] =
    present_more stack old.work old.syncs work write c.requires.draft.paired c.in_ok-keep.ensures.writes c.in_ok-keep.ensures.rounds in
    let here = (goal.at.returns-clause-draft c).After-index_mut-marks in
    record {
      bound = subst
          (λ (ws : List Write). IsBound stack ws old.work.bound.z (record { e = old.work.bound.e + needs.elements; g = old.work.bound.g + needs.fragments; z = old.work.bound.z }))
          grown
          (bound_more stack c.requires.stack before old.work.bound.z old.work.bound write needs c.requires.draft.bound follow.needed follow.served follow.allowed);
      served = subst (AreWritesOf stack) grown (served_more stack before write c.requires.draft.served follow.served);
      paired = omega (
        arith,
        c.requires.draft.paired,
        ap length c.in_ok-keep.ensures.writes,
        ap length c.in_ok-keep.ensures.rounds,
        length_push before write,
        length_push old.work.rounds.items old.syncs,
      );
      past = subst (All (λ (round : ℕ). round ≤ old.syncs)) rounds (All-push (λ (round : ℕ). round ≤ old.syncs) old.work.rounds.items old.syncs c.requires.draft.past (omega arith));
      few_syncs = c.requires.draft.few_syncs;
      few_resizes = c.requires.draft.few_resizes;
      pools = c.requires.draft.pools;
      written = sym (ap (λ (ws : List Written). not (is_empty_list ws)) now ∙ some_there (present (known_so_far stack old)) (as_written write));
      marks = subst (λ (ws : List Written). AreMarks stack (old.syncs + 1) ws (set old.marks.items write.dev.0 c.set.new.self)) (sym now)
          (marks_more stack (old.syncs + 1) (present (known_so_far stack old)) old.marks.items (as_written write) c.index_mut-marks.result.now c.set.new.self c.requires.draft.marks (found here) c.set.ensures.long c.set.ensures.marked);
    }
