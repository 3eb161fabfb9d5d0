use Rattle.std.proofs.Common.{◌≡◌, ◌+◌, ◌≤◌, ◌==◌, Bool, get_or, length, sym, ◌∙◌, arith}
use Rattle.std.proofs.lemmas.Bool.{lt-ltb, le-ltb, ltb-false}
use Rattle.std.specs.List.{list_any, range_with_len}
use Rattle.stack_base.specs.Tree.{size, tree}
use Rattle.layout_model.specs.Bound.{most_elements, all_elements}
use Rattle.layout_model.specs.NeedCounts.{elements}
use Rattle.decl_text.specs.Checks.{shares}
use Rattle.decl_text.specs.Known.{present}
use Rattle.work_text.specs.Draft.{known_so_far}
use Rattle.work_text.specs.Marks.{IsRow}
use Rattle.work_text.proofs.OverlapLemmas.{row_read, row_shares}
use Rattle.work_text.proofs.DraftLemmas.{counts, found_with, row_long, row_member, row_much, row_none, row_past, row_shared}
use Rattle.work_text.proofs.draft.Draft.check.Goals as goal
use Rattle.work_text.proofs.draft.Draft.check.Goals.{After-index-marks}

-- it is within its device
within : (c : After-index-marks) → c.args.write.now.start + c.args.write.now.count ≤ size (tree c.args.stack.now c.args.write.now.dev.0)
within c = ltb-false (size (tree c.args.stack.now c.args.write.now.dev.0)) (c.args.write.now.start + c.args.write.now.count) (sym c.ends_past.ensures ∙ c.if-ends_past.false)

-- the marks of its device
row : (c : After-index-marks) → IsRow c.args.stack.now (c.args.self.now.syncs + 1) (present (known_so_far c.args.stack.now c.args.self.now)) c.args.write.now.dev.0 c.index-marks.result.now
row c =
    let marks = c.requires.draft.marks in
    marks.each c.args.write.now.dev.0 c.index-marks.result.now
    (row_read c.args.stack.now (c.args.self.now.syncs + 1) (present (known_so_far c.args.stack.now c.args.self.now)) c.args.self.now.marks.items c.args.write.now.dev.0 c.index-marks.result.now marks c.requires.known c.index-marks.ensures)

long : (c : After-index-marks) → c.args.write.now.start + c.args.write.now.count ≤ length c.index-marks.result.now
long c = omega (arith, within c, (row c).long (sym c.is_member.ensures ∙ c.if-is_member.false))

pub any-requires : goal.any-requires
any-requires c = long c

-- they tell whether an earlier write has one of its sectors
shared : (c : After-index-marks) (result : Bool) → result ≡ list_any (λ at. get_or c.index-marks.result.now at 0 == c.args.self.now.syncs + 1) (range_with_len c.args.write.now.start c.args.write.now.count)
    → list_any (shares c.args.write.now.dev.0 c.args.write.now.start c.args.write.now.count) (present (known_so_far c.args.stack.now c.args.self.now)) ≡ result
shared c result is =
    sym (is
    ∙ row_shares c.args.stack.now (c.args.self.now.syncs + 1) (present (known_so_far c.args.stack.now c.args.self.now)) c.args.write.now.dev.0 c.index-marks.result.now c.args.write.now.start c.args.write.now.count
    (row c) (long c) c.requires.some (counts c.args.stack.now c.args.self.now.work c.args.self.now.syncs c.requires.draft.served))

pub returns-then-is_member : goal.returns-then-is_member
returns-then-is_member c =
    λ name named.
    found_with c.args.stack.now c.requires.stack c.args.self.now.work c.args.self.now.syncs c.requires.draft.served c.args.write.now c.requires.known name named
    ∙ row_member _ _ _ _ _ (sym c.is_member.ensures ∙ c.if-is_member.true)

pub returns-then-ends_past : goal.returns-then-ends_past
returns-then-ends_past c =
    λ name named.
    found_with c.args.stack.now c.requires.stack c.args.self.now.work c.args.self.now.syncs c.requires.draft.served c.args.write.now c.requires.known name named
    ∙ row_past _ _ _ _ _ (sym c.is_member.ensures ∙ c.if-is_member.false) (sym c.ends_past.ensures ∙ c.if-ends_past.true)

pub returns-then-any : goal.returns-then-any
returns-then-any c =
    λ name named.
    found_with c.args.stack.now c.requires.stack c.args.self.now.work c.args.self.now.syncs c.requires.draft.served c.args.write.now c.requires.known name named
    ∙ row_shared _ _ _ _ _ (sym c.is_member.ensures ∙ c.if-is_member.false) (sym c.ends_past.ensures ∙ c.if-ends_past.false) (shared (goal.at.returns-then-any c).After-index-marks c.any.result c.any.ensures ∙ c.if-any.true)

pub returns-then-write-gt-MOST_SECTORS : goal.returns-then-write-gt-MOST_SECTORS
returns-then-write-gt-MOST_SECTORS c =
    λ name named.
    found_with c.args.stack.now c.requires.stack c.args.self.now.work c.args.self.now.syncs c.requires.draft.served c.args.write.now c.requires.known name named
    ∙ row_long _ _ _ _ _ (sym c.is_member.ensures ∙ c.if-is_member.false) (sym c.ends_past.ensures ∙ c.if-ends_past.false) (shared (goal.at.returns-then-write-gt-MOST_SECTORS c).After-index-marks c.any.result c.any.ensures ∙ c.if-any.false)
    (lt-ltb 2048 c.args.write.now.count c.if-write-gt-MOST_SECTORS.true)

pub returns-then-needs-self : goal.returns-then-needs-self
returns-then-needs-self c =
    λ name named.
    found_with c.args.stack.now c.requires.stack c.args.self.now.work c.args.self.now.syncs c.requires.draft.served c.args.write.now c.requires.known name named
    ∙ row_much _ _ _ _ _ (sym c.is_member.ensures ∙ c.if-is_member.false) (sym c.ends_past.ensures ∙ c.if-ends_past.false) (shared (goal.at.returns-then-needs-self c).After-index-marks c.any.result c.any.ensures ∙ c.if-any.false)
    (le-ltb 2048 c.args.write.now.count c.if-write-gt-MOST_SECTORS.false)
    (lt-ltb most_elements (all_elements c.args.stack.now c.args.self.now.work.writes.items + elements c.args.stack.now c.args.write.now)
    (omega (arith, c.if-needs-self.true, c.requires.draft.bound.allowed, c.requires.draft.bound.elements, c.need-needs.ensures.elements)))

pub returns : goal.returns
returns c = (
  λ name named.
      found_with c.args.stack.now c.requires.stack c.args.self.now.work c.args.self.now.syncs c.requires.draft.served c.args.write.now c.requires.known name named
      ∙ row_none _ _ _ _ _ (sym c.is_member.ensures ∙ c.if-is_member.false) (sym c.ends_past.ensures ∙ c.if-ends_past.false) (shared (goal.at.returns c).After-index-marks c.any.result c.any.ensures ∙ c.if-any.false)
      (le-ltb 2048 c.args.write.now.count c.if-write-gt-MOST_SECTORS.false)
      (le-ltb most_elements (all_elements c.args.stack.now c.args.self.now.work.writes.items + elements c.args.stack.now c.args.write.now)
      (omega (arith, c.if-needs-self.false, c.requires.draft.bound.allowed, c.requires.draft.bound.elements, c.need-needs.ensures.elements))),
  record {
    needed = c.need-needs.ensures;
    served = record {
      known = c.requires.known;
      some = c.requires.some;
      within = ltb-false (size (tree c.args.stack.now c.args.write.now.dev.0)) (c.args.write.now.start + c.args.write.now.count) (sym c.ends_past.ensures ∙ c.if-ends_past.false);
    };
    top = sym c.is_member.ensures ∙ c.if-is_member.false;
    allowed = omega (arith, c.if-needs-self.false, c.requires.draft.bound.allowed);
  },
)
