-- Line by line.
use Rattle.std.proofs.Common.{◌≡◌, ◌+◌, ℕ, length, map, Bool, List, ◌∷◌, ap, sym, ◌∙◌, subst, arith}
use Rattle.decl_text.specs.Text.{lines}
use Rattle.decl_text.specs.Places.{TextPlace, text_left}
use Rattle.plain_core.specs.Cores.{scene_of_core, state_of_core}
use Rattle.std.specs.Global.{Vec}
use Rattle.std.proofs.lemmas.List.{length-map}
use Rattle.trace_replay.specs.declared.extents.Extent.{Extent}
use Rattle.trace_replay.specs.Lines.{told_in, told_lines}
use Rattle.trace_replay.specs.Replay.{wider}
use Rattle.trace_replay.specs.Names.{Names, no_names}
use Rattle.trace_replay.specs.KeptNames.{names_in_entries}
use Rattle.trace_replay.specs.Walks.{AppliesLine, HasCome}
use Rattle.trace_replay.proofs.LineLemmas.{told_here}
use Rattle.trace_replay.proofs.WalkLemmas.{comes, comes_to_bad, comes_to_end, applied_on, passed_on, told_none}
use Rattle.trace_replay.proofs.walk.follow.Goals.{then-is_told+in_ok-apply_line+else-not-branch, else-is_told}
use Rattle.trace_replay.proofs.walk.follow.Goals as goal
use Rattle.model_disks.proofs.GrownLemmas.{kept_whole}

pub loop-line-init : goal.loop-line-init
loop-line-init c =
    let start : told_lines c.args.first (lines (text_left c.from-lines.result)) ≡ told_in c.args.first c.args.text.now =
    ap (λ (at : TextPlace). told_lines c.args.first (lines (text_left at))) c.from-lines.ensures in
    record {
      text = ap (λ (at : TextPlace). at.text) c.from-lines.ensures;
      within = omega (arith, ap (λ (at : TextPlace). at.place) c.from-lines.ensures);
      numbers = omega arith;
      counts = omega arith;
      come = subst (λ (names : Names). HasCome c.args.stack.now (scene_of_core c.args.core.now) (state_of_core c.args.core.now) (told_in c.args.first c.args.text.now)
          (told_lines c.args.first (lines (text_left c.from-lines.result))) names c.args.core.now 0 c.args.extents.now.items)
          (sym c.requires.names)
          (subst (λ (rest : List (ℕ × List ℕ)). HasCome c.args.stack.now (scene_of_core c.args.core.now) (state_of_core c.args.core.now) (told_in c.args.first c.args.text.now) rest no_names c.args.core.now 0 c.args.extents.now.items)
          (sym start) (comes c.args.stack.now (told_in c.args.first c.args.text.now) c.args.core.now c.args.extents.now.items c.requires.extents));
    }

pub returns-then-not-branch : goal.returns-then-not-branch
returns-then-not-branch c =
    let stack = c.args.stack.now in
    let told = told_in c.args.first c.args.text.now in
    let l = c.loop-line in
    let line = c.in-Some.line.now in
    let more = lines (text_left c.next.new.self) in
    let here : told_lines l.number (lines (text_left l.lines)) ≡ (l.number, line) ∷ told_lines (l.number + 1) more =
    ap (told_lines l.number) c.in-Some.ensures.line ∙ told_here l.number line more (sym c.is_told.ensures ∙ c.if-is_told.true) in
    comes_to_bad stack told (told_lines (l.number + 1) more) l.number line c.args.core.now (names_in_entries l.names) (names_in_entries c.apply_line.new.names) l.core c.apply_line.new.core l.events l.extents.items
    (subst (λ (rest : List (ℕ × List ℕ)). HasCome stack (scene_of_core c.args.core.now) (state_of_core c.args.core.now) told rest (names_in_entries l.names) l.core l.events l.extents.items) here l.invariant.come)
    (subst (λ (b : Bool). AppliesLine stack line (names_in_entries l.names) l.core b (names_in_entries c.apply_line.new.names) c.apply_line.new.core) c.if-not-branch.true c.in_ok-apply_line.ensures)

pub returns : goal.returns
returns c =
    let l = c.loop-line in
    comes_to_end c.args.stack.now (told_in c.args.first c.args.text.now) (told_lines l.number (lines (text_left l.lines))) c.args.core.now (names_in_entries l.names) l.core l.events l.extents.items
    (told_none l.number (lines (text_left l.lines)) c.in_default.ensures.line.0) l.invariant.come

pub loop-line-preserved : goal.loop-line-preserved
loop-line-preserved c =
    let l = c.loop-line in
    let inv = l.invariant in
    let stack = c.args.stack.now in
    let told = told_in c.args.first c.args.text.now in
    let line = c.in-Some.line.now in
    let more = lines (text_left c.next.new.self) in
    elim c.if-is_told.branch [
      | then-is_told+in_ok-apply_line+else-not-branch w ↦ record {
        text = c.in-Some.ensures.text ∙ inv.text;
        within = omega (arith, c.in-Some.ensures.within, ap length inv.text);
        numbers = omega (arith, c.in-Some.ensures.on, inv.numbers);
        counts = omega (arith, c.in-Some.ensures.on, inv.counts, w.events-is);
        come = applied_on stack (scene_of_core c.args.core.now) (state_of_core c.args.core.now) told l.number line more (lines (text_left l.lines)) (names_in_entries l.names) (names_in_entries w.apply_line.new.names) (names_in_entries c.if-is_told.names) l.core w.apply_line.new.core c.if-is_told.core l.events c.if-is_told.events
            l.extents.items c.if-is_told.extents.items inv.come c.in-Some.ensures.line (sym c.is_told.ensures ∙ w.if-is_told.true)
            (subst (λ (b : Bool). AppliesLine stack line (names_in_entries l.names) l.core b (names_in_entries w.apply_line.new.names) w.apply_line.new.core) w.if-not-branch.false w.in_ok-apply_line.ensures) (ap names_in_entries w.names-is) w.core-is w.events-is
            (let widen = wider (state_of_core w.apply_line.new.core) in
            let noted = w.note.ensures ∙ ap (map widen) w.deref_mut.ensures.value in
            ap (λ (v : Vec Extent). v.items) w.extents-is
            ∙ kept_whole l.extents.items w.note.new.extents _ l.extents.ok.0 (ap length noted ∙ length-map l.extents.items widen)
            ∙ noted);
      }
      | else-is_told w ↦ record {
        text = c.in-Some.ensures.text ∙ inv.text;
        within = omega (arith, c.in-Some.ensures.within, ap length inv.text);
        numbers = omega (arith, c.in-Some.ensures.on, inv.numbers);
        counts = omega (arith, c.in-Some.ensures.on, inv.counts, w.events-is);
        come = passed_on stack (scene_of_core c.args.core.now) (state_of_core c.args.core.now) told l.number line more (lines (text_left l.lines)) (names_in_entries l.names) (names_in_entries c.if-is_told.names) l.core c.if-is_told.core l.events c.if-is_told.events
            l.extents.items c.if-is_told.extents.items inv.come c.in-Some.ensures.line (sym c.is_told.ensures ∙ w.if-is_told.false) (ap names_in_entries w.names-is) w.core-is w.events-is
            (ap (λ (v : Vec Extent). v.items) w.extents-is);
      }
    ]
