-- Line by line.
use Rattle.std.proofs.Common.{length, sym, ap, ◌∙◌, arith}
use Rattle.decl_text.specs.Text.{lines}
use Rattle.decl_text.specs.Places.{TextPlace, text_left}
use Rattle.trace_replay.proofs.CutLemmas.{at_first, goes_on, left_at, stops_at_end, stops_at_told}
use Rattle.trace_replay.proofs.cut.first_told.Goals as goal

pub loop-line-init : goal.loop-line-init
loop-line-init c = record {
  text = ap (λ (at : TextPlace). at.text) c.from-lines.ensures;
  place = ap (λ (at : TextPlace). at.place) c.from-lines.ensures;
  within = omega arith;
  behind = at_first c.args.text.now;
}

pub loop-line-preserved : goal.loop-line-preserved
loop-line-preserved c =
    let l = c.loop-line in
    let inv = l.invariant in
    let next = c.in-Some.ensures in
    let place = c.place-place.ensures in
    record {
      text = next.text ∙ inv.text;
      place = sym place.place;
      within = omega (arith, place.within, ap length (next.text ∙ inv.text));
      behind = goes_on c.args.text.now c.in-Some.line.now l.lines c.next.new.self l.place c.place-place.result l.number inv.behind inv.text next.text inv.place
          place.place next.on next.line next.cut (sym c.is_told.ensures ∙ c.if-is_told.false);
    }

pub returns-then-is_told : goal.returns-then-is_told
returns-then-is_told c =
    let l = c.loop-line in
    let inv = l.invariant in
    let text = c.args.text.now in
    record {
      behind = inv.behind;
      within = inv.within;
      next = stops_at_told c.in-Some.line.now (lines (text_left c.next.new.self)) _ (left_at text l.lines l.place inv.text inv.place ∙ c.in-Some.ensures.line)
          (sym c.is_told.ensures ∙ c.if-is_told.true);
    }

pub returns : goal.returns
returns c =
    let l = c.loop-line in
    let inv = l.invariant in
    record {
      behind = inv.behind;
      within = inv.within;
      next = stops_at_end _ (left_at c.args.text.now l.lines l.place inv.text inv.place ∙ c.in_default.ensures.line.0);
    }
