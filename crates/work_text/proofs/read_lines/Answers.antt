use Rattle.std.proofs.Common.{length, ap, sym, ◌∙◌, arith}
use Rattle.std.proofs.lemmas.Result.{err_from_is_err_and}
use Rattle.decl_text.specs.Text.{lines}
use Rattle.decl_text.specs.Places.{text_left}
use Rattle.work_text.specs.Draft.{known_so_far}
use Rattle.work_text.specs.Reading.{work_lines}
use Rattle.work_text.proofs.LoopLemmas.{first_works, known_on, refused_end, refused_here, refused_on, stands_on}
use Rattle.decl_text.specs.Reading.{declarations}
use Rattle.work_text.proofs.DraftLemmas.{draft_paired}
use Rattle.work_text.proofs.read_lines.Goals as goal

pub returns-in_err-read_numbered-clause-read : goal.returns-in_err-read_numbered-clause-read
returns-in_err-read_numbered-clause-read c =
    let stack = c.args.accepted.now.stack in
    let p = err_from_is_err_and c.from_residual.result c.from_residual.ensures.1 in
    rw (p.1, p.2)
    (refused_here
    (known_so_far stack c.loop-bytes.draft)
    (known_so_far stack c.args.draft.now)
    (known_so_far stack c.read_numbered.new.draft)
    c.loop-bytes.number c.args.accepted.now.line c.in-Some.bytes.now
    (lines (text_left c.next.new.self)) (lines (text_left c.loop-bytes.lines)) (work_lines c.args.text.now c.args.accepted.now)
    c.in_err-read_numbered.field-0.0 c.in-Some.ensures.line c.loop-bytes.invariant.refused c.in_err-read_numbered.ensures.read)

pub loop-bytes-preserved : goal.loop-bytes-preserved
loop-bytes-preserved c =
    let stack = c.args.accepted.now.stack in
    let before = known_so_far stack c.loop-bytes.draft in
    let behind = known_so_far stack c.read_numbered.new.draft in
    let more = lines (text_left c.next.new.self) in
    let rest = lines (text_left c.loop-bytes.lines) in
    let line = c.in-Some.bytes.now in
    let inv = c.loop-bytes.invariant in
    let read = c.in_ok-read_numbered.ensures.read in
    record {
      text = c.in-Some.ensures.text ∙ inv.text;
      within = omega (arith, c.in-Some.ensures.within, ap length inv.text);
      numbers = omega (arith, c.in-Some.ensures.on, inv.numbers);
      draft = c.in_ok-read_numbered.ensures.draft;
      entries = c.in_ok-read_numbered.ensures.entries ∙ inv.entries;
      stands = stands_on before behind line more rest (draft_paired stack c.loop-bytes.draft inv.draft) c.in-Some.ensures.line read.0 read.1 inv.stands;
      refused = refused_on before behind c.loop-bytes.number line more rest c.in-Some.ensures.line read.0 read.1 ∙ inv.refused;
      known = known_on before behind line more rest c.in-Some.ensures.line read.1 ∙ inv.known;
    }

pub returns-clause-read : goal.returns-clause-read
returns-clause-read c =
    let stack = c.args.accepted.now.stack in
    refused_end
    (known_so_far stack c.loop-bytes.draft)
    (known_so_far stack c.args.draft.now)
    c.loop-bytes.number c.args.accepted.now.line
    (lines (text_left c.loop-bytes.lines)) (work_lines c.args.text.now c.args.accepted.now)
    c.in_default.ensures.line.0 c.loop-bytes.invariant.refused c.loop-bytes.invariant.known

pub read_numbered-requires-clause-stands : goal.read_numbered-requires-clause-stands
read_numbered-requires-clause-stands c =
    λ front.
    first_works c.in-Some.bytes.now (lines (text_left c.next.new.self)) (sym (ap declarations c.in-Some.ensures.line) ∙ c.loop-bytes.invariant.stands front)
