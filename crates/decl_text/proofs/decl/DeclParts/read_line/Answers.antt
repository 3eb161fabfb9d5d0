use Rattle.std.proofs.Common.{◌≡◌, ◌∷◌, ◌∙◌, true, false, None, Some, Err, drop, refl, ap, sym, subst}
use Rattle.decl_text.specs.Text.{lines, words}
use Rattle.decl_text.specs.Items.{said}
use Rattle.decl_text.specs.Known.{nothing_declared}
use Rattle.decl_text.specs.Refusals.{first_found, line_checks}
use Rattle.decl_text.specs.Lines.{SaysBehind}
use Rattle.decl_text.specs.Reading.{is_work_line}
use Rattle.decl_text.specs.Steps.{read_of}
use Rattle.decl_text.specs.declared.stand.Stand.TheVariants.{Front}
use Rattle.decl_text.proofs.BlankLines.{blank_is_no_work, blank_says_nothing}
use Rattle.decl_text.proofs.StepLemmas.{at_end, at_write, at_wrong, at_line}
use Rattle.decl_text.proofs.decl.DeclParts.read_line.Goals as goal

pub returns-in_default-clause-goes : goal.returns-in_default-clause-goes
returns-in_default-clause-goes c =
    at_end c.args.lines.now.text (read_of c.args.self.now) c.args.lines.now.place c.requires.place (c.in_default.ensures.line).0 c.requires.so_far

pub returns-then-is_blank_line-clause-goes : goal.returns-then-is_blank_line-clause-goes
returns-then-is_blank_line-clause-goes c =
    let blank = sym c.is_blank_line.ensures ∙ c.if-is_blank_line.true in
    let says = blank_says_nothing Front c.in-Some.bytes.now blank nothing_declared refl in
    rw (c.in_ok-pass.ensures, c.place.ensures.place)
    (at_line c.args.lines.now.text (read_of c.args.self.now) c.args.lines.now.place c.next.new.self.place c.in-Some.bytes.now None c.requires.place
    (c.in-Some.ensures.line ∙ ap (λ text. c.in-Some.bytes.now ∷ lines (drop c.next.new.self.place text)) c.in-Some.ensures.text)
    (blank_is_no_work c.in-Some.bytes.now blank) says.0 says.1
    c.in-Some.ensures.on c.in-Some.ensures.within c.requires.so_far)

pub returns-then-begins_work-clause-goes : goal.returns-then-begins_work-clause-goes
returns-then-begins_work-clause-goes c =
    at_write c.args.lines.now.text (read_of c.args.self.now) c.args.lines.now.place c.in-Some.bytes.now _ c.requires.place c.in-Some.ensures.line
    (subst (λ line. is_work_line line ≡ true) c.in_ok-line.ensures (sym c.begins_work.ensures ∙ c.if-begins_work.true)) c.requires.so_far

pub returns-in-Err-Wrong-clause-goes : goal.returns-in-Err-Wrong-clause-goes
returns-in-Err-Wrong-clause-goes c =
    rw c.at.ensures
    (at_wrong c.args.lines.now.text (read_of c.args.self.now) c.args.lines.now.place c.in-Some.bytes.now _ c.in-Err-Wrong.reason c.requires.place c.in-Some.ensures.line
    (subst (λ line. is_work_line line ≡ false) c.in_ok-line.ensures (sym c.begins_work.ensures ∙ c.if-begins_work.false))
    (subst (λ line. first_found line_checks nothing_declared line ≡ Some c.in-Err-Wrong.reason) c.in_ok-line.ensures
    (subst (λ fault. SaysBehind nothing_declared c.in_ok-line.line (Err fault)) c.in-Err-Wrong.field-0-is (c.in-Err-Wrong.ensures nothing_declared refl))) c.requires.so_far)

pub returns-clause-goes : goal.returns-clause-goes
returns-clause-goes c =
    let says = c.in-Ok.ensures nothing_declared refl in
    rw (c.in_ok-pass-in-Ok.ensures, c.place-in-Ok.ensures.place)
    (at_line c.args.lines.now.text (read_of c.args.self.now) c.args.lines.now.place c.next.new.self.place c.in-Some.bytes.now c.in-Ok.item c.requires.place
    (c.in-Some.ensures.line ∙ ap (λ text. c.in-Some.bytes.now ∷ lines (drop c.next.new.self.place text)) c.in-Some.ensures.text)
    (subst (λ line. is_work_line line ≡ false) c.in_ok-line.ensures (sym c.begins_work.ensures ∙ c.if-begins_work.false))
    (subst (λ line. first_found line_checks nothing_declared line ≡ None) c.in_ok-line.ensures says.0)
    (subst (λ line. said (words line) ≡ c.in-Ok.item) c.in_ok-line.ensures says.1)
    c.in-Some.ensures.on c.in-Some.ensures.within c.requires.so_far)
