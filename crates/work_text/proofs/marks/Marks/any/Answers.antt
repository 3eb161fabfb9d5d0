use Rattle.std.proofs.Common.{◌≡◌, ◌+◌, ◌==◌, ◌<◌, ◌∙◌, Bool, true, ℕ, List, get_or, ap, sym, length, arith}
use Rattle.std.proofs.lemmas.Bool.Decides.{nat_tests}
use Rattle.work_text.specs.Marks.{ArePages, mark_in, marks_in}
use Rattle.work_text.proofs.MarkPages.{length_marks, read_mark, none_passes, one_passes}
use Rattle.work_text.proofs.marks.Marks.any.Goals as goal

-- what is read of a device is what its page has
read : (now : List ℕ) (count : ℕ) (pages : List (List ℕ)) → marks_in count pages ≡ now → (at : ℕ) → at < length now → get_or now at 0 ≡ mark_in pages at
read now count pages view at lt =
    ap (λ (marks : List ℕ). get_or marks at 0) (sym view) ∙ read_mark count pages at (omega (arith, lt, ap length view, length_marks count pages))

pub overflow_add-at-end : goal.overflow_add-at-end
overflow_add-at-end c =
    omega (arith, c.requires, c.self.invariant.small, ap length c.self.view_is, length_marks c.self.inside.count c.self.inside.pages.items)

pub returns : goal.returns
returns c =
    sym (none_passes (λ at. get_or c.args.self.now at 0 == c.args.mark) c.args.start c.args.count (λ at from before.
    ap (λ m. m == c.args.mark) (read c.args.self.now c.self.inside.count c.self.inside.pages.items c.self.view_is at (omega (arith, before, c.requires)))
    ∙ c.looking.invariant at from (omega (arith, before, c.looking-test.false))))

pub returns-then-mark_in-mark : goal.returns-then-mark_in-mark
returns-then-mark_in-mark c =
    let is : mark_in c.self.inside.pages.items c.looking.at ≡ c.args.mark =
    ap (λ pages. mark_in pages c.looking.at) (sym c.deref.ensures.value) ∙ sym c.mark_in.ensures ∙ c.if-mark_in-mark.true in
    let passes : (mark_in c.self.inside.pages.items c.looking.at == c.args.mark) ≡ true = grind (arith, nat_tests, is) in
    sym (one_passes (λ at. get_or c.args.self.now at 0 == c.args.mark) c.args.start c.args.count c.looking.at c.looking.auto.at c.looking-test.true
    (ap (λ m. m == c.args.mark)
    (read c.args.self.now c.self.inside.count c.self.inside.pages.items c.self.view_is c.looking.at (omega (arith, c.looking-test.true, c.requires))) ∙ passes))
