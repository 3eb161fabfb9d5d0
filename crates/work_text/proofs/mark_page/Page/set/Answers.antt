use Rattle.std.proofs.Common.{◌≡◌, ◌∙◌, ◌++◌, ◌-◌, ◌==◌, cond, get_or, ℕ, List, replicate, take, length, sym, ap, arith}
use Rattle.std.specs.Vec.{vec_len}
use Rattle.std.proofs.lemmas.Bool.Decides.{nat_tests}
use Rattle.work_text.proofs.MarkPages.{set_place, filled, all_there}
use Rattle.work_text.proofs.mark_page.Page.set.Goals as goal
use Rattle.work_text.proofs.mark_page.Page.set.Goals.{then-is_empty+in-Ok, else-is_empty}

pub returns : goal.returns
returns c at = elim c.if-is_empty.branch [
  | then-is_empty+in-Ok w ↦
      let none : vec_len c.self.inside.marks ≡ 0 = grind (arith, nat_tests, w.if-is_empty.ensures) in
      let now : c.if-is_empty.self-inside.marks.items ≡ take 4096 c.self.inside.marks.items ++ replicate (4096 - vec_len c.self.inside.marks) 0 =
      ap (λ page. page.marks.items) w.self-inside-is ∙ w.in-Ok.ensures.items in
      let all : vec_len c.if-is_empty.self-inside.marks ≡ 4096 = ap (λ page. vec_len page.marks) w.self-inside-is ∙ w.in-Ok.ensures.len in
      set_place c.if-is_empty.self-inside.marks.items c.args.place c.args.mark (omega (arith, c.requires, all, c.if-is_empty.self-inside.marks.ok.0)) at
      ∙ ap (cond (at == c.args.place) c.args.mark)
      (ap (λ (marks : List ℕ). get_or marks at 0) now ∙ filled c.self.inside.marks.items (vec_len c.self.inside.marks) (sym c.self.inside.marks.ok.0) none at
      ∙ ap (λ (marks : List ℕ). get_or marks at 0) c.self.view_is)
  | else-is_empty w ↦
      let now : c.if-is_empty.self-inside.marks.items ≡ c.self.inside.marks.items = ap (λ page. page.marks.items) w.self-inside-is in
      let all : vec_len c.self.inside.marks ≡ 4096 = all_there (vec_len c.self.inside.marks) c.self.invariant.whole w.if-is_empty.ensures in
      set_place c.if-is_empty.self-inside.marks.items c.args.place c.args.mark (omega (arith, c.requires, all, ap length now, c.self.inside.marks.ok.0)) at
      ∙ ap (cond (at == c.args.place) c.args.mark) (ap (λ (marks : List ℕ). get_or marks at 0) (now ∙ c.self.view_is))
]
