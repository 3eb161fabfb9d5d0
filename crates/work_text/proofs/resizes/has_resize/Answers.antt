use Rattle.std.proofs.Common.{◌==◌, ◌&&◌, ℕ, map, sym, ap, ◌∙◌}
use Rattle.std.specs.List.{list_any}
use Rattle.stack_base.specs.PoolId.{pool_number}
use Rattle.decl_text.specs.Checks.{has_resize, is_resize_of}
use Rattle.work_text.specs.Work.{change_of}
use Rattle.work_text.specs.declared.Resize.{Resize}
use Rattle.work_text.proofs.NameLemmas.{list_any-map}
use Rattle.work_text.proofs.resizes.has_resize.Goals as goal

pub returns-in-Some : goal.returns-in-Some
returns-in-Some c =
    c.has_one.ensures
    ∙ ap (λ (n : ℕ). list_any (λ (r : Resize). (r.round == c.args.round) && (pool_number r.pool == n)) c.args.resizes.now) c.no.ensures
    ∙ sym (list_any-map (is_resize_of c.args.round c.in-Some.pool) change_of c.args.resizes.now)
    ∙ ap (has_resize (map change_of c.args.resizes.now) c.args.round) (sym c.in-Some.is)
