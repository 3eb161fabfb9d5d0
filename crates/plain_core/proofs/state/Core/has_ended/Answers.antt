-- Where every write is done, the pools decide.
use Rattle.std.proofs.Common.{ap, sym, ◌∙◌}
use Rattle.std.specs.List.{list_all}
use Rattle.plain_core.specs.Cores.{CoreState}
use Rattle.plain_core.specs.objects.Plain.{is_home}
use Rattle.plain_core.proofs.object_lemmas.AllAtHome.{ended_told}
use Rattle.plain_core.proofs.state.Core.has_ended.Goals as goal

pub returns-then-unfinished-eq0 : goal.returns-then-unfinished-eq0
returns-then-unfinished-eq0 c =
    ended_told c.args.self.now c.are_home.result
    (c.are_home.ensures ∙ ap (λ (o : CoreState). list_all is_home o.objects.pools) c.self.view_is)
    (sym c.unfinished.ensures ∙ c.if-unfinished-eq0.true)
