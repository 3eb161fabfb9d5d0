-- The lines of the writers' pools are said, and then those of the devices'.
use Rattle.std.proofs.Common.{ℕ, List, subst}
use Rattle.std.specs.List.{flat_map}
use Rattle.outside_io.specs.Saying.{Says}
use Rattle.outside_io.proofs.SaysLemmas.{says_then}
use Rattle.report_text.specs.Views.{facts_line, own_of_each}
use Rattle.report_text.proofs.PoolLemmas.{Entries, lines_are}
use Rattle.report_text.proofs.pools.pool_lines.Goals as goal

pub returns : goal.returns
returns g c =
    let stack = c.args.stack.now in
    let first = subst
    (λ (ps : Entries). Says g.K.Sink c.args.out.now c.args.pen.now c.lines_of.new.out c.lines_of.new.pen (flat_map (facts_line stack) ps))
    c.split_at.ensures.front c.lines_of.ensures in
    let others = subst
    (λ (ps : Entries). Says g.K.Sink c.lines_of.new.out c.lines_of.new.pen c.device_pools.new.out c.device_pools.new.pen
    (flat_map (facts_line stack) (own_of_each stack.devices.items ps)))
    c.split_at.ensures.back c.device_pools.ensures in
    subst
    (λ (text : List ℕ). Says g.K.Sink c.args.out.now c.args.pen.now c.device_pools.new.out c.device_pools.new.pen text)
    (lines_are stack c.args.pools.now c.requires) (says_then first others)
