-- A name is free again.
use Rattle.std.proofs.Common.{None}
use Rattle.trace_replay.specs.KeptNames.{opened_by}
use Rattle.trace_replay.proofs.NameLemmas.{place_on}
use Rattle.trace_replay.proofs.names.Names.close.Goals as goal

pub returns : goal.returns
returns c =
    let old = c.args.self.now in
    λ k. record {
      opened = λ v. opened_by old.opened.entries v;
      place = place_on old.places.entries c.remove.new.self.entries c.args.writer c.args.node None (c.remove.ensures.updates.0) k;
    }
