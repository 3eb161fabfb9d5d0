-- A count and a name.
use Rattle.std.proofs.Common.{◌≡◌, ◌+◌, ℕ, ap, ◌∙◌, Some, arith}
use Rattle.run_machine.specs.Maps.{upd}
use Rattle.trace_replay.specs.KeptNames.{opened_by, place_in}
use Rattle.trace_replay.proofs.NameLemmas.{count_on, place_on}
use Rattle.trace_replay.proofs.names.Names.link.Goals as goal

pub returns : goal.returns
returns c =
    let old = c.args.self.now in
    let w = c.args.writer in
    let n = c.args.node in
    let one : c.in-Some.opened ≡ opened_by old.opened.entries w + 1 = omega (arith, c.in-Some.ensures, c.opened-place.ensures) in
    λ k. record {
      opened = (count_on old.opened.entries c.insert.new.self.entries w c.in-Some.opened (c.in_ok-insert.ensures.updates.0)
          ∙ ap (λ (x : ℕ). upd (opened_by old.opened.entries) w x) one) k;
      place = (place_on old.places.entries c.insert-2.new.self.entries w n (Some c.opened-place.result) (c.in_ok-insert-2.ensures.updates.0)
          ∙ ap (λ (x : ℕ). upd (place_in old.places.entries) w (upd (place_in old.places.entries w) n (Some x))) c.opened-place.ensures) k;
    }
