use Rattle.std.proofs.Common.{refl, rules}
use Rattle.shared_objects.proofs.asking.PoolCalls.{vecs_fits, vecs_called, vecs_holds, vecs_says}
use Rattle.shared_objects.proofs.caller.Caller.ask_vecs.Goals as goal

pub call-requires-clause-fits : goal.call-requires-clause-fits
call-requires-clause-fits g c = vecs_fits c.args.self.now.locks.now c.args.self.now.seats.now c.requires.holds c.args.ask c.requires.named c.requires.fits

pub returns-clause-called : goal.returns-clause-called
returns-clause-called g c = record {
  calls =
      vecs_called c.args.self.now.locks.now c.args.self.now.seats.now c.requires.holds c.args.ask c.requires.named
      c.call.result c.call.new.seat c.call.new.pass c.call.ensures.of c.call.ensures.asked;
  kept =
      vecs_holds c.args.self.now.locks.now c.args.self.now.seats.now c.requires.holds c.args.ask c.requires.named
      c.call.result c.call.new.seat c.call.new.pass c.call.ensures.of c.call.ensures.asked;
  same = refl;
  lent = refl;
}

pub returns-clause-says : goal.returns-clause-says
returns-clause-says g c =
    vecs_says c.args.self.now.locks.now c.args.self.now.seats.now c.requires.holds c.args.ask c.requires.named
    c.call.result c.call.new.seat c.call.new.pass c.call.ensures.of c.call.ensures.asked
