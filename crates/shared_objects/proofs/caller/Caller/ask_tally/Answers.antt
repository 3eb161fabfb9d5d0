use Rattle.std.proofs.Common.{refl, rules}
use Rattle.shared_objects.proofs.asking.ObjectCalls.{tally_fits, tally_called, tally_holds, tally_owed, tally_says}
use Rattle.shared_objects.proofs.caller.Caller.ask_tally.Goals as goal

pub call-requires-clause-fits : goal.call-requires-clause-fits
call-requires-clause-fits g c = tally_fits c.args.self.now.locks.now c.args.self.now.seats.now c.requires.holds c.args.ask c.requires.named c.requires.fits

pub returns-clause-called : goal.returns-clause-called
returns-clause-called g c = record {
  calls =
      tally_called c.args.self.now.locks.now c.args.self.now.seats.now c.requires.holds c.args.ask c.requires.named
      c.call.result c.call.new.seat c.call.new.pass c.call.ensures.of c.call.ensures.asked;
  kept =
      tally_holds c.args.self.now.locks.now c.args.self.now.seats.now c.requires.holds c.args.ask c.requires.named
      c.call.result c.call.new.seat c.call.new.pass c.call.ensures.of c.call.ensures.asked;
  same = refl;
  lent = refl;
}

pub returns-clause-owed : goal.returns-clause-owed
returns-clause-owed g c =
    tally_owed c.args.self.now.locks.now c.args.self.now.seats.now c.requires.holds c.args.ask c.requires.named
    c.call.result c.call.new.seat c.call.new.pass c.call.ensures.of c.call.ensures.asked

pub returns-clause-says : goal.returns-clause-says
returns-clause-says g c =
    tally_says c.args.self.now.locks.now c.args.self.now.seats.now c.requires.holds c.args.ask c.requires.named
    c.call.result c.call.new.seat c.call.new.pass c.call.ensures.of c.call.ensures.asked
