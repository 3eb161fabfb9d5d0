use Rattle.std.proofs.Common.{refl, rules}
use Rattle.shared_objects.proofs.asking.ObjectCalls.{list_seated, list_fits, list_called, list_holds, list_owed, list_says}
use Rattle.shared_objects.proofs.caller.Caller.ask_list.Goals as goal

pub call_at-requires-clause-seated : goal.call_at-requires-clause-seated
call_at-requires-clause-seated g c =
    list_seated c.args.self.now.locks.now c.args.self.now.seats.now c.requires.holds c.deref.result.now c.deref.ensures.value c.args.dev.0 c.place-at.result c.requires.rescuer c.place-at.ensures c.args.ask c.requires.named

pub call_at-requires-clause-fits : goal.call_at-requires-clause-fits
call_at-requires-clause-fits g c =
    list_fits c.args.self.now.locks.now c.args.self.now.seats.now c.requires.holds c.deref.result.now c.deref.ensures.value c.args.dev.0 c.place-at.result c.requires.rescuer c.place-at.ensures c.args.ask c.requires.named
    c.requires.fits

pub returns-clause-called : goal.returns-clause-called
returns-clause-called g c = record {
  calls =
      list_called c.args.self.now.locks.now c.args.self.now.seats.now c.requires.holds c.deref.result.now c.deref.ensures.value c.args.dev.0 c.place-at.result c.requires.rescuer c.place-at.ensures c.args.ask c.requires.named
      c.call_at.result c.call_at.new.seats c.call_at.new.pass c.call_at.ensures;
  kept =
      list_holds c.args.self.now.locks.now c.args.self.now.seats.now c.requires.holds c.deref.result.now c.deref.ensures.value c.args.dev.0 c.place-at.result c.requires.rescuer c.place-at.ensures c.args.ask c.requires.named
      c.call_at.result c.call_at.new.seats c.call_at.new.pass c.call_at.ensures;
  same = refl;
  lent = refl;
}

pub returns-clause-owed : goal.returns-clause-owed
returns-clause-owed g c =
    list_owed c.args.self.now.locks.now c.args.self.now.seats.now c.requires.holds c.deref.result.now c.deref.ensures.value c.args.dev.0 c.place-at.result c.requires.rescuer c.place-at.ensures c.args.ask c.requires.named
    c.call_at.result c.call_at.new.seats c.call_at.new.pass c.call_at.ensures

pub returns-clause-says : goal.returns-clause-says
returns-clause-says g c =
    list_says c.args.self.now.locks.now c.args.self.now.seats.now c.requires.holds c.deref.result.now c.deref.ensures.value c.args.dev.0 c.place-at.result c.requires.rescuer c.place-at.ensures c.args.ask c.requires.named
    c.call_at.result c.call_at.new.seats c.call_at.new.pass c.call_at.ensures
