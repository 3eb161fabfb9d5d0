use Rattle.std.proofs.Common.{refl, rules}
use Rattle.shared_objects.proofs.asking.PoolCalls.{bios_seated, bios_fits, bios_called, bios_holds, bios_says}
use Rattle.shared_objects.proofs.caller.Caller.ask_bios.Goals as goal

pub call_at-requires-clause-seated : goal.call_at-requires-clause-seated
call_at-requires-clause-seated g c =
    bios_seated c.args.self.now.locks.now c.args.self.now.seats.now c.requires.holds c.deref.result.now c.deref.ensures.value c.args.number c.place-at.result c.requires.pool c.place-at.ensures c.args.ask c.requires.named

pub call_at-requires-clause-fits : goal.call_at-requires-clause-fits
call_at-requires-clause-fits g c =
    bios_fits c.args.self.now.locks.now c.args.self.now.seats.now c.requires.holds c.deref.result.now c.deref.ensures.value c.args.number c.place-at.result c.requires.pool c.place-at.ensures c.args.ask c.requires.named
    c.requires.fits

pub returns-clause-called : goal.returns-clause-called
returns-clause-called g c = record {
  calls =
      bios_called c.args.self.now.locks.now c.args.self.now.seats.now c.requires.holds c.deref.result.now c.deref.ensures.value c.args.number c.place-at.result c.requires.pool c.place-at.ensures c.args.ask c.requires.named
      c.call_at.result c.call_at.new.seats c.call_at.new.pass c.call_at.ensures;
  kept =
      bios_holds c.args.self.now.locks.now c.args.self.now.seats.now c.requires.holds c.deref.result.now c.deref.ensures.value c.args.number c.place-at.result c.requires.pool c.place-at.ensures c.args.ask c.requires.named
      c.call_at.result c.call_at.new.seats c.call_at.new.pass c.call_at.ensures;
  same = refl;
  lent = refl;
}

pub returns-clause-says : goal.returns-clause-says
returns-clause-says g c =
    bios_says c.args.self.now.locks.now c.args.self.now.seats.now c.requires.holds c.deref.result.now c.deref.ensures.value c.args.number c.place-at.result c.requires.pool c.place-at.ensures c.args.ask c.requires.named
    c.call_at.result c.call_at.new.seats c.call_at.new.pass c.call_at.ensures
