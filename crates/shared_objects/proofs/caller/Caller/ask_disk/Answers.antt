use Rattle.std.proofs.Common.{refl, rules}
use Rattle.shared_objects.proofs.asking.ObjectCalls.{disk_seated, disk_fits, disk_called, disk_choice, disk_holds, disk_says}
use Rattle.shared_objects.proofs.caller.Caller.ask_disk.Goals as goal

pub call_at-requires-clause-seated : goal.call_at-requires-clause-seated
call_at-requires-clause-seated g c =
    disk_seated c.args.self.now.locks.now c.args.self.now.seats.now c.requires.holds c.deref.result.now c.deref.ensures.value c.args.disk.0 c.place-at.result c.requires.disk c.place-at.ensures c.args.ask c.requires.named

pub call_at-requires-clause-fits : goal.call_at-requires-clause-fits
call_at-requires-clause-fits g c =
    disk_fits c.args.self.now.locks.now c.args.self.now.seats.now c.requires.holds c.deref.result.now c.deref.ensures.value c.args.disk.0 c.place-at.result c.requires.disk c.place-at.ensures c.args.ask c.requires.named
    c.requires.fits c.requires.alone

pub returns-clause-called : goal.returns-clause-called
returns-clause-called g c = record {
  called = record {
    calls =
        disk_called c.args.self.now.locks.now c.args.self.now.seats.now c.requires.holds c.deref.result.now c.deref.ensures.value c.args.disk.0 c.place-at.result c.requires.disk c.place-at.ensures c.args.ask c.requires.named
        c.call_at.result c.call_at.new.seats c.call_at.new.pass c.call_at.ensures;
    kept =
        disk_holds c.args.self.now.locks.now c.args.self.now.seats.now c.requires.holds c.deref.result.now c.deref.ensures.value c.args.disk.0 c.place-at.result c.requires.disk c.place-at.ensures c.args.ask c.requires.named
        c.call_at.result c.call_at.new.seats c.call_at.new.pass c.call_at.ensures;
    same = refl;
    lent = refl;
  };
  choice =
      disk_choice c.args.self.now.locks.now c.args.self.now.seats.now c.requires.holds c.deref.result.now c.deref.ensures.value c.args.disk.0 c.place-at.result c.requires.disk c.place-at.ensures c.args.ask c.requires.named
      c.call_at.result c.call_at.new.seats c.call_at.new.pass c.call_at.ensures;
}

pub returns-clause-says : goal.returns-clause-says
returns-clause-says g c =
    disk_says c.args.self.now.locks.now c.args.self.now.seats.now c.requires.holds c.deref.result.now c.deref.ensures.value c.args.disk.0 c.place-at.result c.requires.disk c.place-at.ensures c.args.ask c.requires.named
    c.call_at.result c.call_at.new.seats c.call_at.new.pass c.call_at.ensures
