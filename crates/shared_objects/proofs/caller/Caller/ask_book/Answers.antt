use Rattle.std.proofs.Common.{refl, rules}
use Rattle.shared_objects.proofs.asking.ObjectCalls.{book_seated, book_fits, book_called, book_holds, book_owed, book_says}
use Rattle.shared_objects.proofs.caller.Caller.ask_book.Goals as goal

pub call_at-requires-clause-seated : goal.call_at-requires-clause-seated
call_at-requires-clause-seated g c =
    book_seated c.args.self.now.locks.now c.args.self.now.seats.now c.requires.holds c.deref.result.now c.deref.ensures.value c.args.writer c.place-at.result c.requires.book c.place-at.ensures c.args.ask c.requires.named

pub call_at-requires-clause-fits : goal.call_at-requires-clause-fits
call_at-requires-clause-fits g c =
    book_fits c.args.self.now.locks.now c.args.self.now.seats.now c.requires.holds c.deref.result.now c.deref.ensures.value c.args.writer c.place-at.result c.requires.book c.place-at.ensures c.args.ask c.requires.named
    c.requires.fits c.requires.alone

pub returns-clause-called : goal.returns-clause-called
returns-clause-called g c = record {
  calls =
      book_called c.args.self.now.locks.now c.args.self.now.seats.now c.requires.holds c.deref.result.now c.deref.ensures.value c.args.writer c.place-at.result c.requires.book c.place-at.ensures c.args.ask c.requires.named
      c.call_at.result c.call_at.new.seats c.call_at.new.pass c.call_at.ensures;
  kept =
      book_holds c.args.self.now.locks.now c.args.self.now.seats.now c.requires.holds c.deref.result.now c.deref.ensures.value c.args.writer c.place-at.result c.requires.book c.place-at.ensures c.args.ask c.requires.named
      c.call_at.result c.call_at.new.seats c.call_at.new.pass c.call_at.ensures;
  same = refl;
  lent = refl;
}

pub returns-clause-owed : goal.returns-clause-owed
returns-clause-owed g c =
    book_owed c.args.self.now.locks.now c.args.self.now.seats.now c.requires.holds c.deref.result.now c.deref.ensures.value c.args.writer c.place-at.result c.requires.book c.place-at.ensures c.args.ask c.requires.named
    c.call_at.result c.call_at.new.seats c.call_at.new.pass c.call_at.ensures

pub returns-clause-says : goal.returns-clause-says
returns-clause-says g c =
    book_says c.args.self.now.locks.now c.args.self.now.seats.now c.requires.holds c.deref.result.now c.deref.ensures.value c.args.writer c.place-at.result c.requires.book c.place-at.ensures c.args.ask c.requires.named
    c.call_at.result c.call_at.new.seats c.call_at.new.pass c.call_at.ensures
