use Rattle.std.proofs.Common.{rules, ◌≡◌, Some}
use Rattle.shared_objects.proofs.sharing.SplitSeats.{can_split, first_now, firsts_now, pass_fresh, pass_more, seat_now, seats_now}
use Rattle.shared_objects.proofs.opening.splitting.split_seats.Goals as goal

pub split_row-requires-clause-few : goal.split_row-requires-clause-few
split_row-requires-clause-few c = can_split c.args.number c.args.locks.now.bios.items c.args.firsts.now.bios.items c.requires.firsts.bios c.requires.few

pub split_row-requires-2-clause-few : goal.split_row-requires-2-clause-few
split_row-requires-2-clause-few c = can_split c.args.number c.args.locks.now.records.items c.args.firsts.now.records.items c.requires.firsts.records c.requires.few

pub split_row-requires-3-clause-few : goal.split_row-requires-3-clause-few
split_row-requires-3-clause-few c = can_split c.args.number c.args.locks.now.lists.items c.args.firsts.now.lists.items c.requires.firsts.lists c.requires.few

pub split_row-requires-4-clause-few : goal.split_row-requires-4-clause-few
split_row-requires-4-clause-few c = can_split c.args.number c.args.locks.now.disks.items c.args.firsts.now.disks.items c.requires.firsts.disks c.requires.few

pub split_row-requires-5-clause-few : goal.split_row-requires-5-clause-few
split_row-requires-5-clause-few c = can_split c.args.number c.args.locks.now.books.items c.args.firsts.now.books.items c.requires.firsts.books c.requires.few

pub returns-clause-new_ones : goal.returns-clause-new_ones
returns-clause-new_ones c =
    let held : c.args.firsts.now.pass ≡ Some c.in-Some.first = search rules in record {
      number = search rules;
      bios = seats_now c.args.number c.args.locks.now.bios.items c.args.firsts.now.bios.items c.requires.firsts.bios c.deref.result.now c.deref.ensures.value c.in_ok-bios.bios.items c.split_row.new.firsts.items
          c.in_ok-bios.ensures.split;
      vecs = seat_now c.args.number c.args.locks.now.vecs c.args.firsts.now.vecs c.requires.firsts.vecs.1 c.split-vecs.result c.split-vecs.ensures.of.1 c.split-vecs.ensures.seats.1 c.split-vecs.ensures.calls;
      records = seats_now c.args.number c.args.locks.now.records.items c.args.firsts.now.records.items c.requires.firsts.records c.deref-2.result.now c.deref-2.ensures.value c.in_ok-records.records.items c.split_row-2.new.firsts.items
          c.in_ok-records.ensures.split;
      lists = seats_now c.args.number c.args.locks.now.lists.items c.args.firsts.now.lists.items c.requires.firsts.lists c.deref-3.result.now c.deref-3.ensures.value c.in_ok-lists.lists.items c.split_row-3.new.firsts.items
          c.in_ok-lists.ensures.split;
      disks = seats_now c.args.number c.args.locks.now.disks.items c.args.firsts.now.disks.items c.requires.firsts.disks c.deref-4.result.now c.deref-4.ensures.value c.in_ok-disks.disks.items c.split_row-4.new.firsts.items
          c.in_ok-disks.ensures.split;
      books = seats_now c.args.number c.args.locks.now.books.items c.args.firsts.now.books.items c.requires.firsts.books c.deref-5.result.now c.deref-5.ensures.value c.in_ok-books.books.items c.split_row-5.new.firsts.items
          c.in_ok-books.ensures.split;
      tally = seat_now c.args.number c.args.locks.now.tally c.args.firsts.now.tally c.requires.firsts.tally.1 c.split-tally.result c.split-tally.ensures.of.1 c.split-tally.ensures.seats.1 c.split-tally.ensures.calls;
      pass = pass_fresh c.args.locks.now.common.value.clock c.args.number c.args.firsts.now.pass c.in-Some.first c.requires.firsts.pass held c.split-pass.result c.split-pass.ensures.fresh;
    }

pub returns-clause-firsts : goal.returns-clause-firsts
returns-clause-firsts c =
    let held : c.args.firsts.now.pass ≡ Some c.in-Some.first = search rules in record {
      bios = firsts_now c.args.number c.args.locks.now.bios.items c.args.firsts.now.bios.items c.requires.firsts.bios c.deref.result.now c.deref.ensures.value c.in_ok-bios.bios.items c.split_row.new.firsts.items
          c.in_ok-bios.ensures.split;
      vecs = first_now c.args.number c.args.locks.now.vecs c.args.firsts.now.vecs c.requires.firsts.vecs.1 c.split-vecs.new.seat c.split-vecs.ensures.of.0 c.split-vecs.ensures.seats.0;
      records = firsts_now c.args.number c.args.locks.now.records.items c.args.firsts.now.records.items c.requires.firsts.records c.deref-2.result.now c.deref-2.ensures.value c.in_ok-records.records.items c.split_row-2.new.firsts.items
          c.in_ok-records.ensures.split;
      lists = firsts_now c.args.number c.args.locks.now.lists.items c.args.firsts.now.lists.items c.requires.firsts.lists c.deref-3.result.now c.deref-3.ensures.value c.in_ok-lists.lists.items c.split_row-3.new.firsts.items
          c.in_ok-lists.ensures.split;
      disks = firsts_now c.args.number c.args.locks.now.disks.items c.args.firsts.now.disks.items c.requires.firsts.disks c.deref-4.result.now c.deref-4.ensures.value c.in_ok-disks.disks.items c.split_row-4.new.firsts.items
          c.in_ok-disks.ensures.split;
      books = firsts_now c.args.number c.args.locks.now.books.items c.args.firsts.now.books.items c.requires.firsts.books c.deref-5.result.now c.deref-5.ensures.value c.in_ok-books.books.items c.split_row-5.new.firsts.items
          c.in_ok-books.ensures.split;
      tally = first_now c.args.number c.args.locks.now.tally c.args.firsts.now.tally c.requires.firsts.tally.1 c.split-tally.new.seat c.split-tally.ensures.of.0 c.split-tally.ensures.seats.0;
      pass = pass_more c.args.locks.now.common.value.clock c.args.number c.args.firsts.now.pass c.in-Some.first c.requires.firsts.pass held c.split-pass.new.pass c.split-pass.ensures.counted;
    }
