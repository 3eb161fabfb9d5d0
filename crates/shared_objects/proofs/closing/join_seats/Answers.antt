use Rattle.std.proofs.Common.{rules}
use Rattle.shared_objects.proofs.leaving.JoinedSeats.{of_row, others_of}
use Rattle.shared_objects.proofs.closing.join_seats.Goals as goal

pub join_row-requires-clause-others : goal.join_row-requires-clause-others
join_row-requires-clause-others c = others_of c.args.seats.number c.args.locks.now.bios.items c.args.seats.bios.items c.requires.seats.bios

pub join_row-requires-2-clause-others : goal.join_row-requires-2-clause-others
join_row-requires-2-clause-others c = others_of c.args.seats.number c.args.locks.now.records.items c.args.seats.records.items c.requires.seats.records

pub join_row-requires-3-clause-others : goal.join_row-requires-3-clause-others
join_row-requires-3-clause-others c = others_of c.args.seats.number c.args.locks.now.lists.items c.args.seats.lists.items c.requires.seats.lists

pub join_row-requires-4-clause-others : goal.join_row-requires-4-clause-others
join_row-requires-4-clause-others c = others_of c.args.seats.number c.args.locks.now.disks.items c.args.seats.disks.items c.requires.seats.disks

pub join_row-requires-5-clause-others : goal.join_row-requires-5-clause-others
join_row-requires-5-clause-others c = others_of c.args.seats.number c.args.locks.now.books.items c.args.seats.books.items c.requires.seats.books

pub returns-clause-joined : goal.returns-clause-joined
returns-clause-joined c = record {
  bios = of_row c.deref.ensures.value c.join_row.ensures.joined;
  vecs = c.join.ensures.joined;
  records = of_row c.deref-2.ensures.value c.join_row-2.ensures.joined;
  lists = of_row c.deref-3.ensures.value c.join_row-3.ensures.joined;
  disks = of_row c.deref-4.ensures.value c.join_row-4.ensures.joined;
  books = of_row c.deref-5.ensures.value c.join_row-5.ensures.joined;
  tally = c.join-2.ensures.joined;
  pass = c.join_pass.ensures.joined;
}

pub returns-clause-of : goal.returns-clause-of
returns-clause-of c = record {
  bios = search rules;
  vecs = search rules;
  records = search rules;
  lists = search rules;
  disks = search rules;
  books = search rules;
  tally = search rules;
  pass = search rules;
}
