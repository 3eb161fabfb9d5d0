-- What is left, taken apart.
use Rattle.std.specs.Prelude.{◌≡◌}
use Rattle.shared_objects.specs.Tickets.{ShowsItsTickets}
use Rattle.shared_objects.specs.declared.closed.Closed.{Closed}
use Rattle.shared_objects.specs.declared.closed.ClosedParts.{ClosedParts}

-- the parts, put together again
abbrev pub whole_of : ClosedParts → Closed
whole_of parts = record {
  bios = parts.bios;
  vecs = parts.vecs;
  records = parts.records;
  lists = parts.lists;
  disks = parts.disks;
  books = parts.books;
  tally = parts.tally;
  told = parts.told;
  tasks = parts.tasks;
  trace = parts.trace;
  pass = parts.pass;
  room = parts.room;
}

pub record ArePartsOf (closed : Closed) (parts : ClosedParts) : Type 0 where
  pub bios : parts.bios ≡ closed.bios
  pub vecs : parts.vecs ≡ closed.vecs
  pub records : parts.records ≡ closed.records
  pub lists : parts.lists ≡ closed.lists
  pub disks : parts.disks ≡ closed.disks
  pub books : parts.books ≡ closed.books
  pub tally : parts.tally ≡ closed.tally
  pub told : parts.told ≡ closed.told
  pub tasks : parts.tasks ≡ closed.tasks
  pub trace : parts.trace ≡ closed.trace
  pub pass : parts.pass ≡ closed.pass
  pub room : parts.room ≡ closed.room
  -- they show all tickets of the clock, as what was closed did
  pub tickets : ShowsItsTickets closed → ShowsItsTickets (whole_of parts)
