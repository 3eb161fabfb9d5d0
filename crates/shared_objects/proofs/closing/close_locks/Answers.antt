use Rattle.object_things.specs.Pools.{PoolAnswers, pool_mark}
use Rattle.object_things.specs.Lists.{ListAnswers, list_mark}
use Rattle.object_things.specs.Books.{BookAnswers, book_mark}
use Rattle.shared_objects.specs.Rows.{IsShutAt}
use Rattle.shared_objects.specs.Shutting.{thing_of}
use Rattle.shared_objects.proofs.leaving.LeftRows.{all_added, shut_disks}
use Rattle.shared_objects.proofs.closing.close_locks.Goals as goal

pub returns-clause-shut : goal.returns-clause-shut
returns-clause-shut c = record {
  bios = all_added (IsShutAt thing_of pool_mark PoolAnswers) c.args.locks.bios.items c.args.firsts.bios.items c.args.room.bios.items c.close_row.new.shut.items c.requires.room.bios.0 c.close_row.ensures;
  vecs = record { left = c.close.ensures.thing; told_is = c.close.ensures.told; all = c.close.ensures.all };
  records = all_added (IsShutAt thing_of pool_mark PoolAnswers) c.args.locks.records.items c.args.firsts.records.items c.args.room.records.items c.close_row-2.new.shut.items c.requires.room.records.0 c.close_row-2.ensures;
  lists = all_added (IsShutAt thing_of list_mark ListAnswers) c.args.locks.lists.items c.args.firsts.lists.items c.args.room.lists.items c.close_row-3.new.shut.items c.requires.room.lists.0 c.close_row-3.ensures;
  disks = shut_disks c.args.locks.common.value c.args.locks.disks.items c.args.firsts.disks.items c.args.room.disks.items c.close_disks.new.shut.items c.requires.room.disks.0 c.requires.locks.disks.named c.close_disks.ensures;
  books = all_added (IsShutAt thing_of book_mark BookAnswers) c.args.locks.books.items c.args.firsts.books.items c.args.room.books.items c.close_row-4.new.shut.items c.requires.room.books.0 c.close_row-4.ensures;
  tally = record { left = c.close-2.ensures.thing; told_is = c.close-2.ensures.told; all = c.close-2.ensures.all };
}
