use Rattle.object_things.specs.Books.{BookServes, BookLooks, book_mark}
use Rattle.object_things.specs.Disks.{DiskChooses, DiskServes, DiskLooks, disk_mark}
use Rattle.object_things.specs.Homes.{PoolAddsUp, ListAddsUp, DiskAddsUp, BookAddsUp, TallyAddsUp}
use Rattle.object_things.specs.Lists.{ListServes, ListLooks, list_mark}
use Rattle.object_things.specs.Pools.{PoolServes, PoolLooks, pool_mark}
use Rattle.object_things.specs.Stamps.{ChoosesNone}
use Rattle.object_things.specs.Tallies.{TallyServes, TallyLooks, tally_mark}
use Rattle.object_things.proofs.Adding.{adds_up_at_home, pool_none, pool_one, list_none, list_one, disk_none, disk_one, tally_none, tally_one}
use Rattle.object_things.proofs.Counting.{book_none, book_one}
use Rattle.object_things.proofs.laws.things_add_up_at_home.Goals as goal

-- src/laws.rt
pub returns-clause-pools : goal.returns-clause-pools
returns-clause-pools c = adds_up_at_home pool_mark PoolServes PoolLooks ChoosesNone PoolAddsUp pool_none pool_one

pub returns-clause-lists : goal.returns-clause-lists
returns-clause-lists c = adds_up_at_home list_mark ListServes ListLooks ChoosesNone ListAddsUp list_none list_one

pub returns-clause-disks : goal.returns-clause-disks
returns-clause-disks c = adds_up_at_home disk_mark DiskServes DiskLooks DiskChooses DiskAddsUp disk_none disk_one

pub returns-clause-books : goal.returns-clause-books
returns-clause-books c = adds_up_at_home book_mark BookServes BookLooks ChoosesNone BookAddsUp book_none book_one

pub returns-clause-tally : goal.returns-clause-tally
returns-clause-tally c = adds_up_at_home tally_mark TallyServes TallyLooks ChoosesNone TallyAddsUp tally_none tally_one
