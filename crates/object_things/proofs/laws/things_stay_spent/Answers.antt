use Rattle.object_things.specs.Books.{BookServes, BookLooks}
use Rattle.object_things.specs.Disks.{DiskChooses, DiskServes, DiskLooks}
use Rattle.object_things.specs.Lists.{ListServes, ListLooks}
use Rattle.object_things.specs.Pools.{PoolServes, PoolLooks}
use Rattle.object_things.specs.Stamps.{ChoosesNone}
use Rattle.object_things.specs.Tallies.{TallyServes, TallyLooks}
use Rattle.object_things.proofs.Looking.{book_quiet, tally_quiet, disk_quiet, list_quiet, pool_quiet}
use Rattle.object_things.proofs.Refused.{book_stays, tally_stays, disk_stays, list_stays, pool_stays}
use Rattle.object_things.proofs.TicketsRise.{stays_spent}
use Rattle.object_things.proofs.SpentMarks.{book_unserved, book_found, book_keeps, tally_unserved, tally_found, tally_keeps, disk_unserved, disk_found, disk_keeps, list_unserved, list_found, list_keeps, pool_unserved, pool_found, pool_keeps}
use Rattle.object_things.proofs.laws.things_stay_spent.Goals as goal

-- src/laws.rt
pub returns-clause-pools : goal.returns-clause-pools
returns-clause-pools c = stays_spent PoolServes PoolLooks ChoosesNone pool_quiet pool_stays pool_unserved pool_found pool_keeps

pub returns-clause-lists : goal.returns-clause-lists
returns-clause-lists c = stays_spent ListServes ListLooks ChoosesNone list_quiet list_stays list_unserved list_found list_keeps

pub returns-clause-disks : goal.returns-clause-disks
returns-clause-disks c = stays_spent DiskServes DiskLooks DiskChooses disk_quiet disk_stays disk_unserved disk_found disk_keeps

pub returns-clause-books : goal.returns-clause-books
returns-clause-books c = stays_spent BookServes BookLooks ChoosesNone book_quiet book_stays book_unserved book_found book_keeps

pub returns-clause-tally : goal.returns-clause-tally
returns-clause-tally c = stays_spent TallyServes TallyLooks ChoosesNone tally_quiet tally_stays tally_unserved tally_found tally_keeps
