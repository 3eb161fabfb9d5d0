use Rattle.object_things.specs.Books.{BookServes, BookLooks}
use Rattle.object_things.specs.Disks.{DiskChooses, DiskServes, DiskLooks}
use Rattle.object_things.specs.Lists.{ListServes, ListLooks}
use Rattle.object_things.specs.Pools.{PoolServes, PoolLooks}
use Rattle.object_things.specs.Stamps.{ChoosesNone}
use Rattle.object_things.specs.Tallies.{TallyServes, TallyLooks}
use Rattle.object_things.proofs.Looking.{book_quiet, tally_quiet, disk_quiet, list_quiet, pool_quiet}
use Rattle.object_things.proofs.Refused.{book_stays, tally_stays, disk_stays, list_stays, pool_stays}
use Rattle.object_things.proofs.TicketsRise.{keeps_history}
use Rattle.object_things.proofs.laws.things_keep_histories.Goals as goal

-- src/laws.rt
pub returns-clause-pools : goal.returns-clause-pools
returns-clause-pools c = keeps_history PoolServes PoolLooks ChoosesNone pool_quiet pool_stays

pub returns-clause-lists : goal.returns-clause-lists
returns-clause-lists c = keeps_history ListServes ListLooks ChoosesNone list_quiet list_stays

pub returns-clause-disks : goal.returns-clause-disks
returns-clause-disks c = keeps_history DiskServes DiskLooks DiskChooses disk_quiet disk_stays

pub returns-clause-books : goal.returns-clause-books
returns-clause-books c = keeps_history BookServes BookLooks ChoosesNone book_quiet book_stays

pub returns-clause-tally : goal.returns-clause-tally
returns-clause-tally c = keeps_history TallyServes TallyLooks ChoosesNone tally_quiet tally_stays
