-- What the work of a text is like of which no line is refused.
use Rattle.std.specs.Prelude.{◌≡◌, ◌≤◌, ℕ, List, [], length, All, Ok, Some}
use Rattle.std.specs.List.{AllPairs}
use Rattle.stack_base.specs.declared.ids.PoolId.{PoolId}
use Rattle.stack_base.specs.declared.ids.PoolId.TheVariants.{FsBios, FsVecs, Bios, Records}
use Rattle.stack_base.specs.declared.stack.Stack.{Stack}
use Rattle.layout_model.specs.declared.write.Write.{Write}
use Rattle.layout_model.specs.OneWay.{AreApartByRounds}
use Rattle.decl_text.specs.Accepting.{shown_devices}
use Rattle.decl_text.specs.Fit.{IsReserve}
use Rattle.decl_text.specs.Known.{Declared, bios_pool_of, records_pool_of, pool_if}
use Rattle.decl_text.specs.Reading.{declarations}
use Rattle.decl_text.specs.declared.accepted.Accepted.{Accepted}
use Rattle.work_text.specs.Reading.{ReadsWork, work_lines}
use Rattle.work_text.specs.Work.{last_round}
use Rattle.work_text.specs.declared.Resize.{Resize}
use Rattle.work_text.specs.declared.Work.{Work}

-- a pool of the writers, or one that the device with its number has
abbrev pub IsPoolIn : List Declared → PoolId → Type 0
IsPoolIn devices FsBios = Unit {0}
IsPoolIn devices FsVecs = Unit {0}
IsPoolIn devices (Bios dev) = pool_if bios_pool_of devices dev.0 ≡ Some (Bios dev)
IsPoolIn devices (Records dev) = pool_if records_pool_of devices dev.0 ≡ Some (Records dev)

pub record IsFitWork (stack : Stack) (work : Work) : Type 0 where
  -- writers have numbers up to 7
  pub writers : All (λ (write : Write). write.task ≤ 7) work.writes.items
  -- each write has a round, and they do not fall
  pub paired : length work.rounds.items ≡ length work.writes.items
  pub order : AllPairs (λ round later. round ≤ later) work.rounds.items
  -- writes go to devices that are no members, and no two of one round have a sector in common
  pub apart : AreApartByRounds stack work.writes.items work.rounds.items
  -- a pool keeps 1 to 1,024 elements
  pub reserves : All (λ (resize : Resize). IsReserve resize.min) work.resizes.items
  -- 1,024 `sync` lines and 4,096 `resize` lines at most
  pub last : last_round work.rounds.items ≤ 1024
  pub few : length work.resizes.items ≤ 4096
  -- no write has more than 256 segments of eight sectors
  pub segments : All (λ (write : Write). write.count ≤ 2048) work.writes.items
  -- the stack has each pool whose reserve changes
  pub pools : All (λ (resize : Resize). IsPoolIn (shown_devices stack) resize.pool) work.resizes.items

-- the lines from the first write or `sync` line on mean such work, if none of them is refused
abbrev pub WorkIsFit : Type 0
WorkIsFit = (text : List ℕ) (accepted : Accepted) (work : Work) → declarations (work_lines text accepted) ≡ [] → ReadsWork text accepted (Ok work) → IsFitWork accepted.stack work
