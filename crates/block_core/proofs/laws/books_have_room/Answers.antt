use Rattle.block_core.proofs.unrefused.RoomKept.{books_have_room}
use Rattle.block_core.proofs.laws.books_have_room.Goals as goal

-- src/laws.rt
pub returns : goal.returns
returns c = books_have_room
