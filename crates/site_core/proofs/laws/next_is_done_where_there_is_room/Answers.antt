use Rattle.site_core.proofs.WantOfRoom.{next_is_done_where_there_is_room}
use Rattle.site_core.proofs.laws.next_is_done_where_there_is_room.Goals as goal

pub returns : goal.returns
returns c = next_is_done_where_there_is_room
