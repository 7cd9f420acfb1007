use Rattle.locked_office.proofs.DeskCrosses.{desk_sync}
use Rattle.locked_office.proofs.laws.threads_share_a_desk.Goals as goal

pub returns : goal.returns
returns c = desk_sync c.an_office_crosses_threads.ensures
