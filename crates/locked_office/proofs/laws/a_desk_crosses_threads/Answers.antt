use Rattle.locked_office.proofs.DeskCrosses.{desk_send}
use Rattle.locked_office.proofs.laws.a_desk_crosses_threads.Goals as goal

pub returns : goal.returns
returns c = desk_send c.an_office_crosses_threads.ensures
