use Rattle.site_core.proofs.OfficeCrosses.{office_send}
use Rattle.site_core.proofs.laws.an_office_crosses_threads.Goals as goal

pub returns : goal.returns
returns c = office_send
