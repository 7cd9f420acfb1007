use Rattle.site_core.proofs.BytesComing.{received}
use Rattle.site_core.proofs.laws.what_is_read_is_received.Goals as goal

pub returns : goal.returns
returns c = received c.steps_add_their_entry.ensures
