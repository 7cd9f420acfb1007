use Rattle.site_core.proofs.WantOfRoom.{full_at_the_limit}
use Rattle.site_core.proofs.laws.full_at_the_limit.Goals as goal

pub returns : goal.returns
returns c = full_at_the_limit
