use Rattle.site_core.proofs.NoneNext.{at_rest}
use Rattle.site_core.proofs.laws.none_next_is_at_rest.Goals as goal

pub returns : goal.returns
returns c = at_rest
