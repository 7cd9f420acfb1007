use Rattle.site_core.proofs.LinksGrow.{links_only_grow}
use Rattle.site_core.proofs.laws.links_only_grow.Goals as goal

pub returns : goal.returns
returns c = links_only_grow
