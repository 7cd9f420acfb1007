-- What is seen of an office that follows its journal.
use Rattle.std.specs.Prelude.{Option}
use Rattle.site_core.specs.Journals.{Site}
use Rattle.journal_weave.specs.declared.stop.Stop.{Stop}

-- the office as its journal tells it, and where it doesn't follow, if that is somewhere
pub record ReplayValue : Type 0 where
  pub site : Site
  pub stop : Option Stop
