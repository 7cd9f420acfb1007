-- An entry that an office gives next.
use Rattle.std.specs.Prelude.{◌<◌}
use Rattle.office_journal.specs.declared.event.Entry.{Entry}
use Rattle.site_core.specs.Journals.{Site}
use Rattle.site_core.specs.Reopening.{GivesAs}

-- the office accepts the event of an entry with the entry's tag, and its reply is the entry's
pub record Gives (s : Site) (x : Entry) : Type 0 where
  pub tag : x.tag < 16
  pub step : GivesAs x.tag s x
