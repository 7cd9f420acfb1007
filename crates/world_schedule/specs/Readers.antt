-- What can be asked of a world.
use Rattle.std.specs.Prelude.{ℕ}
use Rattle.std.specs.List.{sum_by}
use Rattle.session_meaning.specs.declared.ending.Outcome.{Outcome}
use Rattle.site_core.specs.Agenda.{unfinished}
use Rattle.site_core.specs.Journals.{Site, office_of}
use Rattle.frame_world.specs.Worlds.{World, Finished}
use Rattle.world_schedule.specs.declared.finished.Finished as entry

-- how many submitted sessions of all offices have neither finished nor been withdrawn
abbrev pub unfinished_in : World → ℕ
unfinished_in w = sum_by (λ (s : Site). unfinished (office_of s).agenda) w.sites

-- the office and the ticket of an outcome
abbrev pub mark_of : Outcome → entry.Finished
mark_of o = record { office = o.office; ticket = o.ticket }

-- a finished session's office and ticket
abbrev pub listed_as : Finished → entry.Finished
listed_as f = mark_of f.outcome
