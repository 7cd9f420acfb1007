-- The world that the code keeps: of a finished session it keeps the office and the ticket, and of a frame the office and the entry.
use Rattle.std.specs.Prelude.{◌≡◌, ℕ, ◌<◌, Bool, true, ◌==◌, List, [], ◌∷◌, ◌++◌, length, map, get_or, find, Option, None, is_some, unwrap_or, All}
use Rattle.bottle_values.specs.declared.version.Version.TheVariants.{One}
use Rattle.frame_codec.specs.Frame.{Fields, IsFrame}
use Rattle.office_map.specs.PlanValue.{PlanValue}
use Rattle.office_map.specs.Consistency.{IsAccepted}
use Rattle.session_meaning.specs.declared.ending.End.TheVariants.{Done}
use Rattle.session_meaning.specs.Tree.{Nothing}
use Rattle.office_journal.specs.declared.event.Event.{Event}
use Rattle.office_journal.specs.declared.event.Entry.{Entry}
use Rattle.site_core.specs.Offices.{Office, opened}
use Rattle.site_core.specs.Journals.{Site, office_of, after, IsLegal}
use Rattle.frame_world.specs.declared.sent.SentAt.{SentAt}
use Rattle.frame_world.specs.Worlds.{World, Finished, silent, finished_by}
use Rattle.frame_world.specs.Sent.{told_at}
use Rattle.frame_world.specs.Headline.{IsReached}
use Rattle.world_schedule.specs.declared.finished.Finished as mark

-- the sessions that an office finishes by an event
abbrev pub finishes : Site → Event → List Finished
finishes s e = finished_by s.me (office_of s).agenda.current e

-- those that it finishes by these entries, in order
abbrev pub finished_from : PlanValue → ℕ → Office → List Entry → List Finished
finished_from plan me o [] = []
finished_from plan me o (x ∷ xs) = finished_by me o.agenda.current x.event ++ finished_from plan me (after plan me o x.event) xs

-- those of its whole journal
unfoldable pub finished_of : Site → List Finished
finished_of s = finished_from s.plan s.me (opened s.plan s.me) s.entries

-- what stands for a session that no office finished
abbrev pub no_session : Finished
no_session = record {
  program = record { office = 0; variables = []; body = Nothing };
  outcome = record { office = 0; ticket = 0; ending = record { end = Done; reads = []; writes = []; gives = [] } };
}

abbrev pub has_ticket : ℕ → Finished → Bool
has_ticket ticket f = f.outcome.ticket == ticket

-- the session that the office finished with that ticket
abbrev pub found_in : PlanValue → List Site → mark.Finished → Option Finished
found_in plan sites m = find (has_ticket m.ticket) (finished_of (get_or sites m.office (silent plan m.office)))

abbrev pub finished_in : PlanValue → List Site → mark.Finished → Finished
finished_in plan sites m = unwrap_or (found_in plan sites m) no_session

-- what stands for a frame that no entry tells
abbrev pub no_frame : Fields
no_frame = record { version = One; run = 0; from = 0; to = 0; number = 0; count = 0; msg = None }

abbrev pub frame_in : PlanValue → List Site → SentAt → Fields
frame_in plan sites m = unwrap_or (told_at plan sites m) no_frame

-- the frames that are told there
abbrev pub frames_in : PlanValue → List Site → List SentAt → List Fields
frames_in plan sites sent = map (frame_in plan sites) sent

-- an entry tells a frame there
abbrev pub IsTold : PlanValue → List Site → SentAt → Type 0
IsTold plan sites m = is_some (told_at plan sites m) ≡ true

abbrev pub AreTold : PlanValue → List Site → List SentAt → Type 0
AreTold plan sites sent = All (IsTold plan sites) sent

abbrev pub world_in : PlanValue → List Site → List Fields → List mark.Finished → World
world_in plan sites frames marks = record { plan = plan; sites = sites; frames = frames; finished = map (finished_in plan sites) marks }

-- the site is of this plan and office, and its journal is legal
abbrev pub IsSiteOf : PlanValue → ℕ → Site → Type 0
IsSiteOf plan a s = (s.plan ≡ plan) × (s.me ≡ a) × IsLegal s

-- the office finished a session with that ticket
abbrev pub IsKnown : PlanValue → List Site → mark.Finished → Type 0
IsKnown plan sites m = (m.office < length sites) × (is_some (found_in plan sites m) ≡ true)

-- there is each office of an accepted plan, events led to them, and each frame is in the format's ranges
pub record IsWorld (plan : PlanValue) (sites : List Site) (frames : List Fields) (marks : List mark.Finished) : Type 0 where
  pub accepted : IsAccepted plan
  pub count : length sites ≡ length plan.offices
  pub each : (a : ℕ) → a < length sites → IsSiteOf plan a (get_or sites a (silent plan a))
  pub known : All (IsKnown plan sites) marks
  pub fit : All IsFrame frames
  pub reached : IsReached (world_in plan sites frames marks)
