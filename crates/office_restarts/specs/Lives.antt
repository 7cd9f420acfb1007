-- Offices that keep their journals in stores, and are lost and opened again: what each has, how much of it stands in its
-- store, and which frames left.
use Rattle.std.specs.Prelude.{ℕ, zero, suc, ◌+◌, min, nat_lt, if◌then◌else◌, List, [], ◌∷◌, ◌++◌, length, take, slice_get, Option, None, Some, Result, Ok, Err}
use Rattle.bottle_values.specs.Maps.{put}
use Rattle.frame_codec.specs.Frame.{Fields}
use Rattle.office_map.specs.PlanValue.{PlanValue}
use Rattle.office_journal.specs.declared.event.Event as office
use Rattle.office_journal.specs.declared.event.Event.TheVariants as event
use Rattle.office_journal.specs.declared.event.Entry.{Entry}
use Rattle.office_journal.specs.declared.reply.Reply.{Reply}
use Rattle.office_journal.specs.declared.reply.Refusal.{Refusal}
use Rattle.site_core.specs.Journals.{Site, step}
use Rattle.frame_world.specs.declared.event.WorldEvent.{WorldEvent}
use Rattle.frame_world.specs.declared.event.WorldEvent.TheVariants as happening
use Rattle.frame_world.specs.Worlds.{frames_of}
use Rattle.site_core.specs.Reopening.{site_with}

-- the journal that each office has, how many of its first entries stand in its store, and the frames that left, the first first
pub record Lives : Type 0 where
  pub plan : PlanValue
  pub journal : ℕ → List Entry
  pub stood : ℕ → ℕ
  pub left : List Fields

-- before anything happened
abbrev pub newborn : PlanValue → Lives
newborn plan = record { plan = plan; journal = λ a. []; stood = λ a. 0; left = [] }

abbrev pub site_in : Lives → ℕ → Site
site_in l a = site_with l.plan a (l.journal a)

-- the entries of an office that stand
abbrev pub standing : Lives → ℕ → List Entry
standing l a = take (l.stood a) (l.journal a)

-- ---- what an event leaves

-- a refused event changes nothing; an accepted one is an entry more, which doesn't stand yet
abbrev pub answered : Lives → ℕ → Result Reply Refusal × Site → Lives
answered l a (Ok r, s) = record { plan = l.plan; journal = put l.journal a s.entries; stood = l.stood; left = l.left }
answered l a (Err why, s) = l

abbrev pub handed : Lives → ℕ → ℕ → office.Event → Lives
handed l a tag e = if nat_lt a (length l.plan.offices) then answered l a (step (site_in l a) tag e) else l

-- a frame that left comes to its addressee
abbrev pub arrives : Lives → ℕ → Option Fields → Lives
arrives l tag None = l
arrives l tag (Some f) = handed l f.to tag (event.Took f)

-- as in a world without stores, but that of the frames those that left may come
abbrev pub happens : Lives → ℕ → WorldEvent → Lives
happens l tag (happening.Submit a p) = handed l a tag (event.Submit p)
happens l tag (happening.Withdraw a ticket) = handed l a tag (event.Withdraw ticket)
happens l tag (happening.Do a rule) = handed l a tag (event.Do rule)
happens l tag (happening.Send a v i) = handed l a tag (event.Send v i)
happens l tag (happening.Deliver zero) = l
happens l tag (happening.Deliver (suc k)) = arrives l tag (slice_get l.left k)

-- the frame of an entry leaves, if it has one
abbrev pub leaves : Lives → Option Entry → Lives
leaves l None = l
leaves l (Some x) = record { plan = l.plan; journal = l.journal; stood = l.stood; left = l.left ++ frames_of x.reply }

-- ---- histories

-- An event is handed to an office, with a tag; so many more of an office's entries stand now; of those that stand the frame of
-- one leaves, this one from 0, also again; an office is lost, and opened again with the entries that stood and so many more.
pub data Happening : Type 0 where
  Handed : (tag : ℕ) (e : WorldEvent) → Happening
  Stored : (a n : ℕ) → Happening
  Left : (a k : ℕ) → Happening
  Lost : (a n : ℕ) → Happening

-- what each of these leaves
abbrev pub after : Lives → Happening → Lives
after l (Handed tag e) = happens l tag e
after l (Stored a n) = record { plan = l.plan; journal = l.journal; stood = put l.stood a (min (l.stood a + n) (length (l.journal a))); left = l.left }
after l (Left a k) = leaves l (slice_get (standing l a) k)
after l (Lost a n) = record { plan = l.plan; journal = put l.journal a (take (l.stood a + n) (l.journal a)); stood = l.stood; left = l.left }

-- what one after the other leave
abbrev pub goes_on : Lives → List Happening → Lives
goes_on l [] = l
goes_on l (h ∷ hs) = goes_on (after l h) hs

-- what a history leaves, from the start on
abbrev pub lived : PlanValue → List Happening → Lives
lived plan = goes_on (newborn plan)
