-- A world as functions, and what an accepted event changes there: one office, by its own answer.
use Rattle.std.specs.Prelude.{◌≡◌, ◌⊎◌, ℕ, List, [], ◌∷◌, ◌++◌, length, true, Some, Ok, nat_lt, slice_get}
use Rattle.bottle_values.specs.Maps.{put}
use Rattle.frame_codec.specs.Frame.{Fields}
use Rattle.office_map.specs.PlanValue.{PlanValue}
use Rattle.office_journal.specs.declared.event.Event as office
use Rattle.office_journal.specs.declared.event.Event.TheVariants as event
use Rattle.office_journal.specs.declared.event.Entry.{Entry}
use Rattle.office_journal.specs.declared.reply.Reply.{Reply}
use Rattle.site_core.specs.Offices.{Office, answer}
use Rattle.site_core.specs.Offices as site
use Rattle.frame_world.specs.Worlds.{World, Finished, site_at, office_at, frames_of, finished_by}

pub record State : Type 0 where
  pub office : ℕ → Office
  pub journal : ℕ → List Entry
  pub frames : List Fields
  pub finished : List Finished

abbrev pub state_of : World → State
state_of w = record { office = office_at w; journal = λ a. (site_at w a).entries; frames = w.frames; finished = w.finished }

abbrev pub starting : PlanValue → State
starting plan = record { office = site.opened plan; journal = λ a. []; frames = []; finished = [] }

-- what can be handed to an office: of frames those that were sent to it
abbrev pub MayCome : List Fields → ℕ → office.Event → Type 0
MayCome frames a (event.Submit p) = Unit {0}
MayCome frames a (event.Do rule) = Unit {0}
MayCome frames a (event.Send v i) = Unit {0}
MayCome frames a (event.Withdraw t) = Unit {0}
MayCome frames a (event.Took f) = (f.to ≡ a) × (k : ℕ) × (slice_get frames k ≡ Some f)

abbrev pub entry_of : office.Event → Reply → Entry
entry_of e r = record { tag = 0; event = e; reply = r }

abbrev pub after_reply : State → ℕ → office.Event → Reply → Office → State
after_reply s a e r o = record {
  office = put s.office a o;
  journal = put s.journal a (s.journal a ++ entry_of e r ∷ []);
  frames = s.frames ++ frames_of r;
  finished = s.finished ++ finished_by a (s.office a).agenda.current e;
}

-- an accepted event
pub record IsAccepted (plan : PlanValue) (s s' : State) : Type 0 where
  pub place : ℕ
  pub event : office.Event
  pub reply : Reply
  pub new : Office
  pub inside : nat_lt place (length plan.offices) ≡ true
  pub comes : MayCome s.frames place event
  pub answered : answer plan place (s.office place) event ≡ Ok (reply, new)
  pub led : s' ≡ after_reply s place event reply new

-- each office has the plan and its number
pub record IsSeated (plan : PlanValue) (w : World) : Type 0 where
  pub planned : w.plan ≡ plan
  pub size : length w.sites ≡ length plan.offices
  pub plans : (a : ℕ) → (site_at w a).plan ≡ plan
  pub numbers : (a : ℕ) → (site_at w a).me ≡ a

-- what an event leaves: the world as it was, or an accepted event's
pub record Left (plan : PlanValue) (w w' : World) : Type 0 where
  pub seated : IsSeated plan w'
  pub led : (state_of w' ≡ state_of w) ⊎ IsAccepted plan (state_of w) (state_of w')
