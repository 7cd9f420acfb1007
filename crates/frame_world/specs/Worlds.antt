-- The offices of a plan with their journals, every frame that was ever sent, and what finished; and what an event does.
use Rattle.std.specs.Prelude.{◌≡◌, ℕ, zero, suc, ◌<◌, nat_lt, if◌then◌else◌, List, [], ◌∷◌, ◌++◌, length, map, take, slice_get, get_or, set, Option, None, Some, Result, Ok, Err, IsOk, ◌⊎◌}
use Rattle.std.specs.List.{range_with_len}
use Rattle.frame_codec.specs.Frame.{Fields}
use Rattle.office_map.specs.PlanValue.{PlanValue}
use Rattle.session_meaning.specs.declared.ending.Ending.{Ending}
use Rattle.session_meaning.specs.declared.ending.Outcome.{Outcome}
use Rattle.session_meaning.specs.ProgramValue.{ProgramValue}
use Rattle.session_machine.specs.Pieces.{ending_after}
use Rattle.site_core.specs.declared.agendas.session.Session.{Session}
use Rattle.office_journal.specs.declared.rule.Rule.TheVariants as rule
use Rattle.office_journal.specs.declared.event.Event as office
use Rattle.office_journal.specs.declared.event.Event.TheVariants as event
use Rattle.office_journal.specs.declared.reply.Reply.{Reply}
use Rattle.office_journal.specs.declared.reply.Reply.TheVariants as reply
use Rattle.office_journal.specs.declared.reply.Refusal as offices
use Rattle.office_journal.specs.declared.reply.Refusal.TheVariants as refused
use Rattle.site_core.specs.Agenda.{Current, Idle, Gathering, Working}
use Rattle.site_core.specs.Offices.{Office}
use Rattle.site_core.specs.Journals.{Site, office_of, step}
use Rattle.frame_world.specs.declared.event.WorldEvent.{WorldEvent}
use Rattle.frame_world.specs.declared.event.WorldEvent.TheVariants as happening
use Rattle.frame_world.specs.declared.refusal.WorldRefusal.{WorldRefusal}
use Rattle.frame_world.specs.declared.refusal.WorldRefusal.TheVariants as refusal

-- a session that finished: its program, and what is told of it
pub record Finished : Type 0 where
  pub program : ProgramValue
  pub outcome : Outcome

-- A plan; the offices in order of number, each as its journal tells it; all frames, the first sent first; and the
-- finished sessions, in finishing order.
pub record World : Type 0 where
  pub plan : PlanValue
  pub sites : List Site
  pub frames : List Fields
  pub finished : List Finished

-- an office that accepted nothing
abbrev pub silent : PlanValue → ℕ → Site
silent plan a = record { plan = plan; me = a; entries = [] }

-- the world as the plan starts it: no office accepted anything
abbrev pub opening : PlanValue → World
opening plan = record { plan = plan; sites = map (silent plan) (range_with_len 0 (length plan.offices)); frames = []; finished = [] }

-- the journal of an office
abbrev pub site_at : World → ℕ → Site
site_at w a = get_or w.sites a (silent w.plan a)

-- where the office is at its end
abbrev pub office_at : World → ℕ → Office
office_at w a = office_of (site_at w a)

-- ---- what an event leaves

-- the frame that a reply tells
abbrev pub frames_of : Reply → List Fields
frames_of (reply.Frame f) = f ∷ []
frames_of _ = []

-- the session that the office finishes, if its work has ended
abbrev pub ended_as : ℕ → Session → Option Ending → List Finished
ended_as a s None = []
ended_as a s (Some e) = record { program = s.program; outcome = record { office = a; ticket = s.ticket; ending = e } } ∷ []

abbrev pub ended : ℕ → Current → List Finished
ended a Idle = []
ended a (Gathering s) = []
ended a (Working s reads done) = ended_as a s (ending_after s.program reads done)

-- a session finishes by the rule of that name alone
abbrev pub finished_by : ℕ → Current → office.Event → List Finished
finished_by a c (event.Do rule.Finish) = ended a c
finished_by a c _ = []

-- ---- events

-- what is answered, and the world then
abbrev pub Answer : Type 0
Answer = Result Reply WorldRefusal × World

-- what is told of what an office did, where it is this site then; refused events change nothing
abbrev pub told : World → ℕ → office.Event → Result Reply offices.Refusal × Site → Answer
told w a e (Ok r, s) = (
  Ok r,
  record {
    plan = w.plan;
    sites = set w.sites a s;
    frames = w.frames ++ frames_of r;
    finished = w.finished ++ finished_by a (office_at w a).agenda.current e;
  },
)
told w a e (Err r, s) = (Err (refusal.Office r), w)

-- an event is handed to an office, with the tag 0
abbrev pub handed : World → ℕ → office.Event → Answer
handed w a e = if nat_lt a (length w.sites) then told w a e (step (site_at w a) 0 e) else (Err refusal.NoOffice, w)

-- the k-th frame, from 1
abbrev pub frame_at : World → ℕ → Option Fields
frame_at w zero = None
frame_at w (suc k) = slice_get w.frames k

-- it comes to its addressee
abbrev pub delivered : World → Option Fields → Answer
delivered w None = (Err refusal.NoFrame, w)
delivered w (Some f) = handed w f.to (event.Took f)

-- What an event answers, and the world after it: an office's own step, whose frame is kept and whose finished session
-- is put last; or the k-th frame comes to its addressee.
abbrev pub happens : World → WorldEvent → Answer
happens w (happening.Submit a p) = handed w a (event.Submit p)
happens w (happening.Withdraw a ticket) = handed w a (event.Withdraw ticket)
happens w (happening.Do a rule) = handed w a (event.Do rule)
happens w (happening.Send a v i) = handed w a (event.Send v i)
happens w (happening.Deliver k) = delivered w (frame_at w k)

-- one event after the other, a refused one changing nothing
abbrev pub run_of : World → List WorldEvent → World
run_of w [] = w
run_of w (e ∷ es) = run_of (happens w e).1 es

-- each event is accepted where it stands
abbrev pub AreAccepted : World → List WorldEvent → Type 0
AreAccepted w [] = Unit {0}
AreAccepted w (e ∷ es) = IsOk (happens w e).0 × AreAccepted (happens w e).1 es

-- what each of these events answers
abbrev pub replies_of : World → List WorldEvent → List (Result Reply WorldRefusal)
replies_of w [] = []
replies_of w (e ∷ es) = (happens w e).0 ∷ replies_of (happens w e).1 es

-- the answer and the world after it; or memory ran out where the event is accepted, and nothing changed
abbrev pub OrMemory : World → Answer → Result Reply WorldRefusal → World → Type 0
OrMemory w answer result w' =
    ((result ≡ Err (refusal.Office refused.Memory)) × (w' ≡ w) × IsOk answer.0)
    ⊎ ((result ≡ answer.0) × (w' ≡ answer.1))

-- the answer is the event's, with the world after it; or, of one that is accepted, `Memory` and the world as it was
abbrev pub Applies : World → WorldEvent → Result Reply WorldRefusal → World → Type 0
Applies w e result w' = OrMemory w (happens w e) result w'

-- A run that ends early did so many events, and the next one is accepted there, but for want of memory; or it did none, for
-- want of room for the replies.
pub record Stops (w : World) (events : List WorldEvent) (done : ℕ) (w' : World) : Type 0 where
  pub within : done < length events
  pub world : w' ≡ run_of w (take done events)
  pub next : (done ≡ 0) ⊎ ((e : WorldEvent) → slice_get events done ≡ Some e → IsOk (happens w' e).0)
