-- What a random run may be, and what is told of it. Which events are drawn is left open.
use Rattle.std.specs.Prelude.{◌≡◌, ◌+◌, ◌-◌, ◌<◌, ◌≤◌, ℕ, Bool, false, true, if◌then◌else◌, List, [], ◌∷◌, ◌++◌, length, Option, None, Some, All, IsOk, IsPermutation}
use Rattle.std.specs.List.{count_by, flat_map}
use Rattle.office_map.specs.PlanValue.{PlanValue, are_neighbours}
use Rattle.session_meaning.specs.ProgramValue.{ProgramValue}
use Rattle.site_core.specs.Journals.{Site, office_of}
use Rattle.site_core.specs.RuleOrder.{next_rule}
use Rattle.frame_world.specs.declared.event.WorldEvent.{WorldEvent}
use Rattle.frame_world.specs.declared.event.WorldEvent.TheVariants as happening
use Rattle.frame_world.specs.Worlds.{World, opening, site_at, office_at, happens, run_of}
use Rattle.frame_world.specs.EveryWorld.{HasHeadline}
use Rattle.session_reports.specs.declared.form.forms.Form.{Form}
use Rattle.world_schedule.specs.reports.WorldReport.{world_report}

-- the program that an event submits
abbrev pub submitted_by : WorldEvent → List ProgramValue
submitted_by (happening.Submit a p) = p ∷ []
submitted_by (happening.Withdraw a ticket) = []
submitted_by (happening.Do a rule) = []
submitted_by (happening.Send a v i) = []
submitted_by (happening.Deliver k) = []

-- its own office refuses the session in this world
abbrev pub IsRefused : World → ProgramValue → Type 0
IsRefused w p = IsOk (happens w (happening.Submit p.office p)).0 → ⊥

-- ---- what may be drawn for a step

-- how many of the frames that were sent last may come
abbrev pub last_frames : ℕ
last_frames = 64

-- the frame of this number, from 1, is one of these
abbrev pub IsRecent : World → ℕ → Type 0
IsRecent w k = (0 < k) × (k ≤ length w.frames) × (length w.frames < k + last_frames)

-- how many messages wait at an office for another
abbrev pub messages_at : Site → ℕ → ℕ
messages_at s v = if are_neighbours s.plan s.me v then length ((office_of s).pairs.link v).sending.waiting else 0

-- a message waits at the office for this one, as which of those, from 1
abbrev pub Waits : World → ℕ → ℕ → ℕ → Type 0
Waits w a v i = (v < length w.plan.offices) × (0 < i) × (i ≤ messages_at (site_at w a) v)

-- What may happen in a world: a session is submitted at its own office, which takes it; an office does the rule that comes next
-- there; it makes a frame of a message that waits; or, where fewer than a hundred of a hundred are lost, a recent frame comes. None
-- is withdrawn.
abbrev pub MayHappen : ℕ → World → WorldEvent → Type 0
MayHappen loss w (happening.Submit a p) = (a ≡ p.office) × IsOk (happens w (happening.Submit a p)).0
MayHappen loss w (happening.Withdraw a ticket) = ⊥
MayHappen loss w (happening.Do a rule) = next_rule w.plan a (office_at w a) ≡ Some rule
MayHappen loss w (happening.Send a v i) = Waits w a v i
MayHappen loss w (happening.Deliver k) = (loss < 100) × IsRecent w k

-- Why a step may be drawn by which nothing happens: an office of the plan has no rule to do, or no message that waits; no frame was
-- sent; or some are lost.
pub data MayPass (loss : ℕ) (w : World) : Type 0 where
  Resting : (a : ℕ) → a < length w.plan.offices → next_rule w.plan a (office_at w a) ≡ None → MayPass loss w
  Silent : (a : ℕ) → a < length w.plan.offices → ((v : ℕ) → v < length w.plan.offices → messages_at (site_at w a) v ≡ 0) → MayPass loss w
  Unsent : length w.frames ≡ 0 → MayPass loss w
  Lost : 0 < loss → MayPass loss w

-- ---- a run, move by move: an event, or a step by which nothing happens

-- the move may be made in this world
abbrev pub MayBe : ℕ → World → Option WorldEvent → Type 0
MayBe loss w None = MayPass loss w
MayBe loss w (Some e) = MayHappen loss w e

-- the events of a move
abbrev pub events_in : Option WorldEvent → List WorldEvent
events_in None = []
events_in (Some e) = e ∷ []

-- the events of moves, in order
abbrev pub events_of : List (Option WorldEvent) → List WorldEvent
events_of = flat_map events_in

-- the programs that a move submits
abbrev pub submitted_in : Option WorldEvent → List ProgramValue
submitted_in m = flat_map submitted_by (events_in m)

-- the programs that moves submit, in order
abbrev pub submitted : List (Option WorldEvent) → List ProgramValue
submitted = flat_map submitted_in

-- a move is a step, unless it submits a session
abbrev pub is_step : Option WorldEvent → Bool
is_step (Some (happening.Submit a p)) = false
is_step _ = true

-- how many moves are steps
abbrev pub steps_in : List (Option WorldEvent) → ℕ
steps_in = count_by is_step

-- Each of these moves may be made, one after the other; and before each step, all sessions that are submitted later or left at
-- last are refused, so that each was submitted as soon as its office took it.
abbrev pub MayAllBe : ℕ → World → List (Option WorldEvent) → List ProgramValue → Type 0
MayAllBe loss w [] left = Unit {0}
MayAllBe loss w (m ∷ ms) left =
    MayBe loss w m
    × (is_step m ≡ true → All (IsRefused w) (submitted ms ++ left))
    × MayAllBe loss (run_of w (events_in m)) ms left

-- Moves that may be made lead from one world to the other, of which so many are steps. They submit sessions of a list, each as often
-- as it stands there at most; those that are left are the other list.
pub record Leads (loss steps : ℕ) (w w' : World) (sessions left : List ProgramValue) : Type 0 where
  pub moves : List (Option WorldEvent)
  pub led : run_of w (events_of moves) ≡ w'
  pub each : MayAllBe loss w moves left
  pub once : IsPermutation (submitted moves ++ left) sessions
  pub made : steps_in moves ≡ steps

-- So many of the steps are made, and none is left out until all of so many sessions have finished.
abbrev pub AreMade : ℕ → ℕ → ℕ → World → Type 0
AreMade made steps all w = (made ≤ steps) × (made < steps → all ≤ length w.finished)

-- such moves led to it from the plan's opening, with no sessions but these and as many steps, and the sessions that are left are
-- refused there
pub record IsRun (p : PlanValue) (programs : List ProgramValue) (loss steps : ℕ) (w : World) : Type 0 where
  pub left : List ProgramValue
  pub made : ℕ
  pub leads : Leads loss made (opening p) w programs left
  pub enough : AreMade made steps (length programs) w
  pub refused : All (IsRefused w) left

-- how many sessions of a file haven't finished in a world
abbrev pub unfinished_of : List ProgramValue → World → ℕ
unfinished_of programs w = length programs - length w.finished

-- the report of such a run's world, in that form, with how many of the file's sessions haven't finished
pub record Tells (form : Form) (p : PlanValue) (programs : List ProgramValue) (loss steps : ℕ) (world : World) (text : List ℕ) : Type 0 where
  pub run : IsRun p programs loss steps world
  pub headline : HasHeadline world
  pub told : text ≡ world_report form world (unfinished_of programs world)
