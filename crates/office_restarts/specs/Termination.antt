-- Offices that are lost and opened again come to the end of their sessions where they go on and messages arrive; and only so
-- many steps ever stand.
use Rattle.std.specs.Prelude.{◌≡◌, ℕ, zero, suc, ◌+◌, ◌<◌, ◌≤◌, Bool, false, List, [], length, map, sum_by, count_by, Ok}
use Rattle.std.specs.List.{range_with_len}
use Rattle.office_map.specs.PlanValue.{PlanValue}
use Rattle.office_map.specs.Consistency.{IsConsistent, IsAccepted}
use Rattle.office_journal.specs.declared.rule.Rule.{Rule}
use Rattle.office_journal.specs.declared.event.Event.{Event}
use Rattle.office_journal.specs.declared.event.Event.TheVariants as event
use Rattle.office_journal.specs.declared.event.Entry.{Entry}
use Rattle.site_core.specs.Reopening.{site_with}
use Rattle.frame_world.specs.Worlds.{World, opening}
use Rattle.frame_world.specs.Standstill.{MayDo, IsNextMessage, AllAreFinished}
use Rattle.frame_world.specs.WorkLeft.{session_work, work_left}
use Rattle.frame_world.specs.Termination.{is_step, is_submit}
use Rattle.office_restarts.specs.Lives.{Lives, Happening, Handed, Stored, Left, Lost, standing, after, lived}

-- What stands, as a world: each office is as its entries that stand tell it. Which sessions finished, in which order, isn't
-- looked at here.
abbrev pub durable_world : Lives → World
durable_world l = record { plan = l.plan; sites = map (λ a. site_with l.plan a (standing l a)) (range_with_len 0 (length l.plan.offices)); frames = l.left; finished = [] }

-- ---- how many steps stand

-- how many of these entries are steps: rules that are done, sessions that are withdrawn, messages that are taken
abbrev pub entry_steps : List Entry → ℕ
entry_steps = count_by (λ (x : Entry). is_step (Ok x.reply))

-- what an office's event adds to what is left to do
abbrev pub brought_by : PlanValue → ℕ → Event → ℕ
brought_by plan a (event.Submit p) = session_work plan a p
brought_by plan a (event.Do rule) = 0
brought_by plan a (event.Send v i) = 0
brought_by plan a (event.Took f) = 0
brought_by plan a (event.Withdraw ticket) = 0

-- and what all these entries do
abbrev pub entry_work : PlanValue → ℕ → List Entry → ℕ
entry_work plan a = sum_by (λ (x : Entry). brought_by plan a x.event)

-- the steps that stand, of all offices
abbrev pub durable_steps : Lives → ℕ
durable_steps l = sum_by (λ a. entry_steps (standing l a)) (range_with_len 0 (length l.plan.offices))

-- the work of all sessions whose submission stands
abbrev pub durable_work : Lives → ℕ
durable_work l = sum_by (λ a. entry_work l.plan a (standing l a)) (range_with_len 0 (length l.plan.offices))

-- After every history, what is left to do, as it stands, and the steps that stand are together no more than what the plan starts
-- with and what the sessions brought. So of all steps that were made, those beyond it were lost again, or don't stand yet.
abbrev pub FewStepsStand : Type 0
FewStepsStand = (plan : PlanValue) (history : List Happening) → IsConsistent plan →
    durable_steps (lived plan history) + work_left (durable_world (lived plan history)) ≤ work_left (opening plan) + durable_work (lived plan history)

-- ---- who goes on comes to the end

-- what the first n of endless happenings leave
abbrev pub later : Lives → (ℕ → Happening) → ℕ → Lives
later l happenings zero = l
later l happenings (suc n) = after (later l happenings n) (happenings n)

abbrev pub is_submission : Happening → Bool
is_submission (Handed tag e) = is_submit e
is_submission (Stored a n) = false
is_submission (Left a k) = false
is_submission (Lost a n) = false

-- sooner or later a step more of the office stands
abbrev pub OneMoreIsDurable : (ℕ → Lives) → ℕ → ℕ → Type 0
OneMoreIsDurable at n a = (m : ℕ) × (n ≤ m) × (entry_steps (standing (at n) a) < entry_steps (standing (at m) a))

-- Each office goes on with its rounds: where it may do a rule, as it stands, sooner or later one step more of it stands. And of
-- each message that waits, as both offices stand, some frame arrives: sooner or later one step more stands of who is to take it.
pub record GoOn (at : ℕ → Lives) : Type 0 where
  pub rounds : (n a : ℕ) (rule : Rule) → MayDo (durable_world (at n)) a rule → OneMoreIsDurable at n a
  pub arrivals : (n a b number : ℕ) → IsNextMessage (durable_world (at n)) a b number → OneMoreIsDurable at n b

-- Where offices go on so after any history, however often they are lost, and nothing is submitted any more, then again and again
-- no office has a session, as it stands, that is current or waits.
abbrev pub OfficesThatGoOnFinish : Type 0
OfficesThatGoOnFinish = (plan : PlanValue) (history : List Happening) (happenings : ℕ → Happening) → IsAccepted plan →
    ((n : ℕ) → is_submission (happenings n) ≡ false) → GoOn (later (lived plan history) happenings) →
    (n : ℕ) → (m : ℕ) × (n ≤ m) × AllAreFinished (durable_world (later (lived plan history) happenings m))
