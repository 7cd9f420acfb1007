-- What some rules and a submitted session leave of the work of an office; to ask and to give leaves it as it was, by computation.
use Rattle.std.proofs.Common.{◌≡◌, ℕ, ◌+◌, ◌≤◌, Bool, true, false, not, cond, List, [], ◌∷◌, None, Some, is_some, nat_lt, nat_le, refl, arith, ltb-true, leb-true}
use Rattle.std.specs.Prelude.{◌&&◌}
use Rattle.std.specs.List.{list_all}
use Rattle.std.proofs.lemmas.List.Sums.{sum_by_push, sum_by-cons}
use Rattle.std.proofs.lemmas.Bool.{and_parts}
use Rattle.office_map.specs.PlanValue.{PlanValue}
use Rattle.session_meaning.specs.ProgramValue.{ProgramValue}
use Rattle.session_meaning.specs.declared.ending.Outcome.{Outcome}
use Rattle.session_meaning.specs.Length.{length_on}
use Rattle.session_meaning.specs.Meaning.{alone}
use Rattle.site_core.specs.agendas.Limits.{longest_piece}
use Rattle.drinking_core.specs.Drinkers.{is_tranquil}
use Rattle.dining_core.specs.declared.phase.Phase.{Phase}
use Rattle.dining_core.specs.declared.phase.Phase.TheVariants.{Thinking, Hungry, Eating}
use Rattle.dining_core.specs.Diners.{is_thinking, is_hungry, is_eating}
use Rattle.office_journal.specs.declared.rule.Rule.TheVariants as rule
use Rattle.site_core.specs.declared.agendas.session.Session.{Session}
use Rattle.site_core.specs.Agenda.{Current, Idle, Gathering, Working, submitted, may_work, worked}
use Rattle.site_core.specs.Pairs.{Pairs, is_thirsty}
use Rattle.site_core.specs.Offices.{Office, may, act}
use Rattle.frame_world.specs.WorkLeft.{session_work, change_work, current_work, turn_work, meal_work, office_work}

becomes_hungry : (plan : PlanValue) (a : ℕ) (phase : Phase) (thirsty : Bool) → (is_thinking phase && thirsty) ≡ true → meal_work plan a Hungry thirsty + 1 ≤ meal_work plan a phase thirsty
becomes_hungry plan a Thinking true e = omega arith
becomes_hungry plan a Thinking false e = absurd cc
becomes_hungry plan a Hungry thirsty e = absurd cc
becomes_hungry plan a Eating thirsty e = absurd cc

eats : (plan : PlanValue) (a : ℕ) (phase : Phase) (thirsty all : Bool) → (is_hungry phase && all) ≡ true → meal_work plan a Eating thirsty + (1 + turn_work plan a) ≤ meal_work plan a phase thirsty
eats plan a Hungry thirsty all e = omega arith
eats plan a Thinking thirsty all e = absurd cc
eats plan a Eating thirsty all e = absurd cc

leaves_table : (plan : PlanValue) (a : ℕ) (phase : Phase) (thirsty : Bool) → (is_eating phase && not thirsty) ≡ true → meal_work plan a Thinking thirsty + 1 ≤ meal_work plan a phase thirsty
leaves_table plan a Eating true e = absurd cc
leaves_table plan a Eating false e = omega arith
leaves_table plan a Thinking thirsty e = absurd cc
leaves_table plan a Hungry thirsty e = absurd cc

pub hungry_work : (plan : PlanValue) (a : ℕ) (o : Office) → may plan a o rule.Hungry ≡ true → office_work plan a (act a o rule.Hungry) + 1 ≤ office_work plan a o
hungry_work plan a o e = omega (arith, becomes_hungry plan a o.pairs.diner.phase (is_thirsty o.pairs) e)

pub eat_work : (plan : PlanValue) (a : ℕ) (o : Office) → may plan a o rule.Eat ≡ true → office_work plan a (act a o rule.Eat) + (1 + turn_work plan a) ≤ office_work plan a o
eat_work plan a o e = omega (arith, eats plan a o.pairs.diner.phase (is_thirsty o.pairs) (list_all o.pairs.diner.held o.pairs.diner.neighbours) e)

pub leave_work : (plan : PlanValue) (a : ℕ) (o : Office) → may plan a o rule.Leave ≡ true → office_work plan a (act a o rule.Leave) + 1 ≤ office_work plan a o
leave_work plan a o e = omega (arith, leaves_table plan a o.pairs.diner.phase (is_thirsty o.pairs) e)

-- a session that is submitted adds its work
pub submitted_work : (plan : PlanValue) (a : ℕ) (o : Office) (p : ProgramValue) → office_work plan a (record { pairs = o.pairs; agenda = submitted o.agenda p }) ≡ office_work plan a o + session_work plan a p
submitted_work plan a o p = omega (arith, sum_by_push (λ (s : Session). session_work plan a s.program) o.agenda.queue (record { ticket = o.agenda.tickets + 1; program = p }))

-- ---- sessions

meal_rises : (plan : PlanValue) (a : ℕ) (phase : Phase) (thirsty : Bool) → meal_work plan a phase true ≤ meal_work plan a phase thirsty + (3 + turn_work plan a)
meal_rises plan a Thinking true = omega arith
meal_rises plan a Thinking false = omega arith
meal_rises plan a Hungry thirsty = omega arith
meal_rises plan a Eating thirsty = omega arith

pub meal_least : (plan : PlanValue) (a : ℕ) (phase : Phase) (thirsty : Bool) → meal_work plan a phase false ≤ meal_work plan a phase thirsty
meal_least plan a Thinking true = omega arith
meal_least plan a Thinking false = omega arith
meal_least plan a Hungry thirsty = omega arith
meal_least plan a Eating thirsty = omega arith

pub never : (b : Bool) → (b && false) ≡ true → ⊥
never true e = absurd cc
never false e = absurd cc

abbrev office_with : Pairs → List Session → ℕ → Current → List Outcome → Office
office_with p queue tickets current outcomes = record { pairs = p; agenda = record { queue = queue; tickets = tickets; current = current; outcomes = outcomes } }

-- the first waiting session starts
starts : (plan : PlanValue) (a : ℕ) (p : Pairs) (queue : List Session) (tickets : ℕ) (current : Current) (outcomes : List Outcome) → may plan a (office_with p queue tickets current outcomes) rule.Start ≡ true →
    office_work plan a (act a (office_with p queue tickets current outcomes) rule.Start) + (1 + change_work plan a) ≤ office_work plan a (office_with p queue tickets current outcomes)
starts plan a p [] tickets current outcomes e = absurd (never (is_tranquil p.drinker.phase) e)
starts plan a p (s ∷ rest) tickets current outcomes e = omega (arith, sum_by-cons (λ (x : Session). session_work plan a x.program) s rest, meal_rises plan a p.diner.phase (is_thirsty p))

pub start_work : (plan : PlanValue) (a : ℕ) (o : Office) → may plan a o rule.Start ≡ true → office_work plan a (act a o rule.Start) + (1 + change_work plan a) ≤ office_work plan a o
start_work plan a o e = starts plan a o.pairs o.agenda.queue o.agenda.tickets o.agenda.current o.agenda.outcomes e

-- a piece of work
works : (plan : PlanValue) (a n : ℕ) (current : Current) → may_work current n ≡ true → current_work plan a (worked n current) + 1 ≤ current_work plan a current
works plan a n Idle e = absurd cc
works plan a n (Gathering s) e = absurd cc
works plan a n (Working s reads done) e = go (nat_lt done (length_on s.program reads)) refl e
  where
    go : (b : Bool) → nat_lt done (length_on s.program reads) ≡ b → (not (is_some (cond b None (Some (alone s.program reads)))) && (nat_le 1 n && nat_le n longest_piece)) ≡ true → current_work plan a (Working s reads (done + n)) + 1 ≤ current_work plan a (Working s reads done)
    go true lt h = omega (arith, ltb-true done (length_on s.program reads) lt, leb-true 1 n (and_parts (nat_le 1 n) (nat_le n longest_piece) h).0)
    go false lt h = absurd cc

pub work_work : (plan : PlanValue) (a n : ℕ) (o : Office) → may plan a o (rule.Work n) ≡ true → office_work plan a (act a o (rule.Work n)) + 1 ≤ office_work plan a o
work_work plan a n o e = omega (arith, works plan a n o.agenda.current e)
