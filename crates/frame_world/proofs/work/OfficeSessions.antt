-- What is left of the work of an office once it drinks, finishes, has a session withdrawn, or takes a frame.
use Rattle.std.proofs.Common.{◌≡◌, ℕ, ◌+◌, ◌≤◌, Bool, true, false, not, cond, List, [], ◌∷◌, Option, None, Some, is_some, sum_by, refl, ap, ◌∙◌, arith}
use Rattle.std.specs.Prelude.{◌==◌, ◌&&◌, ◌||◌, filter}
use Rattle.std.specs.List.{list_any}
use Rattle.std.proofs.lemmas.List.Sums.{sum_by-cons}
use Rattle.std.proofs.lemmas.Bool.{and_parts}
use Rattle.bottle_values.specs.declared.Value.{Value}
use Rattle.bottle_values.specs.Maps.{reads_of}
use Rattle.frame_codec.specs.declared.message.Msg.TheVariants as msg
use Rattle.frame_codec.specs.Frame.{Fields}
use Rattle.office_map.specs.PlanValue.{PlanValue}
use Rattle.session_programs.specs.measures.Laws.{EndsWithinItsCost}
use Rattle.session_programs.specs.measures.Needs.{needs_of}
use Rattle.window_link.specs.declared.arrival.Arrival.{Arrival}
use Rattle.window_link.specs.declared.arrival.Arrival.TheVariants as arrival
use Rattle.window_link.specs.Links.{LinkState, after_arrival}
use Rattle.token_channel.specs.Channels.{link_then}
use Rattle.dining_core.specs.Diners.{Diner}
use Rattle.drinking_core.specs.Drinkers.{Drinker}
use Rattle.drinking_core.specs.Drinkers as bottles
use Rattle.office_journal.specs.declared.rule.Rule.TheVariants as rule
use Rattle.site_core.specs.declared.agendas.session.Session.{Session}
use Rattle.site_core.specs.Agenda.{Current, Idle, Gathering, Working, is_waiting, is_gathering, without_waiting, begun, writes_of, with_current}
use Rattle.site_core.specs.Pairs.{Pairs, is_thirsty, after_bottle_rule, diner_after, drinker_after, arrival_of, arrived, follows, as_arrival, after_taking}
use Rattle.site_core.specs.neighbours.PairLaws.{through_taking}
use Rattle.site_core.specs.Offices.{Office, may, act, value_in, with_pairs}
use Rattle.frame_world.specs.WorkLeft.{session_work, change_work, current_work, meal_work, office_work}
use Rattle.frame_world.proofs.Sessions.{IsCurrent, not_true}
use Rattle.frame_world.proofs.work.OfficeSteps.{never, meal_least}

-- ---- to drink

drinks : EndsWithinItsCost → (plan : PlanValue) (a : ℕ) (values : ℕ → Value) (c : Current) (d : Drinker) → IsCurrent plan a c d → bottles.is_thirsty d.phase ≡ true → current_work plan a (begun values c) + 1 ≤ current_work plan a c
drinks law plan a values Idle d h e = absurd (not_true (bottles.is_thirsty d.phase) e (ap bottles.is_thirsty h))
drinks law plan a values (Gathering s) d h e = omega (arith, (law s.program (reads_of (needs_of s.program.body) values)).1)
drinks law plan a values (Working s reads done) d h e = absurd (not_true (bottles.is_thirsty d.phase) e (ap bottles.is_thirsty h.phase))

pub drink_work : EndsWithinItsCost → (plan : PlanValue) (a : ℕ) (o : Office) → IsCurrent plan a o.agenda.current o.pairs.drinker → may plan a o rule.Drink ≡ true → office_work plan a (act a o rule.Drink) + 1 ≤ office_work plan a o
drink_work law plan a o h e =
    omega (
      arith,
      drinks law plan a (value_in o.pairs.drinker) o.agenda.current o.pairs.drinker h (and_parts (bottles.is_thirsty o.pairs.drinker.phase) _ e).0,
      meal_least plan a o.pairs.diner.phase (is_thirsty o.pairs),
    )

-- ---- to finish

finishes : (plan : PlanValue) (a : ℕ) (c : Current) (drinking : Bool) → (drinking && is_some (writes_of c)) ≡ true → 1 + change_work plan a ≤ current_work plan a c
finishes plan a Idle drinking e = absurd (never drinking e)
finishes plan a (Gathering s) drinking e = absurd (never drinking e)
finishes plan a (Working s reads done) drinking e = omega arith

rests : (d : Drinker) (writes : Option (List (ℕ × Value))) → bottles.may d (bottles.Finish writes) ≡ true → bottles.is_thirsty (bottles.finished d writes).phase ≡ false
rests d None e = absurd (never (bottles.is_drinking d.phase) e)
rests d (Some ws) e = refl

pub finish_work : (plan : PlanValue) (a : ℕ) (o : Office) → may plan a o rule.Finish ≡ true → office_work plan a (act a o rule.Finish) + (1 + change_work plan a) ≤ office_work plan a o
finish_work plan a o e =
    omega (
      arith,
      finishes plan a o.agenda.current (bottles.is_drinking o.pairs.drinker.phase) e,
      ap (meal_work plan a o.pairs.diner.phase) (rests o.pairs.drinker (writes_of o.agenda.current) e),
      meal_least plan a o.pairs.diner.phase (is_thirsty o.pairs),
    )

-- ---- a session that is withdrawn

-- of a list without some of its elements
module _ {X : Type 0} (f : X → ℕ) (p : X → Bool) where
  fewer : (xs : List X) → sum_by f (filter (λ x. not (p x)) xs) ≤ sum_by f xs
  fewer [] = omega arith
  fewer (x ∷ xs) = go (p x) (fewer xs)
    where
      go : (b : Bool) → sum_by f (filter (λ x. not (p x)) xs) ≤ sum_by f xs → sum_by f (cond (not b) (x ∷ filter (λ x. not (p x)) xs) (filter (λ x. not (p x)) xs)) ≤ sum_by f (x ∷ xs)
      go true le = omega (arith, le, sum_by-cons f x xs)
      go false le = omega (arith, le, sum_by-cons f x xs, sum_by-cons f x (filter (λ x. not (p x)) xs))

  without : (least : ℕ) → ((x : X) → least ≤ f x) → (xs : List X) → list_any p xs ≡ true → sum_by f (filter (λ x. not (p x)) xs) + least ≤ sum_by f xs
  without least each [] e = absurd cc
  without least each (x ∷ xs) e = go (p x) e (without least each xs)
    where
      go : (b : Bool) → (b || list_any p xs) ≡ true → (list_any p xs ≡ true → sum_by f (filter (λ x. not (p x)) xs) + least ≤ sum_by f xs) →
          sum_by f (cond (not b) (x ∷ filter (λ x. not (p x)) xs) (filter (λ x. not (p x)) xs)) + least ≤ sum_by f (x ∷ xs)
      go true h rest = omega (arith, fewer xs, each x, sum_by-cons f x xs)
      go false h rest = omega (arith, rest h, sum_by-cons f x xs, sum_by-cons f x (filter (λ x. not (p x)) xs))

pub withdrawn_waiting_work : (plan : PlanValue) (a t : ℕ) (o : Office) → is_waiting o.agenda.queue t ≡ true → office_work plan a (record { pairs = o.pairs; agenda = without_waiting o.agenda t }) + 7 ≤ office_work plan a o
withdrawn_waiting_work plan a t o e = omega (arith, without (λ (s : Session). session_work plan a s.program) (λ (s : Session). s.ticket == t) 7 (λ s. omega arith) o.agenda.queue e)

gathers : (plan : PlanValue) (a t : ℕ) (c : Current) → is_gathering c t ≡ true → 3 + change_work plan a ≤ current_work plan a c
gathers plan a t Idle e = absurd cc
gathers plan a t (Gathering s) e = omega arith
gathers plan a t (Working s reads done) e = absurd cc

pub withdrawn_current_work : (plan : PlanValue) (a t : ℕ) (o : Office) → is_gathering o.agenda.current t ≡ true → office_work plan a (record { pairs = after_bottle_rule o.pairs bottles.Withdraw; agenda = with_current o.agenda Idle }) + (3 + change_work plan a) ≤ office_work plan a o
withdrawn_current_work plan a t o e = omega (arith, gathers plan a t o.agenda.current e, meal_least plan a o.pairs.diner.phase (is_thirsty o.pairs))

-- ---- a frame that is taken

-- agenda and phases stay
record HasPhases (p q : Pairs) : Type 0 where
  dining : q.diner.phase ≡ p.diner.phase
  drinking : q.drinker.phase ≡ p.drinker.phase

diner_stays : (d : Diner) (v : ℕ) (x : Arrival) → (diner_after d v x).phase ≡ d.phase
diner_stays d v (arrival.Fresh msg.AskFork) = refl
diner_stays d v (arrival.Fresh msg.Fork) = refl
diner_stays d v (arrival.Fresh (msg.AskBottle r)) = refl
diner_stays d v (arrival.Fresh (msg.Bottle r x)) = refl
diner_stays d v arrival.Acked = refl
diner_stays d v arrival.Repeat = refl
diner_stays d v arrival.Kept = refl
diner_stays d v arrival.Early = refl

drinker_stays : (d : Drinker) (x : Arrival) → (drinker_after d x).phase ≡ d.phase
drinker_stays d (arrival.Fresh msg.AskFork) = refl
drinker_stays d (arrival.Fresh msg.Fork) = refl
drinker_stays d (arrival.Fresh (msg.AskBottle r)) = refl
drinker_stays d (arrival.Fresh (msg.Bottle r x)) = refl
drinker_stays d arrival.Acked = refl
drinker_stays d arrival.Repeat = refl
drinker_stays d arrival.Kept = refl
drinker_stays d arrival.Early = refl

phases_stay : (p q : Pairs) (v : ℕ) (l : LinkState) (x : Arrival) → HasPhases p q → HasPhases p (arrived q v l x)
phases_stay p q v l x h = record { dining = diner_stays q.diner v x ∙ h.dining; drinking = drinker_stays q.drinker x ∙ h.drinking }

taking_stays : (plan : PlanValue) (a : ℕ) (p : Pairs) (f : Fields) → HasPhases p (after_taking plan a p f)
taking_stays plan a p f =
    through_taking plan a (HasPhases p) f (λ q h. phases_stay p q f.from (link_then (q.link f.from) (follows plan a f.from q)) (as_arrival (follows plan a f.from q)) h) p
    (phases_stay p p f.from (after_arrival (p.link f.from) f) (arrival_of p f) (record { dining = refl; drinking = refl }))

pub taken_work : (plan : PlanValue) (a : ℕ) (o : Office) (f : Fields) → office_work plan a (with_pairs o (after_taking plan a o.pairs f)) ≡ office_work plan a o
taken_work plan a o f =
    let h : HasPhases o.pairs (after_taking plan a o.pairs f) = taking_stays plan a o.pairs f in
    omega (
      arith,
      ap (λ ph. meal_work plan a ph (is_thirsty (after_taking plan a o.pairs f))) h.dining,
      ap (λ ph. meal_work plan a o.pairs.diner.phase (bottles.is_thirsty ph)) h.drinking,
    )
