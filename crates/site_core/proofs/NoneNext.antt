-- Where no rule comes next, none may be done.
use Rattle.std.proofs.Common.{◌≡◌, ℕ, ◌&&◌, Bool, true, false, List, [], ◌∷◌, ◌++◌, map, Option, None, Some, refl, sym, ap, ◌∙◌}
use Rattle.std.specs.Prelude.{◌==◌, ◌||◌, not, nat_le, is_some, find, IfNone}
use Rattle.std.proofs.lemmas.Bool.{eqb-true}
use Rattle.bottle_values.specs.Lists.{is_among}
use Rattle.office_map.specs.PlanValue.{PlanValue, are_neighbours, neighbours_of, records_of, is_end}
use Rattle.office_map.specs.Consistency.{IsConsistent}
use Rattle.office_journal.specs.declared.rule.Rule.{Rule}
use Rattle.office_journal.specs.declared.rule.Rule.TheVariants as rule
use Rattle.dining_core.specs.Diners as forks
use Rattle.drinking_core.specs.Drinkers as bottles
use Rattle.site_core.specs.agendas.Limits.{longest_piece}
use Rattle.site_core.specs.Limits.{usual_piece}
use Rattle.site_core.specs.agendas.Agenda.{is_working, ending_of}
use Rattle.site_core.specs.Offices.{Office, may}
use Rattle.site_core.specs.RuleOrder.{next_rule, IsAtRest, NoneNextIsAtRest}
use Rattle.site_core.proofs.FirstRule.{skipped, none_before, none_after}
use Rattle.office_map.specs.NeighbourLaws.{among_records, among_neighbours}

-- what stands between two lists
none_at : {A : Type 0} (p : A → Bool) (xs : List A) (x : A) (ys : List A) → find p (xs ++ x ∷ ys) ≡ None → p x ≡ false
none_at p xs x ys none = (skipped p x ys (none_after p xs (x ∷ ys) none)).0

-- of rules that are made of numbers, that of each number in the list
none_of : {A : Type 0} (p : A → Bool) (f : ℕ → A) (xs : List ℕ) (v : ℕ) → find p (map f xs) ≡ None → is_among xs v ≡ true → p (f v) ≡ false
none_of p f [] v none there = absurd cc
none_of p f (x ∷ xs) v none there = go (none_of p f xs v (skipped p (f x) (map f xs) none).1) (x == v) refl there
  where
    go : (is_among xs v ≡ true → p (f v) ≡ false) → (b : Bool) → (x == v) ≡ b → (b || is_among xs v) ≡ true → p (f v) ≡ false
    go later true same h = ap (λ k. p (f k)) (sym (eqb-true x v same)) ∙ (skipped p (f x) (map f xs) none).0
    go later false other h = later h

-- a guard of two parts is false where it is false as soon as the first part is true
guarded : (a b : Bool) → (a ≡ true → (a && b) ≡ false) → (a && b) ≡ false
guarded true b h = h refl
guarded false b h = refl

-- where the usual piece of work may not be done, no piece may
no_piece : (working unended fits : Bool) → (working && (unended && true)) ≡ false → (working && (unended && fits)) ≡ false
no_piece false unended fits h = refl
no_piece true false fits h = refl
no_piece true true fits h = absurd cc

module _ (plan : PlanValue) (me : ℕ) (o : Office) (consistent : IsConsistent plan) (none : next_rule plan me o ≡ None) where
  abbrev p : Rule → Bool
  p = may plan me o

  abbrev give_bottles : List Rule
  give_bottles = map rule.GiveBottle (records_of plan me)

  abbrev give_forks : List Rule
  give_forks = map rule.GiveFork (neighbours_of plan me)

  abbrev alone : List Rule
  alone = rule.Finish ∷ rule.Work usual_piece ∷ rule.Drink ∷ rule.Eat ∷ rule.Leave ∷ rule.Start ∷ rule.Hungry ∷ []

  abbrev ask_bottles : List Rule
  ask_bottles = map rule.AskBottle (records_of plan me)

  abbrev ask_forks : List Rule
  ask_forks = map rule.AskFork (neighbours_of plan me)

  after_bottles : find p (give_forks ++ (alone ++ (ask_bottles ++ ask_forks))) ≡ None
  after_bottles = none_after p give_bottles (give_forks ++ (alone ++ (ask_bottles ++ ask_forks))) none

  none_alone : find p alone ≡ None
  none_alone = none_before p alone (ask_bottles ++ ask_forks) (none_after p give_forks (alone ++ (ask_bottles ++ ask_forks)) after_bottles)

  none_asked : find p (ask_bottles ++ ask_forks) ≡ None
  none_asked = none_after p alone (ask_bottles ++ ask_forks) (none_after p give_forks (alone ++ (ask_bottles ++ ask_forks)) after_bottles)

  no_rule : IsAtRest plan me o
  no_rule rule.Finish = none_at p [] rule.Finish (rule.Work usual_piece ∷ rule.Drink ∷ rule.Eat ∷ rule.Leave ∷ rule.Start ∷ rule.Hungry ∷ []) none_alone
  no_rule (rule.Work n) =
      no_piece (is_working o.agenda.current) (not (is_some (ending_of o.agenda.current))) (nat_le 1 n && nat_le n longest_piece)
      (none_at p (rule.Finish ∷ []) (rule.Work usual_piece) (rule.Drink ∷ rule.Eat ∷ rule.Leave ∷ rule.Start ∷ rule.Hungry ∷ []) none_alone)
  no_rule rule.Drink = none_at p (rule.Finish ∷ rule.Work usual_piece ∷ []) rule.Drink (rule.Eat ∷ rule.Leave ∷ rule.Start ∷ rule.Hungry ∷ []) none_alone
  no_rule rule.Eat = none_at p (rule.Finish ∷ rule.Work usual_piece ∷ rule.Drink ∷ []) rule.Eat (rule.Leave ∷ rule.Start ∷ rule.Hungry ∷ []) none_alone
  no_rule rule.Leave = none_at p (rule.Finish ∷ rule.Work usual_piece ∷ rule.Drink ∷ rule.Eat ∷ []) rule.Leave (rule.Start ∷ rule.Hungry ∷ []) none_alone
  no_rule rule.Start = none_at p (rule.Finish ∷ rule.Work usual_piece ∷ rule.Drink ∷ rule.Eat ∷ rule.Leave ∷ []) rule.Start (rule.Hungry ∷ []) none_alone
  no_rule rule.Hungry = none_at p (rule.Finish ∷ rule.Work usual_piece ∷ rule.Drink ∷ rule.Eat ∷ rule.Leave ∷ rule.Start ∷ []) rule.Hungry [] none_alone
  no_rule (rule.AskFork v) = guarded (are_neighbours plan me v) (forks.may o.pairs.diner (forks.AskFork v)) (λ near. none_of p rule.AskFork (neighbours_of plan me) v (none_after p ask_bottles ask_forks none_asked) (among_neighbours plan me v consistent near))
  no_rule (rule.GiveFork v) = guarded (are_neighbours plan me v) (forks.may o.pairs.diner (forks.GiveFork v)) (λ near. none_of p rule.GiveFork (neighbours_of plan me) v (none_before p give_forks (alone ++ (ask_bottles ++ ask_forks)) after_bottles) (among_neighbours plan me v consistent near))
  no_rule (rule.AskBottle r) = guarded (is_end plan r me) (bottles.may o.pairs.drinker (bottles.AskBottle r)) (λ ends. none_of p rule.AskBottle (records_of plan me) r (none_before p ask_bottles ask_forks none_asked) (among_records plan me r ends))
  no_rule (rule.GiveBottle r) = guarded (is_end plan r me) (bottles.may o.pairs.drinker (bottles.GiveBottle r o.pairs.diner.held)) (λ ends. none_of p rule.GiveBottle (records_of plan me) r (none_before p give_bottles (give_forks ++ (alone ++ (ask_bottles ++ ask_forks))) none) (among_records plan me r ends))

pub at_rest : NoneNextIsAtRest
at_rest = no_rule

-- what is told is the rule that comes next
pub rest_where_none : (plan : PlanValue) (me : ℕ) (o : Office) (told : Option Rule) → IsConsistent plan → told ≡ next_rule plan me o → IfNone told (IsAtRest plan me o)
rest_where_none plan me o None consistent is = at_rest plan me o consistent (sym is)
rest_where_none plan me o (Some r) consistent is = tt
