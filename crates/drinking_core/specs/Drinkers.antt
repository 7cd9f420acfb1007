-- An office that shares bottles with its neighbours, and the guard and effect of each rule of the bottles.
use Rattle.std.specs.Prelude.{ℕ, Bool, true, false, not, ◌==◌, ◌&&◌, ◌||◌, List, Option, None, Some, is_some, option_map, slice_get, if◌then◌else◌}
use Rattle.std.specs.List.{list_all}
use Rattle.bottle_values.specs.declared.Value.{Value}
use Rattle.bottle_values.specs.Maps.{put, write_all}
use Rattle.office_map.specs.declared.entries.RecordEntry.{RecordEntry}
use Rattle.office_map.specs.PlanValue.{PlanValue, records_of, start_end, peer}
use Rattle.drinking_core.specs.declared.phase.Phase.{Phase}
use Rattle.drinking_core.specs.declared.phase.Phase.TheVariants.{Tranquil, Thirsty, Drinking}
use Rattle.bottle_values.specs.Lists.{is_among}

-- An office among its neighbours: how far it is with its session, and of each of its records whether the session needs
-- it, the bottle with its value if it is here, whether its request token is here, and the other end.
pub record Drinker : Type 0 where
  pub records : List ℕ
  pub phase : Phase
  pub needed : ℕ → Bool
  pub bottle : ℕ → Option Value
  pub token : ℕ → Bool
  pub peer : ℕ → ℕ

-- The rules: to start a session, to ask for a bottle, to give one, to drink, to finish, to withdraw a session. Start is
-- with the records of the first waiting session, if one waits; GiveBottle with the neighbours whose fork is held;
-- Finish with what the session wrote, if its work has ended; Withdraw takes a session back that waits for its bottles.
pub data BottleRule : Type 0 where
  Start : (session : Option (List ℕ)) → BottleRule
  AskBottle : (r : ℕ) → BottleRule
  GiveBottle : (r : ℕ) (forks : ℕ → Bool) → BottleRule
  Drink : BottleRule
  Finish : (writes : Option (List (ℕ × Value))) → BottleRule
  Withdraw : BottleRule

-- the phase of an office without a session
abbrev pub is_tranquil : Phase → Bool
is_tranquil Tranquil = true
is_tranquil Thirsty = false
is_tranquil Drinking = false

-- the phase of one whose session waits for its bottles
abbrev pub is_thirsty : Phase → Bool
is_thirsty Tranquil = false
is_thirsty Thirsty = true
is_thirsty Drinking = false

-- the phase of one whose session works
abbrev pub is_drinking : Phase → Bool
is_drinking Tranquil = false
is_drinking Thirsty = false
is_drinking Drinking = true

-- the record's bottle is here
abbrev pub holds : Drinker → ℕ → Bool
holds d r = is_some (d.bottle r)

-- the record isn't needed, or its bottle is here
abbrev pub is_served : Drinker → ℕ → Bool
is_served d r = not (d.needed r) || holds d r

-- whether the rule may be done now
abbrev pub may : Drinker → BottleRule → Bool
may d (Start session) = is_tranquil d.phase && is_some session
may d (AskBottle r) = is_thirsty d.phase && (d.needed r && (not (holds d r) && d.token r))
may d (GiveBottle r forks) = d.token r && (holds d r && not (d.needed r && (is_drinking d.phase || forks (d.peer r))))
may d Drink = is_thirsty d.phase && list_all (is_served d) d.records
may d (Finish writes) = is_drinking d.phase && is_some writes
may d Withdraw = is_thirsty d.phase

-- the value of a record after these writes, of which the last counts
abbrev pub value_after : List (ℕ × Value) → ℕ → Value → Value
value_after writes r v = write_all writes (λ q. v) r

-- the office is thirsty for the records of that session
abbrev pub started : Drinker → Option (List ℕ) → Drinker
started d None = d
started d (Some rs) = record d { phase = Thirsty; needed = λ r. is_among rs r }

-- what is written goes into the bottles that are here
abbrev pub finished : Drinker → Option (List (ℕ × Value)) → Drinker
finished d None = d
finished d (Some writes) = record d { phase = Tranquil; needed = λ r. false; bottle = λ r. option_map (value_after writes r) (d.bottle r) }

-- what a rule does, where it may be done
abbrev pub act : Drinker → BottleRule → Drinker
act d (Start session) = started d session
act d (AskBottle r) = record d { token = put d.token r false }
act d (GiveBottle r forks) = record d { bottle = put d.bottle r None }
act d Drink = record d { phase = Drinking }
act d (Finish writes) = finished d writes
act d Withdraw = record d { phase = Tranquil; needed = λ r. false }

-- a request token that comes is held
abbrev pub with_token : Drinker → ℕ → Drinker
with_token d r = record d { token = put d.token r true }

-- a bottle that comes is held with the value that it brings
abbrev pub with_bottle : Drinker → ℕ → Value → Drinker
with_bottle d r x = record d { bottle = put d.bottle r (Some x) }

-- where the request token of a record's bottle starts
abbrev pub token_end : RecordEntry → ℕ
token_end e = if e.starts_at_first then e.second else e.first

-- what starts at an office of a record, which the plan may not have
abbrev pub start_bottle : ℕ → Option RecordEntry → Option Value
start_bottle a None = None
start_bottle a (Some e) = if a == start_end e then Some e.value else None

abbrev pub start_token : ℕ → Option RecordEntry → Bool
start_token a None = false
start_token a (Some e) = a == token_end e

-- at the start every bottle is at the end that the plan names, with the plan's value; its request token is at the other
abbrev pub opened : PlanValue → ℕ → Drinker
opened plan a = record {
  records = records_of plan a;
  phase = Tranquil;
  needed = λ r. false;
  bottle = λ r. start_bottle a (slice_get plan.records r);
  token = λ r. start_token a (slice_get plan.records r);
  peer = peer plan a;
}
