-- What holds between offices that keep to the rules, whatever frames others make up.
use Rattle.std.specs.Prelude.{◌≡◌, ℕ, ◌≤◌, Bool, true, ◌&&◌, false, List, [], ◌∷◌, ◌++◌, filter, slice_get, All}
use Rattle.std.specs.Option.{option_map_or}
use Rattle.bottle_values.specs.declared.Value.{Value}
use Rattle.office_map.specs.declared.entries.RecordEntry.{RecordEntry}
use Rattle.office_map.specs.PlanValue.{PlanValue}
use Rattle.office_map.specs.Consistency.{IsConsistent}
use Rattle.session_meaning.specs.Meaning.{alone}
use Rattle.serial_replay.specs.Serial.{start_map}
use Rattle.token_channel.specs.declared.thing.Thing.{Thing}
use Rattle.token_channel.specs.Ends.{is_shared}
use Rattle.drinking_core.specs.Drinkers.{value_after}
use Rattle.frame_world.specs.Worlds.{World, Finished, opening}
use Rattle.frame_world.specs.Ways.{pairs_at, places, bottles_of}
use Rattle.frame_world.specs.Standstill.{sent_by, taken_of}
use Rattle.frame_world.specs.hostile.Hostile.{HostileEvent, goes_on}

-- both ends of the record keep to the rules
abbrev pub has_honest_ends : (ℕ → Bool) → PlanValue → ℕ → Bool
has_honest_ends honest plan r = option_map_or (λ (e : RecordEntry). honest e.first && honest e.second) (slice_get plan.records r) false

-- each thing that two of them share is at one place: held at either, or on the way
abbrev pub HaveOnePlaceEach : (ℕ → Bool) → World → Type 0
HaveOnePlaceEach honest w = (a b : ℕ) (t : Thing) → honest a ≡ true → honest b ≡ true → is_shared w.plan a b t ≡ true → places w a b t ≡ 1

-- of what one of them sent to another, that one took no more, and no more is known to be taken than was
pub record CountsAreTrue (w : World) (a b : ℕ) : Type 0 where
  pub known : ((pairs_at w a).link b).sending.acked ≤ taken_of w a b
  pub most : taken_of w a b ≤ sent_by w a b

-- so it is between any two of them
abbrev pub HaveTrueCounts : (ℕ → Bool) → World → Type 0
HaveTrueCounts honest w = (a b : ℕ) → honest a ≡ true → honest b ≡ true → CountsAreTrue w a b

-- the sessions that finished at offices that keep to the rules, in finishing order
abbrev pub finished_there : (ℕ → Bool) → World → List Finished
finished_there honest w = filter (λ (f : Finished). honest f.outcome.office) w.finished

-- the value of a record after what these sessions wrote
abbrev pub written : ℕ → Value → List Finished → Value
written r x [] = x
written r x (f ∷ fs) = written r (value_after f.outcome.ending.writes r x) fs

-- the value that the sessions of such offices left there
abbrev pub left_at : (ℕ → Bool) → World → ℕ → Value
left_at honest w r = written r (start_map w.plan r) (finished_there honest w)

-- a record between two of them has one bottle, with the value that was written to it last by a session at either
abbrev pub BottlesKeepTheirValues : (ℕ → Bool) → World → Type 0
BottlesKeepTheirValues honest w = (r : ℕ) → has_honest_ends honest w.plan r ≡ true → bottles_of w r ≡ left_at honest w r ∷ []

-- and each session that finished at one of them read there what those before it had left
abbrev pub SessionsReadWhatWasLeft : (ℕ → Bool) → World → Type 0
SessionsReadWhatWasLeft honest w = (before later : List Finished) (f : Finished) → finished_there honest w ≡ before ++ f ∷ later →
    All (λ (x : ℕ × Value). has_honest_ends honest w.plan x.0 ≡ true → x.1 ≡ written x.0 (start_map w.plan x.0) before) f.outcome.ending.reads

-- each session that finished at one of them ended as its program does alone on what it read
abbrev pub SessionsEndAsAlone : (ℕ → Bool) → World → Type 0
SessionsEndAsAlone honest w = All (λ (f : Finished). f.outcome.ending ≡ alone f.program f.outcome.ending.reads) (finished_there honest w)

-- ---- laws

-- so it is in each world that such events lead to, from every consistent plan
abbrev pub Always : ((ℕ → Bool) → World → Type 0) → Type 0
Always claim = (plan : PlanValue) (honest : ℕ → Bool) (events : List HostileEvent) → IsConsistent plan → claim honest (goes_on honest (opening plan) events)
