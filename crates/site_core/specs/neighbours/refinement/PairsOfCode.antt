-- The pairs that the code keeps, and what they mean.
use Rattle.std.specs.Prelude.{◌≡◌, ℕ, ◌<◌, Bool, true, false, ◌&&◌, ◌↔◌, List, [], ◌∷◌, length, Some, Result, IsTrue, IsErr, OnOk, OnErr}
use Rattle.window_link.specs.Windows.{used}
use Rattle.window_link.specs.Limits.{greatest}
use Rattle.office_map.specs.PlanValue.{PlanValue, neighbours_of, records_of, peer}
use Rattle.office_map.specs.Consistency.{IsConsistent}
use Rattle.bottle_values.specs.Lists.{is_among}
use Rattle.bottle_values.specs.Versions.{admits}
use Rattle.bottle_values.specs.declared.Value.{Value}
use Rattle.frame_codec.specs.declared.message.Msg.{Msg}
use Rattle.frame_codec.specs.declared.message.Msg.TheVariants as msg
use Rattle.dining_core.specs.Diners.{Diner, ForkRule}
use Rattle.dining_core.specs.Diners as forks
use Rattle.drinking_core.specs.Drinkers.{Drinker, BottleRule, holds}
use Rattle.drinking_core.specs.Drinkers as bottles
use Rattle.dining_core.specs.refinement.Tables.{TableValue, diner_of}
use Rattle.drinking_core.specs.refinement.Bars.{BarValue, drinker_of}
use Rattle.site_core.specs.neighbours.Pairs.{Pairs, held, fork_came, bottle_came, after_fork_rule, after_bottle_rule}
use Rattle.site_core.specs.neighbours.refinement.Slots.{Slot, slot_at, links_of, IsSlotOf}

pub record PairsValue : Type 0 where
  pub plan : PlanValue
  pub me : ℕ
  pub table : TableValue
  pub bar : BarValue
  pub channels : List Slot

abbrev pub pairs_of : PairsValue → Pairs
pairs_of p = record { diner = diner_of p.table; drinker = drinker_of p.bar; link = links_of p.plan.run p.plan.version p.me p.channels }

-- they are those of this office of this plan
abbrev pub IsOf : PlanValue → ℕ → PairsValue → Type 0
IsOf plan me p = (p.plan ≡ plan) × (p.me ≡ me)

-- What a call answers that does a rule of the forks: it is refused just where the neighbour that it is about is none, or the
-- rule may not be done, and then nothing changed.
pub record DoesForkRule {T E : Type 0} (near : Bool) (rule : ForkRule) (result : Result T E) (old new : PairsValue) : Type 0 where
  pub office : IsOf old.plan old.me new
  pub not_now : IsErr result ↔ ((near && forks.may (pairs_of old).diner rule) ≡ false)
  pub done : OnOk result (pairs_of new ≡ after_fork_rule (pairs_of old) rule)
  pub unchanged : OnErr result (new ≡ old)

-- the same of a rule of the bottles, and of the record that it is about
pub record DoesBottleRule {T E : Type 0} (ours : Bool) (rule : BottleRule) (result : Result T E) (old new : PairsValue) : Type 0 where
  pub office : IsOf old.plan old.me new
  pub not_now : IsErr result ↔ ((ours && bottles.may (pairs_of old).drinker rule) ≡ false)
  pub done : OnOk result (pairs_of new ≡ after_bottle_rule (pairs_of old) rule)
  pub unchanged : OnErr result (new ≡ old)

-- each link has a number for one message more
abbrev pub HaveRoom : PairsValue → Type 0
HaveRoom p = (v : ℕ) → used ((pairs_of p).link v).sending < greatest

-- each bottle's value can go on the link to the record's other end
abbrev pub HaveValues : PairsValue → Type 0
HaveValues p = (r : ℕ) (x : Value) → (pairs_of p).drinker.bottle r ≡ Some x → IsTrue (admits ((pairs_of p).link ((pairs_of p).drinker.peer r)).version x)

-- what the message brings is shared with v, and away
abbrev pub MayBring : Diner → Drinker → ℕ → Msg → Type 0
MayBring d k v msg.AskFork = (is_among d.neighbours v ≡ true) × (d.token v ≡ false)
MayBring d k v msg.Fork = (is_among d.neighbours v ≡ true) × (d.held v ≡ false)
MayBring d k v (msg.AskBottle r) = (is_among k.records r ≡ true) × (k.token r ≡ false)
MayBring d k v (msg.Bottle r x) = (is_among k.records r ≡ true) × (holds k r ≡ false)

-- the same of these messages, one after the other, and what is held then
abbrev pub MayAllBring : Diner → Drinker → ℕ → List Msg → Type 0
MayAllBring d k v [] = Unit {0}
MayAllBring d k v (m ∷ ms) = MayBring d k v m × MayAllBring (fork_came d v m) (bottle_came k m) v ms

abbrev pub forks_came : Diner → ℕ → List Msg → Diner
forks_came d v [] = d
forks_came d v (m ∷ ms) = forks_came (fork_came d v m) v ms

abbrev pub bottles_came : Drinker → List Msg → Drinker
bottles_came k [] = k
bottles_came k (m ∷ ms) = bottles_came (bottle_came k m) ms

-- table, bar and channels are an office's of that plan, and agree on what is held
pub record ArePairs (p : PairsValue) : Type 0 where
  pub consistent : IsConsistent p.plan
  pub office : p.me < length p.plan.offices
  pub neighbours : (pairs_of p).diner.neighbours ≡ neighbours_of p.plan p.me
  pub records : (pairs_of p).drinker.records ≡ records_of p.plan p.me
  pub peers : (r : ℕ) → (pairs_of p).drinker.peer r ≡ peer p.plan p.me r
  pub channels : (v : ℕ) → IsSlotOf p.plan p.me v (held (pairs_of p) v) (slot_at p.channels v)
