-- What an office shares with its neighbours: forks, bottles, and a link to each of them.
use Rattle.std.specs.Prelude.{ℕ, zero, suc, Bool, ◌==◌, ◌&&◌, nat_le, is_some, length, Option, Some, None, if◌then◌else◌}
use Rattle.bottle_values.specs.declared.Value.{Value}
use Rattle.bottle_values.specs.Maps.{put}
use Rattle.frame_codec.specs.declared.message.Msg.{Msg}
use Rattle.frame_codec.specs.declared.message.Msg.TheVariants as msg
use Rattle.frame_codec.specs.Frame.{Fields}
use Rattle.office_map.specs.PlanValue.{PlanValue, are_neighbours}
use Rattle.window_link.specs.declared.arrival.Arrival.{Arrival}
use Rattle.window_link.specs.declared.arrival.Arrival.TheVariants as arrival
use Rattle.window_link.specs.declared.fault.LinkFault.TheVariants.{Stranger}
use Rattle.window_link.specs.Windows.{queued}
use Rattle.window_link.specs.Links.{LinkState, resumed, frame_of, ack_frame_of, arrival_at, after_arrival}
use Rattle.token_channel.specs.declared.fault.ChannelFault.{ChannelFault}
use Rattle.token_channel.specs.declared.fault.ChannelFault.TheVariants.{Link}
use Rattle.token_channel.specs.declared.thing.Thing.{Thing}
use Rattle.token_channel.specs.declared.thing.Thing.TheVariants.{Fork, ForkToken, Bottle, BottleToken}
use Rattle.token_channel.specs.Ends.{is_shared}
use Rattle.token_channel.specs.Channels.{fault_among, follows_among, link_then, most_following}
use Rattle.dining_core.specs.Diners.{Diner, ForkRule}
use Rattle.dining_core.specs.Diners as forks
use Rattle.drinking_core.specs.Drinkers.{Drinker, BottleRule}
use Rattle.drinking_core.specs.Drinkers as bottles

-- an office's forks, its bottles, and its link to each neighbour
pub record Pairs : Type 0 where
  pub diner : Diner
  pub drinker : Drinker
  pub link : ℕ → LinkState

-- at the start forks and bottles are where the plan puts them, and nothing was sent
abbrev pub opened : PlanValue → ℕ → Pairs
opened plan me = record { diner = forks.diner_at_start plan me; drinker = bottles.opened plan me; link = λ v. resumed plan.run me v 0 0 plan.version }

-- the office waits for bottles
abbrev pub is_thirsty : Pairs → Bool
is_thirsty p = bottles.is_thirsty p.drinker.phase

-- what of the things that are shared with v is held here
abbrev pub held_by : Diner → Drinker → ℕ → Thing → Bool
held_by d k v Fork = d.held v
held_by d k v ForkToken = d.token v
held_by d k v (Bottle r) = (k.peer r == v) && is_some (k.bottle r)
held_by d k v (BottleToken r) = (k.peer r == v) && k.token r

-- what of the things that are shared with a neighbour is held here
abbrev pub held : Pairs → ℕ → Thing → Bool
held p = held_by p.diner p.drinker

-- ---- what is sent

-- the message gets the next number of the link to v, and waits there
abbrev pub queued_to : (ℕ → LinkState) → ℕ → Msg → ℕ → LinkState
queued_to link v m = put link v (record {
  run = (link v).run;
  me = (link v).me;
  peer = (link v).peer;
  sending = queued (link v).sending m;
  receiving = (link v).receiving;
  version = (link v).version;
})

abbrev pub sent : (ℕ → LinkState) → Option (ℕ × Msg) → ℕ → LinkState
sent link None = link
sent link (Some x) = queued_to link x.0 x.1

-- the frame of the i-th message that waits on a link, from 1, or one with the count alone
abbrev pub frame_on : LinkState → ℕ → Option Fields
frame_on l zero = Some (ack_frame_of l)
frame_on l (suc i) = if nat_le (suc i) (length l.sending.waiting) then Some (frame_of l (suc i)) else None

-- what a rule of the forks sends, and to whom
abbrev pub fork_sends : ForkRule → Option (ℕ × Msg)
fork_sends (forks.BecomeHungry thirsty) = None
fork_sends (forks.AskFork v) = Some (v, msg.AskFork)
fork_sends (forks.GiveFork v) = Some (v, msg.Fork)
fork_sends forks.Eat = None
fork_sends (forks.Leave thirsty) = None

-- a bottle goes with its value
abbrev pub bottle_message : ℕ → ℕ → Option Value → Option (ℕ × Msg)
bottle_message v r None = None
bottle_message v r (Some x) = Some (v, msg.Bottle r x)

-- what a rule of the bottles sends, to the other end of the record
abbrev pub bottle_sends : Drinker → BottleRule → Option (ℕ × Msg)
bottle_sends d (bottles.Start session) = None
bottle_sends d (bottles.AskBottle r) = Some (d.peer r, msg.AskBottle r)
bottle_sends d (bottles.GiveBottle r held) = bottle_message (d.peer r) r (d.bottle r)
bottle_sends d bottles.Drink = None
bottle_sends d (bottles.Finish writes) = None
bottle_sends d bottles.Withdraw = None

-- the forks are as their rule leaves them, and what it sends waits for its neighbour
abbrev pub after_fork_rule : Pairs → ForkRule → Pairs
after_fork_rule p rule = record { diner = forks.act p.diner rule; drinker = p.drinker; link = sent p.link (fork_sends rule) }

-- the same of a rule of the bottles
abbrev pub after_bottle_rule : Pairs → BottleRule → Pairs
after_bottle_rule p rule = record { diner = p.diner; drinker = bottles.act p.drinker rule; link = sent p.link (bottle_sends p.drinker rule) }

-- ---- what comes

-- what is wrong with a frame: no neighbour sent it, or what the channel to its sender refuses
abbrev pub frame_fault : PlanValue → ℕ → Pairs → Fields → Option ChannelFault
frame_fault plan me p f =
    if are_neighbours plan me f.from then fault_among (is_shared plan me f.from) (held p f.from) (p.link f.from) f else Some (Link Stranger)

-- what a message brings is held
abbrev pub fork_came : Diner → ℕ → Msg → Diner
fork_came d v msg.AskFork = forks.with_token d v
fork_came d v msg.Fork = forks.with_fork d v
fork_came d v (msg.AskBottle r) = d
fork_came d v (msg.Bottle r x) = d

abbrev pub bottle_came : Drinker → Msg → Drinker
bottle_came d msg.AskFork = d
bottle_came d msg.Fork = d
bottle_came d (msg.AskBottle r) = bottles.with_token d r
bottle_came d (msg.Bottle r x) = bottles.with_bottle d r x

-- only what is fresh brings something
abbrev pub diner_after : Diner → ℕ → Arrival → Diner
diner_after d v (arrival.Fresh m) = fork_came d v m
diner_after d v arrival.Acked = d
diner_after d v arrival.Repeat = d
diner_after d v arrival.Kept = d
diner_after d v arrival.Early = d

abbrev pub drinker_after : Drinker → Arrival → Drinker
drinker_after d (arrival.Fresh m) = bottle_came d m
drinker_after d arrival.Acked = d
drinker_after d arrival.Repeat = d
drinker_after d arrival.Kept = d
drinker_after d arrival.Early = d

-- after something arrived from v, on a link that is now so
abbrev pub arrived : Pairs → ℕ → LinkState → Arrival → Pairs
arrived p v l a = record { diner = diner_after p.diner v a; drinker = drinker_after p.drinker a; link = put p.link v l }

-- what a frame is here, and what it leaves
abbrev pub arrival_of : Pairs → Fields → Arrival
arrival_of p f = arrival_at (p.link f.from) f

-- what a frame's own message alone leaves
abbrev pub after_frame : Pairs → Fields → Pairs
after_frame p f = arrived p f.from (after_arrival (p.link f.from) f) (arrival_of p f)

-- ---- what was kept

-- the kept message from v that follows, unless it would be a breach by now
abbrev pub follows : PlanValue → ℕ → ℕ → Pairs → Option Msg
follows plan me v p = follows_among (is_shared plan me v) (held p v) (p.link v)

-- it is as a fresh one; what is thrown out brings nothing
abbrev pub as_arrival : Option Msg → Arrival
as_arrival None = arrival.Acked
as_arrival (Some m) = arrival.Fresh m

-- an office's pairs after a kept message from v, as if it came now; one that would be a breach is thrown out
abbrev pub after_kept : PlanValue → ℕ → ℕ → Pairs → Pairs
after_kept plan me v p = arrived p v (link_then (p.link v) (follows plan me v p)) (as_arrival (follows plan me v p))

-- one kept message after the other, up to the first that is missing or would be a breach, so many at most
abbrev pub followed : PlanValue → ℕ → ℕ → ℕ → Pairs → Pairs
followed plan me v zero p = p
followed plan me v (suc n) p = if is_some (follows plan me v p) then followed plan me v n (after_kept plan me v p) else after_kept plan me v p

-- they follow what is fresh
abbrev pub settled : PlanValue → ℕ → ℕ → Arrival → Pairs → Pairs
settled plan me v (arrival.Fresh m) p = followed plan me v most_following p
settled plan me v arrival.Acked p = p
settled plan me v arrival.Repeat p = p
settled plan me v arrival.Kept p = p
settled plan me v arrival.Early p = p

-- an office's pairs after a frame and all that follows it: its own message, and then those that were kept
abbrev pub after_taking : PlanValue → ℕ → Pairs → Fields → Pairs
after_taking plan me p f = settled plan me f.from (arrival_of p f) (after_frame p f)
