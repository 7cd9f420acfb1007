-- What an adaptive turn of a pump does: rules follow each datagram, and a message is sent ever more seldom while its neighbour isn't heard.
use Rattle.std.specs.Prelude.{◌≡◌, ℕ, ◌+◌, ◌≤◌, ◌⊎◌, Bool, true, List, [], ◌∷◌, ◌++◌, length, Option, Ok, Err}
use Rattle.office_journal.specs.declared.event.Entry.{Entry}
use Rattle.office_journal.specs.declared.reply.Refusal.{Refusal}
use Rattle.locked_office.specs.declared.advance.Stopped.{Stopped}
use Rattle.locked_office.specs.Calls.{Key, DeskPass, Does}
use Rattle.locked_office.specs.Advance.{Advances}
use Rattle.socket_pump.specs.declared.last.Backoff.TheVariants.{Exponential}
use Rattle.socket_pump.specs.declared.pump.Turn.{Turn}
use Rattle.socket_pump.specs.declared.pump.PumpFault.{PumpFault}
use Rattle.socket_pump.specs.declared.pump.PumpFault.TheVariants.{WireFailed}
use Rattle.socket_pump.specs.Wires.{Account}
use Rattle.socket_pump.specs.Chains.{Made, taken, AllCount, answers, DueOnce}
use Rattle.socket_pump.specs.Handling.{Handled, heard_of, Handles, rules_after, AllDone, AreHandled, Marks}
use Rattle.socket_pump.specs.Turns.{Times, Ended, Faulted, IsFaultOf, Told, BrokeTelling, SentTo, CountsGo, CountsBroke, Remembers}

-- ---- datagrams

-- These datagrams came from the wire and were handed to the office, each followed by the rules that come next, and nothing was refused for want of room. What the pass added are the entries of those that were taken and of these rules.
pub record Handling (tells : Bool) (tag : ℕ) (k : Key) (p : DeskPass) (a : Account) (ends : List (Option (List ℕ))) (b : Account) (q : DeskPass) (handled : List Handled) : Type 0 where
  pub handles : Handles tag k p handled q
  pub count : AllCount (heard_of handled)
  pub done : AllDone handled
  pub added : List Entry
  pub are : AreHandled tag handled added
  pub mine : q.mine ≡ p.mine ++ added
  pub failures : b.failures ≡ a.failures
  pub wire : tells ≡ true → b ≡ record a { received = a.received ++ answers (heard_of handled) ends }

-- such datagrams, 32 or fewer and then none, of which so many were taken and so many refused
pub record HandledAll (tells : Bool) (tag : ℕ) (k : Key) (p : DeskPass) (a : Account) (took refused : ℕ) (b : Account) (q : DeskPass) : Type 0 where
  pub ends : List (Option (List ℕ))
  pub handled : List Handled
  pub ended : Ended (length handled) ends
  pub handling : Handling tells tag k p a ends b q handled
  pub taken : taken (heard_of handled) ≡ took
  pub all : length handled ≡ took + refused

-- the office had no room for this one, or for a rule that followed it
abbrev pub LackedRoom : PumpFault → Handled → Type 0
LackedRoom f h = ((why : Refusal) × (h.heard.answer ≡ Err why) × IsFaultOf why f) ⊎ ((stopped : Stopped) × (h.rules ≡ Err stopped) × IsFaultOf stopped.refusal f)

-- the wire failed after these; or there was no room for the last of them
abbrev pub EndsAt : PumpFault → List Handled → Type 0
EndsAt WireFailed handled = AllCount (heard_of handled) × AllDone handled
EndsAt f handled = (before : List Handled) × (h : Handled) × (handled ≡ before ++ h ∷ []) × AllCount (heard_of before) × AllDone before × LackedRoom f h

-- datagrams were handled, and then a fault
pub record BrokeHandling (tells : Bool) (tag : ℕ) (k : Key) (p : DeskPass) (a : Account) (f : PumpFault) (b : Account) (q : DeskPass) : Type 0 where
  pub handled : List Handled
  pub few : length handled ≤ 32
  pub ends : EndsAt f handled
  pub handles : Handles tag k p handled q
  pub added : List Entry
  pub are : AreHandled tag handled added
  pub mine : q.mine ≡ p.mine ++ added
  pub fault : Faulted a f b q
  pub wire : tells ≡ true → b ≡ record a { failures = b.failures; received = a.received ++ answers (heard_of handled) [] }

-- ---- a turn

-- Datagrams, 32 or fewer and then none, each that was taken followed by the rules that come next; then rules, at most 64, and fewer only where none is next; then messages, all that are due and no other, by what is remembered once it is known who was heard; and a count to each who brought a message and got none.
pub record AdaptiveTurned (tells : Bool) (tag : ℕ) (k : Key) (last : Times) (now : ℕ) (p : DeskPass) (a : Account) (t : Turn) (b : Account) (q : DeskPass) (then : Times) : Type 0 where
  pub mid : DeskPass
  pub ruled : DeskPass
  pub received : Account
  pub handled : HandledAll tells tag k p a t.taken t.refused received mid
  pub finally : ℕ
  pub rules : Does (λ s s'. Advances tag 64 (Ok finally) s s') k mid ruled
  pub all_rules : t.rules ≡ rules_after handled.handled + finally
  pub marked : Times
  pub marks : Marks last (heard_of handled.handled) marked
  pub made : List Made
  pub told : Told tells tag k ruled received b q made
  pub sent : length made ≡ t.sent
  pub all_due : (v : ℕ) → SentTo Exponential k marked now ruled q made v
  pub due_once : DueOnce Exponential marked now made
  pub counts : CountsGo (heard_of handled.handled) made
  pub remembers : Remembers Exponential k marked then now ruled q made

-- where an adaptive turn broke off: among the datagrams, at the last rules, or while it told
pub data AdaptiveStage (tells : Bool) (tag : ℕ) (k : Key) (last : Times) (now : ℕ) (p : DeskPass) (a : Account) (f : PumpFault) (b : Account) (q : DeskPass) (then : Times) : Type 0 where
  WhileHandling : (handled : BrokeHandling tells tag k p a f b q) (marks : Marks last (heard_of handled.handled) then) → AdaptiveStage tells tag k last now p a f b q then
  AtLastRules : (mid : DeskPass) (received : Account) (took refused : ℕ) (handled : HandledAll tells tag k p a took refused received mid) (why : Stopped) (rules : Does (λ s s'. Advances tag 64 (Err why) s s') k mid q)
      (fault : IsFaultOf why.refusal f) (wire : b ≡ received) (marks : Marks last (heard_of handled.handled) then) → AdaptiveStage tells tag k last now p a f b q then
  AfterRules : (mid ruled : DeskPass) (received : Account) (took refused done : ℕ) (handled : HandledAll tells tag k p a took refused received mid) (rules : Does (λ s s'. Advances tag 64 (Ok done) s s') k mid ruled)
      (marked : Times) (marks : Marks last (heard_of handled.handled) marked) (made : List Made) (told : BrokeTelling tells tag k ruled received f b q made) (due_once : DueOnce Exponential marked now made) (counts : CountsBroke (heard_of handled.handled) made)
      (remembers : Remembers Exponential k marked then now ruled q made) → AdaptiveStage tells tag k last now p a f b q then
