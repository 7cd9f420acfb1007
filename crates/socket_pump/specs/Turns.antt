-- What a turn of a pump does.
use Rattle.std.specs.Prelude.{◌≡◌, ℕ, ◌+◌, ◌<◌, ◌≤◌, ◌⊎◌, ◌↔◌, Bool, true, List, [], ◌∷◌, ◌++◌, length, map, Option, Some, None, Ok, Err}
use Rattle.office_journal.specs.declared.event.Entry.{Entry}
use Rattle.office_journal.specs.declared.reply.Refusal.{Refusal}
use Rattle.office_journal.specs.declared.reply.Refusal.TheVariants as refusal
use Rattle.site_core.specs.Limits.{most_entries}
use Rattle.locked_office.specs.declared.advance.Stopped.{Stopped}
use Rattle.locked_office.specs.Calls.{Key, DeskPass, Does, office_with}
use Rattle.locked_office.specs.Advance.{Advances}
use Rattle.locked_office.specs.Sends.{WaitsFor}
use Rattle.socket_pump.specs.declared.last.Backoff.{Backoff}
use Rattle.socket_pump.specs.declared.last.Backoff.TheVariants.{Constant}
use Rattle.socket_pump.specs.declared.last.LastSend.{LastSend}
use Rattle.socket_pump.specs.declared.pump.Turn.{Turn}
use Rattle.socket_pump.specs.declared.pump.PumpFault.{PumpFault}
use Rattle.socket_pump.specs.declared.pump.PumpFault.TheVariants.{WireFailed, Memory, JournalFull}
use Rattle.socket_pump.specs.Wires.{Account, risen}
use Rattle.socket_pump.specs.Last.{IsDue, sent_now}
use Rattle.socket_pump.specs.Chains.{Heard, Made, Hears, taken, AllCount, AreTooks, Brought, answers, Sends, sent_entry, datagram, Sent, DueOnce}

-- what is remembered of the message of each neighbour and number: when it was last sent, and how long it pauses since
abbrev pub Times : Type 0
Times = ℕ → ℕ → Option LastSend

-- ---- datagrams

-- 32 datagrams, or fewer and then none
abbrev pub Ended : ℕ → List (Option (List ℕ)) → Type 0
Ended n ends = ((n ≡ 32) × (ends ≡ [])) ⊎ ((n < 32) × (ends ≡ None ∷ []))

-- These datagrams came from the wire and were handed to the office, and none was refused for want of room. What the pass added are the entries of those that were taken.
pub record Hearing (tells : Bool) (tag : ℕ) (k : Key) (p : DeskPass) (a : Account) (ends : List (Option (List ℕ))) (b : Account) (q : DeskPass) (heard : List Heard) : Type 0 where
  pub hears : Hears tag k p heard q
  pub count : AllCount heard
  pub tooks : List Entry
  pub are : AreTooks tag heard tooks
  pub mine : q.mine ≡ p.mine ++ tooks
  pub failures : b.failures ≡ a.failures
  pub wire : tells ≡ true → b ≡ record a { received = a.received ++ answers heard ends }

-- such datagrams, 32 or fewer and then none, of which so many were taken and so many refused
pub record HeardAll (tells : Bool) (tag : ℕ) (k : Key) (p : DeskPass) (a : Account) (took refused : ℕ) (b : Account) (q : DeskPass) : Type 0 where
  pub ends : List (Option (List ℕ))
  pub heard : List Heard
  pub ended : Ended (length heard) ends
  pub hearing : Hearing tells tag k p a ends b q heard
  pub taken : taken heard ≡ took
  pub all : length heard ≡ took + refused

-- ---- faults

-- WireFailed just where the count of failures rose, JournalFull only at a full journal
abbrev pub Faulted : Account → PumpFault → Account → DeskPass → Type 0
Faulted a WireFailed b q = b.failures ≡ risen a.failures
Faulted a Memory b q = b.failures ≡ a.failures
Faulted a JournalFull b q = (b.failures ≡ a.failures) × (most_entries ≤ length q.seen)

-- what an office refused for want of room is told as
abbrev pub IsFaultOf : Refusal → PumpFault → Type 0
IsFaultOf why WireFailed = ⊥
IsFaultOf why Memory = why ≡ refusal.Memory
IsFaultOf why JournalFull = why ≡ refusal.JournalFull

-- the office had no room for this one
abbrev pub HadNoRoom : PumpFault → Heard → Type 0
HadNoRoom f h = (why : Refusal) × (h.answer ≡ Err why) × IsFaultOf why f

-- the wire failed after these; or there was no room for the last of them
abbrev pub EndsBy : PumpFault → List Heard → Type 0
EndsBy WireFailed heard = AllCount heard
EndsBy f heard = (before : List Heard) × (h : Heard) × (heard ≡ before ++ h ∷ []) × AllCount before × HadNoRoom f h

-- datagrams were heard, and then a fault
pub record BrokeHearing (tells : Bool) (tag : ℕ) (k : Key) (p : DeskPass) (a : Account) (f : PumpFault) (b : Account) (q : DeskPass) : Type 0 where
  pub heard : List Heard
  pub few : length heard ≤ 32
  pub ends : EndsBy f heard
  pub hears : Hears tag k p heard q
  pub tooks : List Entry
  pub are : AreTooks tag heard tooks
  pub mine : q.mine ≡ p.mine ++ tooks
  pub fault : Faulted a f b q
  pub wire : tells ≡ true → b ≡ record a { failures = b.failures; received = a.received ++ answers heard [] }

-- ---- messages

-- What is remembered of each message, after these were sent now: of those that wait still. Of one that waits at the end alone, and wasn't sent, nothing is said.
pub record Remembers (how : Backoff) (k : Key) (last then : Times) (now : ℕ) (p q : DeskPass) (made : List Made) : Type 0 where
  pub sent : (v n : ℕ) → WaitsFor (office_with k q.seen) v n → Sent v n made → then v n ≡ Some (sent_now how (last v n) now)
  pub others : (v n : ℕ) → WaitsFor (office_with k p.seen) v n → WaitsFor (office_with k q.seen) v n → (Sent v n made → ⊥) → then v n ≡ last v n

-- frames were made, and went out
pub record Told (tells : Bool) (tag : ℕ) (k : Key) (p : DeskPass) (a : Account) (b : Account) (q : DeskPass) (made : List Made) : Type 0 where
  pub sends : Sends tag k p made q
  pub mine : q.mine ≡ p.mine ++ map (sent_entry tag) made
  pub failures : b.failures ≡ a.failures
  pub wire : tells ≡ true → b ≡ record a { accepted = a.accepted ++ map datagram made }

-- each message to v that waited at p, waits still at q and was due is among them
abbrev pub SentTo : Backoff → Key → Times → ℕ → DeskPass → DeskPass → List Made → ℕ → Type 0
SentTo how k last now p q made v = (n : ℕ) → WaitsFor (office_with k p.seen) v n → WaitsFor (office_with k q.seen) v n → IsDue how (last v n) now → Sent v n made

-- a message to v is among them
abbrev pub GotMessage : ℕ → List Made → Type 0
GotMessage v made = (n : ℕ) × (0 < n) × Sent v n made

-- a count, which is a frame with the number 0, goes to each who brought a message and gets none, and to no other
abbrev pub CountsGo : List Heard → List Made → Type 0
CountsGo heard made = (v : ℕ) → Sent v 0 made ↔ (Brought v heard × (GotMessage v made → ⊥))

-- before a fault: each goes to one who brought a message and gets none
abbrev pub CountsBroke : List Heard → List Made → Type 0
CountsBroke heard made = (v : ℕ) → Sent v 0 made → Brought v heard × (GotMessage v made → ⊥)

-- which of the frames that were made went out before a fault: all, but where the wire failed at the last
abbrev pub Lost : PumpFault → List Made → List Made → Type 0
Lost WireFailed made out = (m : Made) × (made ≡ out ++ m ∷ [])
Lost Memory made out = made ≡ out
Lost JournalFull made out = made ≡ out

-- frames were made and went out, and then a fault
pub record BrokeTelling (tells : Bool) (tag : ℕ) (k : Key) (p : DeskPass) (a : Account) (f : PumpFault) (b : Account) (q : DeskPass) (made : List Made) : Type 0 where
  pub sends : Sends tag k p made q
  pub mine : q.mine ≡ p.mine ++ map (sent_entry tag) made
  pub fault : Faulted a f b q
  pub out : List Made
  pub lost : Lost f made out
  pub wire : tells ≡ true → b ≡ record a { failures = b.failures; accepted = a.accepted ++ map datagram out }

-- ---- a turn

-- Datagrams, 32 or fewer and then none; then rules, at most 64, each the one that is next, and fewer only where none is next; then messages, each that was never sent or was last sent 50 ago or longer, and no other; and a count to each who brought a message and got none.
pub record Turned (tells : Bool) (tag : ℕ) (k : Key) (last : Times) (now : ℕ) (p : DeskPass) (a : Account) (t : Turn) (b : Account) (q : DeskPass) (then : Times) : Type 0 where
  pub mid : DeskPass
  pub ruled : DeskPass
  pub received : Account
  pub heard : HeardAll tells tag k p a t.taken t.refused received mid
  pub rules : Does (λ s s'. Advances tag 64 (Ok t.rules) s s') k mid ruled
  pub made : List Made
  pub told : Told tells tag k ruled received b q made
  pub sent : length made ≡ t.sent
  pub all_due : (v : ℕ) → SentTo Constant k last now ruled q made v
  pub due_once : DueOnce Constant last now made
  pub counts : CountsGo heard.heard made
  pub remembers : Remembers Constant k last then now ruled q made

-- where a turn broke off: while it heard, at the rules, or while it told
pub data Stage (tells : Bool) (tag : ℕ) (k : Key) (last : Times) (now : ℕ) (p : DeskPass) (a : Account) (f : PumpFault) (b : Account) (q : DeskPass) (then : Times) : Type 0 where
  WhileHearing : (heard : BrokeHearing tells tag k p a f b q) (times : (v n : ℕ) → then v n ≡ last v n) → Stage tells tag k last now p a f b q then
  AtRules : (mid : DeskPass) (received : Account) (took refused : ℕ) (heard : HeardAll tells tag k p a took refused received mid) (why : Stopped) (rules : Does (λ s s'. Advances tag 64 (Err why) s s') k mid q)
      (fault : IsFaultOf why.refusal f) (wire : b ≡ received) (times : (v n : ℕ) → then v n ≡ last v n) → Stage tells tag k last now p a f b q then
  WhileTelling : (mid ruled : DeskPass) (received : Account) (took refused done : ℕ) (heard : HeardAll tells tag k p a took refused received mid) (rules : Does (λ s s'. Advances tag 64 (Ok done) s s') k mid ruled)
      (made : List Made) (told : BrokeTelling tells tag k ruled received f b q made) (due_once : DueOnce Constant last now made) (counts : CountsBroke heard.heard made) (remembers : Remembers Constant k last then now ruled q made) → Stage tells tag k last now p a f b q then
