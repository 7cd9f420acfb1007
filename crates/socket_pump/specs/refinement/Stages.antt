-- What each function of a turn does of it.
use Rattle.std.specs.Prelude.{◌≡◌, ℕ, ◌≤◌, ◌<◌, Bool, true, false, List, [], ◌∷◌, ◌++◌, length, Option, Some, None, Result, Ok, Err}
use Rattle.office_journal.specs.declared.reply.Reply.{Reply}
use Rattle.office_journal.specs.declared.reply.Refusal.{Refusal}
use Rattle.window_link.specs.Windows.{used}
use Rattle.site_core.specs.Growing.{link_at}
use Rattle.locked_office.specs.Advance.{done_of}
use Rattle.locked_office.specs.Calls.{Key, DeskPass, office_with}
use Rattle.locked_office.specs.Sends.{WaitsFor}
use Rattle.socket_pump.specs.declared.last.Backoff.{Backoff}
use Rattle.socket_pump.specs.declared.pump.PumpFault.{PumpFault}
use Rattle.socket_pump.specs.Wires.{Account}
use Rattle.socket_pump.specs.Last.{IsDue}
use Rattle.socket_pump.specs.Chains.{Heard, Made, one_taken, taken, Counts, Sent, DueOnce}
use Rattle.socket_pump.specs.Handling.{Handled, heard_of, rules_after, Marks}
use Rattle.socket_pump.specs.refinement.Counts.{Owes, Spares}
use Rattle.socket_pump.specs.Turns.{Times, Hearing, HeardAll, BrokeHearing, IsFaultOf, Remembers, Told, SentTo, BrokeTelling}
use Rattle.socket_pump.specs.AdaptiveTurns.{Handling, HandledAll, BrokeHandling}

abbrev pub one_if : Bool → ℕ
one_if true = 1
one_if false = 0

-- no datagram came, or one that the office took or refused; and who is owed a count, before and then
abbrev pub HeardOne : Bool → ℕ → Key → DeskPass → Account → List Bool → Option Bool → Account → DeskPass → List Bool → Type 0
HeardOne tells tag k p a s None b q t = (q ≡ p) × (b.failures ≡ a.failures) × (tells ≡ true → b ≡ record a { received = a.received ++ None ∷ [] }) × (t ≡ s)
HeardOne tells tag k p a s (Some took) b q t = (h : Heard) × Hearing tells tag k p a [] b q (h ∷ []) × (taken (h ∷ []) ≡ one_if took) × Owes s (h ∷ []) t

-- all datagrams, and who is owed a count then
abbrev pub HeardFrom : Bool → ℕ → Key → DeskPass → Account → List Bool → ℕ → ℕ → Account → DeskPass → List Bool → Type 0
HeardFrom tells tag k p a s took refused b q t = (all : HeardAll tells tag k p a took refused b q) × Owes s all.heard t

-- the wire failed, or there was no room for what the one datagram brought
abbrev pub BrokeOne : Bool → ℕ → Key → DeskPass → Account → PumpFault → Account → DeskPass → Type 0
BrokeOne tells tag k p a f b q = (broke : BrokeHearing tells tag k p a f b q) × (length broke.heard ≤ 1)

-- no datagram came, or one that the office took or refused, and so many rules followed it; who is owed a count, and what is remembered of messages, before and then
abbrev pub HandledOne : Bool → ℕ → Key → Times → DeskPass → Account → List Bool → Option (Bool × ℕ) → Account → DeskPass → List Bool → Times → Type 0
HandledOne tells tag k last p a s None b q t then = (q ≡ p) × (b.failures ≡ a.failures) × (tells ≡ true → b ≡ record a { received = a.received ++ None ∷ [] }) × (t ≡ s) × ((v n : ℕ) → then v n ≡ last v n)
HandledOne tells tag k last p a s (Some did) b q t then =
    (h : Handled) × Handling tells tag k p a [] b q (h ∷ []) × (taken (heard_of (h ∷ [])) ≡ one_if did.0) × (done_of h.rules ≡ did.1) × Owes s (heard_of (h ∷ [])) t × Marks last (heard_of (h ∷ [])) then

-- all datagrams, with how many rules followed them, and who is owed a count then
abbrev pub HandledFrom : Bool → ℕ → Key → Times → DeskPass → Account → List Bool → ℕ → ℕ → ℕ → Account → DeskPass → List Bool → Times → Type 0
HandledFrom tells tag k last p a s took refused rules b q t then =
    (all : HandledAll tells tag k p a took refused b q) × (rules_after all.handled ≡ rules) × Owes s (heard_of all.handled) t × Marks last (heard_of all.handled) then

-- the wire failed, or there was no room for what the one datagram brought or for a rule that followed it
abbrev pub BrokeHandlingOne : Bool → ℕ → Key → Times → DeskPass → Account → PumpFault → Account → DeskPass → Times → Type 0
BrokeHandlingOne tells tag k last p a f b q then = (broke : BrokeHandling tells tag k p a f b q) × (length broke.handled ≤ 1) × Marks last (heard_of broke.handled) then

-- that of all datagrams
abbrev pub BrokeHandlingAll : Bool → ℕ → Key → Times → DeskPass → Account → PumpFault → Account → DeskPass → Times → Type 0
BrokeHandlingAll tells tag k last p a f b q then = (broke : BrokeHandling tells tag k p a f b q) × Marks last (heard_of broke.handled) then

-- what the office's answer means for the pump
abbrev pub Judged : Result Bool PumpFault → Result Reply Refusal → Type 0
Judged (Ok took) answer = Counts answer × (one_taken answer ≡ one_if took)
Judged (Err fault) answer = (why : Refusal) × (answer ≡ Err why) × IsFaultOf why fault

-- the numbers of these frames were used by then
abbrev pub AreUsed : Key → DeskPass → List Made → Type 0
AreUsed k q made = (v n : ℕ) → Sent v n made → n ≤ used (link_at k.0 k.1 q.seen v).sending

-- all are for v, and all bring its message n
abbrev pub AreFor : ℕ → List Made → Type 0
AreFor v made = (u i : ℕ) → Sent u i made → u ≡ v

abbrev pub AreOf : ℕ → ℕ → List Made → Type 0
AreOf v n made = (u i : ℕ) → Sent u i made → (u ≡ v) × (i ≡ n)

-- all bring messages, which are numbered from 1
abbrev pub AreMessages : List Made → Type 0
AreMessages made = (v n : ℕ) → Sent v n made → 0 < n

-- so many messages were sent
pub record Spoke (how : Backoff) (tells : Bool) (tag : ℕ) (k : Key) (last then : Times) (now : ℕ) (p : DeskPass) (a : Account) (sent : ℕ) (b : Account) (q : DeskPass) (made : List Made) : Type 0 where
  pub told : Told tells tag k p a b q made
  pub count : length made ≡ sent
  pub due_once : DueOnce how last now made
  pub remembers : Remembers how k last then now p q made
  pub messages : AreMessages made
  pub used : AreUsed k q made

-- one message to one neighbour
abbrev pub SpokeOf : Backoff → Bool → ℕ → Key → Times → Times → ℕ → DeskPass → Account → ℕ → Account → DeskPass → ℕ → ℕ → Type 0
SpokeOf how tells tag k last then now p a sent b q v n =
    (made : List Made) × Spoke how tells tag k last then now p a sent b q made × AreOf v n made × (WaitsFor (office_with k q.seen) v n → IsDue how (last v n) now → Sent v n made)

-- all to one, and to all
abbrev pub SpokeTo : Backoff → Bool → ℕ → Key → Times → Times → ℕ → DeskPass → Account → ℕ → Account → DeskPass → ℕ → Type 0
SpokeTo how tells tag k last then now p a sent b q v = (made : List Made) × Spoke how tells tag k last then now p a sent b q made × AreFor v made × SentTo how k last now p q made v

abbrev pub SpokeToAll : Backoff → Bool → ℕ → Key → Times → Times → ℕ → DeskPass → Account → List Bool → ℕ → Account → DeskPass → List Bool → Type 0
SpokeToAll how tells tag k last then now p a s sent b q t = (made : List Made) × Spoke how tells tag k last then now p a sent b q made × ((v : ℕ) → SentTo how k last now p q made v) × Spares s made t

-- some messages went out, and then a fault
abbrev pub Broken : Backoff → Bool → ℕ → Key → Times → Times → ℕ → DeskPass → Account → PumpFault → Account → DeskPass → List Made → Type 0
Broken how tells tag k last then now p a f b q made = BrokeTelling tells tag k p a f b q made × DueOnce how last now made × Remembers how k last then now p q made × AreMessages made

-- the same, where all were of one message, to one neighbour, and to any
abbrev pub BrokenOf : Backoff → Bool → ℕ → Key → Times → Times → ℕ → DeskPass → Account → PumpFault → Account → DeskPass → ℕ → ℕ → Type 0
BrokenOf how tells tag k last then now p a f b q v n = (made : List Made) × Broken how tells tag k last then now p a f b q made × AreOf v n made

abbrev pub BrokenTo : Backoff → Bool → ℕ → Key → Times → Times → ℕ → DeskPass → Account → PumpFault → Account → DeskPass → ℕ → Type 0
BrokenTo how tells tag k last then now p a f b q v = (made : List Made) × Broken how tells tag k last then now p a f b q made × AreFor v made

abbrev pub BrokenToAll : Backoff → Bool → ℕ → Key → Times → Times → ℕ → DeskPass → Account → PumpFault → Account → DeskPass → Type 0
BrokenToAll how tells tag k last then now p a f b q = (made : List Made) × Broken how tells tag k last then now p a f b q made

-- frames with a count alone, one at most for each office
abbrev pub AreCounts : List Made → Type 0
AreCounts [] = Unit {0}
AreCounts (m ∷ ms) = (m.frame.number ≡ 0) × (Sent m.to m.frame.number ms → ⊥) × AreCounts ms
