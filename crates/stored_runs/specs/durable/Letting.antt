-- What a turn lets out, where frames leave only when their entries stand.
use Rattle.std.specs.Prelude.{◌≡◌, ◌<◌, ◌≤◌, ℕ, Bool, true, false, List, ◌++◌, length, take, slice_get, All, Option, Some, None}
use Rattle.office_journal.specs.declared.event.Entry.{Entry}
use Rattle.site_core.specs.Limits.{most_entries}
use Rattle.site_core.specs.Journals.{Site}
use Rattle.locked_office.specs.Calls.{Key, DeskPass, Looks}
use Rattle.journal_texts.specs.Written.{journal_text}
use Rattle.socket_pump.specs.declared.pump.Turn.{Turn}
use Rattle.socket_pump.specs.Wires.{Account}
use Rattle.socket_pump.specs.Chains.{Made, sent_entry, datagram}
use Rattle.socket_pump.specs.Turns.{Times}
use Rattle.socket_pump.specs.AdaptiveTurns.{AdaptiveTurned}
use Rattle.stored_runs.specs.declared.durable.fault.TurnFault.{TurnFault}
use Rattle.stored_runs.specs.declared.durable.fault.TurnFault.TheVariants.{WireFailed, StoreFailed, JournalFull, Memory}

-- the plan and the number of an office
abbrev pub key_of : Site → Key
key_of s = (s.plan, s.me)

-- the bytes that stand, where they are known, are the text of the journal's first n entries
abbrev pub StoreHas : Option (List ℕ) → Key → List Entry → ℕ → Type 0
StoreHas None k es n = Unit {0}
StoreHas (Some bytes) k es n = bytes ≡ journal_text k.0 k.1 (take n es)

-- the datagram is of a frame whose entry is among the first n
abbrev pub IsOfStanding : ℕ → List Entry → ℕ → ℕ × List ℕ → Type 0
IsOfStanding tag es n d = (m : Made) × (d ≡ datagram m) × (i : ℕ) × (i < n) × (slice_get es i ≡ Some (sent_entry tag m))

-- These datagrams left, where the wire tells them, and each is of a frame whose entry stands: it is among the first n.
pub record LetsOut (tells : Bool) (tag : ℕ) (a b : Account) (es : List Entry) (n : ℕ) : Type 0 where
  pub out : List (ℕ × List ℕ)
  pub went : tells ≡ true → b.accepted ≡ a.accepted ++ out
  pub stand : All (IsOfStanding tag es n) out

-- What a start finds, where it is known, is a beginning of the journal's text.
abbrev pub FindsText : Option (List ℕ) → Option (List ℕ) → Key → List Entry → Type 0
FindsText None found k es = Unit {0}
FindsText (Some stood) None k es = Unit {0}
FindsText (Some stood) (Some found) k es = (rest : List ℕ) × (journal_text k.0 k.1 es ≡ found ++ rest)

-- a pump turned between the office and the wire, and then the office was looked at
pub record Turns (tells : Bool) (tag : ℕ) (k : Key) (last : Times) (now : ℕ) (p : DeskPass) (a : Account) (t : Turn) (b : Account) (q : DeskPass) (then : Times) : Type 0 where
  pub mid : DeskPass
  pub turned : AdaptiveTurned tells tag k last now p a t b mid then
  pub looked : Looks k mid q

abbrev pub SendsNothing : Bool → Account → Account → Type 0
SendsNothing tells a b = tells ≡ true → b.accepted ≡ a.accepted

-- the first of these datagrams went out
abbrev pub Posts : Bool → Account → List (ℕ × List ℕ) → Account → Type 0
Posts tells a out b = (n : ℕ) × (tells ≡ true → b.accepted ≡ a.accepted ++ take n out)

-- What a fault of a turn says: StoreFailed just where the store's append failed, and JournalFull only at a full
-- journal; at these and Memory no call of the wire failed.
abbrev pub BreaksOff : Bool → List Entry → Account → Account → TurnFault → Type 0
BreaksOff failed es a b WireFailed = failed ≡ false
BreaksOff failed es a b StoreFailed = (failed ≡ true) × (b.failures ≡ a.failures)
BreaksOff failed es a b JournalFull = (failed ≡ false) × (b.failures ≡ a.failures) × (most_entries ≤ length es)
BreaksOff failed es a b Memory = (failed ≡ false) × (b.failures ≡ a.failures)
