-- A message that is sent by its number, and the frame that an answer brings.
use Rattle.std.specs.Prelude.{◌≡◌, ℕ, ◌<◌, ◌≤◌, true, length, Option, None, Some, Result, Ok, Err}
use Rattle.frame_codec.specs.Frame.{Fields}
use Rattle.office_map.specs.PlanValue.{are_neighbours}
use Rattle.window_link.specs.Windows.{used}
use Rattle.office_journal.specs.declared.event.Event.TheVariants.{Send}
use Rattle.office_journal.specs.declared.reply.Reply.{Reply}
use Rattle.office_journal.specs.declared.reply.Reply.TheVariants.{Frame}
use Rattle.office_journal.specs.declared.reply.Refusal.{Refusal}
use Rattle.site_core.specs.Journals.{Site, noted, LacksRoom}
use Rattle.site_core.specs.Growing.{link_to}

-- the frame that an office's answer brings
abbrev pub framed_as : Result Reply Refusal → Result (Option Fields) Refusal
framed_as (Ok (Frame f)) = Ok (Some f)
framed_as (Ok _) = Ok None
framed_as (Err why) = Err why

-- the message of that number waits for v: it has its number, and isn't known to be taken
pub record WaitsFor (s : Site) (v n : ℕ) : Type 0 where
  pub near : are_neighbours s.plan s.me v ≡ true
  pub unknown : (link_to s v).sending.acked < n
  pub sent : n ≤ used (link_to s v).sending

-- a message waits, for whichever neighbour
abbrev pub SomeWaits : Site → Type 0
SomeWaits s = (v : ℕ) × (n : ℕ) × WaitsFor s v n

-- a frame was made for v, of the message of that number, which waited, with no more than 18 that did
pub record SendsMessage (tag v n : ℕ) (f : Fields) (s s' : Site) : Type 0 where
  pub waits : WaitsFor s v n
  pub few : length (link_to s v).sending.waiting ≤ 18
  pub place : ℕ
  pub made : s' ≡ noted s tag (Send v place) (Frame f)
  pub number : f.number ≡ n

-- the message of that number was sent; or it doesn't wait; or there was no room for the entry
abbrev pub SendsNumber : ℕ → ℕ → ℕ → Result (Option Fields) Refusal → Site → Site → Type 0
SendsNumber tag v n (Ok (Some f)) s s' = SendsMessage tag v n f s s'
SendsNumber tag v n (Ok None) s s' = (s' ≡ s) × (WaitsFor s v n → ⊥)
SendsNumber tag v n (Err why) s s' = (s' ≡ s) × LacksRoom s why
