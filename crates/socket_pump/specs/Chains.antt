-- What a pass does at its desk, one call after another. Entries of others may stand between.
use Rattle.std.specs.Prelude.{◌≡◌, ℕ, ◌+◌, ◌⊎◌, List, [], ◌∷◌, ◌++◌, Option, Some, Result, Ok, Err}
use Rattle.frame_codec.specs.Frame.{Fields}
use Rattle.frame_codec.specs.Spelling.{Spells, spelling}
use Rattle.office_journal.specs.declared.event.Entry.{Entry}
use Rattle.office_journal.specs.declared.event.Event.TheVariants.{Send, Took}
use Rattle.office_journal.specs.declared.reply.Reply.{Reply}
use Rattle.office_journal.specs.declared.reply.Reply.TheVariants.{Frame}
use Rattle.office_journal.specs.declared.reply.Reply.TheVariants as reply
use Rattle.office_journal.specs.declared.reply.Refusal.{Refusal}
use Rattle.office_journal.specs.declared.reply.Refusal.TheVariants.{Memory, JournalFull}
use Rattle.site_core.specs.Journals.{Site, noted, Receives}
use Rattle.locked_office.specs.Calls.{Key, DeskPass, Does}
use Rattle.socket_pump.specs.declared.last.Backoff.{Backoff}
use Rattle.socket_pump.specs.declared.last.LastSend.{LastSend}
use Rattle.socket_pump.specs.Last.{IsDue}

-- a datagram, and what the office answered to it
pub record Heard : Type 0 where
  pub bytes : List ℕ
  pub answer : Result Reply Refusal

-- a frame that was made: for whom, which of the messages that wait (0: of none), and the frame
pub record Made : Type 0 where
  pub to : ℕ
  pub place : ℕ
  pub frame : Fields

-- entries of others came, and nothing else changed
abbrev pub Sees : DeskPass → DeskPass → Type 0
Sees p q = (between : List Entry) × (q ≡ record p { seen = p.seen ++ between })

-- ---- datagrams

-- each is handed to the office, after the one before
abbrev pub Hears : ℕ → Key → DeskPass → List Heard → DeskPass → Type 0
Hears tag k p [] q = Sees p q
Hears tag k p (h ∷ hs) q = (m : DeskPass) × Does (λ s s'. Receives s tag h.bytes h.answer s') k p m × Hears tag k m hs q

-- how many were taken
abbrev pub one_taken : Result Reply Refusal → ℕ
one_taken (Ok r) = 1
one_taken (Err why) = 0

abbrev pub taken : List Heard → ℕ
taken [] = 0
taken (h ∷ hs) = one_taken h.answer + taken hs

-- answers that are counted, as taken or as refused: none for want of room
abbrev pub Counts : Result Reply Refusal → Type 0
Counts (Err Memory) = ⊥
Counts (Err JournalFull) = ⊥
Counts (Err _) = Unit {0}
Counts (Ok r) = Unit {0}

-- no answer is for want of room
abbrev pub AllCount : List Heard → Type 0
AllCount [] = Unit {0}
AllCount (h ∷ hs) = Counts h.answer × AllCount hs

-- the entry of one that was taken: the frame that the bytes spell, with the office's answer
abbrev pub IsTook : ℕ → List ℕ → Result Reply Refusal → List Entry → Type 0
IsTook tag bytes (Ok r) es = (f : Fields) × Spells bytes f × (es ≡ record { tag = tag; event = Took f; reply = r } ∷ [])
IsTook tag bytes (Err why) es = es ≡ []

-- the entries of those that were taken, in order
abbrev pub AreTooks : ℕ → List Heard → List Entry → Type 0
AreTooks tag [] es = es ≡ []
AreTooks tag (h ∷ hs) es = (first rest : List Entry) × (es ≡ first ++ rest) × IsTook tag h.bytes h.answer first × AreTooks tag hs rest

-- an answer to a message: it was taken, now or before, or it came before its turn
abbrev pub BringsMessage : Result Reply Refusal → Type 0
BringsMessage (Ok reply.Taken) = Unit {0}
BringsMessage (Ok reply.Repeat) = Unit {0}
BringsMessage (Ok reply.Kept) = Unit {0}
BringsMessage (Ok reply.Early) = Unit {0}
BringsMessage (Ok _) = ⊥
BringsMessage (Err why) = ⊥

-- a frame of v is among them, and brought a message
abbrev pub Brought : ℕ → List Heard → Type 0
Brought v [] = ⊥
Brought v (h ∷ hs) = ((f : Fields) × Spells h.bytes f × (f.from ≡ v) × BringsMessage h.answer) ⊎ Brought v hs

-- what the wire answered: these datagrams, and then that
abbrev pub answers : List Heard → List (Option (List ℕ)) → List (Option (List ℕ))
answers [] ends = ends
answers (h ∷ hs) ends = Some h.bytes ∷ answers hs ends

-- ---- frames

abbrev pub MakesFrame : ℕ → Made → Site → Site → Type 0
MakesFrame tag m s s' = s' ≡ noted s tag (Send m.to m.place) (Frame m.frame)

-- each is made after the one before
abbrev pub Sends : ℕ → Key → DeskPass → List Made → DeskPass → Type 0
Sends tag k p [] q = Sees p q
Sends tag k p (m ∷ ms) q = (x : DeskPass) × Does (MakesFrame tag m) k p x × Sends tag k x ms q

abbrev pub sent_entry : ℕ → Made → Entry
sent_entry tag m = record { tag = tag; event = Send m.to m.place; reply = Frame m.frame }

-- the datagrams of these frames
abbrev pub datagram : Made → ℕ × List ℕ
datagram m = (m.to, spelling m.frame)

-- a frame of v's message n is among them
abbrev pub Sent : ℕ → ℕ → List Made → Type 0
Sent v n [] = ⊥
Sent v n (m ∷ ms) = ((m.to ≡ v) × (m.frame.number ≡ n)) ⊎ Sent v n ms

-- each brings a count alone, or a message that was due now; and none comes again
abbrev pub DueOnce : Backoff → (ℕ → ℕ → Option LastSend) → ℕ → List Made → Type 0
DueOnce how last now [] = Unit {0}
DueOnce how last now (m ∷ ms) = ((m.frame.number ≡ 0) ⊎ IsDue how (last m.to m.frame.number) now) × (Sent m.to m.frame.number ms → ⊥) × DueOnce how last now ms
