-- An office as its journal tells it: the list of all that it accepted, with its replies.
use Rattle.std.specs.Prelude.{◌≡◌, ℕ, ◌<◌, ◌≤◌, nat_le, if◌then◌else◌, List, [], ◌∷◌, ◌++◌, length, Some, Result, Ok, Err, IsOk, IfOk, ◌⊎◌}
use Rattle.std.specs.Result.{result_err}
use Rattle.frame_codec.specs.Frame.{Fields}
use Rattle.frame_codec.specs.Spelling.{Spells, first_fault}
use Rattle.frame_codec.specs.declared.fault.FrameFault.{FrameFault}
use Rattle.office_map.specs.PlanValue.{PlanValue}
use Rattle.office_journal.specs.declared.event.Event.{Event}
use Rattle.office_journal.specs.declared.event.Event.TheVariants as event
use Rattle.office_journal.specs.declared.event.Entry.{Entry}
use Rattle.office_journal.specs.declared.reply.Reply.{Reply}
use Rattle.office_journal.specs.declared.reply.Refusal.{Refusal}
use Rattle.office_journal.specs.declared.reply.Refusal.TheVariants as refusal
use Rattle.site_core.specs.Limits.{most_entries}
use Rattle.site_core.specs.Offices.{Office, Answer, opened, answer}

-- the plan, the number of the office, and its entries, the oldest first
pub record Site : Type 0 where
  pub plan : PlanValue
  pub me : ℕ
  pub entries : List Entry

abbrev pub next_or : Office → Answer → Office
next_or o (Ok x) = x.1
next_or o (Err e) = o

-- the office after an event; a refused one changes nothing
abbrev pub after : PlanValue → ℕ → Office → Event → Office
after plan me o e = next_or o (answer plan me o e)

abbrev pub run_of : PlanValue → ℕ → Office → List Entry → Office
run_of plan me o [] = o
run_of plan me o (x ∷ xs) = run_of plan me (after plan me o x.event) xs

-- the office at the end of its journal
unfoldable pub office_of : Site → Office
office_of s = run_of s.plan s.me (opened s.plan s.me) s.entries

-- Each event is accepted where it stands, with the entry's reply, and each tag is below 16.
abbrev pub AreAccepted : PlanValue → ℕ → Office → List Entry → Type 0
AreAccepted plan me o [] = Unit {0}
AreAccepted plan me o (x ∷ xs) = (answer plan me o x.event ≡ Ok (x.reply, after plan me o x.event)) × (x.tag < 16) × AreAccepted plan me (after plan me o x.event) xs

-- Each entry has the reply that the office gives where it stands, and a tag below 16; and there are no more of them
-- than a journal takes.
pub record IsLegal (s : Site) : Type 0 where
  pub accepted : AreAccepted s.plan s.me (opened s.plan s.me) s.entries
  pub few : length s.entries ≤ most_entries

-- ---- steps

-- the journal with an event's entry
abbrev pub noted : Site → ℕ → Event → Reply → Site
noted s tag e r = record { plan = s.plan; me = s.me; entries = s.entries ++ record { tag = tag; event = e; reply = r } ∷ [] }

-- what an office's answer is to who handed the event in, and the office then: a full journal takes no entry
abbrev pub recorded : Site → ℕ → Event → Answer → Result Reply Refusal × Site
recorded s tag e (Ok x) = if nat_le most_entries (length s.entries) then (Err refusal.JournalFull, s) else (Ok x.0, noted s tag e x.0)
recorded s tag e (Err r) = (Err r, s)

-- an event that is handed in with a tag
abbrev pub step : Site → ℕ → Event → Result Reply Refusal × Site
step s tag e = recorded s tag e (answer s.plan s.me (office_of s) e)

-- the answer and the office after it; or memory ran out where the event is accepted, and nothing changed
abbrev pub OrMemory : Site → Result Reply Refusal × Site → Result Reply Refusal → Site → Type 0
OrMemory s expected result s' =
    ((result ≡ Err refusal.Memory) × (s' ≡ s) × IsOk expected.0)
    ⊎ ((result ≡ expected.0) × (s' ≡ expected.1))

-- An accepted event adds its entry, with its tag and reply, and a refused one nothing; a full journal takes none. Where
-- memory ran out the event would have been accepted, and nothing changed.
abbrev pub Steps : Site → ℕ → Event → Result Reply Refusal → Site → Type 0
Steps s tag e result s' = OrMemory s (step s tag e) result s'

-- an accepted event adds its one entry, with its reply, and a refused one adds nothing
abbrev pub Adds : Site → ℕ → Event → Result Reply Refusal → Site → Type 0
Adds s tag e (Ok r) s' = s' ≡ noted s tag e r
Adds s tag e (Err r) s' = s' ≡ s

-- an accepted event adds its one entry and a refused one nothing
abbrev pub StepsAddTheirEntry : Type 0
StepsAddTheirEntry = (s : Site) (tag : ℕ) (e : Event) (result : Result Reply Refusal) (s' : Site) → Steps s tag e result s' → Adds s tag e result s'

-- why nothing more can be noted: the journal is full, or memory ran out
abbrev pub LacksRoom : Site → Refusal → Type 0
LacksRoom s why = ((why ≡ refusal.JournalFull) × (most_entries ≤ length s.entries)) ⊎ (why ≡ refusal.Memory)

-- a journal that is said to be full is full
abbrev pub FullAtTheLimit : Type 0
FullAtTheLimit = (s : Site) (tag : ℕ) (e : Event) (s' : Site) → Steps s tag e (Err refusal.JournalFull) s' → most_entries ≤ length s.entries

-- the frame that the bytes spell was taken, with this reply: one entry more, and nothing else
abbrev pub TakesFrame : Site → ℕ → List ℕ → Reply → Site → Type 0
TakesFrame s tag bytes reply s' = (f : Fields) × Spells bytes f × (s' ≡ noted s tag (event.Took f) reply)

-- an Ok is that one entry, and what is refused leaves nothing
abbrev pub Enters : Site → ℕ → List ℕ → Result Reply Refusal → Site → Type 0
Enters s tag bytes (Ok reply) s' = TakesFrame s tag bytes reply s'
Enters s tag bytes (Err why) s' = s' ≡ s

-- bytes that come: those that spell a frame are that frame, and others are refused for what is wrong with them
pub record Receives (s : Site) (tag : ℕ) (bytes : List ℕ) (result : Result Reply Refusal) (s' : Site) : Type 0 where
  pub frame : (f : Fields) → Spells bytes f → Steps s tag (event.Took f) result s'
  pub fault : (fault : FrameFault) → first_fault bytes ≡ Some fault → (result ≡ Err (refusal.Frame fault)) × (s' ≡ s)
  pub entry : Enters s tag bytes result s'

-- ---- what was read of bytes

-- a frame that was read is taken, and a fault that was found is the refusal
abbrev pub TakesRead : Site → ℕ → Result Fields FrameFault → Result Reply Refusal → Site → Type 0
TakesRead s tag (Ok f) result s' = Steps s tag (event.Took f) result s'
TakesRead s tag (Err fault) result s' = (result ≡ Err (refusal.Frame fault)) × (s' ≡ s)

-- the bytes are read so: as the frame that they spell, or as the first fault that applies
pub record IsRead (bytes : List ℕ) (read : Result Fields FrameFault) : Type 0 where
  pub found : IfOk read (Spells bytes)
  pub only : (f : Fields) → Spells bytes f → read ≡ Ok f
  pub fault : result_err read ≡ first_fault bytes

-- what is taken of what was read is what is received of the bytes
abbrev pub ReadIsReceived : Type 0
ReadIsReceived = (s : Site) (tag : ℕ) (bytes : List ℕ) (read : Result Fields FrameFault) (result : Result Reply Refusal) (s' : Site) → IsRead bytes read → TakesRead s tag read result s' → Receives s tag bytes result s'
