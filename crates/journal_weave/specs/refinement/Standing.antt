-- Which office is named, by what offices gave.
use Rattle.std.specs.Prelude.{◌≡◌, ◌⊎◌, ℕ, ◌+◌, ◌<◌, nat_lt, if◌then◌else◌, List, length, take, get_or, slice_get, Option, None, Some, is_some, true}
use Rattle.frame_codec.specs.Frame.{Fields}
use Rattle.office_journal.specs.declared.event.Event.{Event}
use Rattle.office_journal.specs.declared.event.Event.TheVariants as event
use Rattle.office_journal.specs.declared.event.Entry.{Entry}
use Rattle.journal_weave.specs.declared.stop.Stop.{Stop}
use Rattle.journal_weave.specs.Given.{HasMade, IsLeastOffice}
use Rattle.journal_weave.specs.ReplayValue.{ReplayValue}
use Rattle.journal_weave.specs.Replays.{given}

-- the office at that place
abbrev pub IsAt : List ReplayValue → ℕ → ReplayValue → Type 0
IsAt rs a r = (a < length rs) × (r ≡ get_or rs a r)

-- its journal has something after the first n entries, of those that it gave
abbrev pub IsLeft : ReplayValue → ℕ → Type 0
IsLeft r n = (n < given r) ⊎ (is_some r.stop ≡ true)

abbrev pub StandsBefore : List ReplayValue → List ℕ → ℕ → Type 0
StandsBefore rs at a = (r : ReplayValue) × IsAt rs a r × IsLeft r (get_or at a 0)

-- the frame that its entry after the first n takes, if it does
abbrev pub frame_taken : Event → Option Fields
frame_taken (event.Took f) = Some f
frame_taken _ = None

abbrev pub of_entry : Option Entry → Option Fields
of_entry None = None
of_entry (Some x) = frame_taken x.event

abbrev pub of_stop : Option Stop → Option Fields
of_stop None = None
of_stop (Some s) = s.takes

abbrev pub taken_next : ReplayValue → ℕ → Option Fields
taken_next r n = if nat_lt n (given r) then of_entry (slice_get r.site.entries n) else of_stop r.stop

-- the frame may still come to the office: its sender stands, and has made it none of that number
pub record MayCome (rs : List ReplayValue) (at : List ℕ) (a : ℕ) (frame : Fields) : Type 0 where
  pub stands : StandsBefore rs at frame.from
  pub none_made : (r : ReplayValue) → IsAt rs frame.from r → HasMade (take (get_or at frame.from 0) r.site.entries) a frame.number → ⊥

-- its next entry takes a frame that may still come
pub record WaitsIn (rs : List ReplayValue) (at : List ℕ) (a : ℕ) : Type 0 where
  pub mine : ReplayValue
  pub is : IsAt rs a mine
  pub frame : Fields
  pub takes : taken_next mine (get_or at a 0) ≡ Some frame
  pub comes : MayCome rs at a frame

-- nobody stands; or it is the office to be named, with the number of its next entry, from 1
abbrev pub IsFirstLeft : List ReplayValue → List ℕ → Option (ℕ × ℕ) → Type 0
IsFirstLeft rs at None = (a : ℕ) → StandsBefore rs at a → ⊥
IsFirstLeft rs at (Some left) =
    StandsBefore rs at left.0
    × (left.1 ≡ get_or at left.0 0 + 1)
    × (IsLeastOffice (λ b. StandsBefore rs at b × (WaitsIn rs at b → ⊥)) left.0
    ⊎ (((b : ℕ) → StandsBefore rs at b → WaitsIn rs at b) × IsLeastOffice (StandsBefore rs at) left.0))
