-- What is kept while journals are merged.
use Rattle.std.specs.Prelude.{◌≡◌, ◌≢◌, ℕ, suc, ◌+◌, ◌<◌, ◌≤◌, List, [], ◌∷◌, ◌++◌, length, map, take, get_or, set, slice_get, Option, Some, None, All, ◌⊎◌}
use Rattle.std.specs.Option.{option_and_then}
use Rattle.std.specs.BTreeMap.{get}
use Rattle.std.specs.declared.cmp.Ordering.{Ordering}
use Rattle.office_map.specs.PlanValue.{PlanValue}
use Rattle.frame_codec.specs.Frame.{Fields, IsFrame}
use Rattle.office_journal.specs.declared.event.Event.{Event}
use Rattle.office_journal.specs.declared.event.Event.TheVariants as event
use Rattle.office_journal.specs.declared.event.Entry.{Entry}
use Rattle.office_journal.specs.Replies.{frame_told}
use Rattle.frame_world.specs.declared.event.WorldEvent.{WorldEvent}
use Rattle.frame_world.specs.declared.event.WorldEvent.TheVariants as happening
use Rattle.frame_world.specs.Worlds.{World, opening, frames_of, run_of, AreAccepted}
use Rattle.frame_world.specs.WorldStates.{IsSeated}
use Rattle.frame_world.specs.declared.sent.SentAt.{SentAt}
use Rattle.frame_world.specs.Sent.{told_in}
use Rattle.journal_weave.specs.declared.key.FrameKey.{FrameKey}
use Rattle.journal_weave.specs.declared.sent.SentFrames.{SentFrames}
use Rattle.journal_weave.specs.declared.merge.Merge.{Merge}
use Rattle.journal_weave.specs.Weaving.{untagged, entries_at}
use Rattle.journal_weave.specs.FrameLaws.{AreAmong}
use Rattle.journal_weave.specs.Following.{site_of, Gives, IsLimit}
use Rattle.journal_weave.specs.ReplayValue.{ReplayValue}
use Rattle.journal_weave.specs.Replays.{given}
use Rattle.journal_weave.specs.refinement.Keys.{key_of}

-- ---- events of offices in a world

-- the frame has that number, from 1, or none
abbrev pub WasSent : List Fields → Fields → ℕ → Type 0
WasSent frames f k = (j : ℕ) × (k ≡ suc j) × (slice_get frames j ≡ Some f)

abbrev pub WasNotSent : List Fields → Fields → Type 0
WasNotSent frames f = (j : ℕ) → slice_get frames j ≡ Some f → ⊥

-- this event of the world is that event of the office
abbrev pub IsEventAt : List Fields → ℕ → Event → WorldEvent → Type 0
IsEventAt frames a (event.Submit p) e = e ≡ happening.Submit a p
IsEventAt frames a (event.Do r) e = e ≡ happening.Do a r
IsEventAt frames a (event.Send b i) e = e ≡ happening.Send a b i
IsEventAt frames a (event.Withdraw t) e = e ≡ happening.Withdraw a t
IsEventAt frames a (event.Took f) e = (f.to ≡ a) × (k : ℕ) × (e ≡ happening.Deliver k) × WasSent frames f k

-- the event takes a frame that is for another office, or wasn't sent
pub record CannotCome (frames : List Fields) (a : ℕ) (e : Event) : Type 0 where
  pub frame : Fields
  pub takes : e ≡ event.Took frame
  pub lacks : (frame.to ≢ a) ⊎ WasNotSent frames frame

-- frames that are the same but for their messages are the same
abbrev pub AreOne : List Fields → Type 0
AreOne frames = (j k : ℕ) (f g : Fields) → slice_get frames j ≡ Some f → slice_get frames k ≡ Some g → key_of f ≡ key_of g → f ≡ g

-- the event of the world for an office's event, if there is one; else it can't come, where these are
abbrev pub IsFound : List Fields → ℕ → Event → Option WorldEvent → Type 0
IsFound frames a e (Some found) = IsEventAt frames a e found
IsFound frames a e None = AreOne frames → CannotCome frames a e

-- ---- a schedule

-- each office has the plan and its number, and each frame that an entry tells was sent
pub record IsSound (plan : PlanValue) (w : World) : Type 0 where
  pub seats : IsSeated plan w
  pub known : (a k : ℕ) (x : Entry) → slice_get (entries_at w a) k ≡ Some x → AreAmong (frames_of x.reply) w.frames

-- the schedule is accepted, and has so many first entries of each office
pub record Has (plan : PlanValue) (told : ℕ → List Entry) (at : ℕ → ℕ) (schedule : List WorldEvent) : Type 0 where
  pub accepted : AreAccepted (opening plan) schedule
  pub entries : (a : ℕ) → entries_at (run_of (opening plan) schedule) a ≡ map untagged (take (at a) (told a))

-- an entry that its office gives there, by an event of that world
pub record Follows (plan : PlanValue) (told : ℕ → List Entry) (at : ℕ → ℕ) (schedule : List WorldEvent) (a : ℕ) (x : Entry) (e : WorldEvent) : Type 0 where
  pub has : Has plan told at schedule
  pub inside : a < length plan.offices
  pub next : slice_get (told a) (at a) ≡ Some x
  pub gives : Gives (site_of plan a (take (at a) (told a))) x
  pub is : IsEventAt (run_of (opening plan) schedule).frames a x.event e

-- ---- a merge; C compares the keys of frames

-- what each office tells is what it gave, as far as it gives it
abbrev pub AreFollowed : PlanValue → (ℕ → List Entry) → List ReplayValue → Type 0
AreFollowed plan told rs = (a : ℕ) (r : ReplayValue) → a < length rs → r ≡ get_or rs a r → IsLimit plan a (told a) (given r) × (take (given r) r.site.entries ≡ map untagged (take (given r) (told a)))

-- it has no more of an office than that gave
abbrev pub IsWithin : List ReplayValue → Merge → Type 0
IsWithin rs m = (a : ℕ) → get_or m.at.items a 0 ≤ get_or (map given rs) a 0

-- the frame that the entry of an office tells, where these offices followed their journals
abbrev pub told_by : List ReplayValue → SentAt → Option Fields
told_by rs m = option_and_then (λ (r : ReplayValue). told_in r.site.entries m.entry) (slice_get rs m.office)

-- a frame was sent under that number, and it is this one but for its message
pub record WasSentAs (frames : List Fields) (f : Fields) (k : ℕ) : Type 0 where
  pub frame : Fields
  pub same : key_of frame ≡ key_of f
  pub sent : WasSent frames frame k

abbrev pub number_in : (FrameKey → FrameKey → Ordering) → SentFrames → Fields → Option ℕ
number_in C s f = get C s.numbers (key_of f)

module _ (C : FrameKey → FrameKey → Ordering) (rs : List ReplayValue) where
  -- the frames of a world, each with a number that it was sent under
  pub record Knows (s : SentFrames) (frames : List Fields) : Type 0 where
    pub told : map (told_by rs) s.sent.items ≡ map Some frames
    pub fit : All IsFrame frames
    pub right : (f : Fields) (k : ℕ) → number_in C s f ≡ Some k → WasSentAs frames f k
    pub all : (f g : Fields) → number_in C s f ≡ None → key_of g ≡ key_of f → WasNotSent frames g

  -- the schedule is accepted, and has so many first entries of each office
  pub record IsMerged (plan : PlanValue) (told : ℕ → List Entry) (m : Merge) (events : List WorldEvent) : Type 0 where
    pub accepted : AreAccepted (opening plan) events
    pub has : (a : ℕ) → entries_at (run_of (opening plan) events) a ≡ map untagged (take (get_or m.at.items a 0) (told a))
    pub sent : Knows m.sent (run_of (opening plan) events).frames

  -- the office's next entry goes on the schedule, by this event
  pub record GoesOn (m m' : Merge) (a : ℕ) (x : Entry) (e : WorldEvent) : Type 0 where
    pub at : m'.at.items ≡ set m.at.items a (get_or m.at.items a 0 + 1)
    pub sent : told_by rs (record { office = a; entry = get_or m.at.items a 0 }) ≡ frame_told x.reply → (frames : List Fields) → Knows m.sent frames → Knows m'.sent (frames ++ frames_of x.reply)
    pub is : (frames : List Fields) → Knows m.sent frames → IsEventAt frames a x.event e

  -- the office has a next entry, which it gave, and which goes on the schedule by this event
  abbrev pub GoesNext : Merge → Merge → ℕ → ReplayValue → WorldEvent → Type 0
  GoesNext m m' a r e = (x : Entry) × (get_or m.at.items a 0 < given r) × (slice_get r.site.entries (get_or m.at.items a 0) ≡ Some x) × GoesOn m m' a x e

  -- whatever these offices follow, the event comes to the schedule
  abbrev pub AddsEvent : Merge → Merge → WorldEvent → Type 0
  AddsEvent m m' e = (plan : PlanValue) (told : ℕ → List Entry) (es : List WorldEvent) → length rs ≡ length plan.offices → AreFollowed plan told rs → IsMerged plan told m es → IsMerged plan told m' (es ++ e ∷ [])

  -- the office gave no more, or has none, or its next entry takes a frame that can't come
  abbrev pub IsStuck : Merge → ℕ → ReplayValue → Type 0
  IsStuck m a r =
      ((given r ≤ get_or m.at.items a 0) ⊎ (slice_get r.site.entries (get_or m.at.items a 0) ≡ None))
      ⊎ ((x : Entry) × (slice_get r.site.entries (get_or m.at.items a 0) ≡ Some x) × ((frames : List Fields) → Knows m.sent frames → AreOne frames → CannotCome frames a x.event))

  abbrev pub StuckAt : Merge → ℕ → Type 0
  StuckAt m a = (r : ReplayValue) → r ≡ get_or rs a r → IsStuck m a r

  -- whatever these offices follow, the schedule has the first of it, and no office goes on
  pub record IsAtEnd (plan : PlanValue) (m : Merge) (events : List WorldEvent) : Type 0 where
    pub within : IsWithin rs m
    pub merged : (told : ℕ → List Entry) → AreFollowed plan told rs → IsMerged plan told m events
    pub stuck : (a : ℕ) → a < length rs → StuckAt m a
