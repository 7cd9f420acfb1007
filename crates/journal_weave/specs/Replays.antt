-- Offices that follow their journals, as far as each gives its entries.
use Rattle.std.specs.Prelude.{◌≡◌, ℕ, ◌+◌, ◌<◌, ◌≤◌, Bool, true, if◌then◌else◌, List, length, map, take, get_or, Option, None, Some, All}
use Rattle.office_map.specs.PlanValue.{PlanValue}
use Rattle.frame_codec.specs.Frame.{Fields, IsFrame}
use Rattle.office_journal.specs.declared.event.Entry.{Entry}
use Rattle.frame_world.specs.declared.event.WorldEvent.{WorldEvent}
use Rattle.frame_world.specs.declared.sent.SentAt.{SentAt}
use Rattle.frame_world.specs.Worlds.{Finished, opening, run_of}
use Rattle.frame_world.specs.Sent.{TellsFrames}
use Rattle.journal_weave.specs.declared.given.GivenJournal.{GivenJournal}
use Rattle.journal_weave.specs.declared.stop.Stop.{Stop}
use Rattle.journal_weave.specs.Weaving.{untagged}
use Rattle.journal_weave.specs.Given.{TakesNext, IsWovenFrom}
use Rattle.journal_weave.specs.Following.{IsLimit}
use Rattle.journal_weave.specs.ReplayValue.{ReplayValue}

-- how many entries the office gave: all of its own, where it follows to the end
abbrev pub given_at : ℕ → Option Stop → ℕ
given_at n None = n
given_at n (Some s) = s.given

abbrev pub given : ReplayValue → ℕ
given r = given_at (length r.site.entries) r.stop

-- it is the frame that the entry after the first n takes; or there is none, or it takes none
abbrev pub TakesAs : List Entry → ℕ → Option Fields → Type 0
TakesAs entries n None = (f : Fields) → TakesNext entries n f → ⊥
TakesAs entries n (Some f) = TakesNext entries n f

-- the journal ends where the office does; or it goes on there
abbrev pub StopsSo : List Entry → Bool → ℕ → Option Stop → Type 0
StopsSo entries ends n None = (n ≡ length entries) × (ends ≡ true)
StopsSo entries ends n (Some s) = (s.given < length entries + (if ends then 0 else 1)) × TakesAs entries s.given s.takes

-- The office gave the first of these entries, as far as an office gives them, and has them in its journal, without tags. Where the next
-- one had another reply its journal has an entry more.
pub record IsReplay (plan : PlanValue) (a : ℕ) (entries : List Entry) (ends : Bool) (r : ReplayValue) : Type 0 where
  pub planned : r.site.plan ≡ plan
  pub number : r.site.me ≡ a
  pub limit : IsLimit plan a entries (given r)
  pub has : take (given r) r.site.entries ≡ map untagged (take (given r) entries)
  pub enough : given r ≤ length r.site.entries
  pub stops : StopsSo entries ends (length r.site.entries) r.stop

-- one of each office, in order of number, that follows the journal which is given of it
pub record AreReplays (plan : PlanValue) (journals : List GivenJournal) (rs : List ReplayValue) : Type 0 where
  pub offices : length journals ≡ length plan.offices
  pub count : length rs ≡ length journals
  pub each : (a : ℕ) (j : GivenJournal) (r : ReplayValue) → a < length rs → j ≡ get_or journals a j → r ≡ get_or rs a r → IsReplay plan a j.entries.items j.ends r

-- The journals are woven from a schedule, which leaves the offices that follow them. It sends the frames that these entries tell, one
-- each, and by its events sessions finish at these offices, in order.
pub record IsRecord (plan : PlanValue) (journals : List GivenJournal) (rs : List ReplayValue) (sent : List SentAt) (finished : List ℕ) : Type 0 where
  pub events : List WorldEvent
  pub woven : IsWovenFrom plan journals events
  pub leaves : (run_of (opening plan) events).sites ≡ map (λ (r : ReplayValue). r.site) rs
  pub sends : TellsFrames (run_of (opening plan) events) sent
  pub fit : All IsFrame (run_of (opening plan) events).frames
  pub finishes : map (λ (f : Finished). f.outcome.office) (run_of (opening plan) events).finished ≡ finished
