-- Journals that are gathered, of which offices follow each.
use Rattle.std.specs.Prelude.{◌≡◌, ℕ, List, length, get_or, Option, None, Some}
use Rattle.office_map.specs.PlanValue.{PlanValue}
use Rattle.journal_weave.specs.declared.given.GivenJournal.{GivenJournal}
use Rattle.journal_weave.specs.ReplayValue.{ReplayValue}
use Rattle.journal_weave.specs.Replays.{IsReplay, AreReplays}
use Rattle.day_audits.specs.audit.Gathered.{Gathered}
use Rattle.day_audits.specs.audit.Gathering.{AreGathered, AreJournals}

-- nothing is there; or a journal, and the office that follows it
abbrev pub IsFollowed : PlanValue → ℕ → Option GivenJournal → Option ReplayValue → Type 0
IsFollowed p a None None = Unit {0}
IsFollowed p a None (Some r) = ⊥
IsFollowed p a (Some j) None = ⊥
IsFollowed p a (Some j) (Some r) = IsReplay p a j.entries.items j.ends r

-- the texts are gathered under that plan, and of each journal that is there an office follows it
pub record Gathers (p : PlanValue) (texts : List (List ℕ)) (g : Gathered) : Type 0 where
  pub planned : g.plan ≡ p
  pub journals : List (Option GivenJournal)
  pub gathered : AreGathered p texts journals
  pub count : length g.slots ≡ length journals
  pub followed : (a : ℕ) → IsFollowed p a (get_or journals a None) (get_or g.slots a None)

-- so it is of some texts
abbrev pub GathersSome : Gathered → Type 0
GathersSome g = (texts : List (List ℕ)) × Gathers g.plan texts g

-- the texts are the journals of all offices, which follow them
pub record FollowJournals (p : PlanValue) (texts : List (List ℕ)) (rs : List ReplayValue) : Type 0 where
  pub journals : List GivenJournal
  pub are : AreJournals p texts journals
  pub follow : AreReplays p journals rs

-- they follow some journals
abbrev pub FollowSome : PlanValue → List ReplayValue → Type 0
FollowSome p rs = (journals : List GivenJournal) × AreReplays p journals rs

-- whichever texts are gathered there, they are the journals of all offices, of which this is told
abbrev pub TellsOf : (PlanValue → List GivenJournal → List ℕ → Type 0) → Gathered → List ℕ → Type 0
TellsOf Tells g told = (p : PlanValue) (texts : List (List ℕ)) → Gathers p texts g → (journals : List GivenJournal) × AreJournals p texts journals × Tells p journals told
