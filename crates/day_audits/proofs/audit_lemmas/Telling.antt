-- What the offices that follow their journals leave, and what is told of it.
use Rattle.std.proofs.Common.{◌≡◌, ℕ, List, map, Option, None, Some, inl, inr, ◌⊎◌, sym, subst}
use Rattle.std.specs.Prelude.{IfNone, IfSome}
use Rattle.office_map.specs.PlanValue.{PlanValue}
use Rattle.frame_world.specs.declared.event.WorldEvent.{WorldEvent}
use Rattle.frame_world.specs.declared.sent.SentAt.{SentAt}
use Rattle.frame_world.specs.Worlds.{World, opening, run_of}
use Rattle.site_core.specs.Journals.{Site}
use Rattle.world_schedule.specs.Records.{IsLeftBy}
use Rattle.journal_weave.specs.declared.given.GivenJournal.{GivenJournal}
use Rattle.journal_weave.specs.declared.fault.WeaveFault.{WeaveFault}
use Rattle.journal_weave.specs.declared.fault.WeaveFault.TheVariants as faults
use Rattle.journal_weave.specs.Given.{IsWovenFrom, IsUnwoven}
use Rattle.journal_weave.specs.ReplayValue.{ReplayValue}
use Rattle.journal_weave.specs.Replays.{IsRecord}
use Rattle.session_reports.specs.declared.form.forms.Form.{Form}
use Rattle.day_audits.specs.audit.Findings.{IsToldOf, TellsWoven, TellsUnwoven}
use Rattle.day_audits.specs.audit.refinement.Naming.{Names}

abbrev sites_of : List ReplayValue → List Site
sites_of rs = map (λ (r : ReplayValue). r.site) rs

-- a schedule leaves them, with what it leaves beside them
pub left_by : (p : PlanValue) (journals : List GivenJournal) (rs : List ReplayValue) (sent : List SentAt) (order : List ℕ) (h : IsRecord p journals rs sent order) → IsLeftBy p h.events (sites_of rs) sent order
left_by p journals rs sent order h = record { leaves = h.leaves; sends = h.sends; fit = h.fit; finishes = h.finishes }

-- and the report of the world to which it leads is told
pub tells_woven : (f : Form) (p : PlanValue) (journals : List GivenJournal) (rs : List ReplayValue) (sent : List SentAt) (order : List ℕ) (w : World) (text : List ℕ) → IsRecord p journals rs sent order
    → ((events : List WorldEvent) → IsLeftBy p events (sites_of rs) sent order → w ≡ run_of (opening p) events) → IsToldOf f w text → TellsWoven f w p journals text
tells_woven f p journals rs sent order w text h leads told = record { events = h.events; woven = h.woven; leads = leads h.events (left_by p journals rs sent order h); report = told }

-- the same of a world that may be there, and where it isn't
pub some_more : (o : Option World) (P Q : World → Type 0) → ((w : World) → P w → Q w) → IfSome o P → IfSome o Q
some_more None P Q k h = tt
some_more (Some w) P Q k h = k w h

pub none_more : (o : Option World) (P Q : Type 0) → (P → Q) → IfNone o P → IfNone o Q
none_more None P Q k h = k h
none_more (Some w) P Q k h = tt

-- no schedule does: an entry is named
pub tells_unwoven : (f : Form) (p : PlanValue) (journals : List GivenJournal) (fault : WeaveFault) (text : List ℕ) → Names f p fault text → IsUnwoven p journals fault
    → (fault ≡ faults.Memory) ⊎ ((events : List WorldEvent) → IsWovenFrom p journals events → ⊥) → TellsUnwoven f p journals text
tells_unwoven f p journals faults.Memory text names left never = absurd names
tells_unwoven f p journals (faults.Unwoven office entry) text names left (inl memory) = absurd (cc)
tells_unwoven f p journals (faults.Unwoven office entry) text names left (inr never) = record { office = office; entry = entry; left = left; never = never; line = names }

-- the same of copies of these
pub left_of_copies : (p q : PlanValue) (events : List WorldEvent) (sites sites' : List Site) (sent : List SentAt) (order order' : List ℕ) → q ≡ p → sites' ≡ sites → order' ≡ order → IsLeftBy p events sites sent order → IsLeftBy q events sites' sent order'
left_of_copies p q events sites sites' sent order order' plan offices places left =
    subst (λ x. IsLeftBy x events sites' sent order') (sym plan) (subst (λ l. IsLeftBy p events l sent order') (sym offices) (subst (IsLeftBy p events sites sent) (sym places) left))
