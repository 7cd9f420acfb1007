use Rattle.std.proofs.Common.{◌≡◌, ℕ, ◌<◌, get_or}
use Rattle.site_core.specs.Journals.{Site, IsLegal}
use Rattle.world_schedule.proofs.recording.are_legal.Given as goal

-- those so far are
abbrev pub invariant-loop-office : goal.invariant-loop-office
invariant-loop-office l = (a : ℕ) (s : Site) → a < l.office-index → s ≡ get_or l.offices a s → IsLegal s
