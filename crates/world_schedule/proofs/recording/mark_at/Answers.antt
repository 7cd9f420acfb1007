use Rattle.std.proofs.Common.{◌<◌, List, length, sym, subst}
use Rattle.session_meaning.specs.declared.ending.Outcome.{Outcome}
use Rattle.world_schedule.proofs.Orders.{within_some}
use Rattle.world_schedule.proofs.recording.mark_at.Goals as goal

pub bounds-outcomes-place : goal.bounds-outcomes-place
bounds-outcomes-place c = subst (λ (l : List Outcome). c.args.place < length l) (sym c.outcomes.ensures) (within_some _ c.args.place c.requires.0 c.requires.1)
