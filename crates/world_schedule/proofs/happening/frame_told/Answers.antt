use Rattle.std.proofs.Common.{ap, ◌∙◌}
use Rattle.std.specs.Prelude.{slice_get}
use Rattle.std.specs.Option.{option_and_then}
use Rattle.frame_world.specs.Sent.{entry_tells}
use Rattle.world_schedule.proofs.happening.frame_told.Goals as goal

pub returns : goal.returns
returns c = c.frame_told.ensures ∙ ap (option_and_then entry_tells) (ap (λ l. slice_get l c.args.entry) c.journal.ensures.entries)
