use Rattle.std.proofs.Common.{◌≡◌, ◌++◌, take}
use Rattle.std.specs.List.{flat_map}
use Rattle.std.specs.String.{string_bytes}
use Rattle.frame_world.specs.Headline.{outcomes}
use Rattle.session_reports.specs.form.Forms.{outcome_as}
use Rattle.world_schedule.proofs.reports.world.add_finished.Given as goal

abbrev pub invariant-loop-i : goal.invariant-loop-i
invariant-loop-i l = string_bytes l.text ≡ string_bytes l.initial.text ++ flat_map (outcome_as l.form l.world.plan) (take l.i (outcomes l.world))
