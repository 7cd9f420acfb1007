use Rattle.std.proofs.Common.{◌≡◌, false, take}
use Rattle.std.specs.List.{flat_map}
use Rattle.std.specs.String.{string_bytes}
use Rattle.std.specs.Io.KnownBytes.{Appends, append_known}
use Rattle.frame_world.specs.Headline.{outcomes}
use Rattle.session_reports.specs.form.Forms.{outcome_as}
use Rattle.world_schedule.proofs.reports.telling.tell_finished.Given as goal

abbrev pub invariant-loop-i : goal.invariant-loop-i
invariant-loop-i g l = record {
  lines : Appends (append_known (g.W.Write.contents l.fn.out) (string_bytes l.fn.told.text)) (append_known (g.W.Write.contents l.out) (string_bytes l.told.text)) (flat_map (outcome_as l.form l.world.plan) (take l.i (outcomes l.world)));
  before : l.told.went ≡ false → l.fn.told.went ≡ false;
  still : l.told.went ≡ false → l.out ≡ l.fn.out;
}
