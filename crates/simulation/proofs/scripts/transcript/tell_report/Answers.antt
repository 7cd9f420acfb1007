use Rattle.std.specs.String.{string_bytes}
use Rattle.std.specs.Io.KnownBytes.{Appends, append_known}
use Rattle.std.proofs.Common.{subst}
use Rattle.std.proofs.lemmas.Result.{on_ok_weaker}
use Rattle.world_schedule.specs.reports.WorldReport.{world_report}
use Rattle.simulation.specs.scripts.Transcript.{told_report}
use Rattle.simulation.proofs.scripts.transcript.tell_report.Goals as goal

pub returns-clause-written : goal.returns-clause-written
returns-clause-written g c =
    let w = c.args.world.now in
    let held = append_known (g.W.Write.contents c.args.out.now) (string_bytes c.args.told.text) in
    let now = g.W.Write.contents c.tell_world.new.out in
    let more : Appends held now (world_report c.args.form w c.unfinished.result) → Appends held now (told_report c.args.form w) = subst (λ n. Appends held now (world_report c.args.form w n)) c.unfinished.ensures in
    on_ok_weaker c.tell_world.result more c.tell_world.ensures.written

pub returns-clause-unwritten : goal.returns-clause-unwritten
returns-clause-unwritten g c = c.tell_world.ensures.unwritten
