use Rattle.std.proofs.Common.{◌≡◌, ◌∷◌, [], rules, subst}
use Rattle.host_files.specs.outputs.Written.{AddsFiles}
use Rattle.command_outputs.specs.Journals.{file_name, text_at}
use Rattle.command_outputs.proofs.JournalFiles.{adds_office}
use Rattle.command_outputs.proofs.journal_files.write_world.Goals as goal

pub loop-a-preserved : goal.loop-a-preserved
loop-a-preserved g c =
    let place = c.in-Some.folder.now in
    let w = c.args.world.now in
    let here : c.new.result ≡ c.loop-a.a = search rules in
    adds_office place w.plan (text_at w) c.loop-a.a _ _ _ c.loop-a.invariant
    (subst (λ a. AddsFiles (g.T.Targets.written c.loop-a.targets) (g.T.Targets.written c.write_office.new.targets) ((file_name place w.plan a, text_at w a) ∷ [])) here c.in_ok-write_office.ensures.written)
