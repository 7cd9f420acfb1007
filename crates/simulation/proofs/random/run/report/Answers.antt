use Rattle.std.proofs.Common.{◌≡◌, ◌-◌, length, rules, ap, ◌∙◌}
use Rattle.std.proofs.lemmas.List.{length-map}
use Rattle.world_schedule.specs.Readers.{listed_as}
use Rattle.simulation.specs.random.Runs.{unfinished_of}
use Rattle.simulation.proofs.random.run.report.Goals as goal

pub returns : goal.returns
returns c =
    let w = c.in_ok-world.world in
    let size : length c.finished.result.now ≡ length w.finished = ap length c.finished.ensures.listed ∙ length-map w.finished listed_as in
    let count : c.saturating_sub-unfinished.result ≡ unfinished_of c.args.programs.now w =
    c.saturating_sub-unfinished.ensures ∙ ap (λ n. length c.args.programs.now - n) size in
    record {
      run = c.in_ok-world.ensures.run;
      headline = c.in_ok-world.ensures.headline;
      told = search rules;
    }
