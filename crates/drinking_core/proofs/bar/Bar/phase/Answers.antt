use Rattle.drinking_core.proofs.bar.Bar.phase.Goals as goal

pub returns : goal.returns
returns c = cc
