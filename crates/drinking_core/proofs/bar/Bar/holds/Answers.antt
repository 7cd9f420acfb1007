use Rattle.drinking_core.proofs.bar.Bar.holds.Goals as goal

pub returns : goal.returns
returns c = cc
