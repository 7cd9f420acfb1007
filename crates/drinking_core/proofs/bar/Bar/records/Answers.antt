use Rattle.drinking_core.proofs.bar.Bar.records.Goals as goal

pub returns : goal.returns
returns c = cc
