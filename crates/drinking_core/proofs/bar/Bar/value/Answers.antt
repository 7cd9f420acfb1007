use Rattle.drinking_core.proofs.bar.Bar.value.Goals as goal

pub returns : goal.returns
returns c = cc
