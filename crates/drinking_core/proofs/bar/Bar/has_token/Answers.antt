use Rattle.drinking_core.proofs.bar.Bar.has_token.Goals as goal

pub returns : goal.returns
returns c = cc
