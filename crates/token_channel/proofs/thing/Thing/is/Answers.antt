use Rattle.token_channel.proofs.thing.Thing.is.Goals as goal

pub returns-in-Bottle-Bottle : goal.returns-in-Bottle-Bottle
returns-in-Bottle-Bottle c = cc
