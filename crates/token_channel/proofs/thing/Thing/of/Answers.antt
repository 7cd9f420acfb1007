use Rattle.token_channel.proofs.thing.Thing.of.Goals as goal

pub returns-in-Bottle : goal.returns-in-Bottle
returns-in-Bottle c = cc
