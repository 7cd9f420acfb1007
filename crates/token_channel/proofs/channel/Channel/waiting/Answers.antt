use Rattle.std.proofs.Common.{length, ap, arith}
use Rattle.token_channel.specs.declared.thing.Thing.TheVariants.{Fork as TheFork}
use Rattle.token_channel.specs.Channels.{ChannelState}
use Rattle.token_channel.specs.ThingLaws.{room}
use Rattle.token_channel.proofs.channel.Channel.waiting.Goals as goal

pub returns-clause-few : goal.returns-clause-few
returns-clause-few c = omega (arith, room c.self.inside.places.items c.self.inside.link.sending.waiting TheFork c.self.invariant.0, ap length c.waiting.ensures.value, ap (λ (v : ChannelState). length v.places) c.self.view_is)

pub returns-clause-value : goal.returns-clause-value
returns-clause-value c = cc
