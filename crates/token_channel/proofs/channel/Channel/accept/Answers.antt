use Rattle.std.proofs.Common.{◌||◌, refl, sym, ap, ◌∙◌}
use Rattle.window_link.specs.Links.{arrival_at}
use Rattle.window_link.specs.declared.arrival.Arrival.{Arrival}
use Rattle.token_channel.specs.Places.{holds, waits}
use Rattle.token_channel.specs.Channels.{ChannelState, after_frame, settled, following, with_following, most_following}
use Rattle.token_channel.proofs.TakenHeld.{held_with_all}
use Rattle.token_channel.proofs.channel.Channel.accept.Goals as goal

pub returns-clause-messages : goal.returns-clause-messages
returns-clause-messages c =
    let after = after_frame c.args.self.now c.args.frame.now in
    c.settle.ensures.messages ∙ ap (λ (s : ChannelState). with_following c.arrive-arrival.result (following most_following s)) c.arrive-arrival.ensures.taken
    ∙ ap (λ (a : Arrival). with_following a (following most_following after)) c.arrive-arrival.ensures.arrival

pub returns-clause-channel : goal.returns-clause-channel
returns-clause-channel c =
    c.settle.ensures.channel ∙ ap (settled c.arrive-arrival.result) c.arrive-arrival.ensures.taken ∙ ap (λ (a : Arrival). settled a (after_frame c.args.self.now c.args.frame.now)) c.arrive-arrival.ensures.arrival

pub returns-clause-held : goal.returns-clause-held
returns-clause-held c t =
    let before = c.args.self.now in
    let f = c.args.frame.now in
    let after = after_frame before f in
    let messages = c.settle.ensures.messages ∙ ap (λ (s : ChannelState). with_following c.arrive-arrival.result (following most_following s)) c.arrive-arrival.ensures.taken ∙ ap (λ (a : Arrival). with_following a (following most_following after)) c.arrive-arrival.ensures.arrival in
    let channel = c.settle.ensures.channel ∙ ap (settled c.arrive-arrival.result) c.arrive-arrival.ensures.taken ∙ ap (λ (a : Arrival). settled a after) c.arrive-arrival.ensures.arrival in
    ap (λ (s : ChannelState). holds s.places t) channel ∙ held_with_all before f (arrival_at before.link f) t c.requires refl ∙ sym (ap (λ ms. waits t ms || holds before.places t) messages)
