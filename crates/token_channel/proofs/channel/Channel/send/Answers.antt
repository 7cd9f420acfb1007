use Rattle.std.proofs.Common.{◌∙◌, false, ap, rules}
use Rattle.frame_codec.specs.Frame.{carries}
use Rattle.window_link.specs.Links.{LinkState}
use Rattle.token_channel.specs.Things.{thing_of, hold}
use Rattle.token_channel.specs.Places.{holds, changed}
use Rattle.token_channel.specs.Channels.{ChannelState}
use Rattle.token_channel.proofs.ThingsApart.{room_left, kept_sent, held-changed, shared_held}
use Rattle.token_channel.proofs.channel.Channel.send.Goals as goal

pub queue-requires-clause-room : goal.queue-requires-clause-room
queue-requires-clause-room c = room_left c.self.inside.places.items c.self.inside.link.sending.waiting (thing_of c.args.msg) c.self.invariant (ap (λ (v : ChannelState). holds v.places (thing_of c.args.msg)) c.self.view_is ∙ c.requires.held)

pub queue-requires-clause-carried : goal.queue-requires-clause-carried
queue-requires-clause-carried c = ap (λ (v : ChannelState). carries v.link.version c.args.msg) c.self.view_is ∙ c.requires.carried

pub invariant_of-self-2 : goal.invariant_of-self-2
invariant_of-self-2 c =
    kept_sent c.self.inside.places.items _ c.self.inside.link.sending.waiting _ c.args.msg c.self.invariant
    (ap (λ (l : LinkState). l.sending.waiting) c.in_ok-queue.ensures.ok)
    (c.change.ensures ∙ ap (λ t. changed c.self.inside.places.items t false) c.of.ensures)
    (ap (λ (v : ChannelState). holds v.places (thing_of c.args.msg)) c.self.view_is ∙ c.requires.held)

pub returns-clause-held : goal.returns-clause-held
returns-clause-held c t =
    ap (λ places. holds places t) (c.change.ensures ∙ ap (λ t. changed c.self.inside.places.items t false) c.of.ensures)
    ∙ held-changed c.self.inside.places.items (thing_of c.args.msg) t false (shared_held c.self.inside.places.items (thing_of c.args.msg) (ap (λ (v : ChannelState). holds v.places (thing_of c.args.msg)) c.self.view_is ∙ c.requires.held))
    ∙ ap (λ (v : ChannelState). hold (holds v.places) (thing_of c.args.msg) false t) c.self.view_is

pub returns-clause-sent : goal.returns-clause-sent
returns-clause-sent c = search rules
