use Rattle.std.proofs.Common.{◌≡◌, ◌-◌, false, true, drop, sym, ap, ◌∙◌, rules}
use Rattle.window_link.specs.Links.{LinkState, fault_of}
use Rattle.token_channel.specs.declared.channel.Channel.TheInside.{Inside}
use Rattle.token_channel.specs.Things.{thing_of}
use Rattle.token_channel.specs.Places.{changed}
use Rattle.token_channel.specs.Channels.{ChannelState, is_breach, channel_fault, next_of}
use Rattle.token_channel.proofs.FrameArrival.{unbreached}
use Rattle.token_channel.proofs.ThingsApart.{kept_taken, kept_dropped}
use Rattle.token_channel.proofs.channel.Channel.arrive.Goals.{in-Some, in_default}
use Rattle.token_channel.proofs.channel.Channel.arrive.Goals as goal

pub invariant_of-self : goal.invariant_of-self
invariant_of-self c =
    let f = c.args.frame.now in
    let count = c.args.frame.now.count in
    let link = c.self.inside.link in
    let places = c.self.inside.places.items in
    elim c.match-next.branch [
      | in-Some w ↦
          let honest : is_breach (record { link = link; places = places }) count w.in-Some.msg ≡ false =
          unbreached (record { link = link; places = places }) count (fault_of link f) (next_of link f)
          (ap (λ (v : ChannelState). channel_fault v f) c.self.view_is ∙ c.requires) w.in-Some.msg
          (ap (λ (v : ChannelState). next_of v.link f) c.self.view_is ∙ sym c.next.ensures ∙ w.in-Some.is) in
          kept_taken places _ link.sending.waiting _ (count - link.sending.acked) (thing_of w.in-Some.msg) c.self.invariant
          (ap (λ (l : LinkState). l.sending.waiting) c.accept.ensures.link ∙ ap (λ (s : Inside). drop (count - s.link.sending.acked) s.link.sending.waiting) w.self-inside-is)
          (ap (λ (s : Inside). s.places.items) w.self-inside-is ∙ w.change.ensures ∙ ap (λ t. changed places t true) w.of.ensures)
          honest
      | in_default w ↦ kept_dropped places _ link.sending.waiting _ (count - link.sending.acked) c.self.invariant
          (ap (λ (l : LinkState). l.sending.waiting) c.accept.ensures.link ∙ ap (λ (s : Inside). drop (count - s.link.sending.acked) s.link.sending.waiting) w.self-inside-is)
          (ap (λ (s : Inside). s.places.items) w.self-inside-is)
    ]

pub returns-clause-taken : goal.returns-clause-taken
returns-clause-taken c = search rules
