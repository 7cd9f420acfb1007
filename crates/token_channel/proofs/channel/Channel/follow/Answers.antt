use Rattle.std.proofs.Common.{◌≡◌, ℕ, ◌-◌, true, false, not, ◌||◌, drop, sym, ap, ◌∙◌, arith}
use Rattle.window_link.specs.Links.{LinkState}
use Rattle.token_channel.specs.Things.{thing_of}
use Rattle.token_channel.specs.Places.{holds, shares, waits, changed}
use Rattle.token_channel.specs.Channels.{ChannelState, is_breach}
use Rattle.token_channel.proofs.ThingsApart.{kept_taken}
use Rattle.token_channel.proofs.channel.Channel.follow.Goals as goal

pub invariant_of-self-2 : goal.invariant_of-self-2
invariant_of-self-2 c =
    let link = c.self.inside.link in
    let places = c.self.inside.places.items in
    let t = thing_of c.in_ok-msg.msg in
    let none : 0 ≡ c.acked.result - link.sending.acked = omega (arith, c.acked.ensures.value, ap (λ (v : ChannelState). v.link.sending.acked) c.self.view_is) in
    let honest : (not (shares places t) || holds places t || waits t (drop 0 link.sending.waiting)) ≡ false =
    ap (λ (k : ℕ). not (shares places t) || holds places t || waits t (drop k link.sending.waiting)) none
    ∙ ap (λ (v : ChannelState). is_breach v c.acked.result c.in_ok-msg.msg) c.self.view_is ∙ sym c.is_breach.ensures ∙ c.if-is_breach.false in
    kept_taken places _ link.sending.waiting _ 0 t c.self.invariant
    (ap (λ (l : LinkState). l.sending.waiting) c.accept_kept.ensures)
    (c.change.ensures ∙ ap (λ x. changed places x true) c.of-thing.ensures)
    honest
