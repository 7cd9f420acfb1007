use Rattle.std.proofs.Common.{◌≡◌, get_or, ap, ◌∙◌}
use Rattle.window_link.specs.Links.{arrival_at}
use Rattle.token_channel.specs.Channels.{ChannelState, taken_with}
use Rattle.site_core.specs.neighbours.refinement.Slots.{Slot}
use Rattle.site_core.proofs.neighbours_lemmas.SlotUpdates.{looked_at}
use Rattle.site_core.proofs.neighbours.channels.Channels.accept.Goals as goal

pub returns-clause-arrival : goal.returns-clause-arrival
returns-clause-arrival c = λ d is.
    let v = c.args.v in
    let slots = c.args.self.now in
    let looked : Slot = c.index_mut.result.now in
    let value : looked ≡ get_or slots v looked = c.index_mut.ensures.value ∙ ap (λ i. get_or c.self.inside.slots.items i looked) c.index.ensures ∙ ap (λ s. get_or s v looked) c.self.view_is in
    let same = looked_at slots v looked c.in-Some.channel d c.requires.there value c.in-Some.is is in
    c.accept.ensures.arrival ∙ ap (λ (x : ChannelState). arrival_at x.link c.args.frame.now) same

pub returns-clause-messages : goal.returns-clause-messages
returns-clause-messages c = λ d is.
    let v = c.args.v in
    let slots = c.args.self.now in
    let looked : Slot = c.index_mut.result.now in
    let value : looked ≡ get_or slots v looked = c.index_mut.ensures.value ∙ ap (λ i. get_or c.self.inside.slots.items i looked) c.index.ensures ∙ ap (λ s. get_or s v looked) c.self.view_is in
    let same = looked_at slots v looked c.in-Some.channel d c.requires.there value c.in-Some.is is in
    c.accept.ensures.messages ∙ ap (λ (x : ChannelState). taken_with x c.args.frame.now) same
