use Rattle.std.proofs.Common.{◌||◌, sym, ap, ◌∙◌, subst}
use Rattle.window_link.specs.declared.arrival.Arrival.{Arrival}
use Rattle.token_channel.specs.declared.taken.Taken.TheVariants.{Fresh}
use Rattle.token_channel.specs.Places.{holds, waits}
use Rattle.token_channel.specs.Channels.{after_frame, following, with_following, most_following}
use Rattle.token_channel.specs.Answers.{Tells}
use Rattle.token_channel.proofs.channel.Channel.take.Goals as goal

pub returns-in-Fresh-clause-taken : goal.returns-in-Fresh-clause-taken
returns-in-Fresh-clause-taken c =
    let fresh = sym c.in-Fresh.is ∙ c.accept-arrival.ensures.arrival in
    let ms = following most_following (after_frame c.args.self.now c.args.frame.now) in
    subst (λ (a : Arrival). Tells (Fresh c.accept-arrival.new.taken) a ms) fresh (c.accept-arrival.ensures.messages ∙ ap (λ (a : Arrival). with_following a ms) (sym fresh))

pub returns-in-Fresh-clause-held : goal.returns-in-Fresh-clause-held
returns-in-Fresh-clause-held c t = c.accept-arrival.ensures.held t

pub returns-in-Acked-clause-held : goal.returns-in-Acked-clause-held
returns-in-Acked-clause-held c t =
    let ms = following most_following (after_frame c.args.self.now c.args.frame.now) in
    let none = c.accept-arrival.ensures.messages ∙ ap (λ (a : Arrival). with_following a ms) (sym (sym c.in-Acked.is ∙ c.accept-arrival.ensures.arrival)) in
    c.accept-arrival.ensures.held t ∙ ap (λ ms. waits t ms || holds c.args.self.now.places t) none

pub returns-in-Repeat-clause-held : goal.returns-in-Repeat-clause-held
returns-in-Repeat-clause-held c t =
    let ms = following most_following (after_frame c.args.self.now c.args.frame.now) in
    let none = c.accept-arrival.ensures.messages ∙ ap (λ (a : Arrival). with_following a ms) (sym (sym c.in-Repeat.is ∙ c.accept-arrival.ensures.arrival)) in
    c.accept-arrival.ensures.held t ∙ ap (λ ms. waits t ms || holds c.args.self.now.places t) none

pub returns-in-Kept-clause-held : goal.returns-in-Kept-clause-held
returns-in-Kept-clause-held c t =
    let ms = following most_following (after_frame c.args.self.now c.args.frame.now) in
    let none = c.accept-arrival.ensures.messages ∙ ap (λ (a : Arrival). with_following a ms) (sym (sym c.in-Kept.is ∙ c.accept-arrival.ensures.arrival)) in
    c.accept-arrival.ensures.held t ∙ ap (λ ms. waits t ms || holds c.args.self.now.places t) none

pub returns-in-Early-clause-held : goal.returns-in-Early-clause-held
returns-in-Early-clause-held c t =
    let ms = following most_following (after_frame c.args.self.now c.args.frame.now) in
    let none = c.accept-arrival.ensures.messages ∙ ap (λ (a : Arrival). with_following a ms) (sym (sym c.in-Early.is ∙ c.accept-arrival.ensures.arrival)) in
    c.accept-arrival.ensures.held t ∙ ap (λ ms. waits t ms || holds c.args.self.now.places t) none
