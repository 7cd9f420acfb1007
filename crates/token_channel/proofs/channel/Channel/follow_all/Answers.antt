use Rattle.std.proofs.Common.{◌≡◌, suc, ◌+◌, ◌-◌, List, [], ◌∷◌, ◌++◌, length, Some, None, sym, ap, ◌∙◌, arith, append_assoc, append-nil, length-append}
use Rattle.frame_codec.specs.declared.message.Msg.{Msg}
use Rattle.token_channel.specs.Channels.{ChannelState, follows, after_kept, following, followed, most_following}
use Rattle.token_channel.proofs.KeptMessages.{message_follows, none_follows, followed_more, followed_last}
use Rattle.token_channel.proofs.channel.Channel.follow_all.Goals as goal

pub loop-preserved : goal.loop-preserved
loop-preserved c =
    let s : ChannelState = c.loop.self in
    let m : Msg = c.in-Some.msg in
    let left = most_following + 1 - (c.loop.counter + 1) in
    let more : most_following + 1 - c.loop.counter ≡ suc left = omega (arith, c.loop-test.true) in
    let some : follows s ≡ Some m = sym c.follow.ensures.follows ∙ c.in-Some.is in (
      c.loop.invariant.0 ∙ ap (λ (l : List Msg). c.loop.taken ++ l) (message_follows s (most_following + 1 - c.loop.counter) left m more some)
          ∙ sym (append_assoc c.loop.taken (m ∷ []) (following left (after_kept s)))
          ∙ ap (λ (l : List Msg). l ++ following left (after_kept s)) (sym c.push.ensures)
          ∙ ap (λ (x : ChannelState). c.push.new.self ++ following left x) (sym c.follow.ensures.channel),
      c.loop.invariant.1 ∙ followed_more s (most_following + 1 - c.loop.counter) left m more some ∙ ap (λ (x : ChannelState). followed left x) (sym c.follow.ensures.channel),
      omega (arith, c.loop.invariant.2, ap length c.push.ensures, length-append c.loop.taken (m ∷ [])),
    )

pub returns-in-None-clause-messages : goal.returns-in-None-clause-messages
returns-in-None-clause-messages c =
    let s : ChannelState = c.loop.self in
    let left = most_following + 1 - (c.loop.counter + 1) in
    let more : most_following + 1 - c.loop.counter ≡ suc left = omega (arith, c.loop-test.true) in
    let none : follows s ≡ None = sym c.follow.ensures.follows ∙ c.in-None.is in
    sym (c.loop.invariant.0 ∙ ap (λ (l : List Msg). c.loop.taken ++ l) (none_follows s (most_following + 1 - c.loop.counter) left more none) ∙ append-nil c.loop.taken)

pub returns-in-None-clause-channel : goal.returns-in-None-clause-channel
returns-in-None-clause-channel c =
    let s : ChannelState = c.loop.self in
    let left = most_following + 1 - (c.loop.counter + 1) in
    let more : most_following + 1 - c.loop.counter ≡ suc left = omega (arith, c.loop-test.true) in
    let none : follows s ≡ None = sym c.follow.ensures.follows ∙ c.in-None.is in
    c.follow.ensures.channel ∙ sym (c.loop.invariant.1 ∙ followed_last s (most_following + 1 - c.loop.counter) left more none)
