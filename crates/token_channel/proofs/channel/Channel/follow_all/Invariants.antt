use Rattle.std.proofs.Common.{◌≡◌, ◌++◌, ◌+◌, ◌-◌, length}
use Rattle.token_channel.specs.Channels.{following, followed, most_following}
use Rattle.token_channel.proofs.channel.Channel.follow_all.Given as goal

-- so many places are left to look at
abbrev pub invariant-loop : goal.invariant-loop
invariant-loop l =
    (l.initial.taken ++ following most_following l.initial.self ≡ l.taken ++ following (most_following + 1 - l.counter) l.self)
    × (followed most_following l.initial.self ≡ followed (most_following + 1 - l.counter) l.self)
    × (length l.taken ≡ l.counter)
