-- The kept messages that follow, one after the other, as a loop takes them.
use Rattle.std.proofs.Common.{◌≡◌, ℕ, suc, cond, [], ◌∷◌, Some, None, is_some, ap, ◌∙◌}
use Rattle.frame_codec.specs.declared.message.Msg.{Msg}
use Rattle.token_channel.specs.Channels.{ChannelState, follows, after_kept, followed, following, before}

pub message_follows : (c : ChannelState) (n k : ℕ) (m : Msg) → n ≡ suc k → follows c ≡ Some m → following n c ≡ m ∷ following k (after_kept c)
message_follows c n k m e is = ap (λ x. following x c) e ∙ ap (λ o. before o (following k (after_kept c))) is

pub none_follows : (c : ChannelState) (n k : ℕ) → n ≡ suc k → follows c ≡ None → following n c ≡ []
none_follows c n k e is = ap (λ x. following x c) e ∙ ap (λ o. before o (following k (after_kept c))) is

pub followed_more : (c : ChannelState) (n k : ℕ) (m : Msg) → n ≡ suc k → follows c ≡ Some m → followed n c ≡ followed k (after_kept c)
followed_more c n k m e is = ap (λ x. followed x c) e ∙ ap (λ o. cond (is_some o) (followed k (after_kept c)) (after_kept c)) is

pub followed_last : (c : ChannelState) (n k : ℕ) → n ≡ suc k → follows c ≡ None → followed n c ≡ after_kept c
followed_last c n k e is = ap (λ x. followed x c) e ∙ ap (λ o. cond (is_some o) (followed k (after_kept c)) (after_kept c)) is
