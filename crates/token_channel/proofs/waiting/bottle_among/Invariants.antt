use Rattle.std.proofs.Common.{◌≡◌, ℕ, ◌<◌, Some}
use Rattle.std.specs.List.{slice_get}
use Rattle.bottle_values.specs.declared.Value.{Value}
use Rattle.frame_codec.specs.declared.message.Msg.TheVariants.{Bottle}
use Rattle.token_channel.proofs.waiting.bottle_among.Given as goal

abbrev pub invariant-loop-i : goal.invariant-loop-i
invariant-loop-i l = (k : ℕ) → k < l.i → (x : Value) → slice_get l.messages k ≡ Some (Bottle l.r x) → ⊥
