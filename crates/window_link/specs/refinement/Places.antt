-- The places in which the code keeps messages.
use Rattle.std.specs.Prelude.{ℕ, zero, suc, List, [], ◌∷◌, replicate, Option, None}
use Rattle.frame_codec.specs.declared.message.Msg.{Msg}

-- what is kept, with nothing behind it up to so many
abbrev pub filled : ℕ → List (Option Msg) → List (Option Msg)
filled n [] = replicate n None
filled zero (k ∷ ks) = k ∷ ks
filled (suc n) (k ∷ ks) = k ∷ filled n ks
