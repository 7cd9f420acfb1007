-- Frames under a seal: a frame's bytes, and behind them the first bytes of its keyed digest.
use Rattle.std.specs.Prelude.{ℕ, ◌++◌, List, [], ◌∷◌, take, bit_or, bit_xor}
use Rattle.datagram_seals.specs.frames.Hmac.{keyed_digest}

-- the seal of a frame under a secret's block: the first 16 bytes of its keyed digest
abbrev pub seal_of : List ℕ → List ℕ → List ℕ
seal_of secret frame = take 16 (keyed_digest secret frame)

-- the frame with its seal behind it
abbrev pub sealed : List ℕ → List ℕ → List ℕ
sealed secret frame = frame ++ seal_of secret frame

-- the bits that differ between two lists at any of their places: none are set where the lists are the same, and each place counts, also behind one that differs
abbrev pub differing_bits : List ℕ → List ℕ → ℕ
differing_bits [] ys = 0
differing_bits (x ∷ xs) [] = 0
differing_bits (x ∷ xs) (y ∷ ys) = bit_or (bit_xor x y) (differing_bits xs ys)
