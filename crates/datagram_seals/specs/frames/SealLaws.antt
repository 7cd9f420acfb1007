-- What holds of seals.
use Rattle.std.specs.Prelude.{◌≡◌, ℕ, ◌⊎◌, List, Contains}
use Rattle.datagram_seals.specs.frames.Seals.{sealed}

-- a datagram is the sealed form of one frame at most
abbrev pub OneFrameIsSealedSo : Type 0
OneFrameIsSealedSo = (secret frame other : List ℕ) → sealed secret frame ≡ sealed secret other → frame ≡ other

-- a datagram that carries the seal of a frame which those who have the secret never sealed
pub record IsForgery (secret : List ℕ) (were_sealed : List (List ℕ)) (datagram : List ℕ) : Type 0 where
  pub frame : List ℕ
  pub is_sealed : datagram ≡ sealed secret frame
  pub never : ¬ Contains were_sealed frame

-- a frame that a datagram is sealed of is one of those that were sealed, or the datagram is a forgery
abbrev pub SealedOrForged : Type 0
SealedOrForged = (secret : List ℕ) (were_sealed : List (List ℕ)) (datagram frame : List ℕ) → datagram ≡ sealed secret frame → Contains were_sealed frame ⊎ IsForgery secret were_sealed datagram
