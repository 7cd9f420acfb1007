-- A wire whose datagrams are frames under seals, as an office sees it.
use Rattle.std.specs.Prelude.{◌≡◌, ◌≢◌, ℕ, ◌-◌, ◌<◌, Bool, true, List, [], ◌∷◌, ◌++◌, length, take, map, get_or, Option, None, Some, option_map, if◌then◌else◌, slice_get}
use Rattle.std.specs.List.{slice_index_or}
use Rattle.std.specs.Str.{bytes_eq}
use Rattle.socket_pump.specs.Wires.{Account}
use Rattle.datagram_seals.specs.frames.Seals.{sealed}

-- the office that a datagram names as its sender
abbrev pub sender_of : List ℕ → ℕ
sender_of d = slice_index_or d 8 0

-- the datagram without its seal
abbrev pub frame_in : List ℕ → List ℕ
frame_in d = take (length d - 16) d

-- the secret with that office, if there is one
abbrev pub secret_with : List (Option (List ℕ)) → ℕ → Option (List ℕ)
secret_with secrets office = get_or secrets office None

-- what a secret opens of a datagram: its frame; or nothing, where it isn't the sealed form of that
abbrev pub opened_by : Option (List ℕ) → List ℕ → List ℕ
opened_by None d = []
opened_by (Some secret) d = if bytes_eq d (sealed secret (frame_in d)) then frame_in d else []

-- what is handed on of a datagram: what the secret with the office opens that it names as its sender
abbrev pub handed_on : List (Option (List ℕ)) → List ℕ → List ℕ
handed_on secrets d = opened_by (secret_with secrets (sender_of d)) d

-- the account of a wire, with what is handed on for what came, and frames for what went out
abbrev pub told_of : List (Option (List ℕ)) → ℕ → Account → Account
told_of secrets failures a = record {
  failures = failures;
  received = map (option_map (handed_on secrets)) a.received;
  accepted = map (λ (d : ℕ × List ℕ). (d.0, frame_in d.1)) a.accepted;
}

-- the datagram is the frame's sealed form under the secret with that office
abbrev pub IsSealedWith : List (Option (List ℕ)) → ℕ → List ℕ → List ℕ → Type 0
IsSealedWith secrets office frame datagram = (secret : List ℕ) × (secret_with secrets office ≡ Some secret) × (datagram ≡ sealed secret frame)

-- an account has one datagram more that went out, which is the frame's sealed form under the secret with the office to which it went
abbrev pub IsPosted : Bool → List (Option (List ℕ)) → Account → ℕ → List ℕ → Account → Type 0
IsPosted tells secrets a to frame b = (datagram : List ℕ) × IsSealedWith secrets to frame datagram × (tells ≡ true → b ≡ record a { accepted = a.accepted ++ (to, datagram) ∷ [] })

-- a datagram is a frame's sealed form, under the secret with the office that it names as its sender; and the frame, if it is long enough, names the same
pub record IsOpened (secrets : List (Option (List ℕ))) (datagram frame : List ℕ) : Type 0 where
  pub secret : List ℕ
  pub shared : secret_with secrets (sender_of datagram) ≡ Some secret
  pub is_sealed : datagram ≡ sealed secret frame
  pub names : 8 < length frame → sender_of datagram ≡ sender_of frame

-- each frame that is handed on was opened: whatever the wire below gave
abbrev pub EachIsOpened : Type 0
EachIsOpened = (secrets : List (Option (List ℕ))) (failures : ℕ) (a : Account) (i : ℕ) (frame : List ℕ) → slice_get (told_of secrets failures a).received i ≡ Some (Some frame) → frame ≢ []
    → (datagram : List ℕ) × (slice_get a.received i ≡ Some (Some datagram)) × IsOpened secrets datagram frame
