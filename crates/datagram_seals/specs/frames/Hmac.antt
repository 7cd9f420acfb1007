-- The keyed digest HMAC over SHA-256 (RFC 2104), as a function on lists of bytes.
use Rattle.std.specs.Prelude.{ℕ, ◌-◌, ◌++◌, if◌then◌else◌, List, nat_le, length, map, replicate, bit_xor}
use Rattle.sha2.specs.Sha256.{sha256}

-- the first bytes of a block of 64, with zeros behind them
abbrev pub filled_up : List ℕ → List ℕ
filled_up bytes = bytes ++ replicate (64 - length bytes) 0

-- a key as a block: a key that is longer than a block goes by its digest
abbrev pub key_block : List ℕ → List ℕ
key_block key = if nat_le (length key) 64 then filled_up key else filled_up (sha256 key)

-- each byte with the bits of the mask turned over
abbrev pub masked : ℕ → List ℕ → List ℕ
masked mask bytes = map (λ byte. bit_xor byte mask) bytes

-- the digest of a message under a key's block: of the block under one mask with the digest behind it of the block under another mask with the message behind it
unfoldable pub keyed_digest : List ℕ → List ℕ → List ℕ
keyed_digest block message = sha256 (masked 0x5c block ++ sha256 (masked 0x36 block ++ message))

-- HMAC-SHA-256 of a message under a key
abbrev pub hmac : List ℕ → List ℕ → List ℕ
hmac key message = keyed_digest (key_block key) message
