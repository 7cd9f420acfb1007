-- Bytes as digits, two for each byte.
use Rattle.std.specs.Prelude.{◌≡◌, ℕ, List, Option, Some, None}
use Rattle.std.specs.Result.{result_ok}
use Rattle.hex.specs.Hex.{encode_lower, decode_of}
use Rattle.frame_codec.specs.Frame.{Fields}
use Rattle.frame_codec.specs.Spelling.{Spells, spelling}
use Rattle.journal_texts.specs.declared.wording.digits.FrameWord.{FrameWord}
use Rattle.journal_texts.specs.declared.wording.digits.FrameWord.TheVariants.{Spelled, NoFrame, NoDigits}

-- the digits of bytes, two for each, with lower-case letters
abbrev pub digits_of : List ℕ → List ℕ
digits_of = encode_lower

-- the bytes of a word of digits, in either case
abbrev pub bytes_in : List ℕ → Option (List ℕ)
bytes_in word = result_ok (decode_of word)

-- the digits of a frame's one spelling
abbrev pub frame_digits : Fields → List ℕ
frame_digits f = digits_of (spelling f)

-- a word has the digits of bytes that spell the frame; or of bytes that spell none; or it is no digits of bytes
abbrev pub IsFrameWord : List ℕ → FrameWord → Type 0
IsFrameWord word (Spelled f) = (bytes : List ℕ) × (bytes_in word ≡ Some bytes) × Spells bytes f
IsFrameWord word NoFrame = (bytes : List ℕ) × (bytes_in word ≡ Some bytes) × ((f : Fields) → Spells bytes f → ⊥)
IsFrameWord word NoDigits = bytes_in word ≡ None
