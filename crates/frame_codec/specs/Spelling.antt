-- Frames of both versions: which bytes spell which frame, and what is wrong with bytes that spell none.
use Rattle.std.specs.Prelude.{◌≡◌, ℕ, ◌+◌, Bool, false, not, ◌&&◌, ◌||◌, ◌==◌, nat_lt, nat_le, if◌then◌else◌, List, [], ◌∷◌, ◌++◌, length, drop, slice_index, Option, Some, None}
use Rattle.std.specs.List.{find, list_all}
use Rattle.byteorder.specs.Endian.{big_bytes}
use Rattle.bottle_values.specs.Bytes.{bytes_of}
use Rattle.bottle_values.specs.Texts.{is_text_byte, longest_text}
use Rattle.bottle_values.specs.declared.Value.{Value}
use Rattle.bottle_values.specs.declared.Value.TheVariants as kind
use Rattle.bottle_values.specs.declared.version.Version as versions
use Rattle.bottle_values.specs.declared.version.Version.TheVariants.{One, Two}
use Rattle.frame_codec.specs.declared.message.Msg.{Msg}
use Rattle.frame_codec.specs.declared.message.Msg.TheVariants.{AskFork, Fork, AskBottle, Bottle}
use Rattle.frame_codec.specs.declared.fault.FrameFault.{FrameFault}
use Rattle.frame_codec.specs.declared.fault.FrameFault.TheVariants.{Short, Magic, Version, Kind, Number, Count, Tag, ValueForm, Length, TextByte}
use Rattle.frame_codec.specs.Frame.{Fields, IsFrame}
use Rattle.frame_codec.specs.Header.{kind_of, header, is_data, is_second, header_has}

-- a value: a number's eight bytes, which in version 02 stand behind the form 01; there a text is the form 02, its length and
-- its bytes, and version 01 has none
abbrev pub value_bytes : versions.Version → Value → List ℕ
value_bytes One (kind.Number z) = bytes_of z
value_bytes One (kind.Text t) = []
value_bytes Two (kind.Number z) = 1 ∷ bytes_of z
value_bytes Two (kind.Text t) = 2 ∷ length t ∷ t

-- a message: its tag, then the record's number, then the value
abbrev pub message : versions.Version → Msg → List ℕ
message version AskFork = 1 ∷ []
message version Fork = 2 ∷ []
message version (AskBottle bottle) = 3 ∷ [] ++ big_bytes 2 bottle
message version (Bottle bottle value) = 4 ∷ [] ++ big_bytes 2 bottle ++ value_bytes version value

abbrev pub body : versions.Version → Option Msg → List ℕ
body version None = []
body version (Some msg) = message version msg

-- the bytes of a frame
unfoldable pub spelling : Fields → List ℕ
spelling f = header (kind_of f.msg) f ++ body f.version f.msg

-- The grammar: these bytes, all of them, spell this frame.
pub record Spells (bytes : List ℕ) (f : Fields) : Type 0 where
  pub in_range : IsFrame f
  pub is : bytes ≡ spelling f

-- ---- faults

-- a data frame's tag is its 27th byte
abbrev pub has_tag : List ℕ → Bool
has_tag bytes = is_data bytes && nat_lt 26 (length bytes)

-- the form of a bottle's value is the 30th byte, in version 02
abbrev pub has_form : List ℕ → Bool
has_form bytes = is_second bytes && has_tag bytes && slice_index bytes 26 == 4 && nat_lt 29 (length bytes)

-- a form that a value has: a number, or a text with this length; a place past the end of the bytes reads as 0
abbrev pub is_form : ℕ → ℕ → Bool
is_form form size = form == 1 || (form == 2 && nat_le size longest_text)

-- how long the whole frame is by the form of its value and by the length behind that
abbrev pub length_by_form : ℕ → ℕ → ℕ
length_by_form form size = if form == 2 then 31 + size else 38

-- how long the whole frame is by its tag: in which version, and with which form and length
abbrev pub length_by_tag : Bool → ℕ → ℕ → ℕ → ℕ
length_by_tag second tag form size =
    if tag == 3 then 29 else if tag == 4 then if second then length_by_form form size else 37 else 27

-- how long the whole frame is, by its own bytes
abbrev pub whole_length : List ℕ → ℕ
whole_length bytes =
    if is_data bytes then length_by_tag (is_second bytes) (slice_index bytes 26) (slice_index bytes 29) (slice_index bytes 30) else 26

-- whether a fault applies to the bytes, each looked at by itself
abbrev pub has : List ℕ → FrameFault → Bool
has bytes Tag = has_tag bytes && not (nat_le 1 (slice_index bytes 26) && nat_le (slice_index bytes 26) 4)
has bytes ValueForm = has_form bytes && not (is_form (slice_index bytes 29) (slice_index bytes 30))
has bytes Length = not (length bytes == whole_length bytes)
has bytes TextByte = has_form bytes && slice_index bytes 29 == 2 && not (list_all is_text_byte (drop 31 bytes))
has bytes fault = header_has bytes fault

-- the first fault of bytes that are no frame
unfoldable pub first_fault : List ℕ → Option FrameFault
first_fault bytes =
    find (has bytes) (Short ∷ Magic ∷ Version ∷ Kind ∷ Number ∷ Count ∷ Tag ∷ ValueForm ∷ Length ∷ TextByte ∷ [])
