-- The 26 bytes that each frame begins with, in either version of the format. Numbers are big-endian.
use Rattle.std.specs.Prelude.{ℕ, Bool, false, not, ◌&&◌, ◌||◌, ◌==◌, nat_lt, nat_le, if◌then◌else◌, List, [], ◌∷◌, ◌++◌, length, drop, slice_index, Option, Some, None}
use Rattle.std.specs.List.{find}
use Rattle.byteorder.specs.Endian.{big_bytes, big_number}
use Rattle.bottle_values.specs.Versions.{number_of}
use Rattle.frame_codec.specs.declared.fault.FrameFault.{FrameFault}
use Rattle.frame_codec.specs.declared.fault.FrameFault.TheVariants.{Short, Magic, Version, Kind, Number, Count, Tag, ValueForm, Length, TextByte}
use Rattle.frame_codec.specs.declared.message.Msg.{Msg}
use Rattle.frame_codec.specs.Frame.{Fields}
use Rattle.frame_codec.specs.Limits.{sequence_space}

-- the kind of a frame with a message
abbrev pub data_kind : ℕ
data_kind = 1

-- the kind of one without
abbrev pub ack_kind : ℕ
ack_kind = 2

abbrev pub kind_of : Option Msg → ℕ
kind_of None = ack_kind
kind_of (Some msg) = data_kind

-- the header of a frame of that kind, in the frame's own version
abbrev pub header : ℕ → Fields → List ℕ
header kind f =
    0x44 ∷ 0x50 ∷ number_of f.version ∷ kind ∷ [] ++ big_bytes 4 f.run ++ f.from ∷ f.to ∷ [] ++ big_bytes 8 f.number
    ++ big_bytes 8 f.count

-- ---- the fields of any bytes, at their places

abbrev pub is_second : List ℕ → Bool
is_second bytes = slice_index bytes 2 == 2

abbrev pub is_data : List ℕ → Bool
is_data bytes = slice_index bytes 3 == data_kind

abbrev pub is_ack : List ℕ → Bool
is_ack bytes = slice_index bytes 3 == ack_kind

abbrev pub number_in : List ℕ → ℕ
number_in bytes = big_number 8 (drop 10 bytes)

abbrev pub count_in : List ℕ → ℕ
count_in bytes = big_number 8 (drop 18 bytes)

-- ---- faults

-- whether a fault of the header applies to the bytes, each looked at by itself
abbrev pub header_has : List ℕ → FrameFault → Bool
header_has bytes Short = nat_lt (length bytes) 26
header_has bytes Magic = not (slice_index bytes 0 == 0x44 && slice_index bytes 1 == 0x50)
header_has bytes Version = not (slice_index bytes 2 == 1 || is_second bytes)
header_has bytes Kind = not (is_data bytes || is_ack bytes)
header_has bytes Number =
    not (if is_data bytes then nat_lt 0 (number_in bytes) && nat_lt (number_in bytes) sequence_space else number_in bytes == 0)
header_has bytes Count = nat_le sequence_space (count_in bytes)
header_has bytes Tag = false
header_has bytes ValueForm = false
header_has bytes Length = false
header_has bytes TextByte = false

-- the first of them that applies
unfoldable pub header_fault : List ℕ → Option FrameFault
header_fault bytes = find (header_has bytes) (Short ∷ Magic ∷ Version ∷ Kind ∷ Number ∷ Count ∷ [])
