-- What the parts of a packed frame mean.
use Rattle.std.specs.Prelude.{ℕ, ◌+◌, ◌*◌, ◌%◌, ◌^◌, ◌==◌, nat_lt, ℤ, pos, negsuc, if◌then◌else◌, Option, None, Some, unwrap_or}
use Rattle.bottle_values.specs.declared.Value.{Value}
use Rattle.bottle_values.specs.declared.Value.TheVariants.{Number, Text}
use Rattle.bottle_values.specs.declared.version.Version.{Version}
use Rattle.bottle_values.specs.declared.version.Version.TheVariants.{One, Two}
use Rattle.frame_codec.specs.declared.message.Msg.{Msg}
use Rattle.frame_codec.specs.declared.message.Msg.TheVariants as msg

-- a number of 48 bits by its lower 32 and its upper 16
abbrev pub joined : ℕ → ℕ → ℕ
joined low high = high * 2 ^ 32 + low

-- which message it is, from 0; a bottle with a text is 8 more
abbrev pub code_of_value : Value → ℕ
code_of_value (Number z) = 3
code_of_value (Text text) = 11

abbrev pub code_of : Msg → ℕ
code_of msg.AskFork = 0
code_of msg.Fork = 1
code_of (msg.AskBottle r) = 2
code_of (msg.Bottle r x) = code_of_value x

-- the version, beside which a message's code stands
abbrev pub code_of_version : Version → ℕ
code_of_version One = 0
code_of_version Two = 4

abbrev pub version_in : ℕ → Version
version_in code = if nat_lt (code % 8) 4 then One else Two

-- the record that it names, or 0
abbrev pub which_of : Msg → ℕ
which_of msg.AskFork = 0
which_of msg.Fork = 0
which_of (msg.AskBottle r) = r
which_of (msg.Bottle r x) = r

-- the number that it carries, or the place of the text; of no bottle 0
abbrev pub number_as : ℕ → Value → ℤ
number_as place (Number z) = z
number_as place (Text text) = pos place

abbrev pub number_of : ℕ → Msg → ℤ
number_of place msg.AskFork = pos 0
number_of place msg.Fork = pos 0
number_of place (msg.AskBottle r) = pos 0
number_of place (msg.Bottle r x) = number_as place x

-- a text's place again
abbrev pub place_in : ℤ → ℕ
place_in (pos n) = n
place_in (negsuc n) = 0

-- the message again, with a number
abbrev pub message_in : ℕ → ℕ → ℤ → Msg
message_in code r z = if code == 0 then msg.AskFork else if code == 1 then msg.Fork else if code == 2 then msg.AskBottle r else msg.Bottle r (Number z)

-- what a frame's message is packed as: that of an acknowledgement says nothing, since its number is 0
abbrev pub packed_message : Option Msg → Msg
packed_message m = unwrap_or m msg.AskFork
