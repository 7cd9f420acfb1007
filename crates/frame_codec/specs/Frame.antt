-- What a frame says, and the range of each of its fields.
use Rattle.std.specs.Prelude.{◌≡◌, ℕ, ◌<◌, ◌^◌, Bool, true, Option, Some, None, IsTrue, IfSome}
use Rattle.bottle_values.specs.Operations.{is_value}
use Rattle.bottle_values.specs.Versions.{admits}
use Rattle.bottle_values.specs.declared.version.Version.{Version}
use Rattle.frame_codec.specs.declared.message.Msg.{Msg}
use Rattle.frame_codec.specs.declared.message.Msg.TheVariants.{AskFork, Fork, AskBottle, Bottle}
use Rattle.frame_codec.specs.Limits.{sequence_space}

-- a frame, field by field; one without a message is an acknowledgement
pub record Fields : Type 0 where
  pub version : Version
  pub run : ℕ
  pub from : ℕ
  pub to : ℕ
  pub number : ℕ
  pub count : ℕ
  pub msg : Option Msg

-- a message has a number from 1 to 2 ^ 48 - 1, an acknowledgement has 0
abbrev pub IsNumbered : Option Msg → ℕ → Type 0
IsNumbered None number = number ≡ 0
IsNumbered (Some msg) number = (0 < number) × (number < sequence_space)

-- a record's number has 16 bits, its value is one
abbrev pub IsMsg : Msg → Type 0
IsMsg AskFork = Unit {0}
IsMsg Fork = Unit {0}
IsMsg (AskBottle bottle) = bottle < 2 ^ 16
IsMsg (Bottle bottle value) = (bottle < 2 ^ 16) × IsTrue (is_value value)

-- whether a message can go in a frame of this version
abbrev pub carries : Version → Msg → Bool
carries version AskFork = true
carries version Fork = true
carries version (AskBottle bottle) = true
carries version (Bottle bottle value) = admits version value

-- each field is in the format's range, and version 01 carries no text
pub record IsFrame (f : Fields) : Type 0 where
  pub run : f.run < 2 ^ 32
  pub from : f.from < 2 ^ 8
  pub to : f.to < 2 ^ 8
  pub number : IsNumbered f.msg f.number
  pub count : f.count < sequence_space
  pub msg : IfSome f.msg IsMsg
  pub carried : IfSome f.msg (λ m. IsTrue (carries f.version m))
