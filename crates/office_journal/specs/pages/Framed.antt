-- The frame of an entry, whose text stands beside.
use Rattle.std.specs.Prelude.{◌≡◌, ℕ, ◌==◌, Bool, true, false, if◌then◌else◌, List, slice_get, Option, None, Some, IfSome}
use Rattle.bottle_values.specs.declared.Value.{Value}
use Rattle.bottle_values.specs.declared.Value.TheVariants.{Number, Text}
use Rattle.bottle_values.specs.declared.version.Version.{Version}
use Rattle.bottle_values.specs.declared.version.Version.TheVariants.{Two}
use Rattle.frame_codec.specs.Frame.{Fields}
use Rattle.frame_codec.specs.declared.message.Msg.{Msg}
use Rattle.frame_codec.specs.declared.message.Msg.TheVariants as msg
use Rattle.office_journal.specs.pages.Told.{Told}

-- a frame with the number 0 is one of the count alone
abbrev pub frame_with : Version → ℕ → ℕ → ℕ → ℕ → ℕ → Msg → Fields
frame_with version run from to number count m =
    record { version = version; run = run; from = from; to = to; number = number; count = count; msg = (if number == 0 then None else Some m) }

-- the frame that was packed as this one, with that text of that record's bottle, if one stands beside
abbrev pub framed : Bool → Option (List ℕ) → ℕ → Fields → Fields
framed false text r f = f
framed true None r f = f
framed true (Some text) r f = frame_with Two f.run f.from f.to f.number f.count (msg.Bottle r (Text text))

-- the frame of an entry, where these texts stand beside
abbrev pub frame_in : List (List ℕ) → Told → Fields
frame_in texts t = framed t.has_text (slice_get texts t.text) t.which t.frame

-- ---- the text that a frame carries, if it carries one

abbrev pub text_as : Value → Option (List ℕ)
text_as (Number z) = None
text_as (Text text) = Some text

abbrev pub text_of : Msg → Option (List ℕ)
text_of msg.AskFork = None
text_of msg.Fork = None
text_of (msg.AskBottle r) = None
text_of (msg.Bottle r x) = text_as x

-- the text that a message carries, if it carries one
abbrev pub text_carried : Option Msg → Option (List ℕ)
text_carried None = None
text_carried (Some m) = text_of m

-- it stands at that place
abbrev pub StandsAt : List (List ℕ) → ℕ → Option Msg → Type 0
StandsAt texts place m = IfSome (text_carried m) (λ text. slice_get texts place ≡ Some text)
