-- What the code holds between reading a header and making the frame.
use Rattle.std.specs.Prelude.{◌≡◌, ℕ, ◌<◌, ◌≤◌, ◌^◌, Bool, false, IsTrue, not, ◌&&◌, ◌==◌, nat_lt, nat_le, if◌then◌else◌, List, [], ◌∷◌, length, take, drop, Option, Some, None}
use Rattle.std.specs.List.{list_all}
use Rattle.bottle_values.specs.Bytes.{bytes_of}
use Rattle.bottle_values.specs.Texts.{is_text, is_text_byte, longest_text}
use Rattle.bottle_values.specs.declared.Value.{Value}
use Rattle.bottle_values.specs.declared.Value.TheVariants as kind
use Rattle.bottle_values.specs.declared.version.Version.{Version}
use Rattle.bottle_values.specs.declared.version.Version.TheVariants.{One, Two}
use Rattle.frame_codec.specs.declared.body.Form.{Form}
use Rattle.frame_codec.specs.declared.body.Form.TheVariants as forms
use Rattle.frame_codec.specs.declared.body.Part.{Part}
use Rattle.frame_codec.specs.declared.body.Part.TheVariants as parts
use Rattle.frame_codec.specs.declared.message.Msg.{Msg}
use Rattle.frame_codec.specs.declared.message.Msg.TheVariants.{AskFork, Fork, AskBottle, Bottle}
use Rattle.frame_codec.specs.declared.header.Kind.{Kind}
use Rattle.frame_codec.specs.declared.header.Kind.TheVariants.{Data, Ack}
use Rattle.frame_codec.specs.declared.header.Header.{Header}
use Rattle.frame_codec.specs.declared.fault.FrameFault.{FrameFault}
use Rattle.frame_codec.specs.declared.fault.FrameFault.TheVariants.{Tag, ValueForm, Length, TextByte}
use Rattle.frame_codec.specs.Frame.{Fields}
use Rattle.frame_codec.specs.Header.{data_kind, ack_kind, header}
use Rattle.frame_codec.specs.Limits.{sequence_space}

abbrev pub code_of : Kind → ℕ
code_of Data = data_kind
code_of Ack = ack_kind

-- what the header says, as a frame whose message is still to come
abbrev pub fields_of : Header → Fields
fields_of h =
    record { version = h.version; run = h.run; from = h.from; to = h.to; number = h.number; count = h.count; msg = None }

-- the frame with that header and message
abbrev pub framed : Header → Msg → Fields
framed h m =
    record { version = h.version; run = h.run; from = h.from; to = h.to; number = h.number; count = h.count; msg = Some m }

-- the value that was found in its bytes; a text stands behind its form and length
abbrev pub value_of : Form → List ℕ → Value
value_of (forms.Number z) bytes = kind.Number z
value_of forms.Text bytes = kind.Text (drop 2 bytes)

-- the message that was found in its bytes; a value stands behind the tag and the record's number
abbrev pub message_of : Part → List ℕ → Msg
message_of parts.AskFork bytes = AskFork
message_of parts.Fork bytes = Fork
message_of (parts.AskBottle bottle) bytes = AskBottle bottle
message_of (parts.Bottle bottle form) bytes = Bottle bottle (value_of form (drop 3 bytes))

-- a number was found, and these are its bytes
abbrev pub IsNumberOf : List ℕ → Form → Type 0
IsNumberOf bytes (forms.Number z) = bytes ≡ bytes_of z
IsNumberOf bytes forms.Text = IsTrue false

-- whether a frame of that kind may have the number
abbrev pub is_numbered_by : Kind → ℕ → Bool
is_numbered_by Data number = nat_lt 0 number && nat_lt number sequence_space
is_numbered_by Ack number = number == 0

-- the bytes begin with this header, and its fields are in range
pub record BeginsWith (bytes : List ℕ) (h : Header) : Type 0 where
  pub whole : 26 ≤ length bytes
  pub spelled : take 26 bytes ≡ header (code_of h.kind) (fields_of h)
  pub run : h.run < 2 ^ 32
  pub from : h.from < 2 ^ 8
  pub to : h.to < 2 ^ 8
  pub number : IsTrue (is_numbered_by h.kind h.number)
  pub count : h.count < sequence_space

-- ---- the first fault of a part of the bytes, which ends where they end

-- of a number's bytes
abbrev pub number_fault : List ℕ → Option FrameFault
number_fault bytes = if length bytes == 8 then None else Some Length

-- of a text's bytes, where it is to have so many
abbrev pub text_fault : ℕ → List ℕ → Option FrameFault
text_fault size bytes =
    if not (nat_le size longest_text) then Some ValueForm else if not (length bytes == size) then Some Length
    else if list_all is_text_byte bytes then None else Some TextByte

-- of a text's bytes, whose length is right
abbrev pub text_byte_fault : List ℕ → Option FrameFault
text_byte_fault bytes = if is_text bytes then None else Some TextByte

-- the fault that bytes can still have where a value was found in them
abbrev pub form_fault : Form → List ℕ → Option FrameFault
form_fault (forms.Number z) bytes = None
form_fault forms.Text bytes = text_byte_fault (drop 2 bytes)

-- where a message was found in them
abbrev pub fault_left : Part → List ℕ → Option FrameFault
fault_left parts.AskFork bytes = None
fault_left parts.Fork bytes = None
fault_left (parts.AskBottle bottle) bytes = None
fault_left (parts.Bottle bottle form) bytes = form_fault form (drop 3 bytes)

-- of what follows the form of a text
abbrev pub sized_fault : List ℕ → Option FrameFault
sized_fault [] = Some Length
sized_fault (size ∷ bytes) = text_fault size bytes

-- of a value's
abbrev pub value_fault : Version → List ℕ → Option FrameFault
value_fault One bytes = number_fault bytes
value_fault Two [] = Some Length
value_fault Two (form ∷ rest) = if form == 1 then number_fault rest else if form == 2 then sized_fault rest else Some ValueForm

-- of what follows the tag of a bottle
abbrev pub bottle_fault : Version → List ℕ → Option FrameFault
bottle_fault version [] = Some Length
bottle_fault version (high ∷ []) = Some Length
bottle_fault version (high ∷ low ∷ value) = value_fault version value

-- of what follows a data frame's header
abbrev pub message_fault : Version → List ℕ → Option FrameFault
message_fault version [] = Some Length
message_fault version (tag ∷ rest) =
    if not (nat_le 1 tag && nat_le tag 4) then Some Tag else if tag == 4 then bottle_fault version rest
    else if length rest == (if tag == 3 then 2 else 0) then None else Some Length
