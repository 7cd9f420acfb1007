-- The words of replies.
use Rattle.std.specs.Prelude.{ℕ, ◌<◌, ◌^◌, List, [], ◌∷◌, Option, Some, None, if◌then◌else◌, codes}
use Rattle.std.specs.Str.{bytes_eq}
use Rattle.std.specs.Fmt.{decimal}
use Rattle.office_journal.specs.declared.reply.Reply.{Reply}
use Rattle.office_journal.specs.declared.reply.Reply.TheVariants as reply
use Rattle.journal_texts.specs.wording.Digits.{frame_digits, IsFrameWord}
use Rattle.journal_texts.specs.declared.wording.digits.FrameWord.TheVariants.{Spelled}

-- a frame is told by its digits, and before them by its number among those that were sent, where one is given
abbrev pub frame_words : Option ℕ → List ℕ → List (List ℕ)
frame_words None digits = codes "frame" ∷ digits ∷ []
frame_words (Some k) digits = codes "frame" ∷ decimal k ∷ digits ∷ []

-- a reply's words
abbrev pub reply_words : Option ℕ → Reply → List (List ℕ)
reply_words k (reply.Ticket t) = codes "ticket" ∷ decimal t ∷ []
reply_words k reply.Done = codes "done" ∷ []
reply_words k (reply.Frame f) = frame_words k (frame_digits f)
reply_words k reply.Acked = codes "acked" ∷ []
reply_words k reply.Taken = codes "taken" ∷ []
reply_words k reply.Repeat = codes "repeat" ∷ []
reply_words k reply.Kept = codes "kept" ∷ []
reply_words k reply.Early = codes "early" ∷ []

-- what a word says of a frame that came
abbrev pub arrival_named : List ℕ → Option Reply
arrival_named name =
    if bytes_eq name (codes "acked") then Some reply.Acked
    else (if bytes_eq name (codes "taken") then Some reply.Taken
    else (if bytes_eq name (codes "repeat") then Some reply.Repeat
    else (if bytes_eq name (codes "kept") then Some reply.Kept
    else (if bytes_eq name (codes "early") then Some reply.Early else None))))

-- a reply's ticket is in its range, and the digits of its frame spell that frame
abbrev pub ReplyReadsBack : Reply → Type 0
ReplyReadsBack (reply.Ticket t) = t < 2 ^ 32
ReplyReadsBack reply.Done = Unit {0}
ReplyReadsBack (reply.Frame f) = IsFrameWord (frame_digits f) (Spelled f)
ReplyReadsBack reply.Acked = Unit {0}
ReplyReadsBack reply.Taken = Unit {0}
ReplyReadsBack reply.Repeat = Unit {0}
ReplyReadsBack reply.Kept = Unit {0}
ReplyReadsBack reply.Early = Unit {0}
